-- Writing the rows of the nodes, one after the other.
use mathlib.Core.Option.{some}
use mathlib.Core.Path.{◌≡◌, sym, ap, subst, ◌∙◌}
use mathlib.Core.List.{List, ◌++◌}
use Prim.Native.Nat.{ℕ, ◌+◌, ◌-◌, ◌*◌, ◌≤◌, ◌<◌}
use native.Mathlib.Omega.{arith}
use lib.ListN.{length, take, drop, length-drop}
use borrow.Rule.Slice.PartMut.{put_mid}
use Rattle.spec_orders.proofs.ListLaws.{part_to_end}
use Rattle.spec_calls.specs.NodeTable.{rows}
use Rattle.spec_calls.proofs.NodeTables.{Narrow, rows-length}
use Rattle.tree_tokens.specs.Tokens.{Judged, tree, encode, Wrote}
use Rattle.tree_tokens.specs.declared.ItemShape.{ItemShape}
use Rattle.tree_tokens.specs.declared.ItemShape.TheVariants.{Leaf}
use Rattle.tree_tokens.specs.Views.{shape_of, items_of}
use Rattle.tree_tokens.proofs.Laws.{shape_read}
use Rattle.tree_tokens.proofs.Steps.{Left, Here, here, opened}
use Rattle.tree_tokens.proofs.Writes.{Written, written_same, written_then, written_length}
use Rattle.table_row.specs.Rows.{Placed, Rowed, RowThere, RowsThere}
use Rattle.table_row.proofs.Writing.{wrote_after, there_long}
use Rattle.table_row.proofs.Rows.{rows_leaf, here_row, rows-first, nodes_node, nodes-items, narrow_open, narrow_items}
use Rattle.table_row.proofs.Records.{before, before_leaf, before_node, before_here, records_length, records_items}
use Rattle.table_store.proofs.Standing.{first_there, left_there}

-- Of the rows of j, whose tokens are l, k numbers were written; those of h, at index i, are left.
pub record Rowing (l : List ℕ) (i : ℕ) (old new : List ℕ) (k : ℕ) (j h : Judged) : Type 0 where
  pub narrow : Narrow (tree j) → Narrow (tree h)
  pub written : Written (rows 0 (tree j)) (rows (before l i) (tree h)) old new k

pub rowing_leaf : {l : List ℕ} {i k : ℕ} {old new : List ℕ} {j h : Judged} → Here l i h → i < length l → shape_of h ≡ some Leaf
    → Rowing l i old new k j h → Rowing l (i + 1) old new k j (opened h)
rowing_leaf {l} {i} {h = h} p n s g =
    let same : rows (before l i) (tree h) ≡ rows (before l (i + 1)) (tree (opened h)) =
    rows_leaf (before l i) h s ∙ ap (λ (m : ℕ). rows m (tree (opened h))) (sym (before_leaf p n s)) in
    record {
      narrow = λ w. narrow_open h (g.narrow w);
      written = written_same (rows (before l (i + 1)) (tree (opened h))) same g.written;
    }

pub rowing_node : {l : List ℕ} {i k m : ℕ} {old new part : List ℕ} {j h : Judged} (s : ItemShape) → Here l i h → i < length l → some s ≡ shape_of h → (s ≡ Leaf → ⊥)
    → Wrote (here_row s (before l i) h) (take (length new - k) (drop k new)) part m → Rowing l i old new k j h
    → Rowing l (i + 1) old (put_mid k (length new - k) new part) (k + m) j (opened h)
rowing_node {l} {i} {h = h} s p n e x w g =
    let first : rows (before l i) (tree h) ≡ here_row s (before l i) h ++ rows (before l (i + 1)) (tree (opened h)) =
    rows-first (before l i) s h e x
    ∙ ap (λ (m : ℕ). here_row s (before l i) h ++ rows m (tree (opened h))) (sym (before_node p n (λ y. x (shape_read e y)))) in
    record {
      narrow = λ v. narrow_open h (g.narrow v);
      written = written_then (rows (before l (i + 1)) (tree (opened h))) first w g.written;
    }

-- There is a record beside each token.
pub rowed_long : {toks records : List ℕ} → Rowed toks records → length records ≡ length toks
rowed_long {toks} p = ap length p.beside ∙ records_length 0 toks

-- A node is next: a row stands there, and its items have their places.
module _ {toks records : List ℕ} {i k : ℕ} {old new : List ℕ} {h : Judged} (p : Rowed toks records) (q : Here toks i h) (s : shape_of h ≡ some Leaf → ⊥)
    (g : Rowing toks i old new k p.seq h) where
  next_at : (k ≡ 257 * before toks i) × (before toks i < 256)
  next_at =
      omega (
        arith,
        p.last,
        written_length g.written,
        rows-length 0 (tree p.seq) p.narrow,
        rows-length (before toks i) (tree h) (g.narrow p.narrow),
        before_here p.seq p.is q,
        nodes_node h q.some s,
      )

  next_row : RowsThere 256 old → RowThere (drop k old)
  next_row t =
      subst (λ (x : ℕ). RowThere (drop x old)) (sym next_at.0)
      (first_there {c = 256 - before toks i} (omega (arith, next_at)) (left_there (before toks i) (omega (arith, next_at)) t))

  pub next-room : RowsThere 256 old → k + 257 ≤ length old
  next-room t = omega (arith, there_long (next_row t), length-drop k old)

  pub next-over : RowsThere 256 old → RowThere (take (length new - k) (drop k new))
  next-over t = subst RowThere (sym (part_to_end new k ∙ wrote_after g.written.wrote)) (next_row t)

  pub next-items : {inner : List ℕ} → i < length toks → inner ≡ encode (items_of h)
      → Placed inner (take (i + 1 + length inner - (i + 1)) (drop (i + 1) records)) 255
  next-items n e = record {
    seq = items_of h;
    is = e;
    start = before toks i + 1;
    beside = records_items p.beside q n s e;
    last = omega (arith, p.last, before_here p.seq p.is q, nodes_node h q.some s, nodes-items h);
    few = narrow_items h (g.narrow p.narrow);
  }

-- Room for the row of a node that is next, and for the records of its items.
pub node_room : {toks records old new : List ℕ} {i k : ℕ} (inner : List ℕ) (p : Rowed toks records) → RowsThere 256 old → Left toks i (Rowing toks i old new k)
    → i < length toks → ((h : Judged) → take (length toks - i) (drop i toks) ≡ encode h → shape_of h ≡ some Leaf → ⊥) → i + 1 + length inner ≤ length toks
    → (k + 257 ≤ length old) × (i + 1 + length inner ≤ length records)
node_room inner p there left n s few =
    let q = here left n p.seq p.is in
    (next-room p q.1 (s q.0 q.1.part) q.2 there, omega (arith, rowed_long p, few))
