-- Writing the places of the items, one after the other.
use mathlib.Core.Path.{◌≡◌, refl, sym, ap, ◌∙◌}
use mathlib.Core.List.{List, ◌∷◌}
use Prim.Native.Nat.{ℕ, suc, ◌+◌, ◌-◌, ◌/◌, ◌%◌, ◌≤◌, ◌<◌}
use native.Mathlib.Omega.{arith}
use lib.ListN.{length, take, drop, get_or, set, length-drop}
use lib.Seq.{drop-cons}
use Rattle.spec_orders.proofs.ListLaws.{part_to_end}
use Rattle.spec_orders.specs.Form.{nodes}
use Rattle.spec_calls.specs.NodeTable.{entries}
use Rattle.spec_calls.proofs.NodeTables.{entries-length}
use Rattle.tree_tokens.specs.Tokens.{Judged, tree, encode, Wrote}
use Rattle.tree_tokens.specs.Views.{first_of, rest_of}
use Rattle.tree_tokens.proofs.Laws.{sizes, size_leaf, size_node}
use Rattle.tree_tokens.proofs.Counts.{items_more}
use Rattle.tree_tokens.proofs.Steps.{Left, Here, here}
use Rattle.table_row.specs.Rows.{records_from, Placed}
use Rattle.tree_tokens.proofs.Writes.{Written, written_one, written_length}
use Rattle.table_row.proofs.Rows.{leaf_here, node_here, leaf_number_here, entries_leaf, entries_node}
use Rattle.table_row.proofs.Records.{before, before_here, before_item, records_at, records_length}

-- Of the places of j, whose tokens are l, k were written; those of h, at index i, are left.
pub record Entered (r : ℕ) (l : List ℕ) (i : ℕ) (old new : List ℕ) (k : ℕ) (j h : Judged) : Type 0 where
  pub written : Written (entries r (tree j)) (entries (r + before l i) (tree h)) old new k

-- The place of the item at index i: its leaf, or 256 and the record of its node.
abbrev pub Place : ℕ → List ℕ → ℕ → ℕ → Judged → Type 0
Place r l i v h = entries (r + before l i) (tree h) ≡ v ∷ entries (r + before l i + nodes (tree (first_of h))) (tree (rest_of h))

pub leaf_place : {l : List ℕ} {i v : ℕ} {h : Judged} (r : ℕ) → Here l i h → get_or l i 0 / 8 % 2 ≡ 0 → v ≡ get_or l i 0 / 16 → Place r l i v h
leaf_place {l} {i} {v} {h} r p t e = rw e (entries_leaf (r + before l i) h (leaf_here p t) ∙ rw (leaf_number_here p t))

pub node_place : {l records : List ℕ} {i v : ℕ} {h : Judged} (r : ℕ) → Here l i h → i < length l → (get_or l i 0 / 8 % 2 ≡ 0 → ⊥)
    → records ≡ records_from r l → v ≡ 256 + get_or records i 0 → Place r l i v h
node_place {l} {i = i} {h = h} r p n t b e = rw (e, b, records_at r l i n) (entries_node (r + before l i) h p.some (node_here p t))

pub entered_item : {l : List ℕ} {i r k m : ℕ} {old new : List ℕ} {j h : Judged} (v : ℕ) → Here l i h → k < length old
    → m ≡ length (encode (first_of h)) → Place r l i v h → Entered r l i old new k j h
    → Entered r l (i + m) old (set new k v) (k + 1) j (rest_of h)
entered_item {l} {i} {r} {m = m} {h = h} v p room e first g =
    let next : r + before l i + nodes (tree (first_of h)) ≡ r + before l (i + m) = omega (arith, before_item p e) in
    record { written = written_one v (entries (r + before l (i + m)) (tree (rest_of h))) room (first ∙ rw next) g.written }

-- How many tokens the item at index i takes.
pub leaf_long : {l : List ℕ} {i : ℕ} {h : Judged} → Here l i h → get_or l i 0 / 8 % 2 ≡ 0 → 1 ≡ length (encode (first_of h))
leaf_long {h = h} p t = size_leaf h {l = encode h} refl p.some (rw p.head t)

pub node_long : (l : List ℕ) (i : ℕ) (h : Judged) → i < length l → (get_or l i 0 / 8 % 2 ≡ 0 → ⊥) → take (length l - i) (drop i l) ≡ encode h
    → get_or l i 0 / 32 + 1 ≡ length (encode (first_of h))
node_long l i h n t e =
    let whole : encode h ≡ get_or l i 0 ∷ drop (suc i) l = sym e ∙ part_to_end l i ∙ drop-cons l i 0 n in
    let head : get_or (encode h) 0 0 ≡ get_or l i 0 = ap (λ (x : List ℕ). get_or x 0 0) whole in
    omega (arith, head, size_node h {l = encode h} refl (omega (arith, ap length whole)) (λ z. t (rw head at z)))

pub node_end : {toks records : List ℕ} {room i : ℕ} {Q : Judged → Judged → Type 0} (p : Placed toks records room) → Left toks i Q → i < length toks
    → (get_or toks i 0 / 8 % 2 ≡ 0 → ⊥) → i + (get_or toks i 0 / 32 + 1) ≤ length toks
node_end {toks} {i = i} p left n t =
    let q = here left n p.seq p.is in
    omega (
      arith,
      node_long toks i q.0 n t q.1.part,
      sizes q.0 q.1.part,
      ap length (part_to_end toks i) ∙ length-drop i toks,
    )

-- There is a record beside each token, room for the place, and a number for it.
pub placed_long : {toks records : List ℕ} {room : ℕ} → Placed toks records room → length records ≡ length toks
placed_long {toks} p = ap length p.beside ∙ records_length p.start toks

pub entered_room : {toks records : List ℕ} {room i k : ℕ} {old new : List ℕ} (p : Placed toks records room)
    → Left toks i (Entered p.start toks i old new k) → i < length toks → (k < room) × (get_or records i 0 ≤ 256)
entered_room {toks} {i = i} p left n =
    let r = p.start in
    let q = here left n p.seq p.is in (
      omega (
        arith,
        p.few,
        items_more q.0 q.1.some,
        written_length q.2.written,
        entries-length r (tree p.seq),
        entries-length (r + before toks i) (tree q.0),
      ),
      rw p.beside (omega (arith, p.last, records_at r toks i n, before_here p.seq p.is q.1)),
    )

-- A row has room for the places.
pub placed_few : {toks records old new : List ℕ} {m : ℕ} (p : Placed toks records 255)
    → ((r : ℕ) (j : Judged) → records ≡ records_from r toks → toks ≡ encode j → Wrote (entries r (tree j)) old new m) → m ≤ 255
placed_few p w = omega (arith, (w p.start p.seq p.beside p.is).many, entries-length p.start (tree p.seq), p.few)
