-- The tokens and the table of a tree in form.
use mathlib.Core.Path.{◌≡◌, sym, ap, ◌∙◌, subst}
use mathlib.Core.List.{List, ◌++◌}
use Prim.Native.Nat.{ℕ, ◌-◌, ◌*◌, ◌≤◌}
use native.Mathlib.Omega.{arith}
use lib.ListN.{length, take, drop, replicate, length-replicate}
use lib.Seq.{drop-append_seam}
use borrow.Rule.Slice.PartMut.{put_mid}
use Rattle.spec_orders.specs.Tree.{Forest}
use Rattle.spec_orders.specs.Form.{nodes, InForm}
use Rattle.spec_orders.proofs.ListLaws.{part_to_end}
use Rattle.spec_calls.specs.Tables.{over}
use Rattle.spec_calls.specs.NodeTable.{rows, table_of}
use Rattle.spec_calls.proofs.NodeTables.{Narrow, form_narrow, form_few, rows-length, table_length}
use Rattle.tree_tokens.specs.Tokens.{tree, plain, Wrote, flat, TreeTokens}
use Rattle.tree_tokens.proofs.Counts.{form_size}
use Rattle.tree_tokens.proofs.Sequences.{tree_plain, flat_injective}
use Rattle.tree_tokens.proofs.Writes.{wrote_then}
use Rattle.table_row.specs.Rows.{records_from, Rowed, Blank, RowsThere}
use Rattle.table_row.proofs.Writing.{blank_left, wrote_after, wrote_over}
use Rattle.table_store.proofs.Standing.{left_there}

-- The tree that tokens in form show.
pub formed_is : {n : ℕ} {l : List ℕ} (f : TreeTokens n l) (t : Forest) → l ≡ flat t → InForm n t
formed_is {n} f t e = subst (InForm n) (flat_injective f.shown t (sym f.is ∙ e)) f.in_form

-- Its rows fit into a table.
pub formed_rows : {n : ℕ} {l : List ℕ} (f : TreeTokens n l) (t : Forest) → l ≡ flat t → length (rows 0 t) ≡ 257 * nodes t
formed_rows {n} f t e = rows-length 0 t (form_narrow n t (formed_is f t e) f.few_leaves)

pub formed_few : {n : ℕ} {l : List ℕ} (f : TreeTokens n l) (t : Forest) → l ≡ flat t → nodes t ≤ 255
formed_few {n} f t e = form_few n t (formed_is f t e) f.few_leaves

pub formed_rowed : {n : ℕ} {l records : List ℕ} (f : TreeTokens n l) → records ≡ records_from 0 l → Rowed l records
formed_rowed {n} f b =
    let t = f.shown in
    let back : t ≡ tree (plain t) = sym (tree_plain t) in
    let few = subst (λ (u : Forest). nodes u ≤ 255) back (formed_few f t f.is) in
    record {
      seq = plain t;
      is = f.is;
      beside = b;
      last = omega arith;
      narrow = subst Narrow back (form_narrow n t f.in_form f.few_leaves);
    }

-- It has at most 510 tokens.
pub formed_short : {n : ℕ} {l : List ℕ} → TreeTokens n l → length l ≤ 510
formed_short {n} f = omega (arith, ap length f.is, form_size n f.shown f.in_form f.few_leaves)

-- Zeros, and a text over them.
pub blank_zeros : (room : ℕ) {old new : List ℕ} {m : ℕ} → Wrote (replicate room 0) old new m → Blank room new
blank_zeros room {old} w = record { more = drop (length (replicate {A = ℕ} room 0)) old; is = w.text }

pub wrote_table : (t : Forest) {old new : List ℕ} {k : ℕ} → length (rows 0 t) ≤ 65792 → Blank 65792 old → Wrote (rows 0 t) old new k
    → new ≡ over (table_of t) old
unfolding table_of
wrote_table t h b w = (wrote_over h (blank_left h b) w).text

-- What stands after the zeros stands after the table.
pub over_zeros : {n m : ℕ} {l old mid new : List ℕ} (f : TreeTokens n l) (t : Forest) → l ≡ flat t → Wrote (replicate 65792 0) old mid m
    → new ≡ over (table_of t) mid → new ≡ over (table_of t) old
over_zeros {n} {old = old} {mid} f t e z w =
    let long : length (table_of t) ≡ length (replicate {A = ℕ} 65792 0) = table_length n t (formed_is f t e) f.few_leaves ∙ sym (length-replicate {A = ℕ} 65792 0) in
    let same : drop (length (table_of t)) mid ≡ drop (length (table_of t)) old =
    rw (long, z.text) (drop-append_seam (replicate 65792 0) (drop (length (replicate {A = ℕ} 65792 0)) old)) in
    w ∙ ap (λ (x : List ℕ). table_of t ++ x) same

-- The rows of a tree, then zeros.
pub plain_rows : (t : Forest) {old new : List ℕ} {k : ℕ} → Wrote (rows 0 (tree (plain t))) old new k → Wrote (rows 0 t) old new k
plain_rows t {old} {new} {k} w = subst (λ (u : Forest). Wrote (rows 0 u) old new k) (tree_plain t) w

pub rows-then_zeros : (t : Forest) {old mid part : List ℕ} {k j : ℕ} → Wrote (rows 0 t) old mid k
    → Wrote (replicate (65792 - k) 0) (take (length mid - k) (drop k mid)) part j → put_mid k (length mid - k) mid part ≡ over (table_of t) old
unfolding table_of
rows-then_zeros t {old} w v = (wrote_then w v).text ∙ ap (λ (x : ℕ). over (rows 0 t ++ replicate (65792 - x) 0) old) w.many

-- Behind the rows of a new tree in form stand those that are left of the old ones.
module _ {n k : ℕ} {l old mid : List ℕ} (f : TreeTokens n l) (w : Wrote (rows 0 f.shown) old mid k) where
  pub new_rows : (k ≡ 257 * nodes f.shown) × (nodes f.shown ≤ 255)
  new_rows = (w.many ∙ formed_rows f f.shown f.is, formed_few f f.shown f.is)

  pub old_rows : RowsThere 256 old → (c : ℕ) × (65792 - k ≡ 257 * c) × (RowsThere c (take (length mid - k) (drop k mid)))
  old_rows s =
      let c = 256 - nodes f.shown in (
        c,
        omega (arith, new_rows),
        subst (RowsThere c) (sym (part_to_end mid k ∙ wrote_after w ∙ ap (λ (x : ℕ). drop x old) new_rows.0)) (left_there (nodes f.shown) (omega (arith, new_rows)) s),
      )
