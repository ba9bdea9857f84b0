-- The rows that stand in a table.
use mathlib.Core.Path.{◌≡◌, refl, sym, ap, subst, ◌∙◌}
use mathlib.Core.List.{List, [], ◌++◌, append_assoc}
use Prim.Native.Nat.{ℕ, zero, suc, ◌+◌, ◌-◌, ◌*◌, ◌≤◌, ◌<◌}
use native.Mathlib.Omega.{arith}
use lib.ListN.{length, drop, replicate, take-append-drop}
use lib.Seq.{drop-drop}
use Rattle.spec_orders.specs.Tree.{Forest, nil, leaf, node}
use Rattle.spec_orders.specs.Form.{nodes}
use Rattle.spec_orders.specs.TreeText.{Forked}
use Rattle.spec_orders.proofs.Forms.{form_forked}
use Rattle.spec_calls.specs.NodeTable.{kind_number, entries, rows, Holds}
use Rattle.spec_calls.proofs.NodeTables.{Narrow, entries-length, rows-length, form_narrow, form_few, table_rows}
use Rattle.table_row.specs.Rows.{Blank, RowThere, RowsThere, blank, used}
use Rattle.table_row.proofs.Writing.{zeros_joined, blank_from, there_after}

-- The first row, and those after it.
pub first_there : {c : ℕ} {l : List ℕ} → 0 < c → RowsThere c l → RowThere l
first_there {c} h (blank b) = record {
  kind = 0;
  places = [];
  narrow = omega arith;
  more = replicate (257 * (c - 1)) 0 ++ b.more;
  is = b.is ∙ sym (zeros_joined 257 (257 * (c - 1)) (257 * c) b.more (omega arith));
}
first_there h (used first n s) = first

pub later_there : {c : ℕ} {l : List ℕ} → RowsThere (suc c) l → RowsThere c (drop 257 l)
later_there {c} {l} (blank b) =
    let e : 257 * suc c - 257 ≡ 257 * c = omega arith in
    blank (subst (λ (k : ℕ). Blank k (drop 257 l)) e (blank_from (omega arith) b))
later_there {c} (used first n s) = subst (RowsThere c) (sym (there_after first)) s

-- Those from record r on.
there_from : (r c : ℕ) {l : List ℕ} → RowsThere (r + c) l → RowsThere c (drop (257 * r) l)
there_from zero c {l} s = let e : 0 + c ≡ c = omega arith in subst (λ (x : ℕ). RowsThere x l) e s
there_from (suc r) c {l} s =
    let e : suc r + c ≡ suc (r + c) = omega arith in
    let n : 257 + 257 * r ≡ 257 * suc r = omega arith in
    subst (RowsThere c) (drop-drop (257 * r) 257 l ∙ ap (λ (x : ℕ). drop x l) n) (there_from r c (later_there (subst (λ (x : ℕ). RowsThere x l) e s)))

pub left_there : {l : List ℕ} (r : ℕ) → r ≤ 256 → RowsThere 256 l → RowsThere (256 - r) (drop (257 * r) l)
left_there {l} r h s =
    let e : 256 ≡ r + (256 - r) = omega arith in
    there_from r (256 - r) (subst (λ (x : ℕ). RowsThere x l) e s)

-- The rows of a sequence before others; a table that holds a tree.
rows_there : (r c : ℕ) (f : Forest) {more : List ℕ} → Narrow f → Forked f → RowsThere c more → RowsThere (nodes f + c) (rows r f ++ more)
rows_there r c nil {more} w h s = let e : c ≡ 0 + c = omega arith in subst (λ (x : ℕ). RowsThere x more) e s
rows_there r c (leaf b f) w h s = rows_there r c f w h s
rows_there r c (node k i f) {more} w h s =
    let es = entries (suc r) i in
    let after : List ℕ = rows (suc r) i ++ (rows (suc r + nodes i) f ++ more) in
    let e : suc (nodes i + (nodes f + c)) ≡ suc (nodes i + nodes f) + c = omega arith in
    let first : RowThere (rows r (node k i f) ++ more) = record { kind = kind_number k; places = es; narrow = omega (arith, w.0.0, entries-length (suc r) i); more = after; is = simp append_assoc } in
    subst (λ (x : ℕ). RowsThere x (rows r (node k i f) ++ more)) e
    (used first (omega (arith, h.0.0, entries-length (suc r) i)) (rows_there (suc r) (nodes f + c) i w.0.1 h.0.1 (rows_there (suc r + nodes i) c f w.1 h.1 s)))

pub held_there : {n : ℕ} {table : List ℕ} (t : Forest) → n ≤ 256 → Holds n table t → RowsThere 256 table
held_there {n} {table} t l h =
    let narrow = form_narrow n t h.in_form l in
    let c = 256 - nodes t in
    let few = form_few n t h.in_form l in
    let e : nodes t + c ≡ 256 = omega arith in
    let spare : 65792 - length (rows 0 t) ≡ 257 * c = omega (arith, rows-length 0 t narrow) in
    let is : table ≡ rows 0 t ++ (replicate (257 * c) 0 ++ drop 65792 table) =
    sym (take-append-drop 65792 table) ∙ ap (λ (x : List ℕ). x ++ drop 65792 table) h.records ∙ table_rows t (drop 65792 table) ∙ rw spare in
    subst (RowsThere 256) (sym is)
    (subst (λ (x : ℕ). RowsThere x (rows 0 t ++ (replicate (257 * c) 0 ++ drop 65792 table))) e
    (rows_there 0 c t narrow (form_forked n t h.in_form) (blank record { more = drop 65792 table; is = refl })))
