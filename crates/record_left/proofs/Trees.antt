-- The table of a tree in form is the rows of 256 records.
use mathlib.Core.Path.{◌≡◌, refl, sym, ◌∙◌, ap, ap₂}
use mathlib.Core.List.{List, [], ◌∷◌, ◌++◌, append-nil}
use Prim.Native.Nat.{ℕ, suc, ◌+◌, ◌-◌, ◌*◌, ◌<◌, ◌≤◌}
use native.Mathlib.Omega.{arith}
use lib.ListN.{length, drop, replicate, length-append, drop_of_length-le}
use Rattle.spec_orders.specs.Tree.{Kind, P, C, Forest, nil, leaf, node}
use Rattle.spec_orders.specs.Form.{nodes, InForm}
use Rattle.spec_calls.specs.Tables.{over, padded}
use Rattle.spec_calls.specs.NodeTable.{kind_number, entries, rows, table_of}
use Rattle.spec_calls.proofs.NodeTables.{Narrow, entries-length, padded-length, rows-length, form_narrow, form_few, table_length}
use Rattle.record_copy.specs.declared.Node.{Node}
use Rattle.record_copy.specs.Rows.{rows_of, zero_rows, node_rows, with_rows, Sound}
use Rattle.record_copy.proofs.Laws.{Sound-append, rows_of-append}
use Rattle.record_copy.proofs.Back.{zero_records, length_zero_records, sound_zero_records, rows_zero_records, rows_back}

abbrev node_record : Kind → List ℕ → Node
node_record k es = record { kind = kind_number k; count = length es; items = padded 255 es }

-- The records of the nodes of a sequence, from record r on.
abbrev records : ℕ → Forest → List Node
records r nil = []
records r (leaf b f) = records r f
records r (node k i f) = node_record k (entries (suc r) i) ∷ (records (suc r) i ++ records (suc r + nodes i) f)

rows_are : (r : ℕ) (f : Forest) → rows r f ≡ rows_of (records r f)
unfolding rows_of
rows_are r nil = refl
rows_are r (leaf b f) = rows_are r f
rows_are r (node k i f) =
    ap (λ (l : List ℕ). (kind_number k ∷ length (entries (suc r) i) ∷ padded 255 (entries (suc r) i)) ++ l)
    (ap₂ (λ (a b : List ℕ). a ++ b) (rows_are (suc r) i) (rows_are (suc r + nodes i) f) ∙ sym (rows_of-append (records (suc r) i) (records (suc r + nodes i) f)))

records_many : (r : ℕ) (f : Forest) → length (records r f) ≡ nodes f
records_many r nil = refl
records_many r (leaf b f) = records_many r f
records_many r (node k i f) =
    omega (arith, length-append (records (suc r) i) (records (suc r + nodes i) f), records_many (suc r) i, records_many (suc r + nodes i) f)

kind_small : (k : Kind) → kind_number k < 256
kind_small P = omega arith
kind_small C = omega arith

records_sound : (r : ℕ) (f : Forest) → Narrow f → Sound (records r f)
unfolding Sound
records_sound r nil h = tt
records_sound r (leaf b f) h = records_sound r f h
records_sound r (node k i f) h =
    let e = entries-length (suc r) i in
    let w = h.0.0 in (
      (kind_small k, padded-length 255 (entries (suc r) i) (omega arith)),
      Sound-append (records (suc r) i) (records (suc r + nodes i) f) (records_sound (suc r) i h.0.1) (records_sound (suc r + nodes i) f h.1),
    )

zeros_are : (k : ℕ) → replicate k 0 ≡ zero_rows k
unfolding zero_rows
zeros_are k = refl

module _ (n : ℕ) (t : Forest) (form : InForm n t) (few : n ≤ 256) where
  abbrev table_records : List Node
  table_records = records 0 t ++ zero_records (256 - nodes t)

  table_rows_are : table_of t ≡ rows_of table_records
  unfolding table_of
  table_rows_are =
      let l = rows-length 0 t (form_narrow n t form few) in
      let m = form_few n t form few in
      let e : 65792 - length (rows 0 t) ≡ (256 - nodes t) * 257 = omega arith in
      ap (λ (k : ℕ). rows 0 t ++ replicate k 0) e
      ∙ ap₂ (λ (a b : List ℕ). a ++ b) (rows_are 0 t) (zeros_are ((256 - nodes t) * 257) ∙ sym (rows_zero_records (256 - nodes t)))
      ∙ sym (rows_of-append (records 0 t) (zero_records (256 - nodes t)))

  -- A tree's table that is stored in the records comes back from them.
  pub table_back : (ns : List Node) (old fs : List ℕ) → 256 ≤ length ns → length old ≡ 65792 → fs ≡ over (table_of t) old → node_rows (with_rows fs ns) ≡ fs
  table_back ns old fs many long e =
      let k = table_length n t form few in
      let none : drop (length (table_of t)) old ≡ [] = drop_of_length-le old {i = length (table_of t)} (omega arith) in
      let is : fs ≡ rows_of table_records = e ∙ ap (λ (l : List ℕ). table_of t ++ l) none ∙ append-nil (table_of t) ∙ table_rows_are in
      let m = form_few n t form few in
      let full : length table_records ≡ 256 =
      omega (arith, length-append (records 0 t) (zero_records (256 - nodes t)), records_many 0 t, length_zero_records (256 - nodes t)) in
      let sound = Sound-append (records 0 t) (zero_records (256 - nodes t)) (records_sound 0 t (form_narrow n t form few)) (sound_zero_records (256 - nodes t)) in
      ap (λ (l : List ℕ). node_rows (with_rows l ns)) is ∙ rows_back ns table_records many full sound ∙ sym is
