-- Empty groups in a conflict call's book and as its new group.
use mathlib.Core.Path.{◌≡◌, refl, sym, ◌∙◌, ap, subst}
use mathlib.Core.Logic.{◌↔◌}
use mathlib.Core.List.{List, [], ◌∷◌, ◌++◌, map, append-nil, map-append}
use Prim.Native.Nat.{ℕ, suc, ◌+◌, ◌-◌, ◌≤◌, ◌<◌}
use native.Mathlib.Omega.{arith}
use lib.ListN.{length, get_or, take, drop, replicate, length-append, length-take, get_or-append}
use lib.Seq.{split_at, get_or-take}
use Rattle.spec_orders.specs.CircularOrder.{EmptyGroup}
use Rattle.spec_orders.specs.Layout.{Possible}
use Rattle.spec_orders.specs.declared.Layout.{Layout}
use Rattle.spec_orders.specs.Lists.{numbers_from}
use Rattle.spec_orders.proofs.ListLaws.{none_of_length}
use Rattle.spec_orders.proofs.Numbers.{numbers_append}
use Rattle.spec_orders.proofs.EmptyGroups.{possible_without, never_named, empty_new}
use Rattle.spec_calls.specs.Tables.{Book}
use Rattle.spec_calls.specs.Refusals.{Reply, reply}
use Rattle.spec_calls.specs.Calls.{group_numbered}
use Rattle.spec_calls.specs.Demands.{Named}
use Rattle.spec_demands.specs.Demands.{groups_numbered, all_numbers}

-- No number in the places is that of an empty group.
pub places_never_name : (l : Layout) (n : ℕ) (book : Book) (list : List ℕ) (said : Reply) (conflicts' : List ℕ) → Named l n book list said conflicts'
    → (place : ℕ) → place < said.value → EmptyGroup (group_numbered book.words (get_or conflicts' place 0)) → ⊥
places_never_name l n book list said conflicts' d place m e =
    let ns = d.numbers in
    let many : said.value ≡ length ns = ap (λ (s : Reply). s.value) d.answered in
    let few : length ns ≤ 96 = omega (arith, length-take 96 conflicts', ap length d.places, length-append ns (replicate (96 - length ns) 0)) in
    let here : place < length ns = omega arith in
    let at : get_or conflicts' place 0 ≡ get_or ns place 0 =
    sym (get_or-take 96 conflicts' place 0 (omega arith)) ∙ ap (λ (xs : List ℕ). get_or xs place 0) d.places ∙ get_or-append ns _ 0 place here in
    never_named d.demand (take place ns) (get_or ns place 0) (drop (suc place) ns) (split_at ns place 0 here) (subst (λ (j : ℕ). EmptyGroup (group_numbered book.words j)) at e)

-- One more leaves possible what was possible.
pub possible_more : (l : Layout) (n : ℕ) (book : Book) → EmptyGroup (group_numbered book.words (book.count + 1))
    → Possible l n (groups_numbered book (numbers_from 1 (book.count + 1))) ↔ Possible l n (groups_numbered book (all_numbers book))
possible_more l n book e =
    let c = book.count in
    let last : 1 + c ≡ c + 1 = omega arith in
    let f = group_numbered book.words in
    let all = map f (numbers_from 1 c) in
    let more : map f (numbers_from 1 (c + 1)) ≡ all ++ (f (c + 1) ∷ []) =
    ap (map f) (numbers_append 1 c 1) ∙ map-append f (numbers_from 1 c) ((1 + c) ∷ []) ∙ ap (λ (k : ℕ). all ++ (f k ∷ [])) last in
    let iff = possible_without l n (f (c + 1)) all [] e in
    (λ p. subst (Possible l n) (append-nil all) (iff.0 (subst (Possible l n) more p)), λ p. subst (Possible l n) (sym more) (iff.1 (subst (Possible l n) (sym (append-nil all)) p)))

-- The list of an empty group is empty iff the book is possible.
pub empty_list : (l : Layout) (n : ℕ) (book : Book) (said : Reply) (conflicts' : List ℕ) → Named l n book [] said conflicts'
    → (said ≡ reply 0 0) ↔ Possible l n (groups_numbered book (all_numbers book))
empty_list l n book said conflicts' d =
    let iff = empty_new d.demand (λ x. refl) in
    (λ e. iff.0 (none_of_length d.numbers (ap (λ (s : Reply). s.value) (sym d.answered ∙ e))), λ p. d.answered ∙ ap (λ (ns : List ℕ). reply 0 (length ns)) (iff.1 p))
