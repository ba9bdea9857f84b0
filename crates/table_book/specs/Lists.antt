-- What the check of a group's list says, and the marks that it makes.
use Rattle.std.specs.Prelude.{◌≡◌, List, ◌++◌, ℕ}
use Rattle.std.proofs.Math.Option.{Option, none, some}
use Rattle.spec_orders.specs.Lists.{elem}
use Rattle.spec_orders.specs.CircularOrder.{group_of}
use Rattle.mark_words.specs.Marks.{words_of}
use Rattle.spec_calls.specs.declared.Refusal.{Refusal}
use Rattle.spec_calls.specs.Refusals.{bad_leaf, bad_list}
use Rattle.std.specs.declared.result.Result.{Result}
use Rattle.std.specs.declared.result.Result.TheVariants.{Ok, Err}

abbrev pub refusal_in : Result (Unit {0}) Refusal → Option Refusal
refusal_in (Ok tt) = none
refusal_in (Err r) = some r

-- Checks 5 and 6 on the leaves from place k on, after those of the list `earlier`: they pass, and the four words mark all of them; or why not.
abbrev pub LeavesChecked : ℕ → List ℕ → ℕ → List ℕ → List ℕ → Result (Unit {0}) Refusal → Type 0
LeavesChecked n earlier k list words (Ok tt) = (bad_leaf n earlier k list ≡ none) × (words ≡ words_of 4 (elem (list ++ earlier)))
LeavesChecked n earlier k list words (Err r) = bad_leaf n earlier k list ≡ some r

-- The same of a whole list: it passes, and the four words mark the group that it names; or why not.
abbrev pub ListChecked : ℕ → List ℕ → List ℕ → Result (Unit {0}) Refusal → Type 0
ListChecked n list words (Ok tt) = (bad_list n list ≡ none) × (words ≡ words_of 4 (group_of n list))
ListChecked n list words (Err r) = bad_list n list ≡ some r
