-- The numbers of a conflict list are those of groups of the book, and it goes by these groups.
use mathlib.Core.Path.{◌≡◌, sym, ◌∙◌}
use mathlib.Core.List.{List, [], ◌∷◌}
use Prim.Native.Nat.{ℕ, ◌≤◌}
use native.Mathlib.Omega.{arith}
use lib.ListN.{length}
use Rattle.spec_orders.specs.declared.Layout.TheVariants.{Ring}
use Rattle.spec_orders.specs.Lists.{All, numbers_from}
use Rattle.spec_orders.specs.Conflict.{possible?, book_conflicts, numbered}
use Rattle.spec_orders.proofs.Conflicts.{sublist_all, list_same, numbered_all, book_demand_3}
use Rattle.spec_calls.specs.Tables.{lent_book}
use Rattle.spec_orders.specs.CircularOrder.{Restriction}
use Rattle.spec_orders.proofs.Members.{in_all}
use Rattle.spec_orders.proofs.Numbers.{in_range}
use Rattle.spec_calls.specs.Book.{groups}
use Rattle.spec_calls.specs.Calls.{group_numbered, conflicts_of}
use Rattle.conflict_rule.proofs.Places.{groups_numbered}

pub conflicts_all : (n : ℕ) (book : List ℕ) (count : ℕ) (new : Restriction) → All (λ j. (1 ≤ j) × (j ≤ count)) (conflicts_of Ring n (lent_book book count) new)
unfolding conflicts_of
conflicts_all n book count new =
    sublist_all (λ j. (1 ≤ j) × (j ≤ count)) (book_demand_3 Ring n (group_numbered book) count new).numbers
    (in_all (λ j. (1 ≤ j) × (j ≤ count)) (numbers_from 1 count) (λ j i. let r = in_range 1 count j i in (r.0, omega (arith, r.1))))

pub conflicts_listed : (n : ℕ) (book : List ℕ) (Gs : List Restriction) (new : Restriction) → groups (lent_book book (length Gs)) ≡ Gs
    → conflicts_of Ring n (lent_book book (length Gs)) new ≡ book_conflicts Ring n (numbered Gs) (length Gs) new
unfolding conflicts_of
conflicts_listed n book Gs new h =
    list_same (possible? Ring n) (group_numbered book) (numbered Gs) (new ∷ []) (numbers_from 1 (length Gs))
    (sym (groups_numbered book (length Gs)) ∙ h ∙ sym (numbered_all Gs))
