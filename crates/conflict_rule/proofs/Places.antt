-- The groups of a book by their numbers, and parts of lists.
use mathlib.Core.Path.{◌≡◌, refl, sym, ap, ap₂, subst, ◌∙◌}
use mathlib.Core.List.{List, [], ◌∷◌, ◌++◌, map}
use Prim.Native.Nat.{ℕ, zero, suc, ◌+◌, ◌-◌, ◌*◌, ◌≤◌, ◌<◌}
use native.Mathlib.Omega.{arith}
use lib.ListN.{length, take, drop, get_or, take-append-drop}
use lib.Seq.{drop-cons}
use Rattle.spec_orders.specs.Lists.{numbers_from}
use Rattle.spec_orders.specs.CircularOrder.{Restriction}
use Rattle.spec_orders.proofs.ListLaws.{all_left, all_right}
use Rattle.spec_orders.proofs.Members.{in_all}
use Rattle.spec_orders.proofs.Numbers.{numbers_append, in_range}
use Rattle.mark_words.specs.Marks.{marked}
use Rattle.spec_calls.specs.Tables.{lent_book}
use Rattle.spec_calls.specs.Book.{group_words, groups}
use Rattle.table_book.proofs.Laws.{group_part}
use Rattle.spec_calls.specs.Calls.{group_numbered}
use Rattle.conflict_rule.specs.LeavingOut.{InBook}

-- The groups are those with the numbers from 1 on.
groups_from : (book : List ℕ) (a m : ℕ) → map (λ k. marked (group_words book k)) (numbers_from a m) ≡ map (group_numbered book) (numbers_from (suc a) m)
groups_from book a zero = refl
groups_from book a (suc m) =
    let e : a ≡ suc a - 1 = omega arith in
    ap₂ (λ (G : Restriction) (l : List Restriction). G ∷ l) (ap (λ (k : ℕ). marked (group_words book k)) e) (groups_from book (suc a) m)

pub groups_numbered : (book : List ℕ) (count : ℕ) → groups (lent_book book count) ≡ map (group_numbered book) (numbers_from 1 count)
unfolding groups
groups_numbered book count = groups_from book 0 count

-- The part of the book that a function is lent.
pub part_group : (book : List ℕ) (j : ℕ) → marked (take (4 * (j - 1) + 4 - 4 * (j - 1)) (drop (4 * (j - 1)) book)) ≡ group_numbered book j
part_group book j = ap marked (group_part book (j - 1))

-- A part from the start; from a place on; an element and those behind it.
pub part_start : (m : ℕ) (l : List ℕ) → take (m - 0) (drop 0 l) ≡ take m l
part_start m l = let e : m - 0 ≡ m = omega arith in rw e

pub from_before : (l : List ℕ) (k : ℕ) → 0 < k → k ≤ length l → drop (k - 1) l ≡ get_or l (k - 1) 0 ∷ drop k l
from_before l k h g = let e : suc (k - 1) ≡ k = omega arith in subst (λ (i : ℕ). drop (k - 1) l ≡ get_or l (k - 1) 0 ∷ drop i l) e (drop-cons l (k - 1) 0 (omega arith))

-- Numbers of the book: a part of them, one of them, all of them.
pub book_take : (k : ℕ) (l : List ℕ) → InBook l → InBook (take k l)
book_take k l h = all_left (λ j. (1 ≤ j) × (j ≤ 96)) (take k l) (drop k l) (subst InBook (sym (take-append-drop k l)) h)

pub book_drop : (k : ℕ) (l : List ℕ) → InBook l → InBook (drop k l)
book_drop k l h = all_right (λ j. (1 ≤ j) × (j ≤ 96)) (take k l) (drop k l) (subst InBook (sym (take-append-drop k l)) h)

pub book_at : (l : List ℕ) (i : ℕ) → i < length l → InBook l → (1 ≤ get_or l i 0) × (get_or l i 0 ≤ 96)
book_at [] i h a = absurd (omega arith)
book_at (x ∷ l) zero h a = a.0
book_at (x ∷ l) (suc i) h a = book_at l i (omega arith) a.1

pub numbers_in_book : (count : ℕ) → count ≤ 96 → InBook (numbers_from 1 count)
numbers_in_book count h = in_all (λ j. (1 ≤ j) × (j ≤ 96)) (numbers_from 1 count) (λ j i. let r = in_range 1 count j i in (r.0, omega (arith, r.1)))

pub numbers_more : (i : ℕ) → numbers_from 1 (i + 1) ≡ numbers_from 1 i ++ ((i + 1) ∷ [])
numbers_more i = let e : 1 + i ≡ i + 1 = omega arith in numbers_append 1 i 1 ∙ ap (λ (k : ℕ). numbers_from 1 i ++ (k ∷ [])) e
