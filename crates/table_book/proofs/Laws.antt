-- The groups of a book one after another, a group's four words as a part of the book, and words without a mark.
use mathlib.Core.Path.{◌≡◌, refl, sym, ◌∙◌}
use mathlib.Core.Logic.Iff
use mathlib.Core.Bool.{Bool, true, false, ◌&&◌, true≢false}
use mathlib.Core.List.{List, [], ◌∷◌, ◌++◌}
use Prim.Native.Nat.{ℕ, zero, suc, ◌+◌, ◌-◌, ◌*◌, ◌^◌, ◌≤◌, ◌<◌}
use lib.Pow.{pow_pos}
use native.Mathlib.Omega.{arith}
use native.Mathlib.Numerals.{add-one}
use native.Mathlib.Decide.{ℕ_discrete}
use borrow.Author.Tests.{eq-eqb, eqb-true, ltb-true, ltb-false, leb-true}
use lib.Dec.{eqb, ltb, leb}
use borrow.Rule.Slice.PartMut.{put_mid}
use lib.ListN.{length, get_or, take, drop, replicate, length-take, length-drop, length-replicate, get_or-eq_default}
use lib.Seq.{get_or-take, get_or-drop, drop-drop}
use Rattle.spec_orders.specs.Lists.{numbers_from, all_of}
use Rattle.spec_orders.specs.CircularOrder.{Restriction}
use Rattle.mark_words.specs.Marks.{words_of, no_mark?, no_leaf}
use Rattle.mark_words.proofs.Words.{Words, no_words}
use Rattle.mark_sets.proofs.Steps.{empty_all, empty_not}
use Rattle.spec_calls.specs.Tables.{Book, over}
use Rattle.spec_calls.specs.Book.{group_words, group_in_form?, book_in_form?, booked, emptied}
use Rattle.table_book.specs.Groups.{groups_in_form?}
use Rattle.spec_orders.proofs.Tests.{both, false_if}

pub groups_done : (n : ℕ) (book : Book) (k : ℕ) → book.count ≤ k → groups_in_form? n book k ≡ true
unfolding groups_in_form?
groups_done n book k h = let e : book.count - k ≡ 0 = omega arith in rw e

pub groups_more : (n : ℕ) (book : Book) (k : ℕ) → k < book.count
    → groups_in_form? n book k ≡ (group_in_form? n (group_words book.words k) && groups_in_form? n book (k + 1))
unfolding groups_in_form?
groups_more n book k h = let e : book.count - k ≡ suc (book.count - (k + 1)) = omega arith in rw (e, add-one)

-- The part of the book that a function is lent.
pub group_part : (book : List ℕ) (k : ℕ) → take (4 * k + 4 - 4 * k) (drop (4 * k) book) ≡ group_words book k
group_part book k = let e : 4 * k + 4 - 4 * k ≡ 4 = omega arith in rw e

-- Words without a mark are zero.
all_zero : (ws : List ℕ) → ((k : ℕ) → k < length ws → get_or ws k 0 ≡ 0) → all_of (eqb 0) ws ≡ true
all_zero [] h = refl
all_zero (w ∷ ws) h = rw (eq-eqb 0 w (sym (h 0 (omega arith)))) (all_zero ws (λ k l. h (suc k) (omega arith)))

zero_at : (ws : List ℕ) → all_of (eqb 0) ws ≡ true → (k : ℕ) → k < length ws → get_or ws k 0 ≡ 0
zero_at [] e k l = absurd (omega arith)
zero_at (w ∷ ws) e zero l = sym (eqb-true 0 w ((both Iff.rfl Iff.rfl).0 e).0)
zero_at (w ∷ ws) e (suc k) l = zero_at ws ((both {a = eqb 0 w} Iff.rfl Iff.rfl).0 e).1 k (omega arith)

pub empty_zero : (ws : List ℕ) → Words ws → no_mark? ws ≡ all_of (eqb 0) ws
empty_zero ws v = go (no_mark? ws) refl
  where
    zero_word : no_mark? ws ≡ true → (k : ℕ) → Dec (get_or ws k 0 ≡ 0) → get_or ws k 0 ≡ 0
    zero_word q k (yes e) = e
    zero_word q k (no h) = absurd (true≢false (sym q ∙ empty_not ws k v h))

    go : (b : Bool) → no_mark? ws ≡ b → b ≡ all_of (eqb 0) ws
    go true q = sym (all_zero ws (λ k l. zero_word q k (ℕ_discrete (get_or ws k 0) 0)))
    go false q = sym (false_if (all_of (eqb 0) ws) (λ e. true≢false (sym (empty_all ws (zero_at ws e)) ∙ q)))

-- A part of words, each below 2^64.
pub part_words : (m d : ℕ) (ws : List ℕ) → Words ws → Words (take m (drop d ws))
part_words m d ws v i = go (ltb i m) refl
  where
    go : (b : Bool) → ltb i m ≡ b → get_or (take m (drop d ws)) i 0 < 2 ^ 64
    go true q = rw (get_or-take m (drop d ws) i 0 (ltb-true i m q), get_or-drop d ws i 0) (v (d + i))
    go false q = rw (get_or-eq_default (take m (drop d ws)) 0 {n = i} (omega (arith, length-take m (drop d ws), ltb-false i m q))) (pow_pos 64)

pub groups_all : (n : ℕ) (book : Book) → groups_in_form? n book 0 ≡ all_of (λ k. group_in_form? n (group_words book.words k)) (numbers_from 0 book.count)
unfolding groups_in_form?
groups_all n book = let e : book.count - 0 ≡ book.count = omega arith in rw e

-- A group's words in their place; all words of no leaf.
pub booked_is : (book : List ℕ) (k : ℕ) (G : Restriction) (new : List ℕ) → new ≡ words_of 4 G → put_mid (4 * k) (4 * k + 4 - 4 * k) book new ≡ booked book k G
unfolding booked
booked_is book k G new e =
    let n : 4 * k + 4 - 4 * k ≡ 4 = omega arith in
    rw (e, n, drop-drop 4 (4 * k) book)

zeros_over : (k : ℕ) (book new : List ℕ) → k ≤ length book → new ≡ words_of (length (take (k - 0) (drop 0 book))) no_leaf → new ++ drop k book ≡ over (replicate k 0) book
zeros_over k book new h e =
    let l : length (take (k - 0) (drop 0 book)) ≡ k = omega (arith, length-take (k - 0) (drop 0 book), length-drop 0 book) in
    rw (e, l, no_words k, length-replicate)

pub emptied_is : (book new : List ℕ) → 384 ≤ length book → new ≡ words_of (length (take (384 - 0) (drop 0 book))) no_leaf → new ++ drop 384 book ≡ emptied book
unfolding emptied
emptied_is book new h e = zeros_over 384 book new h e

-- A book in form has at most 96 groups.
pub few_groups : (n : ℕ) (book : Book) → book_in_form? n book ≡ true → book.count ≤ 96
unfolding book_in_form?
few_groups n book e = leb-true book.count 96 ((both {a = leb book.count 96} Iff.rfl Iff.rfl).0 e).0
