-- The list of marks, and how many there are.
use mathlib.Core.Path.{◌≡◌, refl, sym, ap, ◌∙◌}
use mathlib.Core.Logic.{◌↔◌, inl}
use mathlib.Core.Bool.{true, false, true≢false}
use mathlib.Core.List.{List, [], ◌∷◌}
use Prim.Native.Nat.{ℕ, zero, suc, ◌+◌, ◌*◌, ◌/◌, ◌%◌, ◌≤◌, ◌<◌}
use native.Mathlib.Nat.{mod-lt}
use native.Mathlib.Decide.{dec_le}
use native.Mathlib.Omega.{arith}
use lib.ListN.{length, get_or}
use Rattle.spec_orders.specs.Lists.{All, Distinct, In, those_of, elem, numbers_from, same}
use Rattle.spec_orders.specs.CircularOrder.{Restriction, WellFormed, EmptyGroup}
use Rattle.mark_words.specs.Marks.{bit, marked, words_of, leaves_of, no_mark?}
use Rattle.spec_orders.proofs.ListLaws.{all_map}
use Rattle.spec_orders.proofs.Members.{nothing_in, elem_in, all_in}
use Rattle.spec_orders.proofs.Numbers.{those_different, in_those, those_in, in_range, numbers_in, those_agree, count_elem}
use Rattle.mark_words.proofs.Words.{length_words, leaf_at, marked_none, marked_past, marked_words}
use Rattle.spec_orders.proofs.Tests.{false_if}
use Rattle.spec_orders.proofs.FormTests.{same_decides}

-- A leaf stands in the list of marks just when it is marked, and then it is one of the words' leaves.
pub leaf_marked : (ws : List ℕ) (x : ℕ) → In x (leaves_of ws) → marked ws x ≡ true
unfolding leaves_of
leaf_marked ws x i = (in_those (marked ws) (numbers_from 1 (64 * length ws)) x i).0

pub leaf_range : (ws : List ℕ) (x : ℕ) → In x (leaves_of ws) → (1 ≤ x) × (x ≤ 64 * length ws)
unfolding leaves_of
leaf_range ws x i = let h = in_range 1 (64 * length ws) x (in_those (marked ws) (numbers_from 1 (64 * length ws)) x i).1 in (omega arith, omega arith)

pub marked_leaf : (ws : List ℕ) (x : ℕ) → marked ws x ≡ true → In x (leaves_of ws)
unfolding leaves_of marked
marked_leaf ws zero e = absurd (true≢false (sym e))
marked_leaf ws (suc m) e = go (dec_le (suc m) (64 * length ws))
  where
    go : Dec (suc m ≤ 64 * length ws) → In (suc m) (those_of (marked ws) (numbers_from 1 (64 * length ws)))
    go (yes l) = those_in (marked ws) (numbers_from 1 (64 * length ws)) (suc m) e (numbers_in 1 (64 * length ws) (suc m) (omega arith) (omega arith))
    go (no l) = absurd (true≢false (sym e ∙ marked_past ws (suc m) (omega arith)))

pub marked_range : (ws : List ℕ) (x : ℕ) → marked ws x ≡ true → (1 ≤ x) × (x ≤ 64 * length ws)
marked_range ws x e = leaf_range ws x (marked_leaf ws x e)

-- Without a mark in its words a group is empty, and only then.
pub no_mark : (words : List ℕ) → (no_mark? words ≡ true) ↔ EmptyGroup (marked words)
no_mark words = (
  (λ e x. false_if (marked words x) (λ m. rw ((same_decides (leaves_of words) []).0 e) at (marked_leaf words x m))),
  (λ e. (same_decides (leaves_of words) []).1 (nothing_in (leaves_of words) (λ x i. true≢false (sym (leaf_marked words x i) ∙ e x)))),
)

pub some_mark : (words : List ℕ) → no_mark? words ≡ false → (x : ℕ) × In x (leaves_of words)
some_mark words = go (leaves_of words)
  where
    go : (l : List ℕ) → same l [] ≡ false → (x : ℕ) × In x l
    go [] e = absurd (true≢false e)
    go (x ∷ l) e = (x, inl refl)

-- So the list is one of different leaves, and the words are those of the list.
pub leaves_different : (ws : List ℕ) → Distinct (leaves_of ws)
unfolding leaves_of
leaves_different ws = those_different (marked ws) 1 (64 * length ws)

-- What holds of the leaf of each mark holds of each leaf of the list.
pub by_mark : (ws : List ℕ) (P : ℕ → Type 0) → ((i j : ℕ) → i < length ws → j < 64 → bit (get_or ws i 0) j ≡ true → P (64 * i + suc j))
    → (x : ℕ) → In x (leaves_of ws) → P x
unfolding marked
by_mark ws P h x i = at x (leaf_range ws x i) (leaf_marked ws x i)
  where
    at : (x : ℕ) → (1 ≤ x) × (x ≤ 64 * length ws) → marked ws x ≡ true → P x
    at zero r e = absurd (omega arith)
    at (suc m) r e = rw leaf_at at (h (m / 64) (m % 64) (omega (arith, leaf_at m)) (mod-lt m (omega arith)) e)

-- The list of marks of the words of a restriction.
pub leaves_of_words : (k : ℕ) (G : Restriction) → leaves_of (words_of k G) ≡ those_of G (numbers_from 1 (64 * k))
unfolding leaves_of
leaves_of_words k G =
    rw (length_words k G) (those_agree (marked (words_of k G)) G 1 (64 * k) (λ x l m. marked_words k G x l (omega arith)))

-- ---- sizes

-- A list of different leaves of the words has as many as its words have marks.
pub size_of_list : (k : ℕ) (l : List ℕ) → Distinct l → All (λ b. (1 ≤ b) × (b ≤ 64 * k)) l → length (leaves_of (words_of k (elem l))) ≡ length l
size_of_list k l d h = ap length (leaves_of_words k (elem l)) ∙ count_elem (64 * k) l d h

-- The words of a list of leaves hold the list's leaves and no others.
pub marked_list : (k : ℕ) (l : List ℕ) → All (λ b. (1 ≤ b) × (b ≤ 64 * k)) l → marked (words_of k (elem l)) ≡ elem l
marked_list k l r = λ i x. at x i
  where
    out : (x : ℕ) → ((1 ≤ x) × (x ≤ 64 * k) → ⊥) → elem l x ≡ false
    out x h = false_if (elem l x) (λ e. h (all_in (λ b. (1 ≤ b) × (b ≤ 64 * k)) x l r (elem_in l x e)))

    at : (x : ℕ) → marked (words_of k (elem l)) x ≡ elem l x
    at zero = marked_none (words_of k (elem l)) ∙ sym (out 0 (λ h. omega (arith, h.0)))
    at (suc x) = go (dec_le (suc x) (64 * k))
      where
        go : Dec (suc x ≤ 64 * k) → marked (words_of k (elem l)) (suc x) ≡ elem l (suc x)
        go (yes h) = marked_words k (elem l) (suc x) (omega arith) h
        go (no h) = marked_past (words_of k (elem l)) (suc x) (omega (arith, length_words k (elem l))) ∙ sym (out (suc x) (λ p. h p.1))

-- k words hold a well_formed group of at most 64 * k leaves.
pub marked_group : (k n : ℕ) (l : List ℕ) → n ≤ 64 * k → WellFormed n l → marked (words_of k (elem l)) ≡ elem l
marked_group k n l h w = marked_list k l (all_map (λ b. (1 ≤ b) × (b ≤ n)) (λ b. (1 ≤ b) × (b ≤ 64 * k)) (λ b r. (r.0, omega (arith, r.1))) l w.in_range)
