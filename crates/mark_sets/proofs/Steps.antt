-- What the functions do to a word, and what they find in it.
use mathlib.Core.Path.{◌≡◌, refl, sym, ap, ap₂, ◌∙◌}
use mathlib.Core.Logic.Iff
use mathlib.Core.Logic.{◌≢◌}
use mathlib.Core.Bool.{Bool, true, false, cond, not, ◌&&◌, true≢false}
use mathlib.Core.List.{List}
use Prim.Native.Nat.{ℕ, suc, ◌+◌, ◌-◌, ◌*◌, ◌^◌, ◌<◌, min}
use native.Mathlib.Nat.{lt_of_lt_of_le}
use native.Mathlib.Decide.{dec_lt}
use native.Mathlib.Omega.{arith}
use lib.Dec.{leb, ltb}
use lib.ListN.{length, get_or}
use lib.Pow.{pow_pos, pow_mono, ones_lt}
use lib.Bits.{bit_and, bit_xor, and_lt, xor_lt}
use borrow.Author.Tests.{lt-ltb, le-ltb, le-leb, lt-leb}
use Rattle.spec_orders.specs.Lists.{all_of}
use Rattle.mark_words.specs.Marks.{bit, marked, word_of, leaves_of, no_mark?, outside}
use Rattle.spec_orders.proofs.Members.{all_passed}
use Rattle.spec_orders.proofs.Tests.{both, false_if}
use Rattle.mark_words.proofs.Word.{word_is, word_ext, no_marks, bit_of_and, bit_of_xor, bit_ones, bit_past}
use Rattle.mark_words.proofs.Words.{Words, marked_at}
use Rattle.mark_words.proofs.Leaves.{marked_leaf, no_mark, by_mark}

-- ---- the leaves from 1 to n

-- The marks of word i that are leaves from 1 to n.
abbrev pub low : ℕ → ℕ → ℕ
low n i = 2 ^ min (n - 64 * i) 64 - 1

pub low_lt : (n i : ℕ) → low n i < 2 ^ 64
low_lt n i = lt_of_lt_of_le (ones_lt (min (n - 64 * i) 64)) (pow_mono {i = min (n - 64 * i) 64} {j = 64} (omega arith))

pub low_bit : (n i j : ℕ) → j < 64 → bit (low n i) j ≡ leb (64 * i + suc j) n
low_bit n i j h = bit_ones (min (n - 64 * i) 64) j ∙ go (dec_lt j (min (n - 64 * i) 64))
  where
    go : Dec (j < min (n - 64 * i) 64) → ltb j (min (n - 64 * i) 64) ≡ leb (64 * i + suc j) n
    go (yes l) = lt-ltb j (min (n - 64 * i) 64) l ∙ sym (le-leb (64 * i + suc j) n (omega arith))
    go (no l) = le-ltb j (min (n - 64 * i) 64) (omega arith) ∙ sym (lt-leb (64 * i + suc j) n (omega arith))

-- They without those that are marked.
pub outside_word : (ws : List ℕ) (n i : ℕ) → Words ws → bit_xor (low n i) (bit_and (get_or ws i 0) (low n i)) ≡ word_of (outside n (marked ws)) (64 * i) 64
outside_word ws n i v =
    word_is (outside n (marked ws)) (64 * i) (bit_xor (low n i) (bit_and w (low n i))) 64
    (xor_lt 64 (low n i) (bit_and w (low n i)) (low_lt n i) (and_lt 64 w (low n i) (v i) (low_lt n i)))
    (λ j h. bit_of_xor (low n i) (bit_and w (low n i)) j
    ∙ ap (λ (b : Bool). cond (bit (low n i) j) (not b) b) (bit_of_and w (low n i) j)
    ∙ less (bit (low n i) j) (bit w j)
    ∙ ap₂ (λ (a b : Bool). a && not b) (low_bit n i j h) (sym (marked_at ws i j h)))
  where
    w : ℕ
    w = get_or ws i 0

    less : (a b : Bool) → cond a (not (b && a)) (b && a) ≡ (a && not b)
    less true true = refl
    less true false = refl
    less false true = refl
    less false false = refl

-- No mark above n, word by word.
pub within_all : (ws : List ℕ) (n : ℕ) → ((i : ℕ) → i < length ws → bit_and (get_or ws i 0) (low n i) ≡ get_or ws i 0)
    → all_of (λ b. leb b n) (leaves_of ws) ≡ true
within_all ws n h =
    (all_passed (λ b. leb b n) (leaves_of ws)).1
    (by_mark ws (λ x. leb x n ≡ true)
    (λ i j k l b. sym (low_bit n i j l)
    ∙ ((both {a = bit (get_or ws i 0) j} {b = bit (low n i) j} Iff.rfl Iff.rfl).0 (sym (bit_of_and (get_or ws i 0) (low n i) j) ∙ ap (λ (w : ℕ). bit w j) (h i k) ∙ b)).1))

pub within_not : (ws : List ℕ) (n i : ℕ) → Words ws → bit_and (get_or ws i 0) (low n i) ≢ get_or ws i 0 → all_of (λ b. leb b n) (leaves_of ws) ≡ false
within_not ws n i v h = false_if (all_of (λ b. leb b n) (leaves_of ws)) (λ e. h (word_ext (bit_and w (low n i)) w 64 (and_lt 64 w (low n i) (v i) (low_lt n i)) (v i) (same e)))
  where
    w : ℕ
    w = get_or ws i 0

    same : all_of (λ b. leb b n) (leaves_of ws) ≡ true → (j : ℕ) → j < 64 → bit (bit_and w (low n i)) j ≡ bit w j
    same e j l = bit_of_and w (low n i) j ∙ go (bit w j) refl
      where
        go : (b : Bool) → bit w j ≡ b → (b && bit (low n i) j) ≡ b
        go true f = low_bit n i j l ∙ (all_passed (λ b. leb b n) (leaves_of ws)).0 e (64 * i + suc j) (marked_leaf ws (64 * i + suc j) (marked_at ws i j l ∙ f))
        go false f = refl

-- ---- no leaf at all

pub empty_all : (ws : List ℕ) → ((i : ℕ) → i < length ws → get_or ws i 0 ≡ 0) → no_mark? ws ≡ true
empty_all ws h =
    (no_mark ws).1 (λ x. false_if (marked ws x) (λ m. by_mark ws (λ x. ⊥)
    (λ i j k l b. true≢false (sym b ∙ ap (λ (w : ℕ). bit w j) (h i k) ∙ bit_past 0 j (pow_pos j))) x (marked_leaf ws x m)))

pub empty_not : (ws : List ℕ) (i : ℕ) → Words ws → get_or ws i 0 ≢ 0 → no_mark? ws ≡ false
empty_not ws i v h =
    false_if (no_mark? ws)
    (λ e. h (no_marks (get_or ws i 0) 64 (v i) (λ j l. sym (marked_at ws i j l) ∙ (no_mark ws).0 e (64 * i + suc j))))
