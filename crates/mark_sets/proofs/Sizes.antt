-- How many marks there are.
use mathlib.Core.Path.{◌≡◌, sym, ap, ap₂, ◌∙◌}
use mathlib.Core.Bool.{Bool}
use mathlib.Core.List.{List, [], ◌∷◌}
use Prim.Native.Nat.{ℕ, zero, suc, ◌+◌, ◌*◌, ◌/◌, ◌%◌, ◌^◌, ◌<◌}
use native.Mathlib.Nat.{mod-lt, add-zero, add-suc, suc-add, mul-zero}
use native.Mathlib.Numerals.{add-one}
use native.Mathlib.Omega.{arith}
use lib.ListN.{length, get_or}
use lib.Arith.{lt-one}
use lib.Pow.{shr_lt}
use lib.Count.{ones, ones_step, ones-ones}
use Rattle.spec_orders.specs.Lists.{count, numbers_from}
use Rattle.mark_words.specs.Marks.{bit, marked, leaves_of}
use Rattle.spec_orders.proofs.Numbers.{numbers_append, count_cons, count_append}
use Rattle.mark_words.proofs.Word.{digit_times, bit_zero, bit_half}
use Rattle.mark_words.proofs.Words.{Words, marked_at}

-- The marks of one word, and of all of them.
count_word : (k w a : ℕ) (p : ℕ → Bool) → w < 2 ^ k → ((j : ℕ) → j < k → p (a + j) ≡ bit w j) → ones w ≡ count p (numbers_from a k)
count_word zero w a p l h = ap ones (lt-one l) ∙ ones-ones 0
count_word (suc k) w a p l h =
    omega (
      arith,
      ones_step w,
      digit_times (w % 2) 1 (p a) (mod-lt w (omega arith)) (sym (bit_zero w) ∙ sym (h 0 (omega arith)) ∙ ap p (add-zero a)),
      count_cons p a (numbers_from (suc a) k),
      count_word k (w / 2) (suc a) p (shr_lt k 1 (rw add-one l)) (λ j m. ap p (suc-add a j ∙ sym (add-suc a j)) ∙ h (suc j) (omega arith) ∙ sym (bit_half w j)),
    )

abbrev pub sum_ones : List ℕ → ℕ
sum_ones [] = 0
sum_ones (w ∷ ws) = ones w + sum_ones ws

-- (For words of any width: at 64 the range would be written out.)
count_words : (width : ℕ) (ws : List ℕ) (a : ℕ) (p : ℕ → Bool) → ((i : ℕ) → get_or ws i 0 < 2 ^ width)
    → ((i j : ℕ) → j < width → p (a + (width * i + j)) ≡ bit (get_or ws i 0) j) → sum_ones ws ≡ count p (numbers_from a (width * length ws))
count_words width [] a p v h = rw mul-zero
count_words width (w ∷ ws) a p v h =
    ap₂ (λ (x y : ℕ). x + y) (count_word width w a p (v 0) (λ j m. ap p (first j) ∙ h 0 j m))
    (count_words width ws (a + width) p (λ i. v (suc i)) (λ i j m. ap p (next i j) ∙ h (suc i) j m))
    ∙ sym (count_append p (numbers_from a width) (numbers_from (a + width) (width * length ws)))
    ∙ ap (count p) (sym (numbers_append a width (width * length ws)) ∙ ap (numbers_from a) (all (length ws)))
  where
    first : (j : ℕ) → a + j ≡ a + (width * 0 + j)
    first j = omega arith

    next : (i j : ℕ) → a + width + (width * i + j) ≡ a + (width * suc i + j)
    next i j = omega arith

    all : (n : ℕ) → width + width * n ≡ width * suc n
    all n = omega arith

-- The size is the count of marks set in the words.
pub size_is : (ws : List ℕ) → Words ws → sum_ones ws ≡ length (leaves_of ws)
unfolding leaves_of
size_is ws v = count_words 64 ws 1 (marked ws) v (λ i j l. ap (marked ws) (omega arith) ∙ marked_at ws i j l)

pub four_words : (a b c d : ℕ) → a < 2 ^ 64 → b < 2 ^ 64 → c < 2 ^ 64 → d < 2 ^ 64
    → ones a + ones b + ones c + ones d ≡ length (leaves_of (a ∷ b ∷ c ∷ d ∷ []))
four_words a b c d p q r s = omega (arith, size_is (a ∷ b ∷ c ∷ d ∷ []) fits)
  where
    fits : Words (a ∷ b ∷ c ∷ d ∷ [])
    fits zero = p
    fits (suc zero) = q
    fits (suc (suc zero)) = r
    fits (suc (suc (suc zero))) = s
    fits (suc (suc (suc (suc i)))) = omega arith
