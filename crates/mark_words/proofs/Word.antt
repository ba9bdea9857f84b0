-- Laws of one word and its marks.
use mathlib.Core.Path.{◌≡◌, refl, sym, ap, ap₂, ◌∙◌}
use mathlib.Core.Bool.{Bool, true, false, cond, not, ◌&&◌, ◌||◌}
use Prim.Native.Nat.{ℕ, zero, suc, ◌+◌, ◌-◌, ◌*◌, ◌/◌, ◌%◌, ◌^◌, ◌<◌}
use native.Mathlib.Nat.{one-mul, mod-lt, mod-one, add_comm, mod-eq_of_lt, div-eq_of_lt, div-one, mul-div_cancel, mul-mod_left, lt_of_lt_of_le}
use native.Mathlib.Omega.{arith}
use native.Mathlib.Decide.{dec_lt}
use native.Mathlib.Numerals.{one-add}
use lib.Dec.{eqb, ltb}
use lib.Arith.{digits_mod}
use lib.Pow.{pow_pos, pow_mono, pow-lt, pow-add, shr-shr, high, low, mod-pow-add, field, mod-mod-pow, ones_lt, ones_split}
use lib.Bits.{bit_and, bit_or, bit_xor, and_shr, or_shr, xor_shr, and_mod, or_mod, xor_mod}
use borrow.Author.Tests.{eq-eqb, ne_eqb, lt-ltb, le-ltb}
use Rattle.spec_orders.specs.CircularOrder.{Restriction}
use Rattle.mark_words.specs.Marks.{bit, word_of}

-- ---- digits

-- A digit times p, by the test whether the digit is 1.
pub digit_times : (d p : ℕ) (b : Bool) → d < 2 → eqb d 1 ≡ b → d * p ≡ cond b p 0
digit_times zero p true h e = absurd (zero_one (cc))
  where
    zero_one : ◌≡◌ {A = ℕ} 0 1 → ⊥
    zero_one z = omega arith
digit_times zero p false h e = omega arith
digit_times (suc zero) p true h e = omega arith
digit_times (suc zero) p false h e = absurd (zero_one (cc))
  where
    zero_one : ◌≡◌ {A = ℕ} 0 1 → ⊥
    zero_one z = omega arith
digit_times (suc (suc d)) p b h e = absurd (omega arith)

-- The lowest mark, and the others from the half.
pub bit_zero : (w : ℕ) → bit w 0 ≡ eqb (w % 2) 1
bit_zero w = rw div-one

pub bit_half : (w i : ℕ) → bit (w / 2) i ≡ bit w (suc i)
bit_half w i = ap (λ (x : ℕ). eqb (x % 2) 1) (shr-shr w 1 i ∙ ap (λ (x : ℕ). w / 2 ^ x) (omega arith))

-- A mark below k is a mark of the k lowest.
pub bit_mod : (w k i : ℕ) → i < k → bit (w % 2 ^ k) i ≡ bit w i
bit_mod w k i h = rw (at) (ap (λ (x : ℕ). eqb x 1) (ap (λ (x : ℕ). x % 2) (field w (k - suc i + 1) i) ∙ mod-mod-pow (w / 2 ^ i) (k - suc i) 1))
  where
    at : k ≡ (k - suc i + 1) + i
    at = omega arith

-- Past its marks a word has none.
pub bit_past : (w i : ℕ) → w < 2 ^ i → bit w i ≡ false
bit_past w i h = rw (div-eq_of_lt h)

-- ---- the word of a restriction

word_digit : (G : Restriction) (base k : ℕ) → (d : ℕ) × (d < 2) × (eqb d 1 ≡ G (base + suc k)) × (word_of G base (suc k) ≡ d * 2 ^ k + word_of G base k)
unfolding word_of
word_digit G base k = go (G (base + suc k)) refl
  where
    go : (b : Bool) → G (base + suc k) ≡ b → (d : ℕ) × (d < 2) × (eqb d 1 ≡ G (base + suc k)) × (word_of G base k + cond (G (base + suc k)) (2 ^ k) 0 ≡ d * 2 ^ k + word_of G base k)
    go true e = (1, omega arith, sym e, rw e (omega arith))
    go false e = (0, omega arith, sym e, rw e (omega arith))

pub word_lt : (G : Restriction) (base k : ℕ) → word_of G base k < 2 ^ k
unfolding word_of
word_lt G base zero = omega arith
word_lt G base (suc k) = go (G (base + suc k)) (word_lt G base k)
  where
    go : (b : Bool) → word_of G base k < 2 ^ k → word_of G base k + cond b (2 ^ k) 0 < 2 ^ suc k
    go true h = omega arith
    go false h = omega (arith, pow_pos k)

word_bit-step : (G : Restriction) (base k i d : ℕ) → d < 2 → eqb d 1 ≡ G (base + suc k) → word_of G base (suc k) ≡ d * 2 ^ k + word_of G base k
    → i < suc k → Dec (i < k) → (i < k → bit (word_of G base k) i ≡ G (base + suc i)) → bit (word_of G base (suc k)) i ≡ G (base + suc i)
word_bit-step G base k i d hd he is h (yes l) ih =
    ap (λ (x : ℕ). bit x i) is ∙ sym (bit_mod (d * 2 ^ k + word_of G base k) k i l) ∙ ap (λ (x : ℕ). bit x i) (low d k (word_lt G base k)) ∙ ih l
word_bit-step G base k i d hd he is h (no l) ih =
    let e : i ≡ k = omega arith in
    ap₂ (λ (w j : ℕ). bit w j) is e ∙ ap (λ (x : ℕ). eqb (x % 2) 1) (high d k (word_lt G base k)) ∙ ap (λ (x : ℕ). eqb x 1) (mod-eq_of_lt hd)
    ∙ he ∙ ap (λ (x : ℕ). G (base + suc x)) (sym e)

pub word_bit : (G : Restriction) (base k i : ℕ) → i < k → bit (word_of G base k) i ≡ G (base + suc i)
word_bit G base zero i h = absurd (omega arith)
word_bit G base (suc k) i h =
    let p = word_digit G base k in word_bit-step G base k i p.0 p.1 p.2 p.3 h (dec_lt i k) (λ l. word_bit G base k i l)

-- A word's k lowest marks are those of G at base + 1 to base + k: they are the word of G.
pub word_mod : (G : Restriction) (base w k : ℕ) → ((i : ℕ) → i < k → bit w i ≡ G (base + suc i)) → w % 2 ^ k ≡ word_of G base k
unfolding word_of
word_mod G base w zero h = mod-one w
word_mod G base w (suc k) h =
    ap (λ (x : ℕ). w % 2 ^ x) (sym (one-add k)) ∙ mod-pow-add w 1 k
    ∙ ap₂ (λ (x y : ℕ). x + y) (digit_times (w / 2 ^ k % 2) (2 ^ k) (G (base + suc k)) (mod-lt (w / 2 ^ k) (omega arith)) (h k (omega arith))) (word_mod G base w k (λ i l. h i (omega arith)))
    ∙ add_comm _ _

pub word_is : (G : Restriction) (base w k : ℕ) → w < 2 ^ k → ((i : ℕ) → i < k → bit w i ≡ G (base + suc i)) → w ≡ word_of G base k
word_is G base w k l h = sym (mod-eq_of_lt l) ∙ word_mod G base w k h

-- Restrictions that agree on its leaves have the same word.
pub word_agree : (G H : Restriction) (base k : ℕ) → ((i : ℕ) → i < k → G (base + suc i) ≡ H (base + suc i)) → word_of G base k ≡ word_of H base k
word_agree G H base k h = word_is H base (word_of G base k) k (word_lt G base k) (λ i l. word_bit G base k i l ∙ h i l)

-- Two words of k marks with the same marks are equal; a word with no mark is 0.
pub word_ext : (v w k : ℕ) → v < 2 ^ k → w < 2 ^ k → ((i : ℕ) → i < k → bit v i ≡ bit w i) → v ≡ w
word_ext v w k hv hw h = word_is G 0 v k hv (λ i l. h i l ∙ sym (at i)) ∙ sym (word_is G 0 w k hw (λ i l. sym (at i)))
  where
    G : Restriction
    G x = bit w (x - 1)

    at : (i : ℕ) → G (0 + suc i) ≡ bit w i
    at i = ap (bit w) (omega arith)

pub no_marks : (w k : ℕ) → w < 2 ^ k → ((i : ℕ) → i < k → bit w i ≡ false) → w ≡ 0
no_marks w k l h = word_ext w 0 k l (pow_pos k) (λ i m. h i m ∙ sym (bit_past 0 i (pow_pos i)))

pub word_none : (base k : ℕ) → 0 ≡ word_of (λ x. false) base k
word_none base k = word_is (λ x. false) base 0 k (pow_pos k) (λ i l. bit_past 0 i (pow_pos i))

-- ---- marks of what the operations on words give

module _ (op : ℕ → ℕ → ℕ) (f : Bool → Bool → Bool)
    (shr : (a b k : ℕ) → op a b / 2 ^ k ≡ op (a / 2 ^ k) (b / 2 ^ k))
    (low-digits : (a b k : ℕ) → op a b % 2 ^ k ≡ op (a % 2 ^ k) (b % 2 ^ k))
    (c00 : eqb (op 0 0) 1 ≡ f false false) (c01 : eqb (op 0 1) 1 ≡ f false true)
    (c10 : eqb (op 1 0) 1 ≡ f true false) (c11 : eqb (op 1 1) 1 ≡ f true true) where
  on_digits : (x y : ℕ) → x < 2 → y < 2 → eqb (op x y) 1 ≡ f (eqb x 1) (eqb y 1)
  on_digits zero zero h l = c00
  on_digits zero (suc zero) h l = c01
  on_digits (suc zero) zero h l = c10
  on_digits (suc zero) (suc zero) h l = c11
  on_digits zero (suc (suc y)) h l = absurd (omega arith)
  on_digits (suc zero) (suc (suc y)) h l = absurd (omega arith)
  on_digits (suc (suc x)) y h l = absurd (omega arith)

  bit_op : (a b i : ℕ) → bit (op a b) i ≡ f (bit a i) (bit b i)
  bit_op a b i =
      ap (λ (x : ℕ). eqb (x % 2) 1) (shr a b i) ∙ ap (λ (x : ℕ). eqb x 1) (low-digits (a / 2 ^ i) (b / 2 ^ i) 1)
      ∙ on_digits (a / 2 ^ i % 2) (b / 2 ^ i % 2) (mod-lt (a / 2 ^ i) (omega arith)) (mod-lt (b / 2 ^ i) (omega arith))

pub bit_of_and : (a b i : ℕ) → bit (bit_and a b) i ≡ (bit a i && bit b i)
bit_of_and = bit_op bit_and ◌&&◌ and_shr and_mod refl refl refl refl

pub bit_of_or : (a b i : ℕ) → bit (bit_or a b) i ≡ (bit a i || bit b i)
bit_of_or = bit_op bit_or ◌||◌ or_shr or_mod refl refl refl refl

-- The marks where the two words differ.
pub bit_of_xor : (a b i : ℕ) → bit (bit_xor a b) i ≡ cond (bit a i) (not (bit b i)) (bit b i)
bit_of_xor = bit_op bit_xor (λ x y. cond x (not y) y) xor_shr xor_mod refl refl refl refl

-- One mark, and the k lowest.
pub bit_pow : (j i : ℕ) → bit (2 ^ j) i ≡ eqb i j
bit_pow j i = go (dec_lt i j) (dec_lt j i)
  where
    shifted : (m : ℕ) → j ≡ m + i → bit (2 ^ j) i ≡ eqb (2 ^ m % 2) 1
    shifted m e = ap (λ (x : ℕ). bit (2 ^ x) i) e ∙ ap (λ (x : ℕ). eqb (x % 2) 1) (ap (λ (x : ℕ). x / 2 ^ i) (pow-add 2 m i) ∙ mul-div_cancel (2 ^ m) (pow_pos i))

    go : Dec (i < j) → Dec (j < i) → bit (2 ^ j) i ≡ eqb i j
    go (yes l) m =
        shifted (j - suc i + 1) (omega arith)
        ∙ ap (λ (x : ℕ). eqb x 1) (ap (λ (x : ℕ). x % 2) (pow-add 2 (j - suc i) 1) ∙ mul-mod_left (2 ^ (j - suc i)) 2)
        ∙ sym (ne_eqb i j (λ e. omega arith))
    go (no l) (yes m) = bit_past (2 ^ j) i (pow-lt m) ∙ sym (ne_eqb i j (λ e. omega arith))
    go (no l) (no m) = shifted 0 (omega arith) ∙ sym (eq-eqb i j (omega arith))

pub bit_ones : (k i : ℕ) → bit (2 ^ k - 1) i ≡ ltb i k
bit_ones k i = go (dec_lt i k)
  where
    m : ℕ
    m = k - suc i

    at : i < k → k ≡ m + 1 + i
    at l = omega arith

    go : Dec (i < k) → bit (2 ^ k - 1) i ≡ ltb i k
    go (yes l) =
        ap (λ (x : ℕ). bit (2 ^ x - 1) i) (at l)
        ∙ ap (λ (x : ℕ). eqb (x % 2) 1) (ap (λ (x : ℕ). x / 2 ^ i) (ones_split (m + 1) i) ∙ high (2 ^ (m + 1) - 1) i (ones_lt i))
        ∙ ap (λ (x : ℕ). eqb x 1) (ap (λ (x : ℕ). x % 2) (ones_split m 1) ∙ digits_mod (2 ^ m - 1) (omega arith))
        ∙ sym (lt-ltb i k l)
    go (no l) = bit_past (2 ^ k - 1) i (lt_of_lt_of_le (ones_lt k) (pow_mono (omega arith))) ∙ sym (le-ltb i k (omega arith))

pub one_shifted : (s : ℕ) → s < 64 → 1 * 2 ^ s % 2 ^ 64 ≡ 2 ^ s
one_shifted s h = rw one-mul (mod-eq_of_lt (pow-lt h))
