-- What the functions do to a word; four words.
use mathlib.Core.Path.{◌≡◌, refl, sym, ap, ap₂, ◌∙◌}
use mathlib.Core.Logic.{◌≢◌}
use mathlib.Core.Bool.{Bool, ◌||◌}
use mathlib.Core.List.{List, [], ◌∷◌}
use Prim.Native.Nat.{ℕ, suc, ◌+◌, ◌*◌, ◌/◌, ◌%◌, ◌^◌, ◌≤◌, ◌<◌}
use native.Mathlib.Nat.{mod-lt}
use native.Mathlib.Decide.{ℕ_discrete}
use native.Mathlib.Omega.{arith}
use lib.Dec.{eqb}
use lib.ListN.{length, get_or, set, length-set}
use lib.Seq.{get_or-set_same, get_or-set_other}
use lib.Pow.{pow-lt}
use lib.Bits.{bit_or, or_lt}
use borrow.Author.Tests.{eq-eqb, ne_eqb}
use Rattle.spec_orders.specs.CircularOrder.{Restriction}
use Rattle.spec_orders.proofs.Tests.{or_swap}
use Rattle.mark_words.specs.Marks.{bit, marked, word_of, words_of, with_leaf}
use Rattle.mark_words.proofs.Word.{word_is, bit_of_or, bit_pow}
use Rattle.mark_words.proofs.Words.{Words, words_are, marked_at, leaf_at, words_agree, words_of-marked}

-- ---- one leaf more

-- A leaf that is none of the words': they stay.
pub set_none : (ws : List ℕ) (b : ℕ) → Words ws → ((x : ℕ) → 1 ≤ x → x ≤ 64 * length ws → x ≢ b) → ws ≡ words_of (length ws) (with_leaf b (marked ws))
set_none ws b v h =
    sym (words_agree (length ws) (with_leaf b (marked ws)) (marked ws) (λ x l m. rw (ne_eqb x b (h x l m))) ∙ words_of-marked ws v)

-- One word replaced by what it is for G, where the others are so already.
module _ (ws : List ℕ) (G : Restriction) (w x : ℕ) (v : Words ws) (l : w < length ws) (hx : x < 2 ^ 64)
    (new : (j : ℕ) → j < 64 → bit x j ≡ G (64 * w + suc j)) (others : (i j : ℕ) → i ≢ w → j < 64 → bit (get_or ws i 0) j ≡ G (64 * i + suc j)) where
  pub set_word : set ws w x ≡ words_of (length ws) G
  set_word = words_are (set ws w x) G (λ i k. at i (ℕ_discrete i w)) ∙ ap (λ (k : ℕ). words_of k G) (length-set ws w x)
    where
      at : (i : ℕ) → Dec (i ≡ w) → get_or (set ws w x) i 0 ≡ word_of G (64 * i) 64
      at i (yes e) = rw e (get_or-set_same ws w x 0 l ∙ word_is G (64 * w) x 64 hx new)
      at i (no n) = get_or-set_other ws w i x 0 n ∙ word_is G (64 * i) (get_or ws i 0) 64 (v i) (λ j m. others i j n m)

pub eqb_iff : (a b c d : ℕ) → (a ≡ b → c ≡ d) → (c ≡ d → a ≡ b) → eqb a b ≡ eqb c d
eqb_iff a b c d f g = go (ℕ_discrete a b)
  where
    go : Dec (a ≡ b) → eqb a b ≡ eqb c d
    go (yes e) = eq-eqb a b e ∙ sym (eq-eqb c d (f e))
    go (no n) = ne_eqb a b n ∙ sym (ne_eqb c d (λ e. n (g e)))

-- Leaf m + 1: its word with its mark.
pub set-one : (ws : List ℕ) (m : ℕ) → Words ws → m / 64 < length ws
    → set ws (m / 64) (bit_or (get_or ws (m / 64) 0) (2 ^ (m % 64))) ≡ words_of (length ws) (with_leaf (suc m) (marked ws))
set-one ws m v l =
    set_word ws (with_leaf (suc m) (marked ws)) (m / 64) (bit_or (get_or ws (m / 64) 0) (2 ^ (m % 64))) v l
    (or_lt 64 (get_or ws (m / 64) 0) (2 ^ (m % 64)) (v (m / 64)) (pow-lt small)) new others
  where
    small : m % 64 < 64
    small = mod-lt m (omega arith)

    new : (j : ℕ) → j < 64 → bit (bit_or (get_or ws (m / 64) 0) (2 ^ (m % 64))) j ≡ with_leaf (suc m) (marked ws) (64 * (m / 64) + suc j)
    new j h =
        bit_of_or (get_or ws (m / 64) 0) (2 ^ (m % 64)) j
        ∙ ap₂ (λ (a b : Bool). a || b) (sym (marked_at ws (m / 64) j h))
        (bit_pow (m % 64) j ∙ eqb_iff j (m % 64) (64 * (m / 64) + suc j) (suc m) (λ e. omega (arith, leaf_at m)) (λ e. omega (arith, leaf_at m)))
        ∙ or_swap (marked ws (64 * (m / 64) + suc j)) (eqb (64 * (m / 64) + suc j) (suc m))

    others : (i j : ℕ) → i ≢ m / 64 → j < 64 → bit (get_or ws i 0) j ≡ with_leaf (suc m) (marked ws) (64 * i + suc j)
    others i j n h = rw (ne_eqb (64 * i + suc j) (suc m) (λ e. n (omega (arith, leaf_at m, small)))) (sym (marked_at ws i j h))

-- ---- four words, one by one; written over four others

pub four_words : (l : List ℕ) → length l ≡ 4 → get_or l 0 0 ∷ (get_or l 1 0 ∷ (get_or l 2 0 ∷ (get_or l 3 0 ∷ []))) ≡ l
four_words [] h = absurd (omega arith)
four_words (a ∷ []) h = absurd (omega arith)
four_words (a ∷ (b ∷ [])) h = absurd (omega arith)
four_words (a ∷ (b ∷ (c ∷ []))) h = absurd (omega arith)
four_words (a ∷ (b ∷ (c ∷ (d ∷ [])))) h = refl
four_words (a ∷ (b ∷ (c ∷ (d ∷ (e ∷ l))))) h = absurd (omega arith)

pub four_set : (from to : List ℕ) → length from ≡ 4 → length to ≡ 4
    → set (set (set (set to 0 (get_or from 0 0)) 1 (get_or from 1 0)) 2 (get_or from 2 0)) 3 (get_or from 3 0) ≡ from
four_set from [] p h = absurd (omega arith)
four_set from (a ∷ []) p h = absurd (omega arith)
four_set from (a ∷ (b ∷ [])) p h = absurd (omega arith)
four_set from (a ∷ (b ∷ (c ∷ []))) p h = absurd (omega arith)
four_set from (a ∷ (b ∷ (c ∷ (d ∷ [])))) p h = four_words from p
four_set from (a ∷ (b ∷ (c ∷ (d ∷ (e ∷ l))))) p h = absurd (omega arith)
