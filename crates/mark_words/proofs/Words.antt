-- Laws of any number of mark words.
use mathlib.Core.Path.{◌≡◌, refl, sym, ap, ap₂, ◌∙◌}
use mathlib.Core.Bool.{false}
use mathlib.Core.List.{List, [], ◌∷◌, ◌++◌, append-nil}
use Prim.Native.Nat.{ℕ, zero, suc, ◌+◌, ◌-◌, ◌*◌, ◌/◌, ◌%◌, ◌^◌, ◌≤◌, ◌<◌}
use native.Mathlib.Nat.{mod-lt, add-zero, div-add-mod, add-suc, mul-add-div, mul-add-mod_self_left, mod-eq_of_lt, div-eq_of_lt}
use native.Mathlib.Decide.{dec_lt}
use native.Mathlib.Numerals.{add-one}
use native.Mathlib.Omega.{arith}
use lib.ListN.{length, get_or, drop, set, length-append, length-set, get_or-append, get_or-eq_default, drop_of_length-le, replicate}
use lib.Seq.{ext_get_or, get_or_at, set_at, drop-cons, append_snoc}
use lib.Pow.{pow_pos}
use Rattle.spec_orders.specs.CircularOrder.{Restriction, EmptyGroup}
use Rattle.mark_words.specs.Marks.{bit, marked, word_of, words_of, no_leaf}
use Rattle.mark_words.proofs.Word.{word_bit, word_is, word_agree, bit_past, word_none}

-- Every word is one of 64 marks.
abbrev pub Words : List ℕ → Type 0
Words ws = (i : ℕ) → get_or ws i 0 < 2 ^ 64

-- ---- the words of a restriction

pub length_words : (k : ℕ) (G : Restriction) → length (words_of k G) ≡ k
unfolding words_of
length_words zero G = refl
length_words (suc k) G = rw (length-append, length_words k G) (omega arith)

pub word_at : (k : ℕ) (G : Restriction) (i : ℕ) → i < k → get_or (words_of k G) i 0 ≡ word_of G (64 * i) 64
unfolding words_of
word_at zero G i h = absurd (omega arith)
word_at (suc k) G i h = go (dec_lt i k) (λ l. word_at k G i l)
  where
    go : Dec (i < k) → (i < k → get_or (words_of k G) i 0 ≡ word_of G (64 * i) 64)
        → get_or (words_of k G ++ (word_of G (64 * k) 64 ∷ [])) i 0 ≡ word_of G (64 * i) 64
    go (yes l) ih = get_or-append (words_of k G) (word_of G (64 * k) 64 ∷ []) 0 i (rw length_words l) ∙ ih l
    go (no l) ih =
        let e : k ≡ i = omega arith in
        get_or_at (words_of k G) (word_of G (64 * k) 64) [] 0 i (length_words k G ∙ e) ∙ ap (λ (x : ℕ). word_of G (64 * x) 64) e

-- The words of no leaf are zero.
pub no_words : (k : ℕ) → words_of k no_leaf ≡ replicate k 0
unfolding words_of
no_words zero = refl
no_words (suc k) = rw (no_words k, ← word_none (64 * k) 64) (snoc k)
  where
    snoc : (k : ℕ) → ◌++◌ {A = ℕ} (replicate k 0) (0 ∷ []) ≡ replicate (suc k) 0
    snoc zero = refl
    snoc (suc k) = ap (λ l. 0 ∷ l) (snoc k)

-- ---- marks

-- Mark j of word i is leaf 64 * i + j + 1, and every leaf is one of those.
pub marked_at : (ws : List ℕ) (i j : ℕ) → j < 64 → marked ws (64 * i + suc j) ≡ bit (get_or ws i 0) j
unfolding marked
marked_at ws i j h = rw (add-suc (64 * i) j) (ap₂ (λ (x y : ℕ). bit (get_or ws x 0) y) quotient (mul-add-mod_self_left 64 i j ∙ mod-eq_of_lt h))
  where
    quotient : (64 * i + j) / 64 ≡ i
    quotient = mul-add-div (omega arith) i j ∙ ap (λ (x : ℕ). i + x) (div-eq_of_lt h) ∙ add-zero i

pub leaf_at : (m : ℕ) → 64 * (m / 64) + suc (m % 64) ≡ suc m
leaf_at m = omega (arith, div-add-mod m 64)

pub marked_is : (ws : List ℕ) (b : ℕ) → 1 ≤ b → marked ws b ≡ bit (get_or ws ((b - 1) / 64) 0) ((b - 1) % 64)
unfolding marked
marked_is ws zero h = absurd (omega arith)
marked_is ws (suc m) h = let e : m ≡ suc m - 1 = omega arith in ap (λ (x : ℕ). bit (get_or ws (x / 64) 0) (x % 64)) e

-- Leaf 0 is not marked, and past the words nothing is.
pub marked_none : (ws : List ℕ) → marked ws 0 ≡ false
unfolding marked
marked_none ws = refl

pub marked_past : (ws : List ℕ) (b : ℕ) → 64 * length ws < b → marked ws b ≡ false
unfolding marked
marked_past ws zero h = refl
marked_past ws (suc m) h = rw (get_or-eq_default ws 0 {n = m / 64} (omega (arith, div-add-mod m 64, mod-lt m {m = 64} (omega arith)))) (bit_past 0 (m % 64) (pow_pos (m % 64)))

pub marked_words : (k : ℕ) (G : Restriction) (b : ℕ) → 1 ≤ b → b ≤ 64 * k → marked (words_of k G) b ≡ G b
unfolding marked
marked_words k G zero h l = absurd (omega arith)
marked_words k G (suc m) h l =
    ap (λ (w : ℕ). bit w (m % 64)) (word_at k G (m / 64) (omega (arith, div-add-mod m 64)))
    ∙ word_bit G (64 * (m / 64)) 64 (m % 64) (mod-lt m (omega arith)) ∙ ap G (leaf_at m)

-- ---- what a list of words is

pub words_are : (ws : List ℕ) (G : Restriction) → ((i : ℕ) → i < length ws → get_or ws i 0 ≡ word_of G (64 * i) 64) → ws ≡ words_of (length ws) G
words_are ws G h = ext_get_or 0 ws (words_of (length ws) G) (sym (length_words (length ws) G)) (λ i l. h i l ∙ sym (word_at (length ws) G i l))

pub words_by_marks : (ws : List ℕ) (G : Restriction) → Words ws → ((i j : ℕ) → i < length ws → j < 64 → bit (get_or ws i 0) j ≡ G (64 * i + suc j))
    → ws ≡ words_of (length ws) G
words_by_marks ws G w h = words_are ws G (λ i l. word_is G (64 * i) (get_or ws i 0) 64 (w i) (λ j m. h i j l m))

-- The words of a restriction depend only on its leaves there.
pub words_agree : (k : ℕ) (G H : Restriction) → ((b : ℕ) → 1 ≤ b → b ≤ 64 * k → G b ≡ H b) → words_of k G ≡ words_of k H
unfolding words_of
words_agree zero G H h = refl
words_agree (suc k) G H h =
    ap₂ (λ (ws : List ℕ) (w : ℕ). ws ++ (w ∷ [])) (words_agree k G H (λ b l m. h b l (omega arith)))
    (word_agree G H (64 * k) 64 (λ i l. h (64 * k + suc i) (omega arith) (omega arith)))

-- Those of an empty group are zero.
pub empty_words : (k : ℕ) (G : Restriction) → EmptyGroup G → words_of k G ≡ replicate k 0
empty_words k G e = words_agree k G no_leaf (λ b l m. e b) ∙ no_words k

pub words_of-marked : (ws : List ℕ) → Words ws → words_of (length ws) (marked ws) ≡ ws
words_of-marked ws w = sym (words_by_marks ws (marked ws) w (λ i j l m. sym (marked_at ws i j m)))

-- ---- words written one after the other

-- The first i words are those of G, and the others are as they were.
abbrev pub Written : Restriction → ℕ → List ℕ → List ℕ → Type 0
Written G i old new = (i ≤ length old) × (length new ≡ length old) × (new ≡ words_of i G ++ drop i old)

module _ (G : Restriction) (old : List ℕ) where
  pub written_none : Written G 0 old old
  unfolding words_of
  written_none = (omega arith, refl, refl)

  pub written_read : (i : ℕ) (new : List ℕ) → Written G i old new → i < length old → get_or new i 0 ≡ get_or old i 0
  written_read i new w h =
      rw (w.2, drop-cons old i 0 h) (get_or_at (words_of i G) (get_or old i 0) (drop (suc i) old) 0 i (length_words i G))

  pub written_one : (i : ℕ) (new : List ℕ) (v : ℕ) → Written G i old new → i < length old → v ≡ word_of G (64 * i) 64 → Written G (i + 1) old (set new i v)
  unfolding words_of
  written_one i new v w h e = (
    omega arith,
    length-set new i v ∙ w.1,
    rw (add-one, e, w.2, drop-cons old i 0 h)
        (set_at (words_of i G) (get_or old i 0) (drop (suc i) old) (word_of G (64 * i) 64) i (length_words i G)
        ∙ sym (append_snoc (words_of i G) (word_of G (64 * i) 64) (drop (suc i) old))),
  )

  pub written_all : (i : ℕ) (new : List ℕ) → Written G i old new → length new ≤ i → new ≡ words_of (length old) G
  written_all i new w h =
      let e : i ≡ length old = omega arith in
      w.2 ∙ (rw (drop_of_length-le old {i = i} (omega arith), append-nil) (ap (λ (k : ℕ). words_of k G) e))
