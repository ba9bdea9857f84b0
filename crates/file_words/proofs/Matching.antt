-- The words of a slice, as it is split at the spaces, and compared with w.
use Rattle.std.proofs.Common.{◌≡◌, ℕ, suc, ◌≤◌, Bool, true, false, ◌==◌, ◌||◌, cond, List, [], ◌∷◌, ◌++◌, length, take, refl, sym, ap, ◌∙◌, arith}
use Rattle.std.specs.List.{slice_split, list_any, filter}
use Rattle.std.specs.Cmp.Lexicographic.{pointwise}
use native.Mathlib.Decide.{ℕ_discrete}
use lib.Dec.{eqb}
use borrow.Author.Tests.{ne_eqb}
use Rattle.spec_orders.specs.Lists.{same, those_of, begins_with}
use Rattle.file_syntax.specs.Words.{Word, spaced, is_among}
use Rattle.spec_orders.specs.Lists.{All}

-- Each word, and behind the last space a part with no byte.
abbrev pub space : ℕ → Bool
space b = b == 32

split_word : (w x : List ℕ) → Word w → slice_split space (w ++ (32 ∷ x)) ≡ w ∷ slice_split space x
split_word [] x h = refl
split_word (b ∷ w) x h = rw (ne_eqb b 32 h.0, split_word w x h.1)

pub split_words : (ns : List (List ℕ)) → All Word ns → slice_split space (spaced ns) ≡ ns ++ ([] ∷ [])
split_words [] h = refl
split_words (w ∷ ns) h = split_word w (spaced ns) h.0 ∙ ap (λ l. w ∷ l) (split_words ns h.1)

-- The library's tests on words.
eqb_turned : (a b : ℕ) → eqb a b ≡ eqb b a
eqb_turned a b = go (ℕ_discrete a b)
  where
    go : Dec (a ≡ b) → eqb a b ≡ eqb b a
    go (yes e) = rw e refl
    go (no d) = rw (ne_eqb a b d, ne_eqb b a (λ e. d (sym e)))

pointwise_same : (a b : List ℕ) → pointwise eqb a b ≡ same a b
pointwise_same [] [] = refl
pointwise_same [] (y ∷ ys) = refl
pointwise_same (x ∷ xs) [] = refl
pointwise_same (x ∷ xs) (y ∷ ys) = rw (pointwise_same xs ys)

pointwise_turned : (a b : List ℕ) → pointwise eqb a b ≡ same b a
pointwise_turned [] [] = refl
pointwise_turned [] (y ∷ ys) = refl
pointwise_turned (x ∷ xs) [] = refl
pointwise_turned (x ∷ xs) (y ∷ ys) = rw (eqb_turned x y, pointwise_turned xs ys)

-- Whether w is one of the words.
pub any_words : (w : List ℕ) → 1 ≤ length w → (ns : List (List ℕ)) → list_any (pointwise eqb w) (ns ++ ([] ∷ [])) ≡ is_among ns w
any_words [] h ns = absurd (omega arith)
any_words (b ∷ w) h [] = refl
any_words (b ∷ w) h (v ∷ ns) = rw (pointwise_same (b ∷ w) v, any_words (b ∷ w) h ns) (go (same (b ∷ w) v) (is_among ns (b ∷ w)))
  where
    go : (c r : Bool) → (c || r) ≡ cond c true r
    go true r = refl
    go false r = refl

-- How many words begin with t.
abbrev pub begun : List ℕ → List ℕ → Bool
begun t v = pointwise eqb t (take (length t) v)

pub count_words : (t : List ℕ) → 1 ≤ length t → (ns : List (List ℕ)) → length (filter (begun t) (ns ++ ([] ∷ []))) ≡ length (those_of (begins_with t) ns)
count_words [] h ns = absurd (omega arith)
count_words (b ∷ t) h [] = refl
count_words (b ∷ t) h (v ∷ ns) = rw (pointwise_turned (b ∷ t) (take (length (b ∷ t)) v)) (go (begins_with (b ∷ t) v) (count_words (b ∷ t) h ns))
  where
    go : (c : Bool) → length (filter (begun (b ∷ t)) (ns ++ ([] ∷ []))) ≡ length (those_of (begins_with (b ∷ t)) ns)
        → length (cond c (v ∷ filter (begun (b ∷ t)) (ns ++ ([] ∷ []))) (filter (begun (b ∷ t)) (ns ++ ([] ∷ []))))
        ≡ length (cond c (v ∷ those_of (begins_with (b ∷ t)) ns) (those_of (begins_with (b ∷ t)) ns))
    go true e = ap suc e
    go false e = e
