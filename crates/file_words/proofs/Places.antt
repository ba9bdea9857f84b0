-- Where the words of a first line stand.
use mathlib.Core.Path.{◌≡◌, refl, sym, ◌∙◌, ap, ap₂}
use mathlib.Core.Bool.{Bool, true, false, cond, not, ◌||◌}
use Rattle.std.specs.Prelude.{◌==◌, nat_lt, Some, None, position, unwrap_or}
use Rattle.std.specs.List.{position_or_len}
use Rattle.std.proofs.lemmas.List.Sums.{prefix_len-le-length}
use mathlib.Core.List.{List, [], ◌∷◌}
use Prim.Native.Nat.{ℕ, zero, suc, ◌+◌, ◌-◌, ◌≤◌, ◌<◌}
use native.Mathlib.Omega.{arith}
use native.Mathlib.Numerals.{add-one}
use lib.Dec.{eqb, ltb, leb-suc-suc}
use lib.ListN.{length, take, drop, get_or, drop_of_length-le, get_or-eq_default}
use lib.Seq.{drop-cons}
use borrow.Author.Tests.{eq-eqb, ne_eqb, lt-ltb, le-ltb, ltb-true, ltb-false}
use Rattle.spec_orders.proofs.ListLaws.{part_is, part_to_end}
use Rattle.file_syntax.specs.RingFile.{place_of, in_front, words_in, name_in, name_start}
use Rattle.file_syntax.specs.Words.{word_end, place_in}
use Rattle.file_syntax.proofs.FirstLine.{some_word, at_word, name_part}

-- word_end, by the first byte that ends a word.
abbrev pub ends : ℕ → Bool
ends b = (b == 32) || (b == 10)

end_first : (x : List ℕ) → position_or_len ends x ≡ word_end x
end_first [] = refl
end_first (b ∷ x) = go (eqb b 32) (eqb b 10) (end_first x)
  where
    go : (c d : Bool) → position_or_len ends x ≡ word_end x
        → cond (not (c || d)) (1 + position_or_len ends x) 0 ≡ cond c 0 (cond d 0 (1 + word_end x))
    go true d e = refl
    go false true e = refl
    go false false e = ap (λ n. 1 + n) e

pub end_position : (x : List ℕ) → unwrap_or (position ends x) (length x) ≡ word_end x
end_position x = go (nat_lt (position_or_len ends x) (length x)) refl ∙ end_first x
  where
    go : (c : Bool) → nat_lt (position_or_len ends x) (length x) ≡ c → unwrap_or (cond c (Some (position_or_len ends x)) None) (length x) ≡ position_or_len ends x
    go true e = refl
    go false e = omega (arith, ltb-false (position_or_len ends x) (length x) e, prefix_len-le-length (λ b. not (ends b)) x)

-- place_in, by a loop: at the word, at the end of the line, and one byte on.
pub place-first : (x : List ℕ) (k : ℕ) → k ≡ 0 → place_in x k ≡ 0
unfolding place_in
place-first x k e = rw (e, lt-ltb 0 (length (words_in x)) (some_word x)) (go (words_in x))
  where
    go : (ws : List (List ℕ)) → place_of ws 0 ≡ 0
    go [] = refl
    go (w ∷ ws) = refl

no_more : (x : List ℕ) (k : ℕ) → length (words_in x) ≤ k → place_in x k ≡ 1 + length x
unfolding place_in
no_more x k h = rw (le-ltb k (length (words_in x)) h)

pub place_out : (x : List ℕ) (k i : ℕ) → length x ≤ i → 1 ≤ k → place_in (drop i x) k ≡ 1 + length (drop i x)
place_out x k i h l = no_more (drop i x) k (rw (drop_of_length-le x h) (omega arith))

pub place_end : (x : List ℕ) (k i : ℕ) → i < length x → 1 ≤ k → get_or x i 0 ≡ 10 → place_in (drop i x) k ≡ 1 + length (drop i x)
place_end x k i h l e = no_more (drop i x) k (rw (drop-cons x i 0 h, e) (omega arith))

one_on : (c : Bool) (a b d e : ℕ) → a ≡ 1 + d → b ≡ 1 + e → cond c a b ≡ 1 + cond c d e
one_on true a b d e p q = p
one_on false a b d e p q = q

place_byte : (b : ℕ) (x : List ℕ) (k : ℕ) → (b ≡ 10 → ⊥) → place_in (b ∷ x) (suc k) ≡ 1 + place_in x (cond (eqb b 32) k (suc k))
unfolding place_in
place_byte b x k n = go (eqb b 32) (eqb b 10) (ne_eqb b 10 n) (words_in x) (some_word x)
  where
    at : List (List ℕ) → ℕ → ℕ → ℕ
    at ws j m = cond (ltb j (length ws)) (place_of ws j) m

    go : (c d : Bool) → d ≡ false → (ws : List (List ℕ)) → 1 ≤ length ws
        → at (cond c ([] ∷ ws) (cond d ([] ∷ []) (in_front b ws))) (suc k) (1 + suc (length x)) ≡ 1 + at ws (cond c k (suc k)) (1 + length x)
    go true d q ws s = rw (leb-suc-suc (suc k) (length ws)) (one_on (ltb k (length ws)) _ _ _ _ (omega arith) (omega arith))
    go false true q ws s = cc
    go false false q [] s = absurd (omega arith)
    go false false q (w ∷ ws) s = one_on (ltb (suc k) (suc (length ws))) _ _ _ _ (omega arith) (omega arith)

place-one : (x : List ℕ) (k i : ℕ) → i < length x → 1 ≤ k → (get_or x i 0 ≡ 10 → ⊥)
    → place_in (drop i x) k ≡ 1 + place_in (drop (i + 1) x) (cond (eqb (get_or x i 0) 32) (k - 1) k)
place-one x zero i h l n = absurd (omega arith)
place-one x (suc k) i h l n =
    let e : suc k - 1 ≡ k = omega arith in
    rw (add-one, drop-cons x i 0 h, e) (place_byte (get_or x i 0) (drop (suc i) x) k n)

pub place_space : (x : List ℕ) (k i : ℕ) → i < length x → 1 ≤ k → get_or x i 0 ≡ 32 → place_in (drop i x) k ≡ 1 + place_in (drop (i + 1) x) (k - 1)
place_space x k i h l e = place-one x k i h l (λ q. omega (arith, e, q)) ∙ rw (eq-eqb (get_or x i 0) 32 e)

pub place-letter : (x : List ℕ) (k i : ℕ) → i < length x → 1 ≤ k → (get_or x i 0 ≡ 10 → ⊥) → (get_or x i 0 ≡ 32 → ⊥)
    → place_in (drop i x) k ≡ 1 + place_in (drop (i + 1) x) k
place-letter x k i h l n m = place-one x k i h l n ∙ rw (ne_eqb (get_or x i 0) 32 m)

-- What is found there: the name; or none, where the place is past the last byte.
module _ (x : List ℕ) (k s : ℕ) (p : s ≡ place_in x k) where
  there : k < length (words_in x) → s ≡ place_of (words_in x) k
  unfolding place_in
  there h = p ∙ rw (lt-ltb k (length (words_in x)) h)

  pub name_none : length x < s → (0 ≡ name_start x k) × (0 ≡ length (name_in x k))
  unfolding name_start name_in
  name_none h = go (ltb k (length (words_in x))) refl
    where
      go : (c : Bool) → ltb k (length (words_in x)) ≡ c → (0 ≡ cond c (place_of (words_in x) k) 0) × (0 ≡ length (get_or (words_in x) k []))
      go true e = let l = ltb-true k (length (words_in x)) e in absurd (omega (arith, there l, (at_word x k l).inside))
      go false e = (refl, sym (ap length (get_or-eq_default (words_in x) [] (ltb-false k (length (words_in x)) e))))

  pub name_found : (n : ℕ) → s ≤ length x → n ≡ word_end (take (length x - s) (drop s x)) → (s ≡ name_start x k) × (n ≡ length (name_in x k))
  unfolding name_start name_in
  name_found n h q = go (ltb k (length (words_in x))) refl
    where
      go : (c : Bool) → ltb k (length (words_in x)) ≡ c → (s ≡ cond c (place_of (words_in x) k) 0) × (n ≡ length (get_or (words_in x) k []))
      go false e = let o : s ≡ 1 + length x = p ∙ no_more x k (ltb-false k (length (words_in x)) e) in absurd (omega arith)
      go true e =
          let l = ltb-true k (length (words_in x)) e in
          (there l, q ∙ ap word_end (part_to_end x s ∙ ap (λ j. drop j x) (there l)) ∙ (at_word x k l).named.size)

-- The part of the bytes that is cut out.
pub name_inside : (x : List ℕ) (k s n : ℕ) → s ≡ name_start x k → n ≡ length (name_in x k) → s + n ≤ length x
name_inside x k s n p q = omega (arith, p, q, (name_part x k).0)

pub name_there : (x : List ℕ) (k s n : ℕ) → s ≡ name_start x k → n ≡ length (name_in x k) → take (s + n - s) (drop s x) ≡ name_in x k
name_there x k s n p q = part_is x s n ∙ ap₂ (λ i j. take i (drop j x)) q p ∙ (name_part x k).1
