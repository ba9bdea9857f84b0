-- The words of a first line: where each stands, and that those of an accepted file are its names.
use mathlib.Core.Path.{◌≡◌, refl, sym, ◌∙◌, ap, subst}
use mathlib.Core.Bool.{Bool, true, false, cond}
use mathlib.Core.List.{List, [], ◌∷◌, ◌++◌, append_assoc}
use Prim.Native.Nat.{ℕ, zero, suc, ◌+◌, ◌≤◌, ◌<◌}
use native.Mathlib.Omega.{arith}
use lib.Dec.{eqb, ltb}
use lib.ListN.{length, take, drop, get_or, get_or-eq_default}
use borrow.Author.Tests.{ne_eqb, ltb-true, ltb-false}
use Rattle.spec_orders.specs.Lists.{All}
use Rattle.file_syntax.specs.RingFile.{NameByte, Name, Value, further, line, value_lines, file_bytes, Rules, place_of, in_front, words_in, name_in, name_start}
use Rattle.file_syntax.specs.Words.{word_end}
use Rattle.file_syntax.proofs.Words.{no_space, no_end}

-- There is always a word, maybe of no byte.
pub some_word : (x : List ℕ) → 1 ≤ length (words_in x)
some_word [] = omega arith
some_word (b ∷ x) = go (eqb b 32) (eqb b 10) (words_in x)
  where
    go : (c d : Bool) (ws : List (List ℕ)) → 1 ≤ length (cond c ([] ∷ ws) (cond d ([] ∷ []) (in_front b ws)))
    go true d ws = omega arith
    go false true ws = omega arith
    go false false [] = omega arith
    go false false (w ∷ ws) = omega arith

-- The bytes x begin with the word w, and it ends there; word number k stands in x.
pub record WordHere (x w : List ℕ) : Type 0 where
  pub size : word_end x ≡ length w
  pub is : take (length w) x ≡ w

pub record WordStands (x : List ℕ) (ws : List (List ℕ)) (k : ℕ) : Type 0 where
  pub named : WordHere (drop (place_of ws k) x) (get_or ws k [])
  pub inside : place_of ws k + length (get_or ws k []) ≤ length x

pub at_word : (x : List ℕ) (k : ℕ) → k < length (words_in x) → WordStands x (words_in x) k
at_word [] zero l = record { named = record { size = refl; is = refl }; inside = omega arith }
at_word [] (suc k) l = absurd (omega arith)
at_word (b ∷ x) k l = go (eqb b 32) (eqb b 10) refl refl (words_in x) (some_word x) (at_word x) k l
  where
    first : (w : List ℕ) → word_end (b ∷ x) ≡ length w → take (length w) (b ∷ x) ≡ w → (ws : List (List ℕ)) → length w ≤ suc (length x)
        → WordStands (b ∷ x) (w ∷ ws) 0
    first w e t ws m = record { named = record { size = e; is = t }; inside = omega arith }

    next : (ws us : List (List ℕ)) (i j : ℕ) → place_of us i ≡ suc (place_of ws j) → get_or us i [] ≡ get_or ws j [] → WordStands x ws j → WordStands (b ∷ x) us i
    next ws us i j e f s = record {
      named = subst (λ p. WordHere (drop p (b ∷ x)) (get_or us i [])) (sym e) (subst (WordHere (drop (place_of ws j) x)) (sym f) s.named);
      inside = omega (arith, e, ap length f, s.inside);
    }

    go : (c d : Bool) → eqb b 32 ≡ c → eqb b 10 ≡ d → (ws : List (List ℕ)) → 1 ≤ length ws → ((j : ℕ) → j < length ws → WordStands x ws j) → (i : ℕ)
        → i < length (cond c ([] ∷ ws) (cond d ([] ∷ []) (in_front b ws))) → WordStands (b ∷ x) (cond c ([] ∷ ws) (cond d ([] ∷ []) (in_front b ws))) i
    go true d p q ws s h zero m = first [] (rw p) refl ws (omega arith)
    go true d p q ws s h (suc i) m = next ws ([] ∷ ws) (suc i) i (omega arith) refl (h i (omega arith))
    go false true p q ws s h zero m = first [] (rw (p, q)) refl [] (omega arith)
    go false true p q ws s h (suc i) m = absurd (omega arith)
    go false false p q [] s h i m = absurd (omega arith)
    go false false p q (w ∷ ws) s h zero m =
        let f = h zero (omega arith) in
        first (b ∷ w) (rw (p, q) (omega (arith, f.named.size))) (ap (λ l. b ∷ l) f.named.is) ws (omega (arith, f.inside))
    go false false p q (w ∷ ws) s h (suc i) m = next (w ∷ ws) ((b ∷ w) ∷ ws) (suc i) (suc i) (omega arith) refl (h (suc i) (omega arith))

-- A name is a part of the bytes, whatever they are.
pub name_part : (x : List ℕ) (k : ℕ) → (name_start x k + length (name_in x k) ≤ length x) × (take (length (name_in x k)) (drop (name_start x k) x) ≡ name_in x k)
unfolding name_start name_in
name_part x k = go (ltb k (length (words_in x))) refl
  where
    go : (c : Bool) → ltb k (length (words_in x)) ≡ c → (cond c (place_of (words_in x) k) 0 + length (get_or (words_in x) k []) ≤ length x)
        × (take (length (get_or (words_in x) k [])) (drop (cond c (place_of (words_in x) k) 0) x) ≡ get_or (words_in x) k [])
    go true e = let f = at_word x k (ltb-true k (length (words_in x)) e) in (f.inside, f.named.is)
    go false e = rw (get_or-eq_default (words_in x) [] (ltb-false k (length (words_in x)) e)) (omega arith, refl)

-- A word with no space and no line end, and what follows it.
word_space : (w z : List ℕ) → All NameByte w → words_in (w ++ (32 ∷ z)) ≡ w ∷ words_in z
word_space [] z h = refl
word_space (b ∷ w) z h = rw (ne_eqb b 32 (no_space b h.0), ne_eqb b 10 (no_end b h.0), word_space w z h.1)

word_last : (w z : List ℕ) → All NameByte w → words_in (w ++ (10 ∷ z)) ≡ w ∷ []
word_last [] z h = refl
word_last (b ∷ w) z h = rw (ne_eqb b 32 (no_space b h.0), ne_eqb b 10 (no_end b h.0), word_last w z h.1)

words_line : (w : List ℕ) (ws : List (List ℕ)) (t : List ℕ) → All Name (w ∷ ws) → words_in (line (w ∷ ws) ++ t) ≡ w ∷ ws
words_line w [] t h = ap words_in (append_assoc w (10 ∷ []) t) ∙ word_last w t h.0.each
words_line w (v ∷ ws) t h =
    ap words_in (append_assoc w (further (v ∷ ws)) t) ∙ word_space w (line (v ∷ ws) ++ t) h.0.each ∙ ap (λ l. w ∷ l) (words_line v ws t h.1)

pub words_file : (ns : List (List ℕ)) (vss : List (List Value)) (x : List ℕ) → Rules ns vss → x ≡ file_bytes ns vss → words_in x ≡ ns
words_file [] vss x r e = absurd (omega (arith, r.names.some_name))
words_file (w ∷ ws) vss x r e = ap words_in e ∙ words_line w ws (value_lines vss) r.names.each
