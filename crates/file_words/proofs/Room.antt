-- Room for a name, and new names, as the code finds them.
use mathlib.Core.Path.{◌≡◌, refl, sym, ◌∙◌, ap, ap₂}
use mathlib.Core.Logic.{inl, inr}
use mathlib.Core.Bool.{Bool, true, false, cond, not}
use mathlib.Core.List.{List, [], ◌∷◌}
use Prim.Native.Nat.{ℕ, ◌≤◌, ◌<◌}
use native.Mathlib.Omega.{arith}
use lib.Dec.{eqb, ltb}
use lib.ListN.{length}
use borrow.Author.Tests.{lt-ltb, le-ltb}
use Rattle.std.specs.Bool.{MatchBool}
use Rattle.std.specs.Char.{IsAsciiAlphanumeric, IsNotAsciiAlphanumeric}
use Rattle.spec_orders.specs.Lists.{All, Distinct, elem, those_of, begins_with}
use Rattle.spec_orders.proofs.Members.{all_in, in_all}
use Rattle.file_syntax.specs.RingFile.{alphabet, NameByte, Name}
use Rattle.file_syntax.specs.Words.{Word, is_among}
use Rattle.file_syntax.specs.Scanner.{is_new, room, spare, longer}
use Rattle.file_syntax.proofs.Words.{no_space, upper, lower, digit, no_letter}
use Rattle.file_words.proofs.Counting.{spare_count}

-- The alphabet is the letters and digits.
pub alphabet_tested : (t : Bool) (b : ℕ) → MatchBool t (IsAsciiAlphanumeric b) (IsNotAsciiAlphanumeric b) → t ≡ elem alphabet b
alphabet_tested true b (inl (inl h)) = sym (digit b h.0 (omega (arith, h.1)))
alphabet_tested true b (inl (inr h)) = sym (upper b h.0 (omega (arith, h.1)))
alphabet_tested true b (inr h) = sym (lower b h.0 (omega (arith, h.1)))
alphabet_tested false b h = sym (no_letter b (λ k. grind (arith, h, k)) (λ k. grind (arith, h, k)) (λ k. grind (arith, h, k)))

pub name_words : (ns : List (List ℕ)) → All Name ns → All Word ns
name_words ns h = in_all Word ns (λ w i. in_all (λ b. b ≡ 32 → ⊥) w (λ b j. no_space b (all_in NameByte b w (all_in Name w ns h i).each j)))

-- How many names begin with the same m bytes, 7 or more.
abbrev pub limit : ℕ → ℕ
limit m = cond (eqb m 7) 63 (cond (eqb m 8) 1 0)

-- Room, as the code counts it.
pub room-short : (ns : List (List ℕ)) (t : List ℕ) → length t < 7 → true ≡ room ns t
room-short ns t h = sym (ap (λ c. cond c true (spare ns (longer t))) (lt-ltb (length t) 7 h))

module _ (ns : List (List ℕ)) (t : List ℕ) (k : All Name ns) (d : Distinct ns) (n : ℕ) (e : n ≡ length (those_of (begins_with t) ns)) where
  room_count : 7 ≤ length t → (m : ℕ) → limit (length t) ≡ m → room ns t ≡ ltb n m
  room_count h m q = ap (λ c. cond c true (spare ns (longer t))) (le-ltb (length t) 7 h) ∙ spare_count ns t k d h ∙ ap₂ ltb (sym e) q

  pub room_test : 7 ≤ length t → ltb n (limit (length t)) ≡ room ns t
  room_test h = sym (room_count h (limit (length t)) refl)

pub new_empty : (ns : List (List ℕ)) (w : List ℕ) → length w ≡ 0 → false ≡ is_new ns w
new_empty ns [] h = refl
new_empty ns (b ∷ w) h = absurd (omega arith)

pub new_is : (ns : List (List ℕ)) (w : List ℕ) (c : Bool) → 1 ≤ length w → is_among ns w ≡ c → not c ≡ is_new ns w
new_is ns [] c h e = absurd (omega arith)
new_is ns (b ∷ w) c h e = ap not (sym e)
