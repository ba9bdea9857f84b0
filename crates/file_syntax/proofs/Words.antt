-- What the tests on bytes and words say.
use mathlib.Core.Path.{◌≡◌, refl, sym, ap, subst}
use mathlib.Core.Logic.{◌⊎◌, inl, inr}
use mathlib.Core.Bool.{Bool, true, false, not, true≢false}
use mathlib.Core.List.{List, [], ◌∷◌, ◌++◌}
use Prim.Native.Nat.{ℕ, ◌+◌, ◌≤◌, ◌<◌}
use native.Mathlib.Omega.{arith}
use borrow.Author.Tests.{not-true}
use lib.ListN.{length}
use Rattle.spec_orders.specs.Lists.{In, Distinct, same, numbers_from, elem}
use Rattle.spec_orders.proofs.Members.{in_append, in_left, in_right, of_some, to_some, elem_in, in_elem}
use Rattle.spec_orders.proofs.Numbers.{in_range, numbers_in, numbers_distinct}
use Rattle.spec_orders.proofs.FormTests.{same_decides}
use Rattle.spec_orders.proofs.Tests.{false_if}
use Rattle.file_syntax.specs.RingFile.{alphabet, NameByte}
use Rattle.file_syntax.specs.Words.{is_among}
use Rattle.file_syntax.specs.Scanner.{spare, is_new}
use Rattle.file_syntax.proofs.Lists.{clash, distinct_append}

pub same_true : (a b : List ℕ) → same a b ≡ true → a ≡ b
same_true a b = (same_decides a b).0

pub same_self : (a : List ℕ) → same a a ≡ true
same_self a = (same_decides a a).1 refl

pub among_in : (ns : List (List ℕ)) (w : List ℕ) → is_among ns w ≡ true → In w ns
among_in ns w e = let r = of_some (same w) ns e in subst (λ z. In z ns) (sym (same_true w r.0 r.2)) r.1

pub in_among : (ns : List (List ℕ)) (w : List ℕ) → In w ns → is_among ns w ≡ true
in_among ns w i = to_some (same w) ns w i (same_self w)

pub not_among : (ns : List (List ℕ)) (w : List ℕ) → (In w ns → ⊥) → is_among ns w ≡ false
not_among ns w n = false_if (is_among ns w) (λ q. n (among_in ns w q))

-- A candidate that is no earlier name.
pub record Spare (ns cs : List (List ℕ)) : Type 0 where
  pub one : List ℕ
  pub candidate : In one cs
  pub new : In one ns → ⊥

pub spare_true : (ns cs : List (List ℕ)) → spare ns cs ≡ true → Spare ns cs
spare_true ns cs e =
    let r = of_some (λ c. not (is_among ns c)) cs e in
    record { one = r.0; candidate = r.1; new = λ i. clash (in_among ns r.0 i) (not-true (is_among ns r.0) r.2) }

pub true_spare : (ns cs : List (List ℕ)) (v : List ℕ) → In v cs → (In v ns → ⊥) → spare ns cs ≡ true
true_spare ns cs v i n = to_some (λ c. not (is_among ns c)) cs v i (ap not (not_among ns v n))

pub no_spare : (ns cs : List (List ℕ)) → spare ns cs ≡ false → (v : List ℕ) → In v cs → In v ns
no_spare ns cs e v i = go (is_among ns v) refl
  where
    go : (t : Bool) → is_among ns v ≡ t → In v ns
    go true q = among_in ns v q
    go false q = clash (true_spare ns cs v i (λ j. clash (in_among ns v j) q)) e

pub new_true : (ns : List (List ℕ)) (w : List ℕ) → is_new ns w ≡ true → (1 ≤ length w) × (In w ns → ⊥)
new_true ns [] e = absurd (true≢false (sym e))
new_true ns (b ∷ w) e = (omega arith, λ i. clash (in_among ns (b ∷ w) i) (not-true (is_among ns (b ∷ w)) e))

pub true_new : (ns : List (List ℕ)) (w : List ℕ) → 1 ≤ length w → (In w ns → ⊥) → is_new ns w ≡ true
true_new ns [] h n = absurd (omega arith)
true_new ns (b ∷ w) h n = ap not (not_among ns (b ∷ w) n)

-- The alphabet.
pub distinct_alphabet : Distinct alphabet
unfolding alphabet
distinct_alphabet =
    distinct_append (numbers_from 65 26) (numbers_from 97 26 ++ numbers_from 48 10) (numbers_distinct 65 26)
    (distinct_append (numbers_from 97 26) (numbers_from 48 10) (numbers_distinct 97 26) (numbers_distinct 48 10)
    (λ b i j. let p = in_range 97 26 b i in let q = in_range 48 10 b j in absurd (omega arith)))
    (λ b i j. away b (in_range 65 26 b i) (in_append b (numbers_from 97 26) (numbers_from 48 10) j))
  where
    away : (b : ℕ) → (65 ≤ b) × (b < 65 + 26) → In b (numbers_from 97 26) ⊎ In b (numbers_from 48 10) → ⊥
    away b p (inl j) = let q = in_range 97 26 b j in omega arith
    away b p (inr j) = let q = in_range 48 10 b j in omega arith

pub length-alphabet : length alphabet ≡ 62
unfolding alphabet
length-alphabet = refl

pub upper : (b : ℕ) → 65 ≤ b → b < 91 → elem alphabet b ≡ true
unfolding alphabet
upper b h k = in_elem alphabet b (in_left b (numbers_from 65 26) (numbers_from 97 26 ++ numbers_from 48 10) (numbers_in 65 26 b h k))

pub lower : (b : ℕ) → 97 ≤ b → b < 123 → elem alphabet b ≡ true
unfolding alphabet
lower b h k =
    in_elem alphabet b (in_right b (numbers_from 65 26) (numbers_from 97 26 ++ numbers_from 48 10) (in_left b (numbers_from 97 26) (numbers_from 48 10) (numbers_in 97 26 b h k)))

pub digit : (b : ℕ) → 48 ≤ b → b < 58 → elem alphabet b ≡ true
unfolding alphabet
digit b h k =
    in_elem alphabet b (in_right b (numbers_from 65 26) (numbers_from 97 26 ++ numbers_from 48 10) (in_right b (numbers_from 97 26) (numbers_from 48 10) (numbers_in 48 10 b h k)))

pub no_letter : (b : ℕ) → ((65 ≤ b) × (b < 91) → ⊥) → ((97 ≤ b) × (b < 123) → ⊥) → ((48 ≤ b) × (b < 58) → ⊥) → elem alphabet b ≡ false
unfolding alphabet
no_letter b h k l = false_if (elem alphabet b) (λ e. go (in_append b (numbers_from 65 26) (numbers_from 97 26 ++ numbers_from 48 10) (elem_in alphabet b e)))
  where
    go2 : In b (numbers_from 97 26) ⊎ In b (numbers_from 48 10) → ⊥
    go2 (inl i) = k (in_range 97 26 b i)
    go2 (inr i) = l (in_range 48 10 b i)

    go : In b (numbers_from 65 26) ⊎ In b (numbers_from 97 26 ++ numbers_from 48 10) → ⊥
    go (inl i) = h (in_range 65 26 b i)
    go (inr i) = go2 (in_append b (numbers_from 97 26) (numbers_from 48 10) i)

-- Neither a space nor a line end is a byte of a name.
pub no_space : (b : ℕ) → NameByte b → b ≡ 32 → ⊥
no_space b i e = clash (in_elem alphabet b i) (no_letter b (omega arith) (omega arith) (omega arith))

pub no_end : (b : ℕ) → NameByte b → b ≡ 10 → ⊥
no_end b i e = clash (in_elem alphabet b i) (no_letter b (omega arith) (omega arith) (omega arith))
