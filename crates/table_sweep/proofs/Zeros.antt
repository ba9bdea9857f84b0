-- Zeros, place by place.
use Rattle.std.specs.Prelude.{EachIndex, IsTrue, ◌↔◌}
use Rattle.std.specs.List.{fold}
use lib.Bits.{bit_or}
use lib.Dec.{eqb}
use borrow.Author.Tests.{eq-eqb, eqb-true}
use Rattle.std.proofs.lemmas.Nat.{le_or_l, le_or_r}
use mathlib.Core.Path.{◌≡◌, refl, ap, ap₂, ◌∙◌}
use mathlib.Core.List.{List, [], ◌∷◌}
use Prim.Native.Nat.{ℕ, zero, suc}
use native.Mathlib.Omega.{arith}
use lib.ListN.{length, get_or, replicate, get_or-replicate, length-replicate}

pub zeros_are : (l : List ℕ) → EachIndex l (λ k. get_or l k 0 ≡ 0) → l ≡ replicate (length l) 0
zeros_are [] h = refl
zeros_are (x ∷ l) h = ap₂ ◌∷◌ (h 0 (omega arith)) (zeros_are l (λ k n. h (suc k) (omega arith)))

pub are_zeros : {l : List ℕ} (n : ℕ) → l ≡ replicate n 0 → EachIndex l (λ k. get_or l k 0 ≡ 0)
are_zeros {l} n e k h = ap (λ (m : List ℕ). get_or m k 0) e ∙ get_or-replicate n k 0 0 (omega (arith, ap length e, length-replicate {A = ℕ} n 0))

-- They are zero just where all their bits joined are.
no_bits : (d : ℕ) (l : List ℕ) → fold bit_or d l ≡ 0 → (d ≡ 0) × EachIndex l (λ k. get_or l k 0 ≡ 0)
no_bits d [] e = (e, λ k h. refl)
no_bits d (x ∷ l) e =
    let p = no_bits (bit_or d x) l e in
    (omega (arith, p.0, le_or_l d x), each p)
  where
    each : (bit_or d x ≡ 0) × EachIndex l (λ k. get_or l k 0 ≡ 0) → EachIndex (x ∷ l) (λ k. get_or (x ∷ l) k 0 ≡ 0)
    each p zero h = omega (arith, p.0, le_or_r d x)
    each p (suc k) h = p.1 k (omega arith)

joined_zeros : (l : List ℕ) → EachIndex l (λ k. get_or l k 0 ≡ 0) → fold bit_or 0 l ≡ 0
joined_zeros [] h = refl
joined_zeros (x ∷ l) h = rw (h 0 (omega arith)) (joined_zeros l (λ k n. h (suc k) (omega arith)))

pub zero_bits : (l : List ℕ) → IsTrue (eqb (fold bit_or 0 l) 0) ↔ EachIndex l (λ k. get_or l k 0 ≡ 0)
zero_bits l = (
  (λ t. (no_bits 0 l (eqb-true (fold bit_or 0 l) 0 t)).1),
  (λ h. eq-eqb (fold bit_or 0 l) 0 (joined_zeros l h)),
)
