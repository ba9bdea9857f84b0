-- Checks down the table, some after others.
use mathlib.Core.Path.{◌≡◌, refl}
use mathlib.Core.Bool.{Bool, true, false}
use mathlib.Core.Option.{Option, none, some}
use mathlib.Core.List.{List, [], ◌∷◌, ◌++◌, map}
use Prim.Native.Nat.{ℕ}
use native.Mathlib.Omega.{arith}
use Rattle.spec_orders.specs.Lists.{All}
use Rattle.spec_calls.specs.declared.Refusal.{Refusal}
use Rattle.spec_calls.specs.Refusals.{refuse, first_refusal}

pub first_refusal_some : (xs ys : List (Option Refusal)) (r : Refusal) → first_refusal xs ≡ some r → first_refusal (xs ++ ys) ≡ some r
first_refusal_some [] ys r e = absurd (let z : ◌≡◌ {A = ℕ} 0 1 = cc in omega arith)
first_refusal_some (none ∷ xs) ys r e = first_refusal_some xs ys r e
first_refusal_some (some x ∷ xs) ys r e = e

pub first_refusal_none : (xs ys : List (Option Refusal)) → first_refusal xs ≡ none → first_refusal (xs ++ ys) ≡ first_refusal ys
first_refusal_none [] ys e = refl
first_refusal_none (none ∷ xs) ys e = first_refusal_none xs ys e
first_refusal_none (some x ∷ xs) ys e = absurd (let z : ◌≡◌ {A = ℕ} 0 1 = cc in omega arith)

pub first_refusal-left : (xs ys : List (Option Refusal)) → first_refusal (xs ++ ys) ≡ none → first_refusal xs ≡ none
first_refusal-left [] ys e = refl
first_refusal-left (none ∷ xs) ys e = first_refusal-left xs ys e
first_refusal-left (some x ∷ xs) ys e = e

-- Where none of them refuses, each passes.
pub first_refusal_passed : (cs : List (Bool × Refusal)) → first_refusal (map (λ c. refuse c.0 c.1) cs) ≡ none → All (λ c. c.0 ≡ false) cs
first_refusal_passed [] e = tt
first_refusal_passed ((false, r) ∷ cs) e = (refl, first_refusal_passed cs e)
first_refusal_passed ((true, r) ∷ cs) e = absurd (let z : ◌≡◌ {A = ℕ} 0 1 = cc in omega arith)

-- One by itself.
pub first_refusal-one : (x : Option Refusal) → first_refusal (x ∷ []) ≡ x
first_refusal-one none = refl
first_refusal-one (some r) = refl
