-- A number has few digits.
use mathlib.Core.Path.{◌≡◌, refl, ap}
use mathlib.Core.Bool.{Bool, true, false}
use mathlib.Core.List.{[], ◌∷◌}
use Prim.Native.Nat.{ℕ, zero, suc, ◌+◌, ◌*◌, ◌/◌, ◌%◌, ◌^◌, ◌≤◌, ◌<◌}
use native.Mathlib.Omega.{arith}
use borrow.Author.Tests.{ltb-true, ltb-false}
use lib.Dec.{ltb}
use lib.ListN.{length, length-append}
use Rattle.spec_orders.specs.TreeText.{digits}
use Rattle.spec_orders.proofs.Digits.{digits-one, digits_step}

-- A number below 10 ^ k has at most k digits.
abbrev tens : ℕ → ℕ
tens zero = 1
tens (suc k) = 10 * tens k

one_more : (v k : ℕ) (b : Bool) → ltb v 10 ≡ b → (10 ≤ v → length (digits (v / 10)) ≤ k) → length (digits v) ≤ suc k
one_more v k true e h = omega (arith, ap length (digits-one v (ltb-true v 10 e)))
one_more v k false e h =
    let l = ltb-false v 10 e in
    omega (arith, h l, ap length (digits_step v l), length-append (digits (v / 10)) ((48 + v % 10) ∷ []))

digits_below : (k v : ℕ) → v < tens (suc k) → length (digits v) ≤ suc k
digits_below zero v h = omega (arith, ap length (digits-one v h))
digits_below (suc k) v h = one_more v (suc k) (ltb v 10) refl (λ l. digits_below k (v / 10) (omega arith))

pub digits-few : (v : ℕ) → v < 2 ^ 64 → length (digits v) ≤ 20
digits-few v h = digits_below 19 v (omega arith)
