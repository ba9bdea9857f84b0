-- How many digits a number has: one, or one more.
use mathlib.Core.Path.{◌≡◌, ap}
use mathlib.Core.List.{[], ◌∷◌}
use Prim.Native.Nat.{ℕ, suc, ◌+◌, ◌/◌, ◌%◌, ◌≤◌, ◌<◌}
use native.Mathlib.Omega.{arith}
use lib.ListN.{length, length-append}
use Rattle.spec_orders.specs.TreeText.{digits}
use Rattle.spec_orders.proofs.Digits.{digits-one, digits_step}

pub one_digit : (b : ℕ) → b < 10 → length (digits b) ≡ 1
one_digit b h = ap length (digits-one b h)

pub more_digits : (b : ℕ) → 10 ≤ b → length (digits b) ≡ suc (length (digits (b / 10)))
more_digits b h = omega (arith, ap length (digits_step b h), length-append (digits (b / 10)) ((48 + b % 10) ∷ []))
