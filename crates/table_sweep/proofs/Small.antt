-- Small laws of the numbers in a record.
use mathlib.Core.Path.{◌≡◌}
use Prim.Native.Nat.{ℕ, zero, suc, ◌≤◌}
use native.Mathlib.Omega.{arith}
use Rattle.table_reading.specs.Reading.{head}

pub head_small : (m b t : ℕ) → t ≡ head m b → m ≤ 511 → b ≤ 511 → t ≤ 511
head_small zero b t e l h = omega arith
head_small (suc m) b t e l h = omega arith
