use Rattle.std.proofs.Common.{◌≡◌, true, ℕ, ◌≤◌, Result}
use Rattle.text_scanner.specs.Unused.{any_start}
use Rattle.text_number.specs.declared.Numeral.{Numeral}
use Rattle.text_number.specs.Numbers.{NumberRead}
use Rattle.text_number.proofs.number.Given as goal

abbrev pub invariant-loop-to : goal.invariant-loop-to
invariant-loop-to l = (1 ≤ l.leaf) × (any_start l.leaf 0 l.used ≡ true) × ((r : Result Numeral ℕ) → NumberRead l.text l.to l.leaf l.used r → NumberRead l.text l.at l.v l.used r)
