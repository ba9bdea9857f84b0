use mathlib.Core.Path.{◌≡◌}
use mathlib.Core.Bool.{true}
use Prim.Native.Nat.{ℕ, ◌+◌, ◌≤◌, ◌<◌}
use Rattle.mark_words.specs.Marks.{marked}
use Rattle.conflict_leaves.proofs.first_unmarked.Given as goal

abbrev pub invariant-loop-b : goal.invariant-loop-b
invariant-loop-b l = (1 ≤ l.b) × (l.b ≤ l.n + 1) × ((x : ℕ) → 1 ≤ x → x < l.b → marked l.words x ≡ true)
