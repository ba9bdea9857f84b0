use mathlib.Core.Path.{◌≡◌}
use Prim.Native.Nat.{ℕ, ◌≤◌}
use lib.ListN.{length}
use Rattle.mark_words.specs.Marks.{marked}
use Rattle.spec_calls.specs.Calls.{group_numbered}
use Rattle.conflict_leaves.specs.StandIn.{Below}
use Rattle.conflict_leaves.proofs.add_book.Given as goal

abbrev pub invariant-loop-k : goal.invariant-loop-k
invariant-loop-k l = (l.k ≤ 96) × (length l.words ≡ 4) × Below (marked l.initial.words) (marked l.words) × ((j : ℕ) → 1 ≤ j → j ≤ l.k → Below (group_numbered l.book j) (marked l.words))
