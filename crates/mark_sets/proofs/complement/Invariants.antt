-- The first i words are those of the leaves outside, the others are as they were, and n - 64 * i leaves are left for them; all words fit.
use Prim.Native.Nat.{◌-◌, ◌*◌}
use mathlib.Core.Path.{◌≡◌}
use Rattle.mark_words.specs.Marks.{marked, outside}
use Rattle.mark_words.proofs.Words.{Words, Written}
use Rattle.mark_sets.proofs.complement.Given as goal

abbrev pub invariant-loop-i : goal.invariant-loop-i
invariant-loop-i l = Written (outside l.n (marked l.initial.words)) l.i l.initial.words l.words × ((l.left ≡ l.n - 64 * l.i) × Words l.initial.words)
