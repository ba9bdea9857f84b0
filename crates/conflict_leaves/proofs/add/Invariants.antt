use Rattle.mark_words.specs.Marks.{marked, either}
use Rattle.mark_words.proofs.Words.{Written}
use Rattle.conflict_leaves.proofs.add.Given as goal

abbrev pub invariant-loop-i : goal.invariant-loop-i
invariant-loop-i l = Written (either (marked l.initial.words) (marked l.more)) l.i l.initial.words l.words
