use Rattle.record_copy.proofs.Laws.{Stored}
use Rattle.record_copy.proofs.store.Given as goal

abbrev pub invariant-loop-i : goal.invariant-loop-i
invariant-loop-i l = Stored l.flat l.fn.nodes l.i-end l.i l.nodes
