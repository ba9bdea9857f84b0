use Rattle.record_copy.proofs.Laws.{Loaded}
use Rattle.record_copy.proofs.load.Given as goal

abbrev pub invariant-loop-i : goal.invariant-loop-i
invariant-loop-i l = Loaded l.nodes l.fn.flat l.i-end l.i l.flat
