use Rattle.record_sweep.proofs.Laws.{Going}
use Rattle.record_sweep.proofs.sweep.Given as goal

abbrev pub invariant-loop-r : goal.invariant-loop-r
invariant-loop-r l = Going l.nodes l.initial.r l.n l.fn.work l.r l.work
