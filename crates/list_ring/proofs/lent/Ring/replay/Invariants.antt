use Rattle.list_ring.specs.Stands.{SameTables, StandsAt}
use Rattle.list_ring.proofs.lent.Ring.replay.Given as goal

abbrev pub invariant-loop-l : goal.invariant-loop-l
invariant-loop-l l = StandsAt l.file.holds l.l l.ring × SameTables l.initial.ring l.ring
