use Rattle.spec_intersection.specs.Intersection.{characteristic}
use Rattle.tree_tokens.proofs.Steps.{Left}
use Rattle.tree_intersection.specs.Intersect.{Growing}
use Rattle.tree_intersection.proofs.Growth.{Joining}
use Rattle.tree_intersection.proofs.join_groups.Given as goal

abbrev pub invariant-loop-i : goal.invariant-loop-i
invariant-loop-i l = Growing l.n l.into l.k × Left l.toks l.i (Joining characteristic l.initial.into l.many l.into l.k)
