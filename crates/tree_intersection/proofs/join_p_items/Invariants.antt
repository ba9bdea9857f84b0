use mathlib.Core.Path.{◌≡◌}
use lib.ListN.{length}
use Rattle.spec_intersection.specs.Intersection.{p_items}
use Rattle.tree_tokens.proofs.Steps.{StillLeft}
use Rattle.tree_intersection.specs.Intersect.{Growing}
use Rattle.tree_intersection.proofs.Growth.{Joining}
use Rattle.tree_intersection.proofs.join_p_items.Given as goal

abbrev pub invariant-loop-item : goal.invariant-loop-item
invariant-loop-item l = (length l.into ≡ length l.initial.into) × Growing l.n l.into l.k × StillLeft l.toks l.item-iterator (Joining p_items l.initial.into l.many l.into l.k)
