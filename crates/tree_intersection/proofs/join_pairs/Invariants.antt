use mathlib.Core.Path.{◌≡◌}
use Prim.Native.Nat.{◌-◌, ◌≤◌}
use lib.ListN.{length}
use Rattle.spec_intersection.specs.Intersection.{item_pairs}
use Rattle.tree_tokens.proofs.Steps.{Left}
use Rattle.tree_intersection.specs.Intersect.{Growing}
use Rattle.tree_intersection.proofs.Growth.{Joining}
use Rattle.tree_intersection.proofs.join_pairs.Given as goal

abbrev pub invariant-loop-i : goal.invariant-loop-i
invariant-loop-i l = (l.i ≤ length l.toks) × (length l.into ≡ length l.initial.into) × Growing l.n l.into l.k × Left l.toks l.i (Joining item_pairs l.initial.into l.many l.into l.k)

abbrev pub decreases-loop-i : goal.decreases-loop-i
decreases-loop-i l = length l.toks - l.i
