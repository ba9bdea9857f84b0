use mathlib.Core.Path.{◌≡◌}
use Prim.Native.Nat.{◌-◌, ◌≤◌}
use lib.ListN.{length}
use Rattle.spec_orders.specs.Tree.{Forest}
use Rattle.tree_tokens.specs.Tokens.{flat}
use Rattle.tree_seen.specs.Seen.{ItemAt}
use Rattle.tree_seen.proofs.before.Given as goal

abbrev pub invariant-loop-e : goal.invariant-loop-e
invariant-loop-e l = (l.i ≤ l.p) × (l.e ≤ length l.toks) × ((f : Forest) → l.toks ≡ flat f → ItemAt f l.i l.e)

abbrev pub decreases-loop-e : goal.decreases-loop-e
decreases-loop-e l = length l.toks - l.e
