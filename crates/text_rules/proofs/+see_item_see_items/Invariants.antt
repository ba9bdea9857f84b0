use mathlib.Core.Path.{◌≡◌}
use Prim.Native.Nat.{◌+◌, ◌-◌, ◌*◌, ◌≤◌}
use lib.ListN.{length}
use Rattle.spec_orders.specs.Tree.{Kind}
use Rattle.tree_tokens.proofs.Steps.{Left}
use Rattle.text_scanner.specs.Rule.{is_p}
use Rattle.text_rules.proofs.Seeing.{Goes}
use Prim.Native.Nat.{◌<◌}
use Rattle.text_rules.proofs.+see_item_see_items.Given as goal

abbrev pub decreases-see_item : goal.decreases-see_item
decreases-see_item l = 2 * length l.toks.now

abbrev pub invariant-see_items-loop-i : goal.invariant-see_items-loop-i
invariant-see_items-loop-i l = (l.i ≤ length l.toks) × (l.seen.end < l.o + 6 * l.i) × Left l.toks l.i (λ j h. (k : Kind) → l.rising ≡ is_p k → Goes k l.o l.seen j h)

abbrev pub decreases-see_items-loop-i : goal.decreases-see_items-loop-i
decreases-see_items-loop-i l = length l.toks - l.i

abbrev pub decreases-see_items : goal.decreases-see_items
decreases-see_items l = 2 * length l.toks.now + 1
