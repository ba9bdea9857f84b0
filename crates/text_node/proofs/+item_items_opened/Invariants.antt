use Prim.Native.Nat.{◌+◌, ◌*◌, ◌-◌}
use lib.ListN.{length}
use Rattle.text_node.proofs.+item_items_opened.Given as goal

abbrev pub decreases-item : goal.decreases-item
decreases-item l = 2 * (length l.text.now - l.at)

abbrev pub decreases-items : goal.decreases-items
decreases-items l = 2 * (length l.text.now - l.at) + 1

abbrev pub decreases-opened : goal.decreases-opened
decreases-opened l = 2 * (length l.text.now - l.at)
