-- The marked circles a to l of document 01: the definitions answer what the table says.
use mathlib.Core.Bool.{true}
use mathlib.Core.Path.{◌≡◌, refl}
use Rattle.spec_orders.specs.Lists.{all_of}
use Rattle.spec_orders.specs.TreeText.{digits_in, digits, tree_text}
use Rattle.spec_orders.specs.Reduce.{reduce}
use Rattle.spec_orders.specs.Join.{fresh, side, join}
use Rattle.spec_orders.specs.Conflict.{consecutive?, possible?, leave_out, conflict_list}
use Rattle.spec_orders.specs.Circles.{right_from, right, circles}

pub circles-right : all_of right circles ≡ true
unfolding digits_in digits tree_text reduce fresh side join consecutive? possible? leave_out conflict_list right_from right circles
circles-right = refl
