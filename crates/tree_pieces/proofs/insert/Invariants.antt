use mathlib.Core.Path.{◌≡◌}
use mathlib.Core.List.{List}
use Prim.Native.Nat.{ℕ, ◌-◌, ◌≤◌}
use lib.ListN.{length}
use Rattle.spec_orders.specs.Tree.{Forest}
use Rattle.spec_orders.specs.Form.{first}
use Rattle.tree_tokens.specs.Tokens.{Judged, flat}
use Rattle.tree_pieces.proofs.Laws.{placed}
use Rattle.tree_pieces.proofs.Walks.{Writing}
use Rattle.tree_pieces.proofs.insert.Given as goal

abbrev text : Forest → Judged → List ℕ
text g j = flat (placed g j)

abbrev pub invariant-loop-i : goal.invariant-loop-i
invariant-loop-i l = (l.i ≤ length l.x) × (length l.out ≡ length l.initial.out) × ((g : Forest) → l.t ≡ flat g → l.b ≡ first g → Writing (text g) l.x l.initial.out l.out l.i l.k)

abbrev pub decreases-loop-i : goal.decreases-loop-i
decreases-loop-i l = length l.x - l.i
