use mathlib.Core.Path.{◌≡◌}
use mathlib.Core.List.{List}
use Prim.Native.Nat.{ℕ, ◌-◌, ◌≤◌}
use lib.ListN.{length}
use Rattle.tree_tokens.specs.Tokens.{Judged, flat}
use Rattle.tree_judge.specs.Total.{whole_of, totals}
use Rattle.tree_pieces.specs.Writers.{with_state}
use Rattle.tree_pieces.proofs.Walks.{Writing}
use Rattle.tree_pieces.proofs.only.Given as goal

abbrev text : ℕ → Judged → List ℕ
text s j = flat (whole_of (with_state s (totals j)))

abbrev pub invariant-loop-i : goal.invariant-loop-i
invariant-loop-i l = (l.i ≤ length l.x) × (length l.out ≡ length l.initial.out) × Writing (text l.s) l.x l.initial.out l.out l.i l.k

abbrev pub decreases-loop-i : goal.decreases-loop-i
decreases-loop-i l = length l.x - l.i
