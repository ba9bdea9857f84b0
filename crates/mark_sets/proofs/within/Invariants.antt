-- In the first i words no mark is above n.
use Prim.Native.Nat.{ℕ, ◌-◌, ◌*◌, ◌≤◌, ◌<◌}
use mathlib.Core.Path.{◌≡◌}
use lib.ListN.{length, get_or}
use lib.Bits.{bit_and}
use Rattle.mark_sets.proofs.Steps.{low}
use Rattle.mark_sets.proofs.within.Given as goal

abbrev pub invariant-loop-word : goal.invariant-loop-word
invariant-loop-word l = (l.word-index ≤ length l.words) × (l.rest ≡ l.n - 64 * l.word-index) × ((k : ℕ) → k < l.word-index → bit_and (get_or l.words k 0) (low l.n k) ≡ get_or l.words k 0)
