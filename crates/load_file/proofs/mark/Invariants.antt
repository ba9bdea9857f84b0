use Prim.Native.Nat.{ℕ, ◌≤◌}
use lib.ListN.{take}
use Rattle.spec_orders.specs.Lists.{All}
use Rattle.load_file.specs.Lines.{Marked}
use Rattle.load_file.proofs.mark.Given as goal

abbrev pub invariant-loop-b : goal.invariant-loop-b
invariant-loop-b l = (n : ℕ) → All (λ b. (1 ≤ b) × (b ≤ n)) l.bins → Marked n (take l.b-index l.bins) l.initial.line l.line
