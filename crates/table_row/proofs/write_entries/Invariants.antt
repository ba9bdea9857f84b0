use mathlib.Core.Path.{◌≡◌}
use Prim.Native.Nat.{ℕ, ◌-◌, ◌≤◌}
use lib.ListN.{length}
use Rattle.tree_tokens.proofs.Steps.{Left}
use Rattle.table_row.specs.Rows.{records_from}
use Rattle.table_row.proofs.Entering.{Entered}
use Rattle.table_row.proofs.write_entries.Given as goal

abbrev pub invariant-loop-i : goal.invariant-loop-i
invariant-loop-i l = (l.i ≤ length l.toks) × (length l.out ≡ length l.initial.out)
    × ((r : ℕ) → l.records ≡ records_from r l.toks → Left l.toks l.i (Entered r l.toks l.i l.initial.out l.out l.k))

abbrev pub decreases-loop-i : goal.decreases-loop-i
decreases-loop-i l = length l.toks - l.i
