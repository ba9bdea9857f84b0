use mathlib.Core.Path.{◌≡◌}
use Prim.Native.Nat.{◌≤◌}
use lib.ListN.{length, drop}
use Rattle.table_row.specs.Rows.{records_from}
use Rattle.tree_tokens.proofs.Writes.{Written}
use Rattle.table_row.proofs.write_records.Given as goal

abbrev pub invariant-loop-i : goal.invariant-loop-i
invariant-loop-i l = (l.next ≤ l.i) × (length l.out ≡ length l.initial.out) × Written (records_from 0 l.toks) (records_from l.next (drop l.i l.toks)) l.initial.out l.out l.i
