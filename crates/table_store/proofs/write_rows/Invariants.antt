use mathlib.Core.Path.{◌≡◌}
use lib.ListN.{length}
use Rattle.tree_tokens.proofs.Steps.{Left}
use Rattle.table_store.proofs.Rowing.{Rowing}
use Rattle.table_store.proofs.write_rows.Given as goal

abbrev pub invariant-loop-i : goal.invariant-loop-i
invariant-loop-i l = (length l.out ≡ length l.initial.out) × Left l.toks l.i (Rowing l.toks l.i l.initial.out l.out l.k)
