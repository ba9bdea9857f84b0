use native.Mathlib.Omega.{arith}
use lib.ListN.{length-set}
use Rattle.tree_tokens.proofs.Writes.{written_one}
use Rattle.table_row.proofs.Records.{records_next}
use Rattle.table_row.proofs.write_records.Goals as goal

pub loop-i-preserved : goal.loop-i-preserved
loop-i-preserved c = (omega arith, simp length-set c.loop-i.invariant.1, written_one c.loop-i.next _ (omega arith) (records_next c.loop-i.next c.args.toks.now c.loop-i.i (omega arith)) c.loop-i.invariant.2)
