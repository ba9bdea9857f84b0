use Rattle.std.proofs.Common.{◌-◌, get_or, arith}
use Rattle.list_bytes.specs.Appends.{Appends}
use Rattle.spec_orders.specs.TreeText.{digits}
use Rattle.list_series.proofs.Words.{link, length-link, linked, unlinked, more_appends}
use Rattle.list_series.proofs.put_conflicts.Goals as goal
use Rattle.list_series.proofs.put_conflicts.Goals.{then-i-ne0, else-i-ne0}

pub loop-i-preserved : goal.loop-i-preserved
loop-i-preserved c =
    let i = c.loop-i.i in
    let joined : Appends (link 44 c.loop-i.i) c.loop-i.at c.loop-i.out c.if-i-ne0.out c.if-i-ne0.at =
    elim c.if-i-ne0.branch [
      | then-i-ne0 w ↦ rw (w.out-is, w.at-is) (linked 44 i w.if-i-ne0.true w.put-at.ensures)
      | else-i-ne0 w ↦ rw (w.out-is, w.at-is) (unlinked 44 i c.loop-i.out c.loop-i.at w.if-i-ne0.false)
    ] in
    record {
      room = omega (arith, joined.past, length-link 44 i, c.put_number-at.ensures.0);
      text = more_appends 44 (λ j. digits (get_or c.args.table.now (j - 1) 0)) c.args.numbers.now i (omega arith) c.loop-i.invariant.text joined c.put_number-at.ensures.1;
    }
