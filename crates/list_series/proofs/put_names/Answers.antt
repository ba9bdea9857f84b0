use Rattle.std.proofs.Common.{arith}
use Rattle.list_bytes.specs.Appends.{Appends}
use Rattle.list_bytes.proofs.Laws.{appends_as}
use Rattle.spec_listing.specs.Listing.{name}
use Rattle.list_series.proofs.Words.{link, length-link, linked, unlinked, more_appends}
use Rattle.list_series.proofs.put_names.Goals as goal
use Rattle.list_series.proofs.put_names.Goals.{then-i-ne0, else-i-ne0}

pub loop-i-preserved : goal.loop-i-preserved
loop-i-preserved c =
    let i = c.loop-i.i in
    let joined : Appends (link 32 c.loop-i.i) c.loop-i.at c.loop-i.out c.if-i-ne0.out c.if-i-ne0.at =
    elim c.if-i-ne0.branch [
      | then-i-ne0 w ↦ rw (w.out-is, w.at-is) (linked 32 i w.if-i-ne0.true w.put-at.ensures)
      | else-i-ne0 w ↦ rw (w.out-is, w.at-is) (unlinked 32 i c.loop-i.out c.loop-i.at w.if-i-ne0.false)
    ] in
    record {
      room = omega (arith, joined.past, length-link 32 i, c.put-at-in-loop-i.ensures.past, c.name.ensures.1);
      text = more_appends 32 (name c.args.file.holds.ns) c.args.order.now i (omega arith) c.loop-i.invariant.text joined (appends_as c.name.ensures.0 c.put-at-in-loop-i.ensures);
    }
