use Rattle.std.proofs.Common.{refl, ◌∙◌}
use Rattle.list_ring.proofs.Files.{stands_none}
use Rattle.list_ring.proofs.lent.Ring.replay.Goals as goal

pub loop-l-init : goal.loop-l-init
loop-l-init c = (stands_none c.args.file.holds c.fresh-ring.ensures.stands, (refl, refl, refl))

pub loop-l-preserved : goal.loop-l-preserved
loop-l-preserved c =
    let same = c.join_line.ensures.same_tables in
    let kept = c.loop-l.invariant.1 in
    (c.join_line.ensures.stands, (same.0 ∙ kept.0, same.1 ∙ kept.1, same.2 ∙ kept.2))

pub returns-clause-same_tables : goal.returns-clause-same_tables
returns-clause-same_tables c =
    let made = c.fresh-ring.ensures.same_tables in
    let kept = c.loop-l.invariant.1 in
    (kept.0 ∙ made.0, kept.1 ∙ made.1, kept.2 ∙ made.2)
