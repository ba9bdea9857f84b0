use Rattle.file_read.proofs.Scanning.{reach_start, reach_next, says_bad}
use Rattle.file_read.proofs.run.Goals as goal

pub loop-at-init : goal.loop-at-init
loop-at-init c = record { within = c.start-cursor.ensures.cursor_within; reaches = reach_start c.args.file.now _ c.start-cursor.ensures.stands }

pub returns-in_default : goal.returns-in_default
returns-in_default c =
    says_bad c.args.file.now c.loop-at.at c.loop-at.cursor c.loop-at-test.true c.loop-at.invariant.reaches c.requires c.in_default.ensures.advances

pub loop-at-preserved : goal.loop-at-preserved
loop-at-preserved c = record {
  within = c.in-Some.ensures.cursor_within;
  reaches = reach_next c.args.file.now c.loop-at.at c.loop-at.cursor c.loop-at-test.true c.loop-at.invariant.reaches _ c.in-Some.ensures.advances;
}
