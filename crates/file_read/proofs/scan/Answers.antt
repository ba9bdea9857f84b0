use Rattle.std.proofs.Common.{arith}
use Rattle.file_read.specs.RingFile.{ring, too_long}
use Rattle.file_read.proofs.Scanning.{ended_holds, says_short}
use Rattle.file_read.proofs.scan.Goals as goal

pub returns-then-file-gt65536 : goal.returns-then-file-gt65536
returns-then-file-gt65536 c = too_long c.if-file-gt65536.true

pub returns-then-not-may_end : goal.returns-then-not-may_end
returns-then-not-may_end c =
    says_short c.args.file.now c.in_ok-cursor.cursor (omega arith) c.in_ok-cursor.ensures (λ q. absurd (grind (arith, c.may_end.ensures.1 q)))

pub returns : goal.returns
returns c = ring (ended_holds c.args.file.now c.in_ok-cursor.cursor (omega arith) c.in_ok-cursor.ensures c.if-not-may_end.false c.may_end.ensures.0)
