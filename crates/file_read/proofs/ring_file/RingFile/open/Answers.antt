use Rattle.file_read.proofs.Answers.{ring_holds}
use Rattle.file_read.proofs.ring_file.RingFile.open.Goals as goal

pub invariant_of-result : goal.invariant_of-result
invariant_of-result c = record { holds = ring_holds c.in_ok-found.ensures }
