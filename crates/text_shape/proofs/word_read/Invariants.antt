use Rattle.std.proofs.Common.{◌≡◌}
use Rattle.std.proofs.Math.ListN.{drop}
use Rattle.text_scanner.specs.Scan.{lit, run_at}
use Rattle.text_shape.proofs.word_read.Given as goal

abbrev pub invariant-loop-i : goal.invariant-loop-i
invariant-loop-i l = run_at l.text 0 (lit l.word) ≡ run_at l.text l.i (lit (drop l.i l.word))
