use Rattle.std.proofs.Common.{◌≤◌, ◌*◌}
use Rattle.test_sums.proofs.counts.print.Given as goal

abbrev pub invariant-loop-n : goal.invariant-loop-n
invariant-loop-n g l = record {
  few_kept : l.kept ≤ 1000000 * l.n;
  few_none : l.none ≤ 1000000 * l.n;
  few_bad : l.bad ≤ 1000000 * l.n;
}
