use Rattle.std.proofs.Common.{◌≤◌, ◌+◌, ◌-◌, ◌*◌, map, take, get_or}
use Rattle.spec_orders.specs.TreeText.{digits}
use Rattle.list_bytes.specs.Appends.{Appends}
use Rattle.spec_listing.specs.Listing.{between}
use Rattle.list_series.proofs.put_conflicts.Given as goal

abbrev pub invariant-loop-i : goal.invariant-loop-i
invariant-loop-i l = record {
  room : l.at ≤ l.initial.at + 21 * l.i;
  text : Appends (between 44 (map (λ j. digits (get_or l.table (j - 1) 0)) (take l.i l.numbers))) l.initial.at l.initial.out l.out l.at;
}
