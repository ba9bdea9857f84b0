use Rattle.std.proofs.Common.{◌≤◌, ◌+◌, ◌*◌, map, take}
use Rattle.list_bytes.specs.Appends.{Appends}
use Rattle.spec_listing.specs.Listing.{between, name}
use Rattle.list_series.proofs.put_names.Given as goal

abbrev pub invariant-loop-i : goal.invariant-loop-i
invariant-loop-i l = record {
  room : l.at ≤ l.initial.at + 9 * l.i;
  text : Appends (between 32 (map (name l.file.holds.ns) (take l.i l.order))) l.initial.at l.initial.out l.out l.at;
}
