use Rattle.std.proofs.Common.{◌≤◌, length, max}
use Rattle.list_ring.specs.Stands.{lists_of}
use Rattle.spec_listing.specs.Listing.{listing}
use Rattle.list_line.specs.Printing.{Before}
use Rattle.list_part.proofs.Parts.{Shown}
use Rattle.list_part.proofs.print_lines.Given as goal

abbrev pub invariant-loop-i : goal.invariant-loop-i
invariant-loop-i l = record {
  stops : l.i ≤ max l.from l.end;
  within : l.at ≤ length l.out;
  ring : Before l.whole.file.holds l.i l.ring;
  shown : Shown (listing l.whole.file.holds.ns (lists_of l.whole.file.holds)) l.from l.i l.initial.out l.out l.at;
}
