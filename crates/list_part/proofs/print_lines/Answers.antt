use Rattle.std.proofs.Common.{arith}
use Rattle.list_ring.specs.Stands.{lists_of}
use Rattle.list_ring.proofs.Files.{few_lines}
use Rattle.spec_listing.specs.Listing.{listing}
use Rattle.list_line.proofs.Printing.{listed_length}
use Rattle.list_part.proofs.Parts.{shown_more, short_part, whole_part}
use Rattle.list_part.proofs.print_lines.Goals as goal

pub overflow_add-end : goal.overflow_add-end
overflow_add-end c = omega (arith, few_lines c.args.whole.now.file.holds)

pub returns-then-out-at-lt4096 : goal.returns-then-out-at-lt4096
returns-then-out-at-lt4096 c =
    let f = c.args.whole.now.file.holds in
    short_part (listing f.ns (lists_of f)) c.args.from (omega (arith, c.loop-i.auto.out)) c.loop-i.invariant.shown

pub loop-i-preserved : goal.loop-i-preserved
loop-i-preserved c =
    let f = c.args.whole.now.file.holds in
    let line = c.print_line-line.ensures.printed.1 (omega arith) in
    record {
      stops = omega arith;
      within = omega (arith, c.put-at.ensures.past, c.put-at.auto.out, c.print_line-line.ensures.printed.0, c.print_line-line.auto.out);
      ring = line.0;
      shown =
          shown_more (listing f.ns (lists_of f)) c.args.from c.loop-i.i (omega (arith, listed_length f)) (omega (arith, c.loop-i.auto.out)) c.loop-i.invariant.shown line.1
          c.put-at.ensures;
    }

pub returns : goal.returns
returns c =
    let f = c.args.whole.now.file.holds in
    whole_part (listing f.ns (lists_of f)) c.args.from (omega (arith, listed_length f)) (omega (arith, c.max.ensures)) c.loop-i.invariant.shown
