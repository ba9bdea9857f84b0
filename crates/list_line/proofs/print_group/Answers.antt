use Rattle.std.proofs.Common.{arith, ◌+◌}
use Rattle.tree_tokens.proofs.Writes.{read_back}
use Rattle.spec_listing.specs.Listing.{state_at}
use Rattle.list_ring.specs.Stands.{lists_of}
use Rattle.list_ring.proofs.Files.{few_lines, file_line, stands_more}
use Rattle.list_line.proofs.Printing.{line_appends}
use Rattle.list_line.proofs.print_group.Goals as goal

pub overflow_add-l : goal.overflow_add-l
overflow_add-l c = omega (arith, few_lines c.args.file.holds, c.requires.0)

pub overflow_add-l-2 : goal.overflow_add-l-2
overflow_add-l-2 c = omega (arith, few_lines c.args.file.holds, c.requires.0)

pub advance-requires : goal.advance-requires
advance-requires c =
    let f = c.args.file.holds in
    (state_at c.args.file.names (lists_of f) c.args.l, c.requires.1, rw (read_back c.group-k.ensures.0) (file_line f c.args.l c.requires.0))

pub put_ring-requires : goal.put_ring-requires
put_ring-requires c = (
  rw (read_back c.group-k.ensures.0) (file_line c.args.file.holds c.args.l c.requires.0),
  c.requires.2,
  c.requires.1.few,
  omega (arith, c.requires.3, c.put_number-a.ensures.0, c.put_number-a.auto.out),
)

pub returns-clause-printed : goal.returns-clause-printed
returns-clause-printed c =
    let f = c.args.file.holds in
    let before = state_at c.args.file.names (lists_of f) c.args.l in
    let leaves = read_back c.group-k.ensures.0 in
    let s = c.advance.ensures.stands before c.requires.1 in (
      omega (arith, c.put_ring.ensures.0, c.put_number-a.ensures.0),
      stands_more f c.args.l c.requires.0 leaves s,
      line_appends f c.args.order.now c.args.l leaves c.put_number-a.ensures.1
          (c.put_ring.ensures.1 before (c.args.l + 1) c.requires.1.counted s),
    )
