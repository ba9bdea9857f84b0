use Rattle.std.proofs.Common.{arith}
use Rattle.list_bytes.proofs.Laws.{appends_as}
use Rattle.list_ring.specs.Stands.{lists_of}
use Rattle.list_line.specs.Printing.{final}
use Rattle.list_line.proofs.Printing.{stands_at, listed_head, listed_group, listed_end}
use Rattle.list_line.proofs.print_line.Goals as goal

pub returns-then-i-eq0-clause-printed : goal.returns-then-i-eq0-clause-printed
returns-then-i-eq0-clause-printed c =
    let f = c.args.file.holds in (
      omega (arith, c.put.ensures.past),
      λ e g l. (
        λ q. stands_at f (omega (arith, c.if-i-eq0.true)) (c.requires.0 (omega (arith, c.if-i-eq0.true))),
        appends_as (listed_head f c.if-i-eq0.true) c.put.ensures,
      ),
    )

pub returns-then-i-file-clause-printed : goal.returns-then-i-file-clause-printed
returns-then-i-file-clause-printed c =
    let f = c.args.file.holds in (
      c.print_group.ensures.printed.0,
      λ e g l. (
        λ q. stands_at f (omega (arith, c.if-i-eq0.false)) c.print_group.ensures.printed.1,
        appends_as (listed_group f g c.args.i (omega (arith, c.if-i-eq0.false)) c.if-i-file.true) c.print_group.ensures.printed.2,
      ),
    )

pub returns-clause-printed : goal.returns-clause-printed
returns-clause-printed c =
    let f = c.args.file.holds in (
      c.print_end.ensures.0,
      λ e g l. (
        λ q. absurd (omega (arith, q, c.if-i-file.false)),
        appends_as (listed_end f c.args.i (omega (arith, c.if-i-file.false)))
            (c.print_end.ensures.1 (final f.ns (lists_of f)) e g (omega (arith, l, c.if-i-file.false))),
      ),
    )
