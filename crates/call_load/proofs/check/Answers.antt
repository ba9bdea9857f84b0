use Rattle.std.proofs.Common.{sym, eq-eqb}
use borrow.Author.Tests.{ne_eqb, lt-ltb, le-ltb}
use Rattle.call_load.proofs.Calls.{by_size, by_seed, by_count, by_bytes, by_none}
use Rattle.call_load.proofs.check.Goals as goal

pub returns-then-bad_size : goal.returns-then-bad_size
returns-then-bad_size c = by_size c.args.n c.args.seed c.args.groups c.args.bytes.now (sym c.if-bad_size.ensures)

pub returns-then-seed-eq0 : goal.returns-then-seed-eq0
returns-then-seed-eq0 c =
    by_seed c.args.n c.args.seed c.args.groups c.args.bytes.now (sym c.if-bad_size.ensures) (eq-eqb c.args.seed 0 c.if-seed-eq0.true)

pub returns-then-bad_count : goal.returns-then-bad_count
returns-then-bad_count c =
    by_count c.args.n c.args.seed c.args.groups c.args.bytes.now (sym c.if-bad_size.ensures) (ne_eqb c.args.seed 0 c.if-seed-eq0.false) (sym c.if-bad_count.ensures)

pub returns-then-bytes-lt65536 : goal.returns-then-bytes-lt65536
returns-then-bytes-lt65536 c =
    by_bytes c.args.n c.args.seed c.args.groups c.args.bytes.now (sym c.if-bad_size.ensures) (ne_eqb c.args.seed 0 c.if-seed-eq0.false) (sym c.if-bad_count.ensures)
    (lt-ltb _ 65536 c.if-bytes-lt65536.true)

pub returns : goal.returns
returns c =
    by_none c.args.n c.args.seed c.args.groups c.args.bytes.now (sym c.if-bad_size.ensures) (ne_eqb c.args.seed 0 c.if-seed-eq0.false) (sym c.if-bad_count.ensures)
    (le-ltb _ 65536 c.if-bytes-lt65536.false)
