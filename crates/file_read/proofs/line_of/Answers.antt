use mathlib.Core.Path.{sym, ◌∙◌}
use Prim.Native.Nat.{◌+◌, ◌*◌}
use native.Mathlib.Omega.{arith}
use Rattle.spec_orders.proofs.ListLaws.{part_is}
use Rattle.file_read.proofs.Values.{WholeLine, line_is, line_none, line_zero, line_past, line_there}
use Rattle.file_read.proofs.line_of.Goals as goal

pub returns-then-names-eq0 : goal.returns-then-names-eq0
returns-then-names-eq0 c = sym (line_zero c.args.file.now c.args.names c.args.head c.args.l c.if-names-eq0.true)

pub returns-then-names-gt256 : goal.returns-then-names-gt256
returns-then-names-gt256 c = sym (line_none c.args.file.now c.args.names c.args.head c.args.l (λ s. omega (arith, s.0, c.if-names-gt256.true)))

pub returns-then-file-head : goal.returns-then-file-head
returns-then-file-head c = sym (line_none c.args.file.now c.args.names c.args.head c.args.l (λ s. omega (arith, s.1, c.if-file-head.true)))

pub returns-then-file-head-2 : goal.returns-then-file-head-2
returns-then-file-head-2 c = sym (line_none c.args.file.now c.args.names c.args.head c.args.l (line_past c.args.file.now c.args.names c.args.head c.args.l (omega (arith, c.if-names-eq0.false)) (omega (arith, c.if-file-head.false)) c.if-file-head-2.true))

pub returns : goal.returns
returns c =
    let inside : WholeLine c.args.file.now c.args.names c.args.head c.args.l = (line_there c.args.file.now c.args.names c.args.head c.args.l (omega (arith, c.if-names-eq0.false)) (omega (arith, c.if-names-gt256.false)) (omega (arith, c.if-file-head.false)) (omega (arith, c.if-file-head-2.false))) in
    part_is c.args.file.now (c.args.head + c.args.l * (2 * c.args.names)) (2 * c.args.names) ∙ sym (line_is c.args.file.now c.args.names c.args.head c.args.l inside)
