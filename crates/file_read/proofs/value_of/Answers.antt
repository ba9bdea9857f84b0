use mathlib.Core.Path.{sym, ap}
use native.Mathlib.Omega.{arith}
use lib.ListN.{length}
use Rattle.file_read.proofs.Values.{value_past, value_read}
use Rattle.file_read.proofs.value_of.Goals as goal

pub returns-then-values-i : goal.returns-then-values-i
returns-then-values-i c = sym (value_past c.args.file.now c.args.names c.args.head c.args.l c.args.i (omega (arith, c.if-values-i.true, ap length c.line_of-values.ensures)))

pub returns-then-values-i-2 : goal.returns-then-values-i-2
returns-then-values-i-2 c = sym (value_past c.args.file.now c.args.names c.args.head c.args.l c.args.i (omega (arith, c.if-values-i-2.true, ap length c.line_of-values.ensures)))

pub returns : goal.returns
returns c = sym (value_read c.args.file.now c.args.names c.args.head c.args.l c.line_of-values.result.now c.line_of-values.ensures c.args.i)
