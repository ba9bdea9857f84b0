use mathlib.Core.Path.{sym}
use Rattle.spec_orders.proofs.Aims.{rounded_seam, rounded_even, rounded_odd}
use Rattle.call_order.proofs.rounded.Goals as goal

pub returns-then-upper-eq0 : goal.returns-then-upper-eq0
returns-then-upper-eq0 c = sym (rounded_seam c.args.lower c.args.upper c.if-upper-eq0.true)

pub returns-then-lower-eq0 : goal.returns-then-lower-eq0
returns-then-lower-eq0 c = sym (rounded_even c.args.lower c.args.upper c.if-upper-eq0.false c.if-lower-eq0.true)

pub returns : goal.returns
returns c = sym (rounded_odd c.args.lower c.args.upper c.if-upper-eq0.false c.if-lower-eq0.false)
