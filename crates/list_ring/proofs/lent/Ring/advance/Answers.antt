use Rattle.std.proofs.Common.{arith}
use Rattle.spec_orders.specs.CircularOrder.{group_of}
use Rattle.list_ring.proofs.Outcomes.{stays, kept_stands}
use Rattle.list_ring.proofs.lent.Ring.advance.Goals as goal

pub returns-in-Ok-clause-stands : goal.returns-in-Ok-clause-stands
returns-in-Ok-clause-stands c = λ s h.
    let joined = c.in-Ok.ensures s.tree h.tokens in
    kept_stands c.args.n s c.args.line c.args.list.now h joined c.requires.2.few_leaves c.keep.ensures.toks
    (c.keep.ensures.book (group_of c.args.n c.args.list.now) joined.group) c.keep.ensures.table c.keep.ensures.count (omega arith) (omega arith)

pub returns-in_default-clause-stands : goal.returns-in_default-clause-stands
returns-in_default-clause-stands c = λ s h. stays c.args.n s c.args.line c.args.list.now h c.requires.2 c.in_default.field-0 (c.in_default.ensures s.tree h.tokens)
