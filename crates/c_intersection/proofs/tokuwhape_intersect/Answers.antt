-- The promise of `call_intersection::intersect`, of the two numbers in which its answer is coded.
use Rattle.std.proofs.Common.{ℕ}
use Rattle.spec_orders.specs.declared.Layout.{Layout}
use Rattle.spec_calls.specs.Tables.{lent_nodes}
use Rattle.spec_calls.specs.Promises.{IntersectPromise}
use Rattle.c_rows.proofs.Coded.{coded, both}
use Rattle.c_intersection.proofs.tokuwhape_intersect.Goals as goal

pub returns : goal.returns
returns c =
    coded
    (λ (z : Layout × (Layout × (ℕ × (ℕ × ℕ)))). IntersectPromise (lent_nodes z.0 c.args.n z.1.1.0 c.args.nodes.now) (lent_nodes z.1.0 c.args.m z.1.1.1.0 c.args.other.now) (lent_nodes z.0 c.args.n z.1.1.1.1 c.args.third.now) c.intersect-answer.new.third)
    (both c.from-layout.ensures (both c.from-layout2.ensures (both c.records-have.ensures (both c.records-had.ensures c.records-room.ensures))))
    c.code.ensures c.intersect-answer.ensures
