-- The promise of `record_intersection::intersect`, of the two numbers in which its answer is coded.
use Rattle.std.proofs.Common.{◌≡◌, sym, subst}
use Rattle.spec_orders.specs.declared.Layout.{Layout}
use Rattle.spec_calls.specs.Refusals.{Reply, reply, report}
use Rattle.spec_orders.specs.Layout.{layout_numbered}
use Rattle.spec_calls.specs.Promises.{IntersectPromise}
use Rattle.record_copy.specs.Rows.{node_rows}
use Rattle.record_left.specs.Records.{lent_records, Left}
use Rattle.test_records.proofs.ring_intersect.Goals as goal

pub returns : goal.returns
returns c =
    let first : c.from-layout.result ≡ layout_numbered c.args.layout = c.from-layout.ensures in
    let second : c.from-layout2.result ≡ layout_numbered c.args.layout2 = c.from-layout2.ensures in
    let said : report c.intersect-answer.result ≡ reply c.code.result c.code.new.value = sym c.code.ensures in
    subst
    (λ (z : Layout × (Layout × Reply)). IntersectPromise (lent_records z.0 c.args.n c.args.nodes.now) (lent_records z.1.0 c.args.m c.args.other.now) (lent_records z.0 c.args.n c.args.third.now) (node_rows c.intersect-answer.new.third) z.1.1
    × Left c.args.third.now c.intersect-answer.new.third z.1.1)
    (λ i. (first i, (second i, said i))) c.intersect-answer.ensures
