use Rattle.std.proofs.Common.{rules, arith, ℕ, ◌≡◌, ◌-◌, get_or, subst}
use Rattle.record_copy.specs.Rows.{zero_node}
use Rattle.record_sweep.proofs.Laws.{Whole, Going, going_none, going_next, going_all}
use Rattle.record_sweep.proofs.sweep.Goals as goal

pub loop-r-init : goal.loop-r-init
loop-r-init c = going_none c.args.nodes.now c.cap-r.result c.args.n c.cap-r.ensures c.args.work.now c.requires

pub loop-r-preserved : goal.loop-r-preserved
loop-r-preserved c =
    let w : Whole (get_or c.args.nodes.now (c.loop-r.r - 1) zero_node) = search rules in
    going_next c.args.nodes.now c.cap-r.result c.args.n c.cap-r.ensures c.args.work.now c.requires c.loop-r.work c.loop-r.r (c.loop-r.r - 1) (omega arith) c.loop-r.invariant w c.record.new.work c.record.auto.work
    (λ S table e. rw c.from.ensures at (c.record.ensures S table) e)

pub returns : goal.returns
returns c =
    let end : c.loop-r.r ≡ 0 = omega arith in
    going_all c.args.nodes.now c.cap-r.result c.args.n c.cap-r.ensures c.args.work.now c.requires c.loop-r.work
    (subst (λ (i : ℕ). Going c.args.nodes.now c.cap-r.result c.args.n c.args.work.now i c.loop-r.work) end c.loop-r.invariant)
