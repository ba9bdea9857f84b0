use Rattle.table_sweep.proofs.Small.{head_small}
use mathlib.Core.Path.{sym, ◌∙◌, subst}
use Rattle.std.specs.Prelude.{Some, None}
use Prim.Native.Nat.{ℕ, ◌+◌}
use native.Mathlib.Omega.{arith}
use lib.ListN.{get_or}
use Rattle.tree_judge.specs.Automaton.{step, code}
use Rattle.tree_judge.proofs.Tables.{move_table, moves_small}
use Rattle.table_sweep.specs.Kept.{tree_kind}
use Rattle.table_sweep.proofs.Going.{Going, going_start, going_end, going_bad, going_low, going_more, entry_is}
use Rattle.table_sweep.proofs.read_entries.Goals as goal

pub loop-v-init : goal.loop-v-init
loop-v-init c = (c.requires.2, omega arith, omega arith, c.start-run.ensures.0, omega arith, λ S g ls h. going_start c.args.n S (tree_kind c.args.kind) c.args.r g ls c.args.places.now c.args.work.now c.start-run.result c.start-run.ensures.1 h)

pub returns-in_err-item : goal.returns-in_err-item
returns-in_err-item c = rw c.from_residual.ensures (tt, λ S g ls h. let w = c.loop-v.invariant.5 S g ls h in going_bad c.args.n S (tree_kind c.args.kind) w c.loop-v-test.true (entry_is c.args.n S (tree_kind c.args.kind) c.read_entry.new.work (get_or c.args.places.now c.loop-v.v-index 0) None w (c.in_err-item.ensures.2 S)))

pub returns-then-item-least : goal.returns-then-item-least
returns-then-item-least c = (tt, λ S g ls h. let w = c.loop-v.invariant.5 S g ls h in going_low c.args.n S (tree_kind c.args.kind) w c.loop-v-test.true (entry_is c.args.n S (tree_kind c.args.kind) c.read_entry.new.work (get_or c.args.places.now c.loop-v.v-index 0) (Some c.in_ok-item.item) w (c.in_ok-item.ensures.2 S)) c.least.ensures c.if-item-least.true)

pub moved-run-requires : goal.moved-run-requires
unfolding code step
moved-run-requires c = (c.loop-v.invariant.3, c.in_ok-item.ensures.0.2, (moves_small, move_table))

pub loop-v-preserved : goal.loop-v-preserved
loop-v-preserved c =
    let z = c.in_ok-item.ensures.0 in (
      c.read_entry.auto.work ∙ c.loop-v.invariant.0,
      omega arith,
      omega (arith, z.1),
      c.moved-run.ensures.0,
      head_small c.loop-v.first c.in_ok-item.item.first c.head-first.result c.head-first.ensures c.loop-v.invariant.4 z.0,
      λ S g ls h.
          let w = c.loop-v.invariant.5 S g ls h in
          subst (λ (t : ℕ). Going c.args.n S (tree_kind c.args.kind) c.args.r g ls c.args.places.now (c.loop-v.v-index + 1) c.read_entry.new.work t c.in_ok-item.item.first (c.loop-v.next + c.in_ok-item.item.records) c.moved-run.result) (sym c.head-first.ensures)
          (going_more c.args.n S (tree_kind c.args.kind) w c.loop-v-test.true (entry_is c.args.n S (tree_kind c.args.kind) c.read_entry.new.work (get_or c.args.places.now c.loop-v.v-index 0) (Some c.in_ok-item.item) w (c.in_ok-item.ensures.2 S)) c.in_ok-item.ensures.1 c.least.ensures c.if-item-least.false c.moved-run.ensures.1),
    )

pub returns : goal.returns
returns c = ((c.loop-v.invariant.1, omega arith, c.loop-v.invariant.3, c.loop-v.invariant.4), λ S g ls h. going_end c.args.n S (tree_kind c.args.kind) (c.loop-v.invariant.5 S g ls h) (omega arith))
