use Rattle.table_sweep.proofs.Starting.{row_of_table, none_swept, swept_at}
use mathlib.Core.Path.{◌∙◌}
use Prim.Native.Nat.{suc, ◌-◌}
use native.Mathlib.Omega.{arith}
use Rattle.table_sweep.proofs.sweep.Goals as goal

pub loop-r-init : goal.loop-r-init
loop-r-init c = (c.requires.1, λ S h. none_swept c.args.n S c.args.table.now c.args.work.now c.requires.0 h)

pub loop-r-preserved : goal.loop-r-preserved
loop-r-preserved c = (c.«record».auto.work ∙ c.loop-r.invariant.0, λ S h. c.«record».ensures S c.args.table.now (row_of_table c.args.table.now (c.loop-r.r - 1) (omega arith)) (swept_at c.args.n S c.args.table.now c.loop-r.work c.loop-r.r (suc (c.loop-r.r - 1)) (omega arith) (c.loop-r.invariant.1 S h)))

pub returns : goal.returns
returns c = λ S h. swept_at c.args.n S c.args.table.now c.loop-r.work c.loop-r.r 0 (omega arith) (c.loop-r.invariant.1 S h)
