use native.Mathlib.Omega.{arith}
use Rattle.table_store.proofs.Erasing.{erasing_stop, erasing_row, row_next}
use Rattle.table_store.proofs.erase_rows.Goals as goal

pub bounds-out-k : goal.bounds-out-k
bounds-out-k c = omega (arith, row_next c.loop-k.invariant.1 c.loop-k-test.true)

pub returns-then-m-eq0 : goal.returns-then-m-eq0
returns-then-m-eq0 c = erasing_stop c.loop-k.invariant.1 c.loop-k-test.true c.if-m-eq0.true

pub slice_bounds-fill-end : goal.slice_bounds-fill-end
slice_bounds-fill-end c = omega (arith, row_next c.loop-k.invariant.1 c.loop-k-test.true)

pub loop-k-preserved : goal.loop-k-preserved
loop-k-preserved c = (omega arith, erasing_row c.loop-k.invariant.1 c.loop-k-test.true _ (omega arith) (c.fill.ensures.after (λ y h. h)))
