use Prim.Native.Nat.{◌+◌, ◌-◌}
use native.Mathlib.Omega.{arith}
use Rattle.spec_calls.specs.NodeTable.{entries}
use Rattle.tree_tokens.specs.Tokens.{tree}
use Rattle.table_row.proofs.Entering.{placed_few}
use Rattle.table_row.proofs.Writing.{there_long, there_few, wrote_row}
use Rattle.table_row.proofs.write_row.Goals as goal

pub overflow_add-m : goal.overflow_add-m
overflow_add-m c = omega (arith, placed_few c.requires.0 c.write_entries-m.ensures)

pub overflow_add-max : goal.overflow_add-max
overflow_add-max c = omega (arith, placed_few c.requires.0 c.write_entries-m.ensures, c.max.ensures, there_few c.requires.1)

pub offset_bounds-out-m : goal.offset_bounds-out-m
offset_bounds-out-m c = omega (arith, placed_few c.requires.0 c.write_entries-m.ensures)

pub slice_bounds-fill-end : goal.slice_bounds-fill-end
slice_bounds-fill-end c = omega (arith, placed_few c.requires.0 c.write_entries-m.ensures, c.max.ensures, there_few c.requires.1, there_long c.requires.1)

pub overflow_cast-out : goal.overflow_cast-out
overflow_cast-out c = omega (arith, placed_few c.requires.0 c.write_entries-m.ensures)

pub returns : goal.returns
returns c =
    λ r i b e.
    let w = c.write_entries-m.ensures r i b e in
    let few = placed_few c.requires.0 c.write_entries-m.ensures in
    wrote_row c.args.kind c.write_entries-m.result (2 + c.max.result - (2 + c.write_entries-m.result)) (entries r (tree i)) c.args.out.now c.requires.1
    (omega (arith, w.many, few)) (omega (arith, c.max.ensures)) w (omega (arith, few, c.max.ensures, there_few c.requires.1, there_long c.requires.1)) (c.fill.ensures.after (λ y h. h))
