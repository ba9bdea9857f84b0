use native.Mathlib.Omega.{arith}
use lib.ListN.{length-set}
use Rattle.table_walk.proofs.Standing.{node_record}
use Rattle.table_walk.proofs.Walking.{part_length, inner_there, walk_node_written, node_fits, walking_end, leaf_room, walking_leaf, node_there, walking_node}
use Rattle.table_walk.proofs.+walk_items_walk_node.Goals as goal

pub walk_items-walk_node-k-requires : goal.walk_items-walk_node-k-requires
walk_items-walk_node-k-requires t c = (omega (arith, part_length c.loop-v.out c.loop-v.k), (node_there (c.loop-v.invariant.2 c.requires.0 c.requires.1 c.requires.2) c.loop-v-test.true c.if-v-gt256.true c.loop-v.invariant.1))

pub walk_items-overflow_add-k : goal.walk_items-overflow_add-k
walk_items-overflow_add-k t c = omega (arith, node_fits (node_there (c.loop-v.invariant.2 c.requires.0 c.requires.1 c.requires.2) c.loop-v-test.true c.if-v-gt256.true c.loop-v.invariant.1) c.walk_node-k.ensures, part_length c.loop-v.out c.loop-v.k)

pub walk_items-loop-v-preserved-then-v-gt256 : goal.walk_items-loop-v-preserved-then-v-gt256
walk_items-loop-v-preserved-then-v-gt256 t c = (omega (arith, node_fits (node_there (c.loop-v.invariant.2 c.requires.0 c.requires.1 c.requires.2) c.loop-v-test.true c.if-v-gt256.true c.loop-v.invariant.1) c.walk_node-k.ensures, part_length c.loop-v.out c.loop-v.k), omega arith, λ r f s. walking_node (c.loop-v.invariant.2 r f s) c.loop-v-test.true c.if-v-gt256.true c.loop-v.invariant.1 c.walk_node-k.ensures)

pub walk_items-bounds-out-k : goal.walk_items-bounds-out-k
walk_items-bounds-out-k t c = omega (arith, leaf_room (c.loop-v.invariant.2 c.requires.0 c.requires.1 c.requires.2) c.loop-v-test.true c.if-v-gt256.false)

pub walk_items-loop-v-preserved : goal.walk_items-loop-v-preserved
walk_items-loop-v-preserved t c = (omega (arith, leaf_room (c.loop-v.invariant.2 c.requires.0 c.requires.1 c.requires.2) c.loop-v-test.true c.if-v-gt256.false), simp length-set c.loop-v.invariant.1, λ r f s. walking_leaf (c.loop-v.invariant.2 r f s) c.loop-v-test.true c.if-v-gt256.false)

pub walk_items-returns : goal.walk_items-returns
walk_items-returns t c = λ r f s. walking_end (c.loop-v.invariant.2 r f s) c.loop-v-test.false

pub walk_node-bounds-table-at : goal.walk_node-bounds-table-at
walk_node-bounds-table-at t c = omega (arith, node_record c.requires.2)

pub walk_node-slice_bounds-walk_items-count-2 : goal.walk_node-slice_bounds-walk_items-count-2
walk_node-slice_bounds-walk_items-count-2 t c = omega (arith, node_record c.requires.2)

pub walk_node-slice_bounds-walk_items-start-2 : goal.walk_node-slice_bounds-walk_items-start-2
walk_node-slice_bounds-walk_items-start-2 t c = omega (arith, node_record c.requires.2)

pub walk_node-walk_items-m-requires : goal.walk_node-walk_items-m-requires
walk_node-walk_items-m-requires t c = (omega (arith, part_length c.args.out.now 1, (node_record c.requires.2).2), (_, _, (inner_there c.args.table.now c.args.r c.args.out.now c.requires.2)))

pub walk_node-header-requires : goal.walk_node-header-requires
walk_node-header-requires t c = omega (arith, (c.walk_items-m.ensures _ _ (inner_there c.args.table.now c.args.r c.args.out.now c.requires.2)).many, (node_record c.requires.2).3)

pub walk_node-bounds-out-0 : goal.walk_node-bounds-out-0
walk_node-bounds-out-0 t c = omega (arith, (node_record c.requires.2).2)

pub walk_node-overflow_add-result : goal.walk_node-overflow_add-result
walk_node-overflow_add-result t c = omega (arith, (c.walk_items-m.ensures _ _ (inner_there c.args.table.now c.args.r c.args.out.now c.requires.2)).many, (node_record c.requires.2).3)

pub walk_node-returns : goal.walk_node-returns
walk_node-returns t c = walk_node_written c.args.table.now c.args.r c.args.out.now c.walk_items-m.ensures c.header.ensures
