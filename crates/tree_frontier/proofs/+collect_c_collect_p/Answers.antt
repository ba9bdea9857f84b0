use mathlib.Core.Path.{◌∙◌}
use native.Mathlib.Omega.{arith}
use lib.ListN.{length-set}
use Rattle.tree_tokens.proofs.Steps.{at_last, next_item, next_token, frontier_leaf_at}
use Rattle.tree_tokens.proofs.Writes.{written_one, written_then, written_end}
use Rattle.tree_frontier.proofs.Unvisited.{unvisited_fall}
use Rattle.tree_frontier.proofs.Collecting.{node_frontier, leaf_room, some_room, node_room}
use Rattle.tree_frontier.proofs.+collect_c_collect_p.Goals as goal

pub collect_c-bounds-order-k : goal.collect_c-bounds-order-k
collect_c-bounds-order-k t c = omega (arith, leaf_room c.requires c.loop-i.invariant.2 c.loop-i-test.true c.if-t-eq0.true)

pub collect_c-loop-i-preserved-then-t-eq0 : goal.collect_c-loop-i-preserved-then-t-eq0
collect_c-loop-i-preserved-then-t-eq0 t c = (omega arith, simp length-set c.loop-i.invariant.1, next_token c.loop-i.invariant.2 (omega arith) (λ j h p g. written_one _ _ (leaf_room c.requires c.loop-i.invariant.2 c.loop-i-test.true c.if-t-eq0.true) (frontier_leaf_at p c.if-t-eq0.true) g))

pub collect_c-collect_p-k-requires : goal.collect_c-collect_p-k-requires
collect_c-collect_p-k-requires t c = let q = node_room c.requires c.loop-i.invariant.2 c.loop-i-test.true c.if-t-eq0.false c.items-inner.ensures.1 in (omega (arith, unvisited_fall (c.requires.0, c.requires.1) c.loop-i.invariant.2 c.loop-i-test.true c.if-t-eq0.false c.items-inner.ensures.1), (q.0, q.1, omega (arith, q.2, c.collect_p-arg-1.given)))

pub collect_c-overflow_add-k-then-t-eq1 : goal.collect_c-overflow_add-k-then-t-eq1
collect_c-overflow_add-k-then-t-eq1 t c = let q = node_room c.requires c.loop-i.invariant.2 c.loop-i-test.true c.if-t-eq0.false c.items-inner.ensures.1 in omega (arith, some_room c.requires c.loop-i.invariant.2 c.loop-i-test.true, (c.collect_p-k.ensures q.0 q.1).many, q.2)

pub collect_c-loop-i-preserved-then-t-eq1 : goal.collect_c-loop-i-preserved-then-t-eq1
collect_c-loop-i-preserved-then-t-eq1 t c = (omega arith, c.order-1.given.1 ∙ c.loop-i.invariant.1, next_item c.loop-i.invariant.2 (omega arith) c.size-i.ensures.2 (λ j h p g. written_then _ (node_frontier p c.if-t-eq0.false) (c.collect_p-k.ensures _ (c.items-inner.ensures.1 h p.part)) g))

pub collect_c-collect_c-k-requires : goal.collect_c-collect_c-k-requires
collect_c-collect_c-k-requires t c = let q = node_room c.requires c.loop-i.invariant.2 c.loop-i-test.true c.if-t-eq0.false c.items-inner.ensures.1 in (omega (arith, unvisited_fall (c.requires.0, c.requires.1) c.loop-i.invariant.2 c.loop-i-test.true c.if-t-eq0.false c.items-inner.ensures.1), (q.0, q.1, omega (arith, q.2, c.collect_c-arg-1.given)))

pub collect_c-overflow_add-k-in-loop-i : goal.collect_c-overflow_add-k-in-loop-i
collect_c-overflow_add-k-in-loop-i t c = let q = node_room c.requires c.loop-i.invariant.2 c.loop-i-test.true c.if-t-eq0.false c.items-inner.ensures.1 in omega (arith, some_room c.requires c.loop-i.invariant.2 c.loop-i-test.true, (c.collect_c-k.ensures q.0 q.1).many, q.2)

pub collect_c-loop-i-preserved : goal.collect_c-loop-i-preserved
collect_c-loop-i-preserved t c = (omega arith, c.order-in-loop-i-1.given.1 ∙ c.loop-i.invariant.1, next_item c.loop-i.invariant.2 (omega arith) c.size-i.ensures.2 (λ j h p g. written_then _ (node_frontier p c.if-t-eq0.false) (c.collect_c-k.ensures _ (c.items-inner.ensures.1 h p.part)) g))

pub collect_c-returns : goal.collect_c-returns
collect_c-returns t c = λ j e. written_end (at_last c.loop-i.invariant.2 (omega arith) j e)

pub collect_p-bounds-order-k : goal.collect_p-bounds-order-k
collect_p-bounds-order-k t c = omega (arith, leaf_room c.requires c.loop-i.invariant.2 c.loop-i-test.true c.if-t-eq0.true)

pub collect_p-loop-i-preserved-then-t-eq0 : goal.collect_p-loop-i-preserved-then-t-eq0
collect_p-loop-i-preserved-then-t-eq0 t c = (omega arith, simp length-set c.loop-i.invariant.1, next_token c.loop-i.invariant.2 (omega arith) (λ j h p g. written_one _ _ (leaf_room c.requires c.loop-i.invariant.2 c.loop-i-test.true c.if-t-eq0.true) (frontier_leaf_at p c.if-t-eq0.true) g))

pub collect_p-collect_c-k-requires : goal.collect_p-collect_c-k-requires
collect_p-collect_c-k-requires t c = let q = node_room c.requires c.loop-i.invariant.2 c.loop-i-test.true c.if-t-eq0.false c.items-inner.ensures.1 in (omega (arith, unvisited_fall (c.requires.0, c.requires.1) c.loop-i.invariant.2 c.loop-i-test.true c.if-t-eq0.false c.items-inner.ensures.1), (q.0, q.1, omega (arith, q.2, c.collect_c-arg-1.given)))

pub collect_p-overflow_add-k-then-t-eq3 : goal.collect_p-overflow_add-k-then-t-eq3
collect_p-overflow_add-k-then-t-eq3 t c = let q = node_room c.requires c.loop-i.invariant.2 c.loop-i-test.true c.if-t-eq0.false c.items-inner.ensures.1 in omega (arith, some_room c.requires c.loop-i.invariant.2 c.loop-i-test.true, (c.collect_c-k.ensures q.0 q.1).many, q.2)

pub collect_p-loop-i-preserved-then-t-eq3 : goal.collect_p-loop-i-preserved-then-t-eq3
collect_p-loop-i-preserved-then-t-eq3 t c = (omega arith, c.order-1.given.1 ∙ c.loop-i.invariant.1, next_item c.loop-i.invariant.2 (omega arith) c.size-i.ensures.2 (λ j h p g. written_then _ (node_frontier p c.if-t-eq0.false) (c.collect_c-k.ensures _ (c.items-inner.ensures.1 h p.part)) g))

pub collect_p-collect_p-k-requires : goal.collect_p-collect_p-k-requires
collect_p-collect_p-k-requires t c = let q = node_room c.requires c.loop-i.invariant.2 c.loop-i-test.true c.if-t-eq0.false c.items-inner.ensures.1 in (omega (arith, unvisited_fall (c.requires.0, c.requires.1) c.loop-i.invariant.2 c.loop-i-test.true c.if-t-eq0.false c.items-inner.ensures.1), (q.0, q.1, omega (arith, q.2, c.collect_p-arg-1.given)))

pub collect_p-overflow_add-k-in-loop-i : goal.collect_p-overflow_add-k-in-loop-i
collect_p-overflow_add-k-in-loop-i t c = let q = node_room c.requires c.loop-i.invariant.2 c.loop-i-test.true c.if-t-eq0.false c.items-inner.ensures.1 in omega (arith, some_room c.requires c.loop-i.invariant.2 c.loop-i-test.true, (c.collect_p-k.ensures q.0 q.1).many, q.2)

pub collect_p-loop-i-preserved : goal.collect_p-loop-i-preserved
collect_p-loop-i-preserved t c = (omega arith, c.order-in-loop-i-1.given.1 ∙ c.loop-i.invariant.1, next_item c.loop-i.invariant.2 (omega arith) c.size-i.ensures.2 (λ j h p g. written_then _ (node_frontier p c.if-t-eq0.false) (c.collect_p-k.ensures _ (c.items-inner.ensures.1 h p.part)) g))

pub collect_p-returns : goal.collect_p-returns
collect_p-returns t c = λ j e. written_end (at_last c.loop-i.invariant.2 (omega arith) j e)
