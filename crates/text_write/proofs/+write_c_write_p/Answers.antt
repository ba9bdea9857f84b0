use Rattle.std.proofs.Common.{arith}
use Rattle.tree_tokens.proofs.Steps.{Left, at_last}
use Rattle.tree_tokens.proofs.Writes.{written_end}
use Rattle.tree_frontier.proofs.Unvisited.{unvisited_fall}
use Rattle.text_write.proofs.Spelled.{Spelled, inside, behind, after_opening, after_leaf, after_items, after_closing, node_next, spelled-room, opening-room, items-room, closing-room}
use Rattle.text_write.proofs.+write_c_write_p.Goals.{write_c-in-Leaf, write_c-in-PNode, write_c-in-CNode, write_p-in-Leaf, write_p-in-PNode, write_p-in-CNode}
use Rattle.text_write.proofs.+write_c_write_p.Goals as goal

pub write_c-write_opening-k-requires : goal.write_c-write_opening-k-requires
write_c-write_opening-k-requires t c = let q = opening-room c.requires c.loop-i.invariant.1 c.loop-i-test.true in ((q.0, q.1, omega (arith, q.2)), omega arith)

pub write_c-overflow_add-k : goal.write_c-overflow_add-k
write_c-overflow_add-k t c =
    let o = after_opening c.loop-i-test.true c.loop-i.invariant.1 c.write_opening-k.ensures in
    omega (arith, spelled-room inside c.requires o c.loop-i-test.true, c.well_formed.1.0)

pub write_c-slice_bounds-write_p-count : goal.write_c-slice_bounds-write_p-count
write_c-slice_bounds-write_p-count t c =
    let o = after_opening c.loop-i-test.true c.loop-i.invariant.1 c.write_opening-k.ensures in
    omega (arith, spelled-room inside c.requires o c.loop-i-test.true)

pub write_c-slice_bounds-write_p-start : goal.write_c-slice_bounds-write_p-start
write_c-slice_bounds-write_p-start t c =
    let o = after_opening c.loop-i-test.true c.loop-i.invariant.1 c.write_opening-k.ensures in
    omega (arith, spelled-room inside c.requires o c.loop-i-test.true)

pub write_c-write_p-k-requires : goal.write_c-write_p-k-requires
write_c-write_p-k-requires t c =
    let o = after_opening c.loop-i-test.true c.loop-i.invariant.1 c.write_opening-k.ensures in
    let q = items-room c.requires o c.loop-i-test.true c.items.ensures.1 in
    let odd = node_next _ (c.requires.0, c.requires.1) c.loop-i.invariant.1 c.loop-i-test.true (λ e. cc) c.in-PNode.ensures in
    (omega (arith, unvisited_fall (c.requires.0, c.requires.1) c.loop-i.invariant.1 c.loop-i-test.true odd c.items.ensures.1), (q.0, q.1, omega (arith, q.2)))

pub write_c-overflow_add-k-in-PNode : goal.write_c-overflow_add-k-in-PNode
write_c-overflow_add-k-in-PNode t c =
    let o = after_opening c.loop-i-test.true c.loop-i.invariant.1 c.write_opening-k.ensures in
    let q = items-room c.requires o c.loop-i-test.true c.items.ensures.1 in
    omega (arith, q.2, (c.write_p-k.ensures q.0 q.1).many, spelled-room inside c.requires o c.loop-i-test.true, c.well_formed.1.0)

pub write_c-slice_bounds-write_c-count : goal.write_c-slice_bounds-write_c-count
write_c-slice_bounds-write_c-count t c =
    let o = after_opening c.loop-i-test.true c.loop-i.invariant.1 c.write_opening-k.ensures in
    omega (arith, spelled-room inside c.requires o c.loop-i-test.true)

pub write_c-slice_bounds-write_c-start : goal.write_c-slice_bounds-write_c-start
write_c-slice_bounds-write_c-start t c =
    let o = after_opening c.loop-i-test.true c.loop-i.invariant.1 c.write_opening-k.ensures in
    omega (arith, spelled-room inside c.requires o c.loop-i-test.true)

pub write_c-write_c-k-requires : goal.write_c-write_c-k-requires
write_c-write_c-k-requires t c =
    let o = after_opening c.loop-i-test.true c.loop-i.invariant.1 c.write_opening-k.ensures in
    let q = items-room c.requires o c.loop-i-test.true c.items-in-CNode.ensures.1 in
    let odd = node_next _ (c.requires.0, c.requires.1) c.loop-i.invariant.1 c.loop-i-test.true (λ e. cc) c.in-CNode.ensures in
    (omega (arith, unvisited_fall (c.requires.0, c.requires.1) c.loop-i.invariant.1 c.loop-i-test.true odd c.items-in-CNode.ensures.1), (q.0, q.1, omega (arith, q.2)))

pub write_c-overflow_add-k-in-CNode : goal.write_c-overflow_add-k-in-CNode
write_c-overflow_add-k-in-CNode t c =
    let o = after_opening c.loop-i-test.true c.loop-i.invariant.1 c.write_opening-k.ensures in
    let q = items-room c.requires o c.loop-i-test.true c.items-in-CNode.ensures.1 in
    omega (arith, q.2, (c.write_c-k.ensures q.0 q.1).many, spelled-room inside c.requires o c.loop-i-test.true, c.well_formed.1.0)

pub write_c-slice_bounds-write_closing-count : goal.write_c-slice_bounds-write_closing-count
write_c-slice_bounds-write_closing-count t c =
    let o = after_opening c.loop-i-test.true c.loop-i.invariant.1 c.write_opening-k.ensures in
    let n : Left c.args.toks.now c.loop-i.i (Spelled behind c.args.out.now c.match-shape.out c.match-shape.k) =
    elim c.match-shape.branch [
      | write_c-in-Leaf w ↦ rw (w.out-is, w.k-is) (after_leaf c.loop-i-test.true o w.in-Leaf.ensures)
      | write_c-in-PNode w ↦ rw (w.out-is, w.k-is) (after_items c.loop-i-test.true o w.items.ensures.1 w.write_p-k.ensures)
      | write_c-in-CNode w ↦ rw (w.out-is, w.k-is) (after_items c.loop-i-test.true o w.items-in-CNode.ensures.1 w.write_c-k.ensures)
    ] in
    omega (arith, spelled-room behind c.requires n c.loop-i-test.true)

pub write_c-slice_bounds-write_closing-start : goal.write_c-slice_bounds-write_closing-start
write_c-slice_bounds-write_closing-start t c =
    let o = after_opening c.loop-i-test.true c.loop-i.invariant.1 c.write_opening-k.ensures in
    let n : Left c.args.toks.now c.loop-i.i (Spelled behind c.args.out.now c.match-shape.out c.match-shape.k) =
    elim c.match-shape.branch [
      | write_c-in-Leaf w ↦ rw (w.out-is, w.k-is) (after_leaf c.loop-i-test.true o w.in-Leaf.ensures)
      | write_c-in-PNode w ↦ rw (w.out-is, w.k-is) (after_items c.loop-i-test.true o w.items.ensures.1 w.write_p-k.ensures)
      | write_c-in-CNode w ↦ rw (w.out-is, w.k-is) (after_items c.loop-i-test.true o w.items-in-CNode.ensures.1 w.write_c-k.ensures)
    ] in
    omega (arith, spelled-room behind c.requires n c.loop-i-test.true)

pub write_c-write_closing-k-requires : goal.write_c-write_closing-k-requires
write_c-write_closing-k-requires t c =
    let o = after_opening c.loop-i-test.true c.loop-i.invariant.1 c.write_opening-k.ensures in
    let n : Left c.args.toks.now c.loop-i.i (Spelled behind c.args.out.now c.match-shape.out c.match-shape.k) =
    elim c.match-shape.branch [
      | write_c-in-Leaf w ↦ rw (w.out-is, w.k-is) (after_leaf c.loop-i-test.true o w.in-Leaf.ensures)
      | write_c-in-PNode w ↦ rw (w.out-is, w.k-is) (after_items c.loop-i-test.true o w.items.ensures.1 w.write_p-k.ensures)
      | write_c-in-CNode w ↦ rw (w.out-is, w.k-is) (after_items c.loop-i-test.true o w.items-in-CNode.ensures.1 w.write_c-k.ensures)
    ] in
    let q = closing-room c.requires n c.loop-i-test.true in ((q.0, q.1, omega (arith, q.2)), omega arith)

pub write_c-overflow_add-k-in-loop-i : goal.write_c-overflow_add-k-in-loop-i
write_c-overflow_add-k-in-loop-i t c =
    let o = after_opening c.loop-i-test.true c.loop-i.invariant.1 c.write_opening-k.ensures in
    let n : Left c.args.toks.now c.loop-i.i (Spelled behind c.args.out.now c.match-shape.out c.match-shape.k) =
    elim c.match-shape.branch [
      | write_c-in-Leaf w ↦ rw (w.out-is, w.k-is) (after_leaf c.loop-i-test.true o w.in-Leaf.ensures)
      | write_c-in-PNode w ↦ rw (w.out-is, w.k-is) (after_items c.loop-i-test.true o w.items.ensures.1 w.write_p-k.ensures)
      | write_c-in-CNode w ↦ rw (w.out-is, w.k-is) (after_items c.loop-i-test.true o w.items-in-CNode.ensures.1 w.write_c-k.ensures)
    ] in
    let q = closing-room c.requires n c.loop-i-test.true in omega (arith, q.2, (c.write_closing-k.ensures q.0 q.1).many, spelled-room behind c.requires n c.loop-i-test.true, c.well_formed.1.0)

pub write_c-loop-i-preserved : goal.write_c-loop-i-preserved
write_c-loop-i-preserved t c =
    let o = after_opening c.loop-i-test.true c.loop-i.invariant.1 c.write_opening-k.ensures in
    let n : Left c.args.toks.now c.loop-i.i (Spelled behind c.args.out.now c.match-shape.out c.match-shape.k) =
    elim c.match-shape.branch [
      | write_c-in-Leaf w ↦ rw (w.out-is, w.k-is) (after_leaf c.loop-i-test.true o w.in-Leaf.ensures)
      | write_c-in-PNode w ↦ rw (w.out-is, w.k-is) (after_items c.loop-i-test.true o w.items.ensures.1 w.write_p-k.ensures)
      | write_c-in-CNode w ↦ rw (w.out-is, w.k-is) (after_items c.loop-i-test.true o w.items-in-CNode.ensures.1 w.write_c-k.ensures)
    ] in
    (omega arith, after_closing c.loop-i-test.true n c.write_closing-k.ensures c.size-i.ensures.2)

pub write_c-returns : goal.write_c-returns
write_c-returns t c = λ j e. written_end (at_last c.loop-i.invariant.1 (omega arith) j e)

pub write_p-write_opening-k-requires : goal.write_p-write_opening-k-requires
write_p-write_opening-k-requires t c = let q = opening-room c.requires c.loop-i.invariant.1 c.loop-i-test.true in ((q.0, q.1, omega (arith, q.2)), omega arith)

pub write_p-overflow_add-k : goal.write_p-overflow_add-k
write_p-overflow_add-k t c =
    let o = after_opening c.loop-i-test.true c.loop-i.invariant.1 c.write_opening-k.ensures in
    omega (arith, spelled-room inside c.requires o c.loop-i-test.true, c.well_formed.1.0)

pub write_p-slice_bounds-write_p-count : goal.write_p-slice_bounds-write_p-count
write_p-slice_bounds-write_p-count t c =
    let o = after_opening c.loop-i-test.true c.loop-i.invariant.1 c.write_opening-k.ensures in
    omega (arith, spelled-room inside c.requires o c.loop-i-test.true)

pub write_p-slice_bounds-write_p-start : goal.write_p-slice_bounds-write_p-start
write_p-slice_bounds-write_p-start t c =
    let o = after_opening c.loop-i-test.true c.loop-i.invariant.1 c.write_opening-k.ensures in
    omega (arith, spelled-room inside c.requires o c.loop-i-test.true)

pub write_p-write_p-k-requires : goal.write_p-write_p-k-requires
write_p-write_p-k-requires t c =
    let o = after_opening c.loop-i-test.true c.loop-i.invariant.1 c.write_opening-k.ensures in
    let q = items-room c.requires o c.loop-i-test.true c.items.ensures.1 in
    let odd = node_next _ (c.requires.0, c.requires.1) c.loop-i.invariant.1 c.loop-i-test.true (λ e. cc) c.in-PNode.ensures in
    (omega (arith, unvisited_fall (c.requires.0, c.requires.1) c.loop-i.invariant.1 c.loop-i-test.true odd c.items.ensures.1), (q.0, q.1, omega (arith, q.2)))

pub write_p-overflow_add-k-in-PNode : goal.write_p-overflow_add-k-in-PNode
write_p-overflow_add-k-in-PNode t c =
    let o = after_opening c.loop-i-test.true c.loop-i.invariant.1 c.write_opening-k.ensures in
    let q = items-room c.requires o c.loop-i-test.true c.items.ensures.1 in
    omega (arith, q.2, (c.write_p-k.ensures q.0 q.1).many, spelled-room inside c.requires o c.loop-i-test.true, c.well_formed.1.0)

pub write_p-slice_bounds-write_c-count : goal.write_p-slice_bounds-write_c-count
write_p-slice_bounds-write_c-count t c =
    let o = after_opening c.loop-i-test.true c.loop-i.invariant.1 c.write_opening-k.ensures in
    omega (arith, spelled-room inside c.requires o c.loop-i-test.true)

pub write_p-slice_bounds-write_c-start : goal.write_p-slice_bounds-write_c-start
write_p-slice_bounds-write_c-start t c =
    let o = after_opening c.loop-i-test.true c.loop-i.invariant.1 c.write_opening-k.ensures in
    omega (arith, spelled-room inside c.requires o c.loop-i-test.true)

pub write_p-write_c-k-requires : goal.write_p-write_c-k-requires
write_p-write_c-k-requires t c =
    let o = after_opening c.loop-i-test.true c.loop-i.invariant.1 c.write_opening-k.ensures in
    let q = items-room c.requires o c.loop-i-test.true c.items-in-CNode.ensures.1 in
    let odd = node_next _ (c.requires.0, c.requires.1) c.loop-i.invariant.1 c.loop-i-test.true (λ e. cc) c.in-CNode.ensures in
    (omega (arith, unvisited_fall (c.requires.0, c.requires.1) c.loop-i.invariant.1 c.loop-i-test.true odd c.items-in-CNode.ensures.1), (q.0, q.1, omega (arith, q.2)))

pub write_p-overflow_add-k-in-CNode : goal.write_p-overflow_add-k-in-CNode
write_p-overflow_add-k-in-CNode t c =
    let o = after_opening c.loop-i-test.true c.loop-i.invariant.1 c.write_opening-k.ensures in
    let q = items-room c.requires o c.loop-i-test.true c.items-in-CNode.ensures.1 in
    omega (arith, q.2, (c.write_c-k.ensures q.0 q.1).many, spelled-room inside c.requires o c.loop-i-test.true, c.well_formed.1.0)

pub write_p-slice_bounds-write_closing-count : goal.write_p-slice_bounds-write_closing-count
write_p-slice_bounds-write_closing-count t c =
    let o = after_opening c.loop-i-test.true c.loop-i.invariant.1 c.write_opening-k.ensures in
    let n : Left c.args.toks.now c.loop-i.i (Spelled behind c.args.out.now c.match-shape.out c.match-shape.k) =
    elim c.match-shape.branch [
      | write_p-in-Leaf w ↦ rw (w.out-is, w.k-is) (after_leaf c.loop-i-test.true o w.in-Leaf.ensures)
      | write_p-in-PNode w ↦ rw (w.out-is, w.k-is) (after_items c.loop-i-test.true o w.items.ensures.1 w.write_p-k.ensures)
      | write_p-in-CNode w ↦ rw (w.out-is, w.k-is) (after_items c.loop-i-test.true o w.items-in-CNode.ensures.1 w.write_c-k.ensures)
    ] in
    omega (arith, spelled-room behind c.requires n c.loop-i-test.true)

pub write_p-slice_bounds-write_closing-start : goal.write_p-slice_bounds-write_closing-start
write_p-slice_bounds-write_closing-start t c =
    let o = after_opening c.loop-i-test.true c.loop-i.invariant.1 c.write_opening-k.ensures in
    let n : Left c.args.toks.now c.loop-i.i (Spelled behind c.args.out.now c.match-shape.out c.match-shape.k) =
    elim c.match-shape.branch [
      | write_p-in-Leaf w ↦ rw (w.out-is, w.k-is) (after_leaf c.loop-i-test.true o w.in-Leaf.ensures)
      | write_p-in-PNode w ↦ rw (w.out-is, w.k-is) (after_items c.loop-i-test.true o w.items.ensures.1 w.write_p-k.ensures)
      | write_p-in-CNode w ↦ rw (w.out-is, w.k-is) (after_items c.loop-i-test.true o w.items-in-CNode.ensures.1 w.write_c-k.ensures)
    ] in
    omega (arith, spelled-room behind c.requires n c.loop-i-test.true)

pub write_p-write_closing-k-requires : goal.write_p-write_closing-k-requires
write_p-write_closing-k-requires t c =
    let o = after_opening c.loop-i-test.true c.loop-i.invariant.1 c.write_opening-k.ensures in
    let n : Left c.args.toks.now c.loop-i.i (Spelled behind c.args.out.now c.match-shape.out c.match-shape.k) =
    elim c.match-shape.branch [
      | write_p-in-Leaf w ↦ rw (w.out-is, w.k-is) (after_leaf c.loop-i-test.true o w.in-Leaf.ensures)
      | write_p-in-PNode w ↦ rw (w.out-is, w.k-is) (after_items c.loop-i-test.true o w.items.ensures.1 w.write_p-k.ensures)
      | write_p-in-CNode w ↦ rw (w.out-is, w.k-is) (after_items c.loop-i-test.true o w.items-in-CNode.ensures.1 w.write_c-k.ensures)
    ] in
    let q = closing-room c.requires n c.loop-i-test.true in ((q.0, q.1, omega (arith, q.2)), omega arith)

pub write_p-overflow_add-k-in-loop-i : goal.write_p-overflow_add-k-in-loop-i
write_p-overflow_add-k-in-loop-i t c =
    let o = after_opening c.loop-i-test.true c.loop-i.invariant.1 c.write_opening-k.ensures in
    let n : Left c.args.toks.now c.loop-i.i (Spelled behind c.args.out.now c.match-shape.out c.match-shape.k) =
    elim c.match-shape.branch [
      | write_p-in-Leaf w ↦ rw (w.out-is, w.k-is) (after_leaf c.loop-i-test.true o w.in-Leaf.ensures)
      | write_p-in-PNode w ↦ rw (w.out-is, w.k-is) (after_items c.loop-i-test.true o w.items.ensures.1 w.write_p-k.ensures)
      | write_p-in-CNode w ↦ rw (w.out-is, w.k-is) (after_items c.loop-i-test.true o w.items-in-CNode.ensures.1 w.write_c-k.ensures)
    ] in
    let q = closing-room c.requires n c.loop-i-test.true in omega (arith, q.2, (c.write_closing-k.ensures q.0 q.1).many, spelled-room behind c.requires n c.loop-i-test.true, c.well_formed.1.0)

pub write_p-loop-i-preserved : goal.write_p-loop-i-preserved
write_p-loop-i-preserved t c =
    let o = after_opening c.loop-i-test.true c.loop-i.invariant.1 c.write_opening-k.ensures in
    let n : Left c.args.toks.now c.loop-i.i (Spelled behind c.args.out.now c.match-shape.out c.match-shape.k) =
    elim c.match-shape.branch [
      | write_p-in-Leaf w ↦ rw (w.out-is, w.k-is) (after_leaf c.loop-i-test.true o w.in-Leaf.ensures)
      | write_p-in-PNode w ↦ rw (w.out-is, w.k-is) (after_items c.loop-i-test.true o w.items.ensures.1 w.write_p-k.ensures)
      | write_p-in-CNode w ↦ rw (w.out-is, w.k-is) (after_items c.loop-i-test.true o w.items-in-CNode.ensures.1 w.write_c-k.ensures)
    ] in
    (omega arith, after_closing c.loop-i-test.true n c.write_closing-k.ensures c.size-i.ensures.2)

pub write_p-returns : goal.write_p-returns
write_p-returns t c = λ j e. written_end (at_last c.loop-i.invariant.1 (omega arith) j e)
