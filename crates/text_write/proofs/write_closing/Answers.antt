use Prim.Native.Nat.{◌<◌}
use mathlib.Core.Path.{sym, ap}
use native.Mathlib.Omega.{arith}
use lib.ListN.{length, length-set, length-take, length-drop}
use Rattle.tree_tokens.proofs.Laws.{shape_no}
use Rattle.tree_tokens.proofs.Writes.{wrote_one, wrote_then}
use Rattle.text_write.proofs.Laws.{closing_leaf, closing_node}
use Rattle.text_write.proofs.write_closing.Goals as goal

pub write_gap-requires : goal.write_gap-requires
write_gap-requires c =
    let p = c.requires.0 in
    (_, c.rest.ensures.1 p.0 p.1, omega (arith, p.2, ap length (closing_leaf p.0 (sym (c.in-Leaf.ensures p.0 p.1)))))

pub returns-in-Leaf : goal.returns-in-Leaf
returns-in-Leaf c = λ j e. rw (closing_leaf j (sym (c.in-Leaf.ensures j e))) (c.write_gap.ensures _ (c.rest.ensures.1 j e))

pub bounds-out-0 : goal.bounds-out-0
bounds-out-0 c =
    let p = c.requires.0 in
    omega (arith, p.2, ap length (closing_node p.0 p.1 c.requires.1 (shape_no c.shape.ensures c.in_default.not-Leaf p.0 p.1)))

pub slice_bounds-write_gap-count : goal.slice_bounds-write_gap-count
slice_bounds-write_gap-count c =
    let p = c.requires.0 in
    simp length-set (omega (arith, p.2, ap length (closing_node p.0 p.1 c.requires.1 (shape_no c.shape.ensures c.in_default.not-Leaf p.0 p.1))))

pub slice_bounds-write_gap-start : goal.slice_bounds-write_gap-start
slice_bounds-write_gap-start c =
    let p = c.requires.0 in
    simp length-set (omega (arith, p.2, ap length (closing_node p.0 p.1 c.requires.1 (shape_no c.shape.ensures c.in_default.not-Leaf p.0 p.1))))

pub write_gap-requires-2 : goal.write_gap-requires-2
write_gap-requires-2 c =
    let p = c.requires.0 in
    (_, c.rest-2.ensures.1 p.0 p.1, simp (length-take, length-drop, length-set) (omega (arith, p.2, ap length (closing_node p.0 p.1 c.requires.1 (shape_no c.shape.ensures c.in_default.not-Leaf p.0 p.1)))))

pub returns : goal.returns
returns c =
    let p = c.requires.0 in
    let room : 0 < length c.args.out.now = omega (arith, p.2, ap length (closing_node p.0 p.1 c.requires.1 (shape_no c.shape.ensures c.in_default.not-Leaf p.0 p.1))) in
    λ j e. rw (closing_node j e c.requires.1 (shape_no c.shape.ensures c.in_default.not-Leaf j e))
    (wrote_then (wrote_one 41 _ room) (c.write_gap-2.ensures _ (c.rest-2.ensures.1 j e)))
