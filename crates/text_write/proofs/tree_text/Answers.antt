use Prim.Native.Nat.{◌<◌}
use native.Mathlib.Omega.{arith}
use lib.ListN.{length-take, length-drop, length, length-set}
use Rattle.tree_tokens.specs.Tokens.{tree}
use Rattle.tree_tokens.proofs.Writes.{wrote_then}
use Rattle.text_write.proofs.Laws.{tree_text_split, tree_text-room, begun, begun-room}
use Rattle.text_write.proofs.tree_text.Goals as goal

pub bounds-out-0 : goal.bounds-out-0
bounds-out-0 c = omega (arith, tree_text-room c.requires.0 c.requires.2)

pub slice_bounds-write_gap-count : goal.slice_bounds-write_gap-count
slice_bounds-write_gap-count c = simp length-set (omega (arith, tree_text-room c.requires.0 c.requires.2))

pub slice_bounds-write_gap-start : goal.slice_bounds-write_gap-start
slice_bounds-write_gap-start c = simp length-set (omega (arith, tree_text-room c.requires.0 c.requires.2))

pub write_gap-k-requires : goal.write_gap-k-requires
write_gap-k-requires c = (c.requires.0, c.requires.1, simp (length-take, length-drop, length-set) (omega (arith, tree_text-room c.requires.0 c.requires.2)))

pub slice_bounds-write_p-count : goal.slice_bounds-write_p-count
slice_bounds-write_p-count c = omega (arith, begun-room c.requires.0 c.requires.2 (begun (tree c.requires.0) (omega (arith, tree_text-room c.requires.0 c.requires.2)) (c.write_gap-k.ensures c.requires.0 c.requires.1)))

pub slice_bounds-write_p-start : goal.slice_bounds-write_p-start
slice_bounds-write_p-start c = omega (arith, begun-room c.requires.0 c.requires.2 (begun (tree c.requires.0) (omega (arith, tree_text-room c.requires.0 c.requires.2)) (c.write_gap-k.ensures c.requires.0 c.requires.1)))

pub write_p-requires : goal.write_p-requires
write_p-requires c = (c.requires.0, c.requires.1, omega (arith, begun-room c.requires.0 c.requires.2 (begun (tree c.requires.0) (omega (arith, tree_text-room c.requires.0 c.requires.2)) (c.write_gap-k.ensures c.requires.0 c.requires.1))))

pub returns : goal.returns
returns c = λ j e.
    let some : 0 < length c.args.out.now = omega (arith, tree_text-room c.requires.0 c.requires.2) in
    rw (tree_text_split (tree j)) (wrote_then (begun (tree j) some (c.write_gap-k.ensures j e)) (c.write_p.ensures j e))
