use mathlib.Core.Path.{sym, ap}
use Prim.Native.Nat.{◌≤◌}
use native.Mathlib.Omega.{arith}
use lib.ListN.{length, length-set}
use Rattle.tree_tokens.proofs.Writes.{wrote_one, wrote_byte}
use Rattle.text_write.proofs.Laws.{opening_leaf, opening_p, opening_c}
use Rattle.text_write.proofs.write_opening.Goals as goal

pub write_number-requires : goal.write_number-requires
write_number-requires c =
    let p = c.requires.0 in
    let one = sym (c.in-Leaf.ensures p.0 p.1) in
    rw (c.leaf.ensures p.0 p.1 one) (omega (arith, p.2, ap length (opening_leaf p.0 one)))

pub returns-in-Leaf : goal.returns-in-Leaf
returns-in-Leaf c = λ j e.
    let one = sym (c.in-Leaf.ensures j e) in
    rw (opening_leaf j one, ← c.leaf.ensures j e one) c.write_number.ensures

pub bounds-out-0 : goal.bounds-out-0
bounds-out-0 c = let p = c.requires.0 in omega (arith, p.2, ap length (opening_p p.0 (sym (c.in-PNode.ensures p.0 p.1))))

pub bounds-out-1 : goal.bounds-out-1
bounds-out-1 c = let p = c.requires.0 in simp length-set (omega (arith, p.2, ap length (opening_p p.0 (sym (c.in-PNode.ensures p.0 p.1)))))

pub returns-in-PNode : goal.returns-in-PNode
returns-in-PNode c =
    let p = c.requires.0 in
    let room : 2 ≤ length c.args.out.now = omega (arith, p.2, ap length (opening_p p.0 (sym (c.in-PNode.ensures p.0 p.1)))) in
    λ j e. rw (opening_p j (sym (c.in-PNode.ensures j e))) (wrote_byte 40 (wrote_one 80 _ (bounds-out-0 c)) room)

pub bounds-out-0-in-CNode : goal.bounds-out-0-in-CNode
bounds-out-0-in-CNode c = let p = c.requires.0 in omega (arith, p.2, ap length (opening_c p.0 (sym (c.in-CNode.ensures p.0 p.1))))

pub bounds-out-1-in-CNode : goal.bounds-out-1-in-CNode
bounds-out-1-in-CNode c = let p = c.requires.0 in simp length-set (omega (arith, p.2, ap length (opening_c p.0 (sym (c.in-CNode.ensures p.0 p.1)))))

pub returns-in-CNode : goal.returns-in-CNode
returns-in-CNode c =
    let p = c.requires.0 in
    let room : 2 ≤ length c.args.out.now = omega (arith, p.2, ap length (opening_c p.0 (sym (c.in-CNode.ensures p.0 p.1)))) in
    λ j e. rw (opening_c j (sym (c.in-CNode.ensures j e))) (wrote_byte 40 (wrote_one 67 _ (bounds-out-0-in-CNode c)) room)
