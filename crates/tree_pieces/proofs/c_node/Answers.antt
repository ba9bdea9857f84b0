use mathlib.Core.Path.{ap}
use Prim.Native.Nat.{◌<◌}
use native.Mathlib.Omega.{arith}
use Rattle.spec_orders.specs.Tree.{Forest, rev}
use Rattle.spec_orders.specs.Form.{first}
use Rattle.tree_tokens.proofs.Sequences.{tree_plain}
use Rattle.tree_tokens.proofs.Writes.{wrote_head}
use Rattle.tree_pieces.proofs.Laws.{flat-rev, flat_turned, flat_kept}
use Rattle.tree_pieces.proofs.c_node.Goals as goal

pub returns-then-last_leaf-first_leaf : goal.returns-then-last_leaf-first_leaf
returns-then-last_leaf-first_leaf c = λ f e.
    let l = e in
    let turned : first (rev f) < first f = omega (
      arith,
      c.last_leaf.ensures _ l,
      ap (λ (g : Forest). first (rev g)) (tree_plain f),
      c.first_leaf.ensures _ l,
      ap first (tree_plain f),
      c.if-last_leaf-first_leaf.true,
    ) in
    let w = rw (flat-rev f) at (c.reverse-k.ensures.1 _ l) in
    rw (flat_turned f turned w.many) (wrote_head _ c.args.out.now (omega arith) w)

pub returns : goal.returns
returns c = λ f e.
    let l = e in
    let w = rw e at c.copy-m.ensures in
    rw (flat_kept f (λ h. omega (
      arith,
      h,
      c.last_leaf.ensures _ l,
      ap (λ (g : Forest). first (rev g)) (tree_plain f),
      c.first_leaf.ensures _ l,
      ap first (tree_plain f),
      c.if-last_leaf-first_leaf.false,
    )) w.many) (wrote_head _ c.args.out.now (omega arith) w)
