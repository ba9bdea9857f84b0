use mathlib.Core.Path.{refl, ap, ◌∙◌}
use Prim.Native.Nat.{◌+◌, ◌≤◌}
use lib.ListN.{length}
use native.Mathlib.Omega.{arith}
use Rattle.tree_tokens.specs.Tokens.{flat}
use Rattle.spec_orders.specs.Tree.{Forest}
use Rattle.spec_orders.specs.Form.{first}
use Rattle.tree_tokens.proofs.Sequences.{tree_plain}
use Rattle.tree_tokens.proofs.Writes.{wrote_head}
use Rattle.tree_pieces.proofs.Laws.{placed, placed_few, placed_many, placed_le}
use Rattle.tree_pieces.proofs.among.Goals as goal

pub insert-requires : goal.insert-requires
insert-requires c =
    let p = c.requires in (
      _,
      p.1,
      p.2,
      p.3,
      c.first_leaf-b.ensures _ p.3 ∙ ap first (tree_plain p.1),
      omega (
        arith,
        p.5,
        ap (λ (f : Forest). length (flat f)) (placed_few p.1 p.0 (c.count.ensures.1 p.0 p.2) (c.item_count.ensures.1 _ p.3) c.if-count-item_count-lt2.true),
      ),
    )

pub returns-then-count-item_count-lt2 : goal.returns-then-count-item_count-lt2
returns-then-count-item_count-lt2 c = λ j g e q. rw (placed_few g j (c.count.ensures.1 j e) (c.item_count.ensures.1 _ q) c.if-count-item_count-lt2.true) (c.insert.ensures j g e q)

pub slice_bounds-insert-count : goal.slice_bounds-insert-count
slice_bounds-insert-count c =
    let room : 1 + length (flat (placed c.requires.1 c.requires.0)) ≤ length c.args.out.now = (let p = c.requires in
    omega (arith, p.5, ap length (placed_many p.1 p.0 (c.count.ensures.1 p.0 p.2) (c.item_count.ensures.1 _ p.3) c.if-count-item_count-lt2.false refl))) in
    omega (arith, room)

pub slice_bounds-insert-start : goal.slice_bounds-insert-start
slice_bounds-insert-start c =
    let room : 1 + length (flat (placed c.requires.1 c.requires.0)) ≤ length c.args.out.now = (let p = c.requires in
    omega (arith, p.5, ap length (placed_many p.1 p.0 (c.count.ensures.1 p.0 p.2) (c.item_count.ensures.1 _ p.3) c.if-count-item_count-lt2.false refl))) in
    omega (arith, room)

pub insert-m-requires : goal.insert-m-requires
insert-m-requires c =
    let room : 1 + length (flat (placed c.requires.1 c.requires.0)) ≤ length c.args.out.now = (let p = c.requires in
    omega (arith, p.5, ap length (placed_many p.1 p.0 (c.count.ensures.1 p.0 p.2) (c.item_count.ensures.1 _ p.3) c.if-count-item_count-lt2.false refl))) in
    let p = c.requires in
    (_, p.1, p.2, p.3, c.first_leaf-b.ensures _ p.3 ∙ ap first (tree_plain p.1), omega (arith, room, c.insert-arg-2-1.given))

pub overflow_mul-out : goal.overflow_mul-out
overflow_mul-out c =
    let few : c.insert-m.result ≤ length c.args.x.now + length c.args.t.now = (let p = c.requires in
    omega (arith, (c.insert-m.ensures p.0 p.1 p.2 p.3).many, placed_le p.1 p.0, ap length p.2, ap length p.3)) in
    omega (arith, few, c.requires.4)

pub overflow_add-out : goal.overflow_add-out
overflow_add-out c =
    let few : c.insert-m.result ≤ length c.args.x.now + length c.args.t.now = (let p = c.requires in
    omega (arith, (c.insert-m.ensures p.0 p.1 p.2 p.3).many, placed_le p.1 p.0, ap length p.2, ap length p.3)) in
    omega (arith, few, c.requires.4)

pub overflow_cast-out : goal.overflow_cast-out
overflow_cast-out c =
    let few : c.insert-m.result ≤ length c.args.x.now + length c.args.t.now = (let p = c.requires in
    omega (arith, (c.insert-m.ensures p.0 p.1 p.2 p.3).many, placed_le p.1 p.0, ap length p.2, ap length p.3)) in
    omega (arith, few, c.requires.4)

pub bounds-out-0 : goal.bounds-out-0
bounds-out-0 c =
    let room : 1 + length (flat (placed c.requires.1 c.requires.0)) ≤ length c.args.out.now = (let p = c.requires in
    omega (arith, p.5, ap length (placed_many p.1 p.0 (c.count.ensures.1 p.0 p.2) (c.item_count.ensures.1 _ p.3) c.if-count-item_count-lt2.false refl))) in
    omega (arith, room, c.out-2-1.given)

pub returns : goal.returns
returns c =
    let room : 1 + length (flat (placed c.requires.1 c.requires.0)) ≤ length c.args.out.now = (let p = c.requires in
    omega (arith, p.5, ap length (placed_many p.1 p.0 (c.count.ensures.1 p.0 p.2) (c.item_count.ensures.1 _ p.3) c.if-count-item_count-lt2.false refl))) in
    λ j g e q.
    let w = c.insert-m.ensures j g e q in
    rw (placed_many g j (c.count.ensures.1 j e) (c.item_count.ensures.1 _ q) c.if-count-item_count-lt2.false w.many) (wrote_head _ c.args.out.now (omega (arith, room)) w)
