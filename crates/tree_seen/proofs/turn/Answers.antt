use mathlib.Core.Path.{ap}
use Prim.Native.Nat.{◌≤◌}
use native.Mathlib.Omega.{arith}
use lib.ListN.{length, length-drop}
use Rattle.spec_orders.specs.Tree.{append}
use Rattle.spec_orders.specs.Reduce.{put, one}
use Rattle.tree_seen.proofs.Items.{one_some}
use Rattle.tree_seen.proofs.Turning.{node_long, front_tokens, from_tokens, back_tokens, x_long, w_long, shape_c, shape_p, lies_c, lies_p}
use Rattle.tree_seen.proofs.turn.Goals as goal

pub items-w-requires : goal.items-w-requires
items-w-requires c = let n = c.requires.0.4 in ((_, n.is), omega (arith, ap length n.is, node_long c.requires.0.0 (append c.requires.0.1 (put c.requires.0.2 c.requires.0.3))))

pub offset_bounds-w-e : goal.offset_bounds-w-e
offset_bounds-w-e c =
    let starts : (c.args.e ≤ length c.items-w.result.now) × (length c.items-w.result.now ≤ 511) = (let n = c.requires.0.4 in
    let l = w_long n c.items-w.ensures.1 in
    (omega (arith, l, n.start), omega (arith, l, x_long n c.items-w.ensures.1, c.requires.3))) in
    omega (arith, starts)

pub slice_bounds-rest-count : goal.slice_bounds-rest-count
slice_bounds-rest-count c =
    let starts : (c.args.e ≤ length c.items-w.result.now) × (length c.items-w.result.now ≤ 511) = (let n = c.requires.0.4 in
    let l = w_long n c.items-w.ensures.1 in
    (omega (arith, l, n.start), omega (arith, l, x_long n c.items-w.ensures.1, c.requires.3))) in
    omega (arith, starts)

pub slice_bounds-rest-start : goal.slice_bounds-rest-start
slice_bounds-rest-start c =
    let starts : (c.args.e ≤ length c.items-w.result.now) × (length c.items-w.result.now ≤ 511) = (let n = c.requires.0.4 in
    let l = w_long n c.items-w.ensures.1 in
    (omega (arith, l, n.start), omega (arith, l, x_long n c.items-w.ensures.1, c.requires.3))) in
    omega (arith, starts)

pub rest-b-requires : goal.rest-b-requires
rest-b-requires c = let n = c.requires.0.4 in
    ((_, from_tokens n c.items-w.ensures.1), omega (arith, length-drop c.args.e c.items-w.result.now, w_long n c.items-w.ensures.1, n.start, one_some c.requires.0.2))

pub circle-requires : goal.circle-requires
circle-requires c = let n = c.requires.0.4 in
    let b = back_tokens n c.items-w.ensures.1 c.rest-b.ensures.1 in
    let a = front_tokens n c.items-w.ensures.1 in
    ((_, b), (_, a), (_, c.requires.1.1), c.requires.2, omega (arith, ap length a, ap length b, x_long n c.items-w.ensures.1, one_some c.requires.0.2, c.requires.3), c.requires.4, c.requires.5)

pub returns-in-CNode : goal.returns-in-CNode
returns-in-CNode c = (
  c.circle.ensures.0,
  λ k f y g v n l.
      let h = c.items-w.ensures.1 in
      lies_c v f g (shape_c (append f (put y g)) c.shape.ensures k n.is c.in-CNode.is) (c.circle.ensures.1 _ _ (one v) (back_tokens n h c.rest-b.ensures.1) (front_tokens n h) l),
)

pub seat-requires : goal.seat-requires
seat-requires c = let n = c.requires.0.4 in
    let b = back_tokens n c.items-w.ensures.1 c.rest-b.ensures.1 in
    let a = front_tokens n c.items-w.ensures.1 in
    ((_, a), (_, b), (_, c.requires.1.1), c.requires.2, omega (arith, ap length a, ap length b, x_long n c.items-w.ensures.1, one_some c.requires.0.2, c.requires.3), c.requires.4, c.requires.5)

pub returns-in_default : goal.returns-in_default
returns-in_default c = (
  c.seat.ensures.0,
  λ k f y g v n l.
      let h = c.items-w.ensures.1 in
      lies_p v y f g (shape_p (append f (put y g)) c.shape.ensures k n.is c.in_default.not-CNode) n.two (c.seat.ensures.1 _ _ (one v) (front_tokens n h) (back_tokens n h c.rest-b.ensures.1) l),
)
