use mathlib.Core.Path.{ap, ◌∙◌}
use native.Mathlib.Omega.{arith}
use lib.ListN.{length, length-drop}
use Rattle.spec_orders.specs.Tree.{Forest}
use Rattle.tree_tokens.specs.Tokens.{flat}
use Rattle.tree_tokens.specs.Views.{items_of}
use Rattle.tree_tokens.proofs.Laws.{shape_yes, shape_no}
use Rattle.tree_spans.specs.Spans.{is as is_state, beyond}
use Rattle.tree_update.proofs.Laws.{reduced_leaf, reduced_whole, reduced_c, reduced_p, c_length}
use Rattle.tree_update.proofs.OneItem.{lone_some, forks_items, forks_beyond, forks_some, inner, inner_short, round_c, round_c_length, round_p, round_p_length}
use Rattle.tree_update.proofs.Reducing.{not_whole, front_are, others_are, only_one, not_one}
use Rattle.tree_update.proofs.+reduced.Goals as goal

pub returns-in-Leaf : goal.returns-in-Leaf
returns-in-Leaf t c = (c.stay.ensures.0, λ j e. rw (reduced_leaf j (shape_yes c.shape-shape.ensures c.in-Leaf.is j e)) (c.stay.ensures.1 j e))

pub returns-then-state-lt2 : goal.returns-then-state-lt2
returns-then-state-lt2 t c = (c.stay-then-state-lt2.ensures.0, λ j e. rw (reduced_whole j (omega (arith, c.state.ensures j e, c.if-state-lt2.true))) (c.stay-then-state-lt2.ensures.1 j e))

pub reduced-t-requires : goal.reduced-t-requires
reduced-t-requires t c =
    let j = c.requires.0.0 in
    let e = c.requires.0.1 in
    let y = others_are c.items-w.ensures.1 c.span-i.ensures.1 j e in
    let l = only_one c.items-w.ensures.1 c.span-i.ensures.1 c.lone.ensures c.if-lone.true j e in
    let d = length-drop c.span-i.result c.items-w.result.now in (
      omega (arith, d, c.items-w.ensures.0),
      (
        (_, y, forks_beyond (is_state 0) (items_of j) (forks_items j c.requires.0.2), omega (arith, c.requires.0.3, inner_short j (shape_no c.shape-shape.ensures c.in_default.not-Leaf j e) (not_whole c.state.ensures c.if-state-lt2.false j e) l)),
        omega (arith, ap length y, lone_some (beyond (is_state 0) (items_of j)) l),
        omega (arith, d, c.items-w.ensures.0, c.requires.2),
        c.requires.3,
        c.requires.4,
      ),
    )

pub rest-after-requires : goal.rest-after-requires
rest-after-requires t c =
    let j = c.requires.0.0 in
    let e = c.requires.0.1 in
    let y = others_are c.items-w.ensures.1 c.span-i.ensures.1 j e in
    let l = only_one c.items-w.ensures.1 c.span-i.ensures.1 c.lone.ensures c.if-lone.true j e in
    ((_, y), omega (arith, ap length y, lone_some (beyond (is_state 0) (items_of j)) l))

pub circle-requires : goal.circle-requires
circle-requires t c =
    let j = c.requires.0.0 in
    let e = c.requires.0.1 in
    let a = front_are c.items-w.ensures.1 c.span-i.ensures.1 j e in
    let y = others_are c.items-w.ensures.1 c.span-i.ensures.1 j e in
    let b = c.rest-after.ensures.1 _ y in
    let i = c.reduced-t.ensures.1 _ y in
    let l = round_c_length j (shape_yes c.shape-shape.ensures c.in-CNode.is j e) (not_whole c.state.ensures c.if-state-lt2.false j e) (only_one c.items-w.ensures.1 c.span-i.ensures.1 c.lone.ensures c.if-lone.true j e) in
    ((_, a), (_, b), (_, i), c.reduced-t.ensures.0, omega (arith, ap length a, ap length b, i.held.many, l, c.requires.0.3), c.reduced-t.auto.buf ∙ c.requires.3, c.reduced-t.auto.tmp ∙ c.requires.4)

pub returns-in-CNode : goal.returns-in-CNode
returns-in-CNode t c = (
  c.circle.ensures.0,
  λ j e.
      let y = others_are c.items-w.ensures.1 c.span-i.ensures.1 j e in
      rw (round_c j (shape_yes c.shape-shape.ensures c.in-CNode.is j e) (not_whole c.state.ensures c.if-state-lt2.false j e) (only_one c.items-w.ensures.1 c.span-i.ensures.1 c.lone.ensures c.if-lone.true j e))
      (c.circle.ensures.1 _ _ (inner j) (front_are c.items-w.ensures.1 c.span-i.ensures.1 j e) (c.rest-after.ensures.1 _ y) (c.reduced-t.ensures.1 _ y)),
)

pub seat-requires : goal.seat-requires
seat-requires t c =
    let j = c.requires.0.0 in
    let e = c.requires.0.1 in
    let a = front_are c.items-w.ensures.1 c.span-i.ensures.1 j e in
    let y = others_are c.items-w.ensures.1 c.span-i.ensures.1 j e in
    let b = c.rest-after.ensures.1 _ y in
    let i = c.reduced-t.ensures.1 _ y in
    let l = round_p_length j (shape_no c.shape-shape.ensures c.in_default.not-Leaf j e) (shape_no c.shape-shape.ensures c.in_default-shape.not-CNode j e) (not_whole c.state.ensures c.if-state-lt2.false j e)
    (only_one c.items-w.ensures.1 c.span-i.ensures.1 c.lone.ensures c.if-lone.true j e) in
    ((_, a), (_, b), (_, i), c.reduced-t.ensures.0, omega (arith, ap length a, ap length b, i.held.many, l, c.requires.0.3), c.reduced-t.auto.buf ∙ c.requires.3, c.reduced-t.auto.tmp ∙ c.requires.4)

pub returns-in_default-shape : goal.returns-in_default-shape
returns-in_default-shape t c = (
  c.seat.ensures.0,
  λ j e.
      let y = others_are c.items-w.ensures.1 c.span-i.ensures.1 j e in
      rw (round_p j (shape_no c.shape-shape.ensures c.in_default.not-Leaf j e) (shape_no c.shape-shape.ensures c.in_default-shape.not-CNode j e) (not_whole c.state.ensures c.if-state-lt2.false j e)
      (only_one c.items-w.ensures.1 c.span-i.ensures.1 c.lone.ensures c.if-lone.true j e))
      (c.seat.ensures.1 _ _ (inner j) (front_are c.items-w.ensures.1 c.span-i.ensures.1 j e) (c.rest-after.ensures.1 _ y) (c.reduced-t.ensures.1 _ y)),
)

pub base_c-requires : goal.base_c-requires
base_c-requires t c =
    let j = c.requires.0.0 in
    let e = c.requires.0.1 in
    let l = c_length j (shape_yes c.shape-shape.ensures c.in-CNode-shape.is j e) (not_whole c.state.ensures c.if-state-lt2.false j e) in
    ((_, c.items-w.ensures.1 j e, omega (arith, l, c.requires.0.3)), omega (arith, c.items-w.ensures.0, c.requires.2), not_one c.items-w.ensures.1 c.span-i.ensures.1 c.lone.ensures c.if-lone.false, c.requires.3, c.requires.4)

pub returns-in-CNode-shape : goal.returns-in-CNode-shape
returns-in-CNode-shape t c = (
  c.base_c.ensures.0,
  λ j e. rw (reduced_c j (shape_yes c.shape-shape.ensures c.in-CNode-shape.is j e) (not_whole c.state.ensures c.if-state-lt2.false j e)) (c.base_c.ensures.1 _ (c.items-w.ensures.1 j e)),
)

pub base_p-requires : goal.base_p-requires
base_p-requires t c =
    let j = c.requires.0.0 in
    let e = c.requires.0.1 in
    let w = c.items-w.ensures.1 j e in
    let n = shape_no c.shape-shape.ensures c.in_default.not-Leaf j e in
    let q = ap (λ (f : Forest). length (flat f)) (reduced_p j n (shape_no c.shape-shape.ensures c.in_default-shape-2.not-CNode j e) (not_whole c.state.ensures c.if-state-lt2.false j e)) in (
      (_, w, omega (arith, q, c.requires.0.3)),
      omega (arith, ap length w, forks_some j e c.requires.1 n c.requires.0.2),
      omega (arith, c.items-w.ensures.0, c.requires.2),
      not_one c.items-w.ensures.1 c.span-i.ensures.1 c.lone.ensures c.if-lone.false,
      c.requires.3,
      c.requires.4,
    )

pub returns-in_default-shape-2 : goal.returns-in_default-shape-2
returns-in_default-shape-2 t c = (
  c.base_p.ensures.0,
  λ j e. rw (reduced_p j (shape_no c.shape-shape.ensures c.in_default.not-Leaf j e) (shape_no c.shape-shape.ensures c.in_default-shape-2.not-CNode j e) (not_whole c.state.ensures c.if-state-lt2.false j e)) (c.base_p.ensures.1 _ (c.items-w.ensures.1 j e)),
)
