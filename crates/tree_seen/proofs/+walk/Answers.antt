use native.Mathlib.Omega.{arith}
use lib.ListN.{length-drop}
use Rattle.tree_seen.proofs.Turning.{from_tokens}
use Rattle.tree_seen.proofs.Walking.{stays, inner_of, its_tokens, its_long, step, seen_behind, step_tokens, step_inside, step_less, step_room, step-sees}
use Rattle.tree_seen.proofs.+walk.Goals as goal

pub returns-then-p-eq0 : goal.returns-then-p-eq0
returns-then-p-eq0 t c = (c.requires.3, λ y b v e q l. stays y b v e.0 q c.if-p-eq0.true l)

pub before-e-requires : goal.before-e-requires
before-e-requires t c = let i = inner_of c.requires.0.0 c.requires.0.1 c.requires.1 c.if-p-eq0.false in
    let e = its_tokens i c.items-w.ensures.1 in
    ((i.its, e), omega (arith, its_long c.requires.0.0 c.requires.0.1 c.requires.1 c.if-p-eq0.false c.items-w.ensures.1, c.requires.1, c.if-p-eq0.false))

pub turn-u-requires : goal.turn-u-requires
turn-u-requires t c = let s = step c.requires.0.0 c.requires.0.1 c.requires.1 c.if-p-eq0.false c.items-w.ensures.1 c.before-e.ensures.1 in
    ((_, _, _, _, s.node_at), c.requires.2, c.requires.3, c.requires.4, c.requires.5, c.requires.6)

pub slice_bounds-first-count : goal.slice_bounds-first-count
slice_bounds-first-count t c = omega (arith, c.before-e.ensures.0, c.requires.1, its_long c.requires.0.0 c.requires.0.1 c.requires.1 c.if-p-eq0.false c.items-w.ensures.1)

pub slice_bounds-first-start : goal.slice_bounds-first-start
slice_bounds-first-start t c = omega (arith, c.before-e.ensures.0, c.requires.1, its_long c.requires.0.0 c.requires.0.1 c.requires.1 c.if-p-eq0.false c.items-w.ensures.1)

pub first-requires : goal.first-requires
first-requires t c = let s = step c.requires.0.0 c.requires.0.1 c.requires.1 c.if-p-eq0.false c.items-w.ensures.1 c.before-e.ensures.1 in
    let l = its_long c.requires.0.0 c.requires.0.1 c.requires.1 c.if-p-eq0.false c.items-w.ensures.1 in
    ((_, from_tokens s.node_at c.items-w.ensures.1), omega (arith, length-drop c.before-e.result c.items-w.result.now, c.before-e.ensures.0, c.requires.1, c.if-p-eq0.false, l))

pub walk-requires : goal.walk-requires
walk-requires t c = let h = c.items-w.ensures.1 in
    let d = c.first.ensures.1 in
    let s = step c.requires.0.0 c.requires.0.1 c.requires.1 c.if-p-eq0.false h c.before-e.ensures.1 in
    let v = c.requires.2.0 in
    let l = c.turn-u.ensures.1 _ _ _ _ v s.node_at c.requires.2.1 in (
      omega (arith, step_less s h d, c.requires.0),
      (
        (s.held.at.item, (step_tokens s h d, s.forks)),
        step_inside s h d,
        (seen_behind s v, l),
        c.turn-u.ensures.0,
        step_room s h d v c.requires.4 c.requires.2.1 l,
        omega (arith, c.turn-u.auto, c.requires.5),
        omega (arith, c.turn-u.auto, c.requires.6),
      ),
    )

pub returns : goal.returns
returns t c = (
  c.walk.ensures.0,
  λ y b v e q l.
      let h = c.items-w.ensures.1 in
      let d = c.first.ensures.1 in
      let s = step y e c.requires.1 c.if-p-eq0.false h c.before-e.ensures.1 in
      step-sees s h d b v q (λ i. c.walk.ensures.1 s.held.at.item b (seen_behind s v) (step_tokens s h d, s.forks) i (c.turn-u.ensures.1 _ _ _ _ v s.node_at l)),
)
