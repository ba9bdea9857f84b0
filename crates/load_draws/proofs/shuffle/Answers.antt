use mathlib.Core.Path.{◌≡◌, sym, ap, ◌∙◌}
use Prim.Native.Nat.{◌+◌, ◌-◌}
use native.Mathlib.Omega.{arith}
use Rattle.std.proofs.lemmas.List.Edits.{swap_is}
use Rattle.spec_load.specs.TestLoad.{drawn, shuffled}
use Rattle.spec_load.proofs.Circle.{drawn_within}
use Rattle.load_draws.proofs.Steps.{shuffled-step, state_step, shuffled_end}
use Rattle.load_draws.proofs.shuffle.Goals as goal

pub overflow_sub-draw : goal.overflow_sub-draw
overflow_sub-draw c = omega (arith, c.draw-draw.ensures.1, drawn_within c.loop-i.from.state (c.loop-i.i - 1 + 1) (omega arith))

pub swap-requires-clause-b_in_bounds : goal.swap-requires-clause-b_in_bounds
swap-requires-clause-b_in_bounds c = omega (arith, c.draw-draw.ensures.1, drawn_within c.loop-i.from.state (c.loop-i.i - 1 + 1) (omega arith))

pub loop-i-preserved : goal.loop-i-preserved
loop-i-preserved c =
    let back : c.loop-i.i - 1 + 1 ≡ c.loop-i.i = omega arith in
    let drawn_at : c.draw-draw.result.number ≡ drawn c.loop-i.from.state c.loop-i.i = c.draw-draw.ensures.1 ∙ ap (drawn c.loop-i.from.state) back in
    let number = drawn_within c.loop-i.from.state c.loop-i.i (omega arith) in (
      c.loop-i.invariant.0
          ∙ shuffled-step c.loop-i.i c.loop-i-test.true c.loop-i.from.state c.draw-draw.ensures.0 c.loop-i.places drawn_at
          ∙ ap (shuffled (c.loop-i.i - 1) c.draw-draw.result.next.state)
          (swap_is c.loop-i.places (c.loop-i.i - 1) (c.draw-draw.result.number - 1) 0 (omega arith) (omega (arith, number, drawn_at)) ∙ sym c.swap.ensures.after),
      c.loop-i.invariant.1 ∙ state_step c.loop-i.i c.loop-i-test.true c.loop-i.from.state c.draw-draw.ensures.0,
    )

pub returns : goal.returns
returns c =
    let e = shuffled_end c.loop-i.i c.loop-i.from.state c.loop-i.places (omega (arith, c.loop-i-test.false)) in
    (sym (c.loop-i.invariant.1 ∙ e.1), sym (c.loop-i.invariant.0 ∙ e.0))
