use mathlib.Core.Path.{sym, ap, ◌∙◌}
use native.Mathlib.Omega.{arith}
use lib.ListN.{length}
use Rattle.tree_tokens.specs.Tokens.{number}
use Rattle.tree_tokens.proofs.Laws.{state-first}
use Rattle.tree_tokens.proofs.Steps.{item_taken, item_tokens, none_left}
use Rattle.tree_pieces.specs.Writers.{with_state}
use Rattle.tree_pieces.proofs.Laws.{at_first, totals_none, with_in, with_out}
use Rattle.tree_pieces.proofs.count.Goals as goal

pub state-requires : goal.state-requires
state-requires c = item_tokens c.loop-item.invariant.1 c.requires c.in-Some.ensures.steps

pub loop-item-preserved-then-state-s : goal.loop-item-preserved-then-state-s
loop-item-preserved-then-state-s c =
    let step = c.in-Some.ensures.steps in (
      omega (arith, step.0, c.loop-item.invariant.0),
      item_taken c.loop-item.invariant.1 step
          (λ j k h x q. omega (arith, q, ap length (with_in c.args.s (at_first k h) (sym (c.state.ensures _ x ∙ ap number (state-first k)) ∙ c.if-state-s.true)))),
    )

pub loop-item-preserved : goal.loop-item-preserved
loop-item-preserved c =
    let step = c.in-Some.ensures.steps in (
      omega (arith, step.0, c.loop-item.invariant.0),
      item_taken c.loop-item.invariant.1 step
          (λ j k h x q. omega (arith, q, ap length (with_out c.args.s (at_first k h) (λ e. c.if-state-s.false (c.state.ensures _ x ∙ ap number (state-first k) ∙ e))))),
    )

pub returns : goal.returns
returns c = (
  omega (arith, c.loop-item.invariant.0),
  λ j e. omega (arith, none_left c.loop-item.invariant.1 (ap length c.in-None.ensures.steps.0) j e, ap (λ ts. length (with_state c.args.s ts)) totals_none),
)
