use mathlib.Core.Path.{sym, ◌∙◌}
use native.Mathlib.Omega.{arith}
use Rattle.tree_tokens.proofs.Steps.{here, at_last, next_token, first_leaf_at, first_none_at, first_inside_at}
use Rattle.tree_tokens.proofs.first_leaf.Goals as goal

pub returns-then-t-eq0 : goal.returns-then-t-eq0
returns-then-t-eq0 c = λ j e. let r = here c.loop-t.invariant (omega arith) j e in sym (r.2 ∙ first_leaf_at r.1 c.if-t-eq0.true)

pub returns-then-t-eq0-2 : goal.returns-then-t-eq0-2
returns-then-t-eq0-2 c = λ j e. let r = here c.loop-t.invariant (omega arith) j e in sym (r.2 ∙ first_none_at r.1 c.if-t-eq0.false c.if-t-eq0-2.true)

pub loop-t-preserved : goal.loop-t-preserved
loop-t-preserved c = next_token c.loop-t.invariant (omega arith) (λ j k p q. q ∙ first_inside_at p c.if-t-eq0.false c.if-t-eq0-2.false)

pub returns : goal.returns
returns c = λ j e. sym (at_last c.loop-t.invariant (omega arith) j e)
