use mathlib.Core.Path.{sym, ◌∙◌}
use native.Mathlib.Omega.{arith}
use Rattle.tree_tokens.proofs.Counts.{last_next}
use Rattle.tree_tokens.proofs.Steps.{at_last, next_item, next_leaf, first_leaf_at}
use Rattle.tree_tokens.proofs.last_leaf.Goals as goal

pub loop-i-preserved-then-t-eq0 : goal.loop-i-preserved-then-t-eq0
loop-i-preserved-then-t-eq0 c = (omega arith, next_leaf c.loop-i.invariant.1 (omega arith) (omega (arith, c.if-t-eq0.true)) (λ j k p q. q ∙ last_next c.loop-i.last k p.some (sym (first_leaf_at p (omega (arith, c.if-t-eq0.true))))))

pub loop-i-preserved : goal.loop-i-preserved
loop-i-preserved c = (omega arith, next_item c.loop-i.invariant.1 (omega arith) c.size-i.ensures.2 (λ j k p q. q ∙ last_next c.loop-i.last k p.some (c.first_leaf-last.ensures k p.part)))

pub returns : goal.returns
returns c = λ j e. sym (at_last c.loop-i.invariant.1 (omega arith) j e)
