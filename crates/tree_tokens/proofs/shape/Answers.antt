use Rattle.tree_tokens.proofs.Laws.{shape_leaf, shape_p, shape_c}
use Rattle.tree_tokens.proofs.shape.Goals as goal

pub returns-then-t-eq0 : goal.returns-then-t-eq0
returns-then-t-eq0 c = λ j e. shape_leaf j e c.requires.1 c.if-t-eq0.true

pub returns-then-t-eq1 : goal.returns-then-t-eq1
returns-then-t-eq1 c = λ j e. shape_p j e c.requires.1 c.if-t-eq1.true

pub returns-else-t-eq1 : goal.returns-else-t-eq1
returns-else-t-eq1 c = λ j e. shape_c j e c.requires.1 c.if-t-eq0.false c.if-t-eq1.false
