use mathlib.Core.Path.{sym, ap, ◌∙◌}
use Rattle.spec_orders.specs.Tree.{Forest, append, rev}
use Rattle.spec_orders.specs.Form.{first}
use Rattle.spec_orders.proofs.Laws.{forest_nil}
use Rattle.tree_tokens.specs.Tokens.{Judged, tree}
use Rattle.tree_tokens.proofs.Laws.{at_end}
use Rattle.tree_laid.proofs.Laws.{last_some, tokens_items}
use Rattle.tree_laid.proofs.last_or.Goals as goal

pub returns-then-x-eq0 : goal.returns-then-x-eq0
returns-then-x-eq0 c = λ j g e h. h ∙ ap (λ (f : Forest). first (rev f)) (sym (ap (λ (k : Judged). append g (tree k)) (at_end j e c.if-x-eq0.true) ∙ forest_nil g))

pub returns : goal.returns
returns c = λ j g e h. c.last_leaf.ensures j e ∙ sym (last_some g (tree j) (tokens_items j e c.if-x-eq0.false))
