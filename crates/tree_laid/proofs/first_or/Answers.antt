use mathlib.Core.Path.{sym, ap, ◌∙◌}
use Rattle.spec_orders.specs.Tree.{append}
use Rattle.spec_orders.specs.Form.{first}
use Rattle.tree_tokens.specs.Tokens.{Judged, tree}
use Rattle.tree_tokens.proofs.Laws.{at_end}
use Rattle.tree_laid.proofs.Laws.{first_some, tokens_items}
use Rattle.tree_laid.proofs.first_or.Goals as goal

pub returns-then-x-eq0 : goal.returns-then-x-eq0
returns-then-x-eq0 c = λ j g e h. h ∙ ap (λ (k : Judged). first (append (tree k) g)) (sym (at_end j e c.if-x-eq0.true))

pub returns : goal.returns
returns c = λ j g e h. c.first_leaf.ensures j e ∙ sym (first_some (tree j) g (tokens_items j e c.if-x-eq0.false))
