use mathlib.Core.Path.{sym, ◌∙◌}
use Rattle.tree_tokens.proofs.Laws.{at_end}
use Rattle.tree_pieces.proofs.Laws.{starts, totals_none}
use Rattle.tree_update.proofs.OneItem.{lone_rest}
use Rattle.tree_update.proofs.lone.Goals as goal

pub returns-then-x-eq0 : goal.returns-then-x-eq0
returns-then-x-eq0 c = λ j e. rw (at_end j e c.if-x-eq0.true, totals_none)

pub returns : goal.returns
returns c = λ j e. c.all_of_state.ensures _ (c.rest.ensures.1 j e) ∙ sym (lone_rest (starts j e c.if-x-eq0.false))
