use mathlib.Core.Path.{sym, ◌∙◌}
use Rattle.tree_linear.proofs.Laws.{line_turned}
use Rattle.tree_linear.proofs.turns.Goals as goal

pub returns : goal.returns
returns c = λ j e h. line_turned c.args.back j (sym (c.in-CNode.ensures j e)) (sym (c.state.ensures j e) ∙ c.if-state-ne2.false) (c.rises.ensures _ (c.items.ensures.1 j e)) h
