use Rattle.tree_tokens.proofs.Laws.{part_first}
use borrow.Author.Rules.{rules}
use Rattle.tree_tokens.proofs.first.Goals as goal

pub returns : goal.returns
returns c = (search rules, λ j e. part_first j e (c.size-m.ensures.2 j e))
