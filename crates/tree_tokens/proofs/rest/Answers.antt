use Rattle.tree_tokens.proofs.Laws.{part_rest}
use borrow.Author.Rules.{rules}
use Rattle.tree_tokens.proofs.rest.Goals as goal

pub returns : goal.returns
returns c = (search rules, λ j e. part_rest j e (c.size-m.ensures.2 j e))
