use Rattle.tree_tokens.proofs.Laws.{part_items}
use borrow.Author.Rules.{rules}
use Rattle.tree_tokens.proofs.items.Goals as goal

pub returns : goal.returns
returns c = (search rules, λ j e. part_items j e (c.size-m.ensures.2 j e))
