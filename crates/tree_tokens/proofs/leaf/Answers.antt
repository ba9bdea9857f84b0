use Rattle.tree_tokens.proofs.Laws.{first_leaf_is}
use Rattle.tree_tokens.proofs.leaf.Goals as goal

pub returns : goal.returns
returns c = λ j e h. first_leaf_is j e h
