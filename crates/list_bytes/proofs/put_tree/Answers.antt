use Rattle.list_bytes.proofs.Laws.{part_appends}
use Rattle.list_bytes.proofs.put_tree.Goals as goal

pub returns : goal.returns
returns c = λ j e. part_appends (c.tree_text.ensures j e)
