use Rattle.tree_tokens.proofs.Laws.{first_state}
use Rattle.tree_tokens.proofs.state.Goals as goal

pub returns : goal.returns
returns c = λ j e. first_state j e c.requires.1
