use Rattle.tree_pieces.proofs.States.{span_all}
use Rattle.tree_pieces.proofs.all_of_state.Goals as goal

pub returns : goal.returns
returns c = λ j e. span_all c.args.s j (c.span.ensures.1 j e) c.span.ensures.0
