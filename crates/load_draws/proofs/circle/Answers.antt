use lib.ListN.{length}
use Rattle.load_draws.proofs.Steps.{circle_is}
use Rattle.load_draws.proofs.circle.Goals as goal

pub returns : goal.returns
returns c = circle_is (length c.args.places.now) c.args.generator.state c.number_places.ensures c.shuffle.ensures.0 c.shuffle.ensures.1
