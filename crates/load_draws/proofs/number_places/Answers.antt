use Rattle.load_draws.proofs.Steps.{numbers_step}
use Rattle.load_draws.proofs.number_places.Goals as goal

pub loop-i-preserved : goal.loop-i-preserved
loop-i-preserved c = rw c.loop-i.invariant (numbers_step c.args.places.now c.loop-i.i c.loop-i-test.true)
