use Rattle.list_ring.proofs.Outcomes.{opened_stands}
use Rattle.list_ring.proofs.lent.Ring.fresh.Goals as goal

pub returns-clause-stands : goal.returns-clause-stands
returns-clause-stands c = opened_stands c.args.n c.fresh-tokens.ensures.1 _ _
