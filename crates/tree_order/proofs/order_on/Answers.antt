use Rattle.tree_tokens.specs.Tokens.{plain}
use Rattle.tree_order.proofs.Layouts.{ring-room, wrote_ring, wrote_rack}
use Rattle.tree_order.proofs.order_on.Goals as goal

pub standard_order-requires : goal.standard_order-requires
standard_order-requires c = ring-room c.args.layout c.in-Ring.is c.requires.0 c.requires.1 c.requires.2

pub returns-in-Ring : goal.returns-in-Ring
returns-in-Ring c = λ t e. wrote_ring c.args.layout c.args.n t c.in-Ring.is (c.standard_order.ensures (plain t) e)

pub returns-in-Rack : goal.returns-in-Rack
returns-in-Rack c = λ t e. wrote_rack c.args.layout c.args.n t c.in-Rack.is (c.straight_order.ensures t e)
