use Rattle.list_line.proofs.put_ring.Goals as goal

pub returns : goal.returns
returns c = (c.put_fields.ensures.0, λ s k q h. c.put_fields.ensures.1 s k c.args.ring.now.toks.now c.args.ring.now.tokens q h)
