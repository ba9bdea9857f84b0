use Rattle.tree_tokens.specs.Tokens.{plain}
use Rattle.list_ring.specs.Stands.{lists_of}
use Rattle.list_line.specs.Printing.{final}
use Rattle.list_part.proofs.Answers.{order_room, order_read}
use Rattle.list_part.proofs.print_tree.Goals as goal

pub standard_order-n-requires : goal.standard_order-n-requires
standard_order-n-requires c =
    let f = c.args.file.holds in
    (plain (final f.ns (lists_of f)), c.requires, order_room f)

pub invariant_of-whole : goal.invariant_of-whole
invariant_of-whole c =
    let f = c.args.file.holds in
    record { last_tree = c.requires; last_order = order_read f (c.standard_order-n.ensures (plain (final f.ns (lists_of f))) c.requires) }
