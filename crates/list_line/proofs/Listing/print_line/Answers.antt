use Rattle.list_line.proofs.Last.{last_tokens, last_order}
use Rattle.list_line.proofs.Listing.print_line.Goals as goal

pub print_line-requires : goal.print_line-requires
print_line-requires c =
    let s = c.args.self.now in
    (c.requires.0, last_tokens s.file.holds s.last_tree, last_order s.file.holds s.last_order, c.requires.1)

pub returns-clause-printed : goal.returns-clause-printed
returns-clause-printed c = (c.print_line.ensures.printed.0, c.print_line.ensures.printed.1 c.args.self.now.last_tree c.args.self.now.last_order)
