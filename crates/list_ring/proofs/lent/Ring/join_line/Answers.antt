use Rattle.tree_tokens.proofs.Writes.{read_back}
use Rattle.spec_listing.specs.Listing.{state_at}
use Rattle.list_ring.specs.Stands.{lists_of}
use Rattle.list_ring.proofs.Files.{file_line, stands_more}
use Rattle.list_ring.proofs.lent.Ring.join_line.Goals as goal

pub advance-requires : goal.advance-requires
advance-requires c =
    let f = c.args.file.holds in
    (state_at c.args.file.names (lists_of f) c.args.l, c.requires.1, rw (read_back c.group-k.ensures.0) (file_line f c.args.l c.requires.0))

pub returns-clause-stands : goal.returns-clause-stands
returns-clause-stands c =
    let f = c.args.file.holds in
    stands_more f c.args.l c.requires.0 (read_back c.group-k.ensures.0) (c.advance.ensures.stands (state_at c.args.file.names (lists_of f) c.args.l) c.requires.1)
