use Rattle.list_part.proofs.Answers.{final_tokens}
use Rattle.list_part.proofs.print_listing.Goals as goal

pub print_tree-requires : goal.print_tree-requires
print_tree-requires c = final_tokens c.args.file.holds c.replay-toks.ensures.stands
