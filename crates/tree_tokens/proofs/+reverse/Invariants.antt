use lib.ListN.{length}
use Rattle.tree_tokens.proofs.+reverse.Given as goal

abbrev pub decreases-reverse : goal.decreases-reverse
decreases-reverse l = length l.toks.now
