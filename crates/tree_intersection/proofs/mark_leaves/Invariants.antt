use mathlib.Core.Path.{◌≡◌}
use lib.ListN.{length}
use Rattle.spec_orders.specs.Lists.{elem}
use Rattle.spec_orders.specs.Tree.{frontier}
use Rattle.mark_words.specs.Marks.{marked, words_of, either}
use Rattle.mark_words.proofs.Words.{Words}
use Rattle.tree_tokens.specs.Tokens.{tree}
use Rattle.tree_tokens.proofs.Steps.{Left}
use Rattle.tree_intersection.proofs.mark_leaves.Given as goal

abbrev pub invariant-loop-t : goal.invariant-loop-t
invariant-loop-t l = Words l.words
    × Left l.toks l.t-index (λ j k. words_of (length l.initial.words) (either (elem (frontier (tree j))) (marked l.initial.words)) ≡ words_of (length l.words) (either (elem (frontier (tree k))) (marked l.words)))
