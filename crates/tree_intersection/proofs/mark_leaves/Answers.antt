use mathlib.Core.Path.{sym, ap, ◌∙◌}
use mathlib.Core.List.{List}
use Prim.Native.Nat.{ℕ}
use native.Mathlib.Omega.{arith}
use lib.ListN.{length}
use Rattle.spec_orders.specs.Lists.{elem}
use Rattle.spec_orders.specs.Tree.{frontier}
use Rattle.mark_words.specs.Marks.{marked, words_of, either}
use Rattle.mark_words.proofs.Words.{words_of-marked}
use Rattle.tree_tokens.specs.Tokens.{tree}
use Rattle.tree_tokens.proofs.Steps.{at_last, next_token, frontier_leaf_at, frontier-node_at, opened}
use Rattle.tree_intersection.proofs.Marking.{marks_more}
use Rattle.tree_intersection.proofs.mark_leaves.Goals as goal

pub loop-t-preserved-then-t-ne0 : goal.loop-t-preserved-then-t-ne0
loop-t-preserved-then-t-ne0 c = (
  c.loop-t.invariant.0,
  next_token c.loop-t.invariant.1 (omega arith)
      (λ j k p q. q ∙ ap (λ (l : List ℕ). words_of (length c.loop-t.words) (either (elem l) (marked c.loop-t.words))) (frontier-node_at p c.if-t-ne0.true)),
)

pub loop-t-preserved : goal.loop-t-preserved
loop-t-preserved c = (
  (λ k. (c.type_inv.words k).fits),
  next_token c.loop-t.invariant.1 (omega arith)
      (λ j k p q. q ∙ ap (λ (l : List ℕ). words_of (length c.loop-t.words) (either (elem l) (marked c.loop-t.words))) (frontier_leaf_at p c.if-t-ne0.false)
      ∙ marks_more _ (frontier (tree (opened k))) c.loop-t.words _ c.set.ensures),
)

pub returns : goal.returns
returns c = λ j e. sym (at_last c.loop-t.invariant.1 (omega arith) j e ∙ words_of-marked c.loop-t.words c.loop-t.invariant.0)
