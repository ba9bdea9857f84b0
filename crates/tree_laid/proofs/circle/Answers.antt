use mathlib.Core.Path.{◌∙◌}
use native.Mathlib.Omega.{arith}
use Rattle.tree_tokens.specs.Tokens.{tree, j_rev, flat}
use Rattle.tree_tokens.proofs.Writes.{wrote_then}
use Rattle.tree_laid.proofs.Laws.{both_parts, lies_kept, lies_turned, tree-rev}
use Rattle.tree_laid.proofs.Around.{ends}
use Rattle.tree_laid.proofs.circle.Goals as goal

pub returns-then-last-first : goal.returns-then-last-first
returns-then-last-first c = (
  c.wrap.ensures.0,
  λ p q g ea eb l.
      let w = c.reverse-k.ensures.1 q eb in
      let b = both_parts (wrote_then w (c.reverse.ensures.1 p ea)) w.many in
      let f = ends c.first_or-first.ensures c.last_or-last.ensures p q g ea eb l in
      lies_turned (tree p) g (tree q) (tree (j_rev q)) (tree (j_rev p)) l.single (tree-rev q) (tree-rev p) (omega (arith, f.0, f.1, c.if-last-first.true)) (c.wrap.ensures.1 ∙ f.1)
      (c.wrap.ensures.2 (j_rev q) (j_rev p) (flat g) b.0 b.1 l.held),
)

pub returns : goal.returns
returns c = (
  c.wrap-2.ensures.0,
  λ p q g ea eb l.
      let f = ends c.first_or-first.ensures c.last_or-last.ensures p q g ea eb l in
      lies_kept (tree p) g (tree q) (λ h. omega (arith, h, f.0, f.1, c.if-last-first.false)) (c.wrap-2.ensures.1 ∙ f.0) (c.wrap-2.ensures.2 p q (flat g) ea eb l.held),
)
