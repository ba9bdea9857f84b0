use mathlib.Core.Path.{sym, ap, ◌∙◌}
use native.Mathlib.Omega.{arith}
use lib.ListN.{length}
use Rattle.spec_orders.specs.Tree.{append}
use Rattle.tree_tokens.specs.Tokens.{tree, plain, flat}
use Rattle.tree_tokens.proofs.Writes.{read_part}
use Rattle.tree_laid.specs.Lying.{lower, upper}
use Rattle.tree_laid.proofs.Laws.{lies_alone, lies_p, sorted_by, parts_long, leaf_inner}
use Rattle.tree_laid.proofs.Around.{both_written, both_parted}
use Rattle.tree_laid.proofs.seat.Goals as goal

pub returns-then-m-eq0 : goal.returns-then-m-eq0
returns-then-m-eq0 c =
    (c.requires.3, λ p q g ea eb l. lies_alone g (append (tree p) (tree q)) (sym (both_written c.strip-i.ensures.1 c.strip.ensures.1 p q ea eb).many ∙ c.if-m-eq0.true) l)

pub rank-k-requires : goal.rank-k-requires
rank-k-requires c =
    (_, read_part (both_written c.strip-i.ensures.1 c.strip.ensures.1 c.requires.0.0 c.requires.1.0 c.requires.0.1 c.requires.1.1))

pub first_or-first-requires : goal.first_or-first-requires
first_or-first-requires c =
    (_, (both_parted c.strip-i.ensures.1 c.strip.ensures.1 c.args.t.first c.rank-k.ensures.1 c.requires.0.0 c.requires.1.0 c.requires.0.1 c.requires.1.1).0)

pub wrap-requires : goal.wrap-requires
wrap-requires c =
    let p = c.requires.0 in
    let q = c.requires.1 in
    let s = both_parted c.strip-i.ensures.1 c.strip.ensures.1 c.args.t.first c.rank-k.ensures.1 p.0 q.0 p.1 q.1 in
    let f = append (tree p.0) (tree q.0) in
    ((_, s.0), (_, s.1), c.requires.3, omega (arith, c.requires.4, (both_written c.strip-i.ensures.1 c.strip.ensures.1 p.0 q.0 p.1 q.1).many, c.strip-i.ensures.0, c.strip.ensures.0, ap length s.0, ap length s.1, parts_long c.args.t.first f), omega arith, c.requires.5)

pub returns : goal.returns
returns c = (
  c.wrap.ensures.0,
  λ p q g ea eb l.
      let b = c.args.t.first in
      let f = append (tree p) (tree q) in
      let s = both_parted c.strip-i.ensures.1 c.strip.ensures.1 c.args.t.first c.rank-k.ensures.1 p q ea eb in
      let low = plain (lower b f) in
      let up = plain (upper b f) in
      let first = c.first_or-first.ensures low (append g (tree up)) s.0 (leaf_inner (tree low) g (tree up) l.single l.leaf_is) in
      lies_p (tree low) g (tree up) f l.single (sorted_by g f l.leaf_is) (λ z. c.if-m-eq0.false ((both_written c.strip-i.ensures.1 c.strip.ensures.1 p q ea eb).many ∙ z)) (c.wrap.ensures.1 ∙ first)
      (c.wrap.ensures.2 low up (flat g) s.0 s.1 l.held),
)
