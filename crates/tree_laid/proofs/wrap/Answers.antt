use mathlib.Core.Path.{refl, sym, ap, ◌∙◌}
use native.Mathlib.Omega.{arith}
use lib.ListN.{length}
use Rattle.tree_tokens.specs.Tokens.{tree, flat}
use Rattle.tree_tokens.proofs.Sequences.{plain-length}
use Rattle.tree_laid.proofs.Laws.{around, around_left, around_right, around_head, settled, three_long}
use Rattle.tree_laid.proofs.wrap.Goals as goal

pub returns : goal.returns
returns c =
    let k = c.strip.ensures.0 in
    let m = c.strip-2.ensures.0 in (
      (omega (arith, c.requires), omega (arith, c.requires)),
      refl,
      λ p q xs el er h.
          let lp = ap length el ∙ sym (plain-length p) in
          let lq = ap length er ∙ sym (plain-length q) in
          let a = around h (omega (arith, c.requires)) in
          let b = around_left a (omega (arith, lp, c.requires)) (c.strip.ensures.1 p el) in
          let d = around_right b (c.strip-2.ensures.1 q er) in
          settled c.args.kind (flat (tree p)) xs (flat (tree q)) (omega (arith, lp, lq, m, h.many, three_long (flat (tree p)) xs (flat (tree q)), c.requires)) (around_head _ d (omega (arith, c.requires))),
    )
