use mathlib.Core.Path.{ap}
use native.Mathlib.Omega.{arith}
use lib.ListN.{length}
use Rattle.tree_tokens.specs.Tokens.{tree}
use Rattle.tree_tokens.specs.Views.{first_of}
use Rattle.tree_tokens.proofs.Sequences.{plain-length}
use Rattle.tree_laid.proofs.Laws.{written_at, laid_at}
use Rattle.tree_update.proofs.OneItem.{first_one}
use Rattle.tree_update.proofs.stay.Goals as goal

pub begun-requires : goal.begun-requires
begun-requires c =
    let j = c.requires.0.0 in
    let f = c.first.ensures.1 j c.requires.0.1 in
    let h = written_at c.args.buf.now (omega (arith, c.requires)) (c.strip-e.ensures.1 _ f) in
    ((_, h.text), omega (arith, ap length h.text, plain-length (first_of j), ap length f, c.first.ensures.0, c.requires))

pub returns : goal.returns
returns c = (
  (laid_at (tree (first_of c.requires.0.0)) (written_at c.args.buf.now (omega (arith, c.requires)) (c.strip-e.ensures.1 _ (c.first.ensures.1 c.requires.0.0 c.requires.0.1))) (first_one c.requires.0.0 c.requires.0.1 c.requires.1) c.begun.ensures).0,
  λ j e. (laid_at (tree (first_of j)) (written_at c.args.buf.now (omega (arith, c.requires)) (c.strip-e.ensures.1 _ (c.first.ensures.1 j e))) (first_one j e c.requires.1) c.begun.ensures).1,
)
