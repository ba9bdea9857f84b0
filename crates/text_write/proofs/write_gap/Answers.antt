use mathlib.Core.Path.{◌≡◌, sym, ◌∙◌, ap}
use borrow.Author.Tests.{eqb-true, eqb-false}
use native.Mathlib.Omega.{arith}
use lib.ListN.{length}
use Rattle.tree_tokens.proofs.Laws.{at_end}
use Rattle.tree_tokens.proofs.Writes.{wrote_none, wrote_one}
use Rattle.text_write.specs.Around.{gap}
use Rattle.text_write.proofs.Laws.{gap_some}
use Rattle.text_write.proofs.write_gap.Goals as goal

pub returns-then-is_empty : goal.returns-then-is_empty
unfolding gap
returns-then-is_empty c = λ j e. rw (at_end j e (eqb-true _ 0 (sym c.is_empty.ensures ∙ c.if-is_empty.true)), gap) (wrote_none _)

pub bounds-out-0 : goal.bounds-out-0
bounds-out-0 c =
    let some : length c.args.toks.now ≡ 0 → ⊥ = eqb-false _ 0 (sym c.is_empty.ensures ∙ c.if-is_empty.false) in
    omega (arith, c.requires.2, ap length (gap_some c.requires.0 c.requires.1 some))

pub returns : goal.returns
returns c = λ j e. rw (gap_some j e (eqb-false _ 0 (sym c.is_empty.ensures ∙ c.if-is_empty.false))) (wrote_one 32 _ (bounds-out-0 c))
