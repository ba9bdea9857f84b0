use mathlib.Core.Path.{sym, ◌∙◌}
use native.Mathlib.Omega.{arith}
use Rattle.mark_words.proofs.Steps.{four_words}
use Rattle.tree_update.proofs.Agree.{join-outside, join_inside}
use Rattle.tree_update.proofs.Updates.{the_form}
use Rattle.tree_update.proofs.join.Goals as goal

pub returns-then-test : goal.returns-then-test
returns-then-test c = λ t e. rw (join-outside c.args.n c.args.group.now _ _ t (the_form c.args.n c.args.toks.now c.requires.0 t e) (omega (arith, c.requires.0.3, c.requires.1)) (sym c.if-test.true ∙ c.test.ensures) (four_words c.args.group.now c.requires.1) c.complement.ensures) (c.update.ensures t e)

pub returns : goal.returns
returns c = λ t e. rw (join_inside c.args.group.now t (sym c.if-test.false ∙ c.test.ensures)) (c.update-2.ensures t e)
