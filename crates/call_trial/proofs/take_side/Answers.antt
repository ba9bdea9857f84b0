use mathlib.Core.Path.{◌≡◌, sym, ◌∙◌, subst}
use Prim.Native.Nat.{ℕ}
use native.Mathlib.Omega.{arith}
use lib.ListN.{length}
use Rattle.mark_words.specs.Marks.{marked, words_of, outside}
use Rattle.call_trial.proofs.Laws.{side-outside, side_inside}
use Rattle.call_trial.proofs.take_side.Goals as goal

pub returns-then-test : goal.returns-then-test
returns-then-test c = λ l n list k few m e.
    side-outside l n list c.args.marks.now m e (omega (arith, k, few)) c.complement.new.words c.requires (sym c.if-test.true ∙ c.test.ensures)
    (subst (λ (x : ℕ). c.complement.new.words ≡ words_of (length c.args.marks.now) (outside x (marked c.args.marks.now))) k c.complement.ensures)

pub returns : goal.returns
returns c = λ l n list k few m e. side_inside l n list c.args.marks.now m e (omega (arith, k, few)) (sym c.if-test.false ∙ c.test.ensures)
