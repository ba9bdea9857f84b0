use mathlib.Core.Path.{◌∙◌}
use native.Mathlib.Omega.{arith}
use Rattle.spec_calls.proofs.Demands.{few_bins}
use Rattle.mark_words.specs.Marks.{marked}
use Rattle.mark_words.proofs.Steps.{four_words}
use Rattle.call_trial.proofs.Laws.{side_waits}
use Rattle.call_trial.proofs.prepare.Goals as goal

pub returns : goal.returns
returns c = (
  c.check_group-answer.ensures,
  record {
    side = marked c.take_side.new.marks;
    waits = side_waits (marked c.take_side.new.marks) (λ m e few.
        let k = c.leaf_count.ensures (few_bins c.args.layout c.args.n few) in
        c.take_side.ensures c.args.layout c.args.n c.args.list.now k (omega (arith, k)) (four_words c.check_group-answer.new.marks (c.check_group-answer.auto.marks ∙ c.requires.0) ∙ m) e) c.check_group-answer.ensures;
    started = c.begin.ensures;
  },
)
