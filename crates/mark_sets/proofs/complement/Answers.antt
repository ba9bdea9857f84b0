use Prim.Native.Nat.{ℕ, ◌^◌, min, ◌-◌}
use native.Mathlib.Omega.{arith}
use mathlib.Core.Path.{ap, ◌∙◌}
use Rattle.mark_words.specs.Marks.{marked, outside}
use Rattle.mark_words.proofs.Words.{written_none, written_read, written_one}
use Rattle.mark_sets.proofs.Steps.{outside_word}
use Rattle.mark_sets.proofs.complement.Goals as goal

pub loop-i-init : goal.loop-i-init
loop-i-init c = (written_none (outside c.args.n (marked c.args.words.now)) c.args.words.now, (omega arith, λ k. (c.type_inv.words k).fits))

pub loop-i-preserved : goal.loop-i-preserved
loop-i-preserved c =
    let G = outside c.args.n (marked c.args.words.now) in (
      written_one G c.args.words.now c.loop-i.i c.loop-i.words _ c.loop-i.invariant.0 (omega arith)
          (rw (c.low_marks-mask.ensures ∙ ap (λ (k : ℕ). 2 ^ min k 64 - 1) c.loop-i.invariant.1.0, written_read G c.args.words.now c.loop-i.i c.loop-i.words c.loop-i.invariant.0 (omega arith))
          (outside_word c.args.words.now c.args.n c.loop-i.i c.loop-i.invariant.1.1)),
      (omega (arith, c.saturating_sub-left.ensures), c.loop-i.invariant.1.1),
    )
