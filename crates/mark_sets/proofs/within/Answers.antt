use Prim.Native.Nat.{ℕ, ◌^◌, min, ◌-◌}
use native.Mathlib.Omega.{arith}
use mathlib.Core.Path.{sym, ap, ◌∙◌}
use Rattle.mark_sets.proofs.Steps.{within_all, within_not}
use Rattle.mark_sets.proofs.within.Goals as goal

pub returns-then-word-low_marks : goal.returns-then-word-low_marks
returns-then-word-low_marks c = sym (within_not c.args.words.now c.args.n c.loop-word.word-index (λ k. (c.type_inv.words k).fits) (rw (c.low_marks.ensures ∙ ap (λ (k : ℕ). 2 ^ min k 64 - 1) c.loop-word.invariant.1) at c.if-word-low_marks.true))

pub returns : goal.returns
returns c = sym (within_all c.args.words.now c.args.n (λ i l. c.loop-word.invariant.2 i (omega arith)))
