use mathlib.Core.Path.{sym}
use native.Mathlib.Nat.{div-add-mod}
use Prim.Native.Nat.{◌-◌}
use native.Mathlib.Omega.{arith}
use Rattle.mark_words.specs.Marks.{marked}
use Rattle.mark_words.proofs.Words.{marked_is, marked_past}
use Rattle.mark_words.proofs.test.Goals as goal

pub returns-then-leaf-eq0 : goal.returns-then-leaf-eq0
unfolding marked
returns-then-leaf-eq0 c = rw c.if-leaf-eq0.true

pub returns-then-w-words : goal.returns-then-w-words
returns-then-w-words c = sym (marked_past c.args.words.now c.args.leaf (omega (arith, div-add-mod (c.args.leaf - 1) 64)))

pub returns : goal.returns
returns c = sym (marked_is c.args.words.now c.args.leaf (omega arith))
