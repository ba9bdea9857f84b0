use mathlib.Core.Path.{subst}
use Prim.Native.Nat.{ℕ, ◌^◌, ◌<◌}
use native.Mathlib.Omega.{arith}
use lib.ListN.{get_or}
use borrow.Author.Rules.{rules}
use Rattle.mark_words.specs.Marks.{marked, either}
use Rattle.mark_words.proofs.Words.{written_none, written_read, written_one}
use Rattle.conflict_leaves.proofs.Choice.{either_word}
use Rattle.conflict_leaves.proofs.add.Goals as goal

pub loop-i-init : goal.loop-i-init
loop-i-init c = written_none (either (marked c.args.words.now) (marked c.args.more.now)) c.args.words.now

pub loop-i-preserved : goal.loop-i-preserved
loop-i-preserved c =
    let G = either (marked c.args.words.now) (marked c.args.more.now) in
    let r = written_read G c.args.words.now c.loop-i.i c.loop-i.words c.loop-i.invariant (omega arith) in
    written_one G c.args.words.now c.loop-i.i c.loop-i.words _ c.loop-i.invariant (omega arith)
    (let fits : get_or c.loop-i.words c.loop-i.i 0 < 2 ^ 64 = (search rules) in rw r (either_word c.args.words.now c.args.more.now c.loop-i.i (subst (λ (w : ℕ). w < 2 ^ 64) r fits) (c.type_inv.more c.loop-i.i).fits))
