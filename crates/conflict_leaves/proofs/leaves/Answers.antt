use mathlib.Core.Path.{refl, sym, ◌∙◌}
use mathlib.Core.List.{[]}
use Prim.Native.Nat.{◌+◌, ◌*◌}
use native.Mathlib.Omega.{arith}
use lib.ListN.{length-set}
use Rattle.mark_words.specs.Marks.{marked}
use Rattle.tree_tokens.proofs.Writes.{written_start, written_same, written_one, written_end}
use Rattle.conflict_leaves.proofs.StartTokens.{from, from_two, from_end, from_next, from_past}
use Rattle.conflict_leaves.proofs.leaves.Goals as goal
use Rattle.conflict_leaves.proofs.leaves.Goals.{then-test, else-test}

pub loop-b-init : goal.loop-b-init
loop-b-init c = (omega arith, omega arith, refl, written_same (from (marked c.args.words.now) 2 c.args.n) (from_two (marked c.args.words.now) c.args.n) (written_start _ c.args.out.now))

pub loop-b-preserved : goal.loop-b-preserved
loop-b-preserved c =
    let p = marked c.args.words.now in
    elim c.if-test.branch [
      | then-test v ↦ rw (v.out-is, v.k-is) (
        omega arith,
        omega (arith, c.loop-b.invariant.1),
        length-set c.loop-b.out c.loop-b.k (16 * c.loop-b.b) ∙ c.loop-b.invariant.2,
        written_one (16 * c.loop-b.b) (from p (c.loop-b.b + 1) c.args.n) (omega (arith, c.loop-b.invariant.1, c.requires.1)) (from_next p c.loop-b.b c.args.n (omega arith) (sym c.test.ensures ∙ v.if-test.true)) c.loop-b.invariant.3,
      )
      | else-test v ↦ rw (v.out-is, v.k-is) (
        omega arith,
        omega (arith, c.loop-b.invariant.1),
        c.loop-b.invariant.2,
        written_same (from p (c.loop-b.b + 1) c.args.n) (from_past p c.loop-b.b c.args.n (omega arith) (sym c.test.ensures ∙ v.if-test.false)) c.loop-b.invariant.3,
      )
    ]

pub returns : goal.returns
returns c = written_end (written_same [] (from_end (marked c.args.words.now) c.loop-b.b c.args.n (omega arith)) c.loop-b.invariant.3)
