use Rattle.std.proofs.Common.{arith, length-drop, drop}
use Rattle.file_words.proofs.Places.{place-first, place_out, place_end, place_space, place-letter}
use Rattle.file_words.proofs.place.Goals as goal
use Rattle.file_words.proofs.place.Goals.{then-b-eq32, else-b-eq32}

pub returns-then-left-eq0 : goal.returns-then-left-eq0
returns-then-left-eq0 c = omega (arith, c.loop-i.invariant, place-first (drop c.loop-i.i c.args.x.now) c.loop-i.left c.if-left-eq0.true)

pub returns-then-b-eq10 : goal.returns-then-b-eq10
returns-then-b-eq10 c =
    omega (arith, c.loop-i.invariant, place_end c.args.x.now c.loop-i.left c.loop-i.i (omega arith) (omega arith) c.if-b-eq10.true, length-drop c.loop-i.i c.args.x.now)

pub loop-i-preserved : goal.loop-i-preserved
loop-i-preserved c =
    elim c.if-b-eq32.branch [
      | then-b-eq32 w ↦
          rw w.left-is
          (omega (arith, c.loop-i.invariant, place_space c.args.x.now c.loop-i.left c.loop-i.i (omega arith) (omega arith) w.if-b-eq32.true))
      | else-b-eq32 w ↦
          rw w.left-is
          (omega (arith, c.loop-i.invariant, place-letter c.args.x.now c.loop-i.left c.loop-i.i (omega arith) (omega arith) c.if-b-eq10.false w.if-b-eq32.false))
    ]

pub returns-then-left-eq0-2 : goal.returns-then-left-eq0-2
returns-then-left-eq0-2 c = omega (arith, c.loop-i.invariant, place-first (drop c.loop-i.i c.args.x.now) c.loop-i.left c.if-left-eq0-2.true)

pub returns-else-left-eq0-2 : goal.returns-else-left-eq0-2
returns-else-left-eq0-2 c =
    omega (arith, c.loop-i.invariant, place_out c.args.x.now c.loop-i.left c.loop-i.i (omega arith) (omega arith), length-drop c.loop-i.i c.args.x.now)
