use mathlib.Core.Path.{refl}
use native.Mathlib.Omega.{arith}
use lib.ListN.{length-set}
use Rattle.tree_tokens.proofs.Steps.{at_last, next_item, next_leaf}
use Rattle.tree_tokens.proofs.Writes.{written_end}
use Rattle.table_row.proofs.Entering.{leaf_place, node_place, entered_item, entered_room, placed_long, leaf_long, node_long, node_end}
use Rattle.table_row.proofs.write_entries.Goals as goal

pub bounds-out-k : goal.bounds-out-k
bounds-out-k c = omega (arith, entered_room c.requires (c.loop-i.invariant.2 c.requires.start c.requires.beside) c.loop-i-test.true)

pub loop-i-preserved-then-t-eq0 : goal.loop-i-preserved-then-t-eq0
loop-i-preserved-then-t-eq0 c = (
  omega arith,
  simp length-set c.loop-i.invariant.1,
  λ r b. next_leaf (c.loop-i.invariant.2 r b) c.loop-i-test.true c.if-t-eq0.true (λ j h p g.
      entered_item _ p
      (entered_room c.requires (c.loop-i.invariant.2 c.requires.start c.requires.beside) c.loop-i-test.true).0
      (leaf_long p c.if-t-eq0.true) (leaf_place r p c.if-t-eq0.true refl) g),
)

pub bounds-records-i : goal.bounds-records-i
bounds-records-i c = omega (arith, placed_long c.requires)

pub overflow_add-out : goal.overflow_add-out
overflow_add-out c = omega (arith, entered_room c.requires (c.loop-i.invariant.2 c.requires.start c.requires.beside) c.loop-i-test.true)

pub bounds-out-k-in-loop-i : goal.bounds-out-k-in-loop-i
bounds-out-k-in-loop-i c = omega (arith, entered_room c.requires (c.loop-i.invariant.2 c.requires.start c.requires.beside) c.loop-i-test.true)

pub loop-i-preserved : goal.loop-i-preserved
loop-i-preserved c = (
  omega (arith, node_end c.requires (c.loop-i.invariant.2 c.requires.start c.requires.beside) c.loop-i-test.true c.if-t-eq0.false),
  simp length-set c.loop-i.invariant.1,
  λ r b. next_item (c.loop-i.invariant.2 r b) c.loop-i-test.true (λ h e. node_long c.args.toks.now c.loop-i.i h c.loop-i-test.true c.if-t-eq0.false e) (λ j h p g.
      entered_item _ p
      (entered_room c.requires (c.loop-i.invariant.2 c.requires.start c.requires.beside) c.loop-i-test.true).0
      (node_long c.args.toks.now c.loop-i.i h c.loop-i-test.true c.if-t-eq0.false p.part) (node_place r p c.loop-i-test.true c.if-t-eq0.false b refl) g),
)

pub returns : goal.returns
returns c = λ r j b e. written_end (at_last (c.loop-i.invariant.2 r b) (omega arith) j e).written
