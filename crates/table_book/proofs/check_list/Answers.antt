use Rattle.std.proofs.Common.{sym, ◌∙◌}
use Rattle.table_book.proofs.Lists.{going_start, going_zero, going_past, going_earlier, going_on, going_end}
use Rattle.table_book.proofs.check_list.Goals.{then-b-eq0-via-then-b-eq0, then-b-eq0-via-else-b-eq0+then-b-n}
use Rattle.table_book.proofs.check_list.Goals as goal

pub loop-k-init : goal.loop-k-init
loop-k-init c = going_start _ _ _ _ c.requires.1 c.clear.ensures

pub returns-then-b-eq0 : goal.returns-then-b-eq0
returns-then-b-eq0 c = elim c.then-b-eq0.branch [
  | then-b-eq0-via-then-b-eq0 w ↦ going_zero c.loop-k.invariant c.loop-k-test.true w.if-b-eq0.true
  | then-b-eq0-via-else-b-eq0+then-b-n w ↦ going_past c.loop-k.invariant c.loop-k-test.true w.if-b-eq0.false w.if-b-n.true
]

pub returns-then-test : goal.returns-then-test
returns-then-test c = going_earlier c.loop-k.invariant c.requires.0 c.loop-k-test.true c.if-b-eq0.false c.if-b-n.false (sym c.test.ensures ∙ c.if-test.true)

pub loop-k-preserved : goal.loop-k-preserved
loop-k-preserved c = rw (c.set.ensures, c.loop-k.auto.marks, c.clear.auto.words, c.requires.1) (going_on c.loop-k.invariant c.requires.0 c.loop-k-test.true c.if-b-eq0.false c.if-b-n.false (sym c.test.ensures ∙ c.if-test.false))

pub returns : goal.returns
returns c = going_end c.loop-k.invariant c.loop-k-test.false
