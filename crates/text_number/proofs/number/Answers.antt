use Rattle.std.proofs.Common.{arith, rules, sym, ◌∙◌, Ok, Err}
use Rattle.text_number.proofs.Starting.{has_mark}
use Rattle.text_number.proofs.Numerals.{number_ends, number_used, number_free, number_other, number_none, number_on}
use Rattle.text_number.proofs.number.Goals as goal

pub bounds-used-leaf : goal.bounds-used-leaf
bounds-used-leaf c = has_mark c.loop-to.leaf c.args.used.now c.loop-to.invariant.1

pub returns-in-32 : goal.returns-in-32
returns-in-32 c = c.loop-to.invariant.2 (Ok _) (number_free c.args.text.now c.loop-to.to c.loop-to.leaf c.args.used.now c.loop-to-test.true c.in-32.is (has_mark c.loop-to.leaf c.args.used.now c.loop-to.invariant.1) c.if-used-leaf-eq0.true)

pub overflow_mul-next : goal.overflow_mul-next
overflow_mul-next c = omega (arith, c.requires.2, has_mark c.loop-to.leaf c.args.used.now c.loop-to.invariant.1)

pub overflow_add-next : goal.overflow_add-next
overflow_add-next c = omega (arith, c.requires.2, has_mark c.loop-to.leaf c.args.used.now c.loop-to.invariant.1)

pub returns-then-not-any_start : goal.returns-then-not-any_start
returns-then-not-any_start c = c.loop-to.invariant.2 (Err _) (number_none c.args.text.now c.loop-to.to c.loop-to.leaf c.args.used.now c.loop-to-test.true (omega arith) (omega arith) c.loop-to.invariant.0 c.requires.2 (sym c.any_start.ensures ∙ c.if-not-any_start.true))

pub returns-in_default : goal.returns-in_default
returns-in_default c = c.loop-to.invariant.2 (Err _) (number_used c.args.text.now c.loop-to.to c.loop-to.leaf c.args.used.now c.loop-to-test.true c.in-32.is (has_mark c.loop-to.leaf c.args.used.now c.loop-to.invariant.1) c.if-used-leaf-eq0.false)

pub returns-in_default-2 : goal.returns-in_default-2
returns-in_default-2 c = c.loop-to.invariant.2 (Err _) (number_other c.args.text.now c.loop-to.to c.loop-to.leaf c.args.used.now c.loop-to-test.true (search rules) (λ l h. omega arith))

pub returns-in_default-3 : goal.returns-in_default-3
returns-in_default-3 c = c.loop-to.invariant.2 (Err _) (number_other c.args.text.now c.loop-to.to c.loop-to.leaf c.args.used.now c.loop-to-test.true (search rules) (λ l h. omega arith))

pub loop-to-preserved : goal.loop-to-preserved
loop-to-preserved c = (omega arith, sym c.any_start.ensures ∙ c.if-not-any_start.false, (λ r n. c.loop-to.invariant.2 r (number_on c.args.text.now c.loop-to.to c.loop-to.leaf c.args.used.now c.loop-to-test.true (omega arith) (omega arith) c.loop-to.invariant.0 c.requires.2 (sym c.any_start.ensures ∙ c.if-not-any_start.false) r n)))

pub returns : goal.returns
returns c = c.loop-to.invariant.2 (Err _) (number_ends c.args.text.now c.loop-to.to c.loop-to.leaf c.args.used.now _ (omega arith) c.loop-to-test.false)
