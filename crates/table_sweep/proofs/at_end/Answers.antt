use mathlib.Core.Path.{sym, ◌∙◌}
use native.Mathlib.Omega.{arith}
use Rattle.table_sweep.proofs.Verdicts.{read_words, told_small, told_small_none, told_blank, told_lost, told-few, told_many, told}
use Rattle.table_sweep.proofs.at_end.Goals as goal
use Rattle.table_sweep.proofs.at_end.Goals.{then-used-eq0-2-via-then-used-eq0-2, then-used-eq0-2-via-else-used-eq0-2+then-used-eq257}

pub returns-then-used-eq0 : goal.returns-then-used-eq0
returns-then-used-eq0 c = λ S table a b l h. told_small c.args.n S table c.args.work.now a b l c.if-n-le2.true c.if-used-eq0.true h

pub returns-else-used-eq0 : goal.returns-else-used-eq0
returns-else-used-eq0 c = λ S table a b l h. told_small_none c.args.n S table c.args.work.now a b l c.if-n-le2.true c.if-used-eq0.false h

pub returns-then-used-eq0-2 : goal.returns-then-used-eq0-2
returns-then-used-eq0-2 c = λ S table a b l h. elim c.then-used-eq0-2.branch [
  | then-used-eq0-2-via-then-used-eq0-2 w ↦ told_blank c.args.n S table c.args.work.now a b l (omega arith) w.if-used-eq0-2.true h
  | then-used-eq0-2-via-else-used-eq0-2+then-used-eq257 w ↦ told_lost c.args.n S table c.args.work.now a b l (omega arith) w.if-used-eq257.true h
]

pub returns-then-size-n : goal.returns-then-size-n
returns-then-size-n c = λ S table a b l h. told-few c.args.n S table c.args.work.now a b l (omega arith) c.if-used-eq0-2.false c.if-used-eq257.false (λ e. c.if-size-n.true (c.size.ensures ∙ read_words c.args.work.now c.requires ∙ e)) h

pub returns-then-w-used : goal.returns-then-w-used
returns-then-w-used c = λ S table a b l h. told_many c.args.n S table c.args.work.now a b l (omega arith) c.if-used-eq0-2.false c.if-used-eq257.false c.if-w-used.true h

pub returns-then-w-eq4 : goal.returns-then-w-eq4
returns-then-w-eq4 c = λ S table a b l h. (told c.args.n S table c.args.work.now a b l (omega arith) c.if-used-eq0-2.false c.if-used-eq257.false (sym (c.size.ensures ∙ read_words c.args.work.now c.requires) ∙ c.if-size-n.false) c.if-w-used.false h).0 c.if-w-eq4.true

pub returns : goal.returns
returns c = λ S table a b l h. (told c.args.n S table c.args.work.now a b l (omega arith) c.if-used-eq0-2.false c.if-used-eq257.false (sym (c.size.ensures ∙ read_words c.args.work.now c.requires) ∙ c.if-size-n.false) c.if-w-used.false h).1 c.if-w-eq4.false
