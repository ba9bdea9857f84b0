use Rattle.std.proofs.Common.{arith, sym, ◌∙◌}
use Rattle.std.proofs.lemmas.Result.{err_from_is_err_and}
use Rattle.text_leaf.proofs.Leaves.{leaf_stops, leaf_read}
use Rattle.text_leaf.proofs.leaf.Goals as goal

pub returns-in_err-number : goal.returns-in_err-number
returns-in_err-number c = λ i w e. let p = err_from_is_err_and c.from_residual.result c.from_residual.ensures.1 in rw (p.1, p.2) (leaf_stops c.args.text.now c.args.at c.args.many c.args.used.now c.requires.0 c.requires.1 c.requires.2 i w (omega arith) (omega arith) (sym c.any_start.ensures ∙ c.if-not-any_start.false) _ c.in_err-number.ensures)

pub returns : goal.returns
returns c = λ i w e. leaf_read c.args.text.now c.args.at c.args.many c.args.used.now c.requires.0 c.requires.1 c.requires.2 i w (omega arith) (omega arith) (sym c.any_start.ensures ∙ c.if-not-any_start.false) _ c.in_ok-number.ensures _ c.requires.3 e c.requires.4
