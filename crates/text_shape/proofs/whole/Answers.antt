use Rattle.std.proofs.Common.{arith}
use Rattle.std.proofs.lemmas.Result.{err_from_is_err_and}
use Rattle.text_shape.proofs.Wholes.{whole_stops, whole_left, whole_more, whole_read}
use Rattle.text_shape.proofs.whole.Goals as goal

pub returns-in_err-root : goal.returns-in_err-root
returns-in_err-root c =
    let p = err_from_is_err_and c.from_residual-in_err-root.result c.from_residual-in_err-root.ensures.1 in
    rw (p.1, p.2) (whole_stops c.args.text.now _ c.in_ok-kind.ensures c.args.used.now _ c.in_err-root.ensures.0)

pub returns-then-root-ne0 : goal.returns-then-root-ne0
returns-then-root-ne0 c = whole_left c.args.text.now _ c.in_ok-kind.ensures c.args.used.now c.args.many c.args.out.now _ c.in_ok-root.ensures c.if-root-ne0.true

pub returns-then-end-text : goal.returns-then-end-text
returns-then-end-text c = whole_more c.args.text.now _ c.in_ok-kind.ensures c.args.used.now c.args.many c.args.out.now _ c.in_ok-root.ensures c.if-root-ne0.false c.if-end-text.true

pub returns : goal.returns
returns c = whole_read c.args.text.now _ c.in_ok-kind.ensures c.args.used.now c.args.many c.args.out.now _ c.in_ok-root.ensures c.if-root-ne0.false c.if-end-text.false (omega arith) c.requires.2 c.header.ensures
