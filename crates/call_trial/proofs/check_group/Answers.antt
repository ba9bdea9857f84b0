use Rattle.std.proofs.lemmas.Result.{err_from_is_err_and}
use mathlib.Core.Path.{refl, sym}
use native.Mathlib.Omega.{arith}
use Rattle.spec_calls.specs.Tables.{lent_book}
use Rattle.table_book.proofs.Laws.{few_groups}
use Rattle.call_trial.specs.Trials.{counts}
use Rattle.call_trial.proofs.Laws.{refused_sooner, whole, refused_list, refused_full}
use Rattle.call_trial.proofs.check_group.Goals as goal

pub returns-in_err-lent_book : goal.returns-in_err-lent_book
returns-in_err-lent_book c =
    let p = err_from_is_err_and c.from_residual.result c.from_residual.ensures.1 in
    rw (p.1, p.2) (refused_sooner c.args.layout c.args.n c.args.short (lent_book c.args.book.now c.args.count) c.args.list.now _ (sym c.in_err-lent_book.ensures))

pub returns-in_err-check_list : goal.returns-in_err-check_list
returns-in_err-check_list c =
    let p = err_from_is_err_and c.from_residual-in_err-check_list.result c.from_residual-in_err-check_list.ensures.1 in
    let lent = whole c.args.layout c.args.n c.args.short (lent_book c.args.book.now c.args.count) c.args.list.now (sym c.in_ok-lent_book.ensures) in
    rw (p.1, p.2) (refused_list c.args.layout c.args.n c.args.short (lent_book c.args.book.now c.args.count) c.args.list.now lent _ c.in_err-check_list.ensures)

pub returns-then-count-eq96 : goal.returns-then-count-eq96
returns-then-count-eq96 c =
    let lent = whole c.args.layout c.args.n c.args.short (lent_book c.args.book.now c.args.count) c.args.list.now (sym c.in_ok-lent_book.ensures) in
    refused_full c.args.layout c.args.n c.args.short (lent_book c.args.book.now c.args.count) c.args.list.now lent c.in_ok-check_list.ensures.0 c.if-count-eq96.true

pub overflow_add-result : goal.overflow_add-result
overflow_add-result c =
    let lent = whole c.args.layout c.args.n c.args.short (lent_book c.args.book.now c.args.count) c.args.list.now (sym c.in_ok-lent_book.ensures) in
    omega (arith, few_groups c.args.n (lent_book c.args.book.now c.args.count) lent.groups.in_form)

pub returns : goal.returns
returns c =
    let lent = whole c.args.layout c.args.n c.args.short (lent_book c.args.book.now c.args.count) c.args.list.now (sym c.in_ok-lent_book.ensures) in
    counts refl lent c.in_ok-check_list.ensures.0 c.if-count-eq96.false c.in_ok-check_list.ensures.1
