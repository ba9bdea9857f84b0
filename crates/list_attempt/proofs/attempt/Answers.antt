use mathlib.Core.Path.{subst}
use Rattle.std.proofs.lemmas.Result.{err_from_is_err_and}
use Rattle.tree_update.proofs.Updates.{form_tokens}
use Rattle.list_attempt.proofs.Laws.{list_refused, full_refused, attempted}
use borrow.Author.Rules.{rules}
use Rattle.list_attempt.proofs.attempt.Goals as goal

pub returns-in_err-check_list : goal.returns-in_err-check_list
returns-in_err-check_list c = λ t e.
    let p = err_from_is_err_and c.from_residual.result c.from_residual.ensures.1 in
    rw (p.1, p.2) (list_refused t c.args.n c.args.count c.args.list.now _ c.in_err-check_list.ensures)

pub returns-then-count-eq96 : goal.returns-then-count-eq96
returns-then-count-eq96 c =
    let fine = c.in_ok-check_list.ensures in
    λ t e. full_refused t c.args.n c.args.count c.args.list.now fine.0 c.if-count-eq96.true

pub join-requires : goal.join-requires
join-requires c = search (rules, form_tokens)

pub returns : goal.returns
returns c =
    let fine = c.in_ok-check_list.ensures in
    λ t e. rw c.ok_or.ensures.value
    (attempted t c.args.n c.args.count c.args.list.now fine.0 c.check_list.new.marks c.args.out.now c.join.new.out c.join.result c.requires.0.few_leaves fine.1 c.if-count-eq96.false (c.join.ensures t e))
