use Rattle.std.proofs.lemmas.Result.{err_from_is_err_and}
use mathlib.Core.Path.{◌≡◌, sym, ap, ap₂, subst, ◌∙◌}
use mathlib.Core.Bool.{false}
use mathlib.Core.Option.{none}
use Prim.Native.Nat.{ℕ, ◌≤◌}
use native.Mathlib.Omega.{arith}
use Rattle.spec_orders.specs.declared.Layout.TheVariants.{Ring}
use Rattle.spec_orders.specs.CircularOrder.{Restriction}
use Rattle.spec_orders.specs.Layout.{leaf_count}
use Rattle.spec_calls.specs.Tables.{lent_book}
use Rattle.spec_calls.specs.Refusals.{first_refusal, short}
use Rattle.spec_calls.specs.Calls.{conflicts_of}
use Rattle.spec_calls.specs.Demands.{LentBook}
use Rattle.mark_words.specs.Marks.{marked}
use Rattle.std.specs.declared.result.Result.TheVariants.{Ok}
use Rattle.table_book.specs.Lists.{refusal_in, ListChecked}
use Rattle.table_book.proofs.Laws.{few_groups}
use Rattle.table_book.proofs.Lists.{group_held}
use Rattle.tree_update.proofs.Updates.{wrote_as}
use Rattle.spec_calls.proofs.Demands.{few_bins}
use Rattle.call_checks.specs.Lent.{book_checks}
use Rattle.call_checks.proofs.Laws.{book_lent}
use Rattle.call_conflict.proofs.Call.{book_refused, list_judged, call_refused, call_found, ring_list}
use Rattle.call_conflict.proofs.conflict.Goals as goal

pub returns-in_err-lent_book : goal.returns-in_err-lent_book
returns-in_err-lent_book c =
    let p = err_from_is_err_and c.from_residual.result c.from_residual.ensures.1 in
    rw (p.1, p.2) (call_refused c.args.layout c.args.n (lent_book c.args.book.now c.args.count) c.args.list.now c.args.conflicts.now _
    (book_refused c.args.layout c.args.n (lent_book c.args.book.now c.args.count) c.args.list.now c.args.conflicts.now _ (sym c.in_err-lent_book.ensures)))

pub returns-in_err-check_list : goal.returns-in_err-check_list
returns-in_err-check_list c =
    let p = err_from_is_err_and c.from_residual-in_err-check_list.result c.from_residual-in_err-check_list.ensures.1 in
    rw (p.1, p.2) (call_refused c.args.layout c.args.n (lent_book c.args.book.now c.args.count) c.args.list.now c.args.conflicts.now _
    (list_judged c.args.layout c.args.n (lent_book c.args.book.now c.args.count) c.args.list.now c.args.conflicts.now (sym c.in_ok-lent_book.ensures) ∙ c.in_err-check_list.ensures))

pub find-k-requires : goal.find-k-requires
find-k-requires c =
    let passed = sym c.in_ok-lent_book.ensures in
    let lent = book_lent c.args.layout c.args.n (lent_book c.args.book.now c.args.count) (short 96 c.args.conflicts.now) passed in
    let h = lent in
    let few = few_groups c.args.n (lent_book c.args.book.now c.args.count) h.2.in_form in
    (omega (arith, c.leaf_count-leaves.ensures (few_bins c.args.layout c.args.n h.1), h.1), h.2.all_words, few, c.check_list.auto.marks, few)

pub returns : goal.returns
returns c =
    let passed = sym c.in_ok-lent_book.ensures in
    let lent = book_lent c.args.layout c.args.n (lent_book c.args.book.now c.args.count) (short 96 c.args.conflicts.now) passed in
    let fine = c.in_ok-check_list.ensures in
    let h = lent in
    let f = fine in
    let few = c.leaf_count-leaves.ensures (few_bins c.args.layout c.args.n h.1) in
    call_found c.args.layout c.args.n (lent_book c.args.book.now c.args.count) c.args.list.now c.args.conflicts.now
    (list_judged c.args.layout c.args.n (lent_book c.args.book.now c.args.count) c.args.list.now c.args.conflicts.now passed ∙ f.0)
    (wrote_as
    (ap₂ (λ (m : ℕ) (G : Restriction). conflicts_of Ring m (lent_book c.args.book.now c.args.count) G) few
    (ap marked f.1 ∙ group_held c.args.n c.args.list.now (few_bins c.args.layout c.args.n h.1) f.0)
    ∙ ring_list c.args.layout c.args.n (lent_book c.args.book.now c.args.count) c.args.list.now h.0 h.2 f.0)
    c.find-k.ensures)
    c.copy.ensures
