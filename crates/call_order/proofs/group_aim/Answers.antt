use mathlib.Core.Path.{◌≡◌, sym, ap, ap₂, ◌∙◌}
use mathlib.Core.List.{List}
use Prim.Native.Nat.{ℕ, ◌-◌, ◌≤◌}
use native.Mathlib.Nat.{pos_of_ne-zero}
use native.Mathlib.Omega.{arith}
use Rattle.spec_orders.proofs.Straight.{standard-length}
use Rattle.mark_words.specs.Marks.{marked, no_mark?}
use Rattle.spec_calls.specs.Tables.{lent_nodes, lent_book}
use Rattle.spec_calls.proofs.Books.{numbered_visible}
use Rattle.spec_calls.specs.Book.{group_words}
use Rattle.table_book.proofs.Laws.{group_part, few_groups}
use Rattle.tree_tokens.proofs.Writes.{read_part}
use Rattle.call_order.specs.Starts.{aim_in}
use Rattle.call_order.proofs.Sizes.{group_within}
use Rattle.call_order.proofs.Calls.{number_zero, number_past, no_aim, marks_judged}
use Rattle.call_order.proofs.group_aim.Goals.{then-group-eq0-via-then-group-eq0, then-group-eq0-via-else-group-eq0+then-group-count}
use Rattle.call_order.proofs.group_aim.Goals as goal

pub returns-then-group-eq0 : goal.returns-then-group-eq0
returns-then-group-eq0 c = λ t e. elim c.then-group-eq0.branch [
  | then-group-eq0-via-then-group-eq0 w ↦ sym (number_zero c.args.layout c.args.n (lent_book c.args.book.now c.args.count) c.args.group t w.if-group-eq0.true)
  | then-group-eq0-via-else-group-eq0+then-group-count w ↦ sym (number_past c.args.layout c.args.n (lent_book c.args.book.now c.args.count) c.args.group t w.if-group-eq0.false w.if-group-count.true)
]

pub overflow_mul-at : goal.overflow_mul-at
overflow_mul-at c =
    let few : c.args.group ≤ 96 = (omega (arith, few_groups c.args.n (lent_book c.args.book.now c.args.count) c.requires.groups.in_form, c.if-group-count.false)) in
    omega (arith, few)

pub overflow_add-end : goal.overflow_add-end
overflow_add-end c =
    let few : c.args.group ≤ 96 = (omega (arith, few_groups c.args.n (lent_book c.args.book.now c.args.count) c.requires.groups.in_form, c.if-group-count.false)) in
    omega (arith, few)

pub offset_bounds-book-at : goal.offset_bounds-book-at
offset_bounds-book-at c =
    let few : c.args.group ≤ 96 = (omega (arith, few_groups c.args.n (lent_book c.args.book.now c.args.count) c.requires.groups.in_form, c.if-group-count.false)) in
    omega (arith, few)

pub slice_bounds-is_empty-end : goal.slice_bounds-is_empty-end
slice_bounds-is_empty-end c =
    let few : c.args.group ≤ 96 = (omega (arith, few_groups c.args.n (lent_book c.args.book.now c.args.count) c.requires.groups.in_form, c.if-group-count.false)) in
    omega (arith, few, c.requires.groups.all_words)

pub returns-then-is_empty : goal.returns-then-is_empty
returns-then-is_empty c =
    let marks-told : c.is_empty.result ≡ no_mark? (group_words c.args.book.now (c.args.group - 1)) = (c.is_empty.ensures ∙ ap no_mark? (group_part c.args.book.now (c.args.group - 1))) in
    λ t e.
    sym (no_aim c.args.layout c.args.n (lent_book c.args.book.now c.args.count) c.args.group t c.if-group-eq0.false (omega (arith, c.if-group-count.false)) (sym marks-told ∙ c.if-is_empty.true))

pub aim_in-requires : goal.aim_in-requires
aim_in-requires c =
    let marks-told : c.is_empty.result ≡ no_mark? (group_words c.args.book.now (c.args.group - 1)) = (c.is_empty.ensures ∙ ap no_mark? (group_part c.args.book.now (c.args.group - 1))) in
    let p = c.requires in
    let nodes = lent_nodes c.args.layout c.args.n p.records p.rows in
    let book = lent_book c.args.book.now c.args.count in
    rw (group_part c.args.book.now (c.args.group - 1), read_part (c.order_on-m.ensures p.shown p.is)) (
      group_within nodes p.shown book (c.args.group - 1) p.lent p.groups (omega (arith, c.if-group-eq0.false, c.if-group-count.false)) (sym marks-told ∙ c.if-is_empty.false),
      rw (standard-length c.args.layout c.args.n p.shown p.lent.whole.some_bin p.lent.tree.in_form)
          (numbered_visible c.args.layout c.args.n book c.args.group p.groups (pos_of_ne-zero c.if-group-eq0.false) (omega (arith, c.if-group-count.false))),
    )

pub returns : goal.returns
returns c =
    let marks-told : c.is_empty.result ≡ no_mark? (group_words c.args.book.now (c.args.group - 1)) = (c.is_empty.ensures ∙ ap no_mark? (group_part c.args.book.now (c.args.group - 1))) in
    λ t e.
    c.aim_in.ensures
    ∙ ap₂ (λ (ws l : List ℕ). aim_in c.args.layout (marked ws) l) (group_part c.args.book.now (c.args.group - 1)) (read_part (c.order_on-m.ensures t e))
    ∙ sym (marks_judged c.args.layout c.args.n (lent_book c.args.book.now c.args.count) c.args.group t c.if-group-eq0.false (omega (arith, c.if-group-count.false)) (sym marks-told ∙ c.if-is_empty.false))
