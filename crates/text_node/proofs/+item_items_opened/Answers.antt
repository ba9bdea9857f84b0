use Rattle.std.proofs.Common.{arith, sym, ◌∙◌, ap, ◌+◌}
use Rattle.std.proofs.lemmas.Result.{err_from_is_err_and}
use Rattle.text_leaf.specs.Passages.{tree_kind}
use Rattle.text_node.proofs.Nodes.{item_ends, item_few, item_stops, item_node, items_end, items_few, items_stops, items_read, items_other, items_short, opened_ends, opened_bad, opened_read}
use Rattle.text_node.proofs.+item_items_opened.Goals.{opened-then-at-text-via-then-at-text, opened-then-at-text-via-else-at-text+then-text-at-ne40}
use Rattle.text_node.proofs.+item_items_opened.Goals as goal

pub item-returns-in_default : goal.item-returns-in_default
item-returns-in_default t c = item_ends c.args.text.now c.args.at c.args.few c.args.want c.args.many c.args.used.now c.requires.1 c.in_default.ensures.lookup.3

pub item-returns-then-many-inner : goal.item-returns-then-many-inner
item-returns-then-many-inner t c =
    let b = c.in-Some.ensures.lookup.3 in
    item_few c.args.text.now c.args.at c.args.few c.args.want c.args.many c.args.used.now c.requires.1 b.0 (tree_kind c.in-Some-node_kind.kind) (sym (b.1 0) ∙ c.in-Some-node_kind.ensures) _ (ap (λ d. d + c.args.want) c.saturating_sub.ensures) c.if-many-inner.true

pub item-returns-in_err-within : goal.item-returns-in_err-within
item-returns-in_err-within t c =
    let b = c.in-Some.ensures.lookup.3 in
    let p = err_from_is_err_and c.from_residual.result c.from_residual.ensures.1 in
    rw (p.1, p.2) (item_stops c.args.text.now c.args.at c.args.few c.args.want c.args.many c.args.used.now c.requires.1 b.0 (tree_kind c.in-Some-node_kind.kind) (sym (b.1 0) ∙ c.in-Some-node_kind.ensures) _ (ap (λ d. d + c.args.want) c.saturating_sub.ensures) c.if-many-inner.false _ c.in_err-within.ensures.0)

pub item-returns : goal.item-returns
item-returns t c =
    let b = c.in-Some.ensures.lookup.3 in
    item_node c.args.text.now c.args.at c.args.few c.args.want c.args.many c.args.used.now c.requires.1 b.0 (tree_kind c.in-Some-node_kind.kind) (sym (b.1 0) ∙ c.in-Some-node_kind.ensures) _ (ap (λ d. d + c.args.want) c.saturating_sub.ensures) c.if-many-inner.false _ (omega (arith, c.saturating_sub.ensures)) c.header.ensures c.in_ok-within.ensures

pub items-returns-in_default : goal.items-returns-in_default
items-returns-in_default t c = (items_end c.args.text.now c.args.at c.args.few c.args.want c.args.many c.args.used.now _ c.in_ok-first.ensures c.in_default.ensures.lookup.3, tt)

pub items-returns-in_err-others-in-32 : goal.items-returns-in_err-others-in-32
items-returns-in_err-others-in-32 t c =
    let b = c.in-Some.ensures.lookup.3 in
    let p = err_from_is_err_and c.from_residual-in_err-others-in-32.result c.from_residual-in_err-others-in-32.ensures.1 in
    rw (p.1, p.2) (items_stops c.args.text.now c.args.at c.args.few c.args.want c.args.many c.args.used.now _ c.in_ok-first.ensures b.0 _ c.saturating_sub-few.ensures (sym (b.1 0) ∙ c.in-32.is) (omega arith) _ c.in_err-others-in-32.ensures.0, tt)

pub items-returns-in_ok-others-in-32 : goal.items-returns-in_ok-others-in-32
items-returns-in_ok-others-in-32 t c =
    let b = c.in-Some.ensures.lookup.3 in
    items_read c.args.text.now c.args.at c.args.few c.args.want c.args.many c.args.used.now _ c.in_ok-first.ensures b.0 _ c.saturating_sub-few.ensures (sym (b.1 0) ∙ c.in-32.is) (omega arith) _ c.in_ok-others-in-32.ensures

pub items-returns-in_default-b : goal.items-returns-in_default-b
items-returns-in_default-b t c =
    let b = c.in-Some.ensures.lookup.3 in
    (items_few c.args.text.now c.args.at c.args.few c.args.want c.args.many c.args.used.now _ c.in_ok-first.ensures b.0 _ c.saturating_sub-few.ensures (sym (b.1 0) ∙ c.in-32.is) (omega arith), tt)

pub items-returns-in_default-b-2 : goal.items-returns-in_default-b-2
items-returns-in_default-b-2 t c =
    let b = c.in-Some.ensures.lookup.3 in
    (items_short c.args.text.now c.args.at c.args.few c.args.want c.args.many c.args.used.now _ c.in_ok-first.ensures b.0 _ c.saturating_sub-few.ensures (sym (b.1 0) ∙ c.in-41.is) c.if-few-eq0.false, tt)

pub items-returns-in_default-b-3 : goal.items-returns-in_default-b-3
items-returns-in_default-b-3 t c =
    let b = c.in-Some.ensures.lookup.3 in
    (items_other c.args.text.now c.args.at c.args.few c.args.want c.args.many c.args.used.now _ c.in_ok-first.ensures b.0 _ c.saturating_sub-few.ensures (λ e. omega (arith, b.1 0)) (λ e. omega (arith, b.1 0)), tt)

pub opened-returns-then-at-text : goal.opened-returns-then-at-text
opened-returns-then-at-text t c = (
  elim c.then-at-text.branch [
    | opened-then-at-text-via-then-at-text w ↦ opened_ends c.args.text.now c.args.at c.args.want c.args.many c.args.used.now w.if-at-text.true
    | opened-then-at-text-via-else-at-text+then-text-at-ne40 w ↦ opened_bad c.args.text.now c.args.at c.args.want c.args.many c.args.used.now w.if-at-text.false w.if-text-at-ne40.true
  ],
  tt,
)

pub opened-returns : goal.opened-returns
opened-returns t c = opened_read c.args.text.now c.args.at c.args.want c.args.many c.args.used.now _ _ _ _ c.if-at-text.false c.if-text-at-ne40.false c.items.ensures
