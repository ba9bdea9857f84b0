use mathlib.Core.Path.{refl, sym, ap, ◌∙◌}
use Prim.Native.Nat.{◌+◌}
use native.Mathlib.Omega.{arith}
use borrow.Author.Tests.{eqb-true, eqb-false}
use lib.ListN.{length, length-drop}
use Rattle.std.specs.Option.{option_or}
use Rattle.spec_orders.specs.TreeText.{digits}
use Rattle.spec_orders.proofs.ListLaws.{part_to_end}
use Rattle.tree_tokens.specs.Tokens.{encode}
use Rattle.tree_tokens.specs.Views.{items_of, rest_of}
use Rattle.tree_tokens.proofs.Laws.{at_end, part_rest}
use Rattle.tree_tokens.proofs.Steps.{here, at_last, next_item}
use Rattle.text_rules.proofs.Seeing.{kind_in, KindRead, kind_p, kind_c, first_size, saw_none, saw_leaf, saw_node, goes_start, goes_next, goes_end}
use Prim.Native.Nat.{◌<◌}
use Rattle.text_rules.proofs.+see_item_see_items.Goals as goal
use Rattle.text_rules.proofs.+see_item_see_items.Goals.{see_item-in-PNode, see_item-in-CNode}

pub see_item-returns-in-Leaf : goal.see_item-returns-in-Leaf
see_item-returns-in-Leaf t c = λ j e.
    let there : 0 < length (encode j) = omega (arith, ap length e, c.requires.1) in
    let one = sym (c.in-Leaf.ensures j e) in
    let b = c.leaf-b.ensures j e one in (
      omega (arith, c.digit_count.ensures.0, first_size j there),
      saw_leaf j c.args.o one b b (ap (λ d. c.args.o + d) (c.digit_count.ensures.1 ∙ ap (λ v. length (digits v)) b)) refl,
    )

pub see_item-returns : goal.see_item-returns
see_item-returns t c = λ j e.
    let there : 0 < length (encode j) = omega (arith, ap length e, c.requires.1) in
    let i = c.items.ensures.1 j e in
    let kinds : KindRead c.match-shape.is_p j =
    elim c.match-shape.branch [ see_item-in-PNode w ↦ kind_p j w.is_p-is (w.in-PNode.ensures j e) | see_item-in-CNode w ↦ kind_c j w.is_p-is (w.in-CNode.ensures j e) ] in
    let w = c.see_items-r.ensures.1 (items_of j) (kind_in j) i kinds.0 in (
      omega (arith, c.see_items-r.ensures.0, first_size j there, ap length i),
      saw_node j c.args.o there kinds.2 kinds.1 w refl refl refl (c.or.ensures ∙ ap (λ p. option_or p c.see_items-r.result.broken) c.broken_here.ensures),
    )

pub see_items-returns-then-is_empty : goal.see_items-returns-then-is_empty
see_items-returns-then-is_empty t c = (omega arith, λ j k e r. rw (at_end j e (eqb-true _ 0 (sym c.is_empty.ensures ∙ c.if-is_empty.true))) (saw_none k c.args.o refl refl refl refl))

pub see_items-loop-i-init : goal.see_items-loop-i-init
see_items-loop-i-init t c =
    let p = c.requires.0 in (
      c.size-i.ensures.1,
      omega (arith, (c.see_item-seen.ensures p.0 p.1).0, c.size-i.ensures.2 p.0 p.1),
      record {
        at = λ j e.
            let there : 0 < length (encode j) = omega (arith, ap length e, eqb-false _ 0 (sym c.is_empty.ensures ∙ c.if-is_empty.false)) in
            (rest_of j, sym (part_to_end c.args.toks.now c.size-i.result) ∙ part_rest j e (c.size-i.ensures.2 j e), λ k r. goes_start k c.args.o j c.requires.1 there (c.see_item-seen.ensures j e).1);
      },
    )

pub see_items-loop-i-preserved : goal.see_items-loop-i-preserved
see_items-loop-i-preserved t c =
    let p = c.requires.0 in
    let h = here c.loop-i.invariant.2 c.loop-i-test.true p.0 p.1 in (
      omega (arith, c.size-i-in-loop-i.ensures.1, length-drop c.loop-i.i c.args.toks.now),
      omega (arith, c.loop-i.invariant.1, (c.see_item-t.ensures h.0 h.1.part).0, c.size-i-in-loop-i.ensures.2 h.0 h.1.part),
      next_item c.loop-i.invariant.2 c.loop-i-test.true c.size-i-in-loop-i.ensures.2 (λ j f q g k r.
          goes_next f (g k r) q.some (c.see_item-t.ensures f q.part).1 refl refl refl (rw (← r, ← c.broken_here-falls.ensures, ← c.or.ensures) c.or-seen.ensures)),
    )

pub see_items-returns : goal.see_items-returns
see_items-returns t c = (omega (arith, c.loop-i.invariant.0, c.loop-i.invariant.1), λ j k e r. goes_end (at_last c.loop-i.invariant.2 c.loop-i-test.false j e k r))
