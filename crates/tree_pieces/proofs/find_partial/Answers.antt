use mathlib.Core.Path.{refl, sym, ap, ◌∙◌}
use Prim.Native.Nat.{ℕ, ◌%◌}
use native.Mathlib.Omega.{arith}
use lib.ListN.{length-drop}
use Rattle.tree_tokens.specs.Tokens.{encode}
use Rattle.tree_tokens.proofs.Laws.{at_end}
use Rattle.tree_spans.proofs.Laws.{leaf_first}
use Rattle.tree_pieces.specs.Writers.{from_partial}
use Rattle.tree_pieces.proofs.Walks.{left_all, left_part, left_some, left_token, left-next, left_none}
use Rattle.tree_pieces.proofs.Laws.{from_none, from_here, from_on}
use Rattle.tree_pieces.proofs.find_partial.Goals as goal

pub loop-i-init : goal.loop-i-init
loop-i-init c = (omega arith, left_all from_partial (λ a. a) c.requires (λ a. refl))

pub loop-i-preserved-then-x-i-lt2 : goal.loop-i-preserved-then-x-i-lt2
loop-i-preserved-then-x-i-lt2 c =
    let l = c.loop-i.invariant.1 in
    let f = leaf_first l.left (left_some from_partial l c.loop-i-test.true) (ap (λ (t : ℕ). t % 16) (left_token from_partial l c.loop-i-test.true)) (omega (arith, c.if-x-i-lt2.true)) in
    (omega arith, left-next from_partial l (λ a. a) f.1 (from_on l.left (λ h. omega (arith, f.0, c.if-x-i-lt2.true, h))))

pub returns-then-state-ge2 : goal.returns-then-state-ge2
returns-then-state-ge2 c =
    let l = c.loop-i.invariant.1 in
    let e = left_part from_partial l in (
      omega (arith, length-drop c.loop-i.i c.args.x.now),
      λ j ej. e ∙ ap encode (sym (l.same j ej ∙ from_here l.left (omega (arith, c.state.ensures _ e, c.if-state-ge2.true)))),
    )

pub loop-i-preserved : goal.loop-i-preserved
loop-i-preserved c =
    let l = c.loop-i.invariant.1 in
    let e = left_part from_partial l in (
      omega (arith, length-drop c.loop-i.i c.args.x.now),
      left-next from_partial l (λ a. a) (c.size-i.ensures.2 _ e) (from_on l.left (λ h. omega (arith, c.state.ensures _ e, c.if-state-ge2.false, h))),
    )

pub returns : goal.returns
returns c =
    let x = c.args.x.now in
    let l = c.loop-i.invariant.1 in (
      omega (arith, length-drop c.loop-i.i x),
      λ j ej. left_part from_partial l ∙ ap encode (at_end l.left l.from (omega (arith, length-drop c.loop-i.i x)) ∙ sym (left_none from_partial l (omega arith) j ej ∙ from_none)),
    )
