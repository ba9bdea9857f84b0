use mathlib.Core.Path.{◌≡◌, refl, sym, ◌∙◌}
use Prim.Native.Nat.{◌+◌, ◌-◌, ◌≤◌}
use lib.ListN.{take, drop}
use native.Mathlib.Omega.{arith}
use Rattle.tree_tokens.specs.Tokens.{number, Judged, encode, Tokens}
use Rattle.tree_tokens.specs.Views.{state_of, items_of}
use Rattle.tree_stays.proofs.Laws.{others, stays-whole, stays_none, stays_alone, stays_not, stays-unmixed}
use Rattle.tree_stays.proofs.Left.{left_tokens, left_says, left-next, left_end, others-left}
use Rattle.tree_tokens.proofs.Laws.{items_left, shape_read}
use Rattle.tree_stays.proofs.stays.Goals as goal

pub returns-then-state-lt2 : goal.returns-then-state-lt2
returns-then-state-lt2 c = left_says c.loop-i.invariant.1 (λ h p. stays-whole h (omega (arith, c.if-state-lt2.true, c.state.ensures h p)))

pub span-k-requires : goal.span-k-requires
span-k-requires c =
    let here : Tokens (take (c.loop-i.end - c.loop-i.i) (drop c.loop-i.i c.args.x.now)) = (left_tokens c.requires.0 c.loop-i.invariant.1) in
    let items_are : (h : Judged) → take (c.loop-i.end - c.loop-i.i) (drop c.loop-i.i c.args.x.now) ≡ encode h
    → take (c.loop-i.i + c.size.result - (c.loop-i.i + 1)) (drop (c.loop-i.i + 1) c.args.x.now) ≡ encode (items_of h) = (λ h p. items_left c.args.x.now c.loop-i.i c.loop-i.end c.size.result h c.size.ensures.0 (omega (arith, c.size.ensures.1, c.y-1.given)) p (c.size.ensures.2 h p)) in
    let y = here in ((_, items_are y.0 y.1), omega arith)

pub returns-then-k-z : goal.returns-then-k-z
returns-then-k-z c =
    let items_are : (h : Judged) → take (c.loop-i.end - c.loop-i.i) (drop c.loop-i.i c.args.x.now) ≡ encode h
    → take (c.loop-i.i + c.size.result - (c.loop-i.i + 1)) (drop (c.loop-i.i + 1) c.args.x.now) ≡ encode (items_of h) = (λ h p. items_left c.args.x.now c.loop-i.i c.loop-i.end c.size.result h c.size.ensures.0 (omega (arith, c.size.ensures.1, c.y-1.given)) p (c.size.ensures.2 h p)) in
    let partial : (h : Judged) → take (c.loop-i.end - c.loop-i.i) (drop c.loop-i.i c.args.x.now) ≡ encode h → 2 ≤ number (state_of h) = (λ h p. omega (arith, c.if-state-lt2.false, c.state.ensures h p)) in
    left_says c.loop-i.invariant.1 (λ h p. stays_none h (partial h p) (c.span-k.ensures.1 _ (items_are h p)) c.span-k.ensures.0 c.if-k-z.true)

pub rest-requires : goal.rest-requires
rest-requires c =
    let here : Tokens (take (c.loop-i.end - c.loop-i.i) (drop c.loop-i.i c.args.x.now)) = (left_tokens c.requires.0 c.loop-i.invariant.1) in
    let items_are : (h : Judged) → take (c.loop-i.end - c.loop-i.i) (drop c.loop-i.i c.args.x.now) ≡ encode h
    → take (c.loop-i.i + c.size.result - (c.loop-i.i + 1)) (drop (c.loop-i.i + 1) c.args.x.now) ≡ encode (items_of h) = (λ h p. items_left c.args.x.now c.loop-i.i c.loop-i.end c.size.result h c.size.ensures.0 (omega (arith, c.size.ensures.1, c.y-1.given)) p (c.size.ensures.2 h p)) in
    let others-are : (h : Judged) → take (c.loop-i.end - c.loop-i.i) (drop c.loop-i.i c.args.x.now) ≡ encode h
    → take (c.loop-i.i + c.size.result - (c.loop-i.i + 1 + c.span-k.result)) (drop (c.loop-i.i + 1 + c.span-k.result) c.args.x.now) ≡ encode (others h) = (λ h p. others-left c.args.x.now (c.loop-i.i + 1) (c.loop-i.i + c.size.result) c.span-k.result h (c.span-k.ensures.1 _ (items_are h p))) in
    let y = here in ((_, others-are y.0 y.1), omega (arith, c.others-1.given, c.if-k-z.false, c.span-k.ensures.0, c.z-1.given, c.size.ensures.0, c.size.ensures.1, c.y-1.given, c.loop-i.invariant.0))

pub all_of_state-requires : goal.all_of_state-requires
all_of_state-requires c =
    let here : Tokens (take (c.loop-i.end - c.loop-i.i) (drop c.loop-i.i c.args.x.now)) = (left_tokens c.requires.0 c.loop-i.invariant.1) in
    let items_are : (h : Judged) → take (c.loop-i.end - c.loop-i.i) (drop c.loop-i.i c.args.x.now) ≡ encode h
    → take (c.loop-i.i + c.size.result - (c.loop-i.i + 1)) (drop (c.loop-i.i + 1) c.args.x.now) ≡ encode (items_of h) = (λ h p. items_left c.args.x.now c.loop-i.i c.loop-i.end c.size.result h c.size.ensures.0 (omega (arith, c.size.ensures.1, c.y-1.given)) p (c.size.ensures.2 h p)) in
    let others-are : (h : Judged) → take (c.loop-i.end - c.loop-i.i) (drop c.loop-i.i c.args.x.now) ≡ encode h
    → take (c.loop-i.i + c.size.result - (c.loop-i.i + 1 + c.span-k.result)) (drop (c.loop-i.i + 1 + c.span-k.result) c.args.x.now) ≡ encode (others h) = (λ h p. others-left c.args.x.now (c.loop-i.i + 1) (c.loop-i.i + c.size.result) c.span-k.result h (c.span-k.ensures.1 _ (items_are h p))) in
    let y = here in ((_, c.rest.ensures.1 _ (others-are y.0 y.1)), omega arith)

pub returns-in_default : goal.returns-in_default
returns-in_default c =
    let items_are : (h : Judged) → take (c.loop-i.end - c.loop-i.i) (drop c.loop-i.i c.args.x.now) ≡ encode h
    → take (c.loop-i.i + c.size.result - (c.loop-i.i + 1)) (drop (c.loop-i.i + 1) c.args.x.now) ≡ encode (items_of h) = (λ h p. items_left c.args.x.now c.loop-i.i c.loop-i.end c.size.result h c.size.ensures.0 (omega (arith, c.size.ensures.1, c.y-1.given)) p (c.size.ensures.2 h p)) in
    let others-are : (h : Judged) → take (c.loop-i.end - c.loop-i.i) (drop c.loop-i.i c.args.x.now) ≡ encode h
    → take (c.loop-i.i + c.size.result - (c.loop-i.i + 1 + c.span-k.result)) (drop (c.loop-i.i + 1 + c.span-k.result) c.args.x.now) ≡ encode (others h) = (λ h p. others-left c.args.x.now (c.loop-i.i + 1) (c.loop-i.i + c.size.result) c.span-k.result h (c.span-k.ensures.1 _ (items_are h p))) in
    let partial : (h : Judged) → take (c.loop-i.end - c.loop-i.i) (drop c.loop-i.i c.args.x.now) ≡ encode h → 2 ≤ number (state_of h) = (λ h p. omega (arith, c.if-state-lt2.false, c.state.ensures h p)) in
    left_says c.loop-i.invariant.1 (λ h p. stays_not h (partial h p) (c.span-k.ensures.1 _ (items_are h p)) c.span-k.ensures.0 c.if-k-z.false (sym c.if-not-all_of_state.true ∙ c.all_of_state.ensures _ (c.rest.ensures.1 _ (others-are h p))) (λ s. c.in_default.not-CNode (shape_read (c.shape.ensures h p) s)))

pub find_partial-requires : goal.find_partial-requires
find_partial-requires c =
    let here : Tokens (take (c.loop-i.end - c.loop-i.i) (drop c.loop-i.i c.args.x.now)) = (left_tokens c.requires.0 c.loop-i.invariant.1) in
    let items_are : (h : Judged) → take (c.loop-i.end - c.loop-i.i) (drop c.loop-i.i c.args.x.now) ≡ encode h
    → take (c.loop-i.i + c.size.result - (c.loop-i.i + 1)) (drop (c.loop-i.i + 1) c.args.x.now) ≡ encode (items_of h) = (λ h p. items_left c.args.x.now c.loop-i.i c.loop-i.end c.size.result h c.size.ensures.0 (omega (arith, c.size.ensures.1, c.y-1.given)) p (c.size.ensures.2 h p)) in
    let others-are : (h : Judged) → take (c.loop-i.end - c.loop-i.i) (drop c.loop-i.i c.args.x.now) ≡ encode h
    → take (c.loop-i.i + c.size.result - (c.loop-i.i + 1 + c.span-k.result)) (drop (c.loop-i.i + 1 + c.span-k.result) c.args.x.now) ≡ encode (others h) = (λ h p. others-left c.args.x.now (c.loop-i.i + 1) (c.loop-i.i + c.size.result) c.span-k.result h (c.span-k.ensures.1 _ (items_are h p))) in
    let y = here in (_, others-are y.0 y.1)

pub returns-then-not-all_of_state : goal.returns-then-not-all_of_state
returns-then-not-all_of_state c =
    let items_are : (h : Judged) → take (c.loop-i.end - c.loop-i.i) (drop c.loop-i.i c.args.x.now) ≡ encode h
    → take (c.loop-i.i + c.size.result - (c.loop-i.i + 1)) (drop (c.loop-i.i + 1) c.args.x.now) ≡ encode (items_of h) = (λ h p. items_left c.args.x.now c.loop-i.i c.loop-i.end c.size.result h c.size.ensures.0 (omega (arith, c.size.ensures.1, c.y-1.given)) p (c.size.ensures.2 h p)) in
    let others-are : (h : Judged) → take (c.loop-i.end - c.loop-i.i) (drop c.loop-i.i c.args.x.now) ≡ encode h
    → take (c.loop-i.i + c.size.result - (c.loop-i.i + 1 + c.span-k.result)) (drop (c.loop-i.i + 1 + c.span-k.result) c.args.x.now) ≡ encode (others h) = (λ h p. others-left c.args.x.now (c.loop-i.i + 1) (c.loop-i.i + c.size.result) c.span-k.result h (c.span-k.ensures.1 _ (items_are h p))) in
    let partial : (h : Judged) → take (c.loop-i.end - c.loop-i.i) (drop c.loop-i.i c.args.x.now) ≡ encode h → 2 ≤ number (state_of h) = (λ h p. omega (arith, c.if-state-lt2.false, c.state.ensures h p)) in
    left_says c.loop-i.invariant.1 (λ h p. stays-unmixed h (partial h p) (c.span-k.ensures.1 _ (items_are h p)) c.span-k.ensures.0 c.if-k-z.false (sym c.if-not-all_of_state.true ∙ c.all_of_state.ensures _ (c.rest.ensures.1 _ (others-are h p))) (sym (c.in-CNode.ensures h p)) (c.find_partial.ensures.1 _ (others-are h p)))

pub loop-i-preserved : goal.loop-i-preserved
loop-i-preserved c =
    let items_are : (h : Judged) → take (c.loop-i.end - c.loop-i.i) (drop c.loop-i.i c.args.x.now) ≡ encode h
    → take (c.loop-i.i + c.size.result - (c.loop-i.i + 1)) (drop (c.loop-i.i + 1) c.args.x.now) ≡ encode (items_of h) = (λ h p. items_left c.args.x.now c.loop-i.i c.loop-i.end c.size.result h c.size.ensures.0 (omega (arith, c.size.ensures.1, c.y-1.given)) p (c.size.ensures.2 h p)) in
    let others-are : (h : Judged) → take (c.loop-i.end - c.loop-i.i) (drop c.loop-i.i c.args.x.now) ≡ encode h
    → take (c.loop-i.i + c.size.result - (c.loop-i.i + 1 + c.span-k.result)) (drop (c.loop-i.i + 1 + c.span-k.result) c.args.x.now) ≡ encode (others h) = (λ h p. others-left c.args.x.now (c.loop-i.i + 1) (c.loop-i.i + c.size.result) c.span-k.result h (c.span-k.ensures.1 _ (items_are h p))) in
    let partial : (h : Judged) → take (c.loop-i.end - c.loop-i.i) (drop c.loop-i.i c.args.x.now) ≡ encode h → 2 ≤ number (state_of h) = (λ h p. omega (arith, c.if-state-lt2.false, c.state.ensures h p)) in (
      omega (arith, c.size.ensures.1, c.y-1.given, c.loop-i.invariant.0),
      left-next c.loop-i.invariant.1 (λ h p. (others-are h p, stays_alone h (partial h p) (c.span-k.ensures.1 _ (items_are h p)) c.span-k.ensures.0 c.if-k-z.false (sym c.if-not-all_of_state.false ∙ c.all_of_state.ensures _ (c.rest.ensures.1 _ (others-are h p))) refl)),
    )

pub returns : goal.returns
returns c = left_end (omega arith) c.loop-i.invariant.1
