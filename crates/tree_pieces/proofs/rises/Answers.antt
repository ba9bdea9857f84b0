use native.Mathlib.Omega.{arith}
use mathlib.Core.Path.{◌≡◌, ◌∙◌}
use Prim.Native.Nat.{◌-◌}
use lib.ListN.{length, take, drop}
use Rattle.tree_tokens.specs.Tokens.{Judged, encode}
use Rattle.spec_orders.proofs.ListLaws.{part_to_end}
use Rattle.tree_spans.specs.Spans.{is, beyond}
use Rattle.tree_pieces.proofs.States.{rises_none, rises_stop, rises_go}
use Rattle.tree_pieces.proofs.rises.Goals as goal

pub returns-then-i-x : goal.returns-then-i-x
returns-then-i-x c = λ j e. rises_none j (c.span-i.ensures.1 j e) c.span-i.ensures.0 c.if-i-x.true

pub returns-then-state-ge3 : goal.returns-then-state-ge3
returns-then-state-ge3 c =
    let its : (j : Judged) → c.args.x.now ≡ encode j → take (length c.args.x.now - c.span-i.result) (drop c.span-i.result c.args.x.now) ≡ encode (beyond (is 0) j) = (λ j e. part_to_end c.args.x.now c.span-i.result ∙ (c.span-i.ensures.1 j e).back) in
    λ j e. rises_stop j (c.span-i.ensures.1 j e) c.span-i.ensures.0 c.if-i-x.false (omega (arith, c.state.ensures _ (its j e), c.if-state-ge3.true))

pub returns : goal.returns
returns c =
    let its : (j : Judged) → c.args.x.now ≡ encode j → take (length c.args.x.now - c.span-i.result) (drop c.span-i.result c.args.x.now) ≡ encode (beyond (is 0) j) = (λ j e. part_to_end c.args.x.now c.span-i.result ∙ (c.span-i.ensures.1 j e).back) in
    λ j e. rises_go j (c.span-i.ensures.1 j e) c.span-i.ensures.0 c.if-i-x.false (λ h. omega (arith, c.state.ensures _ (its j e), h, c.if-state-ge3.false)) (c.all_of_state.ensures _ (c.rest.ensures.1 _ (its j e)))
