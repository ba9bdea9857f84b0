use native.Mathlib.Omega.{arith}
use mathlib.Core.Path.{◌≡◌, ◌∙◌, sym, ap}
use Prim.Native.Nat.{◌-◌}
use borrow.Author.Tests.{lt-leb}
use lib.ListN.{length, take, drop}
use Rattle.tree_tokens.specs.Tokens.{Judged, encode}
use Rattle.spec_orders.proofs.ListLaws.{part_to_end}
use Rattle.tree_spans.specs.Spans.{is_not, beyond}
use Rattle.tree_pieces.proofs.Laws.{many}
use Rattle.tree_pieces.proofs.States.{until_none, until_any, until_two}
use Rattle.tree_pieces.proofs.several.Goals as goal

pub returns-then-i-x : goal.returns-then-i-x
returns-then-i-x c = λ j e. sym (lt-leb 2 (many c.args.s j) (omega (arith, ap length (until_none c.args.s j (c.until-i.ensures.1 j e) c.until-i.ensures.0 c.if-i-x.true))))

pub returns : goal.returns
returns c =
    let its : (j : Judged) → c.args.x.now ≡ encode j → take (length c.args.x.now - c.until-i.result) (drop c.until-i.result c.args.x.now) ≡ encode (beyond (is_not c.args.s) j) = (λ j e. part_to_end c.args.x.now c.until-i.result ∙ (c.until-i.ensures.1 j e).back) in
    λ j e.
    let y = c.rest-y.ensures.1 _ (its j e) in
    until_two c.args.s j (c.until-i.ensures.1 j e) c.until-i.ensures.0 c.if-i-x.false (until_any c.args.s _ (c.until.ensures.1 _ y) c.until.ensures.0)
