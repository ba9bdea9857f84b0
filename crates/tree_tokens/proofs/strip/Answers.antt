use mathlib.Core.List.{map}
use mathlib.Core.Path.{◌≡◌, refl, ap, ◌∙◌}
use lib.ListN.{length, take, length-map}
use lib.Seq.{take-length, length-take-le}
use native.Mathlib.Omega.{arith}
use Rattle.tree_tokens.proofs.Sequences.{bare, bare_is, bare_more, plain-length}
use Rattle.tree_tokens.proofs.Writes.{write_step}
use Rattle.tree_tokens.proofs.strip.Goals as goal

pub loop-i-preserved : goal.loop-i-preserved
loop-i-preserved c =
    let toks = c.args.toks.now in
    let i = c.loop-i.i in
    let long : length (map bare (take i toks)) ≡ i = length-map (take i toks) bare ∙ length-take-le i toks (omega arith) in
    rw (c.loop-i.invariant, bare_more toks i (omega arith)) (write_step (map bare (take i toks)) c.args.out.now i _ long (omega arith))

pub returns : goal.returns
returns c =
    let end : c.loop-i.i ≡ length c.args.toks.now = omega arith in (
      refl,
      λ j e. record {
        many = omega (arith, plain-length j, ap length e);
        text = c.loop-i.invariant ∙ rw (end, take-length, e, bare_is j, plain-length j);
      },
    )
