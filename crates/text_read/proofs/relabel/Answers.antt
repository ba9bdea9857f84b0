use Rattle.std.proofs.Common.{◌≡◌, ◌∙◌, length, arith}
use Rattle.tree_tokens.specs.Tokens.{plain}
use Rattle.tree_tokens.proofs.Steps.{at_last, next_token}
use Rattle.text_read.proofs.Relabelling.{relabelled_more, relabelled_end}
use Rattle.text_read.proofs.relabel.Goals as goal

pub loop-i-preserved : goal.loop-i-preserved
loop-i-preserved c = next_token c.loop-i.invariant (omega arith) (λ j k p q. relabelled_more _ q p.some (omega arith) (λ u e. c.relabelled.ensures u (p.part ∙ e)))

pub returns : goal.returns
returns c = λ t e.
    let whole : length c.args.toks.now ≡ c.loop-i.i = omega arith in
    rw whole (relabelled_end t (at_last c.loop-i.invariant (omega arith) (plain t) e))
