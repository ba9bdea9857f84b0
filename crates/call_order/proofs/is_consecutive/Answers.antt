use mathlib.Core.Path.{ap, ◌∙◌}
use Prim.Native.Nat.{ℕ}
use lib.Dec.{leb}
use Rattle.mark_words.specs.Marks.{marked}
use Rattle.call_order.specs.Starts.{starts}
use Rattle.call_order.proofs.Circle.{together_starts}
use Rattle.call_order.proofs.is_consecutive.Goals as goal

pub returns : goal.returns
returns c =
    ap (λ (k : ℕ). leb k 1) (c.starts.ensures.1 ∙ ap (λ (b : ℕ). starts (marked c.args.words.now) b c.args.order.now) c.before_first.ensures)
    ∙ together_starts c.args.layout (marked c.args.words.now) c.args.order.now c.requires.0 c.requires.2
