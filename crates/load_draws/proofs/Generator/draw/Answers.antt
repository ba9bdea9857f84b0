use mathlib.Core.Path.{sym, ap, ◌∙◌}
use Prim.Native.Nat.{◌%◌, ◌+◌}
use Rattle.load_draws.proofs.Steps.{state_is, drawn_is}
use Rattle.load_draws.proofs.Generator.draw.Goals as goal

pub returns : goal.returns
returns c = let x = c.args.self.state in (sym (state_is x), ap (λ y. y % c.args.k + 1) (sym (state_is x)) ∙ sym (drawn_is x c.args.k))
