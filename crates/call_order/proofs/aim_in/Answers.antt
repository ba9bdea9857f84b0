use mathlib.Core.Path.{sym, ap, ◌∙◌}
use native.Mathlib.Omega.{arith}
use Rattle.std.specs.declared.result.Result.TheVariants.{Ok}
use Rattle.call_order.proofs.Laws.{aim_in_yes, aim_in_no}
use Rattle.call_order.proofs.aim_in.Goals as goal

pub returns-then-is_consecutive : goal.returns-then-is_consecutive
returns-then-is_consecutive c = ap Ok c.middle.ensures ∙ sym (aim_in_yes c.args.layout _ _ c.requires.1 (omega (arith, c.requires.0.all_leaves, c.requires.0.some_leaf)) (sym c.is_consecutive.ensures ∙ c.if-is_consecutive.true))

pub returns : goal.returns
returns c = sym (aim_in_no c.args.layout _ _ (sym c.is_consecutive.ensures ∙ c.if-is_consecutive.false))
