use mathlib.Core.Path.{sym, ap, subst, ◌∙◌}
use Prim.Native.Nat.{ℕ, ◌<◌}
use native.Mathlib.Nat.{mod-lt}
use native.Mathlib.Omega.{arith}
use lib.ListN.{length, get_or}
use Rattle.spec_orders.proofs.Aims.{rounded_in}
use Rattle.call_order.proofs.Laws.{aim_is}
use Rattle.call_order.proofs.middle.Goals as goal

pub offset_bounds-order-rounded : goal.offset_bounds-order-rounded
offset_bounds-order-rounded c =
    let place : c.rounded.result < length c.args.order.now = (subst (λ (p : ℕ). p < length c.args.order.now) (sym c.rounded.ensures) (rounded_in _ _ _ (mod-lt _ c.requires.some_place) (mod-lt _ c.requires.some_place))) in
    omega (arith, place, c.requires.few_places)

pub bounds-order-rounded : goal.bounds-order-rounded
bounds-order-rounded c =
    let place : c.rounded.result < length c.args.order.now = (subst (λ (p : ℕ). p < length c.args.order.now) (sym c.rounded.ensures) (rounded_in _ _ _ (mod-lt _ c.requires.some_place) (mod-lt _ c.requires.some_place))) in
    place

pub returns : goal.returns
returns c = ap (λ (p : ℕ). get_or c.args.order.now p 0) c.rounded.ensures ∙ aim_is _ _ _ _ c.requires.some_place c.first_start-start.ensures.1 (c.size-size.ensures ∙ sym c.requires.all_leaves)
