use Rattle.std.proofs.Common.{◌≡◌, ap, ◌∙◌, arith}
use Rattle.spec_orders.specs.declared.Layout.TheVariants.{Ring}
use Rattle.spec_orders.specs.Lists.{elem}
use Rattle.spec_orders.specs.CircularOrder.{Restriction}
use Rattle.spec_orders.specs.Aim.{aim_of}
use Rattle.list_bytes.proofs.Laws.{appends_then, appends_as}
use Rattle.spec_listing.specs.Listing.{name}
use Rattle.list_fields.proofs.Aiming.{leaf_told, same_group, aim_range, kept_within}
use Rattle.list_fields.proofs.put_kept.Goals as goal

pub middle-leaf-requires : goal.middle-leaf-requires
middle-leaf-requires c = kept_within c.requires.1 c.args.list.now _ c.requires.0 c.mark_line.ensures c.if-list-eq0.false

pub name-requires : goal.name-requires
name-requires c =
    let aimed : c.middle-leaf.result ≡ aim_of Ring (elem c.args.list.now) c.args.order.now =
    c.middle-leaf.ensures
    ∙ ap (λ (G : Restriction). aim_of Ring G c.args.order.now) (same_group c.requires.1 c.args.list.now _ c.requires.0 c.mark_line.ensures) in
    rw aimed (aim_range c.requires.1 (elem c.args.list.now))

pub returns : goal.returns
returns c =
    let aimed : c.middle-leaf.result ≡ aim_of Ring (elem c.args.list.now) c.args.order.now =
    c.middle-leaf.ensures
    ∙ ap (λ (G : Restriction). aim_of Ring G c.args.order.now) (same_group c.requires.1 c.args.list.now _ c.requires.0 c.mark_line.ensures) in
    let ns = c.args.file.holds.ns in (
      omega (arith, c.name.ensures.1, c.put-a.ensures.past, c.put-b.ensures.past, c.put-2.ensures.past),
      appends_then c.put-a.ensures
          (appends_then (appends_as (c.name.ensures.0 ∙ ap (name ns) aimed ∙ leaf_told ns c.args.order.now c.args.list.now c.if-list-eq0.false) c.put-b.ensures) c.put-2.ensures),
    )
