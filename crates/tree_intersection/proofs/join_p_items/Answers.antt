use mathlib.Core.Path.{◌≡◌, refl, sym, ap, ◌∙◌}
use mathlib.Core.List.{[], ◌∷◌, map}
use lib.ListN.{length, take}
use Rattle.spec_orders.specs.Lists.{elem}
use Rattle.spec_orders.specs.Tree.{Forest, frontier}
use Rattle.spec_orders.specs.Join.{joins}
use Rattle.tree_tokens.specs.Tokens.{Judged, tree, encode, flat}
use Rattle.tree_tokens.specs.Views.{first_of, items_of, rest_of}
use Rattle.tree_tokens.proofs.Laws.{shape_read, shape-first, items-first}
use Rattle.tree_tokens.proofs.Steps.{item_taken, item_tokens, none_left}
use Rattle.tree_intersection.specs.Intersect.{Grows}
use Rattle.tree_intersection.proofs.Groups.{p_item_more, p_item_other}
use Rattle.tree_intersection.proofs.Growth.{grows_as, joins-one, growing_more, joining_same, joining_more, joining_none, joining_end}
use Rattle.tree_intersection.proofs.join_p_items.Goals as goal

pub shape-requires : goal.shape-requires
shape-requires c = item_tokens c.loop-item.invariant.2 c.requires.0 c.in-Some.ensures.steps

pub items-requires : goal.items-requires
items-requires c = item_tokens c.loop-item.invariant.2 c.requires.0 c.in-Some.ensures.steps

pub loop-item-preserved-in_default : goal.loop-item-preserved-in_default
loop-item-preserved-in_default c = (
  c.loop-item.invariant.0,
  c.loop-item.invariant.1,
  item_taken c.loop-item.invariant.2 c.in-Some.ensures.steps
      (λ j k h x q. joining_same (rest_of k) q (p_item_other k (λ e. c.in_default.not-PNode (shape_read (c.shape.ensures _ x ∙ shape-first k) (sym e))))),
)

pub returns-in_err-k : goal.returns-in_err-k
returns-in_err-k c =
    let step : (k : Judged) → c.in-Some.item.now ≡ encode (first_of k) → (u : Forest) → take c.loop-item.k c.loop-item.into ≡ flat u
    → Grows (joins (map elem (frontier (tree (items_of k)) ∷ [])) u) c.join_leaves.new.into c.join_leaves.result = (λ k x u q. grows_as (joins-one (elem (frontier (tree (items_of k)))) u) (c.join_leaves.ensures (items_of k) u (c.items.ensures.1 _ x ∙ ap encode (items-first k)) q)) in
    rw c.from_residual.ensures (λ j t e q.
    let r = c.loop-item.invariant.2.at j e in
    let k = r.0 in
    let x = (c.in-Some.ensures.steps.1 k r.1).0 in
    joining_none (frontier (tree (items_of k)) ∷ []) (rest_of k) r.2 (p_item_more k (c.in-PNode.ensures _ x ∙ shape-first k)) (step k x) c.in_err-k.was t q)

pub loop-item-preserved : goal.loop-item-preserved
loop-item-preserved c =
    let step : (k : Judged) → c.in-Some.item.now ≡ encode (first_of k) → (u : Forest) → take c.loop-item.k c.loop-item.into ≡ flat u
    → Grows (joins (map elem (frontier (tree (items_of k)) ∷ [])) u) c.join_leaves.new.into c.join_leaves.result = (λ k x u q. grows_as (joins-one (elem (frontier (tree (items_of k)))) u) (c.join_leaves.ensures (items_of k) u (c.items.ensures.1 _ x ∙ ap encode (items-first k)) q)) in
    let r = c.loop-item.invariant.2.at c.requires.0.0 c.requires.0.1 in
    let x = (c.in-Some.ensures.steps.1 r.0 r.1).0 in
    let g = c.loop-item.invariant.1 in (
      c.join_leaves.auto.into ∙ c.loop-item.invariant.0,
      growing_more (map elem (frontier (tree (items_of r.0)) ∷ [])) g.tree.0 g g.tree.1 c.join_leaves.auto.into c.in_ok-k.was (step r.0 x g.tree.0 g.tree.1),
      item_taken c.loop-item.invariant.2 c.in-Some.ensures.steps
          (λ j k h y q. joining_more (frontier (tree (items_of k)) ∷ []) (rest_of k) q (p_item_more k (c.in-PNode.ensures _ y ∙ shape-first k)) (step k y) c.in_ok-k.was),
    )

pub returns : goal.returns
returns c = λ j t e q. joining_end c.loop-item.invariant.1 (none_left c.loop-item.invariant.2 (ap length c.in-None.ensures.steps.0) j e) refl t q
