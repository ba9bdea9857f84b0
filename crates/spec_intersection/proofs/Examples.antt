-- Two intersections, computed.
use mathlib.Core.Path.{◌≡◌, refl}
use mathlib.Core.Option.{none, some}
use mathlib.Core.List.{[], ◌∷◌}
use Rattle.spec_orders.specs.Lists.{elem}
use Rattle.spec_orders.specs.Tree.{P, C, Forest, nil, leaf, node}
use Rattle.spec_orders.specs.Reduce.{reduce}
use Rattle.spec_orders.specs.Join.{fresh, side, join, then, joins}
use Rattle.spec_intersection.specs.Intersection.{intersection}

-- Two trees, each with one group of document 01's circle e, give its tree. With the group that is refused there no order is left.
abbrev circle_e : Forest
circle_e = node C (node P (leaf 2 (leaf 4 nil)) (leaf 5 (leaf 3 nil))) nil

pub one_group_each : then (join (elem (1 ∷ 3 ∷ [])) (fresh 5)) (λ t. then (join (elem (3 ∷ 5 ∷ [])) (fresh 5)) (intersection t)) ≡ some circle_e
unfolding fresh side reduce join joins intersection
one_group_each = refl

pub no_order_left : then (join (elem (1 ∷ 5 ∷ [])) (fresh 5)) (intersection circle_e) ≡ none
unfolding fresh side reduce join joins intersection
no_order_left = refl
