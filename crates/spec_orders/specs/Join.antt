-- Document 01: the fresh ring, and groups that join a ring's tree.
use Rattle.std.specs.Prelude.{cond, List, [], ◌∷◌, ℕ}
use Rattle.std.proofs.Math.Option.{Option, none, some}
use Rattle.spec_orders.specs.CircularOrder.{Restriction, others}
use Rattle.spec_orders.specs.Tree.{Forest, nil, leaf}
use Rattle.spec_orders.specs.Reduce.{complement, pack, reduce}

abbrev pub leaf_items : List ℕ → Forest
leaf_items [] = nil
leaf_items (b ∷ bs) = leaf b (leaf_items bs)

-- "A fresh ring is one P-node with all bins; for n = 2 the bins are joined directly."
unfoldable pub fresh : ℕ → Forest
fresh n = pack (leaf_items (others n))

-- The side of a group that does not hold the leaf: the group, or the leaves outside it.
unfoldable pub side : ℕ → Restriction → Restriction
side first G = cond (G first) (complement G) G

-- A group joins: its side without leaf 1 is made consecutive. none: impossible (8).
unfoldable pub join : Restriction → Forest → Option Forest
join G t = reduce (side 1 G) t

-- Groups that join one after another; none: one of them cannot.
abbrev pub then : Option Forest → (Forest → Option Forest) → Option Forest
then (some t) k = k t
then none k = none

unfoldable pub joins : List Restriction → Forest → Option Forest
joins [] t = some t
joins (G ∷ Gs) t = then (join G t) (joins Gs)
