-- A tree seen from one leaf, seen from another one, in the published form: the neighbours on the way to the old leaf change place with
-- those on the way to the new one. Only the nodes on the path between the two leaves are set anew, from the old leaf outwards.
use Rattle.std.specs.Prelude.{cond, List, ℕ, suc, eqb}
use Rattle.spec_orders.specs.Lists.{elem}
use Rattle.spec_orders.specs.declared.Layout.{Layout}
use Rattle.spec_orders.specs.declared.Layout.TheVariants.{Ring, Rack}
use Rattle.spec_orders.specs.Tree.{Kind, P, C, Forest, nil, leaf, node, Item, leaf_item, node_item, append, frontier}
use Rattle.spec_orders.specs.Form.{standard}
use Rattle.spec_orders.specs.Reduce.{put, one, put_sorted, orient}

-- A node's items a, x, b seen from x: `up`, the neighbour on the way to the old leaf, among a and b. Read round the node from x they are
-- b, up, a.
abbrev pub place : Kind → Item → Forest → Forest → Forest
place P up a b = put_sorted (one up) (append a b)
place C up a b = orient (append b (put up a))

-- What the leaf r sees of a node of kind k, whose items are a (without r) and then those of the sequence (with r), and whose neighbour on
-- the way to the old leaf is `up`.
abbrev pub walk : ℕ → Kind → Item → Forest → Forest → Item
walk r k up a nil = up
walk r k up a (leaf b f) = cond (eqb r b) (node_item k (place k up a f)) (walk r k up (append a (leaf b nil)) f)
walk r k up a (node l i f) = cond (elem (frontier i) r) (walk r l (node_item k (place k up a f)) nil i) (walk r k up (append a (node l i nil)) f)

-- What the leaf r of an item sees, where the item sees `up`.
abbrev pub sees : ℕ → Item → Item → Item
sees r up (leaf_item b) = up
sees r up (node_item k i) = walk r k up nil i

-- One item seen from s, seen from its leaf r; a tree.
abbrev pub seen : ℕ → ℕ → Item → Item
seen s r x = sees r (leaf_item s) x

abbrev pub seen_from : ℕ → ℕ → Forest → Forest
seen_from s r nil = nil
seen_from s r (leaf b f) = one (seen s r (leaf_item b))
seen_from s r (node k i f) = one (seen s r (node_item k i))

-- Document 02, No. 6: the standard order of a tree in form for `leaf_count l n` leaves. On a rack it is what the hidden end bin sees.
unfoldable pub standard_on : Layout → ℕ → Forest → List ℕ
standard_on Ring n t = standard t
standard_on Rack n t = frontier (seen_from 1 (suc n) t)
