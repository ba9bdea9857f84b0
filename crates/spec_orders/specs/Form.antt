-- Document 01, "The tree" and "Tree text": the form of a tree that a node table holds and a written text has, and the standard order.
use Rattle.std.specs.Prelude.{Bool, true, ◌&&◌, List, [], ◌∷◌, ℕ, suc, ◌+◌, ◌≤◌, ◌<◌, leb, ltb, length}
use Rattle.spec_orders.specs.declared.Layout.{Layout}
use Rattle.spec_orders.specs.Lists.{Rearranged, NotAfter, rearranged?}
use Rattle.spec_orders.specs.CircularOrder.{others}
use Rattle.spec_orders.specs.Tree.{Kind, P, C, Forest, nil, leaf, node, Item, leaf_item, node_item, items, rev, frontier, AllowedOn}

-- The first leaf printed (of a sequence with no empty node).
abbrev pub first : Forest → ℕ
first nil = 0
first (leaf b f) = b
first (node k i f) = first i

abbrev pub first_of : Item → ℕ
first_of (leaf_item b) = b
first_of (node_item k i) = first i

-- The items rise by the first leaf printed in each (all above m).
abbrev pub Rises : ℕ → List Item → Type 0
Rises m [] = Unit {0}
Rises m (t ∷ ts) = (m < first_of t) × Rises (first_of t) ts

abbrev pub Rising : List Item → Type 0
Rising [] = Unit {0}
Rising (t ∷ ts) = Rises (first_of t) ts

-- "P items rise by the first bin printed in each. A C-node's items keep its circular order, in the direction whose first item starts with
-- the smaller bin."
abbrev pub Sorted : Kind → Forest → Type 0
Sorted P i = Rising (items i)
Sorted C i = first i < first (rev i)

-- Q holds of every node, at any depth: of its kind and its items.
abbrev pub Every : (Kind → Forest → Type 0) → Forest → Type 0
Every Q nil = Unit {0}
Every Q (leaf b f) = Every Q f
Every Q (node k i f) = (Q k i × Every Q i) × Every Q f

-- How many items a node has at least. "Each inner node has at least three neighbours", its items and the one on the way to leaf 1; document 02,
-- No. 5: "from now on a C-node has at least four neighbours".
abbrev pub fewest : Kind → ℕ
fewest P = 2
fewest C = 3

abbrev pub Enough : Kind → Forest → Type 0
Enough k i = fewest k ≤ length (items i)

-- The published form: every node has as many items as its kind asks, and they are sorted as it asks.
abbrev pub Canonical : Forest → Type 0
Canonical f = Every (λ k i. Enough k i × Sorted k i) f

-- At most one item.
abbrev pub Single : List Item → Type 0
Single [] = Unit {0}
Single (t ∷ []) = Unit {0}
Single (t ∷ (u ∷ ts)) = ⊥

-- A tree in form for n leaves: one item (none for n = 1), in the published form, whose leaves are 2 to n.
pub record InForm (n : ℕ) (t : Forest) : Type 0 where
  pub single : Single (items t)
  pub canonical : Canonical t
  pub all_leaves : Rearranged (others n) (frontier t)

-- The first, in dictionary order, of the orders that are Ok.
pub record FirstOf (Ok : List ℕ → Type 0) (ord : List ℕ) : Type 0 where
  pub allowed : Ok ord
  pub least : (other : List ℕ) → Ok other → NotAfter ord other

-- "The standard order is the first, in dictionary order of bin numbers, of all allowed orders." On a rack it "is the first allowed list in dictionary
-- order".
abbrev pub StandardOrder : Layout → ℕ → Forest → List ℕ → Type 0
StandardOrder l n t ord = FirstOf (AllowedOn l n t) ord

-- How many inner nodes.
abbrev pub nodes : Forest → ℕ
nodes nil = 0
nodes (leaf b f) = nodes f
nodes (node k i f) = suc (nodes i + nodes f)

-- "The bins printed are then the standard order": of a tree in form.
abbrev pub standard : Forest → List ℕ
standard t = 1 ∷ frontier t

-- The test whether a tree is in form for n leaves (it decides `InForm`).
abbrev pub rises? : ℕ → List Item → Bool
rises? m [] = true
rises? m (t ∷ ts) = ltb m (first_of t) && rises? (first_of t) ts

abbrev pub rising? : List Item → Bool
rising? [] = true
rising? (t ∷ ts) = rises? (first_of t) ts

abbrev pub sorted? : Kind → Forest → Bool
sorted? P i = rising? (items i)
sorted? C i = ltb (first i) (first (rev i))

abbrev pub canonical? : Forest → Bool
canonical? nil = true
canonical? (leaf b f) = canonical? f
canonical? (node k i f) = ((leb (fewest k) (length (items i)) && sorted? k i) && canonical? i) && canonical? f

unfoldable pub in_form? : ℕ → Forest → Bool
in_form? n t = leb (length (items t)) 1 && (canonical? t && rearranged? (others n) (frontier t))
