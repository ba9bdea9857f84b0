-- Document 01, "The tree": P-nodes, C-nodes, and the orders that a tree allows.
-- The tree is seen from leaf 1, as its text is. An inner node has its items, and besides them the neighbour on the way to leaf 1: so its
-- neighbours in a circular order, read from that one, are its items in a sequence. A tree is a sequence of one item (none for n = 1).
use Rattle.std.specs.Prelude.{◌≡◌, ◌⊎◌, List, [], ◌∷◌, ◌++◌, ℕ, suc}
use Rattle.spec_orders.specs.declared.Layout.{Layout}
use Rattle.spec_orders.specs.declared.Layout.TheVariants.{Ring, Rack}
use Rattle.spec_orders.specs.Lists.{Rearranged}

pub data Kind : Type 0 where
  P C : Kind

-- A sequence of items: the first item is a leaf, or an inner node with its own items; then come the items after it.
pub data Forest : Type 0 where
  nil : Forest
  leaf : ℕ → Forest → Forest
  node : Kind → Forest → Forest → Forest

-- One item by itself, and a sequence as the list of its items.
pub data Item : Type 0 where
  leaf_item : ℕ → Item
  node_item : Kind → Forest → Item

abbrev pub items : Forest → List Item
items nil = []
items (leaf b f) = leaf_item b ∷ items f
items (node k i f) = node_item k i ∷ items f

-- One sequence after another; the items in the other direction, each as it was.
abbrev pub append : Forest → Forest → Forest
append nil g = g
append (leaf b f) g = leaf b (append f g)
append (node k i f) g = node k i (append f g)

abbrev pub rev : Forest → Forest
rev nil = nil
rev (leaf b f) = append (rev f) (leaf b nil)
rev (node k i f) = append (rev f) (node k i nil)

-- The leaves from left to right: the bins as printed.
abbrev pub frontier : Forest → List ℕ
frontier nil = []
frontier (leaf b f) = b ∷ frontier f
frontier (node k i f) = frontier i ++ frontier f

-- How the items of a node may stand. "P-nodes, whose neighbours may be set round them in any circular order, and C-nodes, whose
-- neighbours have one circular order or its reverse."
abbrev pub Turn : Kind → Forest → Forest → Type 0
Turn P f g = Rearranged (items f) (items g)
Turn C f g = (g ≡ f) ⊎ (g ≡ rev f)

-- The orders of its leaves that a sequence allows: an order of each item, one after the other; of a node, an order of its items as they may stand.
pub data Consistent : Forest → List ℕ → Type 0 where
  no_items : Consistent nil []
  leaf_first : {b : ℕ} {f : Forest} {xs : List ℕ} → Consistent f xs → Consistent (leaf b f) (b ∷ xs)
  node_first : {k : Kind} {i j f : Forest} {ys zs xs : List ℕ}
      → Turn k i j → Consistent j ys → Consistent f zs → xs ≡ ys ++ zs → Consistent (node k i f) xs

-- "The orders so reached are those the tree allows": leaf 1, then an order of what hangs there.
pub record Allowed (t : Forest) (ord : List ℕ) : Type 0 where
  pub after : List ℕ
  pub one_first : ord ≡ 1 ∷ after
  pub order : Consistent t after

-- A circle read from another place.
pub record Rotation (c d : List ℕ) : Type 0 where
  pub left : List ℕ
  pub right : List ℕ
  pub whole : c ≡ left ++ right
  pub turned : d ≡ right ++ left

-- Document 02, No. 6: the straight orders that the tree of a rack allows. A circular order that it allows, read from the hidden end bin, which is left
-- out.
pub record Straight (n : ℕ) (t : Forest) (ord : List ℕ) : Type 0 where
  pub circle : List ℕ
  pub allowed : Allowed t circle
  pub read : Rotation circle (suc n ∷ ord)

abbrev pub AllowedOn : Layout → ℕ → Forest → List ℕ → Type 0
AllowedOn Ring n t ord = Allowed t ord
AllowedOn Rack n t ord = Straight n t ord
