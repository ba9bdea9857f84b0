-- Document 01, "A group joins the tree": the update of a PC-tree by a restriction. S marks leaves, not leaf 1; the tree is changed so that
-- the marked leaves are consecutive in each of its orders, or this is impossible.
-- An edge is mixed iff the item below it is partial and marked leaves stand beyond it too: the path is the partial items below the new C-node.
-- What the update must do is stated without it, over the orders left, by the theorems of proofs/.
use Rattle.std.specs.Prelude.{Bool, true, false, not, cond, List, [], ◌∷◌, reverse, ℕ, ltb, length}
use Rattle.std.proofs.Math.Option.{Option, none, some}
use Rattle.spec_orders.specs.Lists.{some_of}
use Rattle.spec_orders.specs.CircularOrder.{Restriction}
use Rattle.spec_orders.specs.Tree.{Kind, P, C, Forest, nil, leaf, node, Item, leaf_item, node_item, items, append, rev, frontier}
use Rattle.spec_orders.specs.Form.{first}

-- An item in front of a sequence; by itself.
abbrev pub put : Item → Forest → Forest
put (leaf_item b) f = leaf b f
put (node_item k i) f = node k i f

abbrev pub one : Item → Forest
one t = put t nil

-- t put into f before the first item whose first leaf is larger.
abbrev pub put_sorted : Forest → Forest → Forest
put_sorted t nil = t
put_sorted t (leaf b f) = cond (ltb (first t) b) (append t (leaf b f)) (leaf b (put_sorted t f))
put_sorted t (node k i f) = cond (ltb (first t) (first i)) (append t (node k i f)) (node k i (put_sorted t f))

-- A C-node's items in the direction whose first item starts with the smaller leaf.
abbrev pub orient : Forest → Forest
orient f = cond (ltb (first (rev f)) (first f)) (rev f) f

-- Nothing, one item, or one P-node with the items: "a part with one neighbour is replaced by it, and a part with none is dropped".
abbrev pub pack : Forest → Forest
pack f = cond (ltb 1 (length (items f))) (node P f nil) f

-- Empty: no leaf is marked. Full: all are. Partial: some are, and some are not.
pub data Class : Type 0 where
  empty full partial : Class

abbrev pub complement : Restriction → Restriction
complement S x = not (S x)

abbrev pub class_by : Bool → Bool → Class
class_by false out = empty
class_by true false = full
class_by true true = partial

abbrev pub class : Restriction → List ℕ → Class
class S xs = class_by (some_of S xs) (some_of (complement S) xs)

-- The two classes are one.
abbrev pub is : Class → Class → Bool
is empty empty = true
is empty full = false
is empty partial = false
is full empty = false
is full full = true
is full partial = false
is partial empty = false
is partial full = false
is partial partial = true

-- An item with its class and what may take its place. `linear`: items whose empty leaves all stand before the full ones.
-- `reduced`: one item, whose full leaves stand consecutively. `none`: it has no such order.
pub record Part : Type 0 where
  pub item : Item
  pub sort : Class
  pub linear : Option Forest
  pub reduced : Option Forest

-- The items, in their order; those of one class; whether all are of one class.
abbrev pub whole : List Part → Forest
whole [] = nil
whole (p ∷ ps) = put p.item (whole ps)

abbrev pub only : Class → List Part → List Part
only c [] = []
only c (p ∷ ps) = cond (is c p.sort) (p ∷ only c ps) (only c ps)

abbrev pub every : Class → List Part → Bool
every c [] = true
every c (p ∷ ps) = cond (is c p.sort) (every c ps) false

-- One after the other, if both are possible; reversed; the first that is possible; as one C-node.
infixr 55 ◌⊕◌
abbrev pub ◌⊕◌ : Option Forest → Option Forest → Option Forest
some f ⊕ some g = some (append f g)
some f ⊕ none = none
none ⊕ o = none

abbrev pub reversed : Option Forest → Option Forest
reversed (some f) = some (rev f)
reversed none = none

abbrev pub or_else : Option Forest → Option Forest → Option Forest
or_else (some f) o = some f
or_else none o = o

abbrev pub c_node : Option Forest → Option Forest
c_node (some f) = some (node C (orient f) nil)
c_node none = none

-- The items as they stand, if they read: empty ones, at most one partial one, full ones.
abbrev pub up : List Part → Option Forest
up [] = some nil
up (p ∷ ps) = cond (is empty p.sort) (some (one p.item) ⊕ up ps) (p.linear ⊕ cond (every full ps) (some (whole ps)) none)

-- The same from the last item to the first: full ones, at most one partial one, empty ones.
abbrev pub down : List Part → Option Forest
down ps = reversed (up (reverse ps))

-- The items as they stand, if they read: empty ones, at most one partial one, full ones, at most one partial one, empty ones.
abbrev pub middle : List Part → Option Forest
middle [] = some nil
middle (p ∷ ps) = cond (is empty p.sort) (some (one p.item) ⊕ middle ps) (cond (every empty ps) (p.reduced ⊕ some (whole ps)) (p.linear ⊕ down ps))

-- A P-node's partial items: at most one, if the empty leaves are to stand before the full ones.
abbrev pub linear_partial : List Part → Option Forest
linear_partial [] = some nil
linear_partial (m ∷ []) = m.linear
linear_partial (m ∷ (n ∷ ms)) = none

-- A P-node's partial items and full items as one item: a P-node of the full ones (rule 3); the one partial item, reduced; or a new C-node,
-- with a partial item at an end or at both, and the full ones in one P-node (rule 4).
abbrev pub gather : List Part → List Part → Option Forest
gather [] gs = some (pack (whole gs))
gather (m ∷ []) [] = m.reduced
gather (m ∷ []) (g ∷ gs) = c_node (some (pack (whole (g ∷ gs))) ⊕ reversed m.linear)
gather (m ∷ (n ∷ [])) gs = c_node (m.linear ⊕ (some (pack (whole gs)) ⊕ reversed n.linear))
gather (m ∷ (n ∷ (o ∷ ms))) gs = none

-- That item among the empty ones.
abbrev pub among : Forest → Option Forest → Option Forest
among e (some t) = some (pack (put_sorted t e))
among e none = none

-- A partial node's two forms.
abbrev pub linear_node : Kind → List Part → Option Forest
linear_node P ps = some (pack (whole (only empty ps))) ⊕ (linear_partial (only partial ps) ⊕ some (pack (whole (only full ps))))
linear_node C ps = or_else (up ps) (up (reverse ps))

abbrev pub reduced_node : Kind → List Part → Option Forest
reduced_node P ps = among (whole (only empty ps)) (gather (only partial ps) (only full ps))
reduced_node C ps = c_node (middle ps)

-- Empty and full items stay as they are.
abbrev pub settled : Class → Item → Part
settled c t = record { item = t; sort = c; linear = some (one t); reduced = some (one t) }

abbrev pub node_part : Class → Kind → Forest → List Part → Part
node_part empty k i ps = settled empty (node_item k i)
node_part full k i ps = settled full (node_item k i)
node_part partial k i ps = record { item = node_item k i; sort = partial; linear = linear_node k ps; reduced = reduced_node k ps }

abbrev pub parts : Restriction → Forest → List Part
parts S nil = []
parts S (leaf b f) = settled (class S (b ∷ [])) (leaf_item b) ∷ parts S f
parts S (node k i f) = node_part (class S (frontier i)) k i (parts S i) ∷ parts S f

abbrev pub reduced_first : List Part → Option Forest
reduced_first [] = some nil
reduced_first (p ∷ ps) = p.reduced

-- The tree (one item) with the marked leaves consecutive; none: they cannot be.
unfoldable pub reduce : Restriction → Forest → Option Forest
reduce S t = reduced_first (parts S t)
