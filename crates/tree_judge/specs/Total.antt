-- The update without failure: what the writers write for each item, by the labels, whether or not its state promises it.
use Rattle.std.specs.Prelude.{Bool, true, false, cond, List, [], ◌∷◌, reverse, eqb, leb}
use Rattle.std.proofs.Math.Option.{Option, none, some}
use Rattle.spec_orders.specs.Lists.{those_of}
use Rattle.spec_orders.specs.Tree.{Kind, P, C, Forest, nil, node, Item, leaf_item, node_item, append}
use Rattle.spec_orders.specs.Reduce.{put, one, put_sorted, orient, pack}
use Rattle.tree_tokens.specs.Tokens.{State, E, F, L, R, X, number, Judged, j_nil, j_leaf, j_node, tree}
use Rattle.tree_judge.specs.Judge.{all_empty, rises}

-- An item with its state and what takes its place. `linear`: items with the empty leaves before the full ones; `mirrored`: the same in the
-- other direction, the full leaves first; `reduced`: one item with its full leaves consecutive.
pub record Total : Type 0 where
  pub item : Item
  pub state : State
  pub linear : Forest
  pub mirrored : Forest
  pub reduced : Forest

-- The states; the items as they are; those of one state (E or F); the partial ones.
abbrev pub states_of : List Total → List State
states_of [] = []
states_of (t ∷ ts) = t.state ∷ states_of ts

abbrev pub whole_of : List Total → Forest
whole_of [] = nil
whole_of (t ∷ ts) = put t.item (whole_of ts)

abbrev pub only_of : State → List Total → List Total
only_of s ts = those_of (λ t. eqb (number t.state) (number s)) ts

abbrev pub partial_of : List Total → List Total
partial_of ts = those_of (λ t. leb 2 (number t.state)) ts

-- The items of one state, as at most one item.
unfoldable pub pack_of : State → List Total → Forest
pack_of s ts = pack (whole_of (only_of s ts))

-- What takes the place of the first item.
abbrev pub first_linear : List Total → Forest
first_linear [] = nil
first_linear (t ∷ ts) = t.linear

abbrev pub first_mirrored : List Total → Forest
first_mirrored [] = nil
first_mirrored (t ∷ ts) = t.mirrored

abbrev pub first_reduced : List Total → Forest
first_reduced [] = nil
first_reduced (t ∷ ts) = t.reduced

-- The linear forms of all items, one after the other; their mirrored forms.
abbrev pub lines : List Total → Forest
lines [] = nil
lines (t ∷ ts) = append t.linear (lines ts)

abbrev pub mirrored_lines : List Total → Forest
mirrored_lines [] = nil
mirrored_lines (t ∷ ts) = append t.mirrored (mirrored_lines ts)

-- A node's linear form, from its items; its mirrored form.
unfoldable pub linear_of : Kind → List Total → Forest
linear_of P ts = append (pack_of E ts) (append (first_linear (partial_of ts)) (pack_of F ts))
linear_of C ts = cond (rises (states_of ts)) (lines ts) (lines (reverse ts))

unfoldable pub mirrored_of : Kind → List Total → Forest
mirrored_of P ts = append (pack_of F ts) (append (first_mirrored (partial_of ts)) (pack_of E ts))
mirrored_of C ts = cond (rises (states_of ts)) (mirrored_lines (reverse ts)) (mirrored_lines ts)

-- A C-node of the items, in the direction of the published form.
unfoldable pub c_node_of : Forest → Forest
c_node_of f = node C (orient f) nil

-- A C-node's items with the full leaves consecutive: E items as they are, up to the first other one; that one reduced, if only E items
-- follow it, and else its linear form and the mirrored forms of those that follow.
unfoldable pub middle_of : List Total → Forest
middle_of [] = nil
middle_of (t ∷ ts) = cond (eqb (number t.state) 0) (append (one t.item) (middle_of ts))
    (cond (all_empty (states_of ts)) (append t.reduced (whole_of ts)) (append t.linear (mirrored_lines ts)))

-- A P-node's partial items and full items as one item.
unfoldable pub gather_of : List Total → List Total → Forest
gather_of [] gs = pack (whole_of gs)
gather_of (m ∷ []) [] = m.reduced
gather_of (m ∷ []) (g ∷ gs) = c_node_of (append (pack (whole_of (g ∷ gs))) m.mirrored)
gather_of (m ∷ (n ∷ ms)) gs = c_node_of (append m.linear (append (pack (whole_of gs)) n.mirrored))

-- A node's reduced form, from its items.
unfoldable pub reduced_of : Kind → List Total → Forest
reduced_of P ts = pack (put_sorted (gather_of (partial_of ts) (only_of F ts)) (whole_of (only_of E ts)))
reduced_of C ts = c_node_of (middle_of ts)

-- An item that stays as it is. A leaf does, and a node in the forms that its state does not promise.
abbrev pub unchanged : State → Item → Total
unchanged s t = record { item = t; state = s; linear = one t; mirrored = one t; reduced = one t }

unfoldable pub total_by : State → Kind → Forest → List Total → Total
total_by E k i ts = unchanged E (node_item k i)
total_by F k i ts = unchanged F (node_item k i)
total_by L k i ts = record { item = node_item k i; state = L; linear = linear_of k ts; mirrored = mirrored_of k ts; reduced = reduced_of k ts }
total_by R k i ts = record { item = node_item k i; state = R; linear = one (node_item k i); mirrored = one (node_item k i); reduced = reduced_of k ts }
total_by X k i ts = record { item = node_item k i; state = X; linear = one (node_item k i); mirrored = one (node_item k i); reduced = reduced_of k ts }

unfoldable pub totals : Judged → List Total
totals j_nil = []
totals (j_leaf s b j) = unchanged s (leaf_item b) ∷ totals j
totals (j_node s k i j) = total_by s k (tree i) (totals i) ∷ totals j

-- The result, if a test says that there is one.
abbrev pub when : Bool → Forest → Option Forest
when true f = some f
when false f = none
