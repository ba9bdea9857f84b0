-- What the update's functions read and write, over the items of a judged sequence.
use Rattle.std.specs.Prelude.{◌≡◌, Bool, true, false, cond, List, [], ◌∷◌, ℕ, ◌≤◌, eqb, leb, length}
use Rattle.spec_orders.specs.Tree.{C, Forest, nil, append}
use Rattle.spec_orders.specs.Reduce.{pack}
use Rattle.tree_tokens.specs.Tokens.{number, Judged, j_nil, j_leaf, j_node, encode, flat}
use Rattle.tree_judge.specs.Total.{Total, whole_of, partial_of, linear_of, mirrored_of, gather_of, totals}

-- The tokens are those of some sequence, and there is room for the tree that f gives of it.
abbrev pub Fits : (List Total → Forest) → List ℕ → List ℕ → Type 0
Fits f toks out = (j : Judged) × (toks ≡ encode j) × (length (flat (f (totals j))) ≤ length out)

-- The items whose state has this number.
abbrev pub with_state : ℕ → List Total → List Total
with_state s [] = []
with_state s (t ∷ ts) = cond (eqb (number t.state) s) (t ∷ with_state s ts) (with_state s ts)

abbrev pub all_with_state : ℕ → List Total → Bool
all_with_state s [] = true
all_with_state s (t ∷ ts) = cond (eqb (number t.state) s) (all_with_state s ts) false

-- The items from the first partial one on.
unfoldable pub from_partial : Judged → Judged
from_partial j_nil = j_nil
from_partial (j_leaf s b j) = cond (leb 2 (number s)) (j_leaf s b j) (from_partial j)
from_partial (j_node s k i j) = cond (leb 2 (number s)) (j_node s k i j) (from_partial j)

-- What takes an item's place in a line: the empty leaves first, or under `back` the full leaves first. The first item's; those of all items.
abbrev pub in_line : Bool → Total → Forest
in_line false t = t.linear
in_line true t = t.mirrored

abbrev pub first_in_line : Bool → List Total → Forest
first_in_line back [] = nil
first_in_line back (t ∷ ts) = in_line back t

abbrev pub all_in_line : Bool → List Total → Forest
all_in_line back [] = nil
all_in_line back (t ∷ ts) = append (in_line back t) (all_in_line back ts)

-- The number of the state that comes first in a line: E, or under `back` F; and of the one that comes last.
abbrev pub near : Bool → ℕ
near false = 0
near true = 1

abbrev pub far : Bool → ℕ
far false = 1
far true = 0

-- A P-node in a line, from its items; a C-node.
unfoldable pub p_in_line : Bool → List Total → Forest
p_in_line back ts =
    append (pack (whole_of (with_state (near back) ts))) (append (first_in_line back (partial_of ts)) (pack (whole_of (with_state (far back) ts))))

unfoldable pub c_in_line : Bool → List Total → Forest
c_in_line false ts = linear_of C ts
c_in_line true ts = mirrored_of C ts

-- A P-node's partial and full items as one item.
unfoldable pub gathered : List Total → Forest
gathered ts = gather_of (partial_of ts) (with_state 1 ts)

-- There is room in both.
abbrev pub FitsBoth : (List Total → Forest) → List ℕ → List ℕ → List ℕ → Type 0
FitsBoth f toks out tmp = (j : Judged) × (toks ≡ encode j) × (length (flat (f (totals j))) ≤ length out) × (length (flat (f (totals j))) ≤ length tmp)
