-- The judge: it labels each item with its state under a restriction, from the leaves up. A node's state is read off its items' states.
use Rattle.std.specs.Prelude.{Bool, true, false, cond, ◌||◌, List, [], ◌∷◌, ℕ, zero, suc}
use Rattle.spec_orders.specs.CircularOrder.{Restriction}
use Rattle.spec_orders.specs.Tree.{Kind, P, C, Forest, nil, leaf, node}
use Rattle.tree_tokens.specs.Tokens.{State, E, F, L, R, X, Judged, j_nil, j_leaf, j_node}

-- What a state promises: an order with the empty leaves before the full ones; one with the full leaves consecutive.
abbrev pub can_line : State → Bool
can_line E = true
can_line F = true
can_line L = true
can_line R = false
can_line X = false

abbrev pub can_reduce : State → Bool
can_reduce E = true
can_reduce F = true
can_reduce L = true
can_reduce R = true
can_reduce X = false

-- The items' states as a word. All are E; all are F.
abbrev pub all_empty : List State → Bool
all_empty [] = true
all_empty (E ∷ ss) = all_empty ss
all_empty (F ∷ ss) = false
all_empty (L ∷ ss) = false
all_empty (R ∷ ss) = false
all_empty (X ∷ ss) = false

abbrev pub all_full : List State → Bool
all_full [] = true
all_full (E ∷ ss) = false
all_full (F ∷ ss) = all_full ss
all_full (L ∷ ss) = false
all_full (R ∷ ss) = false
all_full (X ∷ ss) = false

-- A C-node's word reads E* L? F*; it reads F* L? E*; it reads E* L? F* L? E* or E* R E*.
abbrev pub rises : List State → Bool
rises [] = true
rises (E ∷ ss) = rises ss
rises (F ∷ ss) = all_full ss
rises (L ∷ ss) = all_full ss
rises (R ∷ ss) = false
rises (X ∷ ss) = false

abbrev pub falls : List State → Bool
falls [] = true
falls (E ∷ ss) = all_empty ss
falls (F ∷ ss) = falls ss
falls (L ∷ ss) = all_empty ss
falls (R ∷ ss) = false
falls (X ∷ ss) = false

abbrev pub peaks : List State → Bool
peaks [] = true
peaks (E ∷ ss) = peaks ss
peaks (F ∷ ss) = falls ss
peaks (L ∷ ss) = falls ss
peaks (R ∷ ss) = all_empty ss
peaks (X ∷ ss) = false

-- A P-node's word, in any sequence: E's, F's and at most n L's; at most two L's, E's and F's, or one R and E's.
abbrev pub few : ℕ → List State → Bool
few n [] = true
few n (E ∷ ss) = few n ss
few n (F ∷ ss) = few n ss
few zero (L ∷ ss) = false
few (suc n) (L ∷ ss) = few n ss
few n (R ∷ ss) = false
few n (X ∷ ss) = false

abbrev pub gathers : List State → Bool
gathers [] = true
gathers (E ∷ ss) = gathers ss
gathers (F ∷ ss) = few 2 ss
gathers (L ∷ ss) = few 1 ss
gathers (R ∷ ss) = all_empty ss
gathers (X ∷ ss) = false

-- A node whose items have these states has an order with the empty leaves before the full ones; one with the full leaves consecutive.
abbrev pub linear? : Kind → List State → Bool
linear? P ss = few 1 ss
linear? C ss = rises ss || falls ss

abbrev pub reduced? : Kind → List State → Bool
reduced? P ss = gathers ss
reduced? C ss = peaks ss

-- The node's state.
abbrev pub partial_state : Bool → Bool → State
partial_state true r = L
partial_state false true = R
partial_state false false = X

unfoldable pub node_state : Kind → List State → State
node_state k ss = cond (all_empty ss) E (cond (all_full ss) F (partial_state (linear? k ss) (reduced? k ss)))

abbrev pub leaf_state : Bool → State
leaf_state true = F
leaf_state false = E

abbrev pub states : Judged → List State
states j_nil = []
states (j_leaf s b j) = s ∷ states j
states (j_node s k i j) = s ∷ states j

unfoldable pub judge : Restriction → Forest → Judged
judge S nil = j_nil
judge S (leaf b f) = j_leaf (leaf_state (S b)) b (judge S f)
judge S (node k i f) = j_node (node_state k (states (judge S i))) k (judge S i) (judge S f)
