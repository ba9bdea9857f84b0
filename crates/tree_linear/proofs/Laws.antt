-- The line of an item by its shape and state, and the lines of all items, part by part.
use mathlib.Core.Option.{some}
use mathlib.Core.Path.{◌≡◌, refl, sym, ap, ◌∙◌}
use mathlib.Core.Bool.{Bool, true, false, not, beq, false≢true}
use mathlib.Core.Logic.{◌⊎◌, inl, inr}
use mathlib.Core.List.{List, [], ◌∷◌, ◌++◌, reverse, reverse-cons}
use Prim.Native.Nat.{ℕ, ◌+◌, ◌-◌, ◌%◌, ◌≤◌, ◌<◌}
use native.Mathlib.Omega.{arith}
use lib.ListN.{length, get_or, length-append}
use Rattle.spec_orders.specs.Tree.{Kind, P, C, Forest, nil, node, append}
use Rattle.spec_orders.specs.Reduce.{pack}
use Rattle.spec_orders.proofs.Laws.{forest_assoc, forest_nil}
use Rattle.tree_tokens.specs.Tokens.{State, E, F, L, R, X, number, Judged, j_nil, j_leaf, j_node, tree, encode, flat}
use Rattle.tree_tokens.specs.declared.ItemShape.TheVariants.{Leaf, CNode}
use Rattle.tree_tokens.specs.Views.{shape_of, state_of, first_of, items_of, rest_of}
use Rattle.tree_tokens.proofs.Sequences.{bare, bare_is}
use Rattle.tree_spans.specs.Spans.{is_not, passing, beyond}
use Rattle.tree_judge.specs.Judge.{rises}
use Rattle.tree_judge.specs.Total.{Total, states_of, whole_of, partial_of, linear_of, mirrored_of, total_by, totals}
use Rattle.tree_pieces.specs.Writers.{with_state, from_partial, in_line, first_in_line, all_in_line, near, far, p_in_line, c_in_line}
use Rattle.tree_pieces.proofs.Laws.{AtFirst, at_first, totals_none, flat_append}
use Rattle.tree_pieces.proofs.Walks.{passing-text}
use Rattle.tree_pieces.proofs.States.{not_state}
use Rattle.tree_pieces.proofs.Totals.{partial_from, partial_more, from_is, lines_is, mirrored_lines_is, p_linear_is, p_mirrored_is}

-- The states at the ends of a line are E and F.
pub near_small : (back : Bool) → near back ≤ 4
near_small false = omega arith
near_small true = omega arith

pub far_small : (back : Bool) → far back ≤ 4
far_small false = omega arith
far_small true = omega arith

-- An item that stays as it is: a leaf; a node whose state is not 2.
node_kept : (back : Bool) (s : State) (k : Kind) (i : Forest) (ts : List Total) → (number s ≡ 2 → ⊥) → in_line back (total_by s k i ts) ≡ node k i nil
unfolding total_by
node_kept false E k i ts h = refl
node_kept false F k i ts h = refl
node_kept false L k i ts h = absurd (h refl)
node_kept false R k i ts h = refl
node_kept false X k i ts h = refl
node_kept true E k i ts h = refl
node_kept true F k i ts h = refl
node_kept true L k i ts h = absurd (h refl)
node_kept true R k i ts h = refl
node_kept true X k i ts h = refl

line_leaf : (back : Bool) (j : Judged) → shape_of j ≡ some Leaf → flat (first_in_line back (totals j)) ≡ flat (tree (first_of j))
unfolding totals shape_of first_of
line_leaf back j_nil h = cc
line_leaf false (j_leaf s b j) h = refl
line_leaf true (j_leaf s b j) h = refl
line_leaf back (j_node s P i j) h = cc
line_leaf back (j_node s C i j) h = cc

leaf_bare : (j : Judged) → shape_of j ≡ some Leaf → flat (tree (first_of j)) ≡ bare (get_or (encode j) 0 0) ∷ []
unfolding encode shape_of first_of
leaf_bare j_nil h = cc
leaf_bare (j_leaf s b j) h = sym (bare_is (j_leaf s b j_nil))
leaf_bare (j_node s P i j) h = cc
leaf_bare (j_node s C i j) h = cc

pub line_token : (back : Bool) (j : Judged) {l : List ℕ} → l ≡ encode j → shape_of j ≡ some Leaf
    → flat (first_in_line back (totals j)) ≡ (get_or l 0 0 - get_or l 0 0 % 8) ∷ []
line_token back j e h = line_leaf back j h ∙ rw e (leaf_bare j h)

pub line_kept : (back : Bool) (j : Judged) → (number (state_of j) ≡ 2 → ⊥) → flat (first_in_line back (totals j)) ≡ flat (tree (first_of j))
unfolding totals state_of first_of
line_kept back j_nil h = refl
line_kept false (j_leaf s b j) h = refl
line_kept true (j_leaf s b j) h = refl
line_kept back (j_node s k i j) h = ap flat (node_kept back s k (tree i) (totals i) h)

-- An item that is taken apart: a C-node of state 2; a P-node.
node_c : (back : Bool) (s : State) (i : Forest) (ts : List Total) → number s ≡ 2 → in_line back (total_by s C i ts) ≡ c_in_line back ts
unfolding total_by c_in_line
node_c back E i ts h = absurd (omega arith)
node_c back F i ts h = absurd (omega arith)
node_c false L i ts h = refl
node_c true L i ts h = refl
node_c back R i ts h = absurd (omega arith)
node_c back X i ts h = absurd (omega arith)

node_p : (back : Bool) (s : State) (i : Forest) (ts : List Total) → number s ≡ 2 → in_line back (total_by s P i ts) ≡ p_in_line back ts
unfolding total_by
node_p back E i ts h = absurd (omega arith)
node_p back F i ts h = absurd (omega arith)
node_p false L i ts h = sym (p_linear_is ts)
node_p true L i ts h = sym (p_mirrored_is ts)
node_p back R i ts h = absurd (omega arith)
node_p back X i ts h = absurd (omega arith)

pub line_of_c : (back : Bool) (j : Judged) → shape_of j ≡ some CNode → number (state_of j) ≡ 2
    → first_in_line back (totals j) ≡ c_in_line back (totals (items_of j))
unfolding totals shape_of state_of items_of
line_of_c back j_nil h q = cc
line_of_c back (j_leaf s b j) h q = cc
line_of_c back (j_node s P i j) h q = cc
line_of_c back (j_node s C i j) h q = node_c back s (tree i) (totals i) q

pub line_of_p : (back : Bool) (j : Judged) → (shape_of j ≡ some Leaf → ⊥) → (shape_of j ≡ some CNode → ⊥) → number (state_of j) ≡ 2
    → first_in_line back (totals j) ≡ p_in_line back (totals (items_of j))
unfolding totals shape_of state_of items_of
line_of_p back j_nil h g q = absurd (omega arith)
line_of_p back (j_leaf s b j) h g q = absurd (h refl)
line_of_p back (j_node s P i j) h g q = node_p back s (tree i) (totals i) q
line_of_p back (j_node s C i j) h g q = absurd (g refl)

-- The lines of all items, forwards and backwards: the first item's, and those of the others.
pub lines_split : (back : Bool) {j : Judged} → AtFirst j
    → flat (all_in_line back (totals j)) ≡ flat (first_in_line back (totals j)) ++ flat (all_in_line back (totals (rest_of j)))
lines_split back {j} a = rw a.split (flat_append (in_line back a.head) (all_in_line back (totals (rest_of j))))

all_append : (back : Bool) (ts us : List Total) → all_in_line back (ts ++ us) ≡ append (all_in_line back ts) (all_in_line back us)
all_append back [] us = refl
all_append back (t ∷ ts) us = rw (all_append back ts us) (sym (forest_assoc (in_line back t) (all_in_line back ts) (all_in_line back us)))

all_reverse : (back : Bool) (t : Total) (ts : List Total) → all_in_line back (reverse (t ∷ ts)) ≡ append (all_in_line back (reverse ts)) (in_line back t)
all_reverse back t ts =
    ap (all_in_line back) (reverse-cons t ts)
    ∙ all_append back (reverse ts) (t ∷ [])
    ∙ ap (append (all_in_line back (reverse ts))) (forest_nil (in_line back t))

pub lines_back_split : (back : Bool) {j : Judged} → AtFirst j
    → flat (all_in_line back (reverse (totals j))) ≡ flat (all_in_line back (reverse (totals (rest_of j)))) ++ flat (first_in_line back (totals j))
lines_back_split back {j} a =
    let ts = totals (rest_of j) in
    rw a.split (ap flat (all_reverse back a.head ts) ∙ flat_append (all_in_line back (reverse ts)) (in_line back a.head))

pub lines-length : (back : Bool) {j : Judged} → AtFirst j → length (flat (all_in_line back (totals j)))
    ≡ length (flat (first_in_line back (totals j))) + length (flat (all_in_line back (totals (rest_of j))))
lines-length back {j} a =
    ap length (lines_split back a) ∙ length-append (flat (first_in_line back (totals j))) (flat (all_in_line back (totals (rest_of j))))

-- Items in other states than L stand as they are.
pub lines_until : (back : Bool) (j : Judged)
    → flat (all_in_line back (totals j)) ≡ flat (tree (passing (is_not 2) j)) ++ flat (all_in_line back (totals (beyond (is_not 2) j)))
lines_until back = passing-text (is_not 2) (λ j. flat (all_in_line back (totals j)))
    (λ k h t. lines_split back (at_first k h) ∙ ap (λ (l : List ℕ). l ++ flat (all_in_line back (totals (rest_of k)))) (line_kept back k (not_state t)))

pub lines_back_length : (back : Bool) {j : Judged} → AtFirst j → length (flat (all_in_line back (reverse (totals j))))
    ≡ length (flat (all_in_line back (reverse (totals (rest_of j))))) + length (flat (first_in_line back (totals j)))
lines_back_length back {j} a =
    ap length (lines_back_split back a)
    ∙ length-append (flat (all_in_line back (reverse (totals (rest_of j))))) (flat (first_in_line back (totals j)))

-- The two directions of a C-node's items; r is whether they rise.
turned : (back : Bool) (ts : List Total) → rises (states_of ts) ≡ back → c_in_line back ts ≡ all_in_line back (reverse ts)
unfolding c_in_line linear_of mirrored_of
turned false ts e = rw e (sym (lines_is (reverse ts)))
turned true ts e = rw e (sym (mirrored_lines_is (reverse ts)))

kept : (back : Bool) (ts : List Total) → rises (states_of ts) ≡ not back → c_in_line back ts ≡ all_in_line back ts
unfolding c_in_line linear_of mirrored_of
kept false ts e = rw e (sym (lines_is ts))
kept true ts e = rw e (sym (mirrored_lines_is ts))

same : (r b : Bool) → beq r b ≡ true → r ≡ b
same false false e = refl
same false true e = absurd (false≢true e)
same true false e = absurd (false≢true e)
same true true e = refl

differ : (r b : Bool) → beq r b ≡ false → r ≡ not b
differ false false e = absurd (false≢true (sym e))
differ false true e = refl
differ true false e = refl
differ true true e = absurd (false≢true (sym e))

pub c_turned : (back : Bool) (ts : List Total) {r : Bool} → r ≡ rises (states_of ts) → beq r back ≡ true
    → c_in_line back ts ≡ all_in_line back (reverse ts)
c_turned back ts {r} e h = turned back ts (sym e ∙ same r back h)

pub c_kept : (back : Bool) (ts : List Total) {r : Bool} → r ≡ rises (states_of ts) → beq r back ≡ false
    → c_in_line back ts ≡ all_in_line back ts
c_kept back ts {r} e h = kept back ts (sym e ∙ differ r back h)

pub line_turned : (back : Bool) (j : Judged) {r : Bool} → shape_of j ≡ some CNode → number (state_of j) ≡ 2 → r ≡ rises (states_of (totals (items_of j)))
    → beq r back ≡ true → first_in_line back (totals j) ≡ all_in_line back (reverse (totals (items_of j)))
line_turned back j s q e h = line_of_c back j s q ∙ c_turned back (totals (items_of j)) e h

-- The parts of a P-node's line.
state_some : (j : Judged) → 2 ≤ number (state_of j) → 0 < length (encode j)
unfolding state_of encode
state_some j_nil h = absurd (omega arith)
state_some (j_leaf s b j) h = omega arith
state_some (j_node s k i j) h = omega arith

pub partial_first : (back : Bool) (j : Judged) → first_in_line back (partial_of (totals j)) ≡ first_in_line back (totals (from_partial j))
partial_first back j = go (from_is j)
  where
    go : (from_partial j ≡ j_nil) ⊎ (2 ≤ number (state_of (from_partial j))) → first_in_line back (partial_of (totals j)) ≡ first_in_line back (totals (from_partial j))
    go (inl e) = ap (first_in_line back) (sym (partial_from j)) ∙ rw (e, totals_none)
    go (inr h) =
        let a = at_first (from_partial j) (state_some (from_partial j) h) in
        ap (first_in_line back) (partial_more j a) ∙ sym (ap (first_in_line back) a.split)

pub p_split : (back : Bool) (j : Judged) {m n : ℕ} → m ≡ near back → n ≡ far back
    → flat (p_in_line back (totals j))
    ≡ (flat (pack (whole_of (with_state m (totals j)))) ++ flat (first_in_line back (totals (from_partial j))))
    ++ flat (pack (whole_of (with_state n (totals j))))
unfolding p_in_line
p_split back j {m} {n} d e =
    let f = pack (whole_of (with_state m (totals j))) in
    let g = first_in_line back (partial_of (totals j)) in
    let h = pack (whole_of (with_state n (totals j))) in
    rw (← d, ← e) (ap flat (sym (forest_assoc f g h)) ∙ flat_append (append f g) h
    ∙ ap (λ (l : List ℕ). l ++ flat h) (flat_append f g ∙ ap (λ (k : Forest). flat f ++ flat k) (partial_first back j)))

pub p_length : (back : Bool) (j : Judged) {m n : ℕ} → m ≡ near back → n ≡ far back
    → length (flat (p_in_line back (totals j)))
    ≡ length (flat (pack (whole_of (with_state m (totals j))))) + length (flat (first_in_line back (totals (from_partial j))))
    + length (flat (pack (whole_of (with_state n (totals j)))))
p_length back j {m} {n} d e =
    let f = flat (pack (whole_of (with_state m (totals j)))) in
    let g = flat (first_in_line back (totals (from_partial j))) in
    let h = flat (pack (whole_of (with_state n (totals j)))) in
    omega (arith, ap length (p_split back j d e), length-append (f ++ g) h, length-append f g)
