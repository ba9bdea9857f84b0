-- The first item of a sequence, read off its tokens.
use mathlib.Core.Path.{◌≡◌, refl, sym, ap, ◌∙◌}
use mathlib.Core.Option.{Option, some, some-injective}
use mathlib.Core.Logic.{◌⊎◌, inl, inr}
use mathlib.Core.List.{List, ◌∷◌, ◌++◌, append-nil}
use Prim.Native.Nat.{ℕ, zero, suc, ◌+◌, ◌-◌, ◌/◌, ◌%◌, ◌≤◌, ◌<◌}
use native.Mathlib.Omega.{arith}
use lib.ListN.{length, take, drop, get_or, length-append}
use lib.Seq.{take-append_seam, drop-append_seam, take-take, drop-drop}
use Rattle.spec_orders.specs.Tree.{Kind, P, C}
use Rattle.spec_orders.proofs.ListLaws.{drop_taken, part_to_end}
use Rattle.tree_tokens.specs.Tokens.{State, E, F, L, R, X, number, Judged, j_nil, j_leaf, j_node, leaf_token, node_token, encode}
use Rattle.tree_tokens.specs.declared.ItemShape.{ItemShape}
use Rattle.tree_tokens.specs.declared.ItemShape.TheVariants.{Leaf, PNode, CNode}
use Rattle.tree_tokens.specs.Views.{shape_of, state_of, leaf_of, first_of, items_of, rest_of}

-- A token's parts.
pub number_small : (s : State) → number s ≤ 4
number_small E = omega arith
number_small F = omega arith
number_small L = omega arith
number_small R = omega arith
number_small X = omega arith

-- A state's number says which it is.
abbrev as_state : ℕ → State
as_state zero = E
as_state (suc zero) = F
as_state (suc (suc zero)) = L
as_state (suc (suc (suc zero))) = R
as_state (suc (suc (suc (suc n)))) = X

state_back : (s : State) → as_state (number s) ≡ s
state_back E = refl
state_back F = refl
state_back L = refl
state_back R = refl
state_back X = refl

pub number_injective : (s r : State) → number s ≡ number r → s ≡ r
number_injective s r e = sym (state_back s) ∙ ap as_state e ∙ state_back r

pub leaf_state : (s : State) (b : ℕ) → leaf_token s b % 8 ≡ number s
unfolding leaf_token
leaf_state s b = omega (arith, number_small s)

pub node_state : (s : State) (k : Kind) (m : ℕ) → node_token s k m % 8 ≡ number s
unfolding node_token
node_state s P m = omega (arith, number_small s)
node_state s C m = omega (arith, number_small s)

pub leaf_even : (s : State) (b : ℕ) → leaf_token s b / 8 % 2 ≡ 0
unfolding leaf_token
leaf_even s b = omega (arith, number_small s)

pub leaf_number : (s : State) (b : ℕ) → leaf_token s b / 16 ≡ b
unfolding leaf_token
leaf_number s b = omega (arith, number_small s)

pub node_odd : (s : State) (k : Kind) (m : ℕ) → node_token s k m / 8 % 2 ≡ 1
unfolding node_token
node_odd s P m = omega (arith, number_small s)
node_odd s C m = omega (arith, number_small s)

pub node_size : (s : State) (k : Kind) (m : ℕ) → node_token s k m / 8 / 4 ≡ m
unfolding node_token
node_size s P m = omega (arith, number_small s)
node_size s C m = omega (arith, number_small s)

-- No tokens: no items.
pub at_end : (j : Judged) {l : List ℕ} → l ≡ encode j → length l ≡ 0 → j ≡ j_nil
unfolding encode
at_end j_nil e h = refl
at_end (j_leaf s b j) e h = absurd (omega (arith, ap length e))
at_end (j_node s k i j) e h = absurd (omega (arith, ap length e))

-- The tokens of the first item, then those of the others.
pub encode_split : (j : Judged) → encode j ≡ encode (first_of j) ++ encode (rest_of j)
unfolding encode first_of rest_of
encode_split j_nil = refl
encode_split (j_leaf s b j) = refl
encode_split (j_node s k i j) = ap (λ (l : List ℕ). node_token s k (length (encode i)) ∷ (l ++ encode j)) (sym (append-nil (encode i)))

pub sizes : (j : Judged) {l : List ℕ} → l ≡ encode j → length (encode (first_of j)) + length (encode (rest_of j)) ≡ length l
sizes j e = omega (arith, ap length e, ap length (encode_split j), length-append (encode (first_of j)) (encode (rest_of j)))

-- What code read is the shape.
pub shape_read : {x : Option ItemShape} {s r : ItemShape} → some s ≡ x → x ≡ some r → s ≡ r
shape_read {s = s} {r} e h = some-injective s r (e ∙ h)

module _ {l : List ℕ} {s r : ItemShape} (shape : (j : Judged) → l ≡ encode j → some s ≡ shape_of j) where
  pub shape_yes : s ≡ r → (j : Judged) → l ≡ encode j → shape_of j ≡ some r
  shape_yes q j e = sym (shape j e) ∙ ap some q

  pub shape_no : (s ≡ r → ⊥) → (j : Judged) → l ≡ encode j → shape_of j ≡ some r → ⊥
  shape_no n j e h = n (shape_read (shape j e) h)

-- The sequence, by the shape of its first item.
pub is_leaf : (j : Judged) → shape_of j ≡ some Leaf → j ≡ j_leaf (state_of j) (leaf_of j) (rest_of j)
unfolding shape_of state_of leaf_of rest_of
is_leaf j_nil h = cc
is_leaf (j_leaf s b j) h = refl
is_leaf (j_node s P i j) h = cc
is_leaf (j_node s C i j) h = cc

pub is_p : (j : Judged) → shape_of j ≡ some PNode → j ≡ j_node (state_of j) P (items_of j) (rest_of j)
unfolding shape_of state_of items_of rest_of
is_p j_nil h = cc
is_p (j_leaf s b j) h = cc
is_p (j_node s P i j) h = refl
is_p (j_node s C i j) h = cc

pub is_c : (j : Judged) → shape_of j ≡ some CNode → j ≡ j_node (state_of j) C (items_of j) (rest_of j)
unfolding shape_of state_of items_of rest_of
is_c j_nil h = cc
is_c (j_leaf s b j) h = cc
is_c (j_node s P i j) h = cc
is_c (j_node s C i j) h = refl

-- It is a C-node, or not.
pub c_or_not : (j : Judged) → (shape_of j ≡ some CNode) ⊎ (shape_of j ≡ some CNode → ⊥)
unfolding shape_of
c_or_not j_nil = inr (λ h. cc)
c_or_not (j_leaf s b j) = inr (λ h. cc)
c_or_not (j_node s P i j) = inr (λ h. cc)
c_or_not (j_node s C i j) = inl refl

pub third_shape : (j : Judged) → 0 < length (encode j) → (shape_of j ≡ some Leaf → ⊥) → (shape_of j ≡ some PNode → ⊥) → shape_of j ≡ some CNode
unfolding encode shape_of
third_shape j_nil ne h g = absurd (omega arith)
third_shape (j_leaf s b j) ne h g = absurd (h refl)
third_shape (j_node s P i j) ne h g = absurd (g refl)
third_shape (j_node s C i j) ne h g = refl

-- What is seen of the first item alone.
pub shape-first : (j : Judged) → shape_of (first_of j) ≡ shape_of j
unfolding shape_of first_of
shape-first j_nil = refl
shape-first (j_leaf s b j) = refl
shape-first (j_node s P i j) = refl
shape-first (j_node s C i j) = refl

pub state-first : (j : Judged) → state_of (first_of j) ≡ state_of j
unfolding state_of first_of
state-first j_nil = refl
state-first (j_leaf s b j) = refl
state-first (j_node s k i j) = refl

pub items-first : (j : Judged) → items_of (first_of j) ≡ items_of j
unfolding items_of first_of
items-first j_nil = refl
items-first (j_leaf s b j) = refl
items-first (j_node s k i j) = refl

-- The tokens of one item.
pub encode_node : (s : State) (k : Kind) (i : Judged) → encode (j_node s k i j_nil) ≡ node_token s k (length (encode i)) ∷ encode i
unfolding encode
encode_node s k i = ap (λ (l : List ℕ). node_token s k (length (encode i)) ∷ l) (append-nil (encode i))

-- What a test of the first token says.
shape_is : (j : Judged) → 0 < length (encode j) → get_or (encode j) 0 0 / 8 % 2 ≡ 0 → some Leaf ≡ shape_of j
unfolding encode shape_of
shape_is j_nil ne h = absurd (omega arith)
shape_is (j_leaf s b j) ne h = refl
shape_is (j_node s k i j) ne h = absurd (omega (arith, node_odd s k (length (encode i))))

pub shape_leaf : (j : Judged) {l : List ℕ} → l ≡ encode j → 0 < length l → get_or l 0 0 / 8 % 2 ≡ 0 → some Leaf ≡ shape_of j
shape_leaf j e ne h = shape_is j (rw e at ne) (rw e at h)

shape_is_p : (j : Judged) → 0 < length (encode j) → get_or (encode j) 0 0 / 8 % 4 ≡ 1 → some PNode ≡ shape_of j
unfolding encode shape_of node_token
shape_is_p j_nil ne h = absurd (omega arith)
shape_is_p (j_leaf s b j) ne h = absurd (omega (arith, leaf_even s b))
shape_is_p (j_node s P i j) ne h = refl
shape_is_p (j_node s C i j) ne h = absurd (omega (arith, number_small s))

pub shape_p : (j : Judged) {l : List ℕ} → l ≡ encode j → 0 < length l → get_or l 0 0 / 8 % 4 ≡ 1 → some PNode ≡ shape_of j
shape_p j e ne h = shape_is_p j (rw e at ne) (rw e at h)

shape_is_c : (j : Judged) → 0 < length (encode j) → (get_or (encode j) 0 0 / 8 % 2 ≡ 0 → ⊥) → (get_or (encode j) 0 0 / 8 % 4 ≡ 1 → ⊥) → some CNode ≡ shape_of j
unfolding encode shape_of node_token
shape_is_c j_nil ne h g = absurd (omega arith)
shape_is_c (j_leaf s b j) ne h g = absurd (h (leaf_even s b))
shape_is_c (j_node s P i j) ne h g = absurd (g (omega (arith, number_small s)))
shape_is_c (j_node s C i j) ne h g = refl

pub shape_c : (j : Judged) {l : List ℕ} → l ≡ encode j → 0 < length l → (get_or l 0 0 / 8 % 2 ≡ 0 → ⊥) → (get_or l 0 0 / 8 % 4 ≡ 1 → ⊥) → some CNode ≡ shape_of j
shape_c j e ne h g = shape_is_c j (rw e at ne) (rw e at h) (rw e at g)

state_is : (j : Judged) → 0 < length (encode j) → get_or (encode j) 0 0 % 8 ≡ number (state_of j)
unfolding encode state_of
state_is j_nil ne = absurd (omega arith)
state_is (j_leaf s b j) ne = leaf_state s b
state_is (j_node s k i j) ne = node_state s k (length (encode i))

pub first_state : (j : Judged) {l : List ℕ} → l ≡ encode j → 0 < length l → get_or l 0 0 % 8 ≡ number (state_of j)
first_state j e ne = rw e (state_is j (rw e at ne))

leaf_is : (j : Judged) → shape_of j ≡ some Leaf → get_or (encode j) 0 0 / 16 ≡ leaf_of j
unfolding encode shape_of leaf_of
leaf_is j_nil h = cc
leaf_is (j_leaf s b j) h = leaf_number s b
leaf_is (j_node s P i j) h = cc
leaf_is (j_node s C i j) h = cc

pub first_leaf_is : (j : Judged) {l : List ℕ} → l ≡ encode j → shape_of j ≡ some Leaf → get_or l 0 0 / 16 ≡ leaf_of j
first_leaf_is j e h = rw e (leaf_is j h)

size_is_1 : (j : Judged) → 0 < length (encode j) → get_or (encode j) 0 0 / 8 % 2 ≡ 0 → 1 ≡ length (encode (first_of j))
unfolding encode first_of
size_is_1 j_nil ne h = absurd (omega arith)
size_is_1 (j_leaf s b j) ne h = refl
size_is_1 (j_node s k i j) ne h = absurd (omega (arith, node_odd s k (length (encode i))))

pub size_leaf : (j : Judged) {l : List ℕ} → l ≡ encode j → 0 < length l → get_or l 0 0 / 8 % 2 ≡ 0 → 1 ≡ length (encode (first_of j))
size_leaf j e ne h = size_is_1 j (rw e at ne) (rw e at h)

size_is : (j : Judged) → 0 < length (encode j) → (get_or (encode j) 0 0 / 8 % 2 ≡ 0 → ⊥) → get_or (encode j) 0 0 / 8 / 4 + 1 ≡ length (encode (first_of j))
unfolding encode first_of
size_is j_nil ne h = absurd (omega arith)
size_is (j_leaf s b j) ne h = absurd (h (leaf_even s b))
size_is (j_node s k i j) ne h = omega (arith, node_size s k (length (encode i)), ap length (append-nil (encode i)))

pub size_node : (j : Judged) {l : List ℕ} → l ≡ encode j → 0 < length l → (get_or l 0 0 / 8 % 2 ≡ 0 → ⊥) → get_or l 0 0 / 8 / 4 + 1 ≡ length (encode (first_of j))
size_node j e ne h = rw e (size_is j (rw e at ne) (rw e at h))

-- The parts of a slice that hold the first item, its items, and the items after it; m is the first item's size.
pub part_first : (j : Judged) {l : List ℕ} {m : ℕ} → l ≡ encode j → m ≡ length (encode (first_of j)) → take (m - 0) (drop 0 l) ≡ encode (first_of j)
part_first j {l} {m} e h =
    let n : m - 0 ≡ length (encode (first_of j)) = omega arith in
    rw (n, e, encode_split j) (take-append_seam (encode (first_of j)) (encode (rest_of j)))

items_are : (j : Judged) → take (length (encode (first_of j)) - 1) (drop 1 (encode j)) ≡ encode (items_of j)
unfolding encode first_of items_of
items_are j_nil = refl
items_are (j_leaf s b j) = refl
items_are (j_node s k i j) =
    let n : length (encode (first_of (j_node s k i j))) - 1 ≡ length (encode i) = omega (arith, ap length (append-nil (encode i))) in
    ap (λ (m : ℕ). take m (encode i ++ encode j)) n ∙ take-append_seam (encode i) (encode j)

pub part_items : (j : Judged) {l : List ℕ} {m : ℕ} → l ≡ encode j → m ≡ length (encode (first_of j)) → take (m - 1) (drop 1 l) ≡ encode (items_of j)
part_items j e h = rw (e, h) (items_are j)

-- The first item's items, where it has m tokens, of those that stand from index i to e.
pub items_left : (x : List ℕ) (i e m : ℕ) (h : Judged) → 0 < m → m ≤ e - i → take (e - i) (drop i x) ≡ encode h → m ≡ length (encode (first_of h))
    → take (i + m - (i + 1)) (drop (i + 1) x) ≡ encode (items_of h)
items_left x i e m h n l p s =
    let size : i + m - (i + 1) ≡ m - 1 = omega arith in
    rw (size, ← drop-drop 1 i x)
    (sym (ap (take (m - 1)) (drop_taken 1 (e - i) (drop i x)) ∙ take-take (m - 1) (e - i - 1) (drop 1 (drop i x)) (omega arith)) ∙ part_items h p s)

-- The rest.
pub part_rest : (j : Judged) {l : List ℕ} {m : ℕ} → l ≡ encode j → m ≡ length (encode (first_of j)) → take (length l - m) (drop m l) ≡ encode (rest_of j)
part_rest j {l} {m} e h = part_to_end l m ∙ rw (h, e, encode_split j) (drop-append_seam (encode (first_of j)) (encode (rest_of j)))
