-- What code sees of an item that stays.
use mathlib.Core.Logic.{inl, inr}
use mathlib.Core.Option.{some}
use mathlib.Core.Path.{◌≡◌, refl, sym, ap, ◌∙◌}
use mathlib.Core.Bool.{Bool, true, false, cond}
use mathlib.Core.List.{List}
use Prim.Native.Nat.{ℕ, ◌≤◌, ◌<◌}
use native.Mathlib.Omega.{arith}
use borrow.Author.Tests.{lt-ltb, le-ltb}
use lib.Dec.{eqb}
use lib.ListN.{length}
use Rattle.spec_orders.specs.Tree.{Kind, P, C}
use Rattle.tree_tokens.specs.Tokens.{number, Judged, j_nil, j_leaf, j_node, encode}
use Rattle.tree_tokens.specs.declared.ItemShape.TheVariants.{CNode}
use Rattle.tree_tokens.proofs.Laws.{c_or_not}
use Rattle.tree_tokens.specs.Views.{shape_of, state_of, items_of, rest_of}
use Rattle.tree_spans.specs.Spans.{is, beyond, Parted}
use Rattle.tree_spans.proofs.Laws.{beyond-same, beyond_stops}
use Rattle.tree_judge.specs.Total.{totals}
use Rattle.tree_pieces.specs.Writers.{all_with_state, from_partial}
use Rattle.tree_pieces.proofs.States.{none_beyond, some_beyond}
use Rattle.tree_stays.specs.Stays.{unmixed, stays_in, stays}

-- An empty or full item does.
pub stays-whole : (j : Judged) → number (state_of j) < 2 → true ≡ stays j
unfolding stays state_of
stays-whole j_nil h = refl
stays-whole (j_leaf s b j) h = sym (lt-ltb (number s) 2 h)
stays-whole (j_node s k i j) h = rw (lt-ltb (number s) 2 h) refl

-- Another one, by its items: a C-node; one that is none; either.
stays_c : (j : Judged) → 2 ≤ number (state_of j) → shape_of j ≡ some CNode → stays j ≡ stays_in C (items_of j)
unfolding stays state_of shape_of items_of
stays_c j_nil p h = cc
stays_c (j_leaf s b j) p h = cc
stays_c (j_node s P i j) p h = cc
stays_c (j_node s C i j) p h = rw (le-ltb (number s) 2 p) refl

stays_p : (j : Judged) → 2 ≤ number (state_of j) → (shape_of j ≡ some CNode → ⊥) → stays j ≡ stays_in P (items_of j)
unfolding stays stays_in state_of shape_of items_of
stays_p j_nil p h = absurd (omega arith)
stays_p (j_leaf s b j) p h = le-ltb (number s) 2 p
stays_p (j_node s P i j) p h = rw (le-ltb (number s) 2 p) refl
stays_p (j_node s C i j) p h = absurd (h refl)

stays_node : (j : Judged) → 2 ≤ number (state_of j) → (k : Kind) × (stays j ≡ stays_in k (items_of j))
stays_node j p = elim (c_or_not j) [ inl e ↦ (C, stays_c j p e) | inr n ↦ (P, stays_p j p n) ]

-- The items: none; the first is empty; it is not.
in_none : (k : Kind) → stays_in k j_nil ≡ false
unfolding stays_in
in_none k = refl

in_empty : (k : Kind) (j : Judged) → 0 < length (encode j) → is 0 (number (state_of j)) ≡ true → stays_in k j ≡ stays_in k (rest_of j)
unfolding encode stays_in state_of rest_of
in_empty k j_nil h t = absurd (omega arith)
in_empty k (j_leaf s b j) h t = rw t refl
in_empty k (j_node s m i j) h t = rw t refl

in_first : (k : Kind) (j : Judged) → 0 < length (encode j) → is 0 (number (state_of j)) ≡ false
    → stays_in k j ≡ cond (all_with_state 0 (totals (rest_of j))) (stays j) (unmixed k j)
unfolding encode stays stays_in state_of rest_of
in_first k j_nil h t = absurd (omega arith)
in_first k (j_leaf s b j) h t = rw t refl
in_first k (j_node s m i j) h t = rw t refl

-- The items from the first that is not empty on.
abbrev pub others : Judged → Judged
others j = beyond (is 0) (items_of j)

-- A partial item: y are its items' tokens, and the first r of them those of the empty items at the start.
module _ (j : Judged) (p : 2 ≤ number (state_of j)) {y : List ℕ} {r : ℕ} (w : Parted (is 0) y (items_of j) r) (h : r ≤ length y) where
  pub stays_none : r ≡ length y → false ≡ stays j
  stays_none e =
      let k = stays_node j p in
      sym (k.1 ∙ beyond-same (is 0) (stays_in k.0) (in_empty k.0) (items_of j) ∙ rw (none_beyond (items_of j) w e) (in_none k.0))

  module _ (n : r ≡ length y → ⊥) where
    by_first : (k : Kind) → stays j ≡ stays_in k (items_of j) → stays j ≡ cond (all_with_state 0 (totals (rest_of (others j)))) (stays (others j)) (unmixed k (others j))
    by_first k e =
        let m = some_beyond (items_of j) w h n in
        e ∙ beyond-same (is 0) (stays_in k) (in_empty k) (items_of j) ∙ in_first k (others j) m (beyond_stops (is 0) (items_of j) m)

    -- All behind the first that is not empty are empty; they are not, and it is no C-node; it is one.
    pub stays_alone : {b : Bool} → true ≡ all_with_state 0 (totals (rest_of (others j))) → b ≡ stays (others j) → b ≡ stays j
    stays_alone a e = let k = stays_node j p in e ∙ sym (by_first k.0 k.1 ∙ rw (← a) refl)

    pub stays_not : false ≡ all_with_state 0 (totals (rest_of (others j))) → (shape_of j ≡ some CNode → ⊥) → false ≡ stays j
    stays_not a s = sym (by_first P (stays_p j p s) ∙ rw (← a) refl)

    pub stays-unmixed : {l : List ℕ} → false ≡ all_with_state 0 (totals (rest_of (others j))) → shape_of j ≡ some CNode → l ≡ encode (from_partial (others j)) → eqb (length l) 0 ≡ stays j
    stays-unmixed a s e = sym (by_first C (stays_c j p s) ∙ rw (← a) (ap (λ (l : List ℕ). eqb (length l) 0) (sym e)))
