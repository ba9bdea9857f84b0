-- An item that stays is the same when it is reduced.
use mathlib.Core.Path.{◌≡◌, refl, sym, ap, ap₂, ◌∙◌, subst}
use mathlib.Core.Bool.{Bool, true, false, cond, true≢false}
use mathlib.Core.List.{[]}
use Prim.Native.Nat.{ℕ, ◌<◌}
use native.Mathlib.Omega.{arith}
use borrow.Author.Tests.{eqb-true}
use lib.Dec.{ltb}
use lib.ListN.{length}
use Rattle.spec_orders.specs.Tree.{Kind, P, C, Forest, nil, leaf, node, Item, leaf_item, node_item, items, append}
use Rattle.spec_orders.specs.Form.{Enough, Sorted, Rising, Canonical}
use Rattle.spec_orders.specs.Reduce.{put, one, put_sorted, pack}
use Rattle.spec_orders.proofs.ReduceIdle.{back, orient-same, pack_two}
use Rattle.tree_tokens.specs.Tokens.{State, E, F, L, R, X, number, Judged, j_nil, j_leaf, j_node, tree, encode}
use Rattle.tree_tokens.specs.Views.{first_of}
use Rattle.tree_judge.specs.Total.{whole_of, only_of, partial_of, first_reduced, mirrored_lines, c_node_of, middle_of, gather_of, reduced_of, total_by, totals}
use Rattle.tree_pieces.specs.Writers.{all_with_state, from_partial}
use Rattle.tree_pieces.proofs.Laws.{whole-totals, all_empty_is}
use Rattle.tree_stays.specs.Stays.{unmixed, stays_in, stays}

-- Items of which none is partial are themselves in a line.
whole-lines : (j : Judged) → length (encode (from_partial j)) ≡ 0 → mirrored_lines (totals j) ≡ tree j
unfolding totals total_by from_partial encode
whole-lines j_nil h = refl
whole-lines (j_leaf E b j) h = ap (leaf b) (whole-lines j h)
whole-lines (j_leaf F b j) h = ap (leaf b) (whole-lines j h)
whole-lines (j_leaf L b j) h = absurd (omega (arith, h))
whole-lines (j_leaf R b j) h = absurd (omega (arith, h))
whole-lines (j_leaf X b j) h = absurd (omega (arith, h))
whole-lines (j_node E k i j) h = ap (node k (tree i)) (whole-lines j h)
whole-lines (j_node F k i j) h = ap (node k (tree i)) (whole-lines j h)
whole-lines (j_node L k i j) h = absurd (omega (arith, h))
whole-lines (j_node R k i j) h = absurd (omega (arith, h))
whole-lines (j_node X k i j) h = absurd (omega (arith, h))

-- Where all items are empty, none is full or partial.
pub record Empty (j : Judged) : Type 0 where
  pub empties : whole_of (only_of E (totals j)) ≡ tree j
  pub fulls : only_of F (totals j) ≡ []
  pub partials : partial_of (totals j) ≡ []

empty_all : (j : Judged) → all_with_state 0 (totals j) ≡ true → Empty j
unfolding totals total_by
empty_all j_nil h = record { empties = refl; fulls = refl; partials = refl }
empty_all (j_leaf E b j) h = let r = empty_all j h in record { empties = ap (leaf b) r.empties; fulls = r.fulls; partials = r.partials }
empty_all (j_leaf F b j) h = absurd (true≢false (sym h))
empty_all (j_leaf L b j) h = absurd (true≢false (sym h))
empty_all (j_leaf R b j) h = absurd (true≢false (sym h))
empty_all (j_leaf X b j) h = absurd (true≢false (sym h))
empty_all (j_node E k i j) h = let r = empty_all j h in record { empties = ap (node k (tree i)) r.empties; fulls = r.fulls; partials = r.partials }
empty_all (j_node F k i j) h = absurd (true≢false (sym h))
empty_all (j_node L k i j) h = absurd (true≢false (sym h))
empty_all (j_node R k i j) h = absurd (true≢false (sym h))
empty_all (j_node X k i j) h = absurd (true≢false (sym h))

-- A P-node's items: those that are not empty make one item, and it is the one that stands between the others.
pub record Between (j : Judged) : Type 0 where
  pub before : Forest
  pub here : Item
  pub after : Forest
  pub its_tree : tree j ≡ append before (put here after)
  pub empties : whole_of (only_of E (totals j)) ≡ append before after
  pub gathers : gather_of (partial_of (totals j)) (only_of F (totals j)) ≡ one here

-- What a node's items must be, for the node to stay.
abbrev pub Same : Kind → Judged → Type 0
Same P j = Between j
Same C j = middle_of (totals j) ≡ tree j

node_same : (k : Kind) (i : Judged) → Enough k (tree i) → Sorted k (tree i) → Same k i → reduced_of k (totals i) ≡ node k (tree i) nil
unfolding reduced_of c_node_of
node_same P i h s w =
    let e = w.its_tree in
    ap₂ (λ t f. pack (put_sorted t f)) w.gathers w.empties
    ∙ ap pack (back w.before w.here w.after (subst (λ f. Rising (items f)) e s) ∙ sym e)
    ∙ pack_two (tree i) h
node_same C i h s w = rw w (ap (λ f. node C f nil) (orient-same (tree i) s))

full_same : (k : Kind) (i : Judged) → (total_by F k (tree i) (totals i)).reduced ≡ node k (tree i) nil
unfolding total_by
full_same k i = refl

partial_same : (s : State) (k : Kind) (i : Judged) → reduced_of k (totals i) ≡ node k (tree i) nil → (total_by s k (tree i) (totals i)).reduced ≡ node k (tree i) nil
unfolding total_by
partial_same E k i e = refl
partial_same F k i e = refl
partial_same L k i e = e
partial_same R k i e = e
partial_same X k i e = e

-- An empty item in front.
leaf_past : (k : Kind) (b : ℕ) (j : Judged) → Same k j → Same k (j_leaf E b j)
unfolding totals middle_of
leaf_past P b j w = record {
  before = leaf b w.before;
  here = w.here;
  after = w.after;
  its_tree = ap (leaf b) w.its_tree;
  empties = ap (leaf b) w.empties;
  gathers = w.gathers;
}
leaf_past C b j w = ap (leaf b) w

node_past : (k m : Kind) (i j : Judged) → Same k j → Same k (j_node E m i j)
unfolding totals total_by middle_of
node_past P m i j w = record {
  before = node m (tree i) w.before;
  here = w.here;
  after = w.after;
  its_tree = ap (node m (tree i)) w.its_tree;
  empties = ap (node m (tree i)) w.empties;
  gathers = w.gathers;
}
node_past C m i j w = ap (node m (tree i)) w

-- The first item is the only one that is not empty.
leaf_alone : (k : Kind) (b : ℕ) (j : Judged) → all_with_state 0 (totals j) ≡ true → Same k (j_leaf F b j)
unfolding totals middle_of gather_of
leaf_alone P b j h =
    let r = empty_all j h in
    record { before = nil; here = leaf_item b; after = tree j; its_tree = refl; empties = r.empties; gathers = rw (r.partials, r.fulls) refl }
leaf_alone C b j h = rw (sym (all_empty_is (totals j)) ∙ h, whole-totals j) refl

node_alone : (k : Kind) (s : State) (m : Kind) (i j : Judged) → (number s ≡ 0 → ⊥) → (total_by s m (tree i) (totals i)).reduced ≡ node m (tree i) nil
    → all_with_state 0 (totals j) ≡ true → Same k (j_node s m i j)
unfolding totals total_by middle_of gather_of
node_alone k E m i j z e h = absurd (z refl)
node_alone P F m i j z e h =
    let r = empty_all j h in
    record { before = nil; here = node_item m (tree i); after = tree j; its_tree = refl; empties = r.empties; gathers = rw (r.partials, r.fulls) refl }
node_alone P L m i j z e h =
    let r = empty_all j h in
    record { before = nil; here = node_item m (tree i); after = tree j; its_tree = refl; empties = r.empties; gathers = rw (r.partials, r.fulls) e }
node_alone P R m i j z e h =
    let r = empty_all j h in
    record { before = nil; here = node_item m (tree i); after = tree j; its_tree = refl; empties = r.empties; gathers = rw (r.partials, r.fulls) e }
node_alone P X m i j z e h =
    let r = empty_all j h in
    record { before = nil; here = node_item m (tree i); after = tree j; its_tree = refl; empties = r.empties; gathers = rw (r.partials, r.fulls) e }
node_alone C F m i j z e h = rw (sym (all_empty_is (totals j)) ∙ h, whole-totals j) refl
node_alone C L m i j z e h = rw (sym (all_empty_is (totals j)) ∙ h, e, whole-totals j) refl
node_alone C R m i j z e h = rw (sym (all_empty_is (totals j)) ∙ h, e, whole-totals j) refl
node_alone C X m i j z e h = rw (sym (all_empty_is (totals j)) ∙ h, e, whole-totals j) refl

-- More than one is not empty: a C-node's items, none of them partial.
mixed : (k : Kind) (j : Judged) → from_partial j ≡ j → 0 < length (encode j) → unmixed k j ≡ true → ⊥
mixed P j e n h = true≢false (sym h)
mixed C j e n h = omega (arith, eqb-true (length (encode (from_partial j))) 0 h, ap (λ (i : Judged). length (encode i)) e)

leaf_whole : (b : ℕ) (j : Judged) → all_with_state 0 (totals j) ≡ false → unmixed C (j_leaf F b j) ≡ true → Same C (j_leaf F b j)
unfolding totals middle_of from_partial
leaf_whole b j h q = rw (sym (all_empty_is (totals j)) ∙ h) (ap (leaf b) (whole-lines j (eqb-true (length (encode (from_partial j))) 0 q)))

node_whole : (m : Kind) (i j : Judged) → all_with_state 0 (totals j) ≡ false → unmixed C (j_node F m i j) ≡ true → Same C (j_node F m i j)
unfolding totals total_by middle_of from_partial
node_whole m i j h q = rw (sym (all_empty_is (totals j)) ∙ h) (ap (node m (tree i)) (whole-lines j (eqb-true (length (encode (from_partial j))) 0 q)))

-- The first item is not empty; a says whether all the others are.
leaf_step : (k : Kind) (s : State) (b : ℕ) (j : Judged) (a : Bool) → (number s ≡ 0 → ⊥) → all_with_state 0 (totals j) ≡ a
    → cond a (ltb (number s) 2) (unmixed k (j_leaf s b j)) ≡ true → Same k (j_leaf s b j)
unfolding from_partial encode
leaf_step k E b j a z q h = absurd (z refl)
leaf_step k F b j true z q h = leaf_alone k b j q
leaf_step P F b j false z q h = absurd (true≢false (sym h))
leaf_step C F b j false z q h = leaf_whole b j q h
leaf_step k L b j true z q h = absurd (true≢false (sym h))
leaf_step k L b j false z q h = absurd (mixed k (j_leaf L b j) refl (omega arith) h)
leaf_step k R b j true z q h = absurd (true≢false (sym h))
leaf_step k R b j false z q h = absurd (mixed k (j_leaf R b j) refl (omega arith) h)
leaf_step k X b j true z q h = absurd (true≢false (sym h))
leaf_step k X b j false z q h = absurd (mixed k (j_leaf X b j) refl (omega arith) h)

node_step : (k : Kind) (s : State) (m : Kind) (i j : Judged) (a : Bool) → (number s ≡ 0 → ⊥) → (stays_in m i ≡ true → reduced_of m (totals i) ≡ node m (tree i) nil)
    → all_with_state 0 (totals j) ≡ a → cond a (cond (ltb (number s) 2) true (stays_in m i)) (unmixed k (j_node s m i j)) ≡ true → Same k (j_node s m i j)
unfolding from_partial encode
node_step k E m i j a z r q h = absurd (z refl)
node_step k F m i j true z r q h = node_alone k F m i j z (full_same m i) q
node_step P F m i j false z r q h = absurd (true≢false (sym h))
node_step C F m i j false z r q h = node_whole m i j q h
node_step k L m i j true z r q h = node_alone k L m i j z (partial_same L m i (r h)) q
node_step k L m i j false z r q h = absurd (mixed k (j_node L m i j) refl (omega arith) h)
node_step k R m i j true z r q h = node_alone k R m i j z (partial_same R m i (r h)) q
node_step k R m i j false z r q h = absurd (mixed k (j_node R m i j) refl (omega arith) h)
node_step k X m i j true z r q h = node_alone k X m i j z (partial_same X m i (r h)) q
node_step k X m i j false z r q h = absurd (mixed k (j_node X m i j) refl (omega arith) h)

same : (k : Kind) (j : Judged) → Canonical (tree j) → stays_in k j ≡ true → Same k j
unfolding stays_in
same k j_nil c h = absurd (true≢false (sym h))
same k (j_leaf E b j) c h = leaf_past k b j (same k j c h)
same k (j_leaf F b j) c h = leaf_step k F b j (all_with_state 0 (totals j)) (λ e. omega arith) refl h
same k (j_leaf L b j) c h = leaf_step k L b j (all_with_state 0 (totals j)) (λ e. omega arith) refl h
same k (j_leaf R b j) c h = leaf_step k R b j (all_with_state 0 (totals j)) (λ e. omega arith) refl h
same k (j_leaf X b j) c h = leaf_step k X b j (all_with_state 0 (totals j)) (λ e. omega arith) refl h
same k (j_node E m i j) c h = node_past k m i j (same k j c.1 h)
same k (j_node F m i j) c h = node_step k F m i j (all_with_state 0 (totals j)) (λ e. omega arith) (λ e. node_same m i c.0.0.0 c.0.0.1 (same m i c.0.1 e)) refl h
same k (j_node L m i j) c h = node_step k L m i j (all_with_state 0 (totals j)) (λ e. omega arith) (λ e. node_same m i c.0.0.0 c.0.0.1 (same m i c.0.1 e)) refl h
same k (j_node R m i j) c h = node_step k R m i j (all_with_state 0 (totals j)) (λ e. omega arith) (λ e. node_same m i c.0.0.0 c.0.0.1 (same m i c.0.1 e)) refl h
same k (j_node X m i j) c h = node_step k X m i j (all_with_state 0 (totals j)) (λ e. omega arith) (λ e. node_same m i c.0.0.0 c.0.0.1 (same m i c.0.1 e)) refl h

-- In a tree in the published form.
pub stays_same : (j : Judged) → Canonical (tree j) → stays j ≡ true → first_reduced (totals j) ≡ tree (first_of j)
unfolding stays totals total_by first_of
stays_same j_nil c h = refl
stays_same (j_leaf s b j) c h = refl
stays_same (j_node E k i j) c h = refl
stays_same (j_node F k i j) c h = refl
stays_same (j_node L k i j) c h = node_same k i c.0.0.0 c.0.0.1 (same k i c.0.1 h)
stays_same (j_node R k i j) c h = node_same k i c.0.0.0 c.0.0.1 (same k i c.0.1 h)
stays_same (j_node X k i j) c h = node_same k i c.0.0.0 c.0.0.1 (same k i c.0.1 h)
