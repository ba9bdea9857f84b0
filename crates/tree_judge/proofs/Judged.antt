-- The judged tree is the tree, with a state for each item, and the states tell the classes of the items' leaves.
use mathlib.Core.Path.{◌≡◌, refl, sym, ap, ◌∙◌}
use mathlib.Core.Bool.{Bool, true, false, cond, not, ◌&&◌, ◌||◌}
use mathlib.Core.List.{List, [], ◌∷◌, ◌++◌}
use Prim.Native.Nat.{ℕ}
use native.Mathlib.Omega.{arith}
use lib.ListN.{length, length-append}
use Rattle.spec_orders.specs.Lists.{some_of}
use Rattle.spec_orders.specs.CircularOrder.{Restriction}
use Rattle.spec_orders.specs.Tree.{Kind, Forest, nil, leaf, node, items, frontier}
use Rattle.spec_orders.specs.TreeText.{TwoItems, Forked}
use Rattle.spec_orders.specs.Reduce.{complement, class, class_by}
use Rattle.tree_tokens.specs.Tokens.{State, E, F, tree, encode, flat}
use Rattle.tree_judge.specs.Judge.{all_empty, all_full, linear?, reduced?, partial_state, leaf_state, node_state, states, judge}
use Rattle.tree_judge.proofs.Words.{each}

module _ (S : Restriction) where
  pub tree-judge : (f : Forest) → tree (judge S f) ≡ f
  unfolding judge
  tree-judge nil = refl
  tree-judge (leaf b f) = ap (leaf b) (tree-judge f)
  tree-judge (node k i f) = ap (λ g. node k g (tree (judge S f))) (tree-judge i) ∙ ap (node k i) (tree-judge f)

  pub judge-length : (f : Forest) → length (encode (judge S f)) ≡ length (flat f)
  unfolding judge encode
  judge-length nil = refl
  judge-length (leaf b f) = omega (arith, judge-length f)
  judge-length (node k i f) =
      omega (arith, length-append (encode (judge S i)) (encode (judge S f)), length-append (flat i) (flat f), judge-length i, judge-length f)

-- A node is E (F) iff its items all are.
empty_by : (a f l r : Bool) (ss : List State) → all_empty (cond a E (cond f F (partial_state l r)) ∷ ss) ≡ a && all_empty ss
empty_by true f l r ss = refl
empty_by false true l r ss = refl
empty_by false false true r ss = refl
empty_by false false false true ss = refl
empty_by false false false false ss = refl

node_empty : (k : Kind) (ss us : List State) → all_empty (node_state k ss ∷ us) ≡ all_empty ss && all_empty us
unfolding node_state
node_empty k ss us = empty_by (all_empty ss) (all_full ss) (linear? k ss) (reduced? k ss) us

full_by : (a f l r : Bool) (ss : List State) → (a ≡ true → f ≡ false) → all_full (cond a E (cond f F (partial_state l r)) ∷ ss) ≡ f && all_full ss
full_by true f l r ss h = rw (h refl)
full_by false true l r ss h = refl
full_by false false true r ss h = refl
full_by false false false true ss h = refl
full_by false false false false ss h = refl

node_full : (k : Kind) (ss us : List State) → (all_empty ss ≡ true → all_full ss ≡ false) → all_full (node_state k ss ∷ us) ≡ all_full ss && all_full us
unfolding node_state
node_full k ss us h = full_by (all_empty ss) (all_full ss) (linear? k ss) (reduced? k ss) us h

not_and : (x y : Bool) → not x || not y ≡ not (x && y)
not_and true y = refl
not_and false y = refl

some_append : (S : Restriction) (xs ys : List ℕ) → some_of S (xs ++ ys) ≡ some_of S xs || some_of S ys
some_append S [] ys = refl
some_append S (x ∷ xs) ys = go (S x) (some_append S xs ys)
  where
    go : (b : Bool) → some_of S (xs ++ ys) ≡ some_of S xs || some_of S ys → cond b true (some_of S (xs ++ ys)) ≡ cond b true (some_of S xs) || some_of S ys
    go true e = refl
    go false e = e

leaf_some : (b x : Bool) (ss : List State) → x ≡ not (all_empty ss) → cond b true x ≡ not (all_empty (leaf_state b ∷ ss))
leaf_some true x ss e = refl
leaf_some false x ss e = e

leaf_other : (b x : Bool) (ss : List State) → x ≡ not (all_full ss) → cond (not b) true x ≡ not (all_full (leaf_state b ∷ ss))
leaf_other true x ss e = e
leaf_other false x ss e = refl

heads : (ss : List State) (s : State) → all_empty (s ∷ ss) ≡ true → all_full (s ∷ ss) ≡ false
heads ss = each (λ s. all_empty (s ∷ ss) ≡ true → all_full (s ∷ ss) ≡ false) (λ h. refl) (λ h. cc) (λ h. refl) (λ h. refl) (λ h. refl)

module _ (S : Restriction) where
  some_marked : (f : Forest) → some_of S (frontier f) ≡ not (all_empty (states (judge S f)))
  unfolding judge
  some_marked nil = refl
  some_marked (leaf b f) = leaf_some (S b) (some_of S (frontier f)) (states (judge S f)) (some_marked f)
  some_marked (node k i f) =
      let ss = states (judge S i) in
      let us = states (judge S f) in
      some_append S (frontier i) (frontier f) ∙ rw (some_marked i, some_marked f) (not_and (all_empty ss) (all_empty us)) ∙ ap not (sym (node_empty k ss us))

  not_both : (f : Forest) → TwoItems (items f) → all_empty (states (judge S f)) ≡ true → all_full (states (judge S f)) ≡ false
  unfolding judge
  not_both nil h e = absurd (omega arith)
  not_both (leaf b f) h e = heads (states (judge S f)) (leaf_state (S b)) e
  not_both (node k i f) h e = heads (states (judge S f)) (node_state k (states (judge S i))) e

  some_unmarked : (f : Forest) → Forked f → some_of (complement S) (frontier f) ≡ not (all_full (states (judge S f)))
  unfolding judge
  some_unmarked nil h = refl
  some_unmarked (leaf b f) h = leaf_other (S b) (some_of (complement S) (frontier f)) (states (judge S f)) (some_unmarked f h)
  some_unmarked (node k i f) h =
      let ss = states (judge S i) in
      let us = states (judge S f) in
      some_append (complement S) (frontier i) (frontier f)
      ∙ rw (some_unmarked i h.0.1, some_unmarked f h.1) (not_and (all_full ss) (all_full us))
      ∙ ap not (sym (node_full k ss us (not_both i h.0.0)))

  pub class_judged : (f : Forest) → Forked f → class S (frontier f) ≡ class_by (not (all_empty (states (judge S f)))) (not (all_full (states (judge S f))))
  class_judged f h = rw (some_marked f, some_unmarked f h)
