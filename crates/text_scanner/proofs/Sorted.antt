-- In a tree of the shape in which no rule is broken the items of every node are sorted: its text is accepted.
use mathlib.Core.Path.{◌≡◌, refl, sym, subst}
use mathlib.Core.Logic.{inl, ◌≢◌}
use mathlib.Core.List.{List}
use Prim.Native.Nat.{ℕ, ◌+◌, ◌≤◌}
use native.Mathlib.Omega.{arith, by_contra}
use lib.ListN.{length}
use Rattle.spec_orders.specs.Lists.{Distinct, In}
use Rattle.spec_orders.specs.Tree.{Kind, P, C, Forest, nil, leaf, node, items, rev, frontier}
use Rattle.spec_orders.specs.Form.{first, Rises, Rising, Sorted, Every}
use Rattle.spec_orders.specs.TreeText.{TwoItems, digits, text, tree_text, Shaped, Breaks, leaf_falls, node_falls, wrong_way, inside, after_leaf, after_node, AcceptedAs, Forked}
use Rattle.spec_orders.proofs.Rearranged.{perm_distinct}
use Rattle.spec_orders.proofs.Members.{in_left, all_in, apart, distinct_left, distinct_right}
use Rattle.spec_orders.proofs.PutSorted.{ends_differ}
use Rattle.spec_orders.proofs.Forms.{others_distinct}

-- No rule is broken.
abbrev Keeps : Kind → ℕ → ℕ → Forest → Type 0
Keeps k m o f = (p : ℕ) → Breaks k m o f p → ⊥

-- The items of a P-node rise, not below m.
abbrev Up : Kind → ℕ → Forest → Type 0
Up P m f = Rising (items f) × (1 ≤ length (items f) → m ≤ first f)
Up C m f = Unit {0}

first_in : (f : Forest) → Forked f → 1 ≤ length (items f) → In (first f) (frontier f)
first_in nil g h = absurd (omega arith)
first_in (leaf b f) g h = inl refl
first_in (node k i f) g h = in_left (first i) (frontier i) (frontier f) (first_in i g.0.1 (omega (arith, g.0.0)))

-- Strictly, since leaves differ.
rises : (m : ℕ) (f : Forest) → (1 ≤ length (items f) → m ≢ first f) → Up P m f → Rises m (items f)
rises m nil n u = tt
rises m (leaf b f) n u = (omega (arith, n (omega arith), u.1 (omega arith)), u.0)
rises m (node k i f) n u = (omega (arith, n (omega arith), u.1 (omega arith)), u.0)

sorted : (j k : Kind) (m o : ℕ) (i f : Forest) → TwoItems (items i) → Forked i → Distinct (frontier i) → Keeps k m o (node j i f) → Up j 0 i → Sorted j i
sorted P k m o i f t g d h u = u.0
sorted C k m o i f t g d h u = omega (arith, ends_differ i t g d, by_contra (first i) (first (rev i)) (λ l. h (o + 2) (wrong_way l)))

nil_up : (k : Kind) (m : ℕ) → Up k m nil
nil_up P m = (tt, λ s. absurd (omega arith))
nil_up C m = tt

leaf_up : (k : Kind) (m o b : ℕ) (f : Forest) → (1 ≤ length (items f) → b ≢ first f) → Up k b f → Keeps k m o (leaf b f) → Up k m (leaf b f)
leaf_up P m o b f n u h = (rises b f n u, λ s. by_contra m b (λ l. h o (leaf_falls l)))
leaf_up C m o b f n u h = tt

node_up : (k j : Kind) (m o : ℕ) (i f : Forest) → (1 ≤ length (items f) → first i ≢ first f) → Up k (first i) f → Keeps k m o (node j i f) → Up k m (node j i f)
node_up P j m o i f n u h = (rises (first i) f n u, λ s. by_contra m (first i) (λ l. h o (node_falls l)))
node_up C j m o i f n u h = tt

keeps_sorted : (f : Forest) (k : Kind) (m o : ℕ) → Forked f → Distinct (frontier f) → Keeps k m o f → Every Sorted f × Up k m f
keeps_sorted nil k m o g d h = (tt, nil_up k m)
keeps_sorted (leaf b f) k m o g d h =
    let r = keeps_sorted f k b (o + length (digits b) + 1) g d.1 (λ p w. h p (after_leaf w)) in
    (r.0, leaf_up k m o b f (λ s e. all_in (λ y. b ≢ y) (first f) (frontier f) d.0 (first_in f g s) e) r.1 h)
keeps_sorted (node j i f) k m o g d h =
    let di = distinct_left (frontier i) (frontier f) d in
    let q = keeps_sorted i j 0 (o + 2) g.0.1 di (λ p w. h p (inside w)) in
    let r = keeps_sorted f k (first i) (o + length (text i) + 4) g.1 (distinct_right (frontier i) (frontier f) d) (λ p w. h p (after_node w)) in (
      ((sorted j k m o i f g.0.0 g.0.1 di h q.1, q.0), r.0),
      node_up k j m o i f
          (λ s e. apart (first i) (frontier i) (frontier f) d (first_in i g.0.1 (omega (arith, g.0.0))) (subst (λ w. In w (frontier f)) (sym e) (first_in f g.1 s)))
          r.1 h,
    )

pub keeps_accepted : (n : ℕ) (x : List ℕ) (t : Forest) → Shaped n t → x ≡ tree_text t → Keeps C 0 2 t → AcceptedAs n x t
keeps_accepted n x t s b h = record {
  shaped = s;
  sorted = (keeps_sorted t C 0 2 s.forked (perm_distinct s.all_leaves (others_distinct n)) h).0;
  bytes = b;
}
