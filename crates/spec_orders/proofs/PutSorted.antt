-- `put_sorted` and `orient`: the orders allowed stay the same, and the items come out in order; first leaves of items that share no leaf differ.
use mathlib.Core.Path.{◌∙◌, ◌≡◌, ap, refl, subst, sym}
use mathlib.Core.Logic.{◌↔◌, ◌≢◌, inl, inr}
use mathlib.Core.Bool.{false, true}
use mathlib.Core.List.{List, [], ◌++◌, ◌∷◌}
use Prim.Native.Nat.{◌≤◌, ℕ}
use native.Mathlib.Omega.{arith}
use borrow.Author.Tests.{ltb-false, ltb-true}
use lib.Dec.{ltb}
use Rattle.spec_orders.specs.Lists.{All, Distinct, Rearranged, next}
use Rattle.spec_orders.specs.Tree.{Kind, P, C, Forest, nil, leaf, node, Item, leaf_item, node_item, items, append, rev, frontier, Turn, Consistent, node_first}
use Rattle.spec_orders.specs.Form.{first, first_of}
use Rattle.spec_orders.specs.TreeText.{TwoItems, Forked}
use Rattle.spec_orders.specs.Reduce.{one, put_sorted, orient}
use Rattle.spec_orders.proofs.ListLaws.{all_left, all_right}
use Rattle.spec_orders.proofs.Rearranged.{perm_refl, perm_trans, perm_sym, perm_all, pick_middle}
use Rattle.spec_orders.proofs.Members.{NonEmpty, perm_nonempty}
use Rattle.spec_orders.proofs.Laws.{forest_nil, rev-rev, items-append, rev_perm, leaves_of, flat, frontier-flat}
use Rattle.spec_orders.proofs.First.{Starts, all_start}
use Rattle.spec_orders.proofs.Parts.{put_one, items-put}
use Rattle.spec_orders.proofs.Tests.{cond_cases}

-- The items of `put_sorted t e` are those of t and e.
later : (t f g : Forest) (v : Item) (h : Forest) → items h ≡ v ∷ items f → Rearranged (items (append t f)) (items g) → Rearranged (items (append t h)) (v ∷ items g)
later t f g v h e p = rw (items-append t h, e) (next (pick_middle (items t) v (items f)) (rw (items-append t f) at p))

pub put_sorted_perm : (t e : Forest) → Rearranged (items (append t e)) (items (put_sorted t e))
put_sorted_perm t nil = rw forest_nil (perm_refl (items t))
put_sorted_perm t (leaf b f) =
    cond_cases (ltb (first t) b) (append t (leaf b f)) (leaf b (put_sorted t f)) (λ g. Rearranged (items (append t (leaf b f))) (items g))
    (λ y. perm_refl _) (λ n. later t f (put_sorted t f) (leaf_item b) (leaf b f) refl (put_sorted_perm t f))
put_sorted_perm t (node k i f) =
    cond_cases (ltb (first t) (first i)) (append t (node k i f)) (node k i (put_sorted t f)) (λ g. Rearranged (items (append t (node k i f))) (items g))
    (λ y. perm_refl _) (λ n. later t f (put_sorted t f) (node_item k i) (node k i f) refl (put_sorted_perm t f))

-- A node whose turns are turns of another allows no more.
consistent_turn : (k : Kind) (i i' f : Forest) (xs : List ℕ) → ((j : Forest) → Turn k i j → Turn k i' j) → Consistent (node k i f) xs → Consistent (node k i' f) xs
consistent_turn k i i' f xs h (node_first {j = j} t s r e) = node_first (h j t) s r e

-- `put_sorted` allows the same orders.
pub put_sorted_consistent : (t e r : Forest) (xs : List ℕ) → Consistent (node P (put_sorted t e) r) xs ↔ Consistent (node P (append t e) r) xs
put_sorted_consistent t e r xs = (
  consistent_turn P (put_sorted t e) (append t e) r xs (λ j p. perm_trans (put_sorted_perm t e) p),
  consistent_turn P (append t e) (put_sorted t e) r xs (λ j p. perm_trans (perm_sym (put_sorted_perm t e)) p),
)

rev_turn : (f j : Forest) → Turn C f j → Turn C (rev f) j
rev_turn f j (inl e) = inr (e ∙ sym (rev-rev f))
rev_turn f j (inr e) = inl e

unrev_turn : (f j : Forest) → Turn C (rev f) j → Turn C f j
unrev_turn f j (inl e) = inr e
unrev_turn f j (inr e) = inl (e ∙ rev-rev f)

-- orient allows the same orders.
pub orient_consistent : (f r : Forest) (xs : List ℕ) → Consistent (node C (orient f) r) xs ↔ Consistent (node C f r) xs
orient_consistent f r xs =
    cond_cases (ltb (first (rev f)) (first f)) (rev f) f (λ g. Consistent (node C g r) xs ↔ Consistent (node C f r) xs)
    (λ y. (consistent_turn C (rev f) f r xs (unrev_turn f), consistent_turn C f (rev f) r xs (rev_turn f)))
    (λ n. (λ s. s, λ s. s))

pub orient_perm : (f : Forest) → Rearranged (items f) (items (orient f))
orient_perm f = cond_cases (ltb (first (rev f)) (first f)) (rev f) f (λ g. Rearranged (items f) (items g)) (λ y. rev_perm f) (λ n. perm_refl (items f))

-- Items that do not fall stay so.
pub first_one : (u : Item) → first (one u) ≡ first_of u
first_one (leaf_item b) = refl
first_one (node_item k i) = refl

-- The items do not fall by their first leaves, all from m up.
abbrev pub Climbs : ℕ → List Item → Type 0
Climbs m [] = Unit {0}
Climbs m (t ∷ ts) = (m ≤ first_of t) × Climbs (first_of t) ts

abbrev pub Climbing : List Item → Type 0
Climbing [] = Unit {0}
Climbing (t ∷ ts) = Climbs (first_of t) ts

module _ (u : Item) where
  front : (g : Forest) → items (append (one u) g) ≡ u ∷ items g
  front g = ap items (put_one u g) ∙ items-put u g

  below : (b : ℕ) → ltb (first (one u)) b ≡ true → first_of u ≤ b
  below b y = let q = first_one u in omega (arith, ltb-true (first (one u)) b y)

  above : (b : ℕ) → ltb (first (one u)) b ≡ false → b ≤ first_of u
  above b n = let q = first_one u in omega (arith, ltb-false (first (one u)) b n)

  climbs_put_sorted : (m : ℕ) (e : Forest) → m ≤ first_of u → Climbs m (items e) → Climbs m (items (put_sorted (one u) e))
  climbs_put_sorted m nil l r = rw (items-put u nil) (l, tt)
  climbs_put_sorted m (leaf b f) l r =
      cond_cases (ltb (first (one u)) b) (append (one u) (leaf b f)) (leaf b (put_sorted (one u) f)) (λ g. Climbs m (items g))
      (λ y. rw (front (leaf b f)) (l, (below b y, r.1)))
      (λ n. (r.0, climbs_put_sorted b f (above b n) r.1))
  climbs_put_sorted m (node k i f) l r =
      cond_cases (ltb (first (one u)) (first i)) (append (one u) (node k i f)) (node k i (put_sorted (one u) f)) (λ g. Climbs m (items g))
      (λ y. rw (front (node k i f)) (l, (below (first i) y, r.1)))
      (λ n. (r.0, climbs_put_sorted (first i) f (above (first i) n) r.1))

  pub climbing_put_sorted : (e : Forest) → Climbing (items e) → Climbing (items (put_sorted (one u) e))
  climbing_put_sorted nil r = rw (items-put u nil) tt
  climbing_put_sorted (leaf b f) r =
      cond_cases (ltb (first (one u)) b) (append (one u) (leaf b f)) (leaf b (put_sorted (one u) f)) (λ g. Climbing (items g))
      (λ y. rw (front (leaf b f)) (below b y, r))
      (λ n. climbs_put_sorted b f (above b n) r)
  climbing_put_sorted (node k i f) r =
      cond_cases (ltb (first (one u)) (first i)) (append (one u) (node k i f)) (node k i (put_sorted (one u) f)) (λ g. Climbing (items g))
      (λ y. rw (front (node k i f)) (below (first i) y, r))
      (λ n. climbs_put_sorted (first i) f (above (first i) n) r)

pub orient_ends : (f : Forest) → first (orient f) ≤ first (rev (orient f))
orient_ends f =
    cond_cases (ltb (first (rev f)) (first f)) (rev f) f (λ g. first g ≤ first (rev g))
    (λ y. rw (rev-rev f) (omega (arith, ltb-true (first (rev f)) (first f) y)))
    (λ n. ltb-false (first (rev f)) (first f) n)

-- Where the leaves are distinct, the first leaves differ.
flat_firsts : (Q : ℕ → Type 0) (ts : List Item) → All Starts ts → All Q (flat ts) → All (λ v. Q (first_of v)) ts
flat_firsts Q [] g h = tt
flat_firsts Q (t ∷ ts) g h =
    let a : All Q (first_of t ∷ g.0.0) = subst (All Q) g.0.1 (all_left Q (leaves_of t) (flat ts) h) in
    (a.0, flat_firsts Q ts g.1 (all_right Q (leaves_of t) (flat ts) h))

pub head_differs : (t : Item) (ts : List Item) → All Starts (t ∷ ts) → Distinct (flat (t ∷ ts)) → All (λ v. first_of t ≢ first_of v) ts
head_differs t ts g d =
    let e : Distinct (first_of t ∷ g.0.0 ++ flat ts) = subst (λ l. Distinct (l ++ flat ts)) g.0.1 d in
    flat_firsts (λ y. first_of t ≢ y) ts g.1 (all_right (λ y. first_of t ≢ y) g.0.0 (flat ts) e.0)

first_all : (Q : ℕ → Type 0) (g h : Forest) → NonEmpty (items g) → All (λ v. Q (first_of v)) (items g) → Q (first (append g h))
first_all Q nil h s a = absurd s
first_all Q (leaf b f) h s a = a.0
first_all Q (node k i f) h s a = a.0

two_tail : (t : Item) (ts : List Item) → TwoItems (t ∷ ts) → NonEmpty ts
two_tail t [] h = omega arith
two_tail t (u ∷ ts) h = tt

last_differs : (t : Item) (f h : Forest) → NonEmpty (items f) → All Starts (t ∷ items f) → Distinct (flat (t ∷ items f)) → first_of t ≢ first (append (rev f) h)
last_differs t f h s g d =
    first_all (λ y. first_of t ≢ y) (rev f) h (perm_nonempty (rev_perm f) s) (perm_all (λ v. first_of t ≢ first_of v) (rev_perm f) (head_differs t (items f) g d))

-- The two ends of a sequence.
pub ends_differ : (f : Forest) → TwoItems (items f) → Forked f → Distinct (frontier f) → first f ≢ first (rev f)
ends_differ nil h c d = absurd (omega arith)
ends_differ (leaf b f) h c d =
    last_differs (leaf_item b) f (leaf b nil) (two_tail (leaf_item b) (items f) h) (all_start (leaf b f) c) (subst Distinct (frontier-flat (leaf b f)) d)
ends_differ (node k i f) h c d =
    last_differs (node_item k i) f (node k i nil) (two_tail (node_item k i) (items f) h) (all_start (node k i f) c) (subst Distinct (frontier-flat (node k i f)) d)
