-- The tests decide: same says whether two lists are equal, rearranged? whether one is a rearrangement of the other, and in_form? whether a
-- tree is in form.
use mathlib.Core.Path.{◌≡◌, ap₂, refl, subst, sym}
use mathlib.Core.Logic.Iff
use mathlib.Core.Logic.{◌↔◌, inl, ⊎_elim}
use mathlib.Core.Bool.{Bool, cond, false, true, true≢false}
use mathlib.Core.Option.{Option, none, some}
use mathlib.Core.List.{List, [], ◌∷◌, head-eq_of_cons-eq, tail-eq_of_cons-eq}
use Prim.Native.Nat.{◌≤◌, ℕ}
use native.Mathlib.Omega.{arith}
use borrow.Author.Tests.{eq-eqb, eqb-false, eqb-true, le-leb, leb-true, lt-ltb, ltb-true}
use lib.Dec.{eqb, leb}
use lib.ListN.{length}
use Rattle.spec_orders.specs.Lists.{In, same, Pick, here, there, Rearranged, done, next, without, rearranged?}
use Rattle.spec_orders.specs.CircularOrder.{others}
use Rattle.spec_orders.specs.Tree.{Kind, P, C, Forest, nil, leaf, node, Item, items, rev, frontier}
use Rattle.spec_orders.specs.Form.{first, first_of, Rises, Rising, Sorted, fewest, Canonical, Single, InForm, rises?, rising?, sorted?, canonical?, in_form?}
use Rattle.spec_orders.proofs.Rearranged.{perm_refl, perm_trans, perm_insert, nil_perm, perm_uncons}
use Rattle.spec_orders.proofs.Members.{NonEmpty, perm_in}
use Rattle.spec_orders.proofs.Tests.{both}

pub same_decides : (xs ys : List ℕ) → (same xs ys ≡ true) ↔ (xs ≡ ys)
same_decides [] [] = ((λ e. refl), (λ e. refl))
same_decides [] (y ∷ ys) = ((λ e. absurd (true≢false (sym e))), (λ e. absurd (subst NonEmpty (sym e) tt)))
same_decides (x ∷ xs) [] = ((λ e. absurd (true≢false (sym e))), (λ e. absurd (subst NonEmpty e tt)))
same_decides (x ∷ xs) (y ∷ ys) = Iff.trans (both (eqb-true x y, eq-eqb x y) (same_decides xs ys)) ((λ r. ap₂ ◌∷◌ r.0 r.1), (λ e. (head-eq_of_cons-eq e, tail-eq_of_cons-eq e)))

-- Taken out of a list, or not in it.
abbrev Taken : ℕ → List ℕ → Option (List ℕ) → Type 0
Taken x m none = In x m → ⊥
Taken x m (some k) = Pick x m k

taken : (x : ℕ) (m : List ℕ) → Taken x m (without x m)
taken x [] = λ i. i
taken x (y ∷ m) = go (eqb x y) refl (without x m) (taken x m)
  where
    go : (b : Bool) → eqb x y ≡ b → (o : Option (List ℕ)) → Taken x m o → Taken x (y ∷ m) (cond b (some m) (elim o [ none ↦ none | some k ↦ some (y ∷ k) ]))
    go true q o h = subst (λ z. Pick x (z ∷ m) m) (eqb-true x y q) here
    go false q none h = ⊎_elim (eqb-false x y q) h
    go false q (some k) h = there h

pub rearranged_decides : (l m : List ℕ) → (rearranged? l m ≡ true) ↔ Rearranged l m
rearranged_decides [] m = Iff.trans (same_decides m []) ((λ e. subst (Rearranged []) (sym e) done), nil_perm)
rearranged_decides (x ∷ l) m = go (without x m) (taken x m) (rearranged_decides l)
  where
    go : (o : Option (List ℕ)) → Taken x m o → ((k : List ℕ) → (rearranged? l k ≡ true) ↔ Rearranged l k) → (elim o [ none ↦ false | some k ↦ rearranged? l k ] ≡ true) ↔ Rearranged (x ∷ l) m
    go none h rec = ((λ e. absurd (true≢false (sym e))), (λ p. absurd (h (perm_in x p (inl refl)))))
    go (some k) h rec = Iff.trans (rec k) (perm_insert h, (λ p. perm_uncons (perm_trans p (next h (perm_refl k)))))

rises_decides : (m : ℕ) (ts : List Item) → (rises? m ts ≡ true) ↔ Rises m ts
rises_decides m [] = ((λ e. tt), (λ h. refl))
rises_decides m (t ∷ ts) = both (ltb-true m (first_of t), lt-ltb m (first_of t)) (rises_decides (first_of t) ts)

sorted_decides : (k : Kind) (i : Forest) → (sorted? k i ≡ true) ↔ Sorted k i
sorted_decides P i = rising_decides (items i)
  where
    rising_decides : (ts : List Item) → (rising? ts ≡ true) ↔ Rising ts
    rising_decides [] = ((λ e. tt), (λ h. refl))
    rising_decides (t ∷ ts) = rises_decides (first_of t) ts
sorted_decides C i = (ltb-true (first i) (first (rev i)), lt-ltb (first i) (first (rev i)))

at_most : (m n : ℕ) → (leb m n ≡ true) ↔ (m ≤ n)
at_most m n = (leb-true m n, le-leb m n)

pub canonical_decides : (f : Forest) → (canonical? f ≡ true) ↔ Canonical f
canonical_decides nil = ((λ e. tt), (λ h. refl))
canonical_decides (leaf b f) = canonical_decides f
canonical_decides (node k i f) = both (both (both (at_most (fewest k) (length (items i))) (sorted_decides k i)) (canonical_decides i)) (canonical_decides f)

single_short : (ts : List Item) → (length ts ≤ 1) ↔ Single ts
single_short [] = ((λ h. tt), (λ h. omega arith))
single_short (t ∷ []) = ((λ h. tt), (λ h. omega arith))
single_short (t ∷ (u ∷ ts)) = ((λ h. absurd (omega arith)), (λ h. absurd h))

pub form_decides : (n : ℕ) (t : Forest) → (in_form? n t ≡ true) ↔ InForm n t
unfolding in_form?
form_decides n t =
    Iff.trans (both (Iff.trans (at_most (length (items t)) 1) (single_short (items t))) (both (canonical_decides t) (rearranged_decides (others n) (frontier t))))
    ((λ r. record { single = r.0; canonical = r.1.0; all_leaves = r.1.1 }), (λ f. (f.single, (f.canonical, f.all_leaves))))
