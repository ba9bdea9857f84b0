-- A restriction (document 01: a group) joins a tree in form. It is impossible iff it is consecutive in no allowed order; else the orders in
-- which it is are those left, and the tree is in form. A restriction to no leaf, or to 1, n − 1 or n leaves, changes nothing.
use mathlib.Core.Path.{◌∙◌, ◌≡◌, ap, refl, subst, sym}
use mathlib.Core.Logic.{◌↔◌, ◌⊎◌, inl, inr}
use mathlib.Core.Bool.{Bool, not-not, cond, false, not, true, true≢false}
use mathlib.Core.Option.{Option, none, some}
use mathlib.Core.List.{List, [], ◌∷◌}
use Prim.Native.Nat.{◌+◌, ◌≤◌, suc, zero, ℕ}
use native.Mathlib.Omega.{arith}
use lib.ListN.{length}
use Rattle.spec_orders.specs.declared.Layout.TheVariants.{Ring}
use Rattle.spec_orders.specs.Lists.{All, Distinct, In, elem, numbers_from, Rearranged}
use Rattle.spec_orders.specs.CircularOrder.{others, Restriction, WellFormed, EmptyGroup, Consecutive}
use Rattle.spec_orders.specs.Tree.{Forest, items, frontier, Consistent, Allowed}
use Rattle.spec_orders.specs.Form.{Canonical, Single, InForm, StandardOrder, standard}
use Rattle.spec_orders.specs.Reduce.{complement, reduce}
use Rattle.spec_orders.specs.Join.{side, join}
use Rattle.spec_orders.proofs.Rearranged.{perm_trans, perm_sym}
use Rattle.spec_orders.proofs.Members.{in_one, all_in, in_all, perm_in, elem_in, in_elem, all_but_one}
use Rattle.spec_orders.specs.Layout.{Contiguous}
use Rattle.spec_orders.proofs.Contiguous.{L}
use Rattle.spec_orders.proofs.CircleAndLine.{complement_out, consecutive_side}
use Rattle.spec_orders.proofs.Numbers.{numbers_length, numbers_in}
use Rattle.spec_orders.proofs.Laws.{canonical_forked}
use Rattle.spec_orders.proofs.Forms.{not_one, form_distinct}
use Rattle.spec_orders.proofs.Gives.{Gives}
use Rattle.spec_orders.proofs.ReduceOrders.{reduce_ok, reduce-frontier, reduce_single}
use Rattle.spec_orders.proofs.ReduceForm.{reduce_canonical}
use Rattle.spec_orders.proofs.ReduceIdle.{reduce-few, reduce-outside, reduce_all}
use Rattle.spec_orders.proofs.StandardOrders.{standard_allowed, standard_is}

-- The circular orders of an answer.
abbrev pub Allows : Option Forest → List ℕ → Type 0
Allows none ord = ⊥
Allows (some t) ord = Allowed t ord

-- From the line to the circle.
circular : (o : Option Forest) (t : Forest) (G : Restriction) → ((xs : L) → Gives o xs ↔ (Consistent t xs × Contiguous (side 1 G) xs)) → (ord : L) → Allows o ord ↔ (Allowed t ord × Consecutive G ord)
circular o t G h ord = (to o h, from o h)
  where
    line : (a : Allowed t ord) → Consecutive G ord → Contiguous (side 1 G) a.after
    line a c = (consecutive_side G 1 a.after).0 (subst (Consecutive G) a.one_first c)

    to : (o : Option Forest) → ((xs : L) → Gives o xs ↔ (Consistent t xs × Contiguous (side 1 G) xs)) → Allows o ord → Allowed t ord × Consecutive G ord
    to none h a = absurd a
    to (some u) h a =
        let r = (h a.after).0 a.order in
        (record { after = a.after; one_first = a.one_first; order = r.0 }, subst (Consecutive G) (sym a.one_first) ((consecutive_side G 1 a.after).1 r.1))

    from : (o : Option Forest) → ((xs : L) → Gives o xs ↔ (Consistent t xs × Contiguous (side 1 G) xs)) → Allowed t ord × Consecutive G ord → Allows o ord
    from none h p = (h p.0.after).1 (p.0.order, line p.0 p.1)
    from (some u) h p = record { after = p.0.after; one_first = p.0.one_first; order = (h p.0.after).1 (p.0.order, line p.0 p.1) }

-- A tree of any leaves, with at most one item, in the published form: the orders that are left, and the tree that comes out.
module _ (G : Restriction) (t : Forest) (one : Single (items t)) (c : Canonical t) where
  pub orders_left : (ord : List ℕ) → Allows (join G t) ord ↔ (Allowed t ord × Consecutive G ord)
  unfolding join
  orders_left = circular (reduce (side 1 G) t) t G (reduce_ok (side 1 G) t one (canonical_forked t c))

  pub tree-left : (t' : Forest) → Distinct (frontier t) → join G t ≡ some t' → Single (items t') × Canonical t' × Rearranged (frontier t) (frontier t')
  unfolding join
  tree-left t' d e = (
    reduce_single (side 1 G) t t' one (canonical_forked t c) e,
    reduce_canonical (side 1 G) t t' one c e d,
    reduce-frontier (side 1 G) t t' one (canonical_forked t c) e,
  )

module _ (n : ℕ) (G : Restriction) (t : Forest) (f : InForm n t) where
  pub join_orders : (ord : List ℕ) → Allows (join G t) ord ↔ (Allowed t ord × Consecutive G ord)
  join_orders = orders_left G t f.single f.canonical

  -- Impossible: the restriction is consecutive in no allowed order.
  pub join_none : (join G t ≡ none) ↔ ((ord : List ℕ) → Allowed t ord → Consecutive G ord → ⊥)
  join_none = ((λ e ord a c. subst (λ o. Allows o ord) e ((join_orders ord).1 (a, c))), (λ h. by_answer h (join G t) refl))
    where
      by_answer : ((ord : List ℕ) → Allowed t ord → Consecutive G ord → ⊥) → (o : Option Forest) → join G t ≡ o → join G t ≡ none
      by_answer h none e = e
      by_answer h (some u) e = let r = (join_orders (standard u)).0 (subst (λ o. Allows o (standard u)) (sym e) (standard_allowed u)) in absurd (h (standard u) r.0 r.1)

-- A tree comes out.
pub record Joined (n : ℕ) (G : Restriction) (t t' : Forest) : Type 0 where
  pub form : InForm n t'
  pub leaves : Rearranged (frontier t) (frontier t')
  pub orders : (ord : List ℕ) → Allowed t' ord ↔ (Allowed t ord × Consecutive G ord)
  pub standard-first : StandardOrder Ring n t' (standard t')

join_form : (n : ℕ) (G : Restriction) (t t' : Forest) → InForm n t → join G t ≡ some t' → InForm n t' × Rearranged (frontier t) (frontier t')
join_form n G t t' f e =
    let r = tree-left G t f.single f.canonical t' (form_distinct n t f) e in
    (record { single = r.0; canonical = r.1; all_leaves = perm_trans f.all_leaves r.2 }, r.2)

pub join_some : (n : ℕ) (G : Restriction) (t t' : Forest) → InForm n t → join G t ≡ some t' → Joined n G t t'
join_some n G t t' f e =
    let r = join_form n G t t' f e in
    record { form = r.0; leaves = r.1; orders = λ ord. subst (λ o. Allows o ord ↔ (Allowed t ord × Consecutive G ord)) e (join_orders n G t f ord); standard-first = standard_is n t' r.0 }

-- Only one leaf, x, can be in the restriction (b is true), or outside it: the tree stays.
join-stays : (n : ℕ) (G : Restriction) (t : Forest) → InForm n t → (b : Bool) (x : ℕ) → ((y : ℕ) → In y (1 ∷ others n) → G y ≡ b → y ≡ x) → join G t ≡ some t
unfolding join side
join-stays n G t f b x h = go (G 1) refl b h
  where
    other_of : (y : ℕ) → In y (frontier t) → In y (others n)
    other_of y i = perm_in y (perm_sym f.all_leaves) i

    not_b : (c b : Bool) → (c ≡ b → ⊥) → c ≡ not b
    not_b true true u = absurd (u refl)
    not_b true false u = refl
    not_b false true u = refl
    not_b false false u = absurd (u refl)

    -- Leaf 1 is x, so no other leaf is.
    all_not : (b : Bool) → G 1 ≡ b → ((y : ℕ) → In y (1 ∷ others n) → G y ≡ b → y ≡ x) → All (λ y. G y ≡ not b) (frontier t)
    all_not b q h =
        in_all (λ y. G y ≡ not b) (frontier t) (λ y i. not_b (G y) b (λ e. let r = not_one n y (other_of y i) in let u = h y (inr (other_of y i)) e in let v = h 1 (inl refl) q in omega arith))

    few : (S : Restriction) → ((y : ℕ) → In y (frontier t) → S y ≡ true → y ≡ x) → reduce S t ≡ some t
    few S k = reduce-few S t f.single f.canonical (form_distinct n t f) x k

    go : (c : Bool) → G 1 ≡ c → (b : Bool) → ((y : ℕ) → In y (1 ∷ others n) → G y ≡ b → y ≡ x) → reduce (cond c (complement G) G) t ≡ some t
    go true q true h = reduce_all (complement G) t f.single (complement_out G (frontier t) (all_not true q h))
    go false q false h = reduce_all G t f.single (all_not false q h)
    go true q false h = few (complement G) (λ y i e. h y (inr (other_of y i)) (sym (not-not (G y)) ∙ ap not e))
    go false q true h = few G (λ y i e. h y (inr (other_of y i)) e)

-- An empty group changes no tree.
pub empty_joins : (G : Restriction) (t : Forest) → EmptyGroup G → Single (items t) → join G t ≡ some t
unfolding join side
empty_joins G t e one = rw (e 1) (reduce-outside G t one (in_all (λ y. G y ≡ false) (frontier t) (λ y i. e y)))

pub join_idle : (n : ℕ) (l : List ℕ) (t : Forest) → WellFormed n l → InForm n t → (length l ≡ 0) ⊎ (length l ≡ 1) ⊎ (length l + 1 ≡ n) ⊎ (length l ≡ n) → join (elem l) t ≡ some t
join_idle n [] t w f e = empty_joins (elem []) t (λ x. refl) f.single
join_idle n (x ∷ l) t w f (inl e) = absurd (omega arith)
join_idle n (x ∷ l) t w f (inr (inl e)) = one_leaf l e
  where
    one_leaf : (l : List ℕ) → suc (length l) ≡ 1 → join (elem (x ∷ l)) t ≡ some t
    one_leaf (z ∷ l) e = absurd (omega arith)
    one_leaf [] e = join-stays n (elem (x ∷ [])) t f true x (λ y i q. in_one x y (elem_in (x ∷ []) y q))
join_idle n (x ∷ l) t w f (inr (inr e)) = most_leaves n w f (size e)
  where
    size : (suc (length l) + 1 ≡ n) ⊎ (suc (length l) ≡ n) → n ≤ suc (suc (length l))
    size (inl e) = omega arith
    size (inr e) = omega arith

    most_leaves : (n : ℕ) → WellFormed n (x ∷ l) → InForm n t → n ≤ suc (suc (length l)) → join (elem (x ∷ l)) t ≡ some t
    most_leaves zero w f e = absurd (omega arith)
    most_leaves (suc n) w f e =
        let r = all_but_one (x ∷ l) (numbers_from 1 (suc n)) w.different (λ y i. let b = all_in (λ b. (1 ≤ b) × (b ≤ suc n)) y (x ∷ l) w.in_range i in numbers_in 1 (suc n) y b.0 (omega (arith, b.1))) (omega (arith, numbers_length 1 (suc n))) in
        join-stays (suc n) (elem (x ∷ l)) t f false r.0 (λ y i q. r.1 y i (λ j. true≢false (sym (in_elem (x ∷ l) y j) ∙ q)))
