-- Leaves that are in none of the restrictions can count as one: an order of the others and of one of them stands for a circular order of all.
use mathlib.Core.Path.{◌∙◌, ◌≡◌, ap, refl, subst, sym}
use mathlib.Core.Logic.{◌≢◌, ◌⊎◌, inl, inr}
use mathlib.Core.Bool.{Bool, cond, false, not, true}
use mathlib.Core.List.{List, [], ◌++◌, ◌∷◌, append_assoc}
use Prim.Native.Nat.{ℕ}
use native.Mathlib.Decide.{ℕ_discrete}
use native.Mathlib.Omega.{arith}
use borrow.Author.Tests.{eq-eqb, ne_eqb}
use lib.Dec.{eqb}
use Rattle.spec_orders.specs.Lists.{All, Distinct, In, those_of, Pick, here, there, Rearranged, done, next}
use Rattle.spec_orders.specs.CircularOrder.{others, Restriction, Consecutive}
use Rattle.spec_orders.specs.Tree.{items}
use Rattle.spec_orders.specs.Form.{Rises, Rising}
use Rattle.spec_orders.specs.Join.{leaf_items}
use Rattle.spec_orders.proofs.ListLaws.{all_append}
use Rattle.spec_orders.proofs.Rearranged.{perm_refl, perm_trans, perm_insert, perm_skip, perm_left, perm_all, perm_distinct, perm_uncons, pick_middle}
use Rattle.spec_orders.proofs.Members.{in_all, perm_in}
use Rattle.spec_orders.proofs.Numbers.{in_those, those_all, those_distinct}
use Rattle.spec_orders.proofs.Forms.{not_one, others_distinct}

-- ---- some of the leaves

module _ {A : Type 0} (p : A → Bool) where
  those_append : (a b : List A) → those_of p (a ++ b) ≡ those_of p a ++ those_of p b
  those_append [] b = refl
  those_append (x ∷ a) b = go (p x) (those_append a b)
    where
      go : (c : Bool) → those_of p (a ++ b) ≡ those_of p a ++ those_of p b → cond c (x ∷ those_of p (a ++ b)) (those_of p (a ++ b)) ≡ cond c (x ∷ those_of p a) (those_of p a) ++ those_of p b
      go true h = ap (λ l. x ∷ l) h
      go false h = h

  pick_passed : {x : A} {l k : List A} → p x ≡ true → Pick x l k → Pick x (those_of p l) (those_of p k)
  pick_passed {x} e (here {l = l}) = subst (λ c. Pick x (cond c (x ∷ those_of p l) (those_of p l)) (those_of p l)) (sym e) here
  pick_passed {x} e (there {y = y} {l = l} {m = k} q) = go (p y) (pick_passed e q)
    where
      go : (c : Bool) → Pick x (those_of p l) (those_of p k) → Pick x (cond c (y ∷ those_of p l) (those_of p l)) (cond c (y ∷ those_of p k) (those_of p k))
      go true h = there h
      go false h = h

  pick_other : {x : A} {l k : List A} → p x ≡ false → Pick x l k → those_of p l ≡ those_of p k
  pick_other {x} e (here {l = l}) = ap (λ c. cond c (x ∷ those_of p l) (those_of p l)) e
  pick_other e (there {y = y} q) = ap (λ l. cond (p y) (y ∷ l) l) (pick_other e q)

  perm_those : {l m : List A} → Rearranged l m → Rearranged (those_of p l) (those_of p m)
  perm_those done = done
  perm_those (next {x = x} {l = l} {k = k} {m = m} q r) = go (p x) refl (perm_those r)
    where
      go : (c : Bool) → p x ≡ c → Rearranged (those_of p k) (those_of p m) → Rearranged (those_of p l) (cond c (x ∷ those_of p m) (those_of p m))
      go true e h = next (pick_passed e q) h
      go false e h = subst (λ f. Rearranged f (those_of p m)) (sym (pick_other e q)) h

  -- Those that fail the test, and those that pass it.
  perm_parts : (l : List A) → Rearranged l (those_of (λ x. not (p x)) l ++ those_of p l)
  perm_parts [] = done
  perm_parts (x ∷ l) = go (p x) (perm_parts l)
    where
      go : (c : Bool) → Rearranged l (those_of (λ x. not (p x)) l ++ those_of p l)
          → Rearranged (x ∷ l) (cond (not c) (x ∷ those_of (λ x. not (p x)) l) (those_of (λ x. not (p x)) l) ++ cond c (x ∷ those_of p l) (those_of p l))
      go true h = perm_insert (pick_middle (those_of (λ x. not (p x)) l) x (those_of p l)) h
      go false h = perm_skip x h

-- Rising leaves rise where some are left out.
rises_those : (p : ℕ → Bool) (m : ℕ) (l : List ℕ) → Rises m (items (leaf_items l)) → Rises m (items (leaf_items (those_of p l)))
rises_those p m [] h = tt
rises_those p m (b ∷ l) h = go (p b) (rises_those p b l h.1)
  where
    below : (k : List ℕ) → Rises b (items (leaf_items k)) → Rises m (items (leaf_items k))
    below [] r = tt
    below (c ∷ k) r = (omega (arith, h.0, r.0), r.1)

    go : (c : Bool) → Rises b (items (leaf_items (those_of p l))) → Rises m (items (leaf_items (cond c (b ∷ those_of p l) (those_of p l))))
    go true r = (h.0, r)
    go false r = below (those_of p l) r

pub rising_those : (p : ℕ → Bool) (l : List ℕ) → Rising (items (leaf_items l)) → Rising (items (leaf_items (those_of p l)))
rising_those p [] h = tt
rising_those p (b ∷ l) h = go (p b) (rises_those p b l h)
  where
    any : (k : List ℕ) → Rises b (items (leaf_items k)) → Rising (items (leaf_items k))
    any [] r = tt
    any (c ∷ k) r = r.1

    go : (c : Bool) → Rises b (items (leaf_items (those_of p l))) → Rising (items (leaf_items (cond c (b ∷ those_of p l) (those_of p l))))
    go true r = r
    go false r = any (those_of p l) r

-- A restriction that is consecutive stays so where leaves are left out.
pub narrow_consecutive : (keep : ℕ → Bool) (G : Restriction) (ord : List ℕ) → Consecutive G ord → Consecutive G (those_of keep ord)
narrow_consecutive keep G ord c = record {
  before = those_of keep c.before;
  after = those_of keep c.after;
  run = those_of keep c.run;
  rest = those_of keep c.rest;
  cut = ap (those_of keep) c.cut ∙ those_append keep c.before c.after;
  turned = sym (those_append keep c.after c.before) ∙ ap (those_of keep) c.turned ∙ those_append keep c.run c.rest;
  in_run = those_all keep (λ z. G z ≡ true) c.run c.in_run;
  out_rest = those_all keep (λ z. G z ≡ false) c.rest c.out_rest;
}

-- ---- leaves put in

-- Behind each leaf y the leaves e y; behind x the leaves ds, and behind no other.
unfoldable pub widen : (ℕ → List ℕ) → List ℕ → List ℕ
widen e [] = []
widen e (y ∷ l) = y ∷ (e y ++ widen e l)

abbrev pub behind : ℕ → List ℕ → ℕ → List ℕ
behind x ds y = cond (eqb y x) ds []

module _ (e : ℕ → List ℕ) where
  widen_append : (a b : List ℕ) → widen e (a ++ b) ≡ widen e a ++ widen e b
  unfolding widen
  widen_append [] b = refl
  widen_append (y ∷ a) b = ap (λ l. y ∷ (e y ++ l)) (widen_append a b) ∙ ap (λ l. y ∷ l) (sym (append_assoc (e y) (widen e a) (widen e b)))

  -- A restriction that has with each leaf those behind it, or none of them, stays consecutive.
  module _ (G : Restriction) (alike : (y : ℕ) → All (λ z. G z ≡ G y) (e y)) where
    widen_all : (b : Bool) (l : List ℕ) → All (λ z. G z ≡ b) l → All (λ z. G z ≡ b) (widen e l)
    unfolding widen
    widen_all b [] h = tt
    widen_all b (y ∷ l) h = (h.0, all_append _ (e y) (widen e l) (subst (λ c. All (λ z. G z ≡ c) (e y)) h.0 (alike y)) (widen_all b l h.1))

    pub widen_consecutive : (ord : List ℕ) → Consecutive G ord → Consecutive G (widen e ord)
    widen_consecutive ord c = record {
      before = widen e c.before;
      after = widen e c.after;
      run = widen e c.run;
      rest = widen e c.rest;
      cut = ap (widen e) c.cut ∙ widen_append c.before c.after;
      turned = sym (widen_append c.after c.before) ∙ ap (widen e) c.turned ∙ widen_append c.run c.rest;
      in_run = widen_all true c.run c.in_run;
      out_rest = widen_all false c.rest c.out_rest;
    }

-- Such is a restriction that has all of ds with x, or none of them.
pub behind_alike : (G : Restriction) (x : ℕ) (ds : List ℕ) → All (λ z. G z ≡ G x) ds → (y : ℕ) → All (λ z. G z ≡ G y) (behind x ds y)
behind_alike G x ds h y = go (ℕ_discrete y x)
  where
    go : Dec (y ≡ x) → All (λ z. G z ≡ G y) (behind x ds y)
    go (yes e) = rw (eq-eqb y x e, e) h
    go (no u) = rw (ne_eqb y x u) tt

-- Every leaf is there once: x is not in the list; it is; there are no leaves to put in.
module _ (x : ℕ) (ds : List ℕ) where
  widen_none : (l : List ℕ) → All (λ y. x ≢ y) l → widen (behind x ds) l ≡ l
  unfolding widen
  widen_none [] h = refl
  widen_none (y ∷ l) h = rw (ne_eqb y x (λ e. h.0 (sym e)), widen_none l h.1)

  widen_one : (l : List ℕ) → Distinct l → In x l → Rearranged (ds ++ l) (widen (behind x ds) l)
  unfolding widen
  widen_one [] d i = absurd i
  widen_one (y ∷ l) d i = go (ℕ_discrete x y) i (widen_one l d.1)
    where
      go : Dec (x ≡ y) → In x (y ∷ l) → (In x l → Rearranged (ds ++ l) (widen (behind x ds) l)) → Rearranged (ds ++ (y ∷ l)) (y ∷ (cond (eqb y x) ds [] ++ widen (behind x ds) l))
      go (yes e) i h = rw (eq-eqb y x (sym e), widen_none l (subst (λ z. All (λ w. z ≢ w) l) (sym e) d.0)) (next (pick_middle ds y l) (perm_refl (ds ++ l)))
      go (no u) (inl e) h = absurd (u e)
      go (no u) (inr i) h = rw (ne_eqb y x (λ e. u (sym e))) (next (pick_middle ds y l) (h i))

widen_nothing : (x : ℕ) (l : List ℕ) → widen (behind x []) l ≡ l
unfolding widen
widen_nothing x [] = refl
widen_nothing x (y ∷ l) = go (eqb y x) (widen_nothing x l)
  where
    go : (c : Bool) → widen (behind x []) l ≡ l → y ∷ (cond c [] [] ++ widen (behind x []) l) ≡ y ∷ l
    go true h = ap (λ k. y ∷ k) h
    go false h = ap (λ k. y ∷ k) h

-- ---- circular orders

-- Of the leaves 2 to n, those that are kept, and those that are dropped.
abbrev pub kept : ℕ → (ℕ → Bool) → List ℕ
kept n keep = those_of keep (others n)

abbrev pub dropped : ℕ → (ℕ → Bool) → List ℕ
dropped n keep = those_of (λ b. not (keep b)) (others n)

module _ (n : ℕ) (keep : ℕ → Bool) where
  pub narrow_order : {xs : List ℕ} → Rearranged (others n) xs → Rearranged (kept n keep) (those_of keep xs)
  narrow_order p = perm_those keep p

  -- The dropped leaves are put behind x, which is kept, or none is dropped.
  pub widen_order : (x : ℕ) → In x (1 ∷ kept n keep) ⊎ (dropped n keep ≡ []) → {ys : List ℕ} → Rearranged (kept n keep) ys
      → Rearranged (others n) (behind x (dropped n keep) 1 ++ widen (behind x (dropped n keep)) ys)
  unfolding widen
  widen_order x o {ys} p = perm_trans (perm_parts keep (others n)) (perm_trans (perm_left ds p) (perm_uncons (perm_trans front (all o))))
    where
      ds : List ℕ
      ds = dropped n keep

      front : Rearranged (1 ∷ (ds ++ ys)) (ds ++ (1 ∷ ys))
      front = perm_insert (pick_middle ds 1 ys) (perm_refl (ds ++ ys))

      different : Distinct (1 ∷ ys)
      different = (
        perm_all (λ y. 1 ≢ y) p (in_all (λ y. 1 ≢ y) (kept n keep) (λ y i e. omega (arith, not_one n y (in_those keep (others n) y i).1, e))),
        perm_distinct p (those_distinct keep (others n) (others_distinct n)),
      )

      all : In x (1 ∷ kept n keep) ⊎ (ds ≡ []) → Rearranged (ds ++ (1 ∷ ys)) (widen (behind x ds) (1 ∷ ys))
      all (inl i) = widen_one x ds (1 ∷ ys) different (perm_in x (perm_skip 1 p) i)
      all (inr e) = subst (λ d. Rearranged (d ++ (1 ∷ ys)) (widen (behind x d) (1 ∷ ys))) (sym e) (subst (λ l. Rearranged (1 ∷ ys) l) (sym (widen_nothing x (1 ∷ ys))) (perm_refl (1 ∷ ys)))
