-- Members of a list and tests of them, lists with no element twice, and two ways to cut a list.
use mathlib.Core.Path.{◌∙◌, ◌≡◌, ap, ap₂, refl, subst, sym}
use mathlib.Core.Logic.{◌↔◌, ◌≢◌, ◌⊎◌, inl, inr, ⊎_map}
use mathlib.Core.Bool.{Bool, cond, false, true, true≢false}
use mathlib.Core.List.{List, [], ◌++◌, ◌∷◌, map, reverse, reverse-cons, head-eq_of_cons-eq, tail-eq_of_cons-eq}
use Prim.Native.Nat.{◌≤◌, suc, ℕ}
use native.Mathlib.Omega.{arith}
use borrow.Author.Tests.{eq-eqb, eqb-true}
use lib.Dec.{eqb}
use lib.ListN.{length}
use Rattle.spec_orders.specs.Lists.{All, Distinct, In, some_of, all_of, elem, Pick, here, there, Rearranged, done, next}
use Rattle.spec_orders.proofs.ListLaws.{all_left, all_right}
use Rattle.spec_orders.proofs.Rearranged.{perm_trans, perm_swap, pick_length}
use Rattle.spec_orders.proofs.Tests.{both}

module _ {A : Type 0} where
  -- A list that has an element.
  abbrev pub NonEmpty : List A → Type 0
  NonEmpty [] = ⊥
  NonEmpty (x ∷ l) = Unit {0}

  pub nonempty_left : (a b : List A) → NonEmpty a → NonEmpty (a ++ b)
  nonempty_left [] b h = absurd h
  nonempty_left (x ∷ a) b h = tt

  pub in_nonempty : (x : A) (l : List A) → In x l → NonEmpty l
  in_nonempty x [] h = h
  in_nonempty x (y ∷ l) h = tt

  pub in_length : (x : A) (l : List A) → In x l → 1 ≤ length l
  in_length x [] i = absurd i
  in_length x (y ∷ l) i = omega arith

  pub nothing_in : (l : List A) → ((x : A) → In x l → ⊥) → l ≡ []
  nothing_in [] h = refl
  nothing_in (y ∷ l) h = absurd (h y (inl refl))

  pub nil_not : (a : List A) (x : A) (b : List A) → [] ≡ a ++ (x ∷ b) → ⊥
  nil_not [] x b e = subst NonEmpty (sym e) tt
  nil_not (y ∷ a) x b e = subst NonEmpty (sym e) tt

  pub in_one : (x y : A) → In y (x ∷ []) → y ≡ x
  in_one x y (inl e) = e
  in_one x y (inr h) = absurd h

  pub in_left : (x : A) (a b : List A) → In x a → In x (a ++ b)
  in_left x [] b h = absurd h
  in_left x (y ∷ a) b (inl e) = inl e
  in_left x (y ∷ a) b (inr h) = inr (in_left x a b h)

  pub in_right : (x : A) (a b : List A) → In x b → In x (a ++ b)
  in_right x [] b h = h
  in_right x (y ∷ a) b h = inr (in_right x a b h)

  pub in_append : (x : A) (a b : List A) → In x (a ++ b) → In x a ⊎ In x b
  in_append x [] b h = inr h
  in_append x (y ∷ a) b (inl e) = inl (inl e)
  in_append x (y ∷ a) b (inr h) = ⊎_map inr (λ r. r) (in_append x a b h)

  pub all_in : (P : A → Type 0) (x : A) (l : List A) → All P l → In x l → P x
  all_in P x [] a h = absurd h
  all_in P x (y ∷ l) a (inl e) = subst P (sym e) a.0
  all_in P x (y ∷ l) a (inr h) = all_in P x l a.1 h

  pub in_all : (P : A → Type 0) (l : List A) → ((x : A) → In x l → P x) → All P l
  in_all P [] h = tt
  in_all P (y ∷ l) h = (h y (inl refl), in_all P l (λ x i. h x (inr i)))

  pub pick_in : {t : A} {f g : List A} (x : A) → Pick t f g → In x f → (x ≡ t) ⊎ In x g
  pick_in x here h = h
  pick_in x (there k) (inl e) = inr (inl e)
  pick_in x (there k) (inr h) = ⊎_map (λ e. e) inr (pick_in x k h)

  pub perm_in : {f g : List A} (x : A) → Rearranged f g → In x f → In x g
  perm_in x done h = h
  perm_in x (next k p) h = ⊎_map (λ e. e) (λ i. perm_in x p i) (pick_in x k h)

  pub perm_nonempty : {f g : List A} → Rearranged f g → NonEmpty f → NonEmpty g
  perm_nonempty done h = h
  perm_nonempty (next k p) h = tt

  pub distinct_left : (a b : List A) → Distinct (a ++ b) → Distinct a
  distinct_left [] b d = tt
  distinct_left (x ∷ a) b d = (all_left (λ y. x ≢ y) a b d.0, distinct_left a b d.1)

  pub distinct_right : (a b : List A) → Distinct (a ++ b) → Distinct b
  distinct_right [] b d = d
  distinct_right (x ∷ a) b d = distinct_right a b d.1

  pub apart : (x : A) (a b : List A) → Distinct (a ++ b) → In x a → In x b → ⊥
  apart x [] b d h k = h
  apart x (y ∷ a) b d (inl e) k = all_in (λ z. y ≢ z) x b (all_right (λ z. y ≢ z) a b d.0) k (sym e)
  apart x (y ∷ a) b d (inr h) k = apart x a b d.1 h k

  pub perm_reverse : (l : List A) → Rearranged l (reverse l)
  perm_reverse [] = done
  perm_reverse (x ∷ l) = rw (reverse-cons x l) (perm_trans (next here (perm_reverse l)) (perm_swap (x ∷ []) (reverse l)))

  -- Two ways to cut a list: the first parts are one list and more.
  abbrev pub Later : List A → List A → List A → List A → Type 0
  Later a b c d = (w : List A) × (c ≡ a ++ w) × (b ≡ w ++ d)

  pub cut : (a : List A) {b : List A} (c : List A) {d : List A} → a ++ b ≡ c ++ d → Later a b c d ⊎ Later c d a b
  cut [] c e = inl (c, refl, e)
  cut (x ∷ a) [] e = inr (x ∷ a, refl, sym e)
  cut (x ∷ a) {b} (y ∷ c) {d} e = go (cut a c (tail-eq_of_cons-eq e))
    where
      go : Later a b c d ⊎ Later c d a b → Later (x ∷ a) b (y ∷ c) d ⊎ Later (y ∷ c) d (x ∷ a) b
      go (inl h) = inl (h.0, rw (h.1, head-eq_of_cons-eq e) refl, h.2)
      go (inr h) = inr (h.0, rw (h.1, head-eq_of_cons-eq e) refl, h.2)

-- A rearrangement of what a map gives is what it gives of a rearrangement.
module _ {A B : Type 0} (g : A → B) where
  pub pick_map : {t : A} {l m : List A} → Pick t l m → Pick (g t) (map g l) (map g m)
  pick_map here = here
  pick_map (there k) = there (pick_map k)

  pub perm_map : {l m : List A} → Rearranged l m → Rearranged (map g l) (map g m)
  perm_map done = done
  perm_map (next k p) = next (pick_map k) (perm_map p)

  record Picked (l : List A) (t : B) (m : List B) : Type 0 where
    elt : A
    rest : List A
    pick : Pick elt l rest
    is : t ≡ g elt
    left : m ≡ map g rest

  pick_unmap : {t : B} {q m : List B} (l : List A) → q ≡ map g l → Pick t q m → Picked l t m
  pick_unmap [] e here = absurd (subst NonEmpty e tt)
  pick_unmap [] e (there k) = absurd (subst NonEmpty e tt)
  pick_unmap (x ∷ l) e here = record { elt = x; rest = l; pick = here; is = head-eq_of_cons-eq e; left = tail-eq_of_cons-eq e }
  pick_unmap (x ∷ l) e (there {l = l'} k) =
      let r = pick_unmap {q = l'} l (tail-eq_of_cons-eq e) k in
      record { elt = r.elt; rest = x ∷ r.rest; pick = there r.pick; is = r.is; left = ap₂ ◌∷◌ (head-eq_of_cons-eq e) r.left }

  pub perm_unmap : {q us : List B} (l : List A) → q ≡ map g l → Rearranged q us → (m : List A) × Rearranged l m × (us ≡ map g m)
  perm_unmap [] e done = ([], done, refl)
  perm_unmap (x ∷ l) e done = absurd (subst NonEmpty (sym e) tt)
  perm_unmap l e (next k p) =
      let r = pick_unmap l e k in
      let s = perm_unmap r.rest r.left p in
      (r.elt ∷ s.0, next r.pick s.1, ap₂ ◌∷◌ r.is s.2)

-- Tests of the elements of a list.
module _ {A : Type 0} (p : A → Bool) where
  pub of_some : (l : List A) → some_of p l ≡ true → (x : A) × In x l × (p x ≡ true)
  of_some [] e = absurd (true≢false (sym e))
  of_some (x ∷ l) e = go (p x) refl e (of_some l)
    where
      go : (b : Bool) → p x ≡ b → cond b true (some_of p l) ≡ true → (some_of p l ≡ true → (y : A) × In y l × (p y ≡ true)) → (y : A) × In y (x ∷ l) × (p y ≡ true)
      go true q e h = (x, inl refl, q)
      go false q e h = let r = h e in (r.0, inr r.1, r.2)

  pub to_some : (l : List A) (x : A) → In x l → p x ≡ true → some_of p l ≡ true
  to_some [] x i e = absurd i
  to_some (y ∷ l) x (inl d) e = ap (λ b. cond b true (some_of p l)) (ap p (sym d) ∙ e)
  to_some (y ∷ l) x (inr i) e = go (p y) (to_some l x i e)
    where
      go : (b : Bool) → some_of p l ≡ true → cond b true (some_of p l) ≡ true
      go true h = refl
      go false h = h

  pub all_decides : (P : A → Type 0) → ((x : A) → (p x ≡ true) ↔ P x) → (l : List A) → (all_of p l ≡ true) ↔ All P l
  all_decides P h [] = ((λ e. tt), (λ a. refl))
  all_decides P h (x ∷ l) = both (h x) (all_decides P h l)

  pub all_passed : (l : List A) → (all_of p l ≡ true) ↔ ((x : A) → In x l → p x ≡ true)
  all_passed l =
      let d = all_decides (λ x. p x ≡ true) (λ x. ((λ h. h), (λ h. h))) l in
      ((λ e x. all_in (λ x. p x ≡ true) x l (d.0 e)), (λ h. d.1 (in_all (λ x. p x ≡ true) l h)))

-- The test of membership.
pub elem_in : (l : List ℕ) (x : ℕ) → elem l x ≡ true → In x l
elem_in l x e = let r = of_some (eqb x) l e in subst (λ z. In z l) (sym (eqb-true x r.0 r.2)) r.1

pub in_elem : (l : List ℕ) (x : ℕ) → In x l → elem l x ≡ true
in_elem l x i = to_some (eqb x) l x i (eq-eqb x x refl)

-- A member can be picked.
pub in_pick : (x : ℕ) (l : List ℕ) → In x l → (m : List ℕ) × Pick x l m
in_pick x [] h = absurd h
in_pick x (y ∷ l) (inl e) = (l, subst (λ z. Pick x (z ∷ l) l) e here)
in_pick x (y ∷ l) (inr h) = let r = in_pick x l h in (y ∷ r.0, there r.1)

-- l is a part of m, which has at most one element more: only one element of m is not in l.
pub all_but_one : (l m : List ℕ) → Distinct l → ((y : ℕ) → In y l → In y m) → length m ≤ suc (length l) → (x : ℕ) × ((y : ℕ) → In y m → (In y l → ⊥) → y ≡ x)
all_but_one [] [] d h n = (0, λ y i. absurd i)
all_but_one [] (x ∷ []) d h n = (x, λ y i u. in_one x y i)
all_but_one [] (x ∷ (z ∷ m)) d h n = absurd (omega arith)
all_but_one (a ∷ l) m d h n =
    let p = in_pick a m (h a (inl refl)) in
    let r = all_but_one l p.0 d.1 (λ y i. left p.0 y (λ e. all_in (λ z. a ≢ z) y l d.0 i (sym e)) (pick_in y p.1 (h y (inr i)))) (omega (arith, pick_length p.1)) in
    (r.0, λ y i u. r.1 y (left p.0 y (λ e. u (inl e)) (pick_in y p.1 i)) (λ j. u (inr j)))
  where
    left : (k : List ℕ) (y : ℕ) → (y ≢ a) → (y ≡ a) ⊎ In y k → In y k
    left k y u (inl e) = absurd (u e)
    left k y u (inr i) = i
