-- Rearrangements of a list: take an element out, put it in front, and go on with what is left.
use mathlib.Core.Path.{◌∙◌, ◌≡◌, ap, refl, subst, sym}
use mathlib.Core.Logic.{◌≢◌, ◌⊎◌, inl, inr}
use mathlib.Core.List.{List, [], ◌++◌, ◌∷◌, append-nil}
use Prim.Native.Nat.{◌≤◌, suc}
use native.Mathlib.Omega.{arith}
use lib.ListN.{length}
use Rattle.spec_orders.specs.Lists.{All, Distinct, Pick, here, there, Rearranged, done, next}

module _ {A : Type 0} where
  pub perm_refl : (f : List A) → Rearranged f f
  perm_refl [] = done
  perm_refl (t ∷ f) = next here (perm_refl f)

  -- Two picks in a row in the other order.
  swap_picks : {t u : A} {f g h : List A} → Pick u f g → Pick t g h → (k : List A) × Pick t f k × Pick u k h
  swap_picks here q = (_, there q, here)
  swap_picks (there p) here = (_, here, p)
  swap_picks (there p) (there q) =
      let r = swap_picks p q in
      (_, there r.1, there r.2)

  -- What is picked from the rearrangement is picked from the list.
  pull : {t : A} {f g h : List A} → Rearranged f g → Pick t g h → (k : List A) × Pick t f k × Rearranged k h
  pull (next k p) here = (_, k, p)
  pull (next k p) (there q) =
      let r = pull p q in
      let s = swap_picks k r.1 in
      (_, s.1, next s.2 r.2)
  pull {t = t} {h = h} done x4 = elim x4 [ ]

  pub perm_trans : {f g h : List A} → Rearranged f g → Rearranged g h → Rearranged f h
  perm_trans p done = p
  perm_trans {f = f} p (next k q) =
      let r = pull p k in
      next r.1 (perm_trans {f = r.0} r.2 q)

  pub perm_insert : {t : A} {f g h : List A} → Pick t f g → Rearranged h g → Rearranged (t ∷ h) f
  perm_insert here p = next here p
  perm_insert (there k) (next j p) = next (there j) (perm_insert k p)

  pub perm_sym : {f g : List A} → Rearranged f g → Rearranged g f
  perm_sym done = done
  perm_sym (next k p) = perm_insert k (perm_sym p)

  pub pick_all : (P : A → Type 0) {t : A} {f g : List A} → Pick t f g → All P f → P t × All P g
  pick_all P here h = h
  pick_all P (there k) h =
      let r = pick_all P k h.1 in
      (r.0, (h.0, r.1))

  pub perm_all : (P : A → Type 0) {f g : List A} → Rearranged f g → All P f → All P g
  perm_all P done h = h
  perm_all P (next k p) h =
      let r = pick_all P k h in
      (r.0, perm_all P p r.1)

  -- A rearrangement of parts, each of them rearranged.
  pub perm_skip : (t : A) {f g : List A} → Rearranged f g → Rearranged (t ∷ f) (t ∷ g)
  perm_skip t p = next here p

  pub perm_left : (a : List A) {f g : List A} → Rearranged f g → Rearranged (a ++ f) (a ++ g)
  perm_left [] p = p
  perm_left (t ∷ a) p = next here (perm_left a p)

  pub pick_front : {t : A} {f g : List A} (b : List A) → Pick t f g → Pick t (f ++ b) (g ++ b)
  pick_front b here = here
  pick_front b (there k) = there (pick_front b k)

  pub pick_middle : (a : List A) (t : A) (b : List A) → Pick t (a ++ (t ∷ b)) (a ++ b)
  pick_middle [] t b = here
  pick_middle (x ∷ a) t b = there (pick_middle a t b)

  pub perm_append : {a b f g : List A} → Rearranged a b → Rearranged f g → Rearranged (a ++ f) (b ++ g)
  perm_append done q = q
  perm_append {f = f} (next k p) q = next (pick_front f k) (perm_append p q)

  pub perm_swap : (a b : List A) → Rearranged (a ++ b) (b ++ a)
  perm_swap a [] = subst (λ l. Rearranged l a) (sym (append-nil a)) (perm_refl a)
  perm_swap a (x ∷ b) = next (pick_middle a x b) (perm_swap a b)

  pub pick_length : {t : A} {f g : List A} → Pick t f g → length f ≡ suc (length g)
  pick_length here = refl
  pick_length (there k) = ap suc (pick_length k)

  pub perm_length : {f g : List A} → Rearranged f g → length f ≡ length g
  perm_length done = refl
  perm_length (next k p) = pick_length k ∙ ap suc (perm_length p)

  pub pick_distinct : {t : A} {f g : List A} → Pick t f g → Distinct f → All (λ y. t ≢ y) g × Distinct g
  pick_distinct here d = d
  pick_distinct (there {x = t} {y = u} k) d =
      let r = pick_distinct k d.1 in
      let a = pick_all (λ y. u ≢ y) k d.0 in
      ((λ e. a.0 (sym e), r.0), (a.1, r.1))

  pub perm_distinct : {f g : List A} → Rearranged f g → Distinct f → Distinct g
  perm_distinct done d = d
  perm_distinct (next k p) d =
      let r = pick_distinct k d in
      (perm_all _ p r.0, perm_distinct p r.1)

  -- Two elements.
  pub two_picks : (t u : A) {us : List A} → Rearranged (t ∷ (u ∷ [])) us → (us ≡ t ∷ (u ∷ [])) ⊎ (us ≡ u ∷ (t ∷ []))
  two_picks t u (next here (next here done)) = inl refl
  two_picks t u (next (there here) (next here done)) = inr refl
  two_picks t u (next here (next here (next {k = k} {m = m} x34 _))) = elim x34 [ ]
  two_picks t u (next here (next {m = m} (there x33) _)) = elim x33 [ ]
  two_picks t u (next (there here) (next here (next {k = k} {m = m} x47 _))) = elim x47 [ ]
  two_picks t u (next (there here) (next {m = m} (there x46) _)) = elim x46 [ ]
  two_picks t u (next {m = m} (there (there x32)) _) = elim x32 [ ]

  pub nil_perm : {q : List A} → Rearranged [] q → q ≡ []
  nil_perm done = refl
  nil_perm (next {k = k} {m = m} x6 _) = elim x6 [ ]

  -- Where the picked element stood.
  pick_split : {t : A} {f g : List A} → Pick t f g → (a : List A) × (b : List A) × (f ≡ a ++ (t ∷ b)) × (g ≡ a ++ b)
  pick_split (here {l = f}) = ([], f, refl, refl)
  pick_split (there {y = u} k) = let r = pick_split k in (u ∷ r.0, r.1, ap (λ l. u ∷ l) r.2, ap (λ l. u ∷ l) r.3)

  pub pull_out : {t : A} {f g : List A} → Rearranged (t ∷ f) g → (a : List A) × (b : List A) × (g ≡ a ++ (t ∷ b)) × Rearranged f (a ++ b)
  pull_out p = go (perm_sym p)
    where
      go : {t : A} {f g : List A} → Rearranged g (t ∷ f) → (a : List A) × (b : List A) × (g ≡ a ++ (t ∷ b)) × Rearranged f (a ++ b)
      go {f = f} (next k p) = let r = pick_split k in (r.0, r.1, r.2, perm_sym (subst (λ l. Rearranged l f) r.3 p))

  -- At most one element.
  pub short_perm : {l m : List A} → Rearranged l m → length l ≤ 1 → m ≡ l
  short_perm done n = refl
  short_perm (next {x = x} here p) n = ap (λ l. x ∷ l) (short_perm p (omega arith))
  short_perm (next (there k) p) n = absurd (omega (arith, pick_length k))

  -- The same in front of two rearrangements.
  cancel_one : {x y : A} {l m k : List A} → x ≡ y → Pick x (y ∷ l) m → Rearranged m k → Rearranged l k
  cancel_one e here p = p
  cancel_one {l = l} {k = k} e (there {m = m} q) p = subst (λ y. Rearranged (y ∷ m) k → Rearranged l k) e (λ p. perm_trans (next q (perm_refl _)) p) p

  pub perm_uncons : {x : A} {l m : List A} → Rearranged (x ∷ l) (x ∷ m) → Rearranged l m
  perm_uncons (next k p) = cancel_one refl k p
