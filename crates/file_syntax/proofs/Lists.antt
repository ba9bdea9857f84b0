-- Lists with no element twice: appended, mapped, and too long to be among others.
use mathlib.Core.Path.{◌≡◌, refl, sym, ◌∙◌, ap, subst}
use mathlib.Core.Logic.{◌≢◌, ◌⊎◌, inl, inr}
use mathlib.Core.Bool.{Bool, true, false, true≢false}
use mathlib.Core.List.{List, [], ◌∷◌, ◌++◌, map}
use Prim.Native.Nat.{ℕ, suc, ◌≤◌, ◌*◌}
use native.Mathlib.Omega.{arith}
use lib.ListN.{length, length-append}
use Rattle.spec_orders.specs.Lists.{Distinct, In}
use Rattle.spec_orders.proofs.ListLaws.{all_append}
use Rattle.spec_orders.proofs.Members.{all_in, in_all, in_append}

pub clash : {A : Type 0} {c : Bool} → c ≡ true → c ≡ false → A
clash p q = absurd (true≢false (sym p ∙ q))

module _ {A : Type 0} where
  pub distinct_append : (a b : List A) → Distinct a → Distinct b → ((x : A) → In x a → In x b → ⊥) → Distinct (a ++ b)
  distinct_append [] b da db h = db
  distinct_append (x ∷ a) b da db h = (
    all_append (λ y. x ≢ y) a b da.0 (in_all (λ y. x ≢ y) b (λ y i e. h x (inl refl) (subst (λ z. In z b) (sym e) i))),
    distinct_append a b da.1 db (λ y i. h y (inr i)),
  )

  -- One element more.
  pub distinct_snoc : (a : List A) (x : A) → Distinct a → (In x a → ⊥) → Distinct (a ++ (x ∷ []))
  distinct_snoc a x d n = distinct_append a (x ∷ []) d (tt, tt) only
    where
      only : (y : A) → In y a → In y (x ∷ []) → ⊥
      only y i (inl e) = n (subst (λ z. In z a) e i)
      only y i (inr j) = j

  -- A list less one of its members.
  record Less (x : A) (m : List A) : Type 0 where
    rest : List A
    fewer : length m ≡ suc (length rest)
    keeps : (y : A) → In y m → (x ≡ y → ⊥) → In y rest

  less : (x : A) (m : List A) → In x m → Less x m
  less x [] h = absurd h
  less x (z ∷ m) (inl e) = record { rest = m; fewer = refl; keeps = keep }
    where
      keep : (y : A) → In y (z ∷ m) → (x ≡ y → ⊥) → In y m
      keep y (inl q) n = absurd (n (e ∙ sym q))
      keep y (inr i) n = i
  less x (z ∷ m) (inr h) = go (less x m h)
    where
      go : Less x m → Less x (z ∷ m)
      go l = record { rest = z ∷ l.rest; fewer = ap suc l.fewer; keeps = keep }
        where
          keep : (y : A) → In y (z ∷ m) → (x ≡ y → ⊥) → In y (z ∷ l.rest)
          keep y (inl q) n = inl q
          keep y (inr i) n = inr (l.keeps y i n)

  -- Different elements that are all among m are no more than m has.
  pub pigeonhole : (l m : List A) → Distinct l → ((x : A) → In x l → In x m) → length l ≤ length m
  pigeonhole [] m d h = omega arith
  pigeonhole (x ∷ l) m d h =
      let r = less x m (h x (inl refl)) in
      let k = pigeonhole l r.rest d.1 (λ y i. r.keeps y (h y (inr i)) (all_in (λ z. x ≢ z) y l d.0 i)) in
      omega (arith, r.fewer)

module _ {A B : Type 0} where
  pub in_map : (g : A → B) (l : List A) (y : B) → In y (map g l) → (x : A) × In x l × (y ≡ g x)
  in_map g [] y h = absurd h
  in_map g (x ∷ l) y (inl e) = (x, inl refl, e)
  in_map g (x ∷ l) y (inr h) = let r = in_map g l y h in (r.0, inr r.1, r.2)

  pub map_in : (g : A → B) (l : List A) (x : A) → In x l → In (g x) (map g l)
  map_in g [] x h = absurd h
  map_in g (y ∷ l) x (inl e) = inl (ap g e)
  map_in g (y ∷ l) x (inr h) = inr (map_in g l x h)

  pub distinct_map : (g : A → B) (l : List A) → Distinct l → ((x y : A) → g x ≡ g y → x ≡ y) → Distinct (map g l)
  distinct_map g [] d h = tt
  distinct_map g (x ∷ l) d h = (
    in_all (λ y. g x ≢ y) (map g l) (λ y i e. let r = in_map g l y i in all_in (λ z. x ≢ z) r.0 l d.0 r.1 (h x r.0 (e ∙ r.2))),
    distinct_map g l d.1 h,
  )

  -- The lists g x, one after another.
  abbrev pub each : (A → List B) → List A → List B
  each g [] = []
  each g (x ∷ l) = g x ++ each g l

  pub in_each : (g : A → List B) (l : List A) (y : B) → In y (each g l) → (x : A) × In x l × In y (g x)
  in_each g [] y h = absurd h
  in_each g (x ∷ l) y h = go (in_append y (g x) (each g l) h) (in_each g l y)
    where
      go : In y (g x) ⊎ In y (each g l) → (In y (each g l) → (z : A) × In z l × In y (g z)) → (z : A) × In z (x ∷ l) × In y (g z)
      go (inl i) r = (x, inl refl, i)
      go (inr i) r = let f = r i in (f.0, inr f.1, f.2)

  pub length_each : (g : A → List B) (l : List A) (n : ℕ) → ((x : A) → length (g x) ≡ n) → length (each g l) ≡ length l * n
  length_each g [] n h = omega arith
  length_each g (x ∷ l) n h =
      let a = h x in
      let b = length_each g l n h in
      omega (arith, length-append (g x) (each g l))

  pub distinct_each : (g : A → List B) (l : List A) → Distinct l → ((x : A) → Distinct (g x))
      → ((x y : A) (z : B) → In z (g x) → In z (g y) → x ≡ y) → Distinct (each g l)
  distinct_each g [] d h k = tt
  distinct_each g (x ∷ l) d h k =
      distinct_append (g x) (each g l) (h x) (distinct_each g l d.1 h k)
      (λ z i j. let r = in_each g l z j in all_in (λ y. x ≢ y) r.0 l d.0 r.1 (k x r.0 z i r.2))
