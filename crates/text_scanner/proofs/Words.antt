-- The scanner's searches among the leaves that are left.
use mathlib.Core.Path.{◌≡◌, refl, sym, ◌∙◌, ap₂, subst}
use mathlib.Core.Logic.{◌⊎◌, inl, inr}
use mathlib.Core.Bool.{true, false}
use mathlib.Core.Option.{Option, none, some}
use mathlib.Core.List.{List, [], ◌∷◌, ◌++◌}
use Prim.Native.Nat.{ℕ}
use native.Mathlib.Omega.{arith}
use borrow.Author.Tests.{eqb-true, eq-eqb}
use lib.Dec.{eqb}
use Rattle.spec_orders.specs.Lists.{same, Rearranged, next, Pick, here, there}
use Rattle.spec_orders.specs.TreeText.{digits}
use Rattle.spec_orders.proofs.Rearranged.{perm_refl, pick_length}
use Rattle.spec_orders.proofs.FormTests.{same_decides}
use Rattle.spec_orders.proofs.Digits.{digits_injective}
use Rattle.spec_orders.proofs.Tests.{cond_cases, and_both, or_either, or_right}
use Rattle.text_scanner.specs.Scan.{begins, begun, seek, put}

-- A leaf of l whose digits begin with ds, and l without it.
pub record Begin (ds l : List ℕ) : Type 0 where
  pub m : ℕ
  pub tail : List ℕ
  pub k : List ℕ
  pub name : digits m ≡ ds ++ tail
  pub pick : Pick m l k

pub begins_true : (a b : List ℕ) → begins a b ≡ true → (t : List ℕ) × (b ≡ a ++ t)
begins_true [] b e = (b, refl)
begins_true (x ∷ a) [] e = absurd (let z : ◌≡◌ {A = ℕ} 0 1 = cc in omega arith)
begins_true (x ∷ a) (y ∷ b) e =
    let h = and_both (eqb x y) (begins a b) e in
    let r = begins_true a b h.1 in
    (r.0, ap₂ ◌∷◌ (sym (eqb-true x y h.0)) r.1)

pub begins_of : (a t : List ℕ) → begins a (a ++ t) ≡ true
begins_of [] t = refl
begins_of (x ∷ a) t = rw (eq-eqb x x refl) (begins_of a t)

pub begun_true : (ds l : List ℕ) → begun ds l ≡ true → Begin ds l
unfolding begun
begun_true ds [] e = absurd (let z : ◌≡◌ {A = ℕ} 0 1 = cc in omega arith)
begun_true ds (m ∷ l) e = go (λ h. begun_true ds l h) (or_either (begins ds (digits m)) (begun ds l) e)
  where
    later : Begin ds l → Begin ds (m ∷ l)
    later r = record { m = r.m; tail = r.tail; k = m ∷ r.k; name = r.name; pick = there r.pick }

    go : (begun ds l ≡ true → Begin ds l) → (begins ds (digits m) ≡ true) ⊎ (begun ds l ≡ true) → Begin ds (m ∷ l)
    go rec (inl h) = let r = begins_true ds (digits m) h in record { m = m; tail = r.0; k = l; name = r.1; pick = here }
    go rec (inr h) = later (rec h)

pub begun_of : {m : ℕ} {l k : List ℕ} (ds t : List ℕ) → digits m ≡ ds ++ t → Pick m l k → begun ds l ≡ true
unfolding begun
begun_of ds t e here = rw (e, begins_of ds t)
begun_of ds t e (there {y = u} {l = f} p) = or_right (begins ds (digits u)) (begun ds f) (begun_of ds t e p)

-- What seek finds: none where no leaf has these digits; else a leaf that has them, and the list without it, whichever one is taken.
pub data Seek (ds l : List ℕ) : Option (List ℕ) → Type 0 where
  miss : ((m : ℕ) (k : List ℕ) → digits m ≡ ds → Pick m l k → ⊥) → Seek ds l none
  hit : {j : List ℕ} (m : ℕ) → digits m ≡ ds → Pick m l j → ((n : ℕ) (k : List ℕ) → digits n ≡ ds → Pick n l k → Rearranged j k) → Seek ds l (some j)

first_alike : (ds l : List ℕ) (m : ℕ) → ds ≡ digits m → (n : ℕ) (k : List ℕ) → digits n ≡ ds → Pick n (m ∷ l) k → Rearranged l k
first_alike ds l m h n k e here = perm_refl l
first_alike ds l m h n k e (there {m = g} p) = subst (λ t. Rearranged l (t ∷ g)) (digits_injective n m (e ∙ h)) (next p (perm_refl g))

not_first : (ds l : List ℕ) (m : ℕ) → same ds (digits m) ≡ false → (n : ℕ) (k : List ℕ) → digits n ≡ ds → Pick n (m ∷ l) k
    → (j : List ℕ) × (k ≡ m ∷ j) × Pick n l j
not_first ds l m h n k e here =
    absurd (let g = subst (λ t. same t (digits n) ≡ true) e ((same_decides (digits n) (digits n)).1 refl) in let z : ◌≡◌ {A = ℕ} 0 1 = cc in omega arith)
not_first ds l m h n k e (there {m = g} p) = (g, refl, p)

put_view : (ds l : List ℕ) (m : ℕ) → same ds (digits m) ≡ false → (o : Option (List ℕ)) → Seek ds l o → Seek ds (m ∷ l) (put m o)
put_view ds l m h none (miss f) = miss (λ n k e p. let r = not_first ds l m h n k e p in f n r.0 e r.2)
put_view ds l m h (some j) (hit t e p f) = hit t e (there p) (λ n k d q. let r = not_first ds l m h n k d q in rw r.1 (next here (f n r.0 d r.2)))

pub seek_view : (ds l : List ℕ) → Seek ds l (seek ds l)
unfolding seek
seek_view ds [] = miss (λ m k e p. omega (arith, pick_length p))
seek_view ds (m ∷ l) = cond_cases (same ds (digits m)) (some l) (put m (seek ds l)) (Seek ds (m ∷ l))
    (λ y. let e = (same_decides ds (digits m)).0 y in hit m (sym e) here (first_alike ds l m e))
    (λ n. put_view ds l m n (seek ds l) (seek_view ds l))
