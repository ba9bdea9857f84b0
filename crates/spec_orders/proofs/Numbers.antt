-- Laws of `numbers_from` and `those_of`: what stands in them, and how many elements pass a test.
use mathlib.Core.Path.{◌≡◌, refl, sym, ap, ap₂, ◌∙◌}
use mathlib.Core.Logic.{◌≢◌, inl, inr}
use mathlib.Core.Bool.{Bool, true, false, cond, true≢false}
use mathlib.Core.List.{List, [], ◌∷◌, ◌++◌}
use Prim.Native.Nat.{ℕ, zero, suc, ◌+◌, ◌≤◌, ◌<◌}
use native.Mathlib.Nat.{add-zero, zero-add, suc-add, add-suc}
use native.Mathlib.Decide.{ℕ_discrete}
use native.Mathlib.Omega.{arith}
use lib.ListN.{length}
use borrow.Author.Tests.{eq-eqb, ne_eqb}
use Rattle.spec_orders.specs.Lists.{All, Distinct, In, those_of, count, elem, Pick, here, there, Rearranged, done, next, numbers_from}
use Rattle.spec_orders.proofs.Members.{all_in, in_all, in_length}

pub numbers_length : (a n : ℕ) → length (numbers_from a n) ≡ n
numbers_length a zero = refl
numbers_length a (suc n) = ap suc (numbers_length (suc a) n)

numbers_above : (m a n : ℕ) → m < a → All (λ y. m ≢ y) (numbers_from a n)
numbers_above m a zero h = tt
numbers_above m a (suc n) h = ((λ e. omega arith), numbers_above m (suc a) n (omega arith))

pub numbers_distinct : (a n : ℕ) → Distinct (numbers_from a n)
numbers_distinct a zero = tt
numbers_distinct a (suc n) = (numbers_above a (suc a) n (omega arith), numbers_distinct (suc a) n)

module _ {A : Type 0} (p : A → Bool) where
  pub in_those : (l : List A) (x : A) → In x (those_of p l) → (p x ≡ true) × In x l
  in_those [] x i = absurd i
  in_those (y ∷ l) x i = go (p y) refl (in_those l x) i
    where
      go : (b : Bool) → p y ≡ b → (In x (those_of p l) → (p x ≡ true) × In x l) → In x (cond b (y ∷ those_of p l) (those_of p l)) → (p x ≡ true) × In x (y ∷ l)
      go true e ih (inl i) = (ap p i ∙ e, inl i)
      go true e ih (inr i) = ((ih i).0, inr (ih i).1)
      go false e ih i = ((ih i).0, inr (ih i).1)

  pub those_in : (l : List A) (x : A) → p x ≡ true → In x l → In x (those_of p l)
  those_in [] x h i = i
  those_in (y ∷ l) x h i = go (p y) refl i (those_in l x h)
    where
      go : (b : Bool) → p y ≡ b → In x (y ∷ l) → (In x l → In x (those_of p l)) → In x (cond b (y ∷ those_of p l) (those_of p l))
      go true e (inl j) ih = inl j
      go true e (inr j) ih = inr (ih j)
      go false e (inl j) ih = absurd (true≢false (sym (ap p (sym j) ∙ h) ∙ e))
      go false e (inr j) ih = ih j

  pub those_all : (P : A → Type 0) (l : List A) → All P l → All P (those_of p l)
  those_all P l h = in_all P (those_of p l) (λ x i. all_in P x l h (in_those l x i).1)

  pub those_distinct : (l : List A) → Distinct l → Distinct (those_of p l)
  those_distinct [] d = tt
  those_distinct (x ∷ l) d = go (p x) (those_distinct l d.1)
    where
      go : (b : Bool) → Distinct (those_of p l) → Distinct (cond b (x ∷ those_of p l) (those_of p l))
      go true r = (those_all (λ y. x ≢ y) l d.0, r)
      go false r = r

pub in_range : (a k x : ℕ) → In x (numbers_from a k) → (a ≤ x) × (x < a + k)
in_range a zero x i = absurd i
in_range a (suc k) x (inl i) = (omega arith, omega arith)
in_range a (suc k) x (inr i) = let h = in_range (suc a) k x i in (omega arith, omega arith)

pub numbers_in : (a k x : ℕ) → a ≤ x → x < a + k → In x (numbers_from a k)
numbers_in a zero x h l = absurd (omega arith)
numbers_in a (suc k) x h l = go (ℕ_discrete x a) (λ n. numbers_in (suc a) k x (omega arith) (omega arith))
  where
    go : Dec (x ≡ a) → (x ≢ a → In x (numbers_from (suc a) k)) → In x (numbers_from a (suc k))
    go (yes e) ih = inl e
    go (no n) ih = inr (ih n)

pub numbers_append : (a m n : ℕ) → numbers_from a (m + n) ≡ numbers_from a m ++ numbers_from (a + m) n
numbers_append a zero n = rw (zero-add, add-zero)
numbers_append a (suc m) n = rw (suc-add, add-suc a m) (ap (λ (l : List ℕ). a ∷ l) (rw suc-add at (numbers_append (suc a) m n)))

-- Tests that agree on consecutive numbers keep the same of it.
pub those_agree : (p q : ℕ → Bool) (a k : ℕ) → ((x : ℕ) → a ≤ x → x < a + k → p x ≡ q x) → those_of p (numbers_from a k) ≡ those_of q (numbers_from a k)
those_agree p q a zero h = refl
those_agree p q a (suc k) h =
    ap₂ (λ (b : Bool) (l : List ℕ). cond b (a ∷ l) l) (h a (omega arith) (omega arith)) (those_agree p q (suc a) k (λ x l m. h x (omega arith) (omega arith)))

pub those_different : (p : ℕ → Bool) (a k : ℕ) → Distinct (those_of p (numbers_from a k))
those_different p a k = those_distinct p (numbers_from a k) (numbers_distinct a k)

-- How many elements pass a test.
pub count_cons : (p : ℕ → Bool) (x : ℕ) (l : List ℕ) → count p (x ∷ l) ≡ cond (p x) 1 0 + count p l
count_cons p x l = go (p x)
  where
    go : (b : Bool) → length (cond b (x ∷ those_of p l) (those_of p l)) ≡ cond b 1 0 + length (those_of p l)
    go true = omega arith
    go false = omega arith

pub count_append : (p : ℕ → Bool) (l m : List ℕ) → count p (l ++ m) ≡ count p l + count p m
count_append p [] m = omega arith
count_append p (x ∷ l) m = omega (arith, count_cons p x (l ++ m), count_cons p x l, count_append p l m)

pub count_most : (p : ℕ → Bool) (l : List ℕ) → count p l ≤ length l
count_most p [] = omega arith
count_most p (x ∷ l) = go (p x) (count_most p l)
  where
    go : (b : Bool) → count p l ≤ length l → length (cond b (x ∷ those_of p l) (those_of p l)) ≤ suc (length l)
    go true h = omega arith
    go false h = omega arith

-- Where all do, and where none does, and where some do.
pub count_inside : (p : ℕ → Bool) (l : List ℕ) → All (λ x. p x ≡ true) l → count p l ≡ length l
count_inside p [] h = refl
count_inside p (x ∷ l) h =
    let first : ◌≡◌ {A = ℕ} (cond (p x) 1 0) 1 = rw h.0 in
    omega (arith, count_cons p x l, count_inside p l h.1)

pub count_outside : (p : ℕ → Bool) (l : List ℕ) → All (λ x. p x ≡ false) l → count p l ≡ 0
count_outside p [] h = refl
count_outside p (x ∷ l) h =
    let first : ◌≡◌ {A = ℕ} (cond (p x) 1 0) 0 = rw h.0 in
    omega (arith, count_cons p x l, count_outside p l h.1)

pub count_some : (p : ℕ → Bool) (l : List ℕ) (x : ℕ) → p x ≡ true → In x l → 1 ≤ count p l
count_some p l x h i = in_length x (those_of p l) (those_in p l x h i)

-- As many in another sequence.
module _ (p : ℕ → Bool) where
  pick_count : {x : ℕ} {l k : List ℕ} → Pick x l k → count p l ≡ cond (p x) 1 0 + count p k
  pick_count (here {x = x} {l = l}) = count_cons p x l
  pick_count (there {x = x} {y = y} {l = l} {m = m} h) = omega (arith, count_cons p y l, count_cons p y m, pick_count h)

  pub perm_count : {l m : List ℕ} → Rearranged l m → count p l ≡ count p m
  perm_count done = refl
  perm_count (next {x = x} {m = m} h q) = omega (arith, pick_count h, count_cons p x m, perm_count q)

-- One element more passes: it is counted once in numbers that have it, and not in those that begin after it.
module _ (p q : ℕ → Bool) (x : ℕ) (at : q x ≡ true) (was : p x ≡ false) (other : (y : ℕ) → y ≢ x → q y ≡ p y) where
  count_more : (a k : ℕ) → a ≤ x → x < a + k → count q (numbers_from a k) ≡ suc (count p (numbers_from a k))
  count_more a zero h l = absurd (omega arith)
  count_more a (suc k) h l = go (ℕ_discrete a x) (λ n. count_more (suc a) k (omega arith) (omega arith))
    where
      go : Dec (a ≡ x) → (a ≢ x → count q (numbers_from (suc a) k) ≡ suc (count p (numbers_from (suc a) k))) → count q (numbers_from a (suc k)) ≡ suc (count p (numbers_from a (suc k)))
      go (yes e) ih =
          omega (
            arith,
            count_cons q a (numbers_from (suc a) k) ∙ ap (λ (b : Bool). cond b 1 0 + count q (numbers_from (suc a) k)) (ap q e ∙ at),
            count_cons p a (numbers_from (suc a) k) ∙ ap (λ (b : Bool). cond b 1 0 + count p (numbers_from (suc a) k)) (ap p e ∙ was),
            ap length (those_agree q p (suc a) k (λ y m n. other y (λ f. omega arith))),
          )
      go (no n) ih =
          omega (
            arith,
            count_cons q a (numbers_from (suc a) k) ∙ ap (λ (b : Bool). cond b 1 0 + count q (numbers_from (suc a) k)) (other a n),
            count_cons p a (numbers_from (suc a) k),
            ih n,
          )

pub not_elem : (x : ℕ) (l : List ℕ) → All (λ y. x ≢ y) l → elem l x ≡ false
not_elem x [] h = refl
not_elem x (y ∷ l) h = rw (ne_eqb x y h.0) (not_elem x l h.1)

-- A list of different numbers from 1 to k has as many as pass the test of standing in it.
pub count_elem : (k : ℕ) (l : List ℕ) → Distinct l → All (λ b. (1 ≤ b) × (b ≤ k)) l → count (elem l) (numbers_from 1 k) ≡ length l
count_elem k [] d h = count_outside (λ x. false) (numbers_from 1 k) (in_all (λ x. false ≡ false) (numbers_from 1 k) (λ x i. refl))
count_elem k (x ∷ l) d h =
    count_more (elem l) (elem (x ∷ l)) x (rw (eq-eqb x x refl)) (not_elem x l d.0) (λ y n. rw (ne_eqb y x n)) 1 k h.0.0 (omega (arith, h.0.1))
    ∙ ap suc (count_elem k l d.1 h.1)
