-- Laws of lists: a statement of every element, and parts of a list.
use mathlib.Core.Path.{◌≡◌, refl, ap, ◌∙◌}
use mathlib.Core.Logic.{◌↔◌}
use mathlib.Core.List.{List, [], ◌++◌, ◌∷◌}
use Prim.Native.Nat.{ℕ, zero, suc, ◌+◌, ◌-◌, ◌<◌}
use native.Mathlib.Omega.{arith}
use lib.ListN.{length, get_or, take, drop, replicate, length-drop}
use lib.Seq.{take_all}
use Rattle.spec_orders.specs.Lists.{All}

module _ {A : Type 0} where
  pub all_append : (P : A → Type 0) (a b : List A) → All P a → All P b → All P (a ++ b)
  all_append P [] b ha hb = hb
  all_append P (x ∷ a) b ha hb = (ha.0, all_append P a b ha.1 hb)

  pub all_left : (P : A → Type 0) (a b : List A) → All P (a ++ b) → All P a
  all_left P [] b h = tt
  all_left P (x ∷ a) b h = (h.0, all_left P a b h.1)

  pub all_right : (P : A → Type 0) (a b : List A) → All P (a ++ b) → All P b
  all_right P [] b h = h
  all_right P (x ∷ a) b h = all_right P a b h.1

  pub all_middle : (P : A → Type 0) (a : List A) (x : A) (b : List A) → All P (a ++ (x ∷ b)) ↔ (All P (a ++ b) × P x)
  all_middle P a x b = (
    (λ h. let r = all_right P a (x ∷ b) h in (all_append P a b (all_left P a (x ∷ b) h) r.1, r.0)),
    (λ h. all_append P a (x ∷ b) (all_left P a b h.0) (h.1, all_right P a b h.0)),
  )

  pub none_of_length : (l : List A) → length l ≡ 0 → l ≡ []
  none_of_length [] e = refl
  none_of_length (x ∷ l) e = absurd (omega arith)

  pub all_map : (P Q : A → Type 0) → ((x : A) → P x → Q x) → (l : List A) → All P l → All Q l
  all_map P Q f [] h = tt
  all_map P Q f (x ∷ l) h = (f x h.0, all_map P Q f l h.1)

  pub all_at : (P : A → Type 0) (d : A) (l : List A) (i : ℕ) → All P l → i < length l → P (get_or l i d)
  all_at P d [] i h k = absurd (omega arith)
  all_at P d (x ∷ l) zero h k = h.0
  all_at P d (x ∷ l) (suc i) h k = all_at P d l i h.1 (omega arith)

  -- A part of c elements from index a on, and one that goes to the end.
  pub part_is : (l : List A) (a c : ℕ) → take (a + c - a) (drop a l) ≡ take c (drop a l)
  part_is l a c = let e : a + c - a ≡ c = omega arith in ap (λ (k : ℕ). take k (drop a l)) e

  pub part_to_end : (l : List A) (m : ℕ) → take (length l - m) (drop m l) ≡ drop m l
  part_to_end l m = take_all (length l - m) (drop m l) (omega (arith, length-drop m l))

  -- What stands after the first element.
  abbrev pub tail : List A → List A
  tail l = take (length l - 1) (drop 1 l)

  pub tail_is : (x : A) (l : List A) → tail (x ∷ l) ≡ l
  tail_is x l = part_to_end (x ∷ l) 1

-- Zeros, some of them dropped.
pub drop_zeros : (k n : ℕ) → drop {A = ℕ} k (replicate n 0) ≡ replicate (n - k) 0
drop_zeros zero n = let e : n - 0 ≡ n = omega arith in rw e
drop_zeros (suc k) zero = let e : 0 - suc k ≡ 0 = omega arith in rw e
drop_zeros (suc k) (suc n) = let e : suc n - suc k ≡ n - k = omega arith in rw e (drop_zeros k n)

-- Of a part, what stands behind its first elements.
pub drop_taken : (a b : ℕ) (l : List ℕ) → drop a (take b l) ≡ take (b - a) (drop a l)
drop_taken zero b l = let e : b ≡ b - 0 = omega arith in ap (λ (m : ℕ). take m l) e
drop_taken (suc a) zero l = let e : 0 ≡ 0 - suc a = omega arith in ap (λ (m : ℕ). take m (drop (suc a) l)) e
drop_taken (suc a) (suc b) [] = none (suc b - suc a)
  where
    none : (m : ℕ) → ◌≡◌ {A = List ℕ} [] (take m [])
    none zero = refl
    none (suc m) = refl
drop_taken (suc a) (suc b) (x ∷ l) = let e : b - a ≡ suc b - suc a = omega arith in drop_taken a b l ∙ ap (λ (m : ℕ). take m (drop a l)) e
