-- The shuffle leaves a rearrangement: the circle of a load has each bin from 1 to n at one place.
use mathlib.Core.Path.{◌≡◌}
use mathlib.Core.List.{List, [], ◌∷◌}
use Prim.Native.Nat.{ℕ, zero, suc, ◌-◌, ◌≤◌, ◌<◌}
use native.Mathlib.Omega.{arith}
use native.Mathlib.Nat.{mod-lt}
use lib.ListN.{length, get_or, set}
use Rattle.spec_orders.specs.Lists.{Pick, here, there, Rearranged, next, numbers_from}
use Rattle.spec_orders.proofs.Rearranged.{perm_refl, perm_trans, perm_insert, perm_skip, perm_length}
use Rattle.spec_orders.proofs.Numbers.{numbers_length}
use Rattle.spec_load.specs.TestLoad.{next_state, drawn, exchanged, shuffled, circle}

-- A number drawn is one of 1 to k.
pub drawn_within : (x k : ℕ) → 1 ≤ k → (1 ≤ drawn x k) × (drawn x k ≤ k)
unfolding drawn
drawn_within x k h = (omega arith, omega (arith, mod-lt (next_state x) h))

-- What stands at place j taken out, and x put in its place.
replaced : (x : ℕ) (l : List ℕ) (j : ℕ) → j < length l → (rest : List ℕ) × Pick (get_or l j 0) l rest × Pick x (set l j x) rest
replaced x [] j h = absurd (omega arith)
replaced x (y ∷ l) zero h = (l, here, here)
replaced x (y ∷ l) (suc j) h = let r = replaced x l j (omega arith) in (y ∷ r.0, there r.1, there r.2)

-- The first one exchanged with another; any two.
first-exchanged : (x : ℕ) (l : List ℕ) (j : ℕ) → j < length l → Rearranged (x ∷ l) (get_or l j 0 ∷ set l j x)
first-exchanged x l j h = let r = replaced x l j h in next (there r.1) (perm_insert r.2 (perm_refl r.0))

two_exchanged : (l : List ℕ) (i j : ℕ) → i < length l → j < length l → Rearranged l (set (set l i (get_or l j 0)) j (get_or l i 0))
two_exchanged [] i j h g = absurd (omega arith)
two_exchanged (x ∷ l) zero zero h g = perm_refl (x ∷ l)
two_exchanged (x ∷ l) zero (suc j) h g = first-exchanged x l j (omega arith)
two_exchanged (x ∷ l) (suc i) zero h g = first-exchanged x l i (omega arith)
two_exchanged (x ∷ l) (suc i) (suc j) h g = perm_skip x (two_exchanged l i j (omega arith) (omega arith))

exchanged_perm : (p q : ℕ) (l : List ℕ) → 1 ≤ p → p ≤ length l → 1 ≤ q → q ≤ length l → Rearranged l (exchanged p q l)
unfolding exchanged
exchanged_perm p q l a b c d = two_exchanged l (p - 1) (q - 1) (omega arith) (omega arith)

pub shuffled_perm : (i x : ℕ) (l : List ℕ) → i ≤ length l → Rearranged l (shuffled i x l)
unfolding shuffled
shuffled_perm zero x l h = perm_refl l
shuffled_perm (suc zero) x l h = perm_refl l
shuffled_perm (suc (suc i)) x l h =
    let d = drawn_within x (suc (suc i)) (omega arith) in
    let p = exchanged_perm (suc (suc i)) (drawn x (suc (suc i))) l (omega arith) h d.0 (omega (arith, d.1, h)) in
    perm_trans p (shuffled_perm (suc i) (next_state x) (exchanged (suc (suc i)) (drawn x (suc (suc i))) l) (omega (arith, perm_length p, h)))

pub circle_perm : (n seed : ℕ) → Rearranged (numbers_from 1 n) (circle n seed)
unfolding circle
circle_perm n seed = shuffled_perm n seed (numbers_from 1 n) (omega (arith, numbers_length 1 n))

pub circle-length : (n seed : ℕ) → length (circle n seed) ≡ n
circle-length n seed = omega (arith, perm_length (circle_perm n seed), numbers_length 1 n)
