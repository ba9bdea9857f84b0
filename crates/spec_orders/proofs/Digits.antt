-- The decimal digits of a number: all bytes are digits, they tell the number, and small numbers have few.
use mathlib.Core.Path.{◌≡◌, refl, sym, ◌∙◌, ap, ap₂}
use mathlib.Core.Bool.{Bool, true, false}
use mathlib.Core.List.{List, [], ◌∷◌, ◌++◌}
use Prim.Native.Nat.{ℕ, zero, suc, ◌+◌, ◌*◌, ◌-◌, ◌/◌, ◌%◌, ◌≤◌, ◌<◌}
use native.Mathlib.Omega.{arith}
use borrow.Author.Tests.{ltb-true, ltb-false, lt-ltb, le-ltb}
use lib.Dec.{ltb}
use lib.ListN.{length, length-append}
use Rattle.spec_orders.specs.Lists.{All}
use Rattle.spec_orders.specs.TreeText.{digits_in, digits}
use Rattle.spec_orders.proofs.ListLaws.{all_append}
use Rattle.spec_orders.proofs.Members.{NonEmpty}
use Rattle.spec_orders.proofs.Tests.{cond_cases}

abbrev pub Digit : ℕ → Type 0
Digit d = (48 ≤ d) × (d ≤ 57)

-- What holds of one digit, and of digits and one more, holds of the digits of a number.
digits_cases : (k v : ℕ) (Q : List ℕ → Type 0) → (v < 10 → Q ((48 + v) ∷ [])) → (10 ≤ v → Q (digits_in k (v / 10) ++ ((48 + v % 10) ∷ []))) → Q (digits_in (suc k) v)
unfolding digits_in
digits_cases k v Q one more =
    cond_cases (ltb v 10) ((48 + v) ∷ []) (digits_in k (v / 10) ++ ((48 + v % 10) ∷ [])) Q (λ y. one (ltb-true v 10 y)) (λ n. more (ltb-false v 10 n))

digits_in_all : (k v : ℕ) → All Digit (digits_in k v)
unfolding digits_in
digits_in_all zero v = tt
digits_in_all (suc k) v = digits_cases k v (All Digit)
    (λ h. ((omega arith, omega arith), tt))
    (λ h. all_append Digit (digits_in k (v / 10)) ((48 + v % 10) ∷ []) (digits_in_all k (v / 10)) ((omega arith, omega arith), tt))

pub digits_all : (v : ℕ) → All Digit (digits v)
unfolding digits
digits_all v = digits_in_all (suc v) v

nonempty_snoc : (l : List ℕ) (d : ℕ) → NonEmpty (l ++ (d ∷ []))
nonempty_snoc [] d = tt
nonempty_snoc (x ∷ l) d = tt

pub digits_nonempty : (v : ℕ) → NonEmpty (digits v)
unfolding digits
digits_nonempty v = digits_cases v v NonEmpty (λ h. tt) (λ h. nonempty_snoc (digits_in v (v / 10)) (48 + v % 10))

-- The number that digits tell, after a.
abbrev pub value : ℕ → List ℕ → ℕ
value a [] = a
value a (d ∷ l) = value (10 * a + (d - 48)) l

value_snoc : (l : List ℕ) (a d : ℕ) → value a (l ++ (d ∷ [])) ≡ 10 * value a l + (d - 48)
value_snoc [] a d = refl
value_snoc (x ∷ l) a d = value_snoc l (10 * a + (x - 48)) d

value-digits_in : (k v : ℕ) → v < k → value 0 (digits_in k v) ≡ v
value-digits_in zero v h = absurd (omega arith)
value-digits_in (suc k) v h = digits_cases k v (λ l. value 0 l ≡ v)
    (λ l. omega arith)
    (λ l. let r = value-digits_in k (v / 10) (omega arith) in value_snoc (digits_in k (v / 10)) 0 (48 + v % 10) ∙ omega arith)

pub value-digits : (v : ℕ) → value 0 (digits v) ≡ v
unfolding digits
value-digits v = value-digits_in (suc v) v (omega arith)

pub digits_injective : (v w : ℕ) → digits v ≡ digits w → v ≡ w
digits_injective v w e = sym (value-digits v) ∙ ap (value 0) e ∙ value-digits w

-- What a reader of numbers needs: one digit more.
digits_in_fuel : (k j v : ℕ) → v < k → v < j → digits_in k v ≡ digits_in j v
unfolding digits_in
digits_in_fuel zero j v h g = absurd (omega arith)
digits_in_fuel (suc k) zero v h g = absurd (omega arith)
digits_in_fuel (suc k) (suc j) v h g = digits_cases k v (λ l. l ≡ digits_in (suc j) v)
    (λ l. rw (lt-ltb v 10 l))
    (λ l. rw (le-ltb v 10 l) (ap (λ l. l ++ ((48 + v % 10) ∷ [])) (digits_in_fuel k j (v / 10) (omega arith) (omega arith))))

pub digits-one : (v : ℕ) → v < 10 → digits v ≡ (48 + v) ∷ []
unfolding digits digits_in
digits-one v h = rw (lt-ltb v 10 h)

pub digits_step : (v : ℕ) → 10 ≤ v → digits v ≡ digits (v / 10) ++ ((48 + v % 10) ∷ [])
unfolding digits digits_in
digits_step v h = rw (le-ltb v 10 h) (ap (λ l. l ++ ((48 + v % 10) ∷ [])) (digits_in_fuel v (suc (v / 10)) (v / 10) (omega arith) (omega arith)))

pub digits_more : (v e : ℕ) → 1 ≤ v → e < 10 → digits (10 * v + e) ≡ digits v ++ ((48 + e) ∷ [])
digits_more v e h g =
    let q : (10 * v + e) / 10 ≡ v = omega arith in
    let r : (10 * v + e) % 10 ≡ e = omega arith in
    digits_step (10 * v + e) (omega arith) ∙ ap₂ (λ a b. digits a ++ ((48 + b) ∷ [])) q r

-- No leading zero.
abbrev pub Lead : List ℕ → Type 0
Lead [] = ⊥
Lead (d ∷ l) = 49 ≤ d

lead_append : (a b : List ℕ) → Lead a → Lead (a ++ b)
lead_append (d ∷ a) b h = h
lead_append [] b h = elim h [ ]

digits_in_lead : (k v : ℕ) → v < k → 1 ≤ v → Lead (digits_in k v)
digits_in_lead zero v h g = absurd (omega arith)
digits_in_lead (suc k) v h g = digits_cases k v Lead
    (λ l. omega arith)
    (λ l. lead_append (digits_in k (v / 10)) ((48 + v % 10) ∷ []) (digits_in_lead k (v / 10) (omega arith) (omega arith)))

pub digits_lead : (v : ℕ) → 1 ≤ v → Lead (digits v)
unfolding digits
digits_lead v h = digits_in_lead (suc v) v (omega arith) h

-- Up to 999 there are at most three.
one_more : (w n : ℕ) → (10 ≤ w → length (digits (w / 10)) ≤ n) → length (digits w) ≤ suc n
one_more w n h = go (ltb w 10) refl
  where
    go : (b : Bool) → ltb w 10 ≡ b → length (digits w) ≤ suc n
    go true e = omega (arith, ap length (digits-one w (ltb-true w 10 e)))
    go false e =
        let l = ltb-false w 10 e in
        omega (arith, h l, ap length (digits_step w l), length-append (digits (w / 10)) ((48 + w % 10) ∷ []))

pub digits-length : (v : ℕ) → v < 1000 → length (digits v) ≤ 3
digits-length v h = one_more v 2 (λ l. one_more (v / 10) 1 (λ m. one_more (v / 10 / 10) 0 (λ o. absurd (omega arith))))
