-- For a scanner that keeps the number read, v, and not its digits: the tests on digits as tests on numbers.
use mathlib.Core.Path.{◌≡◌, refl, sym, ◌∙◌, ap, ap₂, subst}
use mathlib.Core.Bool.{Bool, true, false, cond, ◌||◌, ◌&&◌}
use mathlib.Core.Option.{none, some}
use mathlib.Core.List.{List, [], ◌∷◌, ◌++◌, append_assoc}
use Prim.Native.Nat.{ℕ, zero, suc, ◌+◌, ◌*◌, ◌-◌, ◌/◌, ◌%◌, ◌≤◌, ◌<◌}
use native.Mathlib.Omega.{arith}
use native.Mathlib.Decide.{dec_le}
use borrow.Author.Tests.{eqb-true, eq-eqb, ne_eqb}
use lib.Dec.{eqb}
use lib.ListN.{length, get_or, set}
use Rattle.spec_orders.specs.Lists.{All, same}
use Rattle.spec_orders.specs.TreeText.{digits}
use Rattle.spec_orders.proofs.Rearranged.{pick_all}
use Rattle.spec_orders.proofs.Members.{NonEmpty}
use Rattle.spec_orders.proofs.FormTests.{same_decides}
use Rattle.spec_orders.proofs.Digits.{Lead, digits_injective, digits_nonempty, digits_lead, digits-one, digits_step, digits_more}
use Rattle.spec_orders.proofs.Tests.{cond_cases, false_if, same_tests}
use Rattle.text_scanner.specs.Scan.{begins, begun, seek, put}
use Rattle.text_scanner.specs.Unused.{unused, starts, any_start}
use Rattle.text_scanner.proofs.Words.{begun_true}
use Rattle.text_scanner.proofs.Derivative.{digit_byte}

pub same_digits : (v m : ℕ) → same (digits v) (digits m) ≡ eqb m v
same_digits v m = same_tests (same (digits v) (digits m)) (eqb m v)
    (λ h. eq-eqb m v (sym (digits_injective v m ((same_decides (digits v) (digits m)).0 h))))
    (λ h. subst (λ w. same (digits v) (digits w) ≡ true) (sym (eqb-true m v h)) ((same_decides (digits v) (digits v)).1 refl))

-- A beginning of q and one digit more: of q, or the whole.
begins_snoc : (a q : List ℕ) (d : ℕ) → begins a (q ++ (d ∷ [])) ≡ same a (q ++ (d ∷ [])) || begins a q
begins_snoc [] [] d = refl
begins_snoc [] (x ∷ q) d = refl
begins_snoc (y ∷ []) [] d = step (eqb y d)
  where
    step : (t : Bool) → t && true ≡ (t && true) || false
    step true = refl
    step false = refl
begins_snoc (y ∷ (z ∷ a)) [] d = step (eqb y d)
  where
    step : (t : Bool) → t && false ≡ (t && false) || false
    step true = refl
    step false = refl
begins_snoc (y ∷ a) (x ∷ q) d = step (eqb y x) _ _ _ (begins_snoc a q d)
  where
    step : (t p s r : Bool) → p ≡ s || r → t && p ≡ (t && s) || (t && r)
    step true p s r e = e
    step false p s r e = refl

begins-one : (a : List ℕ) → NonEmpty a → (d : ℕ) → begins a (d ∷ []) ≡ same a (d ∷ [])
begins-one [] h d = elim h [ ]
begins-one (x ∷ []) h d = refl
begins-one (x ∷ (y ∷ a)) h d = refl

-- v begins m: m itself, or what is left of m without its last digit, and so on.
begins_less : (v m : ℕ) → m < 10 → begins (digits v) (digits m) ≡ eqb m v
begins_less v m h = ap (begins (digits v)) (digits-one m h) ∙ begins-one (digits v) (digits_nonempty v) (48 + m) ∙ ap (same (digits v)) (sym (digits-one m h)) ∙ same_digits v m

begins_more : (v m : ℕ) → 10 ≤ m → begins (digits v) (digits m) ≡ eqb m v || begins (digits v) (digits (m / 10))
begins_more v m h =
    ap (begins (digits v)) (digits_step m h) ∙ begins_snoc (digits v) (digits (m / 10)) (48 + m % 10)
    ∙ ap (λ l. same (digits v) l || begins (digits v) (digits (m / 10))) (sym (digits_step m h))
    ∙ ap (λ t. t || begins (digits v) (digits (m / 10))) (same_digits v m)

or_false : (a : Bool) → a ≡ a || false
or_false true = refl
or_false false = refl

-- For leaves of at most three digits.
pub starts_is : (v m : ℕ) → 1 ≤ v → m < 1000 → begins (digits v) (digits m) ≡ starts v m
starts_is v m h g = go (dec_le 10 m) (dec_le 100 m)
  where
    go : Dec (10 ≤ m) → Dec (100 ≤ m) → begins (digits v) (digits m) ≡ starts v m
    go (no a) c = begins_less v m (omega arith) ∙ or_false (eqb m v) ∙ rw (ne_eqb (m / 10) v (omega arith), ne_eqb (m / 100) v (omega arith))
    go (yes a) (no c) = begins_more v m a ∙ ap (λ t. eqb m v || t) (begins_less v (m / 10) (omega arith) ∙ or_false (eqb (m / 10) v) ∙ rw (ne_eqb (m / 100) v (omega arith)))
    go (yes a) (yes c) =
        begins_more v m a ∙ ap (λ t. eqb m v || t) (begins_more v (m / 10) (omega arith)
        ∙ ap (λ t. eqb (m / 10) v || t) (begins_less v (m / 10 / 10) (omega arith) ∙ ap (λ w. eqb w v) (omega arith)))

-- Some unused leaf begins with v.
pub begun_marks : (v : ℕ) (l : List ℕ) (a : ℕ) → 1 ≤ v → a + length l ≤ 1000 → begun (digits v) (unused a l) ≡ any_start v a l
unfolding begun
begun_marks v [] a h g = refl
begun_marks v (t ∷ l) a h g = go (eqb t 0) (begun_marks v l (suc a) h (omega arith))
  where
    go : (c : Bool) → begun (digits v) (unused (suc a) l) ≡ any_start v (suc a) l
        → begun (digits v) (cond c (a ∷ unused (suc a) l) (unused (suc a) l)) ≡ cond c (starts v a || any_start v (suc a) l) (any_start v (suc a) l)
    go true e = ap₂ (λ p q. p || q) (starts_is v a h (omega arith)) e
    go false e = e

seek_cons : (v a : ℕ) (l : List ℕ) (t : Bool) → eqb a v ≡ t → seek (digits v) (a ∷ l) ≡ cond t (some l) (put a (seek (digits v) l))
unfolding seek
seek_cons v a l t e = rw (same_digits v a ∙ e)

seek_above : (l : List ℕ) (a v : ℕ) → v < a → seek (digits v) (unused a l) ≡ none
unfolding seek
seek_above [] a v h = refl
seek_above (t ∷ l) a v h = go (eqb t 0) (seek_above l (suc a) v (omega arith))
  where
    go : (c : Bool) → seek (digits v) (unused (suc a) l) ≡ none → seek (digits v) (cond c (a ∷ unused (suc a) l) (unused (suc a) l)) ≡ none
    go true e = seek_cons v a (unused (suc a) l) false (ne_eqb a v (omega arith)) ∙ ap (put a) e
    go false e = e

-- Taking leaf a + i out is setting its mark.
pub seek_marks : (l : List ℕ) (a i v : ℕ) → v ≡ a + i → i < length l
    → seek (digits v) (unused a l) ≡ cond (eqb (get_or l i 0) 0) (some (unused a (set l i 1))) none
unfolding seek
seek_marks [] a i v e n = absurd (omega arith)
seek_marks (t ∷ l) a zero v e n = go (eqb t 0)
  where
    go : (c : Bool) → seek (digits v) (cond c (a ∷ unused (suc a) l) (unused (suc a) l)) ≡ cond c (some (unused (suc a) l)) none
    go true = seek_cons v a (unused (suc a) l) true (eq-eqb a v (omega arith))
    go false = seek_above l (suc a) v (omega arith)
seek_marks (t ∷ l) a (suc i) v e n = go (eqb t 0) (eqb (get_or l i 0) 0) (seek_marks l (suc a) i v (omega arith) (omega arith))
  where
    go : (c d : Bool) → seek (digits v) (unused (suc a) l) ≡ cond d (some (unused (suc a) (set l i 1))) none
        → seek (digits v) (cond c (a ∷ unused (suc a) l) (unused (suc a) l)) ≡ cond d (some (cond c (a ∷ unused (suc a) (set l i 1)) (unused (suc a) (set l i 1)))) none
    go true true h = seek_cons v a (unused (suc a) l) false (ne_eqb a v (omega arith)) ∙ ap (put a) h
    go true false h = seek_cons v a (unused (suc a) l) false (ne_eqb a v (omega arith)) ∙ ap (put a) h
    go false d h = h

-- The unused leaves are numbered from 1 where mark 0 is set.
abbrev Positive : ℕ → Type 0
Positive b = 1 ≤ b

unused_above : (l : List ℕ) (a : ℕ) → 1 ≤ a → All Positive (unused a l)
unused_above [] a h = tt
unused_above (t ∷ l) a h = cond_cases (eqb t 0) _ _ (All Positive) (λ y. (h, unused_above l (suc a) (omega arith))) (λ n. unused_above l (suc a) (omega arith))

unused_positive : (used : List ℕ) → get_or used 0 0 ≡ 1 → All Positive (unused 0 used)
unused_positive [] h = tt
unused_positive (t ∷ l) h = rw (ne_eqb t 0 (omega arith)) (unused_above l 1 (omega arith))

-- A number that begins a leaf is not above it, so it has a mark.
starts_below : (v m : ℕ) → starts v m ≡ true → v ≤ m
starts_below v m e = go (eqb m v) (eqb (m / 10) v) (eqb (m / 100) v) refl refl refl e
  where
    go : (p q r : Bool) → eqb m v ≡ p → eqb (m / 10) v ≡ q → eqb (m / 100) v ≡ r → p || (q || r) ≡ true → v ≤ m
    go true q r a b c h = omega (arith, eqb-true m v a)
    go false true r a b c h = omega (arith, eqb-true (m / 10) v b)
    go false false true a b c h = omega (arith, eqb-true (m / 100) v c)
    go false false false a b c h = absurd (let z : ◌≡◌ {A = ℕ} 0 1 = cc in omega arith)

pub start_below : (v a : ℕ) (l : List ℕ) → any_start v a l ≡ true → v < a + length l
start_below v a [] e = absurd (let z : ◌≡◌ {A = ℕ} 0 1 = cc in omega arith)
start_below v a (t ∷ l) e = go (eqb t 0) (starts v a) refl e (λ h. start_below v (suc a) l h)
  where
    go : (c d : Bool) → starts v a ≡ d → cond c (d || any_start v (suc a) l) (any_start v (suc a) l) ≡ true
        → (any_start v (suc a) l ≡ true → v < suc a + length l) → v < a + length (t ∷ l)
    go true true q h ih = omega (arith, starts_below v a q)
    go true false q h ih = omega (arith, ih h)
    go false d q h ih = omega (arith, ih h)

-- The first digit of a number.
pub first_digit : (used : List ℕ) (b : ℕ) → 49 ≤ b → b ≤ 57 → length used ≤ 1000 → begun (b ∷ []) (unused 0 used) ≡ any_start (b - 48) 0 used
first_digit used b i j w =
    ap (λ ds. begun ds (unused 0 used)) (sym (digits-one (b - 48) (omega arith) ∙ ap (λ d. d ∷ []) (omega arith))) ∙ begun_marks (b - 48) used 0 (omega arith) (omega arith)

pub not_first : (used : List ℕ) (b : ℕ) → get_or used 0 0 ≡ 1 → (49 ≤ b → b ≤ 57 → ⊥) → begun (b ∷ []) (unused 0 used) ≡ false
not_first used b h n = false_if _ (λ e.
    let r = begun_true (b ∷ []) (unused 0 used) e in
    let p = (pick_all Positive r.pick (unused_positive used h)).0 in
    n (subst Lead r.name (digits_lead r.m p)) (digit_byte r.m b [] r.tail r.name).1)

-- One digit more.
pub digit_more : (v b : ℕ) → 1 ≤ v → 48 ≤ b → b ≤ 57 → digits (10 * v + (b - 48)) ≡ digits v ++ (b ∷ [])
digit_more v b h i j = digits_more v (b - 48) h (omega arith) ∙ ap (λ d. digits v ++ (d ∷ [])) (omega arith)

pub next_digit : (used : List ℕ) (v b : ℕ) → 1 ≤ v → 48 ≤ b → b ≤ 57 → length used ≤ 1000
    → begun (digits v ++ (b ∷ [])) (unused 0 used) ≡ any_start (10 * v + (b - 48)) 0 used
next_digit used v b h i j w =
    ap (λ ds. begun ds (unused 0 used)) (sym (digit_more v b h i j)) ∙ begun_marks (10 * v + (b - 48)) used 0 (omega arith) (omega arith)

pub not_digit : (used : List ℕ) (v b : ℕ) → (48 ≤ b → b ≤ 57 → ⊥) → begun (digits v ++ (b ∷ [])) (unused 0 used) ≡ false
not_digit used v b n = false_if _ (λ e.
    let r = begun_true (digits v ++ (b ∷ [])) (unused 0 used) e in
    let d = digit_byte r.m b (digits v) r.tail (r.name ∙ append_assoc (digits v) (b ∷ []) r.tail) in
    n d.0 d.1)

-- A leaf that is used up is one unused leaf less.
pub unused-set : (l : List ℕ) (a i : ℕ) → i < length l → get_or l i 0 ≡ 0 → length (unused a l) ≡ suc (length (unused a (set l i 1)))
unused-set [] a i n e = absurd (omega arith)
unused-set (t ∷ l) a zero n e = rw (eq-eqb t 0 e)
unused-set (t ∷ l) a (suc i) n e = go (eqb t 0) (unused-set l (suc a) i (omega arith) e)
  where
    go : (c : Bool) → length (unused (suc a) l) ≡ suc (length (unused (suc a) (set l i 1)))
        → length (cond c (a ∷ unused (suc a) l) (unused (suc a) l)) ≡ suc (length (cond c (a ∷ unused (suc a) (set l i 1)) (unused (suc a) (set l i 1))))
    go true h = ap suc h
    go false h = h
