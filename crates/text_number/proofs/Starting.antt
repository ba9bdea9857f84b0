-- Which unused leaves begin with a number's digits.
use mathlib.Core.Path.{◌≡◌, refl, sym, ◌∙◌, ap}
use mathlib.Core.Logic.{◌↔◌, ◌⊎◌, inl, inr}
use mathlib.Core.Bool.{Bool, true, false, cond, ◌||◌, true≢false}
use mathlib.Core.List.{List, [], ◌∷◌}
use Prim.Native.Nat.{ℕ, zero, suc, ◌+◌, ◌*◌, ◌/◌, ◌-◌, ◌≤◌, ◌<◌, min}
use native.Mathlib.Omega.{arith}
use borrow.Author.Tests.{eq-eqb, eqb-true}
use lib.Dec.{eqb}
use lib.ListN.{length, take, drop, get_or, length-drop}
use Rattle.std.specs.List.{IsAnyAnswer}
use Rattle.std.proofs.lemmas.List.{get_or-take, get_or-drop, length-take-le}
use Rattle.text_scanner.specs.Unused.{starts, any_start}
use Rattle.text_scanner.proofs.Numbers.{start_below}
use Rattle.text_number.specs.Numbers.{FreeIn}
use Rattle.spec_orders.proofs.Tests.{false_if, or_either, or_right}

pub has_mark : (v : ℕ) (used : List ℕ) → any_start v 0 used ≡ true → v < length used
has_mark v used e = omega (arith, start_below v 0 used e)

-- An unused leaf that begins with v, the first mark being that of a.
abbrev Begins : ℕ → ℕ → List ℕ → Type 0
Begins v a l = (i : ℕ) × (i < length l) × (get_or l i 0 ≡ 0) × (starts v (a + i) ≡ true)

later : (v a t : ℕ) (l : List ℕ) → Begins v (suc a) l → Begins v a (t ∷ l)
later v a t l b =
    let e : suc a + b.0 ≡ a + suc b.0 = omega arith in
    (suc b.0, omega arith, b.2, rw e at b.3)

begins_at : (v a t : ℕ) (l : List ℕ) → (any_start v (suc a) l ≡ true → Begins v (suc a) l) → any_start v a (t ∷ l) ≡ true → Begins v a (t ∷ l)
begins_at v a t l ih e = go (eqb t 0) refl e
  where
    both : t ≡ 0 → (starts v a ≡ true) ⊎ (any_start v (suc a) l ≡ true) → Begins v a (t ∷ l)
    both z (inl h) =
        let e : a + 0 ≡ a = omega arith in
        (0, omega arith, z, rw e h)
    both z (inr h) = later v a t l (ih h)

    go : (b : Bool) → eqb t 0 ≡ b → cond b (starts v a || any_start v (suc a) l) (any_start v (suc a) l) ≡ true → Begins v a (t ∷ l)
    go true q h = both (eqb-true t 0 q) (or_either (starts v a) (any_start v (suc a) l) h)
    go false q h = later v a t l (ih h)

begins : (v a : ℕ) (l : List ℕ) → any_start v a l ≡ true → Begins v a l
begins v a [] e = absurd (true≢false (sym e))
begins v a (t ∷ l) e = begins_at v a t l (begins v (suc a) l) e

started_later : (v a t : ℕ) (l : List ℕ) → any_start v (suc a) l ≡ true → any_start v a (t ∷ l) ≡ true
started_later v a t l h = go (eqb t 0)
  where
    go : (b : Bool) → cond b (starts v a || any_start v (suc a) l) (any_start v (suc a) l) ≡ true
    go true = or_right (starts v a) (any_start v (suc a) l) h
    go false = h

started : (v a : ℕ) (l : List ℕ) (i : ℕ) → i < length l → get_or l i 0 ≡ 0 → starts v (a + i) ≡ true → any_start v a l ≡ true
started v a [] i h z s = absurd (omega arith)
started v a (t ∷ l) zero h z s =
    let e : a + 0 ≡ a = omega arith in
    rw (eq-eqb t 0 z, rw e at s)
started v a (t ∷ l) (suc i) h z s =
    let e : a + suc i ≡ suc a + i = omega arith in
    started_later v a t l (started v (suc a) l i (omega arith) z (rw e at s))

-- v itself, or with one digit or two more.
starts-same : (v m : ℕ) → m ≡ v → starts v m ≡ true
starts-same v m e = rw (eq-eqb m v e)

starts_ten : (v m : ℕ) → m / 10 ≡ v → starts v m ≡ true
starts_ten v m e = or_right (eqb m v) _ (rw (eq-eqb (m / 10) v e))

starts_hundred : (v m : ℕ) → m / 100 ≡ v → starts v m ≡ true
starts_hundred v m e = or_right (eqb m v) _ (or_right (eqb (m / 10) v) _ (eq-eqb (m / 100) v e))

pub one_free : (v : ℕ) (used : List ℕ) → FreeIn used v (v + 1) → any_start v 0 used ≡ true
one_free v used f = started v 0 used f.0 f.3 f.4 (starts-same v (0 + f.0) (omega arith))

pub ten_free : (v : ℕ) (used : List ℕ) → FreeIn used (10 * v) (10 * v + 10) → any_start v 0 used ≡ true
ten_free v used f = started v 0 used f.0 f.3 f.4 (starts_ten v (0 + f.0) (omega arith))

pub hundred_free : (v : ℕ) (used : List ℕ) → FreeIn used (100 * v) (100 * v + 100) → any_start v 0 used ≡ true
hundred_free v used f = started v 0 used f.0 f.3 f.4 (starts_hundred v (0 + f.0) (omega arith))

-- None of these.
pub none_free : (v : ℕ) (used : List ℕ) → (FreeIn used v (v + 1) → ⊥) → (FreeIn used (10 * v) (10 * v + 10) → ⊥)
    → (FreeIn used (100 * v) (100 * v + 100) → ⊥) → any_start v 0 used ≡ false
none_free v used no_one no-ten no-hundred = false_if (any_start v 0 used) (λ e. let b = begins v 0 used e in go b.0 b.1 b.2 b.3)
  where
    last : (m : ℕ) → m < length used → get_or used m 0 ≡ 0 → (eqb (m / 10) v ≡ true) ⊎ (eqb (m / 100) v ≡ true) → ⊥
    last m h z (inl e) = let q = eqb-true (m / 10) v e in no-ten (m, omega arith, omega arith, h, z)
    last m h z (inr e) = let q = eqb-true (m / 100) v e in no-hundred (m, omega arith, omega arith, h, z)

    first : (m : ℕ) → m < length used → get_or used m 0 ≡ 0 → (eqb m v ≡ true) ⊎ ((eqb (m / 10) v || eqb (m / 100) v) ≡ true) → ⊥
    first m h z (inl e) = let q = eqb-true m v e in no_one (m, omega arith, omega arith, h, z)
    first m h z (inr e) = last m h z (or_either (eqb (m / 10) v) (eqb (m / 100) v) e)

    go : (m : ℕ) → m < length used → get_or used m 0 ≡ 0 → starts v (0 + m) ≡ true → ⊥
    go m h z s =
        let e : 0 + m ≡ m = omega arith in
        let s : starts v m ≡ true = rw e at s in
        first m h z (or_either (eqb m v) (eqb (m / 10) v || eqb (m / 100) v) s)

pub ruleset free_leaves = (one_free, ten_free, hundred_free, none_free)

-- The marks from `from` on, m of them: where one is 0.
module _ (used : List ℕ) (from k m : ℕ) (h : from ≤ length used) (e : m ≡ min k (length used - from)) where
  abbrev marks : List ℕ
  marks = take m (take (length used - from) (drop from used))

  marks-length : length marks ≡ m
  marks-length = length-take-le m _ (omega (arith, length-take-le (length used - from) (drop from used) (omega (arith, length-drop from used))))

  mark_at : (i : ℕ) → i < m → get_or marks i 0 ≡ get_or used (from + i) 0
  mark_at i l = get_or-take m _ i 0 l ∙ get_or-take (length used - from) _ i 0 (omega arith) ∙ get_or-drop from used i 0

  pub zero_among : (r : Bool) → IsAnyAnswer (λ y b. eqb y 0 ≡ b) marks r → (r ≡ true) ↔ FreeIn used from (from + k)
  zero_among true (i, l, s) =
      let g : i < m = omega (arith, marks-length) in
      (λ t. (from + i, omega arith, omega arith, omega arith, sym (mark_at i g) ∙ eqb-true (get_or marks i 0) 0 (s 0)), λ f. refl)
  zero_among false s = (
    λ t. absurd (true≢false (sym t)),
    λ f.
        let x : f.0 ≡ from + (f.0 - from) = omega (arith, f.1) in
        let g : f.0 - from < m = omega (arith, f.1, f.2, f.3) in
        let z : get_or marks (f.0 - from) 0 ≡ 0 = mark_at (f.0 - from) g ∙ ap (λ i. get_or used i 0) (sym x) ∙ f.4 in
        absurd (true≢false (sym (eq-eqb (get_or marks (f.0 - from) 0) 0 z) ∙ s (f.0 - from) 0 (omega arith) (omega (arith, marks-length)))),
  )
