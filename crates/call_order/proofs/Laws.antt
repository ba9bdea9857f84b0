-- The order read leaf by leaf, and its last leaf.
use mathlib.Core.Path.{◌≡◌, refl, ap, ◌∙◌}
use mathlib.Core.Bool.{Bool, true, false, not, ◌&&◌}
use mathlib.Core.List.{List, [], ◌∷◌}
use Prim.Native.Nat.{ℕ, suc, ◌+◌, ◌-◌, ◌≤◌, ◌<◌}
use native.Mathlib.Omega.{arith}
use native.Mathlib.Numerals.{add-one}
use lib.ListN.{length, get_or}
use Rattle.spec_orders.specs.declared.Layout.{Layout}
use Rattle.spec_orders.specs.declared.Layout.TheVariants.{Ring, Rack}
use Rattle.spec_orders.specs.Lists.{count}
use Rattle.spec_orders.specs.CircularOrder.{Restriction}
use Rattle.spec_orders.specs.Layout.{Visible, ConsecutiveOn}
use Rattle.spec_orders.specs.Conflict.{consecutive_on?}
use Rattle.spec_orders.specs.Aim.{last_of, start_after, run_start, aim_place, aim_of}
use Rattle.spec_orders.proofs.ListLaws.{tail, tail_is}
use Rattle.spec_orders.proofs.Decide.{decides_on}
use Rattle.spec_orders.proofs.StraightAims.{straight_aim}
use Rattle.spec_calls.specs.declared.Refusal.TheVariants.{NotConsecutive}
use Rattle.std.specs.declared.result.Result.TheVariants.{Ok, Err}
use Rattle.call_order.specs.Starts.{enters, starts, aim_in}

module _ (G : Restriction) (b : ℕ) where
  pub starts_none : (l : List ℕ) → length l ≡ 0 → starts G b l ≡ 0
  starts_none [] h = refl
  starts_none (x ∷ xs) h = absurd (omega arith)

  pub starts_here : (l : List ℕ) → 0 < length l → enters G b (get_or l 0 0) ≡ true → starts G b l ≡ 1 + starts G (get_or l 0 0) (tail l)
  starts_here [] h e = absurd (omega arith)
  starts_here (x ∷ xs) h e = rw (e, tail_is x xs) (omega arith)

  pub starts_later : (l : List ℕ) → 0 < length l → enters G b (get_or l 0 0) ≡ false → starts G b l ≡ starts G (get_or l 0 0) (tail l)
  starts_later [] h e = absurd (omega arith)
  starts_later (x ∷ xs) h e = rw (e, tail_is x xs)

  pub first_none : (p : ℕ) (l : List ℕ) → length l ≡ 0 → start_after G b p l ≡ 0
  first_none p [] h = refl
  first_none p (x ∷ xs) h = absurd (omega arith)

  pub first_here : (p : ℕ) (l : List ℕ) → 0 < length l → enters G b (get_or l 0 0) ≡ true → start_after G b p l ≡ p
  first_here p [] h e = absurd (omega arith)
  first_here p (x ∷ xs) h e = rw e

  pub first_later : (p : ℕ) (l : List ℕ) → 0 < length l → enters G b (get_or l 0 0) ≡ false → start_after G b p l ≡ start_after G (get_or l 0 0) (p + 1) (tail l)
  first_later p [] h e = absurd (omega arith)
  first_later p (x ∷ xs) h e = rw (e, tail_is x xs, add-one)

last_at : (x : ℕ) (xs : List ℕ) → get_or (x ∷ xs) (length xs) 0 ≡ last_of x xs
last_at x [] = refl
last_at x (y ∷ ys) = last_at y ys

last_index : (x : ℕ) (xs : List ℕ) → get_or (x ∷ xs) (length (x ∷ xs) - 1) 0 ≡ last_of x xs
last_index x xs =
    let e : suc (length xs) - 1 ≡ length xs = omega arith in
    ap (λ (n : ℕ). get_or (x ∷ xs) n 0) e ∙ last_at x xs

pub last_is : (l : List ℕ) → 0 < length l → get_or l (length l - 1) 0 ≡ last_of 0 l
last_is [] h = absurd (omega arith)
last_is (x ∷ xs) h = last_index x xs

pub after_inside : (a b : Bool) → b ≡ true → (a && not b) ≡ false
after_inside true b e = rw e
after_inside false b e = refl

pub after_outside : (a b : Bool) → b ≡ false → (a && not b) ≡ a
after_outside true b e = rw e
after_outside false b e = refl

-- The aim, from where the run starts and its size.
pub aim_is : (G : Restriction) (ord : List ℕ) (start size : ℕ) → 0 < length ord → start ≡ start_after G (get_or ord (length ord - 1) 0) 0 ord → size ≡ count G ord
    → get_or ord (aim_place Ring (length ord) start size) 0 ≡ aim_of Ring G ord
unfolding aim_of run_start
aim_is G ord start size h s m = rw (s, m, last_is ord h)

-- On a rack it is that of the circle.
same_aim : (l : Layout) (G : Restriction) (ord : List ℕ) → Visible l (length ord) G → ConsecutiveOn l G ord → 1 ≤ count G ord → aim_of l G ord ≡ aim_of Ring G ord
same_aim Ring G ord v h m = refl
same_aim Rack G ord v h m = straight_aim G ord h m v

pub aim_in_yes : (l : Layout) (G : Restriction) (ord : List ℕ) → Visible l (length ord) G → 1 ≤ count G ord → consecutive_on? l G ord ≡ true → aim_in l G ord ≡ Ok (aim_of Ring G ord)
unfolding aim_in
aim_in_yes l G ord v m e = rw e (ap Ok (same_aim l G ord v ((decides_on l G ord).0 e) m))

pub aim_in_no : (l : Layout) (G : Restriction) (ord : List ℕ) → consecutive_on? l G ord ≡ false → aim_in l G ord ≡ Err NotConsecutive
unfolding aim_in
aim_in_no l G ord e = rw e
