-- A group is consecutive round a circle, or on a line, iff it starts there at most once.
use mathlib.Core.Path.{◌≡◌, refl, sym, ◌∙◌, ap}
use mathlib.Core.Bool.{Bool, true, false, cond, not, ◌&&◌}
use mathlib.Core.List.{[], ◌∷◌, ◌++◌, append-nil}
use Prim.Native.Nat.{ℕ, suc, ◌+◌, ◌≤◌, ◌<◌}
use native.Mathlib.Omega.{arith}
use borrow.Author.Tests.{leb-true, le-leb}
use lib.Dec.{leb}
use lib.ListN.{length}
use Rattle.spec_orders.specs.declared.Layout.{Layout}
use Rattle.spec_orders.specs.declared.Layout.TheVariants.{Ring, Rack}
use Rattle.spec_orders.specs.CircularOrder.{Restriction, Inside, Outside}
use Rattle.spec_orders.specs.Reduce.{complement}
use Rattle.spec_orders.specs.Join.{side}
use Rattle.spec_orders.specs.Layout.{Contiguous, Visible}
use Rattle.spec_orders.specs.Conflict.{consecutive?, consecutive_on?}
use Rattle.spec_orders.specs.Aim.{last_of, before_first}
use Rattle.spec_orders.proofs.Contiguous.{L, Early, sided_before, sided_last, con_out, early_con}
use Rattle.spec_orders.proofs.CircleAndLine.{consecutive_side}
use Rattle.spec_orders.proofs.Decide.{consecutive_decides, decides_on}
use Rattle.spec_orders.proofs.Tests.{same_tests}
use Rattle.call_order.specs.Starts.{starts}

module _ (G : Restriction) where
  -- With no start, nothing of the group follows a leaf outside it, and after a leaf of the group the others of it come first.
  none_out : (b : ℕ) (xs : L) → G b ≡ false → starts G b xs ≡ 0 → Outside G xs
  none_out b [] o e = tt
  none_out b (x ∷ xs) o e = go (G x) refl (rw o at e) (none_out x xs)
    where
      go : (c : Bool) → G x ≡ c → cond (c && true) (suc (starts G x xs)) (starts G x xs) ≡ 0 → (G x ≡ false → starts G x xs ≡ 0 → Outside G xs) → Outside G (x ∷ xs)
      go true q e h = absurd (omega arith)
      go false q e h = (q, h q e)

  none_early : (b : ℕ) (xs : L) → G b ≡ true → starts G b xs ≡ 0 → Early G xs
  none_early b [] i e = sided_last G true false [] tt
  none_early b (x ∷ xs) i e = go (G x) refl (rw i at e) (none_early x xs)
    where
      go : (c : Bool) → G x ≡ c → cond (c && false) (suc (starts G x xs)) (starts G x xs) ≡ 0 → (G x ≡ true → starts G x xs ≡ 0 → Early G xs) → Early G (x ∷ xs)
      go true q e h = sided_before G true false (x ∷ []) xs refl (q, tt) (h q e)
      go false q e h = sided_last G true false (x ∷ xs) (q, none_out x xs q e)

  -- With at most one start after a leaf outside it, the group is contiguous.
  one_contiguous : (b : ℕ) (xs : L) → G b ≡ false → starts G b xs ≤ 1 → Contiguous G xs
  one_contiguous b [] o l = early_con G [] (sided_last G true false [] tt)
  one_contiguous b (x ∷ xs) o l = go (G x) refl (rw o at l) (one_contiguous x xs)
    where
      go : (c : Bool) → G x ≡ c → cond (c && true) (suc (starts G x xs)) (starts G x xs) ≤ 1 → (G x ≡ false → starts G x xs ≤ 1 → Contiguous G xs) → Contiguous G (x ∷ xs)
      go true q l h = early_con G (x ∷ xs) (sided_before G true false (x ∷ []) xs refl (q, tt) (none_early x xs q (omega arith)))
      go false q l h = con_out G (x ∷ []) xs refl (q, tt) (h q l)

  -- A run starts at most once, and leaves outside do not.
  step_out : (b x : ℕ) (xs : L) → G x ≡ false → starts G b (x ∷ xs) ≡ starts G x xs
  step_out b x xs o = rw o

  step_in : (b x : ℕ) (xs : L) → G b ≡ true → starts G b (x ∷ xs) ≡ starts G x xs
  step_in b x xs i = go (G x)
    where
      go : (c : Bool) → cond (c && not (G b)) (suc (starts G x xs)) (starts G x xs) ≡ starts G x xs
      go true = rw i
      go false = refl

  step_most : (b x : ℕ) (xs : L) → starts G b (x ∷ xs) ≤ suc (starts G x xs)
  step_most b x xs = go (G x && not (G b))
    where
      go : (c : Bool) → cond c (suc (starts G x xs)) (starts G x xs) ≤ suc (starts G x xs)
      go true = omega arith
      go false = omega arith

  out_starts : (b : ℕ) (xs ys : L) → Outside G xs → starts G b (xs ++ ys) ≡ starts G (last_of b xs) ys
  out_starts b [] ys o = refl
  out_starts b (x ∷ xs) ys o = step_out b x (xs ++ ys) o.0 ∙ out_starts x xs ys o.1

  in_starts : (b : ℕ) (xs ys : L) → G b ≡ true → Inside G xs → starts G b (xs ++ ys) ≡ starts G (last_of b xs) ys
  in_starts b [] ys g i = refl
  in_starts b (x ∷ xs) ys g i = step_in b x (xs ++ ys) g ∙ in_starts x xs ys i.0 i.1

  run-starts : (b : ℕ) (xs ys : L) → Inside G xs → starts G b (xs ++ ys) ≤ suc (starts G (last_of b xs) ys)
  run-starts b [] ys i = omega arith
  run-starts b (x ∷ xs) ys i = omega (arith, step_most b x (xs ++ ys), in_starts x xs ys i.0 i.1)

  contiguous_one : (b : ℕ) (xs : L) → Contiguous G xs → starts G b xs ≤ 1
  contiguous_one b xs c =
      let m = last_of b c.left in
      let e = last_of m c.run in
      omega (
        arith,
        ap (starts G b) c.parts,
        out_starts b c.left (c.run ++ c.right) c.out_left,
        run-starts m c.run c.right c.in_run,
        ap (starts G e) (sym (append-nil c.right)),
        out_starts e c.right [] c.out_right,
      )

-- Round a circle, as many leaves of the group follow one outside as the other way round.
abbrev one : Bool → ℕ
one true = 1
one false = 0

balance : (G : Restriction) (b : ℕ) (xs : L) → starts G b xs + one (G b) ≡ starts (complement G) b xs + one (G (last_of b xs))
balance G b [] = refl
balance G b (x ∷ xs) = go (G x) refl (G b) refl (balance G x xs)
  where
    go : (c : Bool) → G x ≡ c → (d : Bool) → G b ≡ d → starts G x xs + one (G x) ≡ starts (complement G) x xs + one (G (last_of x xs))
        → starts G b (x ∷ xs) + one (G b) ≡ starts (complement G) b (x ∷ xs) + one (G (last_of x xs))
    go true p true q h = rw (p, q) (rw p at h)
    go true p false q h = rw (p, q) (omega (arith, rw p at h))
    go false p true q h = rw (p, q) (omega (arith, rw p at h))
    go false p false q h = rw (p, q) (rw p at h)

circle-starts : (G : Restriction) (x : ℕ) (xs : L) → starts G (last_of x xs) (x ∷ xs) ≡ starts (side x G) x xs
unfolding side
circle-starts G x xs = go (G x) refl
  where
    go : (b : Bool) → G x ≡ b → starts G (last_of x xs) (x ∷ xs) ≡ starts (cond b (complement G) G) x xs
    go true e = omega (arith, balance G (last_of x xs) (x ∷ xs), step_out (complement G) (last_of x xs) x xs (ap not e))
    go false e = step_out G (last_of x xs) x xs e

side_out : (G : Restriction) (x : ℕ) → side x G x ≡ false
unfolding side
side_out G x = go (G x) refl
  where
    go : (b : Bool) → G x ≡ b → cond b (complement G) G x ≡ false
    go true e = ap not e
    go false e = e

-- The test by starts: round a circle, and on a rack, where the hidden end bin stands before the first place.
consecutive_starts : (G : Restriction) (x : ℕ) (xs : L) → leb (starts G (last_of x xs) (x ∷ xs)) 1 ≡ consecutive? G (x ∷ xs)
consecutive_starts G x xs = same_tests _ _
    (λ e. (consecutive_decides G (x ∷ xs)).1 ((consecutive_side G x xs).1 (one_contiguous (side x G) x xs (side_out G x) (omega (arith, circle-starts G x xs, leb-true (starts G (last_of x xs) (x ∷ xs)) 1 e)))))
    (λ e. le-leb (starts G (last_of x xs) (x ∷ xs)) 1 (omega (arith, circle-starts G x xs, contiguous_one (side x G) x xs ((consecutive_side G x xs).0 ((consecutive_decides G (x ∷ xs)).0 e)))))

pub together_starts : (l : Layout) (G : Restriction) (ord : L) → 0 < length ord → Visible l (length ord) G → leb (starts G (before_first l ord) ord) 1 ≡ consecutive_on? l G ord
together_starts Ring G [] h v = absurd (omega arith)
together_starts Ring G (x ∷ xs) h v = consecutive_starts G x xs
together_starts Rack G ord h v = same_tests _ _
    (λ e. (decides_on Rack G ord).1 (one_contiguous G (suc (length ord)) ord v (leb-true (starts G (suc (length ord)) ord) 1 e)))
    (λ e. le-leb (starts G (suc (length ord)) ord) 1 (contiguous_one G (suc (length ord)) ord ((decides_on Rack G ord).0 e)))
