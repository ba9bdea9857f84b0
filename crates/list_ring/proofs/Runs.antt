-- The ring after one line more.
use mathlib.Core.Path.{◌≡◌, refl, ◌∙◌}
use mathlib.Core.List.{List, [], ◌∷◌}
use Prim.Native.Nat.{ℕ, zero, suc, ◌+◌, ◌<◌}
use native.Mathlib.Omega.{arith}
use native.Mathlib.Numerals.{add-one}
use lib.ListN.{length, get_or, take}
use lib.Seq.{take-length}
use Rattle.spec_listing.specs.Listing.{RingState, opened, outcome, next, run, state_at}

module _ (n : ℕ) where
  run_more : (s : RingState) (k : ℕ) (lists : List (List ℕ)) (l : ℕ) → l < length lists
      → run n s k (take (suc l) lists)
      ≡ next (run n s k (take l lists)) (k + l) (get_or lists l []) (outcome n (run n s k (take l lists)) (get_or lists l []))
  unfolding run
  run_more s k [] l h = absurd (omega arith)
  run_more s k (list ∷ lists) zero h = let e : k + 0 ≡ k = omega arith in rw e
  run_more s k (list ∷ lists) (suc l) h =
      let e : k + suc l ≡ suc k + l = omega arith in
      rw e (run_more (next s k list (outcome n s list)) (suc k) lists l (omega arith))

  pub state_none : (lists : List (List ℕ)) → state_at n lists 0 ≡ opened n
  unfolding state_at run
  state_none lists = refl

  pub state_more : (lists : List (List ℕ)) (l : ℕ) → l < length lists
      → state_at n lists (l + 1) ≡ next (state_at n lists l) (l + 1) (get_or lists l []) (outcome n (state_at n lists l) (get_or lists l []))
  unfolding state_at
  state_more lists l h =
      let e : 1 + l ≡ suc l = omega arith in
      rw add-one (run_more (opened n) 1 lists l h ∙ rw e)

  pub state_all : (lists : List (List ℕ)) (l : ℕ) → l ≡ length lists → state_at n lists l ≡ run n (opened n) 1 lists
  unfolding state_at
  state_all lists l e = rw (e, take-length)
