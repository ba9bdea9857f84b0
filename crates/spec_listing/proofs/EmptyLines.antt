-- A group line with no leaf. From line to line the tree stays in form, so such a line is kept with the tree as it was, or finds the book full; it
-- is told with no aim.
use mathlib.Core.Path.{◌≡◌, refl, ◌∙◌, ap}
use mathlib.Core.Bool.{Bool, true, false, cond}
use mathlib.Core.Option.{Option, none, some}
use mathlib.Core.List.{List, [], ◌∷◌}
use Prim.Native.Nat.{ℕ, suc}
use lib.Dec.{eqb}
use lib.ListN.{length, take}
use Rattle.spec_orders.specs.Lists.{elem}
use Rattle.spec_orders.specs.Tree.{Forest}
use Rattle.spec_orders.specs.Form.{InForm}
use Rattle.spec_orders.specs.Join.{join}
use Rattle.spec_orders.specs.Circles.{bytes}
use Rattle.spec_orders.proofs.Joining.{empty_joins, join_some}
use Rattle.spec_orders.proofs.Fresh.{fresh_form}
use Rattle.spec_listing.specs.Listing.{RingState, opened, kept, full, joined, outcome, next, run, state_at, fields}

module _ (n : ℕ) where
  joined_form : (s : RingState) (k : ℕ) (list : List ℕ) → InForm n s.tree → (o : Option Forest) → join (elem list) s.tree ≡ o
      → InForm n (next s k list (joined n s (elem list) o)).tree
  joined_form s k list f (some t) e = (join_some n (elem list) s.tree t f e).form
  joined_form s k list f none e = f

  pub next_form : (s : RingState) (k : ℕ) (list : List ℕ) → InForm n s.tree → InForm n (next s k list (outcome n s list)).tree
  unfolding outcome
  next_form s k list f = go (eqb (length s.groups) 96)
    where
      go : (b : Bool) → InForm n (next s k list (cond b full (joined n s (elem list) (join (elem list) s.tree)))).tree
      go true = f
      go false = joined_form s k list f (join (elem list) s.tree) refl

  pub run_form : (s : RingState) (k : ℕ) (lists : List (List ℕ)) → InForm n s.tree → InForm n (run n s k lists).tree
  unfolding run
  run_form s k [] f = f
  run_form s k (list ∷ lists) f = run_form (next s k list (outcome n s list)) (suc k) lists (next_form s k list f)

  -- The ring after any lines has a tree in form.
  pub state_form : (lists : List (List ℕ)) (l : ℕ) → InForm n (state_at n lists l).tree
  unfolding state_at
  state_form lists l = run_form (opened n) 1 (take l lists) (fresh_form n)

  empty_outcome : (s : RingState) → InForm n s.tree → outcome n s [] ≡ cond (eqb (length s.groups) 96) full (kept s.tree)
  unfolding outcome
  empty_outcome s f = ap (λ (o : Option Forest). cond (eqb (length s.groups) 96) full (joined n s (elem []) o)) (empty_joins (elem []) s.tree (λ x. refl) f.single)

  -- What is printed of a line with no leaf, behind its number.
  pub empty_fields : (names : List (List ℕ)) (ord : List ℕ) (s : RingState) → InForm n s.tree
      → fields names ord s [] (outcome n s []) ≡ cond (eqb (length s.groups) 96) (bytes " full - -") (bytes " kept - -")
  unfolding fields
  empty_fields names ord s f = ap (fields names ord s []) (empty_outcome s f) ∙ told (eqb (length s.groups) 96)
    where
      told : (b : Bool) → fields names ord s [] (cond b full (kept s.tree)) ≡ cond b (bytes " full - -") (bytes " kept - -")
      told true = refl
      told false = refl
