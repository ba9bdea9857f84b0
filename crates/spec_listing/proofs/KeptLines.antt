-- The group of a kept line is consecutive in the order after all lines, and its aim stands in the middle of its run there.
use mathlib.Core.Path.{◌≡◌, refl, ap, subst}
use mathlib.Core.Logic.{inl}
use mathlib.Core.Bool.{Bool, true, false, cond}
use mathlib.Core.Option.{Option, none-ne-some, none, some}
use mathlib.Core.List.{List, [], ◌∷◌}
use Prim.Native.Nat.{ℕ, zero, suc, ◌≤◌, ◌<◌}
use native.Mathlib.Omega.{arith}
use lib.Dec.{eqb}
use lib.ListN.{length, get_or, take}
use Rattle.spec_orders.specs.declared.Layout.TheVariants.{Ring}
use Rattle.spec_orders.specs.Lists.{elem}
use Rattle.spec_orders.specs.CircularOrder.{Consecutive}
use Rattle.spec_orders.specs.Tree.{Forest, Allowed}
use Rattle.spec_orders.specs.Form.{InForm, standard}
use Rattle.spec_orders.specs.Join.{join}
use Rattle.spec_orders.specs.Aim.{aim_of, Aimed}
use Rattle.spec_orders.proofs.Members.{perm_in, in_elem}
use Rattle.spec_orders.proofs.Numbers.{numbers_in, count_some}
use Rattle.spec_orders.proofs.StandardOrders.{standard_allowed, all_standard}
use Rattle.spec_orders.proofs.Joining.{join_some}
use Rattle.spec_orders.proofs.Fresh.{fresh_form}
use Rattle.spec_orders.proofs.Aims.{aimed}
use Rattle.spec_listing.specs.Listing.{RingState, opened, Outcome, kept, refused, full, joined, outcome, next, run, state_at}
use Rattle.spec_listing.proofs.EmptyLines.{next_form, run_form}

-- The tree of a kept group's outcome.
tree_of : Outcome → Option Forest
tree_of (kept t) = some t
tree_of (refused ns) = none
tree_of full = none

module _ (n : ℕ) where
  kept_joins : (s : RingState) (list : List ℕ) (t : Forest) → outcome n s list ≡ kept t → join (elem list) s.tree ≡ some t
  unfolding outcome tree_of
  kept_joins s list t e = go (eqb (length s.groups) 96) (join (elem list) s.tree) (ap tree_of e)
    where
      go : (b : Bool) (o : Option Forest) → tree_of (cond b full (joined n s (elem list) o)) ≡ some t → o ≡ some t
      go true o e = absurd (none-ne-some t e)
      go false (some u) e = e
      go false none e = absurd (none-ne-some t e)

  -- What the ring's tree allows after a line, and after all lines, it allowed before.
  next_allows : (s : RingState) (k : ℕ) (list : List ℕ) → InForm n s.tree → (ord : List ℕ) → Allowed (next s k list (outcome n s list)).tree ord → Allowed s.tree ord
  unfolding outcome
  next_allows s k list f ord = go (eqb (length s.groups) 96) (join (elem list) s.tree) refl
    where
      go : (b : Bool) (o : Option Forest) → join (elem list) s.tree ≡ o
          → Allowed (next s k list (cond b full (joined n s (elem list) o))).tree ord → Allowed s.tree ord
      go true o e a = a
      go false (some t) e a = (((join_some n (elem list) s.tree t f e).orders ord).0 a).0
      go false none e a = a

  run_allows : (s : RingState) (k : ℕ) (lists : List (List ℕ)) → InForm n s.tree → (ord : List ℕ) → Allowed (run n s k lists).tree ord → Allowed s.tree ord
  unfolding run
  run_allows s k [] f ord a = a
  run_allows s k (list ∷ lists) f ord a =
      next_allows s k list f ord (run_allows (next s k list (outcome n s list)) (suc k) lists (next_form n s k list f) ord a)

  -- So after all lines it allows only orders in which a kept line's group is consecutive.
  kept_in : (s : RingState) (k : ℕ) (lists : List (List ℕ)) → InForm n s.tree → (l : ℕ) → l < length lists
      → (t : Forest) → outcome n (run n s k (take l lists)) (get_or lists l []) ≡ kept t
      → (ord : List ℕ) → Allowed (run n s k lists).tree ord → Consecutive (elem (get_or lists l [])) ord
  unfolding run
  kept_in s k [] f l h t e ord a = absurd (omega arith)
  kept_in s k (list ∷ lists) f zero h t e ord a =
      let now = run_allows (next s k list (outcome n s list)) (suc k) lists (next_form n s k list f) ord a in
      (((join_some n (elem list) s.tree t f (kept_joins s list t e)).orders ord).0 (subst (λ (o : Outcome). Allowed (next s k list o).tree ord) e now)).1
  kept_in s k (list ∷ lists) f (suc l) h t e ord a =
      kept_in (next s k list (outcome n s list)) (suc k) lists (next_form n s k list f) l (omega arith) t e ord a

  -- The aim of a kept line that has a leaf stands in the middle of its group's run in the order after all lines.
  pub kept_aimed : (lists : List (List ℕ)) (l : ℕ) → l < length lists → (t : Forest) → outcome n (state_at n lists l) (get_or lists l []) ≡ kept t
      → (b : ℕ) (list : List ℕ) → get_or lists l [] ≡ b ∷ list → 1 ≤ b → b ≤ n
      → Aimed (elem (b ∷ list)) (standard (run n (opened n) 1 lists).tree) (aim_of Ring (elem (b ∷ list)) (standard (run n (opened n) 1 lists).tree))
  unfolding state_at
  kept_aimed lists l h t e b list q some_leaf few =
      let u = (run n (opened n) 1 lists).tree in
      let together = kept_in (opened n) 1 lists (fresh_form n) l h t e (standard u) (standard_allowed u) in
      let there = perm_in b (all_standard n u (run_form n (opened n) 1 lists (fresh_form n)) (omega arith)) (numbers_in 1 n b some_leaf (omega arith)) in
      aimed (elem (b ∷ list)) (standard u) (subst (λ (x : List ℕ). Consecutive (elem x) (standard u)) q together)
      (count_some (elem (b ∷ list)) (standard u) b (in_elem (b ∷ list) b (inl refl)) there)
