-- The conflict list of a rack is that of its ring of n + 1 bins: so code that finds the one finds the other.
use mathlib.Core.Path.{◌≡◌, ◌∙◌, ap, ap₂, refl}
use mathlib.Core.Bool.{Bool}
use mathlib.Core.List.{List, [], ◌++◌, ◌∷◌, map}
use Prim.Native.Nat.{ℕ, ◌≤◌}
use Rattle.spec_orders.specs.declared.Layout.{Layout}
use Rattle.spec_orders.specs.declared.Layout.TheVariants.{Ring}
use Rattle.spec_orders.specs.Lists.{All, numbers_from}
use Rattle.spec_orders.specs.CircularOrder.{Restriction}
use Rattle.spec_orders.specs.Layout.{leaf_count, Visible}
use Rattle.spec_orders.specs.Conflict.{possible?, leave_out, conflict_list, book_conflicts}
use Rattle.spec_orders.proofs.ListLaws.{all_append}
use Rattle.spec_orders.proofs.Tests.{same_tests}
use Rattle.spec_orders.proofs.Decide.{possible_decides}
use Rattle.spec_orders.proofs.Conflicts.{by_test}
use Rattle.spec_orders.proofs.Straight.{possible_leaves}

-- Two tests that say the same of all groups with Q give the same conflict list of such groups.
module _ {A : Type 0} (ok ok' : List A → Bool) (Q : A → Type 0) (agree : (Gs : List A) → All Q Gs → ok Gs ≡ ok' Gs) (f : ℕ → A) where
  rule_agrees : (stay : List A) (js : List ℕ) → All Q stay → All Q (map f js) → leave_out ok f stay js ≡ leave_out ok' f stay js
  unfolding leave_out by_test
  rule_agrees stay [] s w = refl
  rule_agrees stay (j ∷ js) s w =
      ap (λ (b : Bool). by_test b (j ∷ leave_out ok f (stay ++ (f j ∷ [])) js) (leave_out ok f stay js)) (agree (stay ++ map f js) (all_append Q stay (map f js) s w.1))
      ∙ ap₂ (λ (k m : List ℕ). by_test (ok' (stay ++ map f js)) (j ∷ k) m)
      (rule_agrees (stay ++ (f j ∷ [])) js (all_append Q stay (f j ∷ []) s (w.0, tt)) w.1)
      (rule_agrees stay js s w.1)

  list_agrees : (stay : List A) (js : List ℕ) → All Q stay → All Q (map f js) → conflict_list ok f stay js ≡ conflict_list ok' f stay js
  unfolding conflict_list by_test
  list_agrees stay js s w =
      ap₂ (λ (b : Bool) (l : List ℕ). by_test b [] l) (agree (stay ++ map f js) (all_append Q stay (map f js) s w)) (rule_agrees stay js s w)

module _ (l : Layout) (n : ℕ) (m : 1 ≤ n) where
  possible_same : (Gs : List Restriction) → All (Visible l n) Gs → possible? l n Gs ≡ possible? Ring (leaf_count l n) Gs
  possible_same Gs v =
      let a = possible_decides l n Gs in
      let b = possible_decides Ring (leaf_count l n) Gs in
      let c = possible_leaves l n Gs m v in
      same_tests (possible? l n Gs) (possible? Ring (leaf_count l n) Gs) (λ e. b.1 (c.0 (a.0 e))) (λ e. a.1 (c.1 (b.0 e)))

  pub conflicts_same : (f : ℕ → Restriction) (count : ℕ) (new : Restriction) → Visible l n new → All (Visible l n) (map f (numbers_from 1 count))
      → book_conflicts l n f count new ≡ book_conflicts Ring (leaf_count l n) f count new
  conflicts_same f count new v w =
      list_agrees (possible? l n) (possible? Ring (leaf_count l n)) (Visible l n) possible_same f (new ∷ []) (numbers_from 1 count) (v, tt) w
