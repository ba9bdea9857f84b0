-- How often a group starts round a circle, or on a line: at most once where it is consecutive.
use Rattle.std.specs.Prelude.{◌≡◌, Bool, cond, not, ◌&&◌, List, [], ◌∷◌, ℕ, suc, ◌≤◌, ◌<◌, length}
use Rattle.spec_orders.specs.declared.Layout.{Layout}
use Rattle.spec_orders.specs.Lists.{count}
use Rattle.spec_orders.specs.CircularOrder.{Restriction}
use Rattle.spec_orders.specs.Conflict.{consecutive_on?}
use Rattle.spec_orders.specs.Aim.{aim_of}
use Rattle.mark_words.specs.Marks.{marked, leaves_of}
use Rattle.spec_calls.specs.declared.Refusal.TheVariants.{NotConsecutive}
use Rattle.std.specs.declared.result.Result.{Result}
use Rattle.std.specs.declared.result.Result.TheVariants.{Ok, Err}
use Rattle.spec_calls.specs.declared.Refusal.{Refusal}

-- The leaf x is in the group after b, which is outside it.
abbrev pub enters : Restriction → ℕ → ℕ → Bool
enters G b x = G x && not (G b)

-- How many leaves of the list are in the group after one outside it; b stands before the list.
abbrev pub starts : Restriction → ℕ → List ℕ → ℕ
starts G b [] = 0
starts G b (x ∷ xs) = cond (enters G b x) (suc (starts G x xs)) (starts G x xs)

-- The four words of a group that has a leaf and whose leaves all stand in the order.
pub record GroupWithin (words order : List ℕ) : Type 0 where
  pub four : length words ≡ 4
  pub some_leaf : 1 ≤ length (leaves_of words)
  pub all_leaves : count (marked words) order ≡ length (leaves_of words)
  pub some_place : 0 < length order
  pub few_places : length order ≤ 256

-- Check 10, and the aim.
unfoldable pub aim_in : Layout → Restriction → List ℕ → Result ℕ Refusal
aim_in l G order = cond (consecutive_on? l G order) (Ok (aim_of l G order)) (Err NotConsecutive)
