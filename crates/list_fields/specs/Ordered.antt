-- The order by which leaves are named and aimed at.
use Rattle.std.specs.Prelude.{◌≡◌, List, ℕ, ◌≤◌}
use Rattle.spec_orders.specs.Tree.{Forest}
use Rattle.spec_orders.specs.Form.{InForm, standard}

-- The standard order of a tree in form for n leaves, 1 to 256.
pub record Ordered (n : ℕ) (order : List ℕ) : Type 0 where
  pub tree : Forest
  pub form : InForm n tree
  pub is : order ≡ standard tree
  pub some_leaf : 1 ≤ n
  pub few_leaves : n ≤ 256
