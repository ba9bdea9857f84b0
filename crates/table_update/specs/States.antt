-- The states of a tree's tokens, from what a sweep of its node table keeps.
use Rattle.std.specs.Prelude.{◌≡◌, cond, List, [], ◌∷◌, ℕ, ◌+◌, ◌-◌, ◌≤◌, ◌/◌, ◌%◌, eqb, get_or, take, drop}
use Rattle.std.proofs.Math.Option.{some}
use Rattle.spec_orders.specs.CircularOrder.{Restriction}
use Rattle.spec_orders.specs.Tree.{Forest}
use Rattle.spec_orders.specs.Form.{InForm}
use Rattle.spec_orders.specs.Reduce.{reduce}
use Rattle.mark_words.specs.Marks.{marked}
use Rattle.spec_calls.specs.NodeTable.{tree_in}
use Rattle.table_sweep.specs.Kept.{state_in, Swept}

-- The state of the item that a token begins, r nodes being before it: a leaf's is told by the marks, a node's stands in the place of its record.
abbrev pub state_beside : List ℕ → ℕ → ℕ → ℕ
state_beside work r t = cond (eqb (t / 8 % 2) 0) (cond (marked (take 4 (drop 0 work)) (t / 16)) 1 0) (state_in (get_or work (8 + r) 0))

-- The tokens, each with its state.
abbrev pub labelled_from : List ℕ → ℕ → List ℕ → List ℕ
labelled_from work r [] = []
labelled_from work r (t ∷ l) = (t - t % 8 + state_beside work r t) ∷ labelled_from work (r + t / 8 % 2) l

-- The table holds the tree t of n leaves and was swept with S, which reduces t to u.
pub record Updates (n : ℕ) (S : Restriction) (t u : Forest) (table work : List ℕ) : Type 0 where
  pub some_leaf : 1 ≤ n
  pub few_leaves : n ≤ 256
  pub held : tree_in n table ≡ some t
  pub swept : Swept n S table 0 work
  pub is : reduce S t ≡ some u
  pub form : InForm n u
