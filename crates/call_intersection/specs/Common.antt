-- What the work of the intersection answers: the tree of the orders allowed by both lent trees, as tokens, or the first refusal down the table.
use Rattle.std.specs.Prelude.{◌≡◌, List, ℕ}
use Rattle.std.proofs.Math.Option.{none, some}
use Rattle.spec_orders.specs.Tree.{Forest}
use Rattle.tree_tokens.specs.Tokens.{Wrote, flat}
use Rattle.spec_calls.specs.Tables.{Nodes}
use Rattle.spec_calls.specs.Refusals.{first_refusal}
use Rattle.spec_calls.specs.Calls.{common_tree, common_checks}
use Rattle.std.specs.declared.result.Result.{Result}
use Rattle.std.specs.declared.result.Result.TheVariants.{Ok, Err}
use Rattle.spec_calls.specs.declared.Refusal.{Refusal}

pub record CommonLent (nodes other : Nodes) (old new : List ℕ) (k : ℕ) : Type 0 where
  pub passes : first_refusal (common_checks nodes other) ≡ none
  pub tree : Forest
  pub is : common_tree nodes other ≡ some tree
  pub wrote : Wrote (flat tree) old new k

abbrev pub LendsCommon : Nodes → Nodes → List ℕ → List ℕ → Result ℕ Refusal → Type 0
LendsCommon nodes other old new (Ok k) = CommonLent nodes other old new k
LendsCommon nodes other old new (Err r) = first_refusal (common_checks nodes other) ≡ some r
