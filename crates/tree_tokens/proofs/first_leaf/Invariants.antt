use mathlib.Core.Path.{◌≡◌}
use Rattle.spec_orders.specs.Form.{first}
use Rattle.tree_tokens.specs.Tokens.{tree}
use Rattle.tree_tokens.proofs.Steps.{Left}
use Rattle.tree_tokens.proofs.first_leaf.Given as goal

abbrev pub invariant-loop-t : goal.invariant-loop-t
invariant-loop-t l = Left l.toks l.t-index (λ j k. first (tree j) ≡ first (tree k))
