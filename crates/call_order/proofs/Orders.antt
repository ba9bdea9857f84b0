-- The call of the standard order: refused, or written.
use mathlib.Core.Path.{◌≡◌, sym, ◌∙◌, ap, ap₂, subst}
use mathlib.Core.Option.{some}
use mathlib.Core.List.{List}
use Prim.Native.Nat.{ℕ, ◌-◌}
use lib.ListN.{length, take, drop}
use Rattle.spec_orders.specs.Form.{StandardOrder}
use Rattle.spec_orders.specs.SeenFrom.{standard_on}
use Rattle.spec_orders.proofs.Straight.{standard-length}
use Rattle.tree_tokens.specs.Tokens.{Wrote, TreeTokens}
use Rattle.tree_tokens.proofs.Writes.{read_part}
use Rattle.spec_calls.specs.declared.Refusal.{Refusal}
use Rattle.spec_calls.specs.Tables.{Nodes, leaves}
use Rattle.spec_calls.specs.NodeTable.{held_tree}
use Rattle.spec_calls.specs.Refusals.{Reply, reply, reported, first_refusal, short}
use Rattle.spec_calls.specs.Calls.{filled_as, filled, of_tree, tree_checks, order_refusal, order_call}
use Rattle.spec_calls.specs.Demands.{OrderDemand}
use Rattle.spec_calls.proofs.Demands.{lent_held, order_meets}
use Rattle.call_checks.specs.Lent.{TreeLent}

module _ (nodes : Nodes) (order : List ℕ) where
  pub order_refused : (r : Refusal) → first_refusal (tree_checks nodes (short nodes.bins order)) ≡ some r → filled_as (reported r) order ≡ order_call nodes order
  unfolding order_call order_refusal
  order_refused r e = ap (λ o. filled o nodes.bins (of_tree (held_tree nodes) (standard_on nodes.layout nodes.bins)) order) (sym e)

  module _ (old toks : List ℕ) (k : ℕ) (h : TreeLent nodes (short nodes.bins order) old toks k) where
    order_length : length (standard_on nodes.layout nodes.bins h.tree) ≡ nodes.bins
    order_length = standard-length nodes.layout nodes.bins h.tree h.lent.whole.some_bin h.lent.tree.in_form

    pub order_tokens : TreeTokens (leaves nodes) (take (k - 0) (drop 0 toks))
    order_tokens = record { shown = h.tree; is = read_part h.wrote; in_form = h.lent.tree.in_form; few_leaves = h.lent.whole.few_leaves }

    pub order_done : (order' : List ℕ) (m : ℕ) → Wrote (standard_on nodes.layout nodes.bins h.tree) order order' m → filled_as (reply 0 m) order' ≡ order_call nodes order
    unfolding order_call order_refusal
    order_done order' m w =
        ap₂ (λ v x. filled_as (reply 0 v) x) (w.many ∙ order_length) w.text
        ∙ ap₂ (λ o t. filled o nodes.bins (of_tree t (standard_on nodes.layout nodes.bins)) order) (sym h.passes) (sym (lent_held nodes h.tree h.lent))

  pub order_demand : (r : Reply) (order' : List ℕ) → filled_as r order' ≡ order_call nodes order → OrderDemand nodes order order'
  order_demand r order' e t h l = subst (λ x. StandardOrder nodes.layout nodes.bins t (take nodes.bins x.table)) (sym e) (order_meets nodes order t h l)
