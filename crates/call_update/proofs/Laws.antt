-- The calls' answers and tables, from what their checks and their work come to.
use mathlib.Core.Path.{◌≡◌, sym, ◌∙◌, ap, ap₂, subst}
use mathlib.Core.Option.{none, some}
use mathlib.Core.List.{List}
use Prim.Native.Nat.{ℕ, ◌≤◌}
use Rattle.spec_orders.specs.CircularOrder.{Restriction, group_of}
use Rattle.spec_orders.specs.Join.{fresh}
use Rattle.spec_orders.proofs.Joining.{join_some}
use Rattle.spec_calls.specs.declared.Refusal.{Refusal}
use Rattle.spec_calls.specs.Tables.{Nodes, leaves, Book, lent_book, over}
use Rattle.spec_calls.specs.Book.{emptied}
use Rattle.spec_calls.specs.NodeTable.{table_of}
use Rattle.spec_calls.specs.Refusals.{reply, first_refusal, short}
use Rattle.spec_calls.specs.Calls.{changed_as, unchanged, table_checks, open_refusal, opened, open_call}
use Rattle.spec_calls.proofs.NodeTables.{tree_in_holds}
use Rattle.table_sweep.specs.Kept.{Swept}
use Rattle.table_update.specs.States.{Updates}
use Rattle.spec_calls.proofs.Demands.{few_bins}
use Rattle.call_checks.proofs.Laws.{some_leaf}
use Rattle.call_trial.specs.Trials.{Joinable}

-- ---- opening

module _ (nodes : Nodes) (book : Book) where
  pub open_refused : (r : Refusal) → first_refusal (table_checks nodes (short 384 book.words)) ≡ some r → unchanged r nodes book ≡ open_call nodes book
  unfolding open_call open_refusal opened
  open_refused r e = ap (λ o. opened o nodes book) (sym e)

  pub opens : (rows' words' : List ℕ) → first_refusal (table_checks nodes (short 384 book.words)) ≡ none
      → rows' ≡ over (table_of (fresh (leaves nodes))) nodes.rows → words' ≡ emptied book.words → changed_as (reply 0 0) rows' (lent_book words' book.count) ≡ open_call nodes book
  unfolding open_call open_refusal opened
  opens rows' words' e p q = ap₂ (λ r w. changed_as (reply 0 0) r (lent_book w book.count)) p q ∙ ap (λ o. opened o nodes book) (sym e)

-- ---- joining

-- A group that can join: what the table's update takes, for a tree of r leaves.
pub can_update : {nodes : Nodes} {book : Book} {list marks work : List ℕ} {S : Restriction} {k r : ℕ} (j : Joinable nodes book list marks S k)
    → (nodes.bins ≤ 256 → r ≡ leaves nodes) → Swept (leaves nodes) S nodes.rows 0 work → Updates r S j.tree j.new nodes.rows work
can_update {nodes} {list = list} {work = work} {S = S} j is h =
    subst (λ (m : ℕ). Updates m S j.tree j.new nodes.rows work) (sym (is (few_bins nodes.layout nodes.bins j.few_leaves)))
    (record {
      some_leaf = some_leaf nodes.layout nodes.bins j.some_bin;
      few_leaves = j.few_leaves;
      held = j.held;
      swept = h;
      is = j.is;
      form = (join_some (leaves nodes) (group_of nodes.bins list) j.tree j.new ((tree_in_holds (leaves nodes) nodes.rows j.tree j.few_leaves).0 j.held).in_form j.joined).form;
    })
