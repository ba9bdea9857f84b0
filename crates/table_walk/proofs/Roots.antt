-- The whole tree: with at most two leaves it has no node; else it is the node in the first record.
use mathlib.Core.Path.{◌≡◌, refl, sym, ap, ◌∙◌, subst}
use mathlib.Core.Bool.{Bool, true, false, not}
use mathlib.Core.Option.{Option, none, some}
use mathlib.Core.List.{List, ◌++◌}
use Prim.Native.Nat.{ℕ, zero, suc, ◌-◌, ◌≤◌}
use native.Mathlib.Omega.{arith}
use lib.ListN.{length, drop, replicate, take-append-drop}
use Rattle.spec_orders.specs.Tree.{Kind, Forest, nil, node}
use Rattle.spec_orders.specs.Form.{InForm}
use Rattle.spec_orders.specs.Join.{fresh}
use Rattle.spec_orders.proofs.Forms.{form_one, form_two, form_more}
use Rattle.spec_calls.specs.Calls.{is_none}
use Rattle.spec_calls.specs.NodeTable.{rows, Holds, tree_in}
use Rattle.spec_calls.proofs.NodeTables.{form_narrow, form_leaves, table_rows, tree_in_holds}
use Rattle.tree_tokens.specs.Tokens.{Wrote, flat}
use Rattle.tree_tokens.proofs.Counts.{form_size}
use Rattle.tree_tokens.proofs.FreshTree.{fresh-few}
use Rattle.table_walk.specs.Walks.{RowsStand, NodeThere, NodeWritten}

-- Whether a table holds a tree.
pub no_tree : (o : Option Forest) {b : Bool} → b ≡ not (is_none o) → not b ≡ true → o ≡ none
no_tree none e h = refl
no_tree (some t) e h = absurd (let z : ◌≡◌ {A = ℕ} 0 1 = cc in omega arith)

pub some_tree : (o : Option Forest) {b : Bool} → b ≡ not (is_none o) → not b ≡ false → (t : Forest) × (o ≡ some t)
some_tree none e h = absurd (let z : ◌≡◌ {A = ℕ} 0 1 = cc in omega arith)
some_tree (some t) e h = (t, refl)

-- With at most two leaves there is no node.
small_tree : (n : ℕ) (t : Forest) → 1 ≤ n → n ≤ 2 → InForm n t → flat (fresh n) ≡ flat t
small_tree zero t o h f = absurd (omega arith)
small_tree (suc zero) t o h f = fresh-few 1 0 refl (omega arith) ∙ ap (λ (u : Forest). flat u) (sym (form_one t f))
small_tree (suc (suc zero)) t o h f = fresh-few 2 1 refl (omega arith) ∙ ap (λ (u : Forest). flat u) (sym (form_two t f))
small_tree (suc (suc (suc n))) t o h f = absurd (omega arith)

-- The rows of the tree that a table holds.
table_is : (n : ℕ) (table : List ℕ) (t : Forest) → Holds n table t
    → table ≡ rows 0 t ++ (replicate (65792 - length (rows 0 t)) 0 ++ drop 65792 table)
table_is n table t h =
    sym (take-append-drop 65792 table) ∙ ap (λ (l : List ℕ). l ++ drop 65792 table) h.records ∙ table_rows t (drop 65792 table)

tree_stands : (n : ℕ) (table : List ℕ) (t : Forest) (room : ℕ) → n ≤ 256 → 512 ≤ room → Holds n table t → RowsStand table 0 t room
tree_stands n table t room l m h = record {
  more = replicate (65792 - length (rows 0 t)) 0 ++ drop 65792 table;
  at = table_is n table t h;
  leaves = form_leaves n t h.in_form l;
  narrow = form_narrow n t h.in_form l;
  fits = omega (arith, form_size n t h.in_form l);
  short = omega (arith, form_size n t h.in_form l);
}

-- What is written of the tree t that the table holds.
module _ {n : ℕ} {t : Forest} (table old : List ℕ) (one : 1 ≤ n) (most : n ≤ 256) (is : tree_in n table ≡ some t) where
  held : Holds n table t
  held = (tree_in_holds n table t most).0 is

  pub small_loaded : {new : List ℕ} {k : ℕ} → n ≤ 2 → Wrote (flat (fresh n)) old new k → Wrote (flat t) old new k
  small_loaded {new} {k} l w = subst (λ (x : List ℕ). Wrote x old new k) (small_tree n t one l held.in_form) w

  module _ (more : 3 ≤ n) (room : 512 ≤ length old) where
    root : (k : Kind) × (i : Forest) × (t ≡ node k i nil)
    root = form_more n t held.in_form more

    root_stands : RowsStand table 0 (node root.0 root.1 nil) (length old)
    root_stands = subst (λ (u : Forest). RowsStand table 0 u (length old)) root.2 (tree_stands n table t (length old) most room held)

    pub root_there : NodeThere table 0 (length old)
    root_there = (root.0, root.1, root_stands)

    pub large_loaded : {new : List ℕ} {k : ℕ} → NodeWritten table 0 old new k → Wrote (flat t) old new k
    large_loaded {new} {k} w = subst (λ (u : Forest). Wrote (flat u) old new k) (sym root.2) (w root.0 root.1 root_stands)
