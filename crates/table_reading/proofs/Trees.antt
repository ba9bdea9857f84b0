-- The tree that a table holds, from what is known when all its records are read; and whether a restriction is possible, from its state.
use mathlib.Core.Path.{◌≡◌, refl, sym, ap, ◌∙◌}
use mathlib.Core.Bool.{true}
use mathlib.Core.Option.{none, some}
use mathlib.Core.List.{List, []}
use Prim.Native.Nat.{ℕ, zero, suc, ◌-◌, ◌≤◌}
use native.Mathlib.Omega.{arith}
use lib.ListN.{length, take, replicate}
use Rattle.spec_orders.specs.Lists.{done, next, here}
use Rattle.spec_orders.specs.CircularOrder.{Restriction, others}
use Rattle.spec_orders.specs.Tree.{Kind, Forest, nil, node}
use Rattle.spec_orders.specs.Form.{InForm}
use Rattle.spec_orders.specs.Reduce.{reduce}
use Rattle.spec_orders.specs.Join.{leaf_items}
use Rattle.spec_orders.proofs.Forms.{form_forked, form_one, form_two}
use lib.Seq.{length-take-le}
use Rattle.spec_calls.specs.Tables.{padded}
use Rattle.spec_calls.specs.Calls.{is_none}
use Rattle.spec_calls.specs.NodeTable.{rows, table_of, tree_in}
use Rattle.spec_calls.proofs.NodeTables.{tree_in_holds, tree_in_none}
use Rattle.tree_tokens.specs.Tokens.{State, E, F, L, R, X}
use Rattle.tree_tokens.specs.Views.{state_of}
use Rattle.tree_judge.specs.Judge.{can_reduce, judge}
use Rattle.tree_judge.specs.Total.{when}
use Rattle.tree_judge.proofs.Reduces.{reduce_total}
use Rattle.table_reading.specs.Reading.{blanks, Known, known, Behind}
use Rattle.table_reading.proofs.Sound.{sound, holds, length-blanks}
use Rattle.table_reading.proofs.Complete.{complete, all_blank}
use Rattle.table_reading.proofs.Same.{behind_same}

module _ (n : ℕ) (small : n ≤ 256) (S : Restriction) (table : List ℕ) (long : 65792 ≤ length table) where
  -- With three leaves or more: the one root is the tree, if n - 1 leaves were read.
  pub tree_read : {k : Kind} {i : Forest} {ls : List ℕ} → Behind n S table 0 (known n S (node k i nil) ls) → 3 ≤ n → length ls ≡ n - 1 → tree_in n table ≡ some (node k i nil)
  tree_read {k} {i} b m e = (tree_in_holds n table (node k i nil) small).1 (holds n S table long b m e)

  -- There is none, if what is known is no such root, or nothing is.
  pub no_tree : 3 ≤ n → ((t : Forest) (ls : List ℕ) → Behind n S table 0 (known n S t ls) → length ls ≡ n - 1 → ⊥) → tree_in n table ≡ none
  no_tree m h = (tree_in_none n table small).1 (λ t g. let c = complete n small S table t m g in h t c.read c.behind c.all)

  pub other_root : {t : Forest} {ls : List ℕ} → Behind n S table 0 (known n S t ls) → 3 ≤ n → (length ls ≡ n - 1 → ⊥) → tree_in n table ≡ none
  other_root b m h = no_tree m (λ u us c e. h (ap (λ (s : Known). length s.leaves) (behind_same n S b c) ∙ e))

-- With one leaf or two there is no node.
padded_none : (m : ℕ) → padded m [] ≡ blanks m
unfolding blanks
padded_none m = let e : m - 0 ≡ m = omega arith in ap (λ (k : ℕ). replicate k 0) e

small_table : (t : Forest) → rows 0 t ≡ [] → table_of t ≡ blanks 65792
unfolding table_of
small_table t e = ap (padded 65792) e ∙ padded_none 65792

small_form : (n : ℕ) → 1 ≤ n → n ≤ 2 → InForm n (leaf_items (others n)) × (rows 0 (leaf_items (others n)) ≡ [])
small_form zero l m = absurd (omega arith)
small_form (suc zero) l m = (record { single = tt; canonical = tt; all_leaves = done }, refl)
small_form (suc (suc zero)) l m = (record { single = tt; canonical = tt; all_leaves = next here done }, refl)
small_form (suc (suc (suc n))) l m = absurd (omega arith)

small_rows : (n : ℕ) (t : Forest) → 1 ≤ n → n ≤ 2 → InForm n t → rows 0 t ≡ []
small_rows zero t l m f = absurd (omega arith)
small_rows (suc zero) t l m f = ap (rows 0) (form_one t f)
small_rows (suc (suc zero)) t l m f = ap (rows 0) (form_two t f)
small_rows (suc (suc (suc n))) t l m f = absurd (omega arith)

module _ (n : ℕ) (S : Restriction) (table : List ℕ) (long : 65792 ≤ length table) (some_leaf : 1 ≤ n) (few : n ≤ 2) where
  pub small_read : {ls : List ℕ} → Behind n S table 0 (known n S nil ls) → tree_in n table ≡ some (leaf_items (others n))
  small_read b =
      let g = sound n S table long b in
      let f = small_form n some_leaf few in
      let all : take 65792 table ≡ blanks g.zeros = g.ends in
      let many : g.zeros ≡ 65792 = sym (length-blanks g.zeros) ∙ ap length (sym all) ∙ length-take-le 65792 table long in
      (tree_in_holds n table (leaf_items (others n)) (omega arith)).1 (record { in_form = f.0; records = all ∙ ap blanks many ∙ sym (small_table (leaf_items (others n)) f.1) })

  pub small_none : (Behind n S table 0 (known n S nil []) → ⊥) → tree_in n table ≡ none
  small_none h =
      (tree_in_none n table (omega arith)).1
      (λ t g. h (all_blank n S table 256 0 refl (g.records ∙ small_table t (small_rows n t some_leaf few g.in_form))))

-- A tree with a state is possible unless it is X.
impossible : (s : State) (f : Forest) → is_none (when (can_reduce s) f) ≡ true → s ≡ X
impossible E f e = cc
impossible F f e = cc
impossible L f e = cc
impossible R f e = cc
impossible X f e = refl

pub state_says : (n : ℕ) (S : Restriction) (t : Forest) → InForm n t → is_none (reduce S t) ≡ true → state_of (judge S t) ≡ X
state_says n S t h e = impossible (state_of (judge S t)) _ (ap is_none (sym (reduce_total S t (form_forked n t h))) ∙ e)

pub state_x : (n : ℕ) (S : Restriction) (t : Forest) → InForm n t → state_of (judge S t) ≡ X → reduce S t ≡ none
state_x n S t h e = reduce_total S t (form_forked n t h) ∙ rw e
