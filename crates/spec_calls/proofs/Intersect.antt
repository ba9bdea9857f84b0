-- The intersection's definition meets the demand on it, and either tree may be lent as the first one.
use mathlib.Core.Path.{◌≡◌, refl, sym, ◌∙◌, ap, ap₂, subst}
use mathlib.Core.Bool.{true, false, true≢false, ◌&&◌, ◌||◌}
use mathlib.Core.Logic.{◌≢◌}
use mathlib.Core.Option.{Option, none, some}
use mathlib.Core.List.{[], ◌∷◌, ◌++◌}
use Prim.Native.Nat.{ℕ, ◌≤◌}
use native.Mathlib.Omega.{arith}
use borrow.Author.Tests.{eq-eqb, eqb-true, not-false}
use lib.Dec.{eqb}
use lib.ListN.{length, drop}
use lib.Seq.{drop-append_seam}
use Rattle.spec_orders.specs.declared.Layout.{Layout}
use Rattle.spec_orders.specs.declared.Layout.TheVariants.{Ring, Rack}
use Rattle.spec_orders.specs.Layout.{leaf_count}
use Rattle.spec_orders.specs.Tree.{Forest}
use Rattle.spec_orders.specs.Form.{InForm}
use Rattle.spec_orders.specs.Join.{then}
use Rattle.spec_orders.specs.SeenFrom.{standard_on}
use Rattle.spec_orders.proofs.Tests.{or_neither, or_swap, and_both}
use Rattle.spec_orders.proofs.Straight.{standard-first, both_allowed, none_both}
use Rattle.spec_intersection.specs.Intersection.{intersection}
use Rattle.spec_intersection.proofs.Intersections.{intersection_none, intersection_some, intersection-either}
use Rattle.mark_words.proofs.Steps.{eqb_iff}
use Rattle.spec_calls.specs.declared.Refusal.{Refusal}
use Rattle.spec_calls.specs.declared.Refusal.TheVariants.{RingSize, RackSize, ShortTable, NotInForm, Impossible, BinCounts}
use Rattle.spec_calls.specs.Tables.{Nodes, leaves}
use Rattle.spec_calls.specs.NodeTable.{table_of, held_tree}
use Rattle.spec_calls.specs.Refusals.{Reply, reply, refuse, first_refusal, bad_size, full_rack, short_nodes, same_layout, other_bins}
use Rattle.spec_calls.specs.Calls.{Filled, is_none, of_tree, filled, common_tree, pair_checks, common_checks, intersect_refusal, intersect_call}
use Rattle.spec_calls.specs.Demands.{LentWhole, LentTree, SameBins, Intersects}
use Rattle.spec_calls.proofs.NodeTables.{table_length, tree_in_holds, over_holds}
use Rattle.spec_calls.proofs.Checks.{first_refusal_some, first_refusal-left, first_refusal_passed}
use Rattle.spec_calls.proofs.Demands.{nodes_fine, nodes-whole, whole_size, whole-rack, whole-nodes, lent_whole, lent_held, first-among}

-- Checks 1, 15, 2 and 13. Where none of them refuses: the tables are whole, and both are of rings, or of racks, of as many bins.
pub record Whole (nodes other third : Nodes) : Type 0 where
  pub first : LentWhole nodes
  pub second : LentWhole other
  pub same : SameBins nodes other
  pub third_records : 256 ≤ third.records
  pub third_rows : 65792 ≤ length third.rows

layout_fine : (l k : Layout) → l ≡ k → same_layout l k ≡ true
layout_fine Ring k e = subst (λ (m : Layout). same_layout Ring m ≡ true) e refl
layout_fine Rack k e = subst (λ (m : Layout). same_layout Rack m ≡ true) e refl

pub bins_fine : (nodes other : Nodes) → SameBins nodes other → other_bins nodes other ≡ false
bins_fine nodes other e = rw (layout_fine nodes.layout other.layout e.0, eq-eqb nodes.bins other.bins e.1)

layout_same : (l k : Layout) → same_layout l k ≡ true → l ≡ k
layout_same Ring Ring e = refl
layout_same Ring Rack e = absurd (true≢false (sym e))
layout_same Rack Ring e = absurd (true≢false (sym e))
layout_same Rack Rack e = refl

bins_same : (nodes other : Nodes) → other_bins nodes other ≡ false → SameBins nodes other
bins_same nodes other e =
    let layouts = same_layout nodes.layout other.layout in
    let both = and_both layouts (eqb nodes.bins other.bins) (not-false (layouts && eqb nodes.bins other.bins) e) in
    (layout_same nodes.layout other.layout both.0, eqb-true nodes.bins other.bins both.1)

pub pair_whole : (nodes other third : Nodes) → first_refusal (pair_checks nodes other third) ≡ none → Whole nodes other third
pair_whole nodes other third e =
    let r = first_refusal_passed
    ((bad_size nodes.bins || bad_size other.bins, RingSize)
    ∷ (full_rack nodes.layout nodes.bins || full_rack other.layout other.bins, RackSize)
    ∷ ((short_nodes nodes || short_nodes other) || short_nodes third, ShortTable)
    ∷ (other_bins nodes other, BinCounts)
    ∷ [])
    e in
    let size = or_neither (bad_size nodes.bins) (bad_size other.bins) r.0 in
    let rack = or_neither (full_rack nodes.layout nodes.bins) (full_rack other.layout other.bins) r.1.0 in
    let rows = or_neither (short_nodes nodes || short_nodes other) (short_nodes third) r.1.1.0 in
    let both = or_neither (short_nodes nodes) (short_nodes other) rows.0 in
    record {
      first = lent_whole nodes size.0 rack.0 both.0;
      second = lent_whole other size.1 rack.1 both.1;
      same = bins_same nodes other r.1.1.1.0;
      third_records = (nodes-whole third rows.1).0;
      third_rows = (nodes-whole third rows.1).1;
    }

-- The tree of the orders allowed by both, of the trees that are held; it is in form.
pub common_of : (nodes other : Nodes) {t u : Forest} → held_tree nodes ≡ some t → held_tree other ≡ some u → common_tree nodes other ≡ intersection t u
unfolding common_tree
common_of nodes other h g = ap₂ (λ a b. then a (λ t. then b (intersection t))) h g

-- As many bins are as many leaves.
pub same-leaves : (nodes other : Nodes) → SameBins nodes other → leaves nodes ≡ leaves other
same-leaves nodes other e = ap₂ leaf_count e.0 e.1

held_form : {n : ℕ} (lent : Nodes) (t : Forest) → leaves lent ≡ n → n ≤ 256 → held_tree lent ≡ some t → InForm n t
held_form lent t e few h = subst (λ n. InForm n t) e ((tree_in_holds (leaves lent) lent.rows t (omega (arith, e))).0 h).in_form

pub common_form : (nodes other : Nodes) → SameBins nodes other → leaves nodes ≤ 256 → (v : Forest) → common_tree nodes other ≡ some v → InForm (leaves nodes) v
unfolding common_tree
common_form nodes other same few v = go (held_tree nodes) refl (held_tree other) refl
  where
    go : (a : Option Forest) → held_tree nodes ≡ a → (b : Option Forest) → held_tree other ≡ b → then a (λ t. then b (intersection t)) ≡ some v → InForm (leaves nodes) v
    go none p b q e = absurd (let z : ◌≡◌ {A = ℕ} 0 1 = cc in omega arith)
    go (some t) p none q e = absurd (let z : ◌≡◌ {A = ℕ} 0 1 = cc in omega arith)
    go (some t) p (some u) q e = (intersection_some (leaves nodes) t u v (held_form nodes t refl few p) (held_form other u (sym (same-leaves nodes other same)) few q) e).form

module _ (nodes other third : Nodes) (t u : Forest) (h : LentTree nodes t) (g : LentTree other u) (same : SameBins nodes other) (records : 256 ≤ third.records) (rows : 65792 ≤ length third.rows) where
  the_common : common_tree nodes other ≡ intersection t u
  the_common = common_of nodes other (lent_held nodes t h) (lent_held other u g)

  the_refusal : intersect_refusal nodes other third ≡ first_refusal (refuse (is_none (intersection t u)) Impossible ∷ [])
  unfolding intersect_refusal
  the_refusal =
      rw (
        whole_size h.whole,
        whole_size g.whole,
        whole-rack h.whole,
        whole-rack g.whole,
        whole-nodes h.whole,
        whole-nodes g.whole,
        nodes_fine third records rows,
        bins_fine nodes other same,
        lent_held nodes t h,
        lent_held other u g,
        the_common,
      )

  -- Trees with an order in common: the call is done.
  pub intersect_done : (intersect_call nodes other third).answer ≢ reply 8 0 → (intersect_call nodes other third).answer ≡ reply 0 0
  unfolding intersect_call
  intersect_done = rw (the_refusal, the_common) (by_answer (intersection t u))
    where
      by_answer : (o : Option Forest) → (filled (first_refusal (refuse (is_none o) Impossible ∷ [])) 0 (of_tree o table_of) third.rows).answer ≢ reply 8 0
          → (filled (first_refusal (refuse (is_none o) Impossible ∷ [])) 0 (of_tree o table_of) third.rows).answer ≡ reply 0 0
      by_answer none q = absurd (q refl)
      by_answer (some v) q = refl

  pub intersect_meets : Intersects nodes.layout nodes.bins t u (intersect_call nodes other third).answer (intersect_call nodes other third).table
  unfolding intersect_call
  intersect_meets = rw (the_refusal, the_common) (by_answer (intersection t u) refl)
    where
      l : Layout
      l = nodes.layout

      n : ℕ
      n = nodes.bins

      t_form : InForm (leaf_count l n) t
      t_form = h.tree.in_form

      u_form : InForm (leaf_count l n) u
      u_form = subst (λ m. InForm m u) (sym (same-leaves nodes other same)) g.tree.in_form

      by_answer : (o : Option Forest) → intersection t u ≡ o
          → Intersects l n t u (filled (first_refusal (refuse (is_none o) Impossible ∷ [])) 0 (of_tree o table_of) third.rows).answer (filled (first_refusal (refuse (is_none o) Impossible ∷ [])) 0 (of_tree o table_of) third.rows).table
      by_answer none e = record {
        impossible = (λ q. (none_both l n t u h.whole.some_bin t_form).0 ((intersection_none (leaf_count l n) t u t_form u_form).0 e), λ q. refl);
        otherwise = λ q. absurd (q refl);
      }
      by_answer (some v) e =
          let i = intersection_some (leaf_count l n) t u v t_form u_form e in
          let orders = both_allowed l n t u v t_form i.orders in
          let first = first-among (standard-first l n v h.whole.some_bin i.form) orders in
          record {
            impossible = (λ q. absurd (omega (arith, ap (λ (s : Reply). s.number) q)), λ q. absurd (q (standard_on l n v) first.allowed.0 first.allowed.1));
            otherwise = λ q. record {
              new = v;
              held = over_holds (leaf_count l n) v third.rows i.form h.whole.few_leaves;
              orders = orders;
              first = first;
            };
          }

-- Either tree may be lent as the first one: the answer and the table are the same.
layout_swap : (l k : Layout) → same_layout l k ≡ same_layout k l
layout_swap Ring Ring = refl
layout_swap Ring Rack = refl
layout_swap Rack Ring = refl
layout_swap Rack Rack = refl

module _ (nodes other third : Nodes) where
  pair_either : pair_checks nodes other third ≡ pair_checks other nodes third
  pair_either =
      rw (
        or_swap (bad_size nodes.bins) (bad_size other.bins),
        or_swap (full_rack nodes.layout nodes.bins) (full_rack other.layout other.bins),
        or_swap (short_nodes nodes) (short_nodes other),
        layout_swap nodes.layout other.layout,
        eqb_iff nodes.bins other.bins other.bins nodes.bins sym sym,
      )

  common_either : SameBins nodes other → leaves nodes ≤ 256 → common_tree nodes other ≡ common_tree other nodes
  unfolding common_tree
  common_either same few = go (held_tree nodes) refl (held_tree other) refl
    where
      go : (a : Option Forest) → held_tree nodes ≡ a → (b : Option Forest) → held_tree other ≡ b → then a (λ t. then b (intersection t)) ≡ then b (λ u. then a (intersection u))
      go none p none q = refl
      go none p (some u) q = refl
      go (some t) p none q = refl
      go (some t) p (some u) q = intersection-either (leaves nodes) t u (held_form nodes t refl few p) (held_form other u (sym (same-leaves nodes other same)) few q)

  pub intersect_either : intersect_call nodes other third ≡ intersect_call other nodes third
  unfolding intersect_call intersect_refusal
  intersect_either = go (first_refusal (pair_checks nodes other third)) refl
    where
      the_call : Option Refusal → Option Forest → Filled
      the_call must tree = filled must 0 (of_tree tree table_of) third.rows

      go : (o : Option Refusal) → first_refusal (pair_checks nodes other third) ≡ o
          → the_call (first_refusal (pair_checks nodes other third ++ common_checks nodes other)) (common_tree nodes other) ≡ the_call (first_refusal (pair_checks other nodes third ++ common_checks other nodes)) (common_tree other nodes)
      go (some r) e =
          ap (λ o. the_call o (common_tree nodes other)) (first_refusal_some (pair_checks nodes other third) (common_checks nodes other) r e)
          ∙ ap (λ o. the_call o (common_tree other nodes)) (sym (first_refusal_some (pair_checks other nodes third) (common_checks other nodes) r (ap first_refusal (sym pair_either) ∙ e)))
      go none e =
          let w = pair_whole nodes other third e in
          let c = common_either w.same w.first.few_leaves in
          ap₂ (λ cs b. the_call (first_refusal (cs ++ (refuse b NotInForm ∷ refuse (is_none (common_tree nodes other)) Impossible ∷ []))) (common_tree nodes other)) pair_either (or_swap (is_none (held_tree nodes)) (is_none (held_tree other)))
          ∙ ap (λ t. the_call (first_refusal (pair_checks other nodes third ++ (refuse (is_none (held_tree other) || is_none (held_tree nodes)) NotInForm ∷ refuse (is_none t) Impossible ∷ []))) t) c

-- What stands past the third table's 256 records stays, whatever is lent.
pub intersect_past : (nodes other third : Nodes) → drop 65792 (intersect_call nodes other third).table ≡ drop 65792 third.rows
unfolding intersect_call intersect_refusal
intersect_past nodes other third = go (first_refusal (pair_checks nodes other third ++ common_checks nodes other)) refl (common_tree nodes other) refl
  where
    go : (o : Option Refusal) → first_refusal (pair_checks nodes other third ++ common_checks nodes other) ≡ o → (c : Option Forest) → common_tree nodes other ≡ c
        → drop 65792 (filled o 0 (of_tree c table_of) third.rows).table ≡ drop 65792 third.rows
    go (some r) p c q = refl
    go none p none q = refl
    go none p (some v) q =
        let w = pair_whole nodes other third (first_refusal-left (pair_checks nodes other third) (common_checks nodes other) p) in
        let long = table_length (leaves nodes) v (common_form nodes other w.same w.first.few_leaves v q) w.first.few_leaves in
        subst (λ k. drop k (table_of v ++ drop (length (table_of v)) third.rows) ≡ drop k third.rows) long (drop-append_seam (table_of v) (drop (length (table_of v)) third.rows))
