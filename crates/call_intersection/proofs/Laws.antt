-- The checks of the pair, and the call's answer and table, from what its checks and its work come to.
use Rattle.spec_orders.specs.declared.Layout.{Layout}
use mathlib.Core.Path.{◌≡◌, refl, sym, ◌∙◌, ap, ap₂, subst}
use mathlib.Core.Bool.{◌||◌}
use mathlib.Core.Option.{Option, none, some}
use mathlib.Core.List.{List, [], ◌∷◌}
use Prim.Native.Nat.{ℕ}
use Rattle.spec_orders.specs.Tree.{Forest}
use Rattle.spec_intersection.specs.Intersection.{intersection}
use Rattle.std.specs.Prelude.{Some, None, Result}
use Rattle.tree_update.specs.Update.{Answers, written}
use Rattle.spec_calls.specs.declared.Refusal.{Refusal}
use Rattle.spec_calls.specs.declared.Refusal.TheVariants.{ShortTable, NotInForm, Impossible, BinCounts}
use Rattle.spec_calls.specs.Tables.{Nodes, over, lent_nodes}
use Rattle.spec_calls.specs.NodeTable.{table_of, held_tree}
use Rattle.spec_calls.specs.Refusals.{Reply, reply, reported, refuse, first_refusal, short_nodes, other_bins}
use Rattle.spec_calls.specs.Calls.{filled_as, filled, is_none, of_tree, common_tree, pair_sizes, pair_checks, common_checks, intersect_refusal, intersect_call}
use Rattle.spec_calls.specs.Demands.{Intersects, IntersectDemand}
use Rattle.spec_calls.proofs.Intersect.{common_of, intersect_meets}
use Rattle.spec_calls.proofs.Checks.{first_refusal_some, first_refusal_none}
use Rattle.call_intersection.specs.Common.{CommonLent, LendsCommon}

-- ---- checks 1, 15, 2 and 13

module _ (nodes other third : Nodes) where
  abbrev sizes : List (Option Refusal)
  sizes = pair_sizes nodes.layout nodes.bins other.layout other.bins

  abbrev after_sizes : List (Option Refusal)
  after_sizes = refuse ((short_nodes nodes || short_nodes other) || short_nodes third) ShortTable ∷ refuse (other_bins nodes other) BinCounts ∷ []

  pub sizes_refused : (r : Refusal) → first_refusal sizes ≡ some r → some r ≡ first_refusal (pair_checks nodes other third)
  sizes_refused r e = sym (first_refusal_some sizes after_sizes r e)

  pub past_sizes : {o : Option Refusal} → first_refusal sizes ≡ none → o ≡ first_refusal after_sizes → o ≡ first_refusal (pair_checks nodes other third)
  past_sizes e q = q ∙ sym (first_refusal_none sizes after_sizes e)

-- ---- checks 3 and 8

module _ (nodes other : Nodes) where
  pub first_bad : held_tree nodes ≡ none → first_refusal (common_checks nodes other) ≡ some NotInForm
  first_bad h = rw h

  module _ (t : Forest) (h : held_tree nodes ≡ some t) where
    pub second_bad : held_tree other ≡ none → first_refusal (common_checks nodes other) ≡ some NotInForm
    second_bad g = rw (h, g)

    module _ (u : Forest) (g : held_tree other ≡ some u) where
      common_is : common_tree nodes other ≡ intersection t u
      common_is = common_of nodes other h g

      pub not_met : {old new : List ℕ} → Answers (intersection t u) old new None → first_refusal (common_checks nodes other) ≡ some Impossible
      not_met {old} {new} a = rw (h, g, common_is) (go (intersection t u) a)
        where
          go : (o : Option Forest) → Answers o old new None → first_refusal (refuse (is_none o) Impossible ∷ []) ≡ some Impossible
          go (some _) a = elim a [ ]
          go none a = refl

      pub met : {old new : List ℕ} {k : ℕ} → Answers (intersection t u) old new (Some k) → CommonLent nodes other old new k
      met {old} {new} {k} a = go (intersection t u) refl a
        where
          go : (o : Option Forest) → intersection t u ≡ o → Answers o old new (Some k) → CommonLent nodes other old new k
          go none i x'' = elim x'' [ ]
          go (some v) i (written w) = record {
            passes = rw (h, g, common_is, i);
            tree = v;
            is = common_is ∙ i;
            wrote = w;
          }

-- ---- the call

module _ (nodes other third : Nodes) where
  refused : (r : Refusal) → intersect_refusal nodes other third ≡ some r → filled_as (reported r) third.rows ≡ intersect_call nodes other third
  unfolding intersect_call
  refused r e = ap (λ o. filled o 0 (of_tree (common_tree nodes other) table_of) third.rows) (sym e)

  pub pair_refused : (r : Refusal) → first_refusal (pair_checks nodes other third) ≡ some r → filled_as (reported r) third.rows ≡ intersect_call nodes other third
  unfolding intersect_refusal
  pair_refused r e = refused r (first_refusal_some (pair_checks nodes other third) (common_checks nodes other) r e)

  module _ (e : first_refusal (pair_checks nodes other third) ≡ none) where
    later : intersect_refusal nodes other third ≡ first_refusal (common_checks nodes other)
    unfolding intersect_refusal
    later = first_refusal_none (pair_checks nodes other third) (common_checks nodes other) e

    pub common_refused : (r : Refusal) → first_refusal (common_checks nodes other) ≡ some r → filled_as (reported r) third.rows ≡ intersect_call nodes other third
    common_refused r c = refused r (later ∙ c)

    pub common_done : {old new : List ℕ} {k : ℕ} (c : CommonLent nodes other old new k) (rows' : List ℕ) → rows' ≡ over (table_of c.tree) third.rows
        → filled_as (reply 0 0) rows' ≡ intersect_call nodes other third
    unfolding intersect_call
    common_done c rows' r = ap (filled_as (reply 0 0)) r ∙ ap₂ (λ o t. filled o 0 (of_tree t table_of) third.rows) (sym (later ∙ c.passes)) (sym c.is)

  pub demand : (said : Reply) (rows' : List ℕ) → filled_as said rows' ≡ intersect_call nodes other third → IntersectDemand nodes other third said rows'
  demand said rows' e t u h g same records rows =
      subst (λ x. Intersects nodes.layout nodes.bins t u x.answer x.table) (sym e) (intersect_meets nodes other third t u h g same records rows)

-- Of a table lent for a second ring or rack of the same kind and as many bins.
pub lent_again : {l l2 : Layout} {n : ℕ} (m have had : ℕ) (rows rows2 old new : List ℕ) (x : Result ℕ Refusal) → (l ≡ l2) × (n ≡ m)
    → LendsCommon (lent_nodes l n have rows) (lent_nodes l n had rows2) old new x → LendsCommon (lent_nodes l n have rows) (lent_nodes l2 m had rows2) old new x
lent_again {l = l} {n = n} m have had rows rows2 old new x e h =
    subst (λ (k : Layout). LendsCommon (lent_nodes l n have rows) (lent_nodes k m had rows2) old new x) e.0
    (subst (λ (j : ℕ). LendsCommon (lent_nodes l n have rows) (lent_nodes l j had rows2) old new x) e.1 h)
