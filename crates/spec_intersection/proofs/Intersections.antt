-- The intersection of two trees in form: impossible iff they allow no order in common; else the tree in form that allows exactly the orders allowed by
-- both.
use mathlib.Core.Path.{◌∙◌, ◌≡◌, ap, refl, subst, sym}
use mathlib.Core.Logic.{◌↔◌}
use mathlib.Core.Option.{Option, none, some}
use mathlib.Core.List.{List, map}
use Prim.Native.Nat.{ℕ}
use Rattle.spec_orders.specs.Lists.{elem}
use Rattle.spec_orders.specs.CircularOrder.{CircularOrder}
use Rattle.spec_orders.specs.Tree.{Forest, Allowed}
use Rattle.spec_orders.specs.Form.{InForm, standard}
use Rattle.spec_orders.proofs.Rearranged.{perm_trans}
use Rattle.spec_orders.proofs.Laws.{consistent_perm}
use Rattle.spec_orders.proofs.StandardOrders.{standard_allowed}
use Rattle.spec_orders.proofs.Joining.{Allows, join_some}
use Rattle.spec_orders.proofs.Fresh.{joins_orders}
use Rattle.spec_intersection.specs.Intersection.{characteristic, intersection}
use Rattle.spec_intersection.proofs.Characteristic.{characteristic_orders}
use Rattle.spec_intersection.proofs.GroupWalk.{joins_keep}
use Rattle.spec_intersection.proofs.SameTrees.{same_tree}

module _ (n : ℕ) (t u : Forest) (f : InForm n t) (g : InForm n u) where
  circular : (ord : List ℕ) → Allowed t ord → CircularOrder n ord
  circular ord a = record { after = a.after; one_first = a.one_first; all_leaves = perm_trans f.all_leaves (consistent_perm a.order) }

  intersection_orders : (ord : List ℕ) → Allows (intersection t u) ord ↔ (Allowed t ord × Allowed u ord)
  unfolding intersection
  intersection_orders ord =
      let j = joins_orders n (map elem (characteristic u)) t f ord in
      let c = characteristic_orders n u g ord in
      ((λ h. let r = j.0 h in (r.0, c.1 (circular ord r.0, r.1))), (λ h. j.1 (h.0, (c.0 h.1).1)))

  -- "If there is none, the call is refused with 8."
  pub intersection_none : (intersection t u ≡ none) ↔ ((ord : List ℕ) → Allowed t ord → Allowed u ord → ⊥)
  intersection_none = ((λ e ord a b. subst (λ o. Allows o ord) e ((intersection_orders ord).1 (a, b))), (λ h. by_answer h (intersection t u) refl))
    where
      by_answer : ((ord : List ℕ) → Allowed t ord → Allowed u ord → ⊥) → (o : Option Forest) → intersection t u ≡ o → intersection t u ≡ none
      by_answer h none e = e
      by_answer h (some v) e = let r = (intersection_orders (standard v)).0 (subst (λ o. Allows o (standard v)) (sym e) (standard_allowed v)) in absurd (h (standard v) r.0 r.1)

-- "The tree that allows exactly the orders allowed by both."
pub record AllowsBoth (n : ℕ) (t u v : Forest) : Type 0 where
  pub form : InForm n v
  pub orders : (ord : List ℕ) → Allowed v ord ↔ (Allowed t ord × Allowed u ord)

pub intersection_some : (n : ℕ) (t u v : Forest) → InForm n t → InForm n u → intersection t u ≡ some v → AllowsBoth n t u v
unfolding intersection
intersection_some n t u v f g e = record {
  form = joins_keep (InForm n) (λ G t u f q. (join_some n G t u f q).form) (map elem (characteristic u)) t v f e;
  orders = λ ord. subst (λ o. Allows o ord ↔ (Allowed t ord × Allowed u ord)) e (intersection_orders n t u f g ord);
}

-- The groups of either tree may join the other.
pub intersection-either : (n : ℕ) (t u : Forest) → InForm n t → InForm n u → intersection t u ≡ intersection u t
intersection-either n t u f g = go (intersection t u) refl (intersection u t) refl
  where
    none_either : (t u : Forest) → InForm n t → InForm n u → intersection t u ≡ none → intersection u t ≡ none
    none_either t u f g e = (intersection_none n u t g f).1 (λ ord a b. (intersection_none n t u f g).0 e ord b a)

    go : (o : Option Forest) → intersection t u ≡ o → (p : Option Forest) → intersection u t ≡ p → intersection t u ≡ intersection u t
    go none e p d = e ∙ sym (none_either t u f g e)
    go (some v) e none d = none_either u t g f d ∙ sym d
    go (some v) e (some w) d =
        let a = intersection_some n t u v f g e in
        let b = intersection_some n u t w g f d in
        let h : (ord : List ℕ) → Allowed v ord ↔ Allowed w ord = λ ord. ((λ x. let r = (a.orders ord).0 x in (b.orders ord).1 (r.1, r.0)), (λ x. let r = (b.orders ord).0 x in (a.orders ord).1 (r.1, r.0))) in
        e ∙ ap some (same_tree n v w a.form b.form h) ∙ sym d
