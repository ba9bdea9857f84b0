-- The fresh ring allows every circular order. Restrictions that join it one after another leave those in which each is consecutive, so they
-- are possible together iff none of them fails.
use mathlib.Core.Path.{◌∙◌, ◌≡◌, ap, refl, subst, sym}
use mathlib.Core.Logic.Iff
use mathlib.Core.Logic.{◌↔◌}
use mathlib.Core.Bool.{Bool, cond, false, true}
use mathlib.Core.Option.{Option, none, some}
use mathlib.Core.List.{List, [], ◌∷◌, map}
use Prim.Native.Nat.{◌<◌, suc, zero, ℕ}
use native.Mathlib.Omega.{arith}
use borrow.Author.Tests.{ltb-true}
use lib.Dec.{ltb}
use lib.ListN.{length}
use Rattle.spec_orders.specs.declared.Layout.TheVariants.{Ring}
use Rattle.spec_orders.specs.Lists.{numbers_from, Rearranged}
use Rattle.spec_orders.specs.CircularOrder.{others, CircularOrder, Restriction, Consecutive}
use Rattle.spec_orders.specs.Layout.{AllOn, Possible}
use Rattle.spec_orders.specs.Tree.{P, Forest, nil, leaf, node, leaf_item, items, frontier, Consistent, no_items, leaf_first, Allowed}
use Rattle.spec_orders.specs.Form.{Rises, Rising, Canonical, Single, InForm, standard}
use Rattle.spec_orders.specs.Reduce.{pack}
use Rattle.spec_orders.specs.Join.{leaf_items, fresh, join, then, joins}
use Rattle.spec_orders.proofs.Rearranged.{perm_refl, perm_sym}
use Rattle.spec_orders.proofs.Members.{perm_map, perm_unmap}
use Rattle.spec_orders.proofs.Laws.{consistent_perm}
use Rattle.spec_orders.proofs.First.{frontier_allowed}
use Rattle.spec_orders.proofs.Parts.{one_single, node_in, node_out, forest, forest_items}
use Rattle.spec_orders.proofs.Gives.{gives_pack}
use Rattle.spec_orders.proofs.Reduced.{pack_single}
use Rattle.spec_orders.proofs.StandardOrders.{standard_allowed}
use Rattle.spec_orders.proofs.Joining.{Allows, join_orders, join_some}

-- A sequence of leaves.
items-leaves : (l : List ℕ) → items (leaf_items l) ≡ map leaf_item l
items-leaves [] = refl
items-leaves (b ∷ l) = ap (λ m. leaf_item b ∷ m) (items-leaves l)

forest_leaves : (l : List ℕ) → forest (map leaf_item l) ≡ leaf_items l
forest_leaves [] = refl
forest_leaves (b ∷ l) = ap (leaf b) (forest_leaves l)

pub frontier-leaves : (l : List ℕ) → frontier (leaf_items l) ≡ l
frontier-leaves [] = refl
frontier-leaves (b ∷ l) = ap (λ m. b ∷ m) (frontier-leaves l)

leaves_order : (l : List ℕ) {xs : List ℕ} → Consistent (leaf_items l) xs → xs ≡ l
leaves_order [] no_items = refl
leaves_order (b ∷ l) (leaf_first s) = ap (λ m. b ∷ m) (leaves_order l s)

pub pack-leaves : (l xs : List ℕ) → Consistent (pack (leaf_items l)) xs ↔ Rearranged l xs
pack-leaves l xs = Iff.trans (gives_pack (leaf_items l) xs) (to, from)
  where
    to : Consistent (node P (leaf_items l) nil) xs → Rearranged l xs
    to s =
        let r = node_out s in
        let m = perm_unmap leaf_item l (items-leaves l) r.turn in
        let e : r.turned ≡ leaf_items m.0 = sym (forest_items r.turned) ∙ ap forest m.2 ∙ forest_leaves m.0 in
        subst (Rearranged l) (sym (leaves_order m.0 (subst (λ g. Consistent g xs) e r.order))) m.1

    from : Rearranged l xs → Consistent (node P (leaf_items l) nil) xs
    from p = node_in {j = leaf_items xs} (rw (items-leaves l, items-leaves xs) (perm_map leaf_item p)) (subst (Consistent (leaf_items xs)) (frontier-leaves xs) (frontier_allowed (leaf_items xs)))

-- One P-node with rising leaves is in form, so the fresh ring is, for every n.
pub leaves_canonical : (l : List ℕ) → Canonical (leaf_items l)
leaves_canonical [] = tt
leaves_canonical (b ∷ l) = leaves_canonical l

numbers_rise : (m a n : ℕ) → m < a → Rises m (items (leaf_items (numbers_from a n)))
numbers_rise m a zero h = tt
numbers_rise m a (suc n) h = (h, numbers_rise a (suc a) n (omega arith))

pub others_rising : (n : ℕ) → Rising (items (leaf_items (others n)))
others_rising zero = tt
others_rising (suc zero) = tt
others_rising (suc (suc n)) = numbers_rise 2 3 n (omega arith)

pack_canonical : (f : Forest) → Canonical f → Rising (items f) → Canonical (pack f)
pack_canonical f c r = go (ltb 1 (length (items f))) refl
  where
    go : (b : Bool) → ltb 1 (length (items f)) ≡ b → Canonical (cond b (node P f nil) f)
    go true q = (((ltb-true 1 (length (items f)) q, r), c), tt)
    go false q = c

leaves_single : (l : List ℕ) → Single (items (pack (leaf_items l)))
leaves_single [] = tt
leaves_single (b ∷ l) = let r = pack_single (leaf_items (b ∷ l)) (omega arith) in subst (λ g. Single (items g)) (sym r.1) (one_single r.0)

pub leaves_form : (l : List ℕ) → Rising (items (leaf_items l)) → Single (items (pack (leaf_items l))) × Canonical (pack (leaf_items l)) × Rearranged l (frontier (pack (leaf_items l)))
leaves_form l r = (
  leaves_single l,
  pack_canonical (leaf_items l) (leaves_canonical l) r,
  perm_sym (consistent_perm ((pack-leaves l l).1 (perm_refl l))),
)

pub fresh_form : (n : ℕ) → InForm n (fresh n)
unfolding fresh
fresh_form n = let r = leaves_form (others n) (others_rising n) in record { single = r.0; canonical = r.1; all_leaves = r.2 }

pub fresh_allowed : (n : ℕ) (ord : List ℕ) → Allowed (fresh n) ord ↔ CircularOrder n ord
unfolding fresh
fresh_allowed n ord = (
  (λ a. record { after = a.after; one_first = a.one_first; all_leaves = (pack-leaves (others n) a.after).0 a.order }),
  (λ r. record { after = r.after; one_first = r.one_first; order = (pack-leaves (others n) r.after).1 r.all_leaves }),
)

-- Restrictions that join a tree in form, one after another.
pub joins_orders : (n : ℕ) (Gs : List Restriction) (t : Forest) → InForm n t → (ord : List ℕ) → Allows (joins Gs t) ord ↔ (Allowed t ord × AllOn Ring Gs ord)
unfolding joins
joins_orders n [] t f ord = ((λ a. (a, tt)), (λ r. r.0))
joins_orders n (G ∷ Gs) t f ord = go (join G t) refl (join_orders n G t f ord) (joins_orders n Gs)
  where
    go : (o : Option Forest) → join G t ≡ o → Allows o ord ↔ (Allowed t ord × Consecutive G ord)
        → ((u : Forest) → InForm n u → (ord : List ℕ) → Allows (joins Gs u) ord ↔ (Allowed u ord × AllOn Ring Gs ord))
        → Allows (then o (joins Gs)) ord ↔ (Allowed t ord × AllOn Ring (G ∷ Gs) ord)
    go none q k rec = ((λ g. absurd g), (λ r. k.1 (r.0, r.1.0)))
    go (some u) q k rec =
        let r = rec u (join_some n G t u f q).form ord in
        ((λ g. let a = r.0 g in let b = k.0 a.0 in (b.0, (b.1, a.1))), (λ g. r.1 (k.1 (g.0, g.1.0), g.1.1)))

-- From the fresh ring: the circular orders in which each restriction is consecutive.
pub fresh-joins : (n : ℕ) (Gs : List Restriction) (ord : List ℕ) → Allows (joins Gs (fresh n)) ord ↔ (CircularOrder n ord × AllOn Ring Gs ord)
fresh-joins n Gs ord =
    let r = joins_orders n Gs (fresh n) (fresh_form n) ord in
    let f = fresh_allowed n ord in
    ((λ a. let s = r.0 a in (f.0 s.0, s.1)), (λ s. r.1 (f.1 s.0, s.1)))

-- Possible together iff, joining one after another, none of them fails.
pub possible_joins : (n : ℕ) (Gs : List Restriction) → Possible Ring n Gs ↔ ((t : Forest) × (joins Gs (fresh n) ≡ some t))
possible_joins n Gs = ((λ p. to p (joins Gs (fresh n)) refl), from)
  where
    to : Possible Ring n Gs → (o : Option Forest) → joins Gs (fresh n) ≡ o → (t : Forest) × (joins Gs (fresh n) ≡ some t)
    to p none e = absurd (subst (λ o. Allows o p.order) e ((fresh-joins n Gs p.order).1 (p.is_order, p.hang)))
    to p (some t) e = (t, e)

    from : (t : Forest) × (joins Gs (fresh n) ≡ some t) → Possible Ring n Gs
    from (t, e) =
        let r = (fresh-joins n Gs (standard t)).0 (subst (λ o. Allows o (standard t)) (sym e) (standard_allowed t)) in
        record { order = standard t; is_order = r.0; hang = r.1 }
