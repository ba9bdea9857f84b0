-- Reducing a tree keeps exactly the orders in which the marked leaves are contiguous, its leaves, and one item.
use mathlib.Core.Path.{◌∙◌, ◌≡◌, ap, ap₂, refl, subst, sym}
use mathlib.Core.Logic.{◌↔◌}
use mathlib.Core.Bool.{false, true}
use mathlib.Core.Option.{Option, none-ne-some, some-injective, none, some}
use mathlib.Core.List.{List, [], ◌∷◌}
use Prim.Native.Nat.{◌≤◌, suc, ℕ}
use native.Mathlib.Omega.{arith}
use lib.ListN.{length}
use Rattle.spec_orders.specs.Lists.{All, Rearranged}
use Rattle.spec_orders.specs.CircularOrder.{Restriction, Inside, Outside}
use Rattle.spec_orders.specs.Tree.{Kind, Forest, nil, leaf, node, Item, leaf_item, node_item, items, frontier, Consistent}
use Rattle.spec_orders.specs.Form.{Single}
use Rattle.spec_orders.specs.Reduce.{put, one, Class, empty, full, partial, class, Part, whole, settled, node_part, parts, reduce}
use Rattle.spec_orders.specs.Layout.{Contiguous}
use Rattle.spec_orders.proofs.Contiguous.{L, Late, sided_first, sided_last, in_con, out_con}
use Rattle.spec_orders.proofs.Laws.{leaves_of, consistent_perm}
use Rattle.spec_orders.specs.TreeText.{Forked}
use Rattle.spec_orders.proofs.First.{frontier_allowed, two_nonempty}
use Rattle.spec_orders.proofs.Parts.{one_single, forked_nonempty}
use Rattle.spec_orders.proofs.Gives.{Gives, same_iff}
use Rattle.spec_orders.proofs.Fits.{nil_order, Mark, mark, Single-item, leaf_pure, Fit, to_order}
use Rattle.spec_orders.proofs.Linear.{linear_node_ok}
use Rattle.spec_orders.proofs.Reduced.{reduced_node_ok}

module _ (S : Restriction) where
  pub part_item : (c : Class) (k : Kind) (i : Forest) (ps : List Part) → (node_part c k i ps).item ≡ node_item k i
  part_item empty k i ps = refl
  part_item full k i ps = refl
  part_item partial k i ps = refl

  pub whole_parts : (f : Forest) → whole (parts S f) ≡ f
  whole_parts nil = refl
  whole_parts (leaf b f) = ap (leaf b) (whole_parts f)
  whole_parts (node k i f) = ap₂ put (part_item (class S (frontier i)) k i (parts S i)) (whole_parts f)

  pub parts-length : (f : Forest) → length (parts S f) ≡ length (items f)
  parts-length nil = refl
  parts-length (leaf b f) = ap suc (parts-length f)
  parts-length (node k i f) = ap suc (parts-length f)

  out_fit : (t : Item) → Mark S (leaves_of t) empty → Fit S (settled empty t)
  out_fit t m = record { marked = m; linear_ok = same_iff (one t) (Late S) (λ xs s. sided_first S false true xs (to_order S _ t s m.0)); reduced_ok = same_iff (one t) (Contiguous S) (λ xs s. out_con S xs (to_order S _ t s m.0)); single = (t, refl) }

  in_fit : (t : Item) → Mark S (leaves_of t) full → Fit S (settled full t)
  in_fit t m = record { marked = m; linear_ok = same_iff (one t) (Late S) (λ xs s. sided_last S false true xs (to_order S _ t s m.0)); reduced_ok = same_iff (one t) (Contiguous S) (λ xs s. in_con S xs (to_order S _ t s m.0)); single = (t, refl) }

  node_fit : (c : Class) (k : Kind) (i : Forest) → Mark S (frontier i) c → 2 ≤ length (items i) → All (Fit S) (parts S i) → Fit S (node_part c k i (parts S i))
  node_fit empty k i m n f = out_fit (node_item k i) m
  node_fit full k i m n f = in_fit (node_item k i) m
  node_fit partial k i m n f =
      let e = whole_parts i in
      let w : (Outside S (frontier (whole (parts S i))) → ⊥) × (Inside S (frontier (whole (parts S i))) → ⊥) = subst (λ g. (Outside S (frontier g) → ⊥) × (Inside S (frontier g) → ⊥)) (sym e) m in
      let j = reduced_node_ok S k (parts S i) f w.0 in
      record {
        marked = m;
        linear_ok = λ xs. subst (λ g. Gives (node_part partial k i (parts S i)).linear xs ↔ (Consistent (node k g nil) xs × Late S xs)) e (linear_node_ok S k (parts S i) (omega (arith, parts-length i)) f w.0 w.1 xs);
        reduced_ok = λ xs. subst (λ g. Gives (node_part partial k i (parts S i)).reduced xs ↔ (Consistent (node k g nil) xs × Contiguous S xs)) e (j.0 xs);
        single = j.1;
      }

  leaf_fit : (b : ℕ) → (c : Class) → Mark S (b ∷ []) c → Fit S (settled c (leaf_item b))
  leaf_fit b empty m = out_fit (leaf_item b) m
  leaf_fit b full m = in_fit (leaf_item b) m
  leaf_fit b partial m = absurd (leaf_pure S b m)

  pub parts_fit : (f : Forest) → Forked f → All (Fit S) (parts S f)
  parts_fit nil h = tt
  parts_fit (leaf b f) h = (leaf_fit b (class S (b ∷ [])) (mark S (b ∷ []) tt), parts_fit f h)
  parts_fit (node k i f) h =
      (node_fit (class S (frontier i)) k i (mark S (frontier i) (forked_nonempty i h.0.1 (two_nonempty (items i) h.0.0))) h.0.0 (parts_fit i h.0.1), parts_fit f h.1)

  pub reduce_ok : (t : Forest) → Single (items t) → Forked t → (xs : L) → Gives (reduce S t) xs ↔ (Consistent t xs × Contiguous S xs)
  unfolding reduce
  reduce_ok (leaf b (leaf _ _)) l h xs = elim l [ ]
  reduce_ok (leaf b (node _ _ _)) l h xs = elim l [ ]
  reduce_ok (node k i (leaf _ _)) l h xs = elim l [ ]
  reduce_ok (node k i (node _ _ _)) l h xs = elim l [ ]
  reduce_ok nil l h xs = ((λ s. (s, subst (Contiguous S) (sym (nil_order s)) (out_con S [] tt))), (λ r. r.0))
  reduce_ok (leaf b nil) l h xs = (parts_fit (leaf b nil) h).0.reduced_ok xs
  reduce_ok (node k i nil) l h xs = subst (λ t. Gives (reduce S (node k i nil)) xs ↔ (Consistent (one t) xs × Contiguous S xs)) (part_item (class S (frontier i)) k i (parts S i)) ((parts_fit (node k i nil) h).0.reduced_ok xs)

  -- A tree comes out.
  reduce_some : (t t' : Forest) → Single (items t) → Forked t → reduce S t ≡ some t' → (xs : L) → Consistent t' xs ↔ (Consistent t xs × Contiguous S xs)
  reduce_some t t' l h e xs = subst (λ o. Gives o xs ↔ (Consistent t xs × Contiguous S xs)) e (reduce_ok t l h xs)

  -- The leaves are rearranged.
  pub reduce-frontier : (t t' : Forest) → Single (items t) → Forked t → reduce S t ≡ some t' → Rearranged (frontier t) (frontier t')
  reduce-frontier t t' l h e = consistent_perm ((reduce_some t t' l h e (frontier t')).0 (frontier_allowed t')).0

  -- One item stays one item.
  single_items : (o : Option Forest) (t' : Forest) → Single-item o → o ≡ some t' → Single (items t')
  single_items none t' l e = absurd (none-ne-some t' e)
  single_items (some f) t' l e = subst (λ g. Single (items g)) (sym l.1 ∙ some-injective f t' e) (one_single l.0)

  pub reduce_single : (t t' : Forest) → Single (items t) → Forked t → reduce S t ≡ some t' → Single (items t')
  unfolding reduce
  reduce_single (leaf b (leaf _ _)) t' l h e = elim l [ ]
  reduce_single (leaf b (node _ _ _)) t' l h e = elim l [ ]
  reduce_single (node k i (leaf _ _)) t' l h e = elim l [ ]
  reduce_single (node k i (node _ _ _)) t' l h e = elim l [ ]
  reduce_single nil t' l h e = subst (λ g. Single (items g)) (some-injective nil t' e) tt
  reduce_single (leaf b nil) t' l h e = single_items (some (leaf b nil)) t' (leaf_item b, refl) e
  reduce_single (node k i nil) t' l h e = single_items (reduce S (node k i nil)) t' (parts_fit (node k i nil) h).0.single e
