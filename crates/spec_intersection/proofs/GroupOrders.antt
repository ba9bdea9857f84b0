-- An order of the leaves in which each group of a tree stands together is allowed, where every C-node has three items or more.
use mathlib.Core.Path.{◌∙◌, ◌≡◌, ap, refl, subst, sym}
use mathlib.Core.Logic.{◌↔◌, ◌⊎◌, inl, inr}
use mathlib.Core.List.{List, [], ◌++◌, ◌∷◌, append-nil, reverse}
use Prim.Native.Nat.{ℕ}
use native.Mathlib.Omega.{arith}
use lib.ListN.{length}
use Rattle.spec_orders.specs.Lists.{All, Distinct, In, Rearranged}
use Rattle.spec_orders.specs.Tree.{Kind, P, C, Forest, nil, leaf, node, Item, leaf_item, node_item, items, rev, frontier, Consistent, no_items, leaf_first}
use Rattle.spec_orders.specs.Form.{Every, Enough, Single}
use Rattle.spec_orders.specs.Reduce.{put, one}
use Rattle.spec_orders.proofs.ListLaws.{all_left, all_right}
use Rattle.spec_orders.proofs.Rearranged.{perm_refl, perm_sym, perm_all, perm_distinct, nil_perm, short_perm}
use Rattle.spec_orders.proofs.Members.{in_right, all_in, in_all, perm_in, distinct_left, distinct_right, apart}
use Rattle.spec_orders.proofs.Laws.{leaves_of, flat, frontier-flat, consistent_perm, items-rev}
use Rattle.spec_orders.specs.TreeText.{Forked}
use Rattle.spec_orders.proofs.Parts.{consistent_put, node_in, forest, forest_items, items_forest}
use Rattle.spec_orders.proofs.Relabel.{enough_forked}
use Rattle.spec_intersection.specs.Intersection.{item_pairs, p_items, node_groups, characteristic}
use Rattle.spec_intersection.proofs.Lists.{Within, all_both}
use Rattle.spec_intersection.proofs.Pieces.{forked_fair, in_flat, items_distinct}
use Rattle.spec_intersection.proofs.Runs.{Run, run-right, run_drop, run_keep}
use Rattle.spec_intersection.proofs.Blocks.{Cut, cut_perm, Blocks, to_blocks, item_pairs_are, as_or_reversed}
use Rattle.spec_intersection.proofs.Groups.{Runs, Of-P, p_items_all, item_groups, groups-items, consistent_runs, item_within, Held, pairs_hold}

abbrev Built : Item → Type 0
Built t = (xs : List ℕ) → Rearranged (leaves_of t) xs → Distinct xs → Runs (item_groups t) xs → Consistent (one t) xs

-- Items whose leaves stand one after the other.
cut_consistent : (us : List Item) (xs : List ℕ) → All Built us → Cut us xs → Distinct xs → All (λ u. Runs (item_groups u) xs) us → Consistent (forest us) xs
cut_consistent [] xs h k d r = subst (Consistent nil) (sym k) no_items
cut_consistent (u ∷ us) xs h k d r =
    let b = k.0 in
    let c = k.1 in
    let dx : Distinct (b ++ c) = subst Distinct k.2 d in
    let ru : Runs (item_groups u) b =
    all_both (Within (leaves_of u)) (λ L. Run L xs) (λ L. Run L b)
    (λ L w x. run_keep L b c (subst (Run L) k.2 x) (λ y i j. apart y b c dx (perm_in y k.3 (w y j)) i)) (item_groups u) (item_within u) r.0 in
    let pc = cut_perm us c k.4 in
    let rc : All (λ v. Runs (item_groups v) c) us =
    in_all (λ v. Runs (item_groups v) c) us (λ v m.
    all_both (Within (leaves_of v)) (λ L. Run L xs) (λ L. Run L c)
    (λ L w x. run_drop L b c (subst (Run L) k.2 x) (λ y i j. apart y b c dx i (perm_in y pc (in_flat v us y m (w y j))))) (item_groups v) (item_within v) (all_in (λ t. Runs (item_groups t) xs) v us r.1 m)) in
    subst (Consistent (put u (forest us))) (sym k.2) (consistent_put u (forest us) b c (h.0 b k.3 (distinct_left b c dx) ru) (cut_consistent us c h.1 k.4 (distinct_right b c dx) rc))

-- Each item's leaves stand together: a leaf by itself; a P-node by the groups of a P-node above it; a C-node by its own groups; and any item by
-- those of a C-node above it.
in_run : (x : ℕ) (xs : List ℕ) → In x xs → Run (x ∷ []) xs
in_run x [] i = absurd i
in_run x (y ∷ xs) (inl e) = record { left = []; run = y ∷ []; right = xs; parts = refl; members = subst (λ z. Rearranged (x ∷ []) (z ∷ [])) e (perm_refl (x ∷ [])) }
in_run x (y ∷ xs) (inr i) = run-right (x ∷ []) (y ∷ []) xs (in_run x xs i)

module _ (xs : List ℕ) (d : Distinct xs) where
  c_held : (i : Forest) → Enough C i → Every Enough i → Distinct (frontier i) → Runs (item_pairs i) xs → Held (items i) xs
  c_held i n w di r = pairs_hold (items i) xs n (forked_fair i (enough_forked i w)) (subst Distinct (frontier-flat i) di) d (subst (λ l. Runs l xs) (item_pairs_are i) r)

  p_held : (f : Forest) → Every Enough f → Distinct (frontier f) → ((x : ℕ) → In x (frontier f) → In x xs) → All (Of-P (λ L. Run L xs)) (items f) → Runs (characteristic f) xs → All (λ t. Run (leaves_of t) xs) (items f)
  p_held nil w df h o r = tt
  p_held (leaf b f) w df h o r = (in_run b xs (h b (inl refl)), p_held f w df.1 (λ x i. h x (inr i)) o.1 r)
  p_held (node P i f) w df h o r =
      let s = all_right (λ L. Run L xs) (characteristic i) (characteristic f) (all_right (λ L. Run L xs) (p_items i) (characteristic i ++ characteristic f) r) in
      (o.0, p_held f w.1 (distinct_right (frontier i) (frontier f) df) (λ x j. h x (in_right x (frontier i) (frontier f) j)) o.1 s)
  p_held (node C i f) w df h o r =
      let a = all_left (λ L. Run L xs) (item_pairs i) (characteristic i ++ characteristic f) r in
      let s = all_right (λ L. Run L xs) (characteristic i) (characteristic f) (all_right (λ L. Run L xs) (item_pairs i) (characteristic i ++ characteristic f) r) in (
        rw (frontier-flat i) (c_held i w.0.0 w.0.1 (distinct_left (frontier i) (frontier f) df) a).together,
        p_held f w.1 (distinct_right (frontier i) (frontier f) df) (λ x j. h x (in_right x (frontier i) (frontier f) j)) o.1 s,
      )

  held : (k : Kind) (i : Forest) → Enough k i → Every Enough i → Rearranged (frontier i) xs → Runs (node_groups k i) xs → Runs (characteristic i) xs → All (λ t. Run (leaves_of t) xs) (items i)
  held P i n w p o r = p_held i w (perm_distinct (perm_sym p) d) (λ x j. perm_in x p j) ((p_items_all (λ L. Run L xs) i).0 o) r
  held C i n w p o r = (c_held i n w (perm_distinct (perm_sym p) d) o).each

built_leaf : (b : ℕ) → Built (leaf_item b)
built_leaf b xs p d r = subst (Consistent (leaf b nil)) (sym (short_perm p (omega arith))) (leaf_first no_items)

built_node : (k : Kind) (i : Forest) → Enough k i → Every Enough i → All Built (items i) → Built (node_item k i)
built_node k i n w h xs p d r = go k own
  where
    f : Forked i
    f = enough_forked i w

    own : Runs (node_groups k i) xs
    own = all_left (λ L. Run L xs) (node_groups k i) (characteristic i) r

    inner : Runs (characteristic i) xs
    inner = all_right (λ L. Run L xs) (node_groups k i) (characteristic i) r

    pf : Rearranged (flat (items i)) xs
    pf = subst (λ l. Rearranged l xs) (frontier-flat i) p

    df : Distinct (flat (items i))
    df = perm_distinct (perm_sym pf) d

    bl : Blocks (items i) xs
    bl = to_blocks (length (items i)) (items i) xs refl (forked_fair i f) d pf (held xs d k i n w p own inner)

    sq : Consistent (forest bl.seq) xs
    sq = cut_consistent bl.seq xs (perm_all Built bl.same h) bl.cut d (perm_all (λ t. Runs (item_groups t) xs) bl.same (groups-items (λ L. Run L xs) i inner))

    turn : (bl.seq ≡ items i) ⊎ (bl.seq ≡ reverse (items i)) → Consistent (node C i nil) xs
    turn (inl e) = node_in (inl refl) (subst (λ g. Consistent g xs) (ap forest e ∙ forest_items i) sq)
    turn (inr e) = node_in (inr refl) (subst (λ g. Consistent g xs) (ap forest (e ∙ sym (items-rev i)) ∙ forest_items (rev i)) sq)

    go : (k : Kind) → Runs (node_groups k i) xs → Consistent (node k i nil) xs
    go P o = node_in {j = forest bl.seq} (subst (Rearranged (items i)) (sym (items_forest bl.seq)) bl.same) sq
    go C o = turn (as_or_reversed (items i) bl.seq xs bl.same bl.cut df (items_distinct (items i) (forked_fair i f) df) (forked_fair i f) (subst (λ l. Runs l xs) (item_pairs_are i) o))

builts : (f : Forest) → Every Enough f → All Built (items f)
builts nil w = tt
builts (leaf b f) w = (built_leaf b, builts f w)
builts (node k i f) w = (built_node k i w.0.0 w.0.1 (builts i w.0.1), builts f w.1)

runs_consistent : (f : Forest) → Single (items f) → All Built (items f) → (xs : List ℕ) → Rearranged (frontier f) xs → Distinct xs → Runs (characteristic f) xs → Consistent f xs
runs_consistent (leaf b (leaf _ _)) o h xs p d r = elim o [ ]
runs_consistent (leaf b (node _ _ _)) o h xs p d r = elim o [ ]
runs_consistent (node k i (leaf _ _)) o h xs p d r = elim o [ ]
runs_consistent (node k i (node _ _ _)) o h xs p d r = elim o [ ]
runs_consistent nil o h xs p d r = subst (Consistent nil) (sym (nil_perm p)) no_items
runs_consistent (leaf b nil) o h xs p d r = h.0 xs p d r
runs_consistent (node k i nil) o h xs p d r = h.0 xs (rw append-nil at p) d (rw append-nil at r)

-- The orders of a tree: the rearrangements of its leaves in which each of its groups stands together.
pub orders_by_groups : (t : Forest) → Single (items t) → Every Enough t → Distinct (frontier t) → (xs : List ℕ) → Consistent t xs ↔ (Rearranged (frontier t) xs × Runs (characteristic t) xs)
orders_by_groups t o w d xs = ((λ s. (consistent_perm s, consistent_runs s)), (λ h. runs_consistent t o (builts t w) xs h.0 (perm_distinct h.0 d) h.1))
