-- In an order that a sequence allows each of its groups stands together; the leaves of a group, and what stands together where a node's groups do.
use mathlib.Core.Path.{◌∙◌, ap, subst, sym}
use mathlib.Core.Logic.{◌↔◌, inl, inr}
use mathlib.Core.List.{List, [], ◌++◌, ◌∷◌, append_assoc, append-nil, reverse}
use Prim.Native.Nat.{◌≤◌, ℕ}
use native.Mathlib.Omega.{arith}
use lib.ListN.{length}
use Rattle.spec_orders.specs.Lists.{All, Distinct, In, Rearranged}
use Rattle.spec_orders.specs.Tree.{Kind, P, C, Forest, nil, leaf, node, Item, leaf_item, node_item, items, frontier, Turn, Consistent, no_items, leaf_first, node_first}
use Rattle.spec_orders.proofs.ListLaws.{all_append, all_left, all_right, all_map}
use Rattle.spec_orders.proofs.Rearranged.{perm_sym, perm_all, perm_append}
use Rattle.spec_orders.proofs.Members.{nonempty_left, in_left, in_right, in_all, distinct_left, distinct_right}
use Rattle.spec_orders.proofs.Laws.{turn_perm, leaves_of, flat, frontier-flat}
use Rattle.spec_orders.proofs.Parts.{consistent_unput, item_perm, forest, forest_items}
use Rattle.spec_orders.proofs.Mirror.{consistent_unmirror}
use Rattle.spec_intersection.specs.Intersection.{item_pairs, p_items, node_groups, characteristic}
use Rattle.spec_intersection.proofs.Lists.{Within}
use Rattle.spec_intersection.proofs.Pieces.{Fair, in_flat, item_block}
use Rattle.spec_intersection.proofs.Runs.{Run, run-left, run-right, run_unmirror, run_three}
use Rattle.spec_intersection.proofs.Blocks.{pairs, item_pairs_are, pairs_within}

abbrev pub Runs : List (List ℕ) → List ℕ → Type 0
Runs l xs = All (λ L. Run L xs) l

-- The leaves of each item that is a P-node: item by item.
module _ (Q : List ℕ → Type 0) where
  abbrev pub Of-P : Item → Type 0
  Of-P (leaf_item b) = Unit {0}
  Of-P (node_item P i) = Q (frontier i)
  Of-P (node_item C i) = Unit {0}

  pub p_items_all : (f : Forest) → All Q (p_items f) ↔ All Of-P (items f)
  p_items_all nil = ((λ h. tt), (λ h. tt))
  p_items_all (leaf b f) = let r = p_items_all f in ((λ h. (tt, r.0 h)), (λ h. r.1 h.1))
  p_items_all (node P i f) = let r = p_items_all f in ((λ h. (h.0, r.0 h.1)), (λ h. (h.0, r.1 h.1)))
  p_items_all (node C i f) = let r = p_items_all f in ((λ h. (tt, r.0 h)), (λ h. r.1 h.1))

  every_item : (f : Forest) → All (λ t. Q (leaves_of t)) (items f) → All Q (p_items f)
  every_item f h = (p_items_all f).1 (all_map (λ t. Q (leaves_of t)) Of-P of_P (items f) h)
    where
      of_P : (t : Item) → Q (leaves_of t) → Of-P t
      of_P (leaf_item b) q = tt
      of_P (node_item P i) q = q
      of_P (node_item C i) q = tt

-- All groups, item by item.
abbrev pub item_groups : Item → List (List ℕ)
item_groups (leaf_item b) = []
item_groups (node_item k i) = node_groups k i ++ characteristic i

module _ (Q : List ℕ → Type 0) where
  pub groups-items : (f : Forest) → All Q (characteristic f) → All (λ t. All Q (item_groups t)) (items f)
  groups-items nil h = tt
  groups-items (leaf b f) h = (tt, groups-items f h)
  groups-items (node k i f) h =
      let g : All Q ((node_groups k i ++ characteristic i) ++ characteristic f) = rw append_assoc h in
      (all_left Q (node_groups k i ++ characteristic i) (characteristic f) g, groups-items f (all_right Q (node_groups k i ++ characteristic i) (characteristic f) g))

  items-groups : (f : Forest) → All (λ t. All Q (item_groups t)) (items f) → All Q (characteristic f)
  items-groups nil h = tt
  items-groups (leaf b f) h = items-groups f h.1
  items-groups (node k i f) h = subst (All Q) (append_assoc (node_groups k i) (characteristic i) (characteristic f)) (all_append Q (node_groups k i ++ characteristic i) (characteristic f) h.0 (items-groups f h.1))

  groups_perm : (i j : Forest) → Rearranged (items j) (items i) → All Q (characteristic j) → All Q (characteristic i)
  groups_perm i j p h = items-groups i (perm_all (λ t. All Q (item_groups t)) p (groups-items j h))

-- In an allowed order each item's leaves stand together, and so do neighbours.
item_runs : (j : Forest) (xs : List ℕ) → Consistent j xs → All (λ t. Run (leaves_of t) xs) (items j)
item_runs j xs s =
    in_all (λ t. Run (leaves_of t) xs) (items j)
    (λ t i. let b = item_block t j xs i s in record { left = b.left; run = b.block; right = b.right; parts = b.parts; members = item_perm t b.block b.order })

pair_runs : (ts : List Item) (xs : List ℕ) → Consistent (forest ts) xs → Runs (pairs ts) xs
pair_runs [] xs s = tt
pair_runs (t ∷ []) xs s = tt
pair_runs (t ∷ (u ∷ ts)) xs s =
    let a = consistent_unput t (forest (u ∷ ts)) xs s in
    let b = consistent_unput u (forest ts) a.back a.of_back in (
      record {
        left = [];
        run = a.front ++ b.front;
        right = b.back;
        parts = a.whole ∙ ap (λ l. a.front ++ l) b.whole ∙ sym (append_assoc a.front b.front b.back);
        members = perm_append (item_perm t a.front a.of_front) (item_perm u b.front b.of_front);
      },
      subst (Runs (pairs (u ∷ ts))) (sym a.whole) (all_map (λ L. Run L a.back) (λ L. Run L (a.front ++ a.back)) (λ L. run-right L a.front a.back) (pairs (u ∷ ts)) (pair_runs (u ∷ ts) a.back a.of_back)),
    )

neighbour_runs : (i : Forest) (xs : List ℕ) → Consistent i xs → Runs (item_pairs i) xs
neighbour_runs i xs s = rw (item_pairs_are i) (pair_runs (items i) xs (rw (forest_items i) s))

node_runs : (k : Kind) (i j : Forest) (xs : List ℕ) → Turn k i j → Consistent j xs → Runs (node_groups k i) xs
node_runs P i j xs t s = every_item (λ L. Run L xs) i (perm_all (λ u. Run (leaves_of u) xs) (perm_sym t) (item_runs j xs s))
node_runs C i j xs (inl e) s = neighbour_runs i xs (subst (λ g. Consistent g xs) e s)
node_runs C i j xs (inr e) s =
    all_map (λ L. Run L (reverse xs)) (λ L. Run L xs) (λ L. run_unmirror L xs) (item_pairs i) (neighbour_runs i (reverse xs) (consistent_unmirror i xs (subst (λ g. Consistent g xs) e s)))

pub consistent_runs : {f : Forest} {xs : List ℕ} → Consistent f xs → Runs (characteristic f) xs
consistent_runs no_items = tt
consistent_runs (leaf_first {b = b} {f = f} {xs = xs} s) = all_map (λ L. Run L xs) (λ L. Run L (b ∷ xs)) (λ L. run-right L (b ∷ []) xs) (characteristic f) (consistent_runs s)
consistent_runs (node_first {k = k} {i = i} {j = j} {f = f} {ys = ys} {zs = zs} t s r e) =
    let up : (l : List (List ℕ)) → Runs l ys → Runs l (ys ++ zs) = all_map (λ L. Run L ys) (λ L. Run L (ys ++ zs)) (λ L. run-left L ys zs) in
    let ci = groups_perm (λ L. Run L ys) i j (perm_sym (turn_perm k i j t)) (consistent_runs s) in
    let cf = all_map (λ L. Run L zs) (λ L. Run L (ys ++ zs)) (λ L. run-right L ys zs) (characteristic f) (consistent_runs r) in
    subst (Runs (node_groups k i ++ (characteristic i ++ characteristic f))) (sym e)
    (all_append (λ L. Run L (ys ++ zs)) (node_groups k i) (characteristic i ++ characteristic f) (up (node_groups k i) (node_runs k i j ys t s))
    (all_append (λ L. Run L (ys ++ zs)) (characteristic i) (characteristic f) (up (characteristic i) ci) cf))

-- The groups of an item hold leaves of that item.
node_within : (k : Kind) (i : Forest) → All (Within (frontier i)) (node_groups k i)
node_within P i = every_item (Within (frontier i)) i (in_all (λ t. Within (frontier i) (leaves_of t)) (items i) (λ t m x h. rw (frontier-flat i) (in_flat t (items i) x m h)))
node_within C i = rw (item_pairs_are i, frontier-flat i) (pairs_within (items i))

wider : (M N : List ℕ) → ((x : ℕ) → In x M → In x N) → (l : List (List ℕ)) → All (Within M) l → All (Within N) l
wider M N h = all_map (Within M) (Within N) (λ L w x i. h x (w x i))

node_item_within : (k : Kind) (i : Forest) → All (Within (frontier i)) (characteristic i) → All (Within (frontier i)) (node_groups k i ++ characteristic i)
node_item_within k i h = all_append (Within (frontier i)) (node_groups k i) (characteristic i) (node_within k i) h

pub groups_within : (f : Forest) → All (Within (frontier f)) (characteristic f)
groups_within nil = tt
groups_within (leaf b f) = wider (frontier f) (b ∷ frontier f) (λ x. inr) (characteristic f) (groups_within f)
groups_within (node k i f) = subst (All (Within (frontier i ++ frontier f))) (append_assoc (node_groups k i) (characteristic i) (characteristic f))
    (all_append (Within (frontier i ++ frontier f)) (node_groups k i ++ characteristic i) (characteristic f)
    (wider (frontier i) (frontier i ++ frontier f) (λ x. in_left x (frontier i) (frontier f)) (node_groups k i ++ characteristic i) (node_item_within k i (groups_within i)))
    (wider (frontier f) (frontier i ++ frontier f) (λ x. in_right x (frontier i) (frontier f)) (characteristic f) (groups_within f)))

pub item_within : (t : Item) → All (Within (leaves_of t)) (item_groups t)
item_within (leaf_item b) = tt
item_within (node_item k i) = node_item_within k i (groups_within i)

-- No group holds a leaf twice.
items_apart : (ts : List Item) → Distinct (flat ts) → All (λ t. Distinct (leaves_of t)) ts
items_apart [] d = tt
items_apart (t ∷ ts) d = (distinct_left (leaves_of t) (flat ts) d, items_apart ts (distinct_right (leaves_of t) (flat ts) d))

pairs_distinct : (ts : List Item) → Distinct (flat ts) → All Distinct (pairs ts)
pairs_distinct [] d = tt
pairs_distinct (t ∷ []) d = tt
pairs_distinct (t ∷ (u ∷ ts)) d = (
  distinct_left (leaves_of t ++ leaves_of u) (flat ts) (rw append_assoc d),
  pairs_distinct (u ∷ ts) (distinct_right (leaves_of t) (flat (u ∷ ts)) d),
)

node_distinct : (k : Kind) (i : Forest) → Distinct (flat (items i)) → All Distinct (node_groups k i)
node_distinct P i d = every_item Distinct i (items_apart (items i) d)
node_distinct C i d = rw (item_pairs_are i) (pairs_distinct (items i) d)

pub groups_distinct : (f : Forest) → Distinct (frontier f) → All Distinct (characteristic f)
groups_distinct nil d = tt
groups_distinct (leaf b f) d = groups_distinct f d.1
groups_distinct (node k i f) d =
    let di = distinct_left (frontier i) (frontier f) d in
    all_append Distinct (node_groups k i) (characteristic i ++ characteristic f) (node_distinct k i (subst Distinct (frontier-flat i) di))
    (all_append Distinct (characteristic i) (characteristic f) (groups_distinct i di) (groups_distinct f (distinct_right (frontier i) (frontier f) d)))

-- Of three items or more the neighbours stand together: so do all, and so does each.
pub record Held (ts : List Item) (xs : List ℕ) : Type 0 where
  pub together : Run (flat ts) xs
  pub each : All (λ t. Run (leaves_of t) xs) ts

pub pairs_hold : (ts : List Item) (xs : List ℕ) → 3 ≤ length ts → All Fair ts → Distinct (flat ts) → Distinct xs → Runs (pairs ts) xs → Held ts xs
pairs_hold [] xs n f d dx r = absurd (omega arith)
pairs_hold (t ∷ []) xs n f d dx r = absurd (omega arith)
pairs_hold (t ∷ (u ∷ [])) xs n f d dx r = absurd (omega arith)
pairs_hold (t ∷ (u ∷ (v ∷ []))) xs n f d dx r =
    let k = run_three (leaves_of t) (leaves_of u) (leaves_of v) xs r.0 r.1.0 f.0 f.1.0 f.1.1.0 dx (rw append-nil at d) in
    record { together = rw append-nil k.whole; each = (k.first, (k.second, (k.third, tt))) }
pairs_hold (t ∷ (u ∷ (v ∷ (w ∷ ts)))) xs n f d dx r =
    let h = pairs_hold (u ∷ (v ∷ (w ∷ ts))) xs (omega arith) f.1 (distinct_right (leaves_of t) (flat (u ∷ (v ∷ (w ∷ ts)))) d) dx r.1 in
    let k = run_three (leaves_of t) (leaves_of u) (flat (v ∷ (w ∷ ts))) xs r.0 h.together f.0 f.1.0 (nonempty_left (leaves_of v) (flat (w ∷ ts)) f.1.1.0) dx d in
    record { together = k.whole; each = (k.first, h.each) }
