-- A circular order is allowed by a tree in form iff each characteristic group is consecutive in it. At most n − 2 groups are characteristic.
use mathlib.Core.Path.{◌∙◌, ◌≡◌, ap, subst, sym}
use mathlib.Core.Logic.{◌↔◌, ◌⊎◌, inl, inr}
use mathlib.Core.Bool.{cond, false, true, true≢false}
use mathlib.Core.List.{List, [], ◌++◌, ◌∷◌, map}
use Prim.Native.Nat.{◌+◌, ◌-◌, ◌≤◌, ℕ}
use native.Mathlib.Omega.{arith}
use lib.ListN.{length, length-append}
use Rattle.spec_orders.specs.declared.Layout.TheVariants.{Ring}
use Rattle.spec_orders.specs.Lists.{All, Distinct, In, elem, Rearranged}
use Rattle.spec_orders.specs.CircularOrder.{CircularOrder, Consecutive}
use Rattle.spec_orders.specs.Tree.{P, C, Forest, nil, leaf, node, items, frontier, Allowed}
use Rattle.spec_orders.specs.Form.{InForm}
use Rattle.spec_orders.specs.Reduce.{complement}
use Rattle.spec_orders.specs.Join.{side}
use Rattle.spec_orders.proofs.Tests.{false_if}
use Rattle.spec_orders.proofs.Rearranged.{perm_trans, perm_sym, perm_distinct}
use Rattle.spec_orders.proofs.Members.{in_left, in_append, all_in, in_all, perm_in, distinct_left, distinct_right, apart, elem_in, in_elem}
use Rattle.spec_orders.specs.Layout.{AllOn, Contiguous}
use Rattle.spec_orders.proofs.CircleAndLine.{consecutive_side}
use Rattle.spec_orders.specs.TreeText.{Forked}
use Rattle.spec_orders.proofs.Forms.{not_one, form_distinct, form_forked}
use Rattle.spec_orders.proofs.Relabel.{form_enough}
use Rattle.spec_orders.proofs.TextTree.{form_length}
use Rattle.spec_intersection.specs.Intersection.{pairs_after, item_pairs, p_items, characteristic}
use Rattle.spec_intersection.proofs.Lists.{Within, same_members}
use Rattle.spec_intersection.proofs.Runs.{Run}
use Rattle.spec_intersection.proofs.Groups.{Runs, groups_within, groups_distinct}
use Rattle.spec_intersection.proofs.GroupOrders.{orders_by_groups}

-- The leaves of a list stand together, and the test of being in it: the same thing, where no leaf stands twice.
run_contiguous : (L xs : List ℕ) → Distinct xs → Run L xs → Contiguous (elem L) xs
run_contiguous L xs d r =
    let dx : Distinct (r.left ++ (r.run ++ r.right)) = subst Distinct r.parts d in
    record {
      left = r.left;
      run = r.run;
      right = r.right;
      parts = r.parts;
      out_left = in_all (λ x. elem L x ≡ false) r.left (λ x i. false_if (elem L x) (λ e. apart x r.left (r.run ++ r.right) dx i (in_left x r.run r.right (perm_in x r.members (elem_in L x e)))));
      in_run = in_all (λ x. elem L x ≡ true) r.run (λ x i. in_elem L x (perm_in x (perm_sym r.members) i));
      out_right = in_all (λ x. elem L x ≡ false) r.right (λ x i. false_if (elem L x) (λ e. apart x r.run r.right (distinct_right r.left (r.run ++ r.right) dx) (perm_in x r.members (elem_in L x e)) i));
    }

contiguous_run : (L xs : List ℕ) → Distinct L → Distinct xs → ((x : ℕ) → In x L → In x xs) → Contiguous (elem L) xs → Run L xs
contiguous_run L xs dl d h c =
    let dx : Distinct (c.left ++ (c.run ++ c.right)) = subst Distinct c.parts d in
    record {
      left = c.left;
      run = c.run;
      right = c.right;
      parts = c.parts;
      members = same_members L c.run dl (distinct_left c.run c.right (distinct_right c.left (c.run ++ c.right) dx))
          (λ x i. mid x (in_elem L x i) (in_append x c.left (c.run ++ c.right) (subst (In x) c.parts (h x i))))
          (λ x i. elem_in L x (all_in (λ y. elem L y ≡ true) x c.run c.in_run i));
    }
  where
    last : (x : ℕ) → elem L x ≡ true → In x c.run ⊎ In x c.right → In x c.run
    last x e (inl i) = i
    last x e (inr i) = absurd (true≢false (sym e ∙ all_in (λ y. elem L y ≡ false) x c.right c.out_right i))

    mid : (x : ℕ) → elem L x ≡ true → In x c.left ⊎ In x (c.run ++ c.right) → In x c.run
    mid x e (inl i) = absurd (true≢false (sym e ∙ all_in (λ y. elem L y ≡ false) x c.left c.out_left i))
    mid x e (inr i) = last x e (in_append x c.run c.right i)

-- Round the circle. Leaf 1 is in no group, so the side of a group that joins is the group.
module _ (n : ℕ) (t : Forest) (f : InForm n t) where
  group_side : (L : List ℕ) → Within (frontier t) L → side 1 (elem L) ≡ elem L
  unfolding side
  group_side L w =
      ap (λ b. cond b (complement (elem L)) (elem L)) (false_if (elem L 1) (λ e. let h = not_one n 1 (perm_in 1 (perm_sym f.all_leaves) (w 1 (elem_in L 1 e))) in omega arith))

  module _ (xs : List ℕ) (p : Rearranged (frontier t) xs) where
    consecutive_run : (L : List ℕ) → Distinct L → Within (frontier t) L → Consecutive (elem L) (1 ∷ xs) ↔ Run L xs
    consecutive_run L dl w =
        let dx = perm_distinct p (form_distinct n t f) in
        let same = group_side L w in (
          (λ c. contiguous_run L xs dl dx (λ x i. perm_in x p (w x i)) (subst (λ S. Contiguous S xs) same ((consecutive_side (elem L) 1 xs).0 c))),
          (λ r. (consecutive_side (elem L) 1 xs).1 (subst (λ S. Contiguous S xs) (sym same) (run_contiguous L xs dx r))),
        )

    all_runs : (l : List (List ℕ)) → All Distinct l → All (Within (frontier t)) l → AllOn Ring (map elem l) (1 ∷ xs) ↔ Runs l xs
    all_runs [] d w = ((λ h. h), (λ h. h))
    all_runs (L ∷ l) d w =
        let a = consecutive_run L d.0 w.0 in
        let b = all_runs l d.1 w.1 in
        ((λ h. (a.0 h.0, b.0 h.1)), (λ h. (a.1 h.0, b.1 h.1)))

  pub characteristic_orders : (ord : List ℕ) → Allowed t ord ↔ (CircularOrder n ord × AllOn Ring (map elem (characteristic t)) ord)
  characteristic_orders ord = (to, from)
    where
      runs : (xs : List ℕ) → Rearranged (frontier t) xs → AllOn Ring (map elem (characteristic t)) (1 ∷ xs) ↔ Runs (characteristic t) xs
      runs xs p = all_runs xs p (characteristic t) (groups_distinct t (form_distinct n t f)) (groups_within t)

      to : Allowed t ord → CircularOrder n ord × AllOn Ring (map elem (characteristic t)) ord
      to a =
          let r = (orders_by_groups t f.single (form_enough f) (form_distinct n t f) a.after).0 a.order in
          (record { after = a.after; one_first = a.one_first; all_leaves = perm_trans f.all_leaves r.0 }, subst (AllOn Ring (map elem (characteristic t))) (sym a.one_first) ((runs a.after r.0).1 r.1))

      from : CircularOrder n ord × AllOn Ring (map elem (characteristic t)) ord → Allowed t ord
      from (c, h) =
          let p = perm_trans (perm_sym f.all_leaves) c.all_leaves in
          let r = (runs c.after p).0 (subst (AllOn Ring (map elem (characteristic t))) c.one_first h) in
          record { after = c.after; one_first = c.one_first; order = (orders_by_groups t f.single (form_enough f) (form_distinct n t f) c.after).1 (p, r) }

-- The groups, the items that are P-nodes and the items are together no more than the leaves.
after_length : (before : List ℕ) (f : Forest) → length (pairs_after before f) ≡ length (items f)
after_length before nil = omega arith
after_length before (leaf b f) = omega (arith, after_length (b ∷ []) f)
after_length before (node k i f) = omega (arith, after_length (frontier i) f)

item_pairs-length : (f : Forest) → 1 ≤ length (items f) → length (item_pairs f) + 1 ≡ length (items f)
item_pairs-length nil h = absurd (omega arith)
item_pairs-length (leaf b f) h = omega (arith, after_length (b ∷ []) f)
item_pairs-length (node k i f) h = omega (arith, after_length (frontier i) f)

groups-length : (f : Forest) → Forked f → length (characteristic f) + length (p_items f) + length (items f) ≤ length (frontier f)
groups-length nil c = omega arith
groups-length (leaf b f) c = omega (arith, groups-length f c)
groups-length (node P i f) c =
    omega (
      arith,
      c.0.0,
      groups-length i c.0.1,
      groups-length f c.1,
      length-append (p_items i) (characteristic i ++ characteristic f),
      length-append (characteristic i) (characteristic f),
      length-append (frontier i) (frontier f),
    )
groups-length (node C i f) c =
    omega (
      arith,
      item_pairs-length i (omega (arith, c.0.0)),
      groups-length i c.0.1,
      groups-length f c.1,
      length-append (item_pairs i) (characteristic i ++ characteristic f),
      length-append (characteristic i) (characteristic f),
      length-append (frontier i) (frontier f),
    )

pub characteristic-few : (n : ℕ) (u : Forest) → InForm n u → 2 ≤ n → length (characteristic u) + 2 ≤ n
characteristic-few n u f l = go u (form_length n u f) (groups-length u (form_forked n u f))
  where
    go : (t : Forest) → length (frontier t) ≡ n - 1 → length (characteristic t) + length (p_items t) + length (items t) ≤ length (frontier t) → length (characteristic t) + 2 ≤ n
    go nil e h = absurd (omega arith)
    go (leaf b t) e h = omega arith
    go (node k i t) e h = omega arith
