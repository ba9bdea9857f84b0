-- How a sequence of parts reads whose marked leaves stand first, or are contiguous.
use mathlib.Core.Path.{◌∙◌, ◌≡◌, ap, ap₂, refl, subst, sym}
use mathlib.Core.Logic.{◌↔◌, ◌⊎◌, inl, inr}
use mathlib.Core.Bool.{Bool, cond, false, not, true}
use mathlib.Core.List.{List, [], ◌++◌, ◌∷◌, append_assoc, reverse, reverse-reverse}
use Prim.Native.Nat.{◌≤◌}
use native.Mathlib.Omega.{arith}
use lib.ListN.{length}
use Rattle.spec_orders.specs.Lists.{All}
use Rattle.spec_orders.specs.CircularOrder.{Restriction, Outside}
use Rattle.spec_orders.specs.Tree.{nil, Item, leaf_item, node_item, Consistent, no_items}
use Rattle.spec_orders.specs.Reduce.{one, Class, empty, full, partial, is, Part, whole, only, linear_partial}
use Rattle.spec_orders.proofs.Rearranged.{short_perm}
use Rattle.spec_orders.proofs.Members.{perm_reverse}
use Rattle.spec_orders.specs.Layout.{Contiguous}
use Rattle.spec_orders.proofs.Contiguous.{L, Pure, Sided, Late, Early, Sided-cut, sided_cut, sided_first, sided_last, sided_rev, Contiguous-cut, con_cut, out_con, con_front, con_back, con_early}
use Rattle.spec_orders.proofs.Laws.{leaves_of, consistent_split}
use Rattle.spec_orders.proofs.Mirror.{consistent_mirror}
use Rattle.spec_orders.proofs.Gives.{Gives, ◌⊗◌, consistent_cons, same_iff}
use Rattle.spec_orders.proofs.Fits.{whole_append, whole-reverse, nil_order, Mark, Of, pure, Fit, of_order, pure_is, pure_of}
use Rattle.spec_orders.proofs.Classes.{whole_consistent, only_none, only-append, only_three}

one_mirror : (t : Item) {xs : L} → Consistent (one t) xs → Consistent (one t) (reverse xs)
one_mirror (leaf_item b) s = consistent_mirror s
one_mirror (node_item k i) s = consistent_mirror s

pub one_unmirror : (t : Item) (xs : L) → Consistent (one t) (reverse xs) → Consistent (one t) xs
one_unmirror t xs s = subst (Consistent (one t)) (reverse-reverse xs) (one_mirror t s)

pub whole_mirror : (ps : List Part) {xs : L} → Consistent (whole ps) xs → Consistent (whole (reverse ps)) (reverse xs)
whole_mirror ps {xs} s = subst (λ g. Consistent g (reverse xs)) (sym (whole-reverse ps)) (consistent_mirror s)

pub whole_split : (ps qs : List Part) (xs : L) → Consistent (whole (ps ++ qs)) xs → (Consistent (whole ps) ⊗ Consistent (whole qs)) xs
whole_split ps qs xs s = let r = consistent_split (whole ps) (whole qs) xs (subst (λ g. Consistent g xs) (whole_append ps qs) s) in (r.front, r.back, r.whole, r.of_front, r.of_back)

-- At most one partial item; its mirror image.
abbrev pub Gives-back : List Part → L → Type 0
Gives-back ms y = Gives (linear_partial ms) (reverse y)

pub one_at_most : (ms : List Part) (y : L) → Gives (linear_partial ms) y → length ms ≤ 1
one_at_most [] y g = omega arith
one_at_most (m ∷ []) y g = omega arith
one_at_most (m ∷ (n ∷ ms)) y g = absurd g

class_of : (b : Bool) (d : Class) → (d ≡ pure b) ⊎ ((d ≡ pure (not b)) ⊎ (d ≡ partial))
class_of true empty = inr (inl refl)
class_of true full = inl refl
class_of false empty = inl refl
class_of false full = inr (inl refl)
class_of b partial = inr (inr refl)

module _ (S : Restriction) where
  pub partial_ok : (ms : List Part) → All (Fit S) ms → length ms ≤ 1 → (y : L) → Gives (linear_partial ms) y ↔ (Consistent (whole ms) y × Late S y)
  partial_ok [] f n y = same_iff nil (Late S) (λ z s. subst (Late S) (sym (nil_order s)) (sided_first S false true [] tt)) y
  partial_ok (m ∷ []) f n y = f.0.linear_ok y
  partial_ok (m ∷ (m' ∷ ms)) f n y = absurd (omega arith)

  pub partial_back : (ms : List Part) → All (Fit S) ms → length ms ≤ 1 → (y : L) → Consistent (whole ms) y → Early S y → Gives-back ms y
  partial_back ms f n y s h =
      (partial_ok ms f n (reverse y)).1 (subst (λ l. Consistent (whole l) (reverse y)) (short_perm (perm_reverse ms) n) (whole_mirror ms s), sided_rev S true false y h)

  -- A sequence whose leaves of kind b all stand before the others: items of one class, at most one partial one, items of the other class.
  pub record Read (b : Bool) (qs : List Part) (xs : L) : Type 0 where
    pub bs : List Part
    pub ms : List Part
    pub cs : List Part
    pub is_these : qs ≡ bs ++ (ms ++ cs)
    pub all_b : Of (pure b) bs
    pub all_m : Of partial ms
    pub all_c : Of (pure (not b)) cs
    pub fit_m : All (Fit S) ms
    pub one_m : length ms ≤ 1
    pub orders : (Consistent (whole bs) ⊗ ((λ y. Consistent (whole ms) y × Sided S b (not b) y) ⊗ Consistent (whole cs))) xs

  pub read : (b : Bool) (qs : List Part) → All (Fit S) qs → (xs : L) → Consistent (whole qs) xs → Sided S b (not b) xs → Read b qs xs
  read b [] f xs s h =
      record { bs = []; ms = []; cs = []; is_these = refl; all_b = tt; all_m = tt; all_c = tt; fit_m = tt; one_m = omega arith; orders = ([], xs, refl, no_items, ([], xs, refl, (no_items, sided_first S b (not b) [] tt), s)) }
  read b (p ∷ qs) f xs s h = go (class_of b p.sort) (sided_cut S b (not b) ys zs e h) (read b qs f.1 zs k.4)
    where
      k : (Consistent (one p.item) ⊗ Consistent (whole qs)) xs
      k = (consistent_cons p.item (whole qs) xs).0 s

      ys : L
      ys = k.0

      zs : L
      zs = k.1

      e : xs ≡ ys ++ zs
      e = k.2

      add : p.sort ≡ pure b → Read b qs zs → Read b (p ∷ qs) xs
      add q r =
          let o = r.orders in
          record {
            bs = p ∷ r.bs;
            ms = r.ms;
            cs = r.cs;
            is_these = ap (λ l. p ∷ l) r.is_these;
            all_b = (q, r.all_b);
            all_m = r.all_m;
            all_c = r.all_c;
            fit_m = r.fit_m;
            one_m = r.one_m;
            orders = (ys ++ o.0, o.1, e ∙ ap (◌++◌ ys) o.2 ∙ sym (append_assoc ys o.0 o.1), (consistent_cons p.item (whole r.bs) (ys ++ o.0)).1 (ys, o.0, refl, k.3, o.3), o.4);
          }

      rest : Pure S (not b) zs → Of (pure (not b)) qs
      rest h = pure_of S (not b) qs f.1 zs k.4 h

      go : (p.sort ≡ pure b) ⊎ ((p.sort ≡ pure (not b)) ⊎ (p.sort ≡ partial)) → Sided-cut S b (not b) ys zs → (Sided S b (not b) zs → Read b qs zs) → Read b (p ∷ qs) xs
      go w (inl c) rec = add (pure_is S b p.sort (leaves_of p.item) f.0.marked (of_order S _ p.item k.3 c.0)) (rec c.1)
      go (inl q) (inr c) rec = add q (rec (sided_last S b (not b) zs c.1))
      go (inr (inl q)) (inr c) rec =
          record { bs = []; ms = []; cs = p ∷ qs; is_these = refl; all_b = tt; all_m = tt; all_c = (q, rest c.1); fit_m = tt; one_m = omega arith; orders = ([], xs, refl, no_items, ([], xs, refl, (no_items, sided_first S b (not b) [] tt), s)) }
      go (inr (inr q)) (inr c) rec =
          record { bs = []; ms = p ∷ []; cs = qs; is_these = refl; all_b = tt; all_m = (q, tt); all_c = rest c.1; fit_m = (f.0, tt); one_m = omega arith; orders = ([], xs, refl, no_items, (ys, zs, e, (k.3, c.0), k.4)) }

  pub only_read : (b : Bool) {qs : List Part} {xs : L} (r : Read b qs xs) → (only (pure b) qs ≡ r.bs) × (only partial qs ≡ r.ms) × (only (pure (not b)) qs ≡ r.cs)
  only_read true r = rw r.is_these (only_three full partial empty (refl, refl, refl, refl, refl, refl) r.bs r.ms r.cs r.all_b r.all_m r.all_c)
  only_read false r = rw r.is_these (only_three empty partial full (refl, refl, refl, refl, refl, refl) r.bs r.ms r.cs r.all_b r.all_m r.all_c)

  -- A sequence whose marked leaves are contiguous: empty items, a block with no empty item, empty items.
  pub record Blocked (qs : List Part) (xs : L) : Type 0 where
    pub ls : List Part
    pub bs : List Part
    pub cs : List Part
    pub is_these : qs ≡ ls ++ (bs ++ cs)
    pub all_a : Of empty ls
    pub none_b : only empty bs ≡ []
    pub all_c : Of empty cs
    pub orders : (Consistent (whole ls) ⊗ ((λ y. Consistent (whole bs) y × Contiguous S y) ⊗ Consistent (whole cs))) xs

  pub read_con : (qs : List Part) → All (Fit S) qs → (xs : L) → Consistent (whole qs) xs → Contiguous S xs → Blocked qs xs
  read_con [] f xs s h =
      record { ls = []; bs = []; cs = []; is_these = refl; all_a = tt; none_b = refl; all_c = tt; orders = ([], xs, refl, no_items, ([], xs, refl, (no_items, out_con S [] tt), s)) }
  read_con (p ∷ qs) f xs s h = go p.sort refl f.0.marked (con_cut S ys zs e h) (read_con qs f.1 zs)
    where
      k : (Consistent (one p.item) ⊗ Consistent (whole qs)) xs
      k = (consistent_cons p.item (whole qs) xs).0 s

      ys : L
      ys = k.0

      zs : L
      zs = k.1

      e : xs ≡ ys ++ zs
      e = k.2

      from_here : is empty p.sort ≡ false → (Outside S (leaves_of p.item) → ⊥) → Contiguous-cut S ys zs → Blocked (p ∷ qs) xs
      from_here n u c =
          let r = read true qs f.1 zs k.4 (con_early S ys zs (λ o. u (of_order S _ p.item k.3 o)) c) in
          let o = r.orders in
          let v = o.4 in
          let y : L = ys ++ (o.0 ++ v.0) in
          let ey : xs ≡ y ++ v.1 = e ∙ ap (◌++◌ ys) (o.2 ∙ ap (◌++◌ o.0) v.2 ∙ sym (append_assoc o.0 v.0 v.1)) ∙ sym (append_assoc ys (o.0 ++ v.0) v.1) in
          record {
            ls = [];
            bs = p ∷ (r.bs ++ r.ms);
            cs = r.cs;
            is_these = ap (λ l. p ∷ l) (r.is_these ∙ sym (append_assoc r.bs r.ms r.cs));
            all_a = tt;
            none_b = ap (λ b. cond b (p ∷ only empty (r.bs ++ r.ms)) (only empty (r.bs ++ r.ms))) n ∙ only-append empty r.bs r.ms ∙ ap₂ ◌++◌ (only_none empty full refl r.bs r.all_b) (only_none empty partial refl r.ms r.all_m);
            all_c = r.all_c;
            orders = ([], xs, refl, no_items, (y, v.1, ey, ((consistent_cons p.item (whole (r.bs ++ r.ms)) y).1 (ys, o.0 ++ v.0, refl, k.3, whole_consistent r.bs r.ms o.3 v.3.0), con_front S y v.1 (con_cut S y v.1 ey h)), v.4));
          }

      go : (c : Class) → p.sort ≡ c → Mark S (leaves_of p.item) c → Contiguous-cut S ys zs → (Consistent (whole qs) zs → Contiguous S zs → Blocked qs zs) → Blocked (p ∷ qs) xs
      go empty q m c rec =
          let r = rec k.4 (con_back S ys zs c) in
          let o = r.orders in
          record {
            ls = p ∷ r.ls;
            bs = r.bs;
            cs = r.cs;
            is_these = ap (λ l. p ∷ l) r.is_these;
            all_a = (q, r.all_a);
            none_b = r.none_b;
            all_c = r.all_c;
            orders = (ys ++ o.0, o.1, e ∙ ap (◌++◌ ys) o.2 ∙ sym (append_assoc ys o.0 o.1), (consistent_cons p.item (whole r.ls) (ys ++ o.0)).1 (ys, o.0, refl, k.3, o.3), o.4);
          }
      go full q m c rec = from_here (ap (is empty) q) m.1 c
      go partial q m c rec = from_here (ap (is empty) q) m.0 c
