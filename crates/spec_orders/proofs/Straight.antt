-- Racks: straight orders are those of the tree seen from the hidden end bin, and what is true of the ring of n + 1 bins is true of the rack.
-- Stated for rings and racks in one, so that each demand is stated once.
use mathlib.Core.Path.{◌∙◌, ◌≡◌, ap, refl, subst, sym}
use mathlib.Core.Logic.Iff
use mathlib.Core.Logic.{◌↔◌, ◌≢◌, inl, inr}
use mathlib.Core.Bool.{true, false}
use mathlib.Core.Option.{none, some}
use mathlib.Core.List.{List, [], ◌++◌, ◌∷◌, reverse, reverse-cons}
use Prim.Native.Nat.{ℕ, zero, suc, ◌+◌, ◌≤◌}
use native.Mathlib.Omega.{arith}
use lib.ListN.{length, drop}
use Rattle.spec_orders.specs.declared.Layout.{Layout}
use Rattle.spec_orders.specs.declared.Layout.TheVariants.{Ring, Rack}
use Rattle.spec_orders.specs.Lists.{All, Distinct, In, elem, there, Rearranged, done, next, here, numbers_from}
use Rattle.spec_orders.specs.CircularOrder.{others, CircularOrder, Restriction, Consecutive}
use Rattle.spec_orders.specs.Layout.{leaf_count, OrderOn, Contiguous, ConsecutiveOn, Visible, Possible}
use Rattle.spec_orders.specs.Tree.{Forest, nil, leaf, node, items, rev, frontier, Consistent, Allowed, Rotation, Straight, AllowedOn}
use Rattle.spec_orders.specs.Form.{Single, InForm, StandardOrder}
use Rattle.spec_orders.specs.Join.{join, fresh, side}
use Rattle.spec_orders.proofs.Rearranged.{perm_trans, perm_sym, perm_uncons, perm_distinct, perm_length}
use Rattle.spec_orders.proofs.Tests.{false_if}
use Rattle.spec_orders.proofs.Members.{all_in, in_right, perm_in, elem_in}
use Rattle.spec_orders.proofs.CircleAndLine.{consecutive_side}
use Rattle.spec_orders.proofs.Numbers.{numbers_in, numbers_distinct, numbers_length}
use Rattle.spec_orders.proofs.Laws.{consistent_perm}
use Rattle.spec_orders.proofs.Mirror.{consistent_mirror}
use Rattle.spec_orders.proofs.First.{frontier_allowed, frontier-first}
use Rattle.spec_orders.proofs.StandardOrders.{all_standard, standard_is, standard_unique}
use Rattle.spec_orders.proofs.Joining.{join_none, join_some}
use Rattle.spec_orders.proofs.Fresh.{fresh_allowed}
use Rattle.spec_orders.specs.SeenFrom.{seen_from, standard_on}
use Rattle.spec_orders.proofs.Rotations.{rotate, rotation_sym, rotation_trans, rotation_perm, rotation_head, around, read_from, rotation_consecutive}
use Rattle.spec_orders.proofs.SeenFrom.{Rooted, seen_from_order, seen_from_rooted, seen_from_has, seen_from_canonical, form_rooted, end_in, form_end}

-- The leaves of a rack's tree are the end bin and 1 to n.
numbers_snoc : (a n : ℕ) → Rearranged ((a + n) ∷ numbers_from a n) (numbers_from a (suc n))
numbers_snoc a zero = let e : a ≡ a + 0 = omega arith in subst (λ x. Rearranged (x ∷ []) (a ∷ [])) e (next here done)
numbers_snoc a (suc n) =
    let e : suc a + n ≡ a + suc n = omega arith in
    next (there here) (subst (λ x. Rearranged (x ∷ numbers_from (suc a) n) (numbers_from (suc a) (suc n))) e (numbers_snoc (suc a) n))

pub end_first : (n : ℕ) → Rearranged (suc n ∷ numbers_from 1 n) (1 ∷ others (suc n))
end_first n = let e : 1 + n ≡ suc n = omega arith in subst (λ x. Rearranged (x ∷ numbers_from 1 n) (1 ∷ others (suc n))) e (numbers_snoc 1 n)

-- One item by itself is its own reverse.
single_rev : (f : Forest) → Single (items f) → rev f ≡ f
single_rev nil one = refl
single_rev (leaf b nil) one = refl
single_rev (node k i nil) one = refl
single_rev (leaf b (leaf _ _)) one = elim one [ ]
single_rev (leaf b (node _ _ _)) one = elim one [ ]
single_rev (node k i (leaf _ _)) one = elim one [ ]
single_rev (node k i (node _ _ _)) one = elim one [ ]

module _ (n : ℕ) (t : Forest) (l : 1 ≤ n) (f : InForm (suc n) t) where
  rooted : Rooted 1 t
  rooted = form_rooted (suc n) t f

  end : In (suc n) (frontier t)
  end = form_end n t l f

  -- The straight orders of a rack are those of its tree seen from the end bin.
  pub straight_orders : (ord : List ℕ) → Straight n t ord ↔ Consistent (seen_from 1 (suc n) t) ord
  straight_orders ord = (to, from)
    where
      to : Straight n t ord → Consistent (seen_from 1 (suc n) t) ord
      to q =
          let s = q.allowed.order in
          let z = around (suc n) q.allowed.after (perm_in (suc n) (consistent_perm s) end) in
          let a = z.0 in
          let b = z.1 in
          let p = (seen_from_order 1 (suc n) t rooted end a b).0 (subst (Consistent t) z.2 s) in
          let r : Rotation (1 ∷ (a ++ (suc n ∷ b))) (suc n ∷ ord) = subst (λ c. Rotation c (suc n ∷ ord)) (q.allowed.one_first ∙ ap (λ c. 1 ∷ c) z.2) q.read in
          let d = perm_distinct (next here (consistent_perm p)) (seen_from_rooted 1 (suc n) t rooted end).distinct in
          subst (Consistent (seen_from 1 (suc n) t)) (rotation_head (suc n) (b ++ (1 ∷ a)) ord d (rotation_trans (rotate (suc n ∷ b) (1 ∷ a)) r)) p

      from : Consistent (seen_from 1 (suc n) t) ord → Straight n t ord
      from p =
          let z = around 1 ord (perm_in 1 (consistent_perm p) (seen_from_has 1 (suc n) t rooted end)) in
          let b = z.0 in
          let a = z.1 in
          record {
            circle = 1 ∷ (a ++ (suc n ∷ b));
            allowed = record { after = a ++ (suc n ∷ b); one_first = refl; order = (seen_from_order 1 (suc n) t rooted end a b).1 (subst (Consistent (seen_from 1 (suc n) t)) z.2 p) };
            read = subst (λ c. Rotation (1 ∷ (a ++ (suc n ∷ b))) (suc n ∷ c)) (sym z.2) (rotate (1 ∷ a) (suc n ∷ b));
          }

  -- With a list they have its reverse.
  pub straight_mirror : (ord : List ℕ) → Straight n t ord → Straight n t (reverse ord)
  straight_mirror ord q =
      let f = seen_from 1 (suc n) t in
      (straight_orders (reverse ord)).1
      (subst (λ g. Consistent g (reverse ord)) (single_rev f (seen_from_rooted 1 (suc n) t rooted end).single) (consistent_mirror ((straight_orders ord).0 q)))

  rack-standard : StandardOrder Rack n t (frontier (seen_from 1 (suc n) t))
  rack-standard = record {
    allowed = (straight_orders (frontier (seen_from 1 (suc n) t))).1 (frontier_allowed (seen_from 1 (suc n) t));
    least = λ other q. frontier-first ((straight_orders other).0 q) (seen_from_canonical 1 (suc n) t rooted end f.canonical);
  }

-- The standard order, of a ring and of a rack: what is computed is the first allowed order, and no other is.
pub standard-first : (l : Layout) (n : ℕ) (t : Forest) → 1 ≤ n → InForm (leaf_count l n) t → StandardOrder l n t (standard_on l n t)
unfolding standard_on
standard-first Ring n t m f = standard_is n t f
standard-first Rack n t m f = rack-standard n t m f

-- A group that does not name the end bin: consecutive round the circle iff contiguous in the straight order.
pub straight_hangs : (n : ℕ) (G : Restriction) (c ord : List ℕ) → G (suc n) ≡ false → Rotation c (suc n ∷ ord) → Consecutive G c ↔ Contiguous G ord
unfolding side
straight_hangs n G c ord h r =
    let q : Consecutive G (suc n ∷ ord) ↔ Contiguous G ord = subst (λ S. Consecutive G (suc n ∷ ord) ↔ Contiguous S ord) (rw h) (consecutive_side G (suc n) ord) in
    (λ t. q.0 (rotation_consecutive G c (suc n ∷ ord) r t), λ k. rotation_consecutive G (suc n ∷ ord) c (rotation_sym r) (q.1 k))

-- A group joins.
allows_joined : (l : Layout) (n : ℕ) (G : Restriction) (t u : Forest) → Visible l n G → ((ord : List ℕ) → Allowed u ord ↔ (Allowed t ord × Consecutive G ord))
    → (ord : List ℕ) → AllowedOn l n u ord ↔ (AllowedOn l n t ord × ConsecutiveOn l G ord)
allows_joined Ring n G t u v h ord = h ord
allows_joined Rack n G t u v h ord = (
  (λ q. let r = (h q.circle).0 q.allowed in (record { circle = q.circle; allowed = r.0; read = q.read }, (straight_hangs n G q.circle ord v q.read).0 r.1)),
  (λ p. let q = p.0 in record { circle = q.circle; allowed = (h q.circle).1 (q.allowed, (straight_hangs n G q.circle ord v q.read).1 p.1); read = q.read }),
)

none_hang : (l : Layout) (n : ℕ) (G : Restriction) (t : Forest) → 1 ≤ n → InForm (leaf_count l n) t → Visible l n G
    → ((ord : List ℕ) → Allowed t ord → Consecutive G ord → ⊥) ↔ ((ord : List ℕ) → AllowedOn l n t ord → ConsecutiveOn l G ord → ⊥)
none_hang Ring n G t m f v = Iff.rfl
none_hang Rack n G t m f v = (
  (λ h ord q k. h q.circle q.allowed ((straight_hangs n G q.circle ord v q.read).1 k)),
  (λ h c a k. let i : In (suc n) a.after = perm_in (suc n) (consistent_perm a.order) (form_end n t m f) in
      let z = read_from (suc n) c (subst (In (suc n)) (sym a.one_first) (inr i)) in
      h z.0 (record { circle = c; allowed = a; read = z.1 }) ((straight_hangs n G c z.0 v z.1).0 k)),
)

module _ (l : Layout) (n : ℕ) (G : Restriction) (t : Forest) (m : 1 ≤ n) (f : InForm (leaf_count l n) t) (v : Visible l n G) where
  -- Impossible iff no allowed order hangs the group together.
  pub joins_none : (join G t ≡ none) ↔ ((ord : List ℕ) → AllowedOn l n t ord → ConsecutiveOn l G ord → ⊥)
  joins_none = Iff.trans (join_none (leaf_count l n) G t f) (none_hang l n G t m f v)

  -- Otherwise the new tree allows exactly those that do, and its standard order is the first of them.
  pub joins_some : (u : Forest) → join G t ≡ some u → InForm (leaf_count l n) u × ((ord : List ℕ) → AllowedOn l n u ord ↔ (AllowedOn l n t ord × ConsecutiveOn l G ord)) × StandardOrder l n u (standard_on l n u)
  joins_some u e =
      let j = join_some (leaf_count l n) G t u f e in
      (j.form, allows_joined l n G t u v j.orders, standard-first l n u m j.form)

-- A group of bins up to n names no hidden one; so does a list of them.
pub within_visible : (l : Layout) (n : ℕ) (G : Restriction) → ((x : ℕ) → G x ≡ true → x ≤ n) → Visible l n G
within_visible Ring n G h = tt
within_visible Rack n G h = false_if (G (suc n)) (λ e. omega (arith, h (suc n) e))

pub named_visible : (l : Layout) (n : ℕ) (list : List ℕ) → All (λ b. (1 ≤ b) × (b ≤ n)) list → Visible l n (elem list)
named_visible l n list h = within_visible l n (elem list) (λ x e. (all_in (λ b. (1 ≤ b) × (b ≤ n)) x list h (elem_in list x e)).1)

-- Straight orders and circles of n + 1.
straight_circle : (n : ℕ) (ord : List ℕ) → 1 ≤ n → Rearranged (numbers_from 1 n) ord → (c : List ℕ) × CircularOrder (suc n) c × Rotation c (suc n ∷ ord)
straight_circle n ord l p =
    let z = read_from 1 (suc n ∷ ord) (inr (perm_in 1 p (numbers_in 1 n 1 (omega arith) (omega arith)))) in
    let q : Rearranged (1 ∷ others (suc n)) (1 ∷ z.0) = perm_trans (perm_sym (end_first n)) (perm_trans (next here p) (rotation_perm z.1)) in
    (1 ∷ z.0, record { after = z.0; one_first = refl; all_leaves = perm_uncons q }, rotation_sym z.1)

circle_straight : (n : ℕ) (c : List ℕ) → 1 ≤ n → CircularOrder (suc n) c → (ord : List ℕ) × Rearranged (numbers_from 1 n) ord × Rotation c (suc n ∷ ord)
circle_straight n c l o =
    let p : Rearranged (1 ∷ others (suc n)) c = subst (Rearranged (1 ∷ others (suc n))) (sym o.one_first) (next here o.all_leaves) in
    let z = read_from (suc n) c (perm_in (suc n) p (inr (end_in n l))) in
    (z.0, perm_uncons (perm_trans (end_first n) (perm_trans p (rotation_perm z.1))), z.1)

-- The groups of the second list hang in one order iff those of the first do in the other.
hang_all : (n : ℕ) (c ord : List ℕ) → Rotation c (suc n ∷ ord) → (Gs : List Restriction) → All (Visible Rack n) Gs → All (λ G. Consecutive G c) Gs ↔ All (λ G. Contiguous G ord) Gs
hang_all n c ord r [] v = (λ h. tt, λ h. tt)
hang_all n c ord r (G ∷ Gs) v =
    let a = straight_hangs n G c ord v.0 r in
    let b = hang_all n c ord r Gs v.1 in
    (λ h. (a.0 h.0, b.0 h.1), λ h. (a.1 h.0, b.1 h.1))

-- Possible on a rack iff possible on its ring of n + 1.
pub possible_leaves : (l : Layout) (n : ℕ) (Gs : List Restriction) → 1 ≤ n → All (Visible l n) Gs → Possible l n Gs ↔ Possible Ring (leaf_count l n) Gs
possible_leaves Ring n Gs m v = (λ p. p, λ p. p)
possible_leaves Rack n Gs m v = (
  (λ p. let z = straight_circle n p.order m p.is_order in record { order = z.0; is_order = z.1; hang = (hang_all n z.0 p.order z.2 Gs v).1 p.hang }),
  (λ p. let z = circle_straight n p.order m p.is_order in record { order = z.0; is_order = z.1; hang = (hang_all n p.order z.0 z.2 Gs v).0 p.hang }),
)

-- The fresh tree allows every order.
pub fresh_allows : (l : Layout) (n : ℕ) (ord : List ℕ) → 1 ≤ n → AllowedOn l n (fresh (leaf_count l n)) ord ↔ OrderOn l n ord
fresh_allows Ring n ord m = fresh_allowed n ord
fresh_allows Rack n ord m = (
  (λ q. let c = (fresh_allowed (suc n) q.circle).0 q.allowed in
      perm_uncons (perm_trans (end_first n) (perm_trans (subst (Rearranged (1 ∷ others (suc n))) (sym c.one_first) (next here c.all_leaves)) (rotation_perm q.read)))),
  (λ p. let z = straight_circle n ord m p in record { circle = z.0; allowed = (fresh_allowed (suc n) z.0).1 z.1; read = z.2 }),
)

-- From two bins on, a list of them and its reverse are two.
pub reverse_differs : (n : ℕ) (ord : List ℕ) → 2 ≤ n → Rearranged (numbers_from 1 n) ord → reverse ord ≢ ord
reverse_differs n ord l p e =
    go ord (omega (arith, perm_length p, numbers_length 1 n)) (perm_distinct p (numbers_distinct 1 n)) e
  where
    by_first : (x : ℕ) (xs ys : List ℕ) → 1 ≤ length xs → All (λ y. x ≢ y) xs → ys ++ (x ∷ []) ≡ x ∷ xs → ⊥
    by_first x xs [] l d e = omega (arith, ap length e)
    by_first x xs (y ∷ ys) l d e =
        all_in (λ y. x ≢ y) x xs d (subst (In x) (ap (drop 1) e) (in_right x ys (x ∷ []) (inl refl))) refl

    go : (l : List ℕ) → 2 ≤ length l → Distinct l → reverse l ≡ l → ⊥
    go [] l d e = omega arith
    go (x ∷ xs) l d e = by_first x xs (reverse xs) (omega arith) d.0 (sym (reverse-cons x xs) ∙ e)

-- What a tree in form allows are orders, and the standard order is one of them: each bin stands in it once.
pub straight_order : (n : ℕ) (t : Forest) (ord : List ℕ) → 1 ≤ n → InForm (suc n) t → Straight n t ord → Rearranged (numbers_from 1 n) ord
straight_order n t ord m f q =
    let p : Rearranged (1 ∷ others (suc n)) q.circle = subst (Rearranged (1 ∷ others (suc n))) (sym q.allowed.one_first) (next here (perm_trans f.all_leaves (consistent_perm q.allowed.order))) in
    perm_uncons (perm_trans (end_first n) (perm_trans p (rotation_perm q.read)))

pub standard-leaves : (l : Layout) (n : ℕ) (t : Forest) → 1 ≤ n → InForm (leaf_count l n) t → Rearranged (numbers_from 1 n) (standard_on l n t)
unfolding standard_on
standard-leaves Ring n t m f = all_standard n t f m
standard-leaves Rack n t m f = straight_order n t (frontier (seen_from 1 (suc n) t)) m f (rack-standard n t m f).allowed

pub standard-length : (l : Layout) (n : ℕ) (t : Forest) → 1 ≤ n → InForm (leaf_count l n) t → length (standard_on l n t) ≡ n
standard-length l n t m f = sym (perm_length (standard-leaves l n t m f)) ∙ numbers_length 1 n

pub standard_iff : (l : Layout) (n : ℕ) (t : Forest) → 1 ≤ n → InForm (leaf_count l n) t → (ord : List ℕ) → StandardOrder l n t ord ↔ (ord ≡ standard_on l n t)
standard_iff l n t m f ord =
    let first = standard-first l n t m f in
    ((λ s. standard_unique l n t ord (standard_on l n t) s first), (λ e. subst (StandardOrder l n t) (sym e) first))

-- Trees that allow the same circles allow the same straight orders.
pub same_allowed : (l : Layout) (n : ℕ) (t u : Forest) → ((ord : List ℕ) → Allowed t ord ↔ Allowed u ord) → (ord : List ℕ) → AllowedOn l n t ord ↔ AllowedOn l n u ord
same_allowed Ring n t u h ord = h ord
same_allowed Rack n t u h ord = (
  (λ q. record { circle = q.circle; allowed = (h q.circle).0 q.allowed; read = q.read }),
  (λ q. record { circle = q.circle; allowed = (h q.circle).1 q.allowed; read = q.read }),
)

-- A straight order is read off one circle: so what two trees allow, both allow as circles iff both do as straight orders.
one-circle : (n : ℕ) (t u : Forest) (ord : List ℕ) → InForm (suc n) t → (q : Straight n t ord) (r : Straight n u ord) → q.circle ≡ r.circle
one-circle n t u ord f q r =
    let a = q.allowed in
    let b = r.allowed in
    let d = perm_distinct (next here (consistent_perm a.order)) (form_rooted (suc n) t f).distinct in
    let same : Rotation (1 ∷ a.after) (1 ∷ b.after) =
    subst (λ c. Rotation c (1 ∷ b.after)) a.one_first (subst (Rotation q.circle) b.one_first (rotation_trans q.read (rotation_sym r.read))) in
    a.one_first ∙ ap (λ x. 1 ∷ x) (rotation_head 1 a.after b.after d same) ∙ sym b.one_first

pub both_allowed : (l : Layout) (n : ℕ) (t u v : Forest) → InForm (leaf_count l n) t → ((ord : List ℕ) → Allowed v ord ↔ (Allowed t ord × Allowed u ord))
    → (ord : List ℕ) → AllowedOn l n v ord ↔ (AllowedOn l n t ord × AllowedOn l n u ord)
both_allowed Ring n t u v f h ord = h ord
both_allowed Rack n t u v f h ord = (
  (λ q. let a = (h q.circle).0 q.allowed in (record { circle = q.circle; allowed = a.0; read = q.read }, record { circle = q.circle; allowed = a.1; read = q.read })),
  (λ p. let q = p.0 in
      let b = subst (Allowed u) (sym (one-circle n t u ord f q p.1)) p.1.allowed in
      record { circle = q.circle; allowed = (h q.circle).1 (q.allowed, b); read = q.read }),
)

pub none_both : (l : Layout) (n : ℕ) (t u : Forest) → 1 ≤ n → InForm (leaf_count l n) t
    → ((ord : List ℕ) → Allowed t ord → Allowed u ord → ⊥) ↔ ((ord : List ℕ) → AllowedOn l n t ord → AllowedOn l n u ord → ⊥)
none_both Ring n t u m f = Iff.rfl
none_both Rack n t u m f = (
  (λ h ord q r. h q.circle q.allowed (subst (Allowed u) (sym (one-circle n t u ord f q r)) r.allowed)),
  (λ h c a b. let i : In (suc n) a.after = perm_in (suc n) (consistent_perm a.order) (form_end n t m f) in
      let z = read_from (suc n) c (subst (In (suc n)) (sym a.one_first) (inr i)) in
      h z.0 (record { circle = c; allowed = a; read = z.1 }) (record { circle = c; allowed = b; read = z.1 })),
)
