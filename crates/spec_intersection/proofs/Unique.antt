-- Two canonical trees that allow the same orders are the same tree.
use mathlib.Core.Path.{◌∙◌, ◌≡◌, ap, ap₂, refl, subst, sym}
use mathlib.Core.Logic.{◌⊎◌, inl, inr}
use mathlib.Core.List.{List, [], ◌++◌, ◌∷◌, append_assoc, append-nil, head-eq_of_cons-eq, reverse, reverse-append, tail-eq_of_cons-eq}
use Prim.Native.Nat.{◌≤◌, ℕ}
use native.Mathlib.Omega.{arith}
use lib.ListN.{length}
use Rattle.spec_orders.specs.Lists.{Distinct, here, there, Rearranged, next}
use Rattle.spec_orders.specs.Tree.{Kind, P, C, Forest, nil, leaf, node, Item, leaf_item, node_item, items, append, frontier, Turn, Consistent}
use Rattle.spec_orders.specs.Form.{Enough, Canonical, Single}
use Rattle.spec_orders.specs.TreeText.{TwoItems}
use Rattle.spec_orders.specs.Reduce.{put, one}
use Rattle.spec_orders.proofs.Rearranged.{perm_refl, perm_trans, perm_sym}
use Rattle.spec_orders.proofs.Members.{NonEmpty, nonempty_left, in_left, in_right, perm_in, perm_nonempty, distinct_left, distinct_right, apart, perm_reverse, Later, cut}
use Rattle.spec_orders.proofs.NotAfter.{not_after_antisym}
use Rattle.spec_orders.proofs.Laws.{turn_refl, leaves_of, every_append, Node-canonical, Canonical-of, enough_two, consistent_append, frontier-append}
use Rattle.spec_orders.proofs.First.{frontier_allowed, two_nonempty, frontier-first}
use Rattle.spec_orders.proofs.Parts.{append-put, place_in, every-put, every_one, put_one, items-put, frontier-put, frontier-one, consistent_put, consistent_unput, node_in, node_out, item_perm}
use Rattle.spec_orders.proofs.Mirror.{consistent_unmirror}
use Rattle.spec_intersection.proofs.Lists.{nonempty_right, same-run, overlap}
use Rattle.spec_intersection.proofs.Pieces.{Alike, uncons, put_two, frontier_nonempty, item_nonempty, node_block}
use Rattle.spec_intersection.proofs.Coarse.{frontier-whole, order_distinct, coarse}

-- The first two items change places at a P-node, not at a C-node with a third item: so the kinds are one.
no_swap : (t u : Item) (g : Forest) → NonEmpty (leaves_of t) → NonEmpty (leaves_of u) → NonEmpty (frontier g) → Distinct (leaves_of t ++ (leaves_of u ++ frontier g))
    → ((xs : List ℕ) → Consistent (node P (put t (put u g)) nil) xs → Consistent (node C (put t (put u g)) nil) xs) → ⊥
no_swap t u g ht hu hg d sub =
    let s : Consistent (put u (put t g)) w = consistent_put u (put t g) (leaves_of u) (leaves_of t ++ frontier g) (self u) (consistent_put t g (leaves_of t) (frontier g) (self t) (frontier_allowed g)) in
    let p : Rearranged (items (put t (put u g))) (items (put u (put t g))) = rw (items-put t (put u g), items-put u g, items-put u (put t g), items-put t g) (next (there here) (perm_refl (t ∷ items g))) in
    let r = node_out (sub w (node_in p s)) in
    go r.turned r.turn r.order
  where
    w : List ℕ
    w = leaves_of u ++ (leaves_of t ++ frontier g)

    self : (v : Item) → Consistent (one v) (leaves_of v)
    self v = subst (Consistent (one v)) (frontier-one v) (frontier_allowed (one v))

    go : (j : Forest) → Turn C (put t (put u g)) j → Consistent j w → ⊥
    go j (inl e) s =
        let a = consistent_unput t (put u g) w (subst (λ h. Consistent h w) e s) in
        let p = item_perm t a.front a.of_front in
        let m = overlap a.front a.back (leaves_of u) (leaves_of t ++ frontier g) (sym a.whole) (perm_nonempty p ht) hu in
        apart m.elt (leaves_of t) (leaves_of u ++ frontier g) d (perm_in m.elt (perm_sym p) m.in_a) (in_left m.elt (leaves_of u) (frontier g) m.in_b)
    go j (inr e) s =
        let a = consistent_unput t (put u g) (reverse w) (consistent_unmirror (put t (put u g)) w (subst (λ h. Consistent h w) e s)) in
        let p = item_perm t a.front a.of_front in
        let q : reverse w ≡ reverse (frontier g) ++ (reverse (leaves_of t) ++ reverse (leaves_of u)) =
        reverse-append (leaves_of u) (leaves_of t ++ frontier g) ∙ ap (λ l. l ++ reverse (leaves_of u)) (reverse-append (leaves_of t) (frontier g)) ∙ append_assoc (reverse (frontier g)) (reverse (leaves_of t)) (reverse (leaves_of u)) in
        let m = overlap a.front a.back (reverse (frontier g)) (reverse (leaves_of t) ++ reverse (leaves_of u)) (sym a.whole ∙ q) (perm_nonempty p ht) (perm_nonempty (perm_reverse (frontier g)) hg) in
        apart m.elt (leaves_of t) (leaves_of u ++ frontier g) d (perm_in m.elt (perm_sym p) m.in_a) (in_right m.elt (leaves_of u) (frontier g) (perm_in m.elt (perm_sym (perm_reverse (frontier g))) m.in_b))

three_nonempty : (ts : List Item) → 3 ≤ length ts → NonEmpty ts
three_nonempty [] h = omega arith
three_nonempty (t ∷ ts) h = tt

kinds_differ : (i : Forest) → Canonical i → Distinct (frontier i) → 3 ≤ length (items i) → ((xs : List ℕ) → Consistent (node P i nil) xs → Consistent (node C i nil) xs) → ⊥
kinds_differ i c d h sub =
    let a = uncons i (three_nonempty (items i) h) in
    let t = a.head in
    let f = a.tail in
    let hf : 2 ≤ length (items f) = omega (arith, h, ap (λ j. length (items j)) a.is, ap length (items-put t f)) in
    let b = uncons f (two_nonempty (items f) hf) in
    let u = b.head in
    let g = b.tail in
    let e : i ≡ put t (put u g) = a.is ∙ ap (put t) b.is in
    let c₁ = every-put Node-canonical t (put u g) (subst Canonical e c) in
    let c₂ = every-put Node-canonical u g c₁.1 in
    no_swap t u g (item_nonempty t c₁.0) (item_nonempty u c₂.0) (frontier_nonempty g c₂.1 (put_two u g (subst (λ j. TwoItems (items j)) b.is hf)))
    (subst Distinct (ap frontier e ∙ frontier-put t (put u g) ∙ ap (λ l. leaves_of t ++ l) (frontier-put u g)) d)
    (subst (λ j. (xs : List ℕ) → Consistent (node P j nil) xs → Consistent (node C j nil) xs) e sub)

same_kind : (k l : Kind) (i : Forest) → Canonical i → Distinct (frontier i) → Enough k i → Enough l i → Alike (node k i nil) (node l i nil) → k ≡ l
same_kind P P i c d ak al h = refl
same_kind C C i c d ak al h = refl
same_kind P C i c d ak al h = absurd (kinds_differ i c d al (λ xs. (h xs).0))
same_kind C P i c d ak al h = absurd (kinds_differ i c d ak (λ xs. (h xs).1))

-- The two nodes are cut into items at the same places.
rest_nonempty : (q : Forest) (u : Item) (g : Forest) → Canonical q → Canonical g → TwoItems (items (append q (put u g))) → NonEmpty (frontier q ++ frontier g)
rest_nonempty nil u g cq cg h = frontier_nonempty g cg (put_two u g h)
rest_nonempty (leaf b q) u g cq cg h = tt
rest_nonempty (node k i q) u g cq cg h = nonempty_left (frontier (node k i q)) (frontier g) (frontier_nonempty (node k i q) cq tt)

same_cuts : (k l : Kind) (p q : Forest) (t u : Item) (f g : Forest) → Canonical p → Canonical q → Canonical-of t → Canonical-of u → Canonical f → Canonical g
    → TwoItems (items (append p (put t f))) → TwoItems (items (append q (put u g)))
    → frontier p ≡ frontier q → leaves_of t ++ frontier f ≡ leaves_of u ++ frontier g → Distinct (frontier q ++ (leaves_of u ++ frontier g))
    → Alike (node k (append p (put t f)) nil) (node l (append q (put u g)) nil) → (leaves_of t ≡ leaves_of u) × (frontier f ≡ frontier g)
same_cuts k l p q t u f g cp cq ct cu cf cg hp hq ep e d h = go (cut (leaves_of t) (leaves_of u) e)
  where
    go : Later (leaves_of t) (frontier f) (leaves_of u) (frontier g) ⊎ Later (leaves_of u) (frontier g) (leaves_of t) (frontier f) → (leaves_of t ≡ leaves_of u) × (frontier f ≡ frontier g)
    go (inl ([], r, s)) = (sym (r ∙ append-nil (leaves_of t)), s)
    go (inr ([], r, s)) = (r ∙ append-nil (leaves_of u), sym s)
    go (inl (x ∷ w, r, s)) =
        absurd (coarse k p (one t) f l q u g (x ∷ w) (rw (put_one t f) (λ xs. (h xs).0)) (rw (put_one t f) (λ xs. (h xs).1)) ep
        (r ∙ ap (λ m. m ++ (x ∷ w)) (sym (frontier-one t))) s (subst NonEmpty (sym (frontier-one t)) (item_nonempty t ct)) tt (rest_nonempty q u g cq cg hq) d)
    go (inr (x ∷ w, r, s)) =
        absurd (coarse l q (one u) g k p t f (x ∷ w) (rw (put_one u g) (λ xs. (h xs).1)) (rw (put_one u g) (λ xs. (h xs).0)) (sym ep)
        (r ∙ ap (λ m. m ++ (x ∷ w)) (sym (frontier-one u))) s (subst NonEmpty (sym (frontier-one u)) (item_nonempty u cu)) tt (rest_nonempty p t f cp cf hp)
        (subst Distinct (ap₂ ◌++◌ (sym ep) (sym e)) d))

-- Item for item the same orders.
item_inside : (k l : Kind) (p q : Forest) (t u : Item) (f g : Forest) → leaves_of t ≡ leaves_of u → NonEmpty (leaves_of t) → Distinct (frontier q ++ (leaves_of u ++ frontier g))
    → ((xs : List ℕ) → Consistent (node k (append p (put t f)) nil) xs → Consistent (node l (append q (put u g)) nil) xs) → (ys : List ℕ) → Consistent (one t) ys → Consistent (one u) ys
item_inside k l p q t u f g e ht d sub ys s =
    let w = frontier p ++ (ys ++ frontier f) in
    let r = sub w (node_in (turn_refl k (append p (put t f))) (consistent_append (frontier_allowed p) (consistent_put t f ys (frontier f) s (frontier_allowed f)))) in
    let b = node_block l (append q (put u g)) u w (place_in q u g) r in
    let dw = order_distinct l (append q (put u g)) w r (subst Distinct (sym (frontier-whole q u g)) d) in
    let pb : Rearranged (leaves_of t) b.block = subst (λ m. Rearranged m b.block) (sym e) (item_perm u b.block b.order) in
    let z = same-run b.left b.block b.right (frontier p) ys (frontier f) (sym b.parts) (perm_trans (perm_sym pb) (item_perm t ys s)) (perm_nonempty pb ht) (subst Distinct b.parts dw) in
    subst (Consistent (one u)) z b.order

frontier-step : (q : Forest) (u : Item) (g : Forest) → frontier (append q (one u)) ++ frontier g ≡ frontier q ++ (leaves_of u ++ frontier g)
frontier-step q u g = ap (λ l. l ++ frontier g) (frontier-append q (one u) ∙ ap (λ l. frontier q ++ l) (frontier-one u)) ∙ append_assoc (frontier q) (leaves_of u) (frontier g)

frontier-next : (p q : Forest) (t u : Item) → frontier p ≡ frontier q → leaves_of t ≡ leaves_of u → frontier (append p (one t)) ≡ frontier (append q (one u))
frontier-next p q t u ep e = frontier-append p (one t) ∙ ap₂ ◌++◌ ep (frontier-one t ∙ e ∙ sym (frontier-one u)) ∙ sym (frontier-append q (one u))

-- A node has two leaves or more.
two_leaves : (a c : List ℕ) (b : ℕ) → NonEmpty a → NonEmpty c → a ++ c ≡ b ∷ [] → ⊥
two_leaves [] c b h k e = h
two_leaves (x ∷ a) c b h k e = subst NonEmpty (tail-eq_of_cons-eq e) (nonempty_right a c k)

node_frontier : (j : Forest) (b : ℕ) → Canonical j → TwoItems (items j) → frontier j ≡ b ∷ [] → ⊥
node_frontier j b c h e =
    let a = uncons j (two_nonempty (items j) h) in
    let d = every-put Node-canonical a.head a.tail (subst Canonical a.is c) in
    two_leaves (leaves_of a.head) (frontier a.tail) b (item_nonempty a.head d.0) (frontier_nonempty a.tail d.1 (put_two a.head a.tail (subst (λ i. TwoItems (items i)) a.is h)))
    (sym (frontier-put a.head a.tail) ∙ ap frontier (sym a.is) ∙ e)

-- p and q, the items passed so far; f and g, those that are left.
record Twin (k l : Kind) (p q f g : Forest) : Type 0 where
  canon_p : Canonical p
  canon_q : Canonical q
  canon_f : Canonical f
  canon_g : Canonical g
  two_f : TwoItems (items (append p f))
  two_g : TwoItems (items (append q g))
  passed : frontier p ≡ frontier q
  left : frontier f ≡ frontier g
  apart_g : Distinct (frontier q ++ frontier g)
  alike : Alike (node k (append p f) nil) (node l (append q g) nil)

twin_next : (k l : Kind) (p q : Forest) (t u : Item) (f g : Forest) → Canonical-of t → Canonical-of u → Canonical f → Canonical g → leaves_of t ≡ leaves_of u → frontier f ≡ frontier g
    → Twin k l p q (put t f) (put u g) → Twin k l (append p (one t)) (append q (one u)) f g
twin_next k l p q t u f g ct cu cf cg e el w = record {
  canon_p = every_append Node-canonical p (one t) w.canon_p (every_one Node-canonical t ct);
  canon_q = every_append Node-canonical q (one u) w.canon_q (every_one Node-canonical u cu);
  canon_f = cf;
  canon_g = cg;
  two_f = rw (append-put p t f) w.two_f;
  two_g = rw (append-put q u g) w.two_g;
  passed = frontier-next p q t u w.passed e;
  left = el;
  apart_g = rw (frontier-step q u g, ← (frontier-put u g)) w.apart_g;
  alike = rw (append-put p t f, append-put q u g) w.alike;
}

twin_cut : (k l : Kind) (p q : Forest) (t u : Item) (f g : Forest) → Twin k l p q (put t f) (put u g) → (leaves_of t ≡ leaves_of u) × (frontier f ≡ frontier g)
twin_cut k l p q t u f g w =
    let ct = every-put Node-canonical t f w.canon_f in
    let cu = every-put Node-canonical u g w.canon_g in
    same_cuts k l p q t u f g w.canon_p w.canon_q ct.0 cu.0 ct.1 cu.1 w.two_f w.two_g w.passed
    (sym (frontier-put t f) ∙ w.left ∙ frontier-put u g) (rw (← (frontier-put u g)) w.apart_g) w.alike

twin_inside : (k l : Kind) (p q : Forest) (k' l' : Kind) (i j f g : Forest) → frontier i ≡ frontier j → Twin k l p q (node k' i f) (node l' j g) → Alike (node k' i nil) (node l' j nil)
twin_inside k l p q k' l' i j f g e w ys = (
  item_inside k l p q (node_item k' i) (node_item l' j) f g e (item_nonempty (node_item k' i) w.canon_f.0) w.apart_g (λ xs. (w.alike xs).0) ys,
  item_inside l k q p (node_item l' j) (node_item k' i) g f (sym e) (item_nonempty (node_item l' j) w.canon_g.0) (subst Distinct (ap₂ ◌++◌ (sym w.passed) (sym w.left)) w.apart_g) (λ xs. (w.alike xs).1) ys,
)

twin_down : (k l : Kind) (p q : Forest) (k' l' : Kind) (i j f g : Forest) → frontier i ≡ frontier j → Twin k l p q (node k' i f) (node l' j g) → Twin k' l' nil nil i j
twin_down k l p q k' l' i j f g e w = record {
  canon_p = tt;
  canon_q = tt;
  canon_f = w.canon_f.0.1;
  canon_g = w.canon_g.0.1;
  two_f = enough_two k' i w.canon_f.0.0.0;
  two_g = enough_two l' j w.canon_g.0.0.0;
  passed = refl;
  left = e;
  apart_g = distinct_left (frontier j) (frontier g) (distinct_right (frontier q) (frontier j ++ frontier g) w.apart_g);
  alike = twin_inside k l p q k' l' i j f g e w;
}

twin_kind : (k l : Kind) (i j : Forest) → i ≡ j → Enough k i → Enough l j → Twin k l nil nil i j → k ≡ l
twin_kind k l i j s ak al v =
    same_kind k l i v.canon_f (subst Distinct (sym v.left) v.apart_g) ak (subst (Enough l) (sym s) al) (subst (λ h. Alike (node k i nil) (node l h nil)) (sym s) v.alike)

same_node : {k l : Kind} {i j f g : Forest} → k ≡ l → i ≡ j → f ≡ g → node k i f ≡ node l j g
same_node a b c = cc

walk : (f g p q : Forest) (k l : Kind) → Twin k l p q f g → f ≡ g
walk nil nil p q k l w = refl
walk nil (leaf c g) p q k l w = absurd (subst NonEmpty (sym w.left) tt)
walk nil (node l' j g) p q k l w = absurd (subst NonEmpty (sym w.left) (frontier_nonempty (node l' j g) w.canon_g tt))
walk (leaf b f) nil p q k l w = absurd (subst NonEmpty w.left tt)
walk (node k' i f) nil p q k l w = absurd (subst NonEmpty w.left (frontier_nonempty (node k' i f) w.canon_f tt))
walk (leaf b f) (leaf c g) p q k l w =
    let e = twin_cut k l p q (leaf_item b) (leaf_item c) f g w in
    let r = walk f g (append p (leaf b nil)) (append q (leaf c nil)) k l (twin_next k l p q (leaf_item b) (leaf_item c) f g tt tt w.canon_f w.canon_g e.0 e.1 w) in
    ap₂ leaf (head-eq_of_cons-eq e.0) r
walk (leaf b f) (node l' j g) p q k l w =
    let e = twin_cut k l p q (leaf_item b) (node_item l' j) f g w in
    absurd (node_frontier j b w.canon_g.0.1 (enough_two l' j w.canon_g.0.0.0) (sym e.0))
walk (node k' i f) (leaf c g) p q k l w =
    let e = twin_cut k l p q (node_item k' i) (leaf_item c) f g w in
    absurd (node_frontier i c w.canon_f.0.1 (enough_two k' i w.canon_f.0.0.0) e.0)
walk (node k' i f) (node l' j g) p q k l w =
    let e = twin_cut k l p q (node_item k' i) (node_item l' j) f g w in
    let r = walk f g (append p (node k' i nil)) (append q (node l' j nil)) k l (twin_next k l p q (node_item k' i) (node_item l' j) f g w.canon_f.0 w.canon_g.0 w.canon_f.1 w.canon_g.1 e.0 e.1 w) in
    let v = twin_down k l p q k' l' i j f g e.0 w in
    let s = walk i j nil nil k' l' v in
    let m = twin_kind k' l' i j s w.canon_f.0.0.0 w.canon_g.0.0.0 v in
    same_node m s r

same-frontier : (f g : Forest) → Canonical f → Canonical g → Alike f g → frontier f ≡ frontier g
same-frontier f g cf cg h = not_after_antisym (frontier f) (frontier g) (frontier-first ((h (frontier g)).1 (frontier_allowed g)) cf) (frontier-first ((h (frontier f)).0 (frontier_allowed f)) cg)

-- Same orders, same tree.
pub unique : (f g : Forest) → Canonical f → Canonical g → Distinct (frontier f) → Single (items f) → Single (items g) → Alike f g → f ≡ g
unique (leaf b nil) (leaf c (leaf _ _)) cf cg d of og h = elim og [ ]
unique (leaf b nil) (leaf c (node _ _ _)) cf cg d of og h = elim og [ ]
unique (leaf b (leaf _ _)) (leaf c g) cf cg d of og h = elim of [ ]
unique (leaf b (node _ _ _)) (leaf c g) cf cg d of og h = elim of [ ]
unique (leaf b nil) (node l j (leaf _ _)) cf cg d of og h = elim og [ ]
unique (leaf b nil) (node l j (node _ _ _)) cf cg d of og h = elim og [ ]
unique (leaf b (leaf _ _)) (node l j g) cf cg d of og h = elim of [ ]
unique (leaf b (node _ _ _)) (node l j g) cf cg d of og h = elim of [ ]
unique (node k i nil) (leaf c (leaf _ _)) cf cg d of og h = elim og [ ]
unique (node k i nil) (leaf c (node _ _ _)) cf cg d of og h = elim og [ ]
unique (node k i (leaf _ _)) (leaf c g) cf cg d of og h = elim of [ ]
unique (node k i (node _ _ _)) (leaf c g) cf cg d of og h = elim of [ ]
unique (node k i nil) (node l j (leaf _ _)) cf cg d of og h = elim og [ ]
unique (node k i nil) (node l j (node _ _ _)) cf cg d of og h = elim og [ ]
unique (node k i (leaf _ _)) (node l j g) cf cg d of og h = elim of [ ]
unique (node k i (node _ _ _)) (node l j g) cf cg d of og h = elim of [ ]
unique nil nil cf cg d of og h = refl
unique nil (leaf c g) cf cg d of og h = absurd (subst NonEmpty (sym (same-frontier nil (leaf c g) cf cg h)) tt)
unique nil (node l j g) cf cg d of og h = absurd (subst NonEmpty (sym (same-frontier nil (node l j g) cf cg h)) (frontier_nonempty (node l j g) cg tt))
unique (leaf b f) nil cf cg d of og h = absurd (subst NonEmpty (same-frontier (leaf b f) nil cf cg h) tt)
unique (node k i f) nil cf cg d of og h = absurd (subst NonEmpty (same-frontier (node k i f) nil cf cg h) (frontier_nonempty (node k i f) cf tt))
unique (leaf b nil) (leaf c nil) cf cg d of og h = ap (λ x. leaf x nil) (head-eq_of_cons-eq (same-frontier (leaf b nil) (leaf c nil) cf cg h))
unique (leaf b nil) (node l j nil) cf cg d of og h =
    absurd (node_frontier j b cg.0.1 (enough_two l j cg.0.0.0) (sym (same-frontier (leaf b nil) (node l j nil) cf cg h ∙ append-nil (frontier j))))
unique (node k i nil) (leaf c nil) cf cg d of og h =
    absurd (node_frontier i c cf.0.1 (enough_two k i cf.0.0.0) (sym (append-nil (frontier i)) ∙ same-frontier (node k i nil) (leaf c nil) cf cg h))
unique (node k i nil) (node l j nil) cf cg d of og h =
    let e : frontier i ≡ frontier j = sym (append-nil (frontier i)) ∙ same-frontier (node k i nil) (node l j nil) cf cg h ∙ append-nil (frontier j) in
    let w : Twin k l nil nil i j = record {
      canon_p = tt;
      canon_q = tt;
      canon_f = cf.0.1;
      canon_g = cg.0.1;
      two_f = enough_two k i cf.0.0.0;
      two_g = enough_two l j cg.0.0.0;
      passed = refl;
      left = e;
      apart_g = subst Distinct (append-nil (frontier i) ∙ e) d;
      alike = h;
    } in
    let s = walk i j nil nil k l w in
    same_node (twin_kind k l i j s cf.0.0.0 cg.0.0.0 w) s refl
