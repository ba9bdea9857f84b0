-- The tree seen from another leaf allows the same circles, has the same leaves but the two, and is in the published form again.
use mathlib.Core.Path.{◌∙◌, ◌≡◌, ap, refl, subst, subst₂, sym}
use mathlib.Core.Logic.Iff
use mathlib.Core.Logic.{◌↔◌, ◌≢◌, ◌⊎◌, inl, inr}
use mathlib.Core.Bool.{false, true≢false}
use mathlib.Core.List.{List, [], ◌++◌, ◌∷◌}
use Prim.Native.Nat.{ℕ, suc, ◌≤◌}
use native.Mathlib.Omega.{arith}
use borrow.Author.Tests.{eqb-true, eqb-false}
use lib.Dec.{eqb}
use Rattle.spec_orders.specs.Lists.{All, Distinct, In, elem, Rearranged, next, here}
use Rattle.spec_orders.specs.CircularOrder.{others}
use Rattle.spec_orders.specs.Tree.{Kind, P, C, Forest, nil, leaf, node, Item, leaf_item, node_item, items, append, frontier, Consistent, no_items, leaf_first, Rotation}
use Rattle.spec_orders.specs.Form.{first_of, InForm, Enough, Canonical, Single}
use Rattle.spec_orders.specs.Reduce.{put, one}
use Rattle.spec_orders.proofs.Rearranged.{perm_trans, perm_sym, perm_length, perm_distinct}
use Rattle.spec_orders.proofs.Members.{all_in, in_all, in_append, perm_in, elem_in, in_elem}
use Rattle.spec_orders.proofs.Tests.{cond_cases}
use Rattle.spec_orders.proofs.Laws.{leaves_of, every_all, all_every, every_perm, items-append}
use Rattle.spec_orders.proofs.First.{frontier_allowed}
use Rattle.spec_orders.proofs.Parts.{append-put, every-put, every_one, frontier-one, item_perm, one_single}
use Rattle.spec_orders.proofs.ListLaws.{all_append, all_left, all_right}
use Rattle.spec_orders.proofs.Numbers.{numbers_in}
use Rattle.spec_orders.proofs.Forms.{not_one, form_distinct}
use Rattle.spec_orders.proofs.PutSorted.{Climbs, Climbing, climbing_put_sorted, orient_ends}
use Rattle.spec_orders.proofs.ReduceForm.{Sloped, Node-formed, Formed, Formed-of, canonical_formed, formed_canonical}
use Rattle.spec_orders.specs.SeenFrom.{place, walk, seen, seen_from}
use Rattle.spec_orders.proofs.Rotations.{rotate, rotation_refl, rotation_trans, rotation_perm, rotation_head}
use Rattle.spec_orders.proofs.Edges.{items_mid, same_length, Round, round_swap, place_perm, place_round}

not_elem : (l : List ℕ) (x : ℕ) → elem l x ≡ false → In x l → ⊥
not_elem l x e h = true≢false (sym (in_elem l x h) ∙ e)

-- What holds of an edge and goes with each step holds of the edge at r.
module _ (Q : Item → Item → Type 0) (step : (k : Kind) (u x : Item) (a b : Forest) → Q u (node_item k (append a (put x b))) → Q (node_item k (place k u a b)) x) (r : ℕ) where
  along : (k : Kind) (u : Item) (a f : Forest) → Q u (node_item k (append a f)) → In r (frontier f) → Q (walk r k u a f) (leaf_item r)
  along k u a nil h i = absurd i
  along k u a (leaf b f) h i =
      cond_cases (eqb r b) (node_item k (place k u a f)) (walk r k u (append a (leaf b nil)) f) (λ v. Q v (leaf_item r))
      (λ y. subst (λ x. Q (node_item k (place k u a f)) (leaf_item x)) (sym (eqb-true r b y)) (step k u (leaf_item b) a f h))
      (λ n. along k u (append a (leaf b nil)) f (subst (λ g. Q u (node_item k g)) (sym (append-put a (leaf_item b) f)) h) (rest i n))
    where
      rest : (r ≡ b) ⊎ In r (frontier f) → eqb r b ≡ false → In r (frontier f)
      rest (inl e) n = absurd (eqb-false r b n e)
      rest (inr j) n = j
  along k u a (node l i f) h m =
      cond_cases (elem (frontier i) r) (walk r l (node_item k (place k u a f)) nil i) (walk r k u (append a (node l i nil)) f) (λ v. Q v (leaf_item r))
      (λ y. along l (node_item k (place k u a f)) nil i (step k u (node_item l i) a f h) (elem_in (frontier i) r y))
      (λ n. along k u (append a (node l i nil)) f (subst (λ g. Q u (node_item k g)) (sym (append-put a (node_item l i) f)) h) (rest (in_append r (frontier i) (frontier f) m) n))
    where
      rest : In r (frontier i) ⊎ In r (frontier f) → elem (frontier i) r ≡ false → In r (frontier f)
      rest (inl j) n = absurd (not_elem (frontier i) r n j)
      rest (inr j) n = j

  pub to_leaf : (s : ℕ) (x : Item) → Q (leaf_item s) x → In r (leaves_of x) → Q (seen s r x) (leaf_item r)
  to_leaf s (leaf_item b) q (inl e) = subst (λ c. Q (leaf_item s) (leaf_item c)) (sym e) q
  to_leaf s (leaf_item b) q (inr h) = absurd h
  to_leaf s (node_item k i) q h = along k (leaf_item s) nil i q h

-- The circles.
round_seen : (s r : ℕ) (x : Item) → In r (leaves_of x) → (c : List ℕ) → Round (leaf_item s) x c ↔ Round (seen s r x) (leaf_item r) c
round_seen s r x h =
    to_leaf (λ u y. (c : List ℕ) → Round (leaf_item s) x c ↔ Round u y c) (λ k u y a b q c. Iff.trans (q c) (place_round k u y a b c)) r s x (λ c. Iff.rfl) h

leaf_out : {b : ℕ} {xs : List ℕ} → Consistent (leaf b nil) xs → xs ≡ b ∷ []
leaf_out (leaf_first no_items) = refl

at_leaf : (s : ℕ) (x : Item) (xs : List ℕ) → Consistent (one x) xs → Round (leaf_item s) x (s ∷ xs)
at_leaf s x xs h = record { near = s ∷ []; far = xs; of_near = leaf_first no_items; of_far = h; circle = rotation_refl (s ∷ xs) }

record Far (r : ℕ) (v : Item) (c : List ℕ) : Type 0 where
  rest : List ℕ
  order : Consistent (one v) rest
  circle : Rotation c (r ∷ rest)

far_leaf : (r : ℕ) (v : Item) (c : List ℕ) → Round v (leaf_item r) c → Far r v c
far_leaf r v c q = record {
  rest = q.near;
  order = q.of_near;
  circle = rotation_trans (subst (λ l. Rotation c (q.near ++ l)) (leaf_out q.of_far) q.circle) (rotate q.near (r ∷ []));
}

module _ (s r : ℕ) (x v : Item) (go : (c : List ℕ) → Round (leaf_item s) x c → Round v (leaf_item r) c) where
  cross_perm : Rearranged (s ∷ leaves_of x) (r ∷ leaves_of v)
  cross_perm =
      let q = far_leaf r v (s ∷ leaves_of x) (go (s ∷ leaves_of x) (at_leaf s x (leaves_of x) (subst (Consistent (one x)) (frontier-one x) (frontier_allowed (one x))))) in
      perm_trans (rotation_perm q.circle) (perm_sym (next here (item_perm v q.rest q.order)))

  -- From s the circle reads a, r, b; from r it reads b, s, a.
  cross : Distinct (s ∷ leaves_of x) → (a b : List ℕ) → Consistent (one x) (a ++ (r ∷ b)) → Consistent (one v) (b ++ (s ∷ a))
  cross d a b h =
      let c = s ∷ (a ++ (r ∷ b)) in
      let q = far_leaf r v c (go c (at_leaf s x (a ++ (r ∷ b)) h)) in
      let w : Rotation (r ∷ (b ++ (s ∷ a))) c = rotate (r ∷ b) (s ∷ a) in
      let e = rotation_head r (b ++ (s ∷ a)) q.rest (perm_distinct (perm_trans (next here (item_perm x (a ++ (r ∷ b)) h)) (perm_sym (rotation_perm w))) d) (rotation_trans w q.circle) in
      subst (Consistent (one v)) (sym e) q.order

seen_perm : (s r : ℕ) (x : Item) → In r (leaves_of x) → Rearranged (s ∷ leaves_of x) (r ∷ leaves_of (seen s r x))
seen_perm s r x h = cross_perm s r x (seen s r x) (λ c. (round_seen s r x h c).0)

seen_order : (s r : ℕ) (x : Item) → Distinct (s ∷ leaves_of x) → In r (leaves_of x) → (a b : List ℕ) → Consistent (one x) (a ++ (r ∷ b)) ↔ Consistent (one (seen s r x)) (b ++ (s ∷ a))
seen_order s r x d h a b =
    let v = seen s r x in (
      cross s r x v (λ c. (round_seen s r x h c).0) d a b,
      cross r s v x (λ c q. round_swap (leaf_item s) x c ((round_seen s r x h c).1 (round_swap (leaf_item r) v c q))) (perm_distinct (seen_perm s r x h) d) b a,
    )

-- The form.
drop_climbs : (m : ℕ) (ts : List Item) (x : Item) (us : List Item) → Climbs m (ts ++ (x ∷ us)) → Climbs m (ts ++ us)
drop_climbs m [] x [] h = tt
drop_climbs m [] x (u ∷ us) h = (omega (arith, h.0, h.1.0), h.1.1)
drop_climbs m (t ∷ ts) x us h = (h.0, drop_climbs (first_of t) ts x us h.1)

drop_climbing : (ts : List Item) (x : Item) (us : List Item) → Climbing (ts ++ (x ∷ us)) → Climbing (ts ++ us)
drop_climbing [] x [] h = tt
drop_climbing [] x (u ∷ us) h = h.1
drop_climbing (t ∷ ts) x us h = drop_climbs (first_of t) ts x us h

place_slope : (k : Kind) (u x : Item) (a b : Forest) → Sloped k (append a (put x b)) → Sloped k (place k u a b)
place_slope P u x a b h =
    climbing_put_sorted u (append a b) (subst Climbing (sym (items-append a b)) (drop_climbing (items a) x (items b) (subst Climbing (items_mid a x b) h)))
place_slope C u x a b h = orient_ends (append b (put u a))

form_step : (k : Kind) (u x : Item) (a b : Forest) → Formed-of u × Formed-of (node_item k (append a (put x b))) → Formed-of (node_item k (place k u a b)) × Formed-of x
form_step k u x a b h =
    let i = append b (put u a) in
    let p = place_perm k u a b in
    let q = subst (All Formed-of) (items_mid a x b) (every_all Node-formed (append a (put x b)) h.1.1) in
    let ha = all_left Formed-of (items a) (x ∷ items b) q in
    let hx = all_right Formed-of (items a) (x ∷ items b) q in
    let fi : Formed i = all_every Node-formed i (subst (All Formed-of) (sym (items_mid b u a)) (all_append Formed-of (items b) (u ∷ items a) hx.1 (h.0, ha))) in
    let w : Enough k (place k u a b) = omega (arith, perm_length p, same_length u x a b, h.1.0.0) in
    (((w, place_slope k u x a b h.1.0.1), every_perm Node-formed i (place k u a b) p fi), hx.0)

seen_formed : (s r : ℕ) (x : Item) → In r (leaves_of x) → Formed-of x → Formed-of (seen s r x)
seen_formed s r x h f = (to_leaf (λ u y. Formed-of u × Formed-of y) form_step r s x (tt, f) h).0

-- A tree of one item.
pub seen_one : (s r : ℕ) (x : Item) → seen_from s r (one x) ≡ one (seen s r x)
seen_one s r (leaf_item b) = refl
seen_one s r (node_item k i) = refl

pub the_item : (r : ℕ) (t : Forest) → Single (items t) → In r (frontier t) → (x : Item) × (t ≡ one x)
the_item r nil o h = absurd h
the_item r (leaf b nil) o h = (leaf_item b, refl)
the_item r (leaf b (leaf c f)) o h = absurd o
the_item r (leaf b (node k i f)) o h = absurd o
the_item r (node k i nil) o h = (node_item k i, refl)
the_item r (node k i (leaf c f)) o h = absurd o
the_item r (node k i (node l j f)) o h = absurd o

pub by_item : (r : ℕ) (Q : Forest → Type 0) → ((x : Item) → In r (leaves_of x) → Q (one x)) → (t : Forest) → Single (items t) → In r (frontier t) → Q t
by_item r Q f t o h =
    let z = the_item r t o h in
    subst Q (sym z.1) (f z.0 (subst (In r) (ap frontier z.1 ∙ frontier-one z.0) h))

-- A tree seen from leaf s: one item, and no leaf twice.
pub record Rooted (s : ℕ) (t : Forest) : Type 0 where
  pub single : Single (items t)
  pub distinct : Distinct (s ∷ frontier t)

module _ (s r : ℕ) (t : Forest) (w : Rooted s t) (h : In r (frontier t)) where
  -- The circle s, a, r, b read from r.
  pub seen_from_order : (a b : List ℕ) → Consistent t (a ++ (r ∷ b)) ↔ Consistent (seen_from s r t) (b ++ (s ∷ a))
  seen_from_order =
      by_item r (λ g. Distinct (s ∷ frontier g) → (a b : List ℕ) → Consistent g (a ++ (r ∷ b)) ↔ Consistent (seen_from s r g) (b ++ (s ∷ a)))
      (λ x i d. subst (λ v. (a b : List ℕ) → Consistent (one x) (a ++ (r ∷ b)) ↔ Consistent v (b ++ (s ∷ a))) (sym (seen_one s r x)) (seen_order s r x (subst (λ l. Distinct (s ∷ l)) (frontier-one x) d) i))
      t w.single h w.distinct

  pub seen_from-leaves : Rearranged (s ∷ frontier t) (r ∷ frontier (seen_from s r t))
  seen_from-leaves =
      by_item r (λ g. Rearranged (s ∷ frontier g) (r ∷ frontier (seen_from s r g)))
      (λ x i. subst₂ (λ l m. Rearranged (s ∷ l) (r ∷ m)) (sym (frontier-one x)) (sym (ap frontier (seen_one s r x) ∙ frontier-one (seen s r x))) (seen_perm s r x i)) t w.single h

  pub seen_from_rooted : Rooted r (seen_from s r t)
  seen_from_rooted = record {
    single = by_item r (λ g. Single (items (seen_from s r g))) (λ x i. subst (λ v. Single (items v)) (sym (seen_one s r x)) (one_single (seen s r x))) t w.single h;
    distinct = perm_distinct seen_from-leaves w.distinct;
  }

  pub seen_from_has : In s (frontier (seen_from s r t))
  seen_from_has = go (perm_in s seen_from-leaves (inl refl))
    where
      go : (s ≡ r) ⊎ In s (frontier (seen_from s r t)) → In s (frontier (seen_from s r t))
      go (inl e) = absurd (all_in (λ y. s ≢ y) r (frontier t) w.distinct.0 h e)
      go (inr i) = i

  pub seen_from_canonical : Canonical t → Canonical (seen_from s r t)
  seen_from_canonical c = formed_canonical (seen_from s r t) (formed c) seen_from_rooted.distinct.1
    where
      formed : Canonical t → Formed (seen_from s r t)
      formed c =
          by_item r (λ g. Formed g → Formed (seen_from s r g)) (λ x i f. subst Formed (sym (seen_one s r x)) (every_one Node-formed (seen s r x) (seen_formed s r x i (every-put Node-formed x nil f).0))) t w.single h (canonical_formed t c)

-- A tree in form is seen from leaf 1, and it has the largest leaf.
pub form_rooted : (n : ℕ) (t : Forest) → InForm n t → Rooted 1 t
form_rooted n t f = record {
  single = f.single;
  distinct = (in_all (λ y. 1 ≢ y) (frontier t) (λ y i e. omega (arith, not_one n y (perm_in y (perm_sym f.all_leaves) i))), form_distinct n t f);
}

pub end_in : (n : ℕ) → 1 ≤ n → In (suc n) (others (suc n))
end_in n l = numbers_in 2 n (suc n) (omega arith) (omega arith)

pub form_end : (n : ℕ) (t : Forest) → 1 ≤ n → InForm (suc n) t → In (suc n) (frontier t)
form_end n t l f = perm_in (suc n) f.all_leaves (end_in n l)
