-- Reducing changes nothing where at most one leaf is marked, or all are.
use mathlib.Core.Path.{◌∙◌, ◌≡◌, ap, ap₂, refl, subst, sym}
use mathlib.Core.Logic.{◌≢◌, ◌⊎◌, inl, inr}
use mathlib.Core.Bool.{Bool, cond, false, true, true≢false}
use mathlib.Core.Option.{some}
use mathlib.Core.List.{List, [], ◌++◌, ◌∷◌, append-nil}
use Prim.Native.Nat.{◌<◌, ℕ}
use native.Mathlib.Omega.{arith}
use borrow.Author.Tests.{ltb-false, ltb-true}
use lib.Dec.{ltb}
use lib.ListN.{length}
use Rattle.spec_orders.specs.Lists.{Distinct, In, some_of}
use Rattle.spec_orders.specs.CircularOrder.{Restriction, Inside, Outside}
use Rattle.spec_orders.specs.Tree.{Kind, P, C, Forest, nil, leaf, node, Item, leaf_item, node_item, items, append, rev, frontier}
use Rattle.spec_orders.specs.Form.{first, first_of, Rises, Rising, Sorted, Canonical, Single}
use Rattle.spec_orders.specs.TreeText.{TwoItems}
use Rattle.spec_orders.specs.Reduce.{put, one, put_sorted, orient, pack, Class, empty, full, partial, complement, class_by, class, is, Part, whole, only, middle, gather, among, reduced_node, settled, node_part, parts, reduce}
use Rattle.spec_orders.proofs.ListLaws.{all_left, all_right}
use Rattle.spec_orders.proofs.Members.{in_nonempty, in_one, in_left, in_right, in_append, all_in, in_all, distinct_left, distinct_right, apart, of_some}
use Rattle.spec_orders.proofs.Contiguous.{L}
use Rattle.spec_orders.proofs.Laws.{enough_two}
use Rattle.spec_orders.proofs.First.{rises_rising}
use Rattle.spec_orders.proofs.Parts.{put_one, items-put}
use Rattle.spec_orders.proofs.PutSorted.{first_one}
use Rattle.spec_orders.proofs.Fits.{whole_append, Mark, some_out, mark, Of, of_every}
use Rattle.spec_orders.proofs.Classes.{only_all, only_none, only-append}
use Rattle.spec_orders.proofs.ReduceOrders.{part_item, whole_parts}
use Rattle.spec_orders.proofs.Tests.{cond_cases}

-- An item taken out of rising items goes back to its place.
back_here : (u : Item) (g : Forest) → Rises (first_of u) (items g) → put_sorted (one u) g ≡ put u g
back_here u nil h = refl
back_here u (leaf b g) h = let q = first_one u in
    cond_cases (ltb (first (one u)) b) (append (one u) (leaf b g)) (leaf b (put_sorted (one u) g)) (λ z. z ≡ put u (leaf b g)) (λ y. put_one u (leaf b g)) (λ n. absurd (omega (arith, h.0, ltb-false (first (one u)) b n)))
back_here u (node k i g) h = let q = first_one u in
    cond_cases (ltb (first (one u)) (first i)) (append (one u) (node k i g)) (node k i (put_sorted (one u) g)) (λ z. z ≡ put u (node k i g)) (λ y. put_one u (node k i g)) (λ n. absurd (omega (arith, h.0, ltb-false (first (one u)) (first i) n)))

put-rises : (m : ℕ) (f : Forest) (u : Item) (g : Forest) → Rises m (items (append f (put u g))) → m < first_of u
put-rises m nil u g h = (subst (λ l. Rises m l) (items-put u g) h).0
put-rises m (leaf b f) u g h = let r = put-rises b f u g h.1 in omega (arith, h.0)
put-rises m (node k i f) u g h = let r = put-rises (first i) f u g h.1 in omega (arith, h.0)

pub back : (f : Forest) (u : Item) (g : Forest) → Rising (items (append f (put u g))) → put_sorted (one u) (append f g) ≡ append f (put u g)
back nil u g h = back_here u g (subst Rising (items-put u g) h)
back (leaf b f) u g h =
    let q = first_one u in
    let p = put-rises b f u g h in
    let r = back f u g (rises_rising b (items (append f (put u g))) h) in
    cond_cases (ltb (first (one u)) b) (append (one u) (leaf b (append f g))) (leaf b (put_sorted (one u) (append f g))) (λ z. z ≡ leaf b (append f (put u g))) (λ y. absurd (omega (arith, ltb-true (first (one u)) b y))) (λ n. ap (leaf b) r)
back (node k i f) u g h =
    let q = first_one u in
    let p = put-rises (first i) f u g h in
    let r = back f u g (rises_rising (first i) (items (append f (put u g))) h) in
    cond_cases (ltb (first (one u)) (first i)) (append (one u) (node k i (append f g))) (node k i (put_sorted (one u) (append f g))) (λ z. z ≡ node k i (append f (put u g)))
    (λ y. absurd (omega (arith, ltb-true (first (one u)) (first i) y))) (λ n. ap (node k i) r)

pub orient-same : (f : Forest) → first f < first (rev f) → orient f ≡ f
orient-same f h = cond_cases (ltb (first (rev f)) (first f)) (rev f) f (λ z. z ≡ f) (λ y. absurd (omega (arith, ltb-true (first (rev f)) (first f) y))) (λ n. refl)

pack_one : (t : Item) → pack (one t) ≡ one t
pack_one (leaf_item b) = refl
pack_one (node_item k i) = refl

pub pack_two : (f : Forest) → TwoItems (items f) → pack f ≡ node P f nil
pack_two f h = cond_cases (ltb 1 (length (items f))) (node P f nil) f (λ z. z ≡ node P f nil) (λ y. refl) (λ n. absurd (omega (arith, ltb-false 1 (length (items f)) n)))

empty_not_partial : empty ≡ partial → ⊥
empty_not_partial e = true≢false (ap (is empty) e)

-- A node with one item that is not empty, and that stays: the node stays.
module _ (a : List Part) (p : Part) (b : List Part) (ha : Of empty a) (hb : Of empty b) (n : is empty p.sort ≡ false) (st : p.reduced ≡ some (one p.item)) where
  middle_here : middle (p ∷ b) ≡ some (whole (p ∷ b))
  middle_here = rw (n, of_every empty b hb, st) (ap some (put_one p.item (whole b)))

  middle-stays : (a : List Part) → Of empty a → middle (a ++ (p ∷ b)) ≡ some (whole (a ++ (p ∷ b)))
  middle-stays [] ha = middle_here
  middle-stays (q ∷ a) ha =
      let e : is empty q.sort ≡ true = ap (is empty) ha.0 in
      rw (e, middle-stays a ha.1) (ap some (put_one q.item (whole (a ++ (p ∷ b)))))

  the_rest : only empty (a ++ (p ∷ b)) ≡ a ++ b
  the_rest = only-append empty a (p ∷ b) ∙ ap₂ ◌++◌ (only_all empty a ha) (ap (λ c. cond c (p ∷ only empty b) (only empty b)) n ∙ only_all empty b hb)

  no_other : (c : Class) → is c empty ≡ false → only c (a ++ (p ∷ b)) ≡ cond (is c p.sort) (p ∷ []) []
  no_other c m = only-append c a (p ∷ b) ∙ ap₂ ◌++◌ (only_none c empty m a ha) (ap (λ l. cond (is c p.sort) (p ∷ l) l) (only_none c empty m b hb))

  the_item : gather (only partial (a ++ (p ∷ b))) (only full (a ++ (p ∷ b))) ≡ some (one p.item)
  the_item = ap₂ gather (no_other partial refl) (no_other full refl) ∙ go p.sort refl
    where
      go : (c : Class) → p.sort ≡ c → gather (cond (is partial c) (p ∷ []) []) (cond (is full c) (p ∷ []) []) ≡ some (one p.item)
      go empty q = absurd (true≢false (sym (ap (is empty) q) ∙ n))
      go full q = ap some (pack_one p.item)
      go partial q = st

  node_stays : (k : Kind) → TwoItems (items (whole (a ++ (p ∷ b)))) → Sorted k (whole (a ++ (p ∷ b))) → reduced_node k (a ++ (p ∷ b)) ≡ some (node k (whole (a ++ (p ∷ b))) nil)
  node_stays P h s =
      let e : whole (a ++ (p ∷ b)) ≡ append (whole a) (put p.item (whole b)) = whole_append a (p ∷ b) in
      let r : put_sorted (one p.item) (append (whole a) (whole b)) ≡ append (whole a) (put p.item (whole b)) = back (whole a) p.item (whole b) (subst (λ f. Rising (items f)) e s) in
      ap₂ (λ l o. among (whole l) o) the_rest the_item ∙ ap (λ f. some (pack (put_sorted (one p.item) f))) (whole_append a b) ∙ ap (λ f. some (pack f)) (r ∙ sym e) ∙ ap some (pack_two (whole (a ++ (p ∷ b))) h)
  node_stays C h s = rw (middle-stays a ha) (ap (λ f. some (node C f nil)) (orient-same (whole (a ++ (p ∷ b))) s))

module _ (S : Restriction) where
  -- Classes.
  class_out : (xs : L) → Outside S xs → class S xs ≡ empty
  class_out xs h = ap (λ c. class_by c (some_of (complement S) xs)) (some_out S xs h)

  class_some : (x : ℕ) (xs : L) → In x xs → S x ≡ true → is empty (class S xs) ≡ false
  class_some x xs i e = go (class S xs) (mark S xs (in_nonempty x xs i))
    where
      go : (c : Class) → Mark S xs c → is empty c ≡ false
      go empty m = absurd (true≢false (sym e ∙ all_in _ x xs m.0 i))
      go full m = refl
      go partial m = refl

  part_sort : (c : Class) (k : Kind) (i : Forest) (ps : List Part) → (node_part c k i ps).sort ≡ c
  part_sort empty k i ps = refl
  part_sort full k i ps = refl
  part_sort partial k i ps = refl

  all_empty : (f : Forest) → Outside S (frontier f) → Of empty (parts S f)
  all_empty nil h = tt
  all_empty (leaf b f) h = (class_out (b ∷ []) (h.0, tt), all_empty f h.1)
  all_empty (node k i f) h =
      (part_sort (class S (frontier i)) k i (parts S i) ∙ class_out (frontier i) (all_left _ (frontier i) (frontier f) h), all_empty f (all_right _ (frontier i) (frontier f) h))

  record Spot (ps : List Part) : Type 0 where
    before : List Part
    here : Part
    after : List Part
    is_these : ps ≡ before ++ (here ∷ after)
    empty_before : Of empty before
    empty_after : Of empty after
    marked : is empty here.sort ≡ false
    stays : here.reduced ≡ some (one here.item)

  past : (q : Part) (ps : List Part) → q.sort ≡ empty → Spot ps → Spot (q ∷ ps)
  past q ps e s =
      record { before = q ∷ s.before; here = s.here; after = s.after; is_these = ap (λ l. q ∷ l) s.is_these; empty_before = (e, s.empty_before); empty_after = s.empty_after; marked = s.marked; stays = s.stays }

  at : (p : Part) (ps : List Part) → Of empty ps → is empty p.sort ≡ false → p.reduced ≡ some (one p.item) → Spot (p ∷ ps)
  at p ps h m e = record { before = []; here = p; after = ps; is_these = refl; empty_before = tt; empty_after = h; marked = m; stays = e }

  reduced_back : (k : Kind) (i : Forest) → TwoItems (items i) → Sorted k i → Spot (parts S i) → reduced_node k (parts S i) ≡ some (node k i nil)
  reduced_back k i h s w =
      let e : whole (w.before ++ (w.here ∷ w.after)) ≡ i = ap whole (sym w.is_these) ∙ whole_parts S i in
      ap (reduced_node k) w.is_these ∙ node_stays w.before w.here w.after w.empty_before w.empty_after w.marked w.stays k (subst (λ f. TwoItems (items f)) (sym e) h) (subst (Sorted k) (sym e) s) ∙ ap (λ f. some (node k f nil)) e

  part_stays : (c : Class) (k : Kind) (i : Forest) → (c ≡ partial → reduced_node k (parts S i) ≡ some (node k i nil)) → (node_part c k i (parts S i)).reduced ≡ some (node k i nil)
  part_stays empty k i h = refl
  part_stays full k i h = refl
  part_stays partial k i h = h refl

  module _ (x : ℕ) (sx : S x ≡ true) where
    abbrev Sole : L → Type 0
    Sole l = (y : ℕ) → In y l → S y ≡ true → y ≡ x

    outside : (l : L) → (In x l → ⊥) → Sole l → Outside S l
    outside l u h = in_all _ l (λ y i. go y i (S y) refl)
      where
        go : (y : ℕ) → In y l → (b : Bool) → S y ≡ b → S y ≡ false
        go y i true q = absurd (u (subst (λ z. In z l) (h y i q) i))
        go y i false q = q

    spot : (f : Forest) → Canonical f → In x (frontier f) → Distinct (frontier f) → Sole (frontier f) → Spot (parts S f)
    spot nil c i d h = absurd i
    spot (leaf b f) c (inl e) d h =
        at (settled (class S (b ∷ [])) (leaf_item b)) (parts S f) (all_empty f (outside (frontier f) (λ j. all_in (λ y. b ≢ y) x (frontier f) d.0 j (sym e)) (λ y j. h y (inr j))))
        (class_some x (b ∷ []) (inl e) sx) refl
    spot (leaf b f) c (inr i) d h =
        past (settled (class S (b ∷ [])) (leaf_item b)) (parts S f)
        (class_out (b ∷ []) (outside (b ∷ []) (λ j. all_in (λ y. b ≢ y) x (frontier f) d.0 i (sym (in_one b x j))) (λ y j. h y (in_left y (b ∷ []) (frontier f) j))))
        (spot f c i d.1 (λ y j. h y (inr j)))
    spot (node k i f) c j d h = go (in_append x (frontier i) (frontier f) j) (λ m. spot i c.0.1 m (distinct_left (frontier i) (frontier f) d) hi) (λ m. spot f c.1 m (distinct_right (frontier i) (frontier f) d) hf)
      where
        hi : Sole (frontier i)
        hi y m = h y (in_left y (frontier i) (frontier f) m)

        hf : Sole (frontier f)
        hf y m = h y (in_right y (frontier i) (frontier f) m)

        q : Part
        q = node_part (class S (frontier i)) k i (parts S i)

        go : In x (frontier i) ⊎ In x (frontier f) → (In x (frontier i) → Spot (parts S i)) → (In x (frontier f) → Spot (parts S f)) → Spot (q ∷ parts S f)
        go (inl m) a b =
            at q (parts S f) (all_empty f (outside (frontier f) (λ o. apart x (frontier i) (frontier f) d m o) hf)) (ap (is empty) (part_sort (class S (frontier i)) k i (parts S i)) ∙ class_some x (frontier i) m sx)
            (part_stays (class S (frontier i)) k i (λ e. reduced_back k i (enough_two k i c.0.0.0) c.0.0.1 (a m)) ∙ ap (λ t. some (one t)) (sym (part_item S (class S (frontier i)) k i (parts S i))))
        go (inr m) a b =
            past q (parts S f) (part_sort (class S (frontier i)) k i (parts S i) ∙ class_out (frontier i) (outside (frontier i) (λ o. apart x (frontier i) (frontier f) d o m) hi)) (b m)

  -- At most one marked leaf; no marked leaf; only marked leaves.
  pub reduce-few : (t : Forest) → Single (items t) → Canonical t → Distinct (frontier t) → (x : ℕ) → ((y : ℕ) → In y (frontier t) → S y ≡ true → y ≡ x) → reduce S t ≡ some t
  unfolding reduce
  reduce-few (leaf b (leaf _ _)) l c d x h = elim l [ ]
  reduce-few (leaf b (node _ _ _)) l c d x h = elim l [ ]
  reduce-few (node k i (leaf _ _)) l c d x h = elim l [ ]
  reduce-few (node k i (node _ _ _)) l c d x h = elim l [ ]
  reduce-few nil l c d x h = refl
  reduce-few (leaf b nil) l c d x h = refl
  reduce-few (node k i nil) l c d x h = part_stays (class S (frontier i)) k i (λ e. go (some_of S (frontier i)) refl e)
    where
      hi : (y : ℕ) → In y (frontier i) → S y ≡ true → y ≡ x
      hi y m = h y (in_left y (frontier i) [] m)

      go : (b : Bool) → some_of S (frontier i) ≡ b → class S (frontier i) ≡ partial → reduced_node k (parts S i) ≡ some (node k i nil)
      go true q e =
          let r = of_some S (frontier i) q in
          let z = hi r.0 r.1 r.2 in
          reduced_back k i (enough_two k i c.0.0.0) c.0.0.1 (spot x (subst (λ y. S y ≡ true) z r.2) i c.0.1 (subst (λ y. In y (frontier i)) z r.1) (subst Distinct (append-nil (frontier i)) d) hi)
      go false q e = absurd (empty_not_partial (sym (ap (λ a. class_by a (some_of (complement S) (frontier i))) q) ∙ e))

  pub reduce-outside : (t : Forest) → Single (items t) → Outside S (frontier t) → reduce S t ≡ some t
  unfolding reduce
  reduce-outside (leaf b (leaf _ _)) l h = elim l [ ]
  reduce-outside (leaf b (node _ _ _)) l h = elim l [ ]
  reduce-outside (node k i (leaf _ _)) l h = elim l [ ]
  reduce-outside (node k i (node _ _ _)) l h = elim l [ ]
  reduce-outside nil l h = refl
  reduce-outside (leaf b nil) l h = refl
  reduce-outside (node k i nil) l h =
      part_stays (class S (frontier i)) k i (λ e. absurd (empty_not_partial (sym (class_out (frontier i) (all_left _ (frontier i) [] h)) ∙ e)))

  pub reduce_all : (t : Forest) → Single (items t) → Inside S (frontier t) → reduce S t ≡ some t
  unfolding reduce
  reduce_all (leaf b (leaf _ _)) l h = elim l [ ]
  reduce_all (leaf b (node _ _ _)) l h = elim l [ ]
  reduce_all (node k i (leaf _ _)) l h = elim l [ ]
  reduce_all (node k i (node _ _ _)) l h = elim l [ ]
  reduce_all nil l h = refl
  reduce_all (leaf b nil) l h = refl
  reduce_all (node k i nil) l h = part_stays (class S (frontier i)) k i (λ e. absurd (not_partial (frontier i) (all_left _ (frontier i) [] h) e))
    where
      not_partial : (xs : L) → Inside S xs → class S xs ≡ partial → ⊥
      not_partial [] h e = empty_not_partial e
      not_partial (y ∷ xs) h e = (subst (Mark S (y ∷ xs)) e (mark S (y ∷ xs) tt)).1 h
