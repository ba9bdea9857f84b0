-- What the parts of a node promise, and the sequences whose marked leaves stand last or first.
use mathlib.Core.Path.{◌∙◌, ◌≡◌, ap, refl, subst, sym}
use mathlib.Core.Logic.Iff
use mathlib.Core.Logic.{◌↔◌}
use mathlib.Core.Bool.{Bool, cond, false, true, true≢false}
use mathlib.Core.Option.{Option, none, some}
use mathlib.Core.List.{List, [], ◌++◌, ◌∷◌, reverse, reverse-cons, reverse-reverse}
use Prim.Native.Nat.{ℕ}
use Rattle.spec_orders.specs.Lists.{All, some_of}
use Rattle.spec_orders.specs.CircularOrder.{Restriction, Inside, Outside}
use Rattle.spec_orders.specs.Tree.{Forest, nil, Item, append, rev, Consistent, no_items}
use Rattle.spec_orders.specs.Reduce.{put, one, Class, empty, full, partial, complement, class_by, class, is, Part, whole, every, ◌⊕◌, up, down, middle}
use Rattle.spec_orders.proofs.ListLaws.{all_append, all_left, all_right}
use Rattle.spec_orders.proofs.Rearranged.{perm_sym, perm_all}
use Rattle.spec_orders.proofs.Members.{NonEmpty, perm_reverse}
use Rattle.spec_orders.specs.Layout.{Contiguous}
use Rattle.spec_orders.proofs.Contiguous.{L, Pure, Late, Early, sided_cut, sided_before, sided_after, sided_first, sided_tail, sided_both, sided_rev, sided_unrev, con_cut, con_late, con_out, con_end, out_con, con_front, con_back, con_both}
use Rattle.spec_orders.proofs.CircleAndLine.{complement_in, uncomplement_out}
use Rattle.spec_orders.proofs.Laws.{forest_assoc, leaves_of}
use Rattle.spec_orders.proofs.Parts.{put_one, item_perm, rev-put}
use Rattle.spec_orders.proofs.Mirror.{consistent_mirror, consistent_unmirror}
use Rattle.spec_orders.proofs.Gives.{Gives, gives_rev, consistent_cons, same_iff, gives_put}

-- The items one after another.
pub whole_append : (ps qs : List Part) → whole (ps ++ qs) ≡ append (whole ps) (whole qs)
whole_append [] qs = refl
whole_append (p ∷ ps) qs =
    ap (put p.item) (whole_append ps qs) ∙ sym (put_one p.item (append (whole ps) (whole qs))) ∙ sym (forest_assoc (one p.item) (whole ps) (whole qs)) ∙ ap (λ f. append f (whole qs)) (put_one p.item (whole ps))

pub whole-reverse : (ps : List Part) → whole (reverse ps) ≡ rev (whole ps)
whole-reverse [] = refl
whole-reverse (p ∷ ps) = ap whole (reverse-cons p ps) ∙ whole_append (reverse ps) (p ∷ []) ∙ ap (λ f. append f (one p.item)) (whole-reverse ps) ∙ sym (rev-put p.item (whole ps))

pub is_refl : (c : Class) → is c c ≡ true
is_refl empty = refl
is_refl full = refl
is_refl partial = refl

pub is_eq : (c d : Class) → is c d ≡ true → d ≡ c
is_eq empty empty e = refl
is_eq empty full e = absurd (true≢false (sym e))
is_eq empty partial e = absurd (true≢false (sym e))
is_eq full empty e = absurd (true≢false (sym e))
is_eq full full e = refl
is_eq full partial e = absurd (true≢false (sym e))
is_eq partial empty e = absurd (true≢false (sym e))
is_eq partial full e = absurd (true≢false (sym e))
is_eq partial partial e = refl

pub nil_order : {xs : L} → Consistent nil xs → xs ≡ []
nil_order no_items = refl

module _ (S : Restriction) where
  -- The class says what the leaves are.
  abbrev pub Mark : L → Class → Type 0
  Mark xs empty = Outside S xs × (Inside S xs → ⊥)
  Mark xs full = Inside S xs × (Outside S xs → ⊥)
  Mark xs partial = (Outside S xs → ⊥) × (Inside S xs → ⊥)

  pub mark_nonempty : (c : Class) (xs : L) → Mark xs c → NonEmpty xs
  mark_nonempty empty [] m = m.1 tt
  mark_nonempty full [] m = m.1 tt
  mark_nonempty partial [] m = m.0 tt
  mark_nonempty c (x ∷ xs) m = tt

  pub not_both : (xs : L) → NonEmpty xs → Outside S xs → Inside S xs → ⊥
  not_both [] h o i = h
  not_both (x ∷ xs) h o i = true≢false (sym i.0 ∙ o.0)

some_false : (S : Restriction) (xs : L) → some_of S xs ≡ false → Outside S xs
some_false S [] e = tt
some_false S (x ∷ xs) e = go (S x) refl e (some_false S xs)
  where
    go : (b : Bool) → S x ≡ b → cond b true (some_of S xs) ≡ false → (some_of S xs ≡ false → Outside S xs) → (S x ≡ false) × Outside S xs
    go true q e h = absurd (true≢false e)
    go false q e h = (q, h e)

pub some_out : (S : Restriction) (xs : L) → Outside S xs → some_of S xs ≡ false
some_out S [] h = refl
some_out S (x ∷ xs) h = rw h.0 (some_out S xs h.1)

some_true : (S : Restriction) (xs : L) → some_of S xs ≡ true → Outside S xs → ⊥
some_true S xs e o = true≢false (sym e ∙ some_out S xs o)

pub mark : (S : Restriction) (xs : L) → NonEmpty xs → Mark S xs (class S xs)
mark S xs h = go (some_of S xs) refl (some_of (complement S) xs) refl
  where
    go : (a : Bool) → some_of S xs ≡ a → (b : Bool) → some_of (complement S) xs ≡ b → Mark S xs (class_by a b)
    go false p b q = let o = some_false S xs p in (o, not_both S xs h o)
    go true p false q = (uncomplement_out S xs (some_false (complement S) xs q), some_true S xs p)
    go true p true q = (some_true S xs p, (λ i. some_true (complement S) xs q (complement_in S xs i)))

-- All of one class.
abbrev pub Of : Class → List Part → Type 0
Of c ps = All (λ p. p.sort ≡ c) ps

every_of : (c : Class) (ps : List Part) → every c ps ≡ true → Of c ps
every_of c [] e = tt
every_of c (p ∷ ps) e = go (is c p.sort) refl e (every_of c ps)
  where
    go : (b : Bool) → is c p.sort ≡ b → cond b (every c ps) false ≡ true → (every c ps ≡ true → Of c ps) → (p.sort ≡ c) × Of c ps
    go true q e h = (is_eq c p.sort q, h e)
    go false q e h = absurd (true≢false (sym e))

pub of_every : (c : Class) (ps : List Part) → Of c ps → every c ps ≡ true
of_every c [] h = refl
of_every c (p ∷ ps) h = ap (λ b. cond b (every c ps) false) (ap (is c) h.0 ∙ is_refl c) ∙ of_every c ps h.1

-- One item.
abbrev pub Single-item : Option Forest → Type 0
Single-item none = Unit {0}
Single-item (some f) = (t : Item) × (f ≡ one t)

pub leaf_pure : (S : Restriction) (b : ℕ) → Mark S (b ∷ []) partial → ⊥
leaf_pure S b m = go (S b) refl
  where
    go : (d : Bool) → S b ≡ d → ⊥
    go true q = m.1 (q, tt)
    go false q = m.0 (q, tt)

-- The class of items that are all full (true), or all empty.
abbrev pub pure : Bool → Class
pure true = full
pure false = empty

module _ (S : Restriction) where
  pub record Fit (p : Part) : Type 0 where
    pub marked : Mark S (leaves_of p.item) p.sort
    pub linear_ok : (xs : L) → Gives p.linear xs ↔ (Consistent (one p.item) xs × Late S xs)
    pub reduced_ok : (xs : L) → Gives p.reduced xs ↔ (Consistent (one p.item) xs × Contiguous S xs)
    pub single : Single-item p.reduced

  -- An order has the leaves.
  pub to_order : (Q : ℕ → Type 0) (t : Item) {ys : L} → Consistent (one t) ys → All Q (leaves_of t) → All Q ys
  to_order Q t {ys} s h = perm_all Q (item_perm t ys s) h

  pub of_order : (Q : ℕ → Type 0) (t : Item) {ys : L} → Consistent (one t) ys → All Q ys → All Q (leaves_of t)
  of_order Q t {ys} s h = perm_all Q (perm_sym (item_perm t ys s)) h

  -- Parts that are all full, or all empty.
  pure_yes : (b : Bool) (xs : L) → Mark S xs (pure b) → Pure S b xs
  pure_yes true xs m = m.0
  pure_yes false xs m = m.0

  pub pure_is : (b : Bool) (d : Class) (xs : L) → Mark S xs d → Pure S b xs → d ≡ pure b
  pure_is true empty xs m h = absurd (m.1 h)
  pure_is true full xs m h = refl
  pure_is true partial xs m h = absurd (m.1 h)
  pure_is false empty xs m h = refl
  pure_is false full xs m h = absurd (m.1 h)
  pure_is false partial xs m h = absurd (m.0 h)

  pub of_pure : (b : Bool) (ps : List Part) → All Fit ps → Of (pure b) ps → (xs : L) → Consistent (whole ps) xs → Pure S b xs
  of_pure b [] f h xs s = subst (Pure S b) (sym (nil_order s)) tt
  of_pure b (p ∷ ps) f h xs s =
      let r = (consistent_cons p.item (whole ps) xs).0 s in
      let m : Mark S (leaves_of p.item) (pure b) = subst (Mark S (leaves_of p.item)) h.0 f.0.marked in
      subst (Pure S b) (sym r.2) (all_append _ r.0 r.1 (to_order _ p.item r.3 (pure_yes b (leaves_of p.item) m)) (of_pure b ps f.1 h.1 r.1 r.4))

  pub pure_of : (b : Bool) (ps : List Part) → All Fit ps → (xs : L) → Consistent (whole ps) xs → Pure S b xs → Of (pure b) ps
  pure_of b [] f xs s i = tt
  pure_of b (p ∷ ps) f xs s i =
      let r = (consistent_cons p.item (whole ps) xs).0 s in
      let j : Pure S b (r.0 ++ r.1) = subst (Pure S b) r.2 i in
      (pure_is b p.sort (leaves_of p.item) f.0.marked (of_order _ p.item r.3 (all_left _ r.0 r.1 j)), pure_of b ps f.1 r.1 r.4 (all_right _ r.0 r.1 j))

  every_yes : (b : Bool) (ps : List Part) → All Fit ps → every (pure b) ps ≡ true → (xs : L) → Consistent (whole ps) xs → Pure S b xs
  every_yes b ps f e = of_pure b ps f (every_of (pure b) ps e)

  every_no : (b : Bool) (ps : List Part) → All Fit ps → every (pure b) ps ≡ false → (xs : L) → Consistent (whole ps) xs → Pure S b xs → ⊥
  every_no b ps f e xs s i = true≢false (sym (of_every (pure b) ps (pure_of b ps f xs s i)) ∙ e)

  gives_full : (ps : List Part) → All Fit ps → (xs : L) → Gives (cond (every full ps) (some (whole ps)) none) xs ↔ (Consistent (whole ps) xs × Inside S xs)
  gives_full ps f xs = go (every full ps) refl
    where
      go : (b : Bool) → every full ps ≡ b → Gives (cond b (some (whole ps)) none) xs ↔ (Consistent (whole ps) xs × Inside S xs)
      go true q = ((λ s. (s, every_yes true ps f q xs s)), (λ r. r.0))
      go false q = ((λ s. absurd s), (λ r. every_no true ps f q xs r.0 r.1))

  pub up_ok : (ps : List Part) → All Fit ps → (xs : L) → Gives (up ps) xs ↔ (Consistent (whole ps) xs × Late S xs)
  up_ok [] f xs = ((λ s. (s, subst (Late S) (sym (nil_order s)) (sided_first S false true [] tt))), (λ r. r.0))
  up_ok (p ∷ ps) f xs = go p.sort f.0.marked (up_ok ps f.1)
    where
      t : Item
      t = p.item

      past : (Outside S (leaves_of t) → ⊥) → Gives (p.linear ⊕ cond (every full ps) (some (whole ps)) none) xs ↔ (Consistent (put t (whole ps)) xs × Late S xs)
      past u =
          gives_put p.linear (cond (every full ps) (some (whole ps)) none) t (whole ps) (Late S) (Inside S) (Late S) f.0.linear_ok (gives_full ps f.1)
          (λ xs ys zs e o s. ((λ w. sided_after S false true ys zs e w.0 w.1), (λ h. sided_both S false true ys zs (λ n. u (of_order _ t o n)) (sided_cut S false true ys zs e h)))) xs

      go : (c : Class) → Mark S (leaves_of t) c → ((zs : L) → Gives (up ps) zs ↔ (Consistent (whole ps) zs × Late S zs)) → Gives (cond (is empty c) (some (one t) ⊕ up ps) (p.linear ⊕ cond (every full ps) (some (whole ps)) none)) xs ↔ (Consistent (put t (whole ps)) xs × Late S xs)
      go empty m h =
          gives_put (some (one t)) (up ps) t (whole ps) (Outside S) (Late S) (Late S) (same_iff (one t) (Outside S) (λ y o. to_order _ t o m.0)) h
          (λ xs ys zs e o s. ((λ w. sided_before S false true ys zs e w.0 w.1), (λ h. (to_order _ t o m.0, sided_tail S false true ys zs (sided_cut S false true ys zs e h))))) xs
      go full m h = past m.1
      go partial m h = past m.0

  pub fits_reverse : (ps : List Part) → All Fit ps → All Fit (reverse ps)
  fits_reverse ps f = perm_all Fit (perm_reverse ps) f

  down_ok : (ps : List Part) → All Fit ps → (xs : L) → Gives (down ps) xs ↔ (Consistent (whole ps) xs × Early S xs)
  down_ok ps f xs = Iff.trans (Iff.trans (gives_rev (up (reverse ps)) xs) (up_ok (reverse ps) (fits_reverse ps f) (reverse xs))) (
    (λ r. (subst (Consistent (whole ps)) (reverse-reverse xs) (consistent_unmirror (whole ps) (reverse xs) (subst (λ g. Consistent g (reverse xs)) (whole-reverse ps) r.0)), sided_unrev S true false xs r.1)),
    (λ r. (subst (λ g. Consistent g (reverse xs)) (sym (whole-reverse ps)) (consistent_mirror r.0), sided_rev S true false xs r.1)),
  )

  pub middle_ok : (ps : List Part) → All Fit ps → (xs : L) → Gives (middle ps) xs ↔ (Consistent (whole ps) xs × Contiguous S xs)
  middle_ok [] f xs = ((λ s. (s, subst (Contiguous S) (sym (nil_order s)) (out_con S [] tt))), (λ r. r.0))
  middle_ok (p ∷ ps) f xs = go p.sort f.0.marked (middle_ok ps f.1)
    where
      t : Item
      t = p.item

      past : (Outside S (leaves_of t) → ⊥) → (b : Bool) → every empty ps ≡ b → Gives (cond b (p.reduced ⊕ some (whole ps)) (p.linear ⊕ down ps)) xs ↔ (Consistent (put t (whole ps)) xs × Contiguous S xs)
      past u true q =
          gives_put p.reduced (some (whole ps)) t (whole ps) (Contiguous S) (Outside S) (Contiguous S) f.0.reduced_ok (same_iff (whole ps) (Outside S) (every_yes false ps f.1 q))
          (λ xs ys zs e o s. ((λ w. con_end S ys zs e w.0 w.1), (λ h. (con_front S ys zs (con_cut S ys zs e h), every_yes false ps f.1 q zs s)))) xs
      past u false q =
          gives_put p.linear (down ps) t (whole ps) (Late S) (Early S) (Contiguous S) f.0.linear_ok (down_ok ps f.1)
          (λ xs ys zs e o s. ((λ w. con_late S ys zs e w.0 w.1), (λ h. con_both S ys zs (λ n. u (of_order _ t o n)) (every_no false ps f.1 q zs s) (con_cut S ys zs e h)))) xs

      go : (c : Class) → Mark S (leaves_of t) c → ((zs : L) → Gives (middle ps) zs ↔ (Consistent (whole ps) zs × Contiguous S zs))
          → Gives (cond (is empty c) (some (one t) ⊕ middle ps) (cond (every empty ps) (p.reduced ⊕ some (whole ps)) (p.linear ⊕ down ps))) xs ↔ (Consistent (put t (whole ps)) xs × Contiguous S xs)
      go empty m h =
          gives_put (some (one t)) (middle ps) t (whole ps) (Outside S) (Contiguous S) (Contiguous S) (same_iff (one t) (Outside S) (λ y o. to_order _ t o m.0)) h
          (λ xs ys zs e o s. ((λ w. con_out S ys zs e w.0 w.1), (λ h. (to_order _ t o m.0, con_back S ys zs (con_cut S ys zs e h))))) xs
      go full m h = past m.1 (every empty ps) refl
      go partial m h = past m.0 (every empty ps) refl
