-- What holds of every sequence of items: append and rev, its items as a list, its leaves, and what holds of every node.
use mathlib.Core.Path.{◌∙◌, ◌≡◌, ap, refl, subst, sym}
use mathlib.Core.Logic.{inl, inr}
use mathlib.Core.List.{List, [], ◌++◌, ◌∷◌, append_assoc, reverse, reverse-cons}
use Prim.Native.Nat.{ℕ}
use native.Mathlib.Omega.{arith}
use Rattle.spec_orders.specs.Lists.{All, Pick, here, there, Rearranged, done, next}
use Rattle.spec_orders.specs.Tree.{Kind, P, C, Forest, nil, leaf, node, Item, leaf_item, node_item, items, append, rev, frontier, Turn, Consistent, no_items, leaf_first, node_first}
use Rattle.spec_orders.specs.Form.{Sorted, Every, Enough, Canonical}
use Rattle.spec_orders.specs.TreeText.{TwoItems, Forked}
use Rattle.spec_orders.proofs.ListLaws.{all_append}
use Rattle.spec_orders.proofs.Rearranged.{perm_refl, perm_trans, perm_all, perm_left, perm_append, perm_swap}

pub forest_assoc : (f g h : Forest) → append (append f g) h ≡ append f (append g h)
forest_assoc nil g h = refl
forest_assoc (leaf b f) g h = ap (leaf b) (forest_assoc f g h)
forest_assoc (node k i f) g h = ap (node k i) (forest_assoc f g h)

pub forest_nil : (f : Forest) → append f nil ≡ f
forest_nil nil = refl
forest_nil (leaf b f) = ap (leaf b) (forest_nil f)
forest_nil (node k i f) = ap (node k i) (forest_nil f)

pub rev-append : (f g : Forest) → rev (append f g) ≡ append (rev g) (rev f)
rev-append nil g = sym (forest_nil (rev g))
rev-append (leaf b f) g = ap (λ h. append h (leaf b nil)) (rev-append f g) ∙ forest_assoc (rev g) (rev f) (leaf b nil)
rev-append (node k i f) g = ap (λ h. append h (node k i nil)) (rev-append f g) ∙ forest_assoc (rev g) (rev f) (node k i nil)

pub rev-rev : (f : Forest) → rev (rev f) ≡ f
rev-rev nil = refl
rev-rev (leaf b f) = rev-append (rev f) (leaf b nil) ∙ ap (leaf b) (rev-rev f)
rev-rev (node k i f) = rev-append (rev f) (node k i nil) ∙ ap (node k i) (rev-rev f)

pub items-append : (f g : Forest) → items (append f g) ≡ items f ++ items g
items-append nil g = refl
items-append (leaf b f) g = ap (λ l. leaf_item b ∷ l) (items-append f g)
items-append (node k i f) g = ap (λ l. node_item k i ∷ l) (items-append f g)

pub frontier-append : (f g : Forest) → frontier (append f g) ≡ frontier f ++ frontier g
frontier-append nil g = refl
frontier-append (leaf b f) g = ap (λ l. b ∷ l) (frontier-append f g)
frontier-append (node k i f) g = ap (λ l. frontier i ++ l) (frontier-append f g) ∙ sym (append_assoc (frontier i) (frontier f) (frontier g))

pub append_swap : (f g : Forest) → Rearranged (items (append f g)) (items (append g f))
append_swap f g = rw (items-append f g, items-append g f) (perm_swap (items f) (items g))

pub rev_perm : (f : Forest) → Rearranged (items f) (items (rev f))
rev_perm nil = done
rev_perm (leaf b f) = perm_trans (next here (rev_perm f)) (append_swap (leaf b nil) (rev f))
rev_perm (node k i f) = perm_trans (next here (rev_perm f)) (append_swap (node k i nil) (rev f))

-- Round a node the same items stand.
pub turn_perm : (k : Kind) (i j : Forest) → Turn k i j → Rearranged (items i) (items j)
turn_perm P i j t = t
turn_perm C i j (inl e) = subst (λ h. Rearranged (items i) (items h)) (sym e) (perm_refl (items i))
turn_perm C i j (inr e) = subst (λ h. Rearranged (items i) (items h)) (sym e) (rev_perm i)

pub turn_refl : (k : Kind) (i : Forest) → Turn k i i
turn_refl P i = perm_refl (items i)
turn_refl C i = inl refl

-- The leaves, item by item.
abbrev pub leaves_of : Item → List ℕ
leaves_of (leaf_item b) = b ∷ []
leaves_of (node_item k i) = frontier i

abbrev pub flat : List Item → List ℕ
flat [] = []
flat (t ∷ ts) = leaves_of t ++ flat ts

pub frontier-flat : (f : Forest) → frontier f ≡ flat (items f)
frontier-flat nil = refl
frontier-flat (leaf b f) = ap (λ l. b ∷ l) (frontier-flat f)
frontier-flat (node k i f) = ap (λ l. frontier i ++ l) (frontier-flat f)

pick_flat : {t : Item} {f g : List Item} → Pick t f g → Rearranged (flat f) (leaves_of t ++ flat g)
pick_flat (here {x = t} {l = f}) = perm_refl (leaves_of t ++ flat f)
pick_flat (there {x = t} {y = u} {l = f} {m = g} k) =
    let p = perm_left (leaves_of u) (pick_flat k) in
    let q : Rearranged (leaves_of u ++ leaves_of t ++ flat g) (leaves_of t ++ leaves_of u ++ flat g) = perm_append (perm_swap (leaves_of u) (leaves_of t)) (perm_refl (flat g)) in
    perm_trans p (rw (← append_assoc (leaves_of u) (leaves_of t) (flat g), ← append_assoc (leaves_of t) (leaves_of u) (flat g)) q)

pub perm_flat : {f g : List Item} → Rearranged f g → Rearranged (flat f) (flat g)
perm_flat done = done
perm_flat (next {x = t} k p) = perm_trans (pick_flat k) (perm_left (leaves_of t) (perm_flat p))

pub perm_frontier : (i j : Forest) → Rearranged (items i) (items j) → Rearranged (frontier i) (frontier j)
perm_frontier i j p = rw (frontier-flat i, frontier-flat j) (perm_flat p)

-- An order of a sequence is a rearrangement of its leaves.
pub consistent_perm : {f : Forest} {xs : List ℕ} → Consistent f xs → Rearranged (frontier f) xs
consistent_perm no_items = done
consistent_perm (leaf_first s) = next here (consistent_perm s)
consistent_perm (node_first {k = k} {i = i} {j = j} {f = f} {ys = ys} {zs = zs} t s r e) =
    subst (Rearranged (frontier i ++ frontier f)) (sym e) (perm_append (perm_trans (perm_frontier i j (turn_perm k i j t)) (consistent_perm s)) (consistent_perm r))

-- What holds of every node, item by item.
module _ (Q : Kind → Forest → Type 0) where
  abbrev pub Every-of : Item → Type 0
  Every-of (leaf_item b) = Unit {0}
  Every-of (node_item k i) = Q k i × Every Q i

  pub every_all : (f : Forest) → Every Q f → All Every-of (items f)
  every_all nil c = tt
  every_all (leaf b f) c = (tt, every_all f c)
  every_all (node k i f) c = (c.0, every_all f c.1)

  pub all_every : (f : Forest) → All Every-of (items f) → Every Q f
  all_every nil c = tt
  all_every (leaf b f) c = all_every f c.1
  all_every (node k i f) c = (c.0, all_every f c.1)

  pub every_perm : (i j : Forest) → Rearranged (items i) (items j) → Every Q i → Every Q j
  every_perm i j p c = all_every j (perm_all Every-of p (every_all i c))

  pub every_append : (f g : Forest) → Every Q f → Every Q g → Every Q (append f g)
  every_append f g c d = all_every (append f g) (subst (All Every-of) (sym (items-append f g)) (all_append Every-of (items f) (items g) (every_all f c) (every_all g d)))

pub every_map : (Q R : Kind → Forest → Type 0) → ((k : Kind) (i : Forest) → Q k i → R k i) → (f : Forest) → Every Q f → Every R f
every_map Q R h nil c = tt
every_map Q R h (leaf b f) c = every_map Q R h f c
every_map Q R h (node k i f) c = ((h k i c.0.0, every_map Q R h i c.0.1), every_map Q R h f c.1)

-- What `Forked` and `Canonical` ask of each node.
abbrev pub Fork : Kind → Forest → Type 0
Fork k i = TwoItems (items i)

abbrev pub Node-canonical : Kind → Forest → Type 0
Node-canonical k i = Enough k i × Sorted k i

-- As many items as the kind asks are two or more.
pub enough_two : (k : Kind) (i : Forest) → Enough k i → TwoItems (items i)
enough_two P i h = h
enough_two C i h = omega arith

pub canonical_forked : (f : Forest) → Canonical f → Forked f
canonical_forked = every_map Node-canonical Fork (λ k i q. enough_two k i q.0)

abbrev pub Canonical-of : Item → Type 0
Canonical-of = Every-of Node-canonical

pub canonical_perm : (i j : Forest) → Rearranged (items i) (items j) → Canonical i → Canonical j
canonical_perm = every_perm Node-canonical

pub items-rev : (f : Forest) → items (rev f) ≡ reverse (items f)
items-rev nil = refl
items-rev (leaf b f) = items-append (rev f) (leaf b nil) ∙ ap (λ l. l ++ (leaf_item b ∷ [])) (items-rev f) ∙ sym (reverse-cons (leaf_item b) (items f))
items-rev (node k i f) = items-append (rev f) (node k i nil) ∙ ap (λ l. l ++ (node_item k i ∷ [])) (items-rev f) ∙ sym (reverse-cons (node_item k i) (items f))

-- One sequence after another.
pub consistent_append : {f g : Forest} {xs ys : List ℕ} → Consistent f xs → Consistent g ys → Consistent (append f g) (xs ++ ys)
consistent_append no_items q = q
consistent_append (leaf_first s) q = leaf_first (consistent_append s q)
consistent_append {ys = ws} (node_first {ys = ys} {zs = zs} t s r e) q = node_first t s (consistent_append r q) (ap (λ l. l ++ ws) e ∙ append_assoc ys zs ws)

pub record Split (f g : Forest) (xs : List ℕ) : Type 0 where
  pub front : List ℕ
  pub back : List ℕ
  pub of_front : Consistent f front
  pub of_back : Consistent g back
  pub whole : xs ≡ front ++ back

pub consistent_split : (f g : Forest) (xs : List ℕ) → Consistent (append f g) xs → Split f g xs
consistent_split nil g xs s = record { front = []; back = xs; of_front = no_items; of_back = s; whole = refl }
consistent_split (leaf b f) g xs (leaf_first {xs = ys} s) =
    let r = consistent_split f g ys s in
    record { front = b ∷ r.front; back = r.back; of_front = leaf_first r.of_front; of_back = r.of_back; whole = ap (λ l. b ∷ l) r.whole }
consistent_split (node k i f) g xs (node_first {ys = ys} {zs = zs} t s q e) =
    let r = consistent_split f g zs q in
    record {
      front = ys ++ r.front;
      back = r.back;
      of_front = node_first t s r.of_front refl;
      of_back = r.of_back;
      whole = e ∙ ap (λ l. ys ++ l) r.whole ∙ sym (append_assoc ys r.front r.back);
    }
