-- One item of a sequence: put in front, and its orders by itself.
use mathlib.Core.Path.{◌∙◌, ◌≡◌, ap, refl, subst, sym}
use mathlib.Core.Logic.{inl, inr}
use mathlib.Core.List.{List, [], ◌++◌, ◌∷◌, append-nil}
use Prim.Native.Nat.{ℕ}
use Rattle.spec_orders.specs.Lists.{In, Rearranged}
use Rattle.spec_orders.specs.Tree.{Kind, Forest, nil, leaf, node, Item, leaf_item, node_item, items, append, rev, frontier, Turn, Consistent, no_items, node_first}
use Rattle.spec_orders.specs.Form.{Every, Single}
use Rattle.spec_orders.specs.Reduce.{put, one}
use Rattle.spec_orders.proofs.Members.{NonEmpty, nonempty_left}
use Rattle.spec_orders.proofs.Laws.{forest_assoc, Every-of, leaves_of, consistent_perm, consistent_append, Split, consistent_split}
use Rattle.spec_orders.specs.TreeText.{Forked}
use Rattle.spec_orders.proofs.First.{two_nonempty}

pub put_one : (t : Item) (f : Forest) → append (one t) f ≡ put t f
put_one (leaf_item b) f = refl
put_one (node_item k i) f = refl

pub items-put : (t : Item) (f : Forest) → items (put t f) ≡ t ∷ items f
items-put (leaf_item b) f = refl
items-put (node_item k i) f = refl

pub one_single : (t : Item) → Single (items (one t))
one_single (leaf_item b) = tt
one_single (node_item k i) = tt

pub frontier-put : (t : Item) (f : Forest) → frontier (put t f) ≡ leaves_of t ++ frontier f
frontier-put (leaf_item b) f = refl
frontier-put (node_item k i) f = refl

pub frontier-one : (t : Item) → frontier (one t) ≡ leaves_of t
frontier-one t = frontier-put t nil ∙ append-nil (leaves_of t)

pub consistent_put : (t : Item) (f : Forest) (xs ys : List ℕ) → Consistent (one t) xs → Consistent f ys → Consistent (put t f) (xs ++ ys)
consistent_put t f xs ys s r = subst (λ g. Consistent g (xs ++ ys)) (put_one t f) (consistent_append s r)

pub consistent_unput : (t : Item) (f : Forest) (xs : List ℕ) → Consistent (put t f) xs → Split (one t) f xs
consistent_unput t f xs s = consistent_split (one t) f xs (subst (λ g. Consistent g xs) (sym (put_one t f)) s)

-- The orders of a node by itself.
pub node_in : {k : Kind} {i j : Forest} {xs : List ℕ} → Turn k i j → Consistent j xs → Consistent (node k i nil) xs
node_in {xs = xs} t s = node_first t s no_items (sym (append-nil xs))

pub record Turned (k : Kind) (i : Forest) (xs : List ℕ) : Type 0 where
  pub turned : Forest
  pub turn : Turn k i turned
  pub order : Consistent turned xs

pub node_out : {k : Kind} {i : Forest} {xs : List ℕ} → Consistent (node k i nil) xs → Turned k i xs
node_out (node_first {j = j} {ys = ys} t s no_items e) = record { turned = j; turn = t; order = subst (Consistent j) (sym (e ∙ append-nil ys)) s }

pub item_perm : (t : Item) (xs : List ℕ) → Consistent (one t) xs → Rearranged (leaves_of t) xs
item_perm t xs s = rw (frontier-one t) at (consistent_perm s)

pub forked_nonempty : (f : Forest) → Forked f → NonEmpty (items f) → NonEmpty (frontier f)
forked_nonempty nil c h = h
forked_nonempty (leaf b f) c h = tt
forked_nonempty (node k i f) c h = nonempty_left (frontier i) (frontier f) (forked_nonempty i c.0.1 (two_nonempty (items i) c.0.0))

-- An item among others.
pub append-put : (p : Forest) (t : Item) (f : Forest) → append (append p (one t)) f ≡ append p (put t f)
append-put p t f = forest_assoc p (one t) f ∙ ap (append p) (put_one t f)

pub record Place (t : Item) (j : Forest) : Type 0 where
  pub before : Forest
  pub after : Forest
  pub there : j ≡ append before (put t after)

pub in_place : (t : Item) (j : Forest) → In t (items j) → Place t j
in_place t nil h = absurd h
in_place t (leaf b f) (inl e) = record { before = nil; after = f; there = ap (λ u. put u f) (sym e) }
in_place t (leaf b f) (inr h) = let r = in_place t f h in record { before = leaf b r.before; after = r.after; there = ap (leaf b) r.there }
in_place t (node k i f) (inl e) = record { before = nil; after = f; there = ap (λ u. put u f) (sym e) }
in_place t (node k i f) (inr h) = let r = in_place t f h in record { before = node k i r.before; after = r.after; there = ap (node k i) r.there }

pub place_in : (p : Forest) (t : Item) (f : Forest) → In t (items (append p (put t f)))
place_in nil t f = subst (In t) (sym (items-put t f)) (inl refl)
place_in (leaf b p) t f = inr (place_in p t f)
place_in (node k i p) t f = inr (place_in p t f)

module _ (Q : Kind → Forest → Type 0) where
  pub every-put : (t : Item) (f : Forest) → Every Q (put t f) → Every-of Q t × Every Q f
  every-put (leaf_item b) f c = (tt, c)
  every-put (node_item k i) f c = c

  pub every_one : (t : Item) → Every-of Q t → Every Q (one t)
  every_one (leaf_item b) c = tt
  every_one (node_item k i) c = (c, tt)

pub rev-put : (t : Item) (f : Forest) → rev (put t f) ≡ append (rev f) (one t)
rev-put (leaf_item b) f = refl
rev-put (node_item k i) f = refl

-- A list of items as a sequence.
abbrev pub forest : List Item → Forest
forest [] = nil
forest (t ∷ ts) = put t (forest ts)

pub forest_items : (f : Forest) → forest (items f) ≡ f
forest_items nil = refl
forest_items (leaf b f) = ap (leaf b) (forest_items f)
forest_items (node k i f) = ap (node k i) (forest_items f)

pub items_forest : (ts : List Item) → items (forest ts) ≡ ts
items_forest [] = refl
items_forest (t ∷ ts) = items-put t (forest ts) ∙ ap (λ l. t ∷ l) (items_forest ts)
