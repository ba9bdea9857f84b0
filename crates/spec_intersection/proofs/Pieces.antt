-- One item of a sequence: its leaves, and where its order stands in an order of the whole.
use mathlib.Core.Path.{◌∙◌, ◌≡◌, ap, refl, subst, sym}
use mathlib.Core.Logic.{◌↔◌, ◌≢◌, inl, inr}
use mathlib.Core.List.{List, [], ◌++◌, ◌∷◌, tail-eq_of_cons-eq}
use Prim.Native.Nat.{ℕ}
use native.Mathlib.Omega.{arith}
use Rattle.spec_orders.specs.Lists.{All, Distinct, In}
use Rattle.spec_orders.specs.Tree.{Kind, Forest, nil, leaf, node, Item, leaf_item, node_item, items, frontier, Consistent, Allowed}
use Rattle.spec_orders.specs.Form.{Canonical}
use Rattle.spec_orders.specs.TreeText.{TwoItems, Forked}
use Rattle.spec_orders.specs.Reduce.{put, one}
use Rattle.spec_orders.proofs.Members.{NonEmpty, in_left, in_right, in_all, perm_in, distinct_right, apart}
use Rattle.spec_orders.proofs.Laws.{turn_perm, leaves_of, flat, Canonical-of, enough_two, canonical_forked, consistent_split}
use Rattle.spec_orders.proofs.First.{two_nonempty}
use Rattle.spec_orders.proofs.Parts.{in_place, items-put, consistent_unput, node_out, forked_nonempty}
use Rattle.spec_intersection.proofs.Lists.{overlap}

-- The same orders on the line.
abbrev pub Alike : Forest → Forest → Type 0
Alike f g = (xs : List ℕ) → Consistent f xs ↔ Consistent g xs

pub consistent_allowed : (t : Forest) (xs : List ℕ) → Consistent t xs ↔ Allowed t (1 ∷ xs)
consistent_allowed t xs = ((λ s. record { after = xs; one_first = refl; order = s }), (λ a. subst (Consistent t) (sym (tail-eq_of_cons-eq a.one_first)) a.order))

-- The first item.
pub record Cons (f : Forest) : Type 0 where
  pub head : Item
  pub tail : Forest
  pub is : f ≡ put head tail

pub uncons : (f : Forest) → NonEmpty (items f) → Cons f
uncons nil h = absurd h
uncons (leaf b f) h = record { head = leaf_item b; tail = f; is = refl }
uncons (node k i f) h = record { head = node_item k i; tail = f; is = refl }

pub put_two : (t : Item) (g : Forest) → TwoItems (items (put t g)) → NonEmpty (items g)
put_two t g h = go (items g) (subst TwoItems (items-put t g) h)
  where
    go : (ts : List Item) → TwoItems (t ∷ ts) → NonEmpty ts
    go [] h = omega arith
    go (u ∷ ts) h = tt

-- Each item has leaves.
abbrev pub Fair : Item → Type 0
Fair t = NonEmpty (leaves_of t)

pub forked_fair : (f : Forest) → Forked f → All Fair (items f)
forked_fair nil c = tt
forked_fair (leaf b f) c = (tt, forked_fair f c)
forked_fair (node k i f) c = (forked_nonempty i c.0.1 (two_nonempty (items i) c.0.0), forked_fair f c.1)

pub frontier_nonempty : (f : Forest) → Canonical f → NonEmpty (items f) → NonEmpty (frontier f)
frontier_nonempty f c = forked_nonempty f (canonical_forked f c)

pub item_nonempty : (t : Item) → Canonical-of t → Fair t
item_nonempty (leaf_item b) c = tt
item_nonempty (node_item k i) c = frontier_nonempty i c.1 (two_nonempty (items i) (enough_two k i c.0.0))

-- Items that share no leaf are different.
pub in_flat : (t : Item) (ts : List Item) (x : ℕ) → In t ts → In x (leaves_of t) → In x (flat ts)
in_flat t [] x h i = absurd h
in_flat t (u ∷ ts) x (inl e) i = in_left x (leaves_of u) (flat ts) (subst (λ v. In x (leaves_of v)) e i)
in_flat t (u ∷ ts) x (inr h) i = in_right x (leaves_of u) (flat ts) (in_flat t ts x h i)

pub items_distinct : (ts : List Item) → All Fair ts → Distinct (flat ts) → Distinct ts
items_distinct [] f d = tt
items_distinct (t ∷ ts) f d = (
  in_all (λ u. t ≢ u) ts (λ u i e. let m = overlap (leaves_of t) [] (leaves_of u) [] (ap (λ v. leaves_of v ++ []) e) f.0 (subst Fair e f.0) in apart m.elt (leaves_of t) (flat ts) d m.in_a (in_flat u ts m.elt i m.in_b)),
  items_distinct ts f.1 (distinct_right (leaves_of t) (flat ts) d),
)

-- Its order in an order of the whole.
pub record Block (t : Item) (xs : List ℕ) : Type 0 where
  pub left : List ℕ
  pub block : List ℕ
  pub right : List ℕ
  pub parts : xs ≡ left ++ (block ++ right)
  pub order : Consistent (one t) block

pub item_block : (t : Item) (j : Forest) (xs : List ℕ) → In t (items j) → Consistent j xs → Block t xs
item_block t j xs h s =
    let pl = in_place t j h in
    let a = consistent_split pl.before (put t pl.after) xs (subst (λ g. Consistent g xs) pl.there s) in
    let b = consistent_unput t pl.after a.back a.of_back in
    record { left = a.front; block = b.front; right = b.back; parts = a.whole ∙ ap (λ l. a.front ++ l) b.whole; order = b.of_front }

pub node_block : (k : Kind) (i : Forest) (t : Item) (xs : List ℕ) → In t (items i) → Consistent (node k i nil) xs → Block t xs
node_block k i t xs h s =
    let r = node_out s in
    item_block t r.turned xs (perm_in t (turn_perm k i r.turned r.turn) h) r.order
