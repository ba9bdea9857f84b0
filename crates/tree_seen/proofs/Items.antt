-- The items of a sequence by their tokens: the first one, the one that holds an index, and the one that holds a leaf.
use mathlib.Core.Path.{◌≡◌, refl, sym, ap, subst, ◌∙◌}
use mathlib.Core.Logic.{◌⊎◌, inl, inr}
use mathlib.Core.List.{List, ◌++◌, append_assoc}
use Prim.Native.Nat.{ℕ, ◌+◌, ◌-◌, ◌≤◌, ◌<◌}
use native.Mathlib.Omega.{arith}
use lib.ListN.{length, take, drop, length-append}
use lib.Seq.{drop_at}
use Rattle.spec_orders.specs.Lists.{In}
use Rattle.spec_orders.specs.Tree.{Forest, nil, leaf, node, Item, leaf_item, node_item, append, frontier}
use Rattle.spec_orders.specs.Reduce.{put, one}
use Rattle.spec_orders.proofs.ListLaws.{part_to_end}
use Rattle.spec_orders.proofs.Laws.{leaves_of}
use Rattle.spec_orders.proofs.Parts.{append-put, frontier-one}
use Rattle.tree_tokens.specs.Tokens.{plain, encode, flat}
use Rattle.tree_tokens.specs.Views.{first_of, rest_of}
use Rattle.tree_pieces.proofs.Laws.{flat_nil, flat_append, flat-put}
use Rattle.tree_seen.specs.Seen.{index_of, ItemAt, Held}
use Rattle.tree_seen.proofs.Index.{less_or_not, index_in, index_out, index_leaf, leaf_index}

-- The first item, and the items after it.
pub record Begins (f : Forest) : Type 0 where
  pub item : Item
  pub others : Forest
  pub is : f ≡ put item others
  pub head : encode (first_of (plain f)) ≡ flat (one item)
  pub tail : encode (rest_of (plain f)) ≡ flat others

pub begins : (f : Forest) {l : List ℕ} → l ≡ flat f → 0 < length l → Begins f
unfolding encode first_of rest_of
begins nil e h = absurd (omega (arith, ap length e))
begins (leaf b f) e h = record { item = leaf_item b; others = f; is = refl; head = refl; tail = refl }
begins (node k i f) e h = record { item = node_item k i; others = f; is = refl; head = refl; tail = refl }

pub put-begins : (y : Item) (g : Forest) → (encode (first_of (plain (put y g))) ≡ flat (one y)) × (encode (rest_of (plain (put y g))) ≡ flat g)
unfolding encode first_of rest_of
put-begins (leaf_item b) g = (refl, refl)
put-begins (node_item k i) g = (refl, refl)

-- The tokens of three parts of a sequence.
pub three : (a : Forest) (y : Item) (b : Forest) → flat (append a (put y b)) ≡ flat a ++ (flat (one y) ++ flat b)
three a y b = flat_append a (put y b) ∙ ap (λ (l : List ℕ). flat a ++ l) (flat-put y b)

pub three_long : (a : Forest) (y : Item) (b : Forest) → length (flat (append a (put y b))) ≡ length (flat a) + (length (flat (one y)) + length (flat b))
three_long a y b = ap length (three a y b) ∙ length-append (flat a) (flat (one y) ++ flat b) ∙ omega (arith, length-append (flat (one y)) (flat b))

pub one_some : (y : Item) → 0 < length (flat (one y))
unfolding encode
one_some (leaf_item b) = omega arith
one_some (node_item k i) = omega arith

-- The first item; the one after an item, of which m is the size.
pub item_first : (f : Forest) {l : List ℕ} {m : ℕ} → l ≡ flat f → 0 < length l → m ≡ length (encode (first_of (plain f))) → ItemAt f 0 m
item_first f e h n =
    let b = begins f e h in
    record { left = nil; item = b.item; right = b.others; is = b.is; start = sym (ap length flat_nil); stop = omega (arith, n, ap length b.head) }

pub item_rest : {f : Forest} {i e : ℕ} {l : List ℕ} (a : ItemAt f i e) → l ≡ flat f → take (length l - e) (drop e l) ≡ flat a.right
item_rest {f} {i} {e} {l} a q =
    part_to_end l e
    ∙ ap (drop e) (q ∙ ap flat a.is ∙ three a.left a.item a.right ∙ sym (append_assoc (flat a.left) (flat (one a.item)) (flat a.right)))
    ∙ drop_at (flat a.left ++ flat (one a.item)) (flat a.right) e (omega (arith, length-append (flat a.left) (flat (one a.item)), a.start, a.stop))

pub item_next : {f : Forest} {i e m : ℕ} {l : List ℕ} (a : ItemAt f i e) → l ≡ flat f → e < length l → m ≡ length (encode (first_of (plain a.right))) → ItemAt f e (e + m)
item_next {f} {i} {e} {m} {l} a q h n = record {
  left = append a.left (one a.item);
  item = b.item;
  right = b.others;
  is = a.is ∙ sym (append-put a.left a.item a.right) ∙ ap (append (append a.left (one a.item))) b.is;
  start = omega (arith, ap length (flat_append a.left (one a.item)), length-append (flat a.left) (flat (one a.item)), a.start, a.stop);
  stop = ap (λ (k : ℕ). e + k) (n ∙ ap length b.head);
}
  where
    b : Begins a.right
    b = begins a.right refl (omega (arith, h, ap length q, ap (λ (g : Forest). length (flat g)) a.is, three_long a.left a.item a.right, a.start, a.stop))

-- The item that holds the index of the leaf r holds the leaf, and none before it does.
module _ (r : ℕ) where
  pub record Found (f : Forest) (p e : ℕ) (h : Held f p e) : Type 0 where
    pub not_before : In r (frontier h.at.left) → ⊥
    pub in_item : In r (leaves_of h.at.item)
    pub there : p - e ≡ index_of r (flat (one h.at.item))

  pub found : (f : Forest) (p e : ℕ) (h : Held f p e) → p ≡ index_of r (flat f) → Found f p e h
  found f p e h q = record {
    not_before = not_left;
    in_item = subst (In r) (frontier-one h.at.item) (leaf_index r (one h.at.item) (omega (arith, in_mid, h.inside, h.reached, h.at.stop)));
    there = in_mid;
  }
    where
      a : List ℕ
      a = flat h.at.left

      x : List ℕ
      x = flat (one h.at.item)

      b : List ℕ
      b = flat h.at.right

      whole : p ≡ index_of r (a ++ (x ++ b))
      whole = q ∙ ap (index_of r) (ap flat h.at.is ∙ three h.at.left h.at.item h.at.right)

      past : length a ≤ index_of r a
      past = go (less_or_not (index_of r a) (length a))
        where
          go : (index_of r a < length a) ⊎ (length a ≤ index_of r a) → length a ≤ index_of r a
          go (inl e) = absurd (omega (arith, index_in r a (x ++ b) e, whole, h.reached, h.at.start))
          go (inr e) = e

      not_left : In r (frontier h.at.left) → ⊥
      not_left i = omega (arith, index_leaf r h.at.left i, past)

      in_mid : p - e ≡ index_of r x
      in_mid = go (less_or_not (index_of r x) (length x))
        where
          go : (index_of r x < length x) ⊎ (length x ≤ index_of r x) → p - e ≡ index_of r x
          go (inl d) = omega (arith, whole, index_out r a (x ++ b) past, index_in r x b d, h.at.start)
          go (inr d) = absurd (omega (arith, whole, index_out r a (x ++ b) past, index_out r x b d, h.at.start, h.at.stop, h.inside))
