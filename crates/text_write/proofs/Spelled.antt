-- The text of a sequence, written item by item.
use mathlib.Core.Option.{some}
use mathlib.Core.Path.{◌≡◌, refl, sym, ap, ◌∙◌}
use mathlib.Core.List.{List, ◌++◌}
use Prim.Native.Nat.{ℕ, ◌+◌, ◌-◌, ◌/◌, ◌%◌, ◌≤◌, ◌<◌}
use native.Mathlib.Omega.{arith}
use borrow.Rule.Slice.PartMut.{put_mid}
use lib.ListN.{length, take, drop, get_or, length-append}
use Rattle.spec_orders.specs.Tree.{P, C}
use Rattle.spec_orders.specs.TreeText.{text}
use Rattle.spec_orders.proofs.ListLaws.{part_to_end}
use Rattle.tree_tokens.specs.Tokens.{Judged, j_nil, j_leaf, j_node, tree, encode, Tokens, Wrote}
use Rattle.tree_tokens.specs.declared.ItemShape.{ItemShape}
use Rattle.tree_tokens.specs.declared.ItemShape.TheVariants.{Leaf}
use Rattle.tree_tokens.specs.Views.{shape_of, first_of, items_of, rest_of}
use Rattle.tree_tokens.proofs.Laws.{node_odd}
use Rattle.tree_tokens.proofs.Steps.{Left, Here, here, next_item}
use Rattle.tree_tokens.proofs.Writes.{Written, written_length, written_same, written_then}
use Rattle.tree_frontier.specs.Room.{Room}
use Rattle.text_write.specs.Around.{opening, closing}
use Rattle.text_write.proofs.Laws.{wrote_length, text_split}

-- What is left where an item starts: all of it; behind its opening; behind its own items.
abbrev pub whole : Judged → List ℕ
whole h = text (tree h)

abbrev pub behind : Judged → List ℕ
behind h = closing (tree h) ++ text (tree (rest_of h))

abbrev pub inside : Judged → List ℕ
inside h = text (tree (items_of h)) ++ behind h

-- Of the text of j, k bytes were written to the start of old, which made it new; of that of h, the part F is left.
abbrev pub Spelled : (Judged → List ℕ) → List ℕ → List ℕ → ℕ → Judged → Judged → Type 0
Spelled F old new k j h = Written (text (tree j)) (F h) old new k

-- Something written, at the same index.
pub same_place : {l : List ℕ} {i : ℕ} {Q R : Judged → Judged → Type 0} → Left l i Q → i < length l → ((j h : Judged) → Here l i h → Q j h → R j h) → Left l i R
same_place {l} {i} left n go = record {
  at = λ j e.
      let q = here left n j e in
      (q.0, sym (part_to_end l i) ∙ q.1.part, go j q.0 q.1 q.2);
}

-- A leaf has no items; its token is even, a node's is odd.
leaf_inside : (h : Judged) → some Leaf ≡ shape_of h → inside h ≡ behind h
unfolding items_of shape_of
leaf_inside j_nil e = refl
leaf_inside (j_leaf s b h) e = refl
leaf_inside (j_node s P i h) e = cc
leaf_inside (j_node s C i h) e = cc

node_token_odd : (h : Judged) (v : ItemShape) → (v ≡ Leaf → ⊥) → some v ≡ shape_of h → get_or (encode h) 0 0 / 8 % 2 ≡ 0 → ⊥
unfolding encode shape_of
node_token_odd j_nil v n e z = cc
node_token_odd (j_leaf s b h) v n e z = n (cc)
node_token_odd (j_node s k i h) v n e z = omega (arith, node_odd s k (length (encode i)))

-- There is room for what is left.
module _ (F : Judged → List ℕ) {toks : List ℕ} {i k : ℕ} {old new : List ℕ} (p : Room text toks (length old)) (left : Left toks i (Spelled F old new k)) (l : i < length toks) where
  pub next : (h : Judged) × Here toks i h × Spelled F old new k p.0 h
  next = here left l p.0 p.1

  spelled-length : length new ≡ length old
  spelled-length = wrote_length next.2.wrote (omega (arith, p.2, written_length next.2, next.2.wrote.many))

  pub spelled-room : (length new ≡ length old) × (k + length (F next.0) ≤ length new)
  spelled-room = (spelled-length, omega (arith, p.2, spelled-length, written_length next.2))

module _ {toks : List ℕ} {i k : ℕ} {old new : List ℕ} (p : Room text toks (length old)) where
  pub opening-room : Left toks i (Spelled whole old new k) → i < length toks → Room opening (take (length toks - i) (drop i toks)) (length new - k)
  opening-room left l =
      let q = next whole p left l in
      (q.0, q.1.part, omega (arith, (spelled-room whole p left l).1, ap length (text_split q.0), length-append (opening (tree q.0)) (inside q.0)))

  pub items-room : Left toks i (Spelled inside old new k) → i < length toks
      → {inner : List ℕ} → ((h : Judged) → take (length toks - i) (drop i toks) ≡ encode h → inner ≡ encode (items_of h)) → Room text inner (length new - k)
  items-room left l f =
      let q = next inside p left l in
      (items_of q.0, f q.0 q.1.part, omega (arith, (spelled-room inside p left l).1, length-append (text (tree (items_of q.0))) (behind q.0)))

  pub closing-room : Left toks i (Spelled behind old new k) → i < length toks → Room closing (take (length toks - i) (drop i toks)) (length new - k)
  closing-room left l =
      let q = next behind p left l in
      (q.0, q.1.part, omega (arith, (spelled-room behind p left l).1, length-append (closing (tree q.0)) (text (tree (rest_of q.0)))))

pub node_next : {toks : List ℕ} {i : ℕ} {Q : Judged → Judged → Type 0} (v : ItemShape) → Tokens toks → Left toks i Q → i < length toks → (v ≡ Leaf → ⊥)
    → ((h : Judged) → take (length toks - i) (drop i toks) ≡ encode h → some v ≡ shape_of h) → get_or toks i 0 / 8 % 2 ≡ 0 → ⊥
node_next v p left l n shaped z = let q = here left l p.0 p.1 in node_token_odd q.0 v n (shaped q.0 q.1.part) (rw (← q.1.head) at z)

-- What was written of an item: its opening; its items, or of a leaf none; what stands behind them.
module _ {toks : List ℕ} {i : ℕ} (l : i < length toks) {k : ℕ} {old new : List ℕ} where
  pub after_opening : {part : List ℕ} {m : ℕ} → Left toks i (Spelled whole old new k)
      → ((h : Judged) → take (length toks - i) (drop i toks) ≡ encode h → Wrote (opening (tree h)) (take (length new - k) (drop k new)) part m)
      → Left toks i (Spelled inside old (put_mid k (length new - k) new part) (k + m))
  after_opening left w = same_place left l (λ j h p g. written_then (inside h) (text_split h) (w h p.part) g)

  pub after_leaf : Left toks i (Spelled inside old new k) → ((h : Judged) → take (length toks - i) (drop i toks) ≡ encode h → some Leaf ≡ shape_of h)
      → Left toks i (Spelled behind old new k)
  after_leaf left shaped = same_place left l (λ j h p g. written_same (behind h) (leaf_inside h (shaped h p.part)) g)

  pub after_items : {part inner : List ℕ} {m : ℕ} → Left toks i (Spelled inside old new k)
      → ((h : Judged) → take (length toks - i) (drop i toks) ≡ encode h → inner ≡ encode (items_of h))
      → ((j : Judged) → inner ≡ encode j → Wrote (text (tree j)) (take (length new - k) (drop k new)) part m)
      → Left toks i (Spelled behind old (put_mid k (length new - k) new part) (k + m))
  after_items left items w = same_place left l (λ j h p g. written_then (behind h) refl (w (items_of h) (items h p.part)) g)

  pub after_closing : {part : List ℕ} {m n : ℕ} → Left toks i (Spelled behind old new k)
      → ((h : Judged) → take (length toks - i) (drop i toks) ≡ encode h → Wrote (closing (tree h)) (take (length new - k) (drop k new)) part m)
      → ((h : Judged) → take (length toks - i) (drop i toks) ≡ encode h → n ≡ length (encode (first_of h)))
      → Left toks (i + n) (Spelled whole old (put_mid k (length new - k) new part) (k + m))
  after_closing left w size = next_item left l size (λ j h p g. written_then (whole (rest_of h)) refl (w h p.part) g)
