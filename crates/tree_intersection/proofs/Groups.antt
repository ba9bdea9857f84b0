-- The groups of a sequence, by its first item.
use mathlib.Core.Option.{some}
use mathlib.Core.Path.{◌≡◌, refl, sym, ap, ◌∙◌}
use mathlib.Core.List.{List, [], ◌∷◌, ◌++◌, append-nil, append_assoc}
use Prim.Native.Nat.{ℕ, ◌+◌, ◌-◌, ◌<◌}
use native.Mathlib.Omega.{arith}
use lib.ListN.{length, take, drop, length-append}
use lib.Seq.{drop-drop, take-append_seam, drop-append_seam}
use Rattle.spec_orders.specs.Tree.{P, C, frontier}
use Rattle.spec_orders.proofs.ListLaws.{part_to_end}
use Rattle.spec_intersection.specs.Intersection.{item_pairs, p_items, node_groups, characteristic}
use Rattle.spec_intersection.proofs.GroupWalk.{characteristic-append}
use Rattle.tree_tokens.specs.Tokens.{Judged, j_nil, j_leaf, j_node, tree, j_append, encode}
use Rattle.tree_tokens.specs.declared.ItemShape.TheVariants.{Leaf, PNode, CNode}
use Rattle.tree_tokens.specs.Views.{shape_of, first_of, items_of, rest_of}
use Rattle.tree_tokens.proofs.Laws.{encode_split}
use Rattle.tree_tokens.proofs.Sequences.{encode-append, tree-append}
use Rattle.tree_tokens.proofs.Steps.{Here, opened}
use Rattle.tree_intersection.specs.Intersect.{first_groups}

-- Those of every node: those of the first one, and those of what follows its token.
pub groups_split : (k : Judged) → characteristic (tree k) ≡ first_groups (tree k) ++ characteristic (tree (opened k))
unfolding items_of rest_of
groups_split j_nil = refl
groups_split (j_leaf s b k) = refl
groups_split (j_node s d i k) = ap (λ (l : List (List ℕ)). node_groups d (tree i) ++ l) (sym (ap characteristic (tree-append i k) ∙ characteristic-append (tree i) (tree k)))

-- Those of the first item, by its shape.
pub first_groups_c : (k : Judged) → some CNode ≡ shape_of k → first_groups (tree k) ≡ item_pairs (tree (items_of k))
unfolding shape_of items_of
first_groups_c j_nil h = refl
first_groups_c (j_leaf s b k) h = refl
first_groups_c (j_node s P i k) h = cc
first_groups_c (j_node s C i k) h = refl

pub first_groups_p : (k : Judged) → some PNode ≡ shape_of k → first_groups (tree k) ≡ p_items (tree (items_of k))
unfolding shape_of items_of
first_groups_p j_nil h = refl
first_groups_p (j_leaf s b k) h = refl
first_groups_p (j_node s P i k) h = refl
first_groups_p (j_node s C i k) h = cc

pub first_groups_leaf : (k : Judged) → some Leaf ≡ shape_of k → first_groups (tree k) ≡ []
unfolding shape_of
first_groups_leaf j_nil h = refl
first_groups_leaf (j_leaf s b k) h = refl
first_groups_leaf (j_node s P i k) h = cc
first_groups_leaf (j_node s C i k) h = cc

-- The items that are P-nodes: the first one is; it is not.
pub p_item_more : (k : Judged) → some PNode ≡ shape_of k → p_items (tree k) ≡ (frontier (tree (items_of k)) ∷ []) ++ p_items (tree (rest_of k))
unfolding shape_of items_of rest_of
p_item_more j_nil h = cc
p_item_more (j_leaf s b k) h = cc
p_item_more (j_node s P i k) h = refl
p_item_more (j_node s C i k) h = cc

pub p_item_other : (k : Judged) → (some PNode ≡ shape_of k → ⊥) → p_items (tree k) ≡ p_items (tree (rest_of k))
unfolding shape_of rest_of
p_item_other j_nil h = refl
p_item_other (j_leaf s b k) h = refl
p_item_other (j_node s P i k) h = absurd (h refl)
p_item_other (j_node s C i k) h = refl

-- The first two items.
abbrev pub two : Judged → Judged
two k = j_append (first_of k) (first_of (rest_of k))

pub item_pairs_none : (k : Judged) → rest_of k ≡ j_nil → item_pairs (tree k) ≡ []
unfolding rest_of
item_pairs_none j_nil h = refl
item_pairs_none (j_leaf s b k) h = rw h
item_pairs_none (j_node s d i k) h = rw h

pub item_pairs_more : (k : Judged) → 0 < length (encode (rest_of k)) → item_pairs (tree k) ≡ (frontier (tree (two k)) ∷ []) ++ item_pairs (tree (rest_of k))
unfolding encode first_of rest_of
item_pairs_more j_nil h = absurd (omega arith)
item_pairs_more (j_leaf s b j_nil) h = absurd (omega arith)
item_pairs_more (j_leaf s b (j_leaf r a k)) h = refl
item_pairs_more (j_leaf s b (j_node r d i k)) h = rw append-nil
item_pairs_more (j_node s e u j_nil) h = absurd (omega arith)
item_pairs_more (j_node s e u (j_leaf r a k)) h = refl
item_pairs_more (j_node s e u (j_node r d i k)) h = rw append-nil

-- Their parts of the tokens: what stands behind the first item, and the first two items.
module _ {l : List ℕ} {i m : ℕ} {k : Judged} (p : Here l i k) (h : m ≡ length (encode (first_of k))) where
  from : drop i l ≡ encode (first_of k) ++ encode (rest_of k)
  from = sym (part_to_end l i) ∙ p.part ∙ encode_split k

  pub part_behind : take (length l - (i + m)) (drop (i + m) l) ≡ encode (rest_of k)
  part_behind = part_to_end l (i + m) ∙ sym (drop-drop m i l) ∙ rw (from, h) (drop-append_seam (encode (first_of k)) (encode (rest_of k)))

  pub part_two : {s : ℕ} → s ≡ length (encode (first_of (rest_of k))) → take (i + m + s - i) (drop i l) ≡ encode (two k)
  part_two {s} g = rw (many, whole) (take-append_seam (encode (two k)) (encode (rest_of (rest_of k))))
    where
      both : encode (two k) ≡ encode (first_of k) ++ encode (first_of (rest_of k))
      both = encode-append (first_of k) (first_of (rest_of k))

      many : i + m + s - i ≡ length (encode (two k))
      many = omega (arith, ap length both, length-append (encode (first_of k)) (encode (first_of (rest_of k))))

      whole : drop i l ≡ encode (two k) ++ encode (rest_of (rest_of k))
      whole =
          from ∙ ap (λ (x : List ℕ). encode (first_of k) ++ x) (encode_split (rest_of k))
          ∙ sym (append_assoc (encode (first_of k)) (encode (first_of (rest_of k))) (encode (rest_of (rest_of k))))
          ∙ ap (λ (x : List ℕ). x ++ encode (rest_of (rest_of k))) (sym both)
