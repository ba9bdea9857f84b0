-- The update depends only on the marks of the tree's leaves.
use mathlib.Core.Path.{◌≡◌, refl, sym, ap, ◌∙◌}
use mathlib.Core.Bool.{Bool, true, false, cond, not}
use mathlib.Core.List.{List, [], ◌∷◌}
use Prim.Native.Nat.{ℕ, ◌*◌, ◌≤◌}
use native.Mathlib.Omega.{arith}
use borrow.Author.Tests.{le-leb}
use lib.ListN.{length}
use Rattle.spec_orders.specs.Lists.{All, some_of}
use Rattle.spec_orders.specs.CircularOrder.{Restriction}
use Rattle.spec_orders.specs.Tree.{Forest, nil, leaf, node, frontier, leaf_item}
use Rattle.spec_orders.specs.Reduce.{Class, complement, class, Part, settled, node_part, parts, reduced_first, reduce}
use Rattle.spec_orders.specs.Join.{side, join}
use Rattle.spec_orders.proofs.ListLaws.{all_left, all_right, all_map}
use Rattle.mark_words.specs.Marks.{marked, words_of, outside}
use Rattle.mark_words.proofs.Words.{marked_words}
use Rattle.tree_update.specs.Update.{FormWithin}

module _ (S T : Restriction) where
  abbrev pub Agree : List ℕ → Type 0
  Agree = All (λ b. S b ≡ T b)

  some_same : (l : List ℕ) → Agree l → some_of S l ≡ some_of T l
  some_same [] h = refl
  some_same (b ∷ l) h = rw (h.0, some_same l h.1)

  none_same : (l : List ℕ) → Agree l → some_of (complement S) l ≡ some_of (complement T) l
  none_same [] h = refl
  none_same (b ∷ l) h = rw (h.0, none_same l h.1)

  class_same : (l : List ℕ) → Agree l → class S l ≡ class T l
  class_same l h = rw (some_same l h, none_same l h)

  parts_same : (f : Forest) → Agree (frontier f) → parts S f ≡ parts T f
  parts_same nil h = refl
  parts_same (leaf b f) h =
      ap (λ (c : Class). settled c (leaf_item b) ∷ parts S f) (class_same (b ∷ []) (h.0, tt))
      ∙ ap (λ (ps : List Part). settled (class T (b ∷ [])) (leaf_item b) ∷ ps) (parts_same f h.1)
  parts_same (node k i f) h =
      let l = all_left (λ b. S b ≡ T b) (frontier i) (frontier f) h in
      let r = all_right (λ b. S b ≡ T b) (frontier i) (frontier f) h in
      ap (λ (c : Class). node_part c k i (parts S i) ∷ parts S f) (class_same (frontier i) l)
      ∙ ap (λ (ps : List Part). node_part (class T (frontier i)) k i ps ∷ parts S f) (parts_same i l)
      ∙ ap (λ (ps : List Part). node_part (class T (frontier i)) k i (parts T i) ∷ ps) (parts_same f r)

  reduce-same : (t : Forest) → Agree (frontier t) → reduce S t ≡ reduce T t
  unfolding reduce
  reduce-same t h = ap reduced_first (parts_same t h)

-- Joining asks for the mark of leaf 1 too.
side_same : (S T : Restriction) (c : Bool) (b : ℕ) → S b ≡ T b → cond c (complement S) S b ≡ cond c (complement T) T b
side_same S T true b e = ap not e
side_same S T false b e = e

pub join-same : (S T : Restriction) (t : Forest) → S 1 ≡ T 1 → Agree S T (frontier t) → join S t ≡ join T t
unfolding join side
join-same S T t e h = reduce-same (side 1 S) (side 1 T) t (all_map (λ b. S b ≡ T b) (λ b. side 1 S b ≡ side 1 T b) (λ b q. rw e (side_same S T (T 1) b q)) (frontier t) h)

-- A group that leaf 1 is in joins by the other leaves up to n, marked in k words; any other by its own.
outside_is : (k n : ℕ) (G : Restriction) (b : ℕ) → n ≤ 64 * k → (1 ≤ b) × (b ≤ n) → marked (words_of k (outside n G)) b ≡ complement G b
outside_is k n G b h r = marked_words k (outside n G) b r.0 (omega (arith, r.1)) ∙ rw (le-leb b n r.1)

-- The words ws hold the group; vs are a copy, and us is what the complement makes of it.
pub join-outside : (n : ℕ) (ws vs us : List ℕ) (t : Forest) → FormWithin n t → n ≤ 64 * length ws → true ≡ marked ws 1 → vs ≡ ws
    → us ≡ words_of (length vs) (outside n (marked vs)) → join (marked ws) t ≡ reduce (marked us) t
unfolding join side
join-outside n ws vs us t f h e v u =
    let G = marked ws in
    let w : us ≡ words_of (length ws) (outside n G) = u ∙ rw v in
    rw (← e, w)
    (sym (reduce-same (marked (words_of (length ws) (outside n G))) (complement G) t (all_map (λ b. (2 ≤ b) × (b ≤ n)) (λ b. marked (words_of (length ws) (outside n G)) b ≡ complement G b) (λ b r. outside_is (length ws) n G b h (omega (arith, r.0), r.1)) (frontier t) f.in_range)))

pub join_inside : (ws : List ℕ) (t : Forest) → false ≡ marked ws 1 → join (marked ws) t ≡ reduce (marked ws) t
unfolding join side
join_inside ws t e = rw (← e)
