-- The text of a sequence, by its first item.
use mathlib.Core.Option.{some}
use mathlib.Core.Path.{◌≡◌, refl, ap}
use mathlib.Core.List.{List, [], ◌∷◌, ◌++◌}
use Prim.Native.Nat.{ℕ, suc, ◌+◌, ◌-◌, ◌≤◌, ◌<◌}
use native.Mathlib.Omega.{arith}
use borrow.Rule.Slice.PartMut.{put_mid}
use lib.ListN.{length, take, drop, set, length-append, length-drop}
use Rattle.spec_orders.specs.Tree.{Forest, nil, leaf, node}
use Rattle.spec_orders.specs.TreeText.{digits, letter, text, more, tree_text}
use Rattle.tree_tokens.specs.Tokens.{Judged, j_nil, j_leaf, j_node, tree, encode, Wrote}
use Rattle.tree_tokens.specs.declared.ItemShape.TheVariants.{Leaf, PNode, CNode}
use Rattle.tree_tokens.specs.Views.{shape_of, leaf_of, items_of, rest_of}
use Rattle.tree_tokens.proofs.Laws.{is_leaf, is_p, is_c}
use Rattle.tree_tokens.proofs.Writes.{wrote_one, wrote_then}
use Rattle.text_write.specs.Around.{opening, gap, closing}

-- Further items, each with a space before it.
pub more_gap : (f : Forest) → more f ≡ gap f ++ text f
unfolding gap
more_gap nil = refl
more_gap (leaf b f) = refl
more_gap (node k i f) = refl

pub text_split : (j : Judged) → text (tree j) ≡ opening (tree j) ++ (text (tree (items_of j)) ++ (closing (tree j) ++ text (tree (rest_of j))))
unfolding opening closing items_of rest_of
text_split j_nil = refl
text_split (j_leaf s b j) = rw (more_gap (tree j))
text_split (j_node s k i j) = ap (λ (l : List ℕ). letter k ∷ 40 ∷ (text (tree i) ++ (41 ∷ l))) (more_gap (tree j))

-- What stands round the items, by the first item's shape.
pub opening_leaf : (j : Judged) → shape_of j ≡ some Leaf → opening (tree j) ≡ digits (leaf_of j)
unfolding opening
opening_leaf j h = ap (λ (i : Judged). opening (tree i)) (is_leaf j h)

pub opening_p : (j : Judged) → shape_of j ≡ some PNode → opening (tree j) ≡ 80 ∷ 40 ∷ []
unfolding opening
opening_p j h = ap (λ (i : Judged). opening (tree i)) (is_p j h)

pub opening_c : (j : Judged) → shape_of j ≡ some CNode → opening (tree j) ≡ 67 ∷ 40 ∷ []
unfolding opening
opening_c j h = ap (λ (i : Judged). opening (tree i)) (is_c j h)

pub gap_some : (j : Judged) {l : List ℕ} → l ≡ encode j → (length l ≡ 0 → ⊥) → gap (tree j) ≡ 32 ∷ []
unfolding gap encode
gap_some j_nil e h = absurd (h (ap length e))
gap_some (j_leaf s b j) e h = refl
gap_some (j_node s k i j) e h = refl

pub closing_leaf : (j : Judged) → shape_of j ≡ some Leaf → closing (tree j) ≡ gap (tree (rest_of j))
unfolding closing
closing_leaf j h = ap (λ (i : Judged). closing (tree i)) (is_leaf j h)

pub closing_node : (j : Judged) {l : List ℕ} → l ≡ encode j → 0 < length l → (shape_of j ≡ some Leaf → ⊥) → closing (tree j) ≡ 41 ∷ gap (tree (rest_of j))
unfolding closing encode shape_of rest_of
closing_node j_nil e ne h = absurd (omega (arith, ap length e))
closing_node (j_leaf s b j) e ne h = absurd (h refl)
closing_node (j_node s k i j) e ne h = refl

-- A text that fits changes no length.
pub wrote_length : {xs old new : List ℕ} {k : ℕ} → Wrote xs old new k → length xs ≤ length old → length new ≡ length old
wrote_length {xs} {old} w h = omega (arith, ap length w.text, length-append xs (drop (length xs) old), length-drop (length xs) old)

-- The whole: leaf 1, the gap, and the text of what hangs at leaf 1.
pub tree_text_split : (t : Forest) → tree_text t ≡ (49 ∷ gap t) ++ text t
unfolding tree_text
tree_text_split t = ap (λ (l : List ℕ). 49 ∷ l) (more_gap t)

pub tree_text-room : (j : Judged) {n : ℕ} → length (tree_text (tree j)) ≤ n → suc (length (gap (tree j)) + length (text (tree j))) ≤ n
tree_text-room j h = omega (arith, ap length (tree_text_split (tree j)), length-append (gap (tree j)) (text (tree j)))

-- Leaf 1 and the gap were written: there is room for the text.
pub begun : (t : Forest) {old part : List ℕ} {k : ℕ} → 0 < length old → Wrote (gap t) (take (length (set old 0 49) - 1) (drop 1 (set old 0 49))) part k
    → Wrote (49 ∷ gap t) old (put_mid 1 (length (set old 0 49) - 1) (set old 0 49) part) (1 + k)
begun t {old} room w = wrote_then (wrote_one 49 old room) w

pub begun-room : (j : Judged) {old new : List ℕ} {k : ℕ} → length (tree_text (tree j)) ≤ length old → Wrote (49 ∷ gap (tree j)) old new k → k + length (text (tree j)) ≤ length new
begun-room j h w =
    let r = tree_text-room j h in
    omega (arith, w.many, wrote_length w (omega (arith, r)), r)
