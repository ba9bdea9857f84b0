-- Tokens labelled with what a sweep keeps are those of the judged tree.
use mathlib.Core.Path.{◌≡◌, refl, sym, ap, ap₂, ◌∙◌}
use mathlib.Core.Bool.{Bool, true, false, cond}
use mathlib.Core.List.{List, [], ◌∷◌, ◌++◌}
use Prim.Native.Nat.{ℕ, suc, ◌+◌, ◌-◌, ◌≤◌, ◌<◌, ◌/◌, ◌%◌}
use native.Mathlib.Omega.{arith}
use native.Mathlib.Numerals.{add-one}
use lib.ListN.{length, take, drop, get_or}
use lib.Seq.{drop-cons}
use Rattle.spec_orders.specs.Lists.{All}
use Rattle.spec_orders.specs.CircularOrder.{Restriction}
use Rattle.spec_orders.specs.Tree.{Kind, frontier}
use Rattle.spec_orders.specs.Form.{nodes}
use Rattle.spec_orders.proofs.ListLaws.{all_left, all_right}
use Rattle.mark_words.specs.Marks.{marked}
use Rattle.tree_tokens.specs.Tokens.{State, number, Judged, j_nil, j_leaf, j_node, tree, leaf_token, node_token, encode}
use Rattle.tree_tokens.proofs.Laws.{leaf_even, node_odd, number_small}
use Rattle.tree_tokens.proofs.Counts.{node_tokens, node_tokens_are}
use Rattle.tree_tokens.proofs.Sequences.{plain-length}
use Rattle.tree_judge.specs.Judge.{leaf_state, node_state, states, judge}
use Rattle.tree_judge.proofs.Judged.{judge-length}
use Rattle.tree_judge.proofs.Pass.{relabel_leaf, relabel_node}
use Rattle.table_sweep.specs.Kept.{state_in, Labels}
use Rattle.table_update.specs.States.{state_beside, labelled_from}

-- One token more.
pub labelled_next : (work : List ℕ) (r : ℕ) (l : List ℕ) (i : ℕ) {s : ℕ} → i < length l → s ≡ state_beside work r (get_or l i 0)
    → labelled_from work r (drop i l) ≡ (get_or l i 0 - get_or l i 0 % 8 + s) ∷ labelled_from work (r + get_or l i 0 / 8 % 2) (drop (i + 1) l)
labelled_next work r l i h e = rw (e, add-one, drop-cons l i 0 h)

labelled_append : (work : List ℕ) (r : ℕ) (l m : List ℕ) → labelled_from work r (l ++ m) ≡ labelled_from work r l ++ labelled_from work (r + node_tokens l) m
labelled_append work r [] m = let e : r + 0 ≡ r = omega arith in rw e
labelled_append work r (t ∷ l) m =
    let e : r + t / 8 % 2 + node_tokens l ≡ r + (t / 8 % 2 + node_tokens l) = omega arith in
    ap (λ (x : List ℕ). (t - t % 8 + state_beside work r t) ∷ x) (labelled_append work (r + t / 8 % 2) l m ∙ rw e)

-- The state beside a leaf's token; beside a node's.
leaf_number : (s : State) (b : ℕ) → leaf_token s b / 16 ≡ b
unfolding leaf_token
leaf_number s b = omega (arith, number_small s)

leaf_bit : (b : Bool) → cond b 1 0 ≡ number (leaf_state b)
leaf_bit true = refl
leaf_bit false = refl

leaf_beside : (work : List ℕ) (r : ℕ) (s : State) (b : ℕ) → state_beside work r (leaf_token s b) ≡ number (leaf_state (marked (take 4 (drop 0 work)) b))
leaf_beside work r s b = rw (leaf_even s b, leaf_number s b) (leaf_bit (marked (take 4 (drop 0 work)) b))

node_beside : (work : List ℕ) (r : ℕ) (s : State) (k : Kind) (m : ℕ) → state_beside work r (node_token s k m) ≡ state_in (get_or work (8 + r) 0)
node_beside work r s k m = rw (node_odd s k m)

module _ (S : Restriction) (work : List ℕ) (side : (b : ℕ) → 1 ≤ b → b ≤ 256 → marked (take 4 (drop 0 work)) b ≡ S b) where
  pub labelled_is : (r : ℕ) (j : Judged) → Labels S work r (tree j) → All (λ b. (1 ≤ b) × (b ≤ 256)) (frontier (tree j))
      → labelled_from work r (encode j) ≡ encode (judge S (tree j))
  unfolding encode judge Labels
  labelled_is r j_nil l a = refl
  labelled_is r (j_leaf s b j) l a =
      let t : ℕ = leaf_token s b in
      let e : r + t / 8 % 2 ≡ r = omega (arith, leaf_even s b) in
      ap₂ (λ (x : ℕ) (y : List ℕ). x ∷ y)
      (ap (λ (x : ℕ). t - t % 8 + x) (leaf_beside work r s b ∙ ap (λ c. number (leaf_state c)) (side b a.0.0 a.0.1)) ∙ sym (relabel_leaf s (leaf_state (S b)) b))
      (ap (λ (x : ℕ). labelled_from work x (encode j)) e ∙ labelled_is r j l a.1)
  labelled_is r (j_node s k i j) l a =
      let m : ℕ = length (encode i) in
      let t : ℕ = node_token s k m in
      let z : State = node_state k (states (judge S (tree i))) in
      let e : r + t / 8 % 2 ≡ suc r = omega (arith, node_odd s k m) in
      let f : suc r + node_tokens (encode i) ≡ suc r + nodes (tree i) = ap (λ (x : ℕ). suc r + x) (node_tokens_are i) in
      ap₂ (λ (x : ℕ) (y : List ℕ). x ∷ y)
      (ap (λ (x : ℕ). t - t % 8 + x) (node_beside work r s k m ∙ l.0) ∙ sym (relabel_node s z k m)
      ∙ ap (node_token z k) (sym (judge-length S (tree i) ∙ plain-length i)))
      (ap (λ (x : ℕ). labelled_from work x (encode i ++ encode j)) e ∙ labelled_append work (suc r) (encode i) (encode j)
      ∙ ap₂ (λ (x y : List ℕ). x ++ y) (labelled_is (suc r) i l.1 (all_left _ (frontier (tree i)) (frontier (tree j)) a))
      (ap (λ (x : ℕ). labelled_from work x (encode j)) f ∙ labelled_is (suc r + nodes (tree i)) j l.2 (all_right _ (frontier (tree i)) (frontier (tree j)) a)))
