-- The reduced forms, by what code sees of a judged sequence.
use mathlib.Core.Option.{some}
use mathlib.Core.Path.{◌≡◌, refl, sym, ap, ◌∙◌}
use mathlib.Core.Bool.{Bool, true, false}
use mathlib.Core.List.{List, [], ◌∷◌, ◌++◌, append_assoc}
use Prim.Native.Nat.{ℕ, ◌+◌, ◌-◌, ◌≤◌, ◌<◌}
use native.Mathlib.Omega.{arith}
use borrow.Author.Tests.{eq-eqb, ne_eqb}
use lib.Dec.{ltb}
use lib.ListN.{length, take, drop, length-append}
use Rattle.spec_orders.specs.Tree.{P, C, Forest, nil, node, items, append}
use Rattle.spec_orders.specs.Reduce.{one, put_sorted, pack}
use Rattle.tree_tokens.specs.Tokens.{E, F, L, R, X, number, Judged, j_nil, j_leaf, j_node, tree, encode, Wrote, flat}
use Rattle.tree_tokens.specs.declared.ItemShape.TheVariants.{Leaf, CNode}
use Rattle.tree_tokens.specs.Views.{shape_of, state_of, first_of, items_of, rest_of}
use Rattle.tree_tokens.proofs.Laws.{at_end}
use Rattle.tree_tokens.proofs.Writes.{read_back}
use Rattle.tree_spans.specs.Spans.{is, passing, beyond}
use Rattle.tree_judge.specs.Total.{Total, whole_of, partial_of, first_reduced, mirrored_lines, c_node_of, middle_of, gather_of, reduced_of, total_by, totals}
use Rattle.tree_pieces.specs.Writers.{with_state, all_with_state, from_partial, in_line, first_in_line, all_in_line, gathered}
use Rattle.tree_pieces.proofs.Laws.{flat_nil, flat_append, flat_p, AtFirst, at_first, starts, totals_none, flat-whole, all_empty_is, c_node-length, put_sorted-length}
use Rattle.tree_pieces.proofs.Walks.{passing-text}
use Rattle.tree_pieces.proofs.States.{is_state}
use Rattle.tree_update.specs.Update.{Begins, placed_again}
use Rattle.tree_pieces.proofs.Totals.{partial_none, partial_more, mirrored_lines_is, p_reduced_is}
use Rattle.spec_orders.proofs.Tests.{cond_cases}

-- Writing to the start of a slice, whatever stands behind, and the part that is read next.
pub begins : {xs old new : List ℕ} {k : ℕ} → Wrote xs old new k → Begins xs new k
begins w = record { many = w.many; text = read_back w }

pub read_part : {xs new : List ℕ} {k : ℕ} → Begins xs new k → take (k - 0) (drop 0 new) ≡ xs
read_part {k = k} w = let n : k - 0 ≡ k = omega arith in rw n w.text

-- The first item reduced: one that stays as it is; a C-node; a P-node.
pub reduced_leaf : (j : Judged) → shape_of j ≡ some Leaf → first_reduced (totals j) ≡ tree (first_of j)
unfolding totals shape_of first_of
reduced_leaf j_nil h = cc
reduced_leaf (j_leaf s b j) h = refl
reduced_leaf (j_node s P i j) h = cc
reduced_leaf (j_node s C i j) h = cc

pub reduced_whole : (j : Judged) → number (state_of j) < 2 → first_reduced (totals j) ≡ tree (first_of j)
unfolding totals total_by state_of first_of encode
reduced_whole j_nil h = refl
reduced_whole (j_leaf s b j) h = refl
reduced_whole (j_node E k i j) h = refl
reduced_whole (j_node F k i j) h = refl
reduced_whole (j_node L k i j) h = absurd (omega arith)
reduced_whole (j_node R k i j) h = absurd (omega arith)
reduced_whole (j_node X k i j) h = absurd (omega arith)

pub reduced_c : (j : Judged) → shape_of j ≡ some CNode → (number (state_of j) < 2 → ⊥) → first_reduced (totals j) ≡ c_node_of (middle_of (totals (items_of j)))
unfolding totals total_by reduced_of shape_of state_of items_of
reduced_c j_nil h z = cc
reduced_c (j_leaf s b j) h z = cc
reduced_c (j_node s P i j) h z = cc
reduced_c (j_node E C i j) h z = absurd (z (omega arith))
reduced_c (j_node F C i j) h z = absurd (z (omega arith))
reduced_c (j_node L C i j) h z = refl
reduced_c (j_node R C i j) h z = refl
reduced_c (j_node X C i j) h z = refl

pub reduced_p : (j : Judged) → (shape_of j ≡ some Leaf → ⊥) → (shape_of j ≡ some CNode → ⊥) → (number (state_of j) < 2 → ⊥) → first_reduced (totals j) ≡ placed_again (items_of j)
unfolding totals total_by shape_of state_of items_of
reduced_p j_nil h g z = absurd (z (omega arith))
reduced_p (j_leaf s b j) h g z = absurd (h refl)
reduced_p (j_node s C i j) h g z = absurd (g refl)
reduced_p (j_node E P i j) h g z = absurd (z (omega arith))
reduced_p (j_node F P i j) h g z = absurd (z (omega arith))
reduced_p (j_node L P i j) h g z = sym (p_reduced_is (totals i))
reduced_p (j_node R P i j) h g z = sym (p_reduced_is (totals i))
reduced_p (j_node X P i j) h g z = sym (p_reduced_is (totals i))

pub c_length : (j : Judged) → shape_of j ≡ some CNode → (number (state_of j) < 2 → ⊥) → length (flat (first_reduced (totals j))) ≡ 1 + length (flat (middle_of (totals (items_of j))))
c_length j h z = rw (reduced_c j h z) (c_node-length (middle_of (totals (items_of j))))

pub pack_ge : (f : Forest) → length (flat f) ≤ length (flat (pack f))
pack_ge f =
    cond_cases (ltb 1 (length (items f))) (node P f nil) f (λ g. length (flat f) ≤ length (flat g))
    (λ y. omega (arith, ap length (flat_p f refl))) (λ n. omega arith)

pub placed_ge : (j : Judged) → length (flat (gathered (totals j))) ≤ length (flat (placed_again j))
placed_ge j =
    let e = whole_of (with_state 0 (totals j)) in
    omega (arith, pack_ge (put_sorted (gathered (totals j)) e), put_sorted-length (gathered (totals j)) e)

-- A C-node's items: none left; the first is empty; it is the last that is not; it is not the last.
pub middle_none : (j : Judged) {l : List ℕ} → l ≡ encode j → length l ≡ 0 → flat (middle_of (totals j)) ≡ []
unfolding middle_of
middle_none j e h = rw (at_end j e h, totals_none) flat_nil

pub middle_empty : {j : Judged} (a : AtFirst j) → number (state_of j) ≡ 0
    → flat (middle_of (totals j)) ≡ flat (tree (first_of j)) ++ flat (middle_of (totals (rest_of j)))
unfolding middle_of
middle_empty {j} a h =
    rw (a.split, a.its_state, eq-eqb (number (state_of j)) 0 h)
    (flat_append (one a.head.item) (middle_of (totals (rest_of j))) ∙ ap (λ (l : List ℕ). l ++ flat (middle_of (totals (rest_of j)))) a.its_tokens)

-- The empty items at the front stand as they are.
pub middle_span : (j : Judged) → flat (middle_of (totals j)) ≡ flat (tree (passing (is 0) j)) ++ flat (middle_of (totals (beyond (is 0) j)))
middle_span = passing-text (is 0) (λ j. flat (middle_of (totals j))) (λ k h t. middle_empty (at_first k h) (is_state t))

in_reduced : {j : Judged} (a : AtFirst j) → first_reduced (totals j) ≡ a.head.reduced
in_reduced a = rw a.split

in_first : (back : Bool) {j : Judged} (a : AtFirst j) → first_in_line back (totals j) ≡ in_line back a.head
in_first back a = rw a.split

pub middle_last : {j : Judged} (a : AtFirst j) → (number (state_of j) ≡ 0 → ⊥) → all_with_state 0 (totals (rest_of j)) ≡ true
    → flat (middle_of (totals j)) ≡ flat (first_reduced (totals j)) ++ flat (tree (rest_of j))
unfolding middle_of
middle_last {j} a h e =
    rw (in_reduced a)
    (rw (a.split, a.its_state, ne_eqb (number (state_of j)) 0 h, ← all_empty_is (totals (rest_of j)), e)
    (flat_append a.head.reduced (whole_of (totals (rest_of j))) ∙ ap (λ (l : List ℕ). flat a.head.reduced ++ l) (flat-whole (rest_of j))))

pub middle_more : {j : Judged} (a : AtFirst j) → (number (state_of j) ≡ 0 → ⊥) → all_with_state 0 (totals (rest_of j)) ≡ false
    → flat (middle_of (totals j)) ≡ flat (first_in_line false (totals j)) ++ flat (all_in_line true (totals (rest_of j)))
unfolding middle_of
middle_more {j} a h e =
    rw (in_first false a, mirrored_lines_is (totals (rest_of j)))
    (rw (a.split, a.its_state, ne_eqb (number (state_of j)) 0 h, ← all_empty_is (totals (rest_of j)), e)
    (flat_append a.head.linear (mirrored_lines (totals (rest_of j)))))

-- A P-node's full items, as at most one item; the items from the second partial one on; what the new C-node holds.
abbrev pub fulls : Judged → Forest
fulls j = pack (whole_of (with_state 1 (totals j)))

abbrev pub second : Judged → Judged
second j = from_partial (rest_of (from_partial j))

abbrev pub between : Judged → Forest
between j = append (first_in_line false (totals (from_partial j))) (append (fulls j) (first_in_line true (totals (second j))))

abbrev pub beside : Judged → Forest
beside j = append (fulls j) (first_in_line true (totals (from_partial j)))

pub gather_none : (j : Judged) {l : List ℕ} → l ≡ encode (from_partial j) → length l ≡ 0 → gathered (totals j) ≡ fulls j
unfolding gathered gather_of
gather_none j e h = rw (partial_none j e h)

gather_of_some : (m : Total) (gs : List Total) → (length gs ≡ 0 → ⊥) → gather_of (m ∷ []) gs ≡ c_node_of (append (pack (whole_of gs)) m.mirrored)
unfolding gather_of
gather_of_some m [] h = absurd (h refl)
gather_of_some m (g ∷ gs) h = refl

gather_of_two : (m n : Total) (ms gs : List Total) → gather_of (m ∷ (n ∷ ms)) gs ≡ c_node_of (append m.linear (append (pack (whole_of gs)) n.mirrored))
unfolding gather_of
gather_of_two m n ms gs = refl

pub gather_two : (j : Judged) {l m : List ℕ} → l ≡ encode (from_partial j) → (length l ≡ 0 → ⊥) → m ≡ encode (second j) → 0 < length m
    → gathered (totals j) ≡ c_node_of (between j)
unfolding gathered
gather_two j e h q g =
    let a = starts (from_partial j) e h in
    let b = at_first (second j) (omega (arith, ap length q)) in
    let gs = with_state 1 (totals j) in
    rw (in_first false a, in_first true b)
    (ap (λ (ps : List Total). gather_of ps gs) (partial_more j a ∙ ap (λ (qs : List Total). a.head ∷ qs) (partial_more (rest_of (from_partial j)) b))
    ∙ gather_of_two a.head b.head (partial_of (totals (rest_of (second j)))) gs)

-- The first partial item is the only one.
only_one : (j : Judged) (a : AtFirst (from_partial j)) {m : List ℕ} → m ≡ encode (second j) → length m ≤ 0 → gathered (totals j) ≡ gather_of (a.head ∷ []) (with_state 1 (totals j))
unfolding gathered
only_one j a q g =
    ap (λ (ps : List Total). gather_of ps (with_state 1 (totals j))) (partial_more j a ∙ ap (λ (qs : List Total). a.head ∷ qs) (partial_none (rest_of (from_partial j)) q (omega arith)))

pub gather_some : (j : Judged) {l m : List ℕ} → l ≡ encode (from_partial j) → (length l ≡ 0 → ⊥) → m ≡ encode (second j) → length m ≤ 0
    → (length (with_state 1 (totals j)) ≡ 0 → ⊥) → gathered (totals j) ≡ c_node_of (beside j)
gather_some j e h q g z =
    let a = starts (from_partial j) e h in
    rw (in_first true a) (only_one j a q g ∙ gather_of_some a.head (with_state 1 (totals j)) z)

-- Their tokens, in the order of the writers, and how many.
pub between-text : (j : Judged) → (flat (first_in_line false (totals (from_partial j))) ++ flat (fulls j)) ++ flat (first_in_line true (totals (second j))) ≡ flat (between j)
between-text j =
    let a = first_in_line false (totals (from_partial j)) in
    let c = first_in_line true (totals (second j)) in
    rw (flat_append a (append (fulls j) c), flat_append (fulls j) c) (append_assoc (flat a) (flat (fulls j)) (flat c))

pub beside_text : (j : Judged) → flat (fulls j) ++ flat (first_in_line true (totals (from_partial j))) ≡ flat (beside j)
beside_text j = sym (flat_append (fulls j) (first_in_line true (totals (from_partial j))))

pub between_sum : (j : Judged)
    → length (flat (between j)) ≡ length (flat (first_in_line false (totals (from_partial j)))) + length (flat (fulls j)) + length (flat (first_in_line true (totals (second j))))
between_sum j =
    let a = flat (first_in_line false (totals (from_partial j))) in
    omega (
      arith,
      ap length (between-text j),
      length-append (a ++ flat (fulls j)) (flat (first_in_line true (totals (second j)))),
      length-append a (flat (fulls j)),
    )

pub beside_sum : (j : Judged) → length (flat (beside j)) ≡ length (flat (fulls j)) + length (flat (first_in_line true (totals (from_partial j))))
beside_sum j = omega (arith, ap length (beside_text j), length-append (flat (fulls j)) (flat (first_in_line true (totals (from_partial j)))))

pub between-length : (j : Judged) → gathered (totals j) ≡ c_node_of (between j)
    → length (flat (gathered (totals j))) ≡ 1 + (length (flat (first_in_line false (totals (from_partial j)))) + length (flat (fulls j)) + length (flat (first_in_line true (totals (second j)))))
between-length j e = omega (arith, ap (λ (f : Forest). length (flat f)) e ∙ c_node-length (between j), between_sum j)

pub beside_length : (j : Judged) → gathered (totals j) ≡ c_node_of (beside j)
    → length (flat (gathered (totals j))) ≡ 1 + (length (flat (fulls j)) + length (flat (first_in_line true (totals (from_partial j)))))
beside_length j e = omega (arith, ap (λ (f : Forest). length (flat f)) e ∙ c_node-length (beside j), beside_sum j)
