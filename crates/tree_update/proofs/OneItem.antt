-- Sequences in which just one item is not empty, and trees whose nodes have two items or more.
use mathlib.Core.Option.{some}
use mathlib.Core.Path.{◌≡◌, refl, sym, ap, ap₂, subst, ◌∙◌}
use mathlib.Core.Bool.{Bool, true, false}
use mathlib.Core.Logic.{◌⊎◌, inl, inr, ⊎_elim}
use mathlib.Core.List.{List, [], ◌∷◌, ◌++◌}
use Prim.Native.Nat.{ℕ, ◌+◌, ◌≤◌, ◌<◌}
use native.Mathlib.Omega.{arith}
use borrow.Author.Tests.{eqb-false, ltb-false}
use lib.Dec.{ltb}
use lib.ListN.{length, length-append}
use Rattle.spec_orders.specs.Tree.{P, Forest, nil, leaf, node, items, append}
use Rattle.spec_orders.specs.Reduce.{put_sorted, pack}
use Rattle.spec_orders.proofs.Tests.{cond_cases}
use Rattle.tree_tokens.specs.Tokens.{E, F, L, R, X, number, Judged, j_nil, j_leaf, j_node, tree, encode, flat}
use Rattle.tree_tokens.specs.declared.ItemShape.TheVariants.{Leaf, CNode}
use Rattle.tree_tokens.specs.Views.{shape_of, state_of, first_of, items_of, rest_of}
use Rattle.tree_tokens.proofs.Laws.{c_or_not}
use Rattle.tree_tokens.proofs.Sequences.{plain-length, flat_injective}
use Rattle.tree_spans.specs.Spans.{is, passing, beyond}
use Rattle.tree_spans.proofs.Laws.{beyond_stops}
use Rattle.tree_judge.specs.Total.{Total, whole_of, partial_of, first_reduced, c_node_of, middle_of, gather_of, total_by, totals}
use Rattle.tree_pieces.specs.Writers.{with_state, all_with_state, from_partial, first_in_line, all_in_line, gathered}
use Rattle.tree_pieces.proofs.Laws.{AtFirst, at_first, starts, flat_append, whole-items, c_node-length, put_sorted-items, put_sorted-length}
use Rattle.tree_pieces.proofs.Totals.{partial_none, partial_more}
use Rattle.tree_laid.proofs.Laws.{c_one}
use Rattle.tree_update.specs.Update.{lone_of, Forks, placed_again}
use Rattle.tree_update.proofs.Laws.{reduced_c, reduced_p, pack_ge, middle_span, middle_last, middle_more, second}

abbrev as_type : Bool → Type 0
as_type true = ⊥
as_type false = Unit {0}

no_way : {A : Type 0} → false ≡ true → A
no_way e = absurd (subst as_type e tt)

-- All are empty where none is partial or full, and the other way round.
pub all_empty-when : (j : Judged) → length (partial_of (totals j)) ≡ 0 → length (with_state 1 (totals j)) ≡ 0 → all_with_state 0 (totals j) ≡ true
unfolding totals total_by
all_empty-when j_nil p f = refl
all_empty-when (j_leaf E b j) p f = all_empty-when j p f
all_empty-when (j_leaf F b j) p f = absurd (omega arith)
all_empty-when (j_leaf L b j) p f = absurd (omega arith)
all_empty-when (j_leaf R b j) p f = absurd (omega arith)
all_empty-when (j_leaf X b j) p f = absurd (omega arith)
all_empty-when (j_node E k i j) p f = all_empty-when j p f
all_empty-when (j_node F k i j) p f = absurd (omega arith)
all_empty-when (j_node L k i j) p f = absurd (omega arith)
all_empty-when (j_node R k i j) p f = absurd (omega arith)
all_empty-when (j_node X k i j) p f = absurd (omega arith)

none_when : (j : Judged) → all_with_state 0 (totals j) ≡ true → (partial_of (totals j) ≡ []) × (with_state 1 (totals j) ≡ [])
unfolding totals total_by
none_when j_nil h = (refl, refl)
none_when (j_leaf E b j) h = none_when j h
none_when (j_leaf F b j) h = no_way h
none_when (j_leaf L b j) h = no_way h
none_when (j_leaf R b j) h = no_way h
none_when (j_leaf X b j) h = no_way h
none_when (j_node E k i j) h = none_when j h
none_when (j_node F k i j) h = no_way h
none_when (j_node L k i j) h = no_way h
none_when (j_node R k i j) h = no_way h
none_when (j_node X k i j) h = no_way h

-- One partial item and no full one.
lone_when : (j : Judged) → length (partial_of (totals j)) ≡ 1 → length (with_state 1 (totals j)) ≡ 0 → lone_of (totals (beyond (is 0) j)) ≡ true
unfolding totals total_by beyond
lone_when j_nil p f = absurd (omega arith)
lone_when (j_leaf E b j) p f = lone_when j p f
lone_when (j_leaf F b j) p f = absurd (omega arith)
lone_when (j_leaf L b j) p f = all_empty-when j (omega arith) f
lone_when (j_leaf R b j) p f = all_empty-when j (omega arith) f
lone_when (j_leaf X b j) p f = all_empty-when j (omega arith) f
lone_when (j_node E k i j) p f = lone_when j p f
lone_when (j_node F k i j) p f = absurd (omega arith)
lone_when (j_node L k i j) p f = all_empty-when j (omega arith) f
lone_when (j_node R k i j) p f = all_empty-when j (omega arith) f
lone_when (j_node X k i j) p f = all_empty-when j (omega arith) f

pub some_full : (j : Judged) {l m : List ℕ} → lone_of (totals (beyond (is 0) j)) ≡ false → l ≡ encode (from_partial j) → (length l ≡ 0 → ⊥)
    → m ≡ encode (second j) → length m ≤ 0 → length (with_state 1 (totals j)) ≡ 0 → ⊥
some_full j n e h q g z =
    let a = starts (from_partial j) e h in
    let p = ap length (partial_more j a ∙ ap (λ (qs : List Total). a.head ∷ qs) (partial_none (rest_of (from_partial j)) q (omega arith))) in
    no_way (sym n ∙ lone_when j p z)

-- The one item that is not empty takes the place of the partial and full ones.
pub gather_lone : (j : Judged) → lone_of (totals (beyond (is 0) j)) ≡ true → gathered (totals j) ≡ first_reduced (totals (beyond (is 0) j))
unfolding totals total_by beyond gathered gather_of
gather_lone j_nil h = no_way h
gather_lone (j_leaf E b j) h = gather_lone j h
gather_lone (j_leaf F b j) h = rw ((none_when j h).0, (none_when j h).1)
gather_lone (j_leaf L b j) h = rw ((none_when j h).0, (none_when j h).1)
gather_lone (j_leaf R b j) h = rw ((none_when j h).0, (none_when j h).1)
gather_lone (j_leaf X b j) h = rw ((none_when j h).0, (none_when j h).1)
gather_lone (j_node E k i j) h = gather_lone j h
gather_lone (j_node F k i j) h = rw ((none_when j h).0, (none_when j h).1)
gather_lone (j_node L k i j) h = rw ((none_when j h).0, (none_when j h).1)
gather_lone (j_node R k i j) h = rw ((none_when j h).0, (none_when j h).1)
gather_lone (j_node X k i j) h = rw ((none_when j h).0, (none_when j h).1)

-- Empty items, whole; those before and behind the one item that is not empty.
empties_whole : (j : Judged) → all_with_state 0 (totals j) ≡ true → whole_of (with_state 0 (totals j)) ≡ tree j
unfolding totals total_by
empties_whole j_nil h = refl
empties_whole (j_leaf E b j) h = ap (leaf b) (empties_whole j h)
empties_whole (j_leaf F b j) h = no_way h
empties_whole (j_leaf L b j) h = no_way h
empties_whole (j_leaf R b j) h = no_way h
empties_whole (j_leaf X b j) h = no_way h
empties_whole (j_node E k i j) h = ap (node k (tree i)) (empties_whole j h)
empties_whole (j_node F k i j) h = no_way h
empties_whole (j_node L k i j) h = no_way h
empties_whole (j_node R k i j) h = no_way h
empties_whole (j_node X k i j) h = no_way h

abbrev empties_round : Judged → Forest
empties_round j = append (tree (passing (is 0) j)) (tree (rest_of (beyond (is 0) j)))

empties_lone : (j : Judged) → lone_of (totals (beyond (is 0) j)) ≡ true → whole_of (with_state 0 (totals j)) ≡ empties_round j
unfolding totals total_by beyond passing rest_of
empties_lone j_nil h = no_way h
empties_lone (j_leaf E b j) h = ap (leaf b) (empties_lone j h)
empties_lone (j_leaf F b j) h = empties_whole j h
empties_lone (j_leaf L b j) h = empties_whole j h
empties_lone (j_leaf R b j) h = empties_whole j h
empties_lone (j_leaf X b j) h = empties_whole j h
empties_lone (j_node E k i j) h = ap (node k (tree i)) (empties_lone j h)
empties_lone (j_node F k i j) h = empties_whole j h
empties_lone (j_node L k i j) h = empties_whole j h
empties_lone (j_node R k i j) h = empties_whole j h
empties_lone (j_node X k i j) h = empties_whole j h

-- A C-node's items round the one that is not empty; round the first one that is not empty.
pub lone_rest : {j : Judged} (a : AtFirst j) → lone_of (totals j) ≡ all_with_state 0 (totals (rest_of j))
lone_rest a = rw a.split

not_empty : (j : Judged) → 0 < length (encode (beyond (is 0) j)) → number (state_of (beyond (is 0) j)) ≡ 0 → ⊥
not_empty j h = eqb-false (number (state_of (beyond (is 0) j))) 0 (beyond_stops (is 0) j h)

pub middle_lone : (j : Judged) → 0 < length (encode (beyond (is 0) j)) → lone_of (totals (beyond (is 0) j)) ≡ true
    → middle_of (totals j) ≡ append (tree (passing (is 0) j)) (append (first_reduced (totals (beyond (is 0) j))) (tree (rest_of (beyond (is 0) j))))
middle_lone j h e =
    let b = beyond (is 0) j in
    let a = at_first b h in
    let p = tree (passing (is 0) j) in
    let r = first_reduced (totals b) in
    let q = tree (rest_of b) in
    flat_injective (middle_of (totals j)) (append p (append r q))
    (middle_span j ∙ ap (λ (l : List ℕ). flat p ++ l) (middle_last a (not_empty j h) (sym (lone_rest a) ∙ e) ∙ sym (flat_append r q)) ∙ sym (flat_append p (append r q)))

pub middle_apart : (j : Judged) → 0 < length (encode (beyond (is 0) j)) → lone_of (totals (beyond (is 0) j)) ≡ false
    → flat (middle_of (totals j)) ≡ flat (tree (passing (is 0) j)) ++ (flat (first_in_line false (totals (beyond (is 0) j))) ++ flat (all_in_line true (totals (rest_of (beyond (is 0) j)))))
middle_apart j h e =
    let a = at_first (beyond (is 0) j) h in
    middle_span j ∙ ap (λ (l : List ℕ). flat (tree (passing (is 0) j)) ++ l) (middle_more a (not_empty j h) (sym (lone_rest a) ∙ e))

pub lone_some : (j : Judged) → lone_of (totals j) ≡ true → 0 < length (encode j)
unfolding totals encode
lone_some j_nil h = no_way h
lone_some (j_leaf s b j) h = omega arith
lone_some (j_node s k i j) h = omega arith

-- As at most one item, there is one where there are some.
one-pack : (f : Forest) → 0 < length (items f) → length (items (pack f)) ≡ 1
one-pack f h =
    cond_cases (ltb 1 (length (items f))) (node P f nil) f (λ g. length (items g) ≡ 1)
    (λ y. refl) (λ n. omega (arith, h, ltb-false 1 (length (items f)) n))

gather-items : (ps gs : List Total) → (length ps ≡ 1 → length gs ≡ 0 → ⊥) → (length ps + length gs ≡ 0) ⊎ (0 < length (items (gather_of ps gs)))
unfolding gather_of
gather-items [] [] h = inl refl
gather-items [] (g ∷ gs) h = inr (omega (arith, one-pack (whole_of (g ∷ gs)) (omega (arith, whole-items (g ∷ gs)))))
gather-items (m ∷ []) [] h = absurd (h refl refl)
gather-items (m ∷ []) (g ∷ gs) h = inr (omega (arith, c_one (append (pack (whole_of (g ∷ gs))) m.mirrored)))
gather-items (m ∷ (n ∷ ms)) gs h = inr (omega (arith, c_one (append m.linear (append (pack (whole_of gs)) n.mirrored))))

sorts : (j : Judged) → 0 < length (encode j) → 0 < length (with_state 0 (totals j)) + (length (partial_of (totals j)) + length (with_state 1 (totals j)))
unfolding totals total_by encode
sorts j_nil h = absurd (omega arith)
sorts (j_leaf E b j) h = omega arith
sorts (j_leaf F b j) h = omega arith
sorts (j_leaf L b j) h = omega arith
sorts (j_leaf R b j) h = omega arith
sorts (j_leaf X b j) h = omega arith
sorts (j_node E k i j) h = omega arith
sorts (j_node F k i j) h = omega arith
sorts (j_node L k i j) h = omega arith
sorts (j_node R k i j) h = omega arith
sorts (j_node X k i j) h = omega arith

pub placed_one : (j : Judged) → 0 < length (encode j) → lone_of (totals (beyond (is 0) j)) ≡ false → length (items (placed_again j)) ≡ 1
unfolding gathered
placed_one j h n =
    let es = with_state 0 (totals j) in
    let g = gathered (totals j) in
    one-pack (put_sorted g (whole_of es))
    (⊎_elim
    (λ z. omega (arith, z, sorts j h, put_sorted-items g (whole_of es), whole-items es))
    (λ s. omega (arith, s, put_sorted-items g (whole_of es)))
    (gather-items (partial_of (totals j)) (with_state 1 (totals j)) (λ p f. no_way (sym n ∙ lone_when j p f))))

pub first_one : (j : Judged) {l : List ℕ} → l ≡ encode j → 0 < length l → length (items (tree (first_of j))) ≡ 1
unfolding encode first_of
first_one j_nil e h = absurd (omega (arith, ap length e))
first_one (j_leaf s b j) e h = refl
first_one (j_node s k i j) e h = refl

-- The items of a node, and those from some item on.
pub forks_items : (j : Judged) → Forks j → Forks (items_of j)
unfolding items_of
forks_items j_nil h = tt
forks_items (j_leaf s b j) h = tt
forks_items (j_node s k i j) h = h.0.1

pub forks_beyond : (p : ℕ → Bool) (j : Judged) → Forks j → Forks (beyond p j)
unfolding beyond
forks_beyond p j_nil h = tt
forks_beyond p (j_leaf s b j) h = cond_cases (p (number s)) (beyond p j) (j_leaf s b j) Forks (λ y. forks_beyond p j h) (λ n. h)
forks_beyond p (j_node s k i j) h = cond_cases (p (number s)) (beyond p j) (j_node s k i j) Forks (λ y. forks_beyond p j h.1) (λ n. h)

some_tokens : (j : Judged) → 2 ≤ length (items (tree j)) → 0 < length (encode j)
unfolding encode
some_tokens j_nil h = absurd (omega arith)
some_tokens (j_leaf s b j) h = omega arith
some_tokens (j_node s k i j) h = omega arith

pub forks_some : (j : Judged) {l : List ℕ} → l ≡ encode j → 0 < length l → (shape_of j ≡ some Leaf → ⊥) → Forks j → 0 < length (encode (items_of j))
unfolding encode shape_of items_of
forks_some j_nil e n s h = absurd (omega (arith, ap length e))
forks_some (j_leaf s b j) e n z h = absurd (z refl)
forks_some (j_node s k i j) e n z h = some_tokens i h.0.0

-- The first item reduced, where just one of its items is not empty: that item reduced, and the empty ones round it; how many tokens.
abbrev pub inner : Judged → Forest
inner j = first_reduced (totals (beyond (is 0) (items_of j)))

pub round_c : (j : Judged) → shape_of j ≡ some CNode → (number (state_of j) < 2 → ⊥) → lone_of (totals (beyond (is 0) (items_of j))) ≡ true
    → first_reduced (totals j) ≡ c_node_of (append (tree (passing (is 0) (items_of j))) (append (inner j) (tree (rest_of (beyond (is 0) (items_of j))))))
round_c j s z l = reduced_c j s z ∙ ap c_node_of (middle_lone (items_of j) (lone_some (beyond (is 0) (items_of j)) l) l)

pub round_p : (j : Judged) → (shape_of j ≡ some Leaf → ⊥) → (shape_of j ≡ some CNode → ⊥) → (number (state_of j) < 2 → ⊥) → lone_of (totals (beyond (is 0) (items_of j))) ≡ true
    → first_reduced (totals j) ≡ pack (put_sorted (inner j) (append (tree (passing (is 0) (items_of j))) (tree (rest_of (beyond (is 0) (items_of j))))))
round_p j s n z l =
    reduced_p j s n z ∙ ap₂ (λ (g f : Forest). pack (put_sorted g f)) (gather_lone (items_of j) l) (empties_lone (items_of j) l)

pub round_c_length : (j : Judged) → shape_of j ≡ some CNode → (number (state_of j) < 2 → ⊥) → lone_of (totals (beyond (is 0) (items_of j))) ≡ true
    → length (flat (first_reduced (totals j))) ≡ 1 + (length (encode (passing (is 0) (items_of j))) + (length (flat (inner j)) + length (encode (rest_of (beyond (is 0) (items_of j))))))
round_c_length j s z l =
    let p = passing (is 0) (items_of j) in
    let q = rest_of (beyond (is 0) (items_of j)) in
    omega (
      arith,
      ap (λ (f : Forest). length (flat f)) (round_c j s z l) ∙ c_node-length (append (tree p) (append (inner j) (tree q))),
      ap length (flat_append (tree p) (append (inner j) (tree q))) ∙ length-append (flat (tree p)) (flat (append (inner j) (tree q))),
      ap length (flat_append (inner j) (tree q)) ∙ length-append (flat (inner j)) (flat (tree q)),
      plain-length p,
      plain-length q,
    )

pub round_p_length : (j : Judged) → (shape_of j ≡ some Leaf → ⊥) → (shape_of j ≡ some CNode → ⊥) → (number (state_of j) < 2 → ⊥) → lone_of (totals (beyond (is 0) (items_of j))) ≡ true
    → length (encode (passing (is 0) (items_of j))) + (length (flat (inner j)) + length (encode (rest_of (beyond (is 0) (items_of j))))) ≤ length (flat (first_reduced (totals j)))
round_p_length j s n z l =
    let p = passing (is 0) (items_of j) in
    let q = rest_of (beyond (is 0) (items_of j)) in
    let e = append (tree p) (tree q) in
    omega (
      arith,
      ap (λ (f : Forest). length (flat f)) (round_p j s n z l),
      pack_ge (put_sorted (inner j) e),
      put_sorted-length (inner j) e,
      ap length (flat_append (tree p) (tree q)) ∙ length-append (flat (tree p)) (flat (tree q)),
      plain-length p,
      plain-length q,
    )

pub inner_short : (j : Judged) → (shape_of j ≡ some Leaf → ⊥) → (number (state_of j) < 2 → ⊥) → lone_of (totals (beyond (is 0) (items_of j))) ≡ true
    → length (flat (inner j)) ≤ length (flat (first_reduced (totals j)))
inner_short j s z l = elim (c_or_not j) [ inl e ↦ omega (arith, round_c_length j e z l) | inr n ↦ omega (arith, round_p_length j s n z l) ]
