-- The tokens of trees, and the items of a judged sequence by its views.
use mathlib.Core.Option.{some}
use mathlib.Core.Path.{◌≡◌, refl, sym, ap, ◌∙◌}
use mathlib.Core.Bool.{Bool, false, cond}
use mathlib.Core.List.{List, [], ◌∷◌, ◌++◌, append-nil}
use Prim.Native.Nat.{ℕ, ◌+◌, ◌-◌, ◌*◌, ◌%◌, ◌≤◌, ◌<◌}
use native.Mathlib.Omega.{arith}
use borrow.Author.Tests.{eq-eqb, ne_eqb, lt-ltb, le-ltb, le-leb, lt-leb}
use lib.Dec.{eqb, ltb}
use lib.ListN.{length, get_or, length-append}
use Rattle.spec_orders.specs.Tree.{Kind, P, C, Forest, nil, leaf, node, Item, leaf_item, node_item, items, append, rev}
use Rattle.spec_orders.specs.Form.{first}
use Rattle.spec_orders.specs.Reduce.{put, one, put_sorted, pack}
use Rattle.spec_orders.proofs.Rearranged.{perm_length}
use Rattle.spec_orders.proofs.Laws.{items-append}
use Rattle.spec_orders.proofs.Parts.{put_one, items-put}
use Rattle.spec_orders.proofs.PutSorted.{put_sorted_perm}
use Rattle.spec_orders.proofs.Tests.{cond_cases}
use Rattle.tree_tokens.specs.Tokens.{State, E, F, L, R, X, number, Judged, j_nil, j_leaf, j_node, tree, plain, j_rev, node_token, encode, flat}
use Rattle.tree_tokens.specs.declared.ItemShape.TheVariants.{Leaf}
use Rattle.tree_tokens.specs.Views.{shape_of, state_of, first_of, rest_of}
use Rattle.tree_tokens.proofs.Laws.{at_end}
use Rattle.tree_tokens.proofs.Sequences.{encode-append, plain-append, plain-rev, tree_plain, rev-length, plain-length, bare_is, flat_injective}
use Rattle.tree_judge.specs.Judge.{all_empty, all_full, rises}
use Rattle.tree_judge.specs.Total.{Total, states_of, whole_of, c_node_of, unchanged, total_by, totals}
use Rattle.tree_pieces.specs.Writers.{with_state, all_with_state, from_partial}

-- The tokens of no tree, of one sequence after another, of one node; the tokens say what the tree is.
pub flat_nil : flat nil ≡ []
unfolding encode
flat_nil = refl

pub flat_append : (f g : Forest) → flat (append f g) ≡ flat f ++ flat g
flat_append f g = rw (plain-append f g) (encode-append (plain f) (plain g))

pub flat-put : (t : Item) (f : Forest) → flat (put t f) ≡ flat (one t) ++ flat f
flat-put t f = ap flat (sym (put_one t f)) ∙ flat_append (one t) f

pub flat_p : (f : Forest) {k : ℕ} → k ≡ length (flat f) → flat (node P f nil) ≡ (32 * k + 8) ∷ flat f
unfolding encode node_token
flat_p f {k} e =
    let h : 32 * length (flat f) + 8 + 0 ≡ 32 * k + 8 = omega (arith, e) in
    ap (λ (n : ℕ). n ∷ (flat f ++ [])) h ∙ ap (λ (l : List ℕ). (32 * k + 8) ∷ l) (append-nil (flat f))

pub flat_c : (f : Forest) {k : ℕ} → k ≡ length (flat f) → flat (node C f nil) ≡ (32 * k + 24) ∷ flat f
unfolding encode node_token
flat_c f {k} e =
    let h : 32 * length (flat f) + 24 + 0 ≡ 32 * k + 24 = omega (arith, e) in
    ap (λ (n : ℕ). n ∷ (flat f ++ [])) h ∙ ap (λ (l : List ℕ). (32 * k + 24) ∷ l) (append-nil (flat f))

pub flat-rev : (f : Forest) → encode (j_rev (plain f)) ≡ flat (rev f)
flat-rev f = ap encode (sym (plain-rev f))

pub flat-rev-length : (f : Forest) → length (flat (rev f)) ≡ length (flat f)
flat-rev-length f = ap length (sym (flat-rev f)) ∙ rev-length (plain f)

-- What the first item of a sequence is, by its views.
pub record AtFirst (j : Judged) : Type 0 where
  pub head : Total
  pub split : totals j ≡ head ∷ totals (rest_of j)
  pub alone : totals (first_of j) ≡ head ∷ []
  pub its_state : head.state ≡ state_of j
  pub its_item : one head.item ≡ tree (first_of j)
  pub its_tokens : flat (one head.item) ≡ flat (tree (first_of j))
  pub its_leaf : first (one head.item) ≡ first (tree j)

total_item : (s : State) (k : Kind) (i : Forest) (ts : List Total) → (total_by s k i ts).item ≡ node_item k i
unfolding total_by
total_item E k i ts = refl
total_item F k i ts = refl
total_item L k i ts = refl
total_item R k i ts = refl
total_item X k i ts = refl

total_state : (s : State) (k : Kind) (i : Forest) (ts : List Total) → (total_by s k i ts).state ≡ s
unfolding total_by
total_state E k i ts = refl
total_state F k i ts = refl
total_state L k i ts = refl
total_state R k i ts = refl
total_state X k i ts = refl

pub at_first : (j : Judged) → 0 < length (encode j) → AtFirst j
unfolding encode totals rest_of first_of state_of
at_first j_nil h = absurd (omega arith)
at_first (j_leaf s b j) h = record {
  head = unchanged s (leaf_item b);
  split = refl;
  alone = refl;
  its_state = refl;
  its_item = refl;
  its_tokens = refl;
  its_leaf = refl;
}
at_first (j_node s k i j) h = record {
  head = total_by s k (tree i) (totals i);
  split = refl;
  alone = refl;
  its_state = total_state s k (tree i) (totals i);
  its_item = ap one (total_item s k (tree i) (totals i));
  its_tokens = ap (λ (t : Item). flat (one t)) (total_item s k (tree i) (totals i));
  its_leaf = ap (λ (t : Item). first (one t)) (total_item s k (tree i) (totals i));
}

pub starts : (j : Judged) {l : List ℕ} → l ≡ encode j → (length l ≡ 0 → ⊥) → AtFirst j
starts j e h = at_first j (omega (arith, ap length e))

pub totals_none : totals j_nil ≡ []
unfolding totals
totals_none = refl

pub whole-totals : (j : Judged) → whole_of (totals j) ≡ tree j
unfolding totals
whole-totals j_nil = refl
whole-totals (j_leaf s b j) = ap (leaf b) (whole-totals j)
whole-totals (j_node s k i j) = rw (total_item s k (tree i) (totals i), whole-totals j)

pub flat-whole : (j : Judged) → flat (whole_of (totals j)) ≡ flat (tree j)
flat-whole j = ap flat (whole-totals j)

pub whole-items : (ts : List Total) → length (items (whole_of ts)) ≡ length ts
whole-items [] = refl
whole-items (t ∷ ts) = rw (items-put t.item (whole_of ts), whole-items ts)

-- The items of a state: how many; the first item is one of them, or not.
abbrev pub many : ℕ → Judged → ℕ
many s j = length (with_state s (totals j))

pub with_in : (s : ℕ) {j : Judged} (a : AtFirst j) → number (state_of j) ≡ s → with_state s (totals j) ≡ a.head ∷ with_state s (totals (rest_of j))
with_in s {j} a e = rw (a.split, a.its_state, eq-eqb (number (state_of j)) s e)

pub with_out : (s : ℕ) {j : Judged} (a : AtFirst j) → (number (state_of j) ≡ s → ⊥) → with_state s (totals j) ≡ with_state s (totals (rest_of j))
with_out s {j} a e = rw (a.split, a.its_state, ne_eqb (number (state_of j)) s e)

pub flat_in : (s : ℕ) {j : Judged} (a : AtFirst j) → number (state_of j) ≡ s
    → flat (whole_of (with_state s (totals j))) ≡ flat (tree (first_of j)) ++ flat (whole_of (with_state s (totals (rest_of j))))
flat_in s {j} a e = rw (with_in s a e, flat-put a.head.item (whole_of (with_state s (totals (rest_of j)))), a.its_tokens)

with_short : (s : ℕ) (ts : List Total) → length (flat (whole_of (with_state s ts))) ≤ length (flat (whole_of ts))
with_short s [] = omega arith
with_short s (t ∷ ts) =
    let more = ap length (flat-put t.item (whole_of ts)) ∙ length-append (flat (one t.item)) (flat (whole_of ts)) in
    let us = with_state s ts in
    let kept = ap length (flat-put t.item (whole_of us)) ∙ length-append (flat (one t.item)) (flat (whole_of us)) in
    cond_cases (eqb (number t.state) s) (t ∷ us) us (λ vs. length (flat (whole_of vs)) ≤ length (flat (whole_of (t ∷ ts))))
    (λ y. omega (arith, more, kept, with_short s ts)) (λ n. omega (arith, more, with_short s ts))

pub with_le : (s : ℕ) (j : Judged) → length (flat (whole_of (with_state s (totals j)))) ≤ length (encode j)
with_le s j = omega (arith, with_short s (totals j), ap (λ (f : Forest). length (flat f)) (whole-totals j), plain-length j)

pub all_in : (s : ℕ) {j : Judged} (a : AtFirst j) → number (state_of j) ≡ s → all_with_state s (totals j) ≡ all_with_state s (totals (rest_of j))
all_in s {j} a e = rw (a.split, a.its_state, eq-eqb (number (state_of j)) s e)

pub all_out : (s : ℕ) {j : Judged} (a : AtFirst j) → (number (state_of j) ≡ s → ⊥) → all_with_state s (totals j) ≡ false
all_out s {j} a e = rw (a.split, a.its_state, ne_eqb (number (state_of j)) s e)

-- From the first partial item on.
pub from_none : from_partial j_nil ≡ j_nil
unfolding from_partial
from_none = refl

pub from_here : (j : Judged) → 2 ≤ number (state_of j) → from_partial j ≡ j
unfolding from_partial state_of
from_here j_nil h = refl
from_here (j_leaf s b j) h = rw (le-leb 2 (number s) h)
from_here (j_node s k i j) h = rw (le-leb 2 (number s) h)

pub from_on : (j : Judged) → (2 ≤ number (state_of j) → ⊥) → from_partial j ≡ from_partial (rest_of j)
unfolding from_partial state_of rest_of
from_on j_nil h = refl
from_on (j_leaf s b j) h = rw (lt-leb 2 (number s) (omega arith))
from_on (j_node s k i j) h = rw (lt-leb 2 (number s) (omega arith))

-- All items are empty; all are full.
empty_by : (s : State) (ss : List State) (b : Bool) → b ≡ all_empty ss → cond (eqb (number s) 0) b false ≡ all_empty (s ∷ ss)
empty_by E ss b e = e
empty_by F ss b e = refl
empty_by L ss b e = refl
empty_by R ss b e = refl
empty_by X ss b e = refl

pub all_empty_is : (ts : List Total) → all_with_state 0 ts ≡ all_empty (states_of ts)
all_empty_is [] = refl
all_empty_is (t ∷ ts) = empty_by t.state (states_of ts) (all_with_state 0 ts) (all_empty_is ts)

full_by : (s : State) (ss : List State) (b : Bool) → b ≡ all_full ss → cond (eqb (number s) 1) b false ≡ all_full (s ∷ ss)
full_by E ss b e = refl
full_by F ss b e = e
full_by L ss b e = refl
full_by R ss b e = refl
full_by X ss b e = refl

pub all_full_is : (ts : List Total) → all_with_state 1 ts ≡ all_full (states_of ts)
all_full_is [] = refl
all_full_is (t ∷ ts) = full_by t.state (states_of ts) (all_with_state 1 ts) (all_full_is ts)

-- A word that rises, by its first state.
rises_by_0 : (s : State) (ss : List State) → number s ≡ 0 → rises (s ∷ ss) ≡ rises ss
rises_by_0 E ss e = refl
rises_by_0 F ss e = absurd (omega arith)
rises_by_0 L ss e = absurd (omega arith)
rises_by_0 R ss e = absurd (omega arith)
rises_by_0 X ss e = absurd (omega arith)

rises_by_3 : (s : State) (ss : List State) → 3 ≤ number s → rises (s ∷ ss) ≡ false
rises_by_3 E ss e = absurd (omega arith)
rises_by_3 F ss e = absurd (omega arith)
rises_by_3 L ss e = absurd (omega arith)
rises_by_3 R ss e = refl
rises_by_3 X ss e = refl

rises_by_1 : (s : State) (ss : List State) → (number s ≡ 0 → ⊥) → (3 ≤ number s → ⊥) → rises (s ∷ ss) ≡ all_full ss
rises_by_1 E ss z h = absurd (z refl)
rises_by_1 F ss z h = refl
rises_by_1 L ss z h = refl
rises_by_1 R ss z h = absurd (h (omega arith))
rises_by_1 X ss z h = absurd (h (omega arith))

pub rises_empty : {j : Judged} (a : AtFirst j) → number (state_of j) ≡ 0 → rises (states_of (totals j)) ≡ rises (states_of (totals (rest_of j)))
rises_empty {j} a e = ap (λ (ts : List Total). rises (states_of ts)) a.split ∙ rises_by_0 a.head.state (states_of (totals (rest_of j))) (ap number a.its_state ∙ e)

pub rises_not : {j : Judged} (a : AtFirst j) → 3 ≤ number (state_of j) → rises (states_of (totals j)) ≡ false
rises_not {j} a h =
    ap (λ (ts : List Total). rises (states_of ts)) a.split
    ∙ rises_by_3 a.head.state (states_of (totals (rest_of j))) (omega (arith, ap number a.its_state))

pub rises_last : {j : Judged} (a : AtFirst j) → (number (state_of j) ≡ 0 → ⊥) → (3 ≤ number (state_of j) → ⊥)
    → rises (states_of (totals j)) ≡ all_with_state 1 (totals (rest_of j))
rises_last {j} a z h =
    ap (λ (ts : List Total). rises (states_of ts)) a.split
    ∙ rises_by_1 a.head.state (states_of (totals (rest_of j))) (λ e. z (sym (ap number a.its_state) ∙ e)) (λ l. h (omega (arith, ap number a.its_state)))
    ∙ sym (all_full_is (totals (rest_of j)))

-- At most one item.
pub pack-few : (f : Forest) → length (items f) < 2 → pack f ≡ f
pack-few f h = rw (le-ltb 1 (length (items f)) (omega arith))

pub pack_many : (f : Forest) → (length (items f) < 2 → ⊥) → pack f ≡ node P f nil
pack_many f h = rw (lt-ltb 1 (length (items f)) (omega arith))

pub flat-pack : (f : Forest) {k : ℕ} → (length (items f) < 2 → ⊥) → k ≡ length (flat f) → flat (pack f) ≡ (32 * k + 8) ∷ flat f
flat-pack f h e = ap flat (pack_many f h) ∙ flat_p f e

-- The items of a state as at most one item; r is how many they are.
pub packs_few : (s : ℕ) (j : Judged) {r : ℕ} → r ≡ length (with_state s (totals j)) → r < 2
    → pack (whole_of (with_state s (totals j))) ≡ whole_of (with_state s (totals j))
packs_few s j e h = pack-few (whole_of (with_state s (totals j))) (omega (arith, whole-items (with_state s (totals j)), e))

pub packs_many : (s : ℕ) (j : Judged) {r k : ℕ} → r ≡ length (with_state s (totals j)) → 2 ≤ r → k ≡ length (flat (whole_of (with_state s (totals j))))
    → flat (pack (whole_of (with_state s (totals j)))) ≡ (32 * k + 8) ∷ flat (whole_of (with_state s (totals j)))
packs_many s j e h = flat-pack (whole_of (with_state s (totals j))) (λ l. omega (arith, whole-items (with_state s (totals j)), e))

-- The two directions of a C-node.
pub flat_turned : (f : Forest) {k : ℕ} → first (rev f) < first f → k ≡ length (flat (rev f)) → flat (c_node_of f) ≡ (32 * k + 24) ∷ flat (rev f)
unfolding c_node_of
flat_turned f h e = rw (lt-ltb (first (rev f)) (first f) h) (flat_c (rev f) e)

pub flat_kept : (f : Forest) {k : ℕ} → (first (rev f) < first f → ⊥) → k ≡ length (flat f) → flat (c_node_of f) ≡ (32 * k + 24) ∷ flat f
unfolding c_node_of
flat_kept f h e = rw (le-ltb (first (rev f)) (first f) (omega arith)) (flat_c f e)

pub c_node-length : (f : Forest) → length (flat (c_node_of f)) ≡ 1 + length (flat f)
unfolding c_node_of
c_node-length f =
    cond_cases (ltb (first (rev f)) (first f)) (rev f) f (λ g. length (flat (node C g nil)) ≡ 1 + length (flat f))
    (λ y. omega (arith, ap length (flat_c (rev f) refl), flat-rev-length f)) (λ n. omega (arith, ap length (flat_c f refl)))

-- One tree among the items of another.
put_sorted-put : (g : Forest) (t : Item) (f : Forest) → put_sorted g (put t f) ≡ cond (ltb (first g) (first (one t))) (append g (put t f)) (put t (put_sorted g f))
put_sorted-put g (leaf_item b) f = refl
put_sorted-put g (node_item k i) f = refl

pub put_sorted_here : (g : Forest) (t : Item) (f : Forest) → first g < first (one t) → put_sorted g (put t f) ≡ append g (put t f)
put_sorted_here g t f h = put_sorted-put g t f ∙ rw (lt-ltb (first g) (first (one t)) h)

pub put_sorted_on : (g : Forest) (t : Item) (f : Forest) → (first g < first (one t) → ⊥) → put_sorted g (put t f) ≡ put t (put_sorted g f)
put_sorted_on g t f h = put_sorted-put g t f ∙ rw (le-ltb (first g) (first (one t)) (omega arith))

pub put_sorted-items : (g f : Forest) → length (items (put_sorted g f)) ≡ length (items g) + length (items f)
put_sorted-items g f = sym (perm_length (put_sorted_perm g f)) ∙ ap length (items-append g f) ∙ length-append (items g) (items f)

put_sorted-step : (g : Forest) (t : Item) (f : Forest) → length (flat (put_sorted g f)) ≡ length (flat g) + length (flat f)
    → length (flat (put_sorted g (put t f))) ≡ length (flat g) + length (flat (put t f))
put_sorted-step g t f h =
    rw (put_sorted-put g t f) (
    cond_cases (ltb (first g) (first (one t))) (append g (put t f)) (put t (put_sorted g f)) (λ r. length (flat r) ≡ length (flat g) + length (flat (put t f)))
    (λ y. ap length (flat_append g (put t f)) ∙ length-append (flat g) (flat (put t f)))
    (λ n. omega (
      arith,
      h,
      ap length (flat-put t f) ∙ length-append (flat (one t)) (flat f),
      ap length (flat-put t (put_sorted g f)) ∙ length-append (flat (one t)) (flat (put_sorted g f)),
    )))

pub put_sorted-length : (g f : Forest) → length (flat (put_sorted g f)) ≡ length (flat g) + length (flat f)
put_sorted-length g nil = omega (arith, ap length flat_nil)
put_sorted-length g (leaf b f) = put_sorted-step g (leaf_item b) f (put_sorted-length g f)
put_sorted-length g (node k i f) = put_sorted-step g (node_item k i) f (put_sorted-length g f)

-- A tree among the empty items of a sequence.
abbrev pub placed : Forest → Judged → Forest
placed g j = put_sorted g (whole_of (with_state 0 (totals j)))

pub placed_none : (g : Forest) (j : Judged) {l : List ℕ} → l ≡ encode j → length l ≡ 0 → placed g j ≡ g
placed_none g j e h = rw (at_end j e h, totals_none)

pub placed_out : (g : Forest) {j : Judged} (a : AtFirst j) → (number (state_of j) ≡ 0 → ⊥) → placed g j ≡ placed g (rest_of j)
placed_out g a h = ap (λ (ts : List Total). put_sorted g (whole_of ts)) (with_out 0 a h)

pub flat_before : (g : Forest) {j : Judged} (a : AtFirst j) → number (state_of j) ≡ 0 → first g < first (tree j)
    → flat (placed g j) ≡ flat g ++ flat (whole_of (with_state 0 (totals j)))
flat_before g {j} a e h =
    let f = whole_of (with_state 0 (totals (rest_of j))) in
    rw (with_in 0 a e, put_sorted_here g a.head.item f (rw a.its_leaf h)) (flat_append g (put a.head.item f))

pub flat_after : (g : Forest) {j : Judged} (a : AtFirst j) → number (state_of j) ≡ 0 → (first g < first (tree j) → ⊥)
    → flat (placed g j) ≡ flat (tree (first_of j)) ++ flat (placed g (rest_of j))
flat_after g {j} a e h =
    let f = whole_of (with_state 0 (totals (rest_of j))) in
    rw (with_in 0 a e, put_sorted_on g a.head.item f (rw a.its_leaf h), flat-put a.head.item (put_sorted g f), a.its_tokens)

pub placed_few : (g : Forest) (j : Judged) {n m : ℕ} → n ≡ length (with_state 0 (totals j)) → m ≡ length (items (tree (plain g))) → n + m < 2
    → pack (placed g j) ≡ placed g j
placed_few g j e q h =
    pack-few (placed g j) (omega (
      arith,
      e,
      q,
      ap (λ (f : Forest). length (items f)) (tree_plain g),
      whole-items (with_state 0 (totals j)),
      put_sorted-items g (whole_of (with_state 0 (totals j))),
    ))

pub placed_many : (g : Forest) (j : Judged) {n m k : ℕ} → n ≡ length (with_state 0 (totals j)) → m ≡ length (items (tree (plain g))) → 2 ≤ n + m
    → k ≡ length (flat (placed g j)) → flat (pack (placed g j)) ≡ (32 * k + 8) ∷ flat (placed g j)
placed_many g j e q h =
    flat-pack (placed g j) (λ l. omega (
      arith,
      e,
      q,
      ap (λ (f : Forest). length (items f)) (tree_plain g),
      whole-items (with_state 0 (totals j)),
      put_sorted-items g (whole_of (with_state 0 (totals j))),
    ))

pub placed_le : (g : Forest) (j : Judged) → length (flat (placed g j)) ≤ length (flat g) + length (encode j)
placed_le g j = omega (arith, put_sorted-length g (whole_of (with_state 0 (totals j))), with_le 0 j)

-- A tree's first leaf, where the tokens are those of two.
pub same_leaf : (g h : Forest) {l : List ℕ} {b : ℕ} → l ≡ flat g → b ≡ first g → l ≡ flat h → b ≡ first h
same_leaf g h e q d = q ∙ ap first (flat_injective g h (sym e ∙ d))

-- The tokens of a leaf without its state.
pub bare_leaf : (j : Judged) {l : List ℕ} → l ≡ encode j → shape_of j ≡ some Leaf → flat (tree (first_of j)) ≡ (get_or l 0 0 - get_or l 0 0 % 8) ∷ []
unfolding encode shape_of first_of
bare_leaf j_nil e h = cc
bare_leaf (j_leaf s b j) e h = rw e (sym (bare_is (j_leaf s b j_nil)))
bare_leaf (j_node s P i j) e h = cc
bare_leaf (j_node s C i j) e h = cc
