-- Going along tokens: from the sequence at one index to what follows its first item, or its first token.
use mathlib.Core.Path.{◌≡◌, refl, sym, ap, subst, ◌∙◌}
use mathlib.Core.List.{List, ◌∷◌}
use Prim.Native.Nat.{ℕ, suc, ◌+◌, ◌-◌, ◌/◌, ◌%◌, ◌≤◌, ◌<◌}
use native.Mathlib.Omega.{arith}
use lib.ListN.{length, take, drop, get_or, drop_of_length-le}
use lib.Seq.{drop-drop, drop-cons, drop-append_seam}
use Rattle.spec_orders.specs.Tree.{frontier}
use Rattle.spec_orders.specs.Form.{first}
use Rattle.spec_orders.proofs.ListLaws.{part_to_end}
use Rattle.spec_orders.proofs.Laws.{frontier-append}
use Rattle.tree_tokens.specs.Tokens.{Judged, j_nil, j_leaf, j_node, tree, j_append, encode, Tokens}
use Rattle.tree_tokens.specs.Views.{first_of, items_of, rest_of}
use Rattle.tree_tokens.proofs.Laws.{at_end, sizes, leaf_even, leaf_number, node_odd, node_size, encode_split, size_leaf}
use Rattle.tree_tokens.proofs.Sequences.{encode-append, tree-append}

-- At index i of the tokens of any sequence j stand those of a sequence k, and the two are as Q says.
pub record Left (l : List ℕ) (i : ℕ) (Q : Judged → Judged → Type 0) : Type 0 where
  pub at : (j : Judged) → l ≡ encode j → (k : Judged) × (drop i l ≡ encode k) × Q j k

pub from_start : (l : List ℕ) {Q : Judged → Judged → Type 0} → ((j : Judged) → Q j j) → Left l 0 Q
from_start l q = record { at = λ j e. (j, e, q j) }

-- The part from index i on.
pub part_left : {l : List ℕ} {i : ℕ} {Q : Judged → Judged → Type 0} → Left l i Q → Tokens l → Tokens (take (length l - i) (drop i l))
part_left {l} {i} h p = let r = h.at p.0 p.1 in (r.0, part_to_end l i ∙ r.1)

-- What stands there, its first token being the one at index i.
pub record Here (l : List ℕ) (i : ℕ) (k : Judged) : Type 0 where
  pub part : take (length l - i) (drop i l) ≡ encode k
  pub head : get_or (encode k) 0 0 ≡ get_or l i 0
  pub some : 0 < length (encode k)

here_at : (l : List ℕ) (i : ℕ) (k : Judged) → i < length l → drop i l ≡ encode k → Here l i k
here_at l i k h e =
    let c : encode k ≡ get_or l i 0 ∷ drop (suc i) l = sym e ∙ drop-cons l i 0 h in
    record { part = part_to_end l i ∙ e; head = ap (λ (x : List ℕ). get_or x 0 0) c; some = omega (arith, ap length c) }

pub here : {l : List ℕ} {i : ℕ} {Q : Judged → Judged → Type 0} → Left l i Q → i < length l → (j : Judged) → l ≡ encode j → (k : Judged) × Here l i k × Q j k
here {l} {i} h n j e = let r = h.at j e in (r.0, here_at l i r.0 n r.1, r.2)

-- Nothing is left.
pub at_last : {l : List ℕ} {i : ℕ} {Q : Judged → Judged → Type 0} → Left l i Q → length l ≤ i → (j : Judged) → l ≡ encode j → Q j j_nil
at_last {l} {i} {Q} h n j e =
    let r = h.at j e in
    subst (Q j) (at_end r.0 (sym (drop_of_length-le l n) ∙ r.1) refl) r.2

-- One item on; m is the size of the first one.
pub next_item : {l : List ℕ} {i m : ℕ} {Q R : Judged → Judged → Type 0} → Left l i Q → i < length l
    → ((k : Judged) → take (length l - i) (drop i l) ≡ encode k → m ≡ length (encode (first_of k)))
    → ((j k : Judged) → Here l i k → Q j k → R j (rest_of k)) → Left l (i + m) R
next_item {l} {i} {m} h n size go = record {
  at = λ j e.
      let r = h.at j e in
      let w : m ≡ length (encode (first_of r.0)) = size r.0 (part_to_end l i ∙ r.1) in
      (rest_of r.0, sym (drop-drop m i l) ∙ rw (r.1, w, encode_split r.0) (drop-append_seam (encode (first_of r.0)) (encode (rest_of r.0))), go j r.0 (here_at l i r.0 n r.1) r.2);
}

-- One leaf on.
pub next_leaf : {l : List ℕ} {i : ℕ} {Q R : Judged → Judged → Type 0} → Left l i Q → i < length l → get_or l i 0 / 8 % 2 ≡ 0
    → ((j k : Judged) → Here l i k → Q j k → R j (rest_of k)) → Left l (i + 1) R
next_leaf {l} {i} h n z =
    next_item h n (λ k e. let p = here_at l i k n (sym (part_to_end l i) ∙ e) in size_leaf k {l = encode k} refl p.some (rw p.head z))

-- What follows the first token: the first item's own items, then the items after it.
abbrev pub opened : Judged → Judged
opened j = j_append (items_of j) (rest_of j)

pub encode-opened : (j : Judged) → drop 1 (encode j) ≡ encode (opened j)
unfolding encode items_of rest_of
encode-opened j_nil = refl
encode-opened (j_leaf s b j) = refl
encode-opened (j_node s k i j) = sym (encode-append i j)

-- One token on.
pub next_token : {l : List ℕ} {i : ℕ} {Q R : Judged → Judged → Type 0} → Left l i Q → i < length l
    → ((j k : Judged) → Here l i k → Q j k → R j (opened k)) → Left l (i + 1) R
next_token {l} {i} h n go = record {
  at = λ j e.
      let r = h.at j e in
      (opened r.0, sym (drop-drop 1 i l) ∙ rw r.1 (encode-opened r.0), go j r.0 (here_at l i r.0 n r.1) r.2);
}

-- The first leaf, by the first token.
leaf_is : (k : Judged) → 0 < length (encode k) → get_or (encode k) 0 0 / 8 % 2 ≡ 0 → first (tree k) ≡ get_or (encode k) 0 0 / 16
unfolding encode
leaf_is j_nil ne h = absurd (omega arith)
leaf_is (j_leaf s b k) ne h = sym (leaf_number s b)
leaf_is (j_node s d i k) ne h = absurd (omega (arith, node_odd s d (length (encode i))))

none_is : (k : Judged) → 0 < length (encode k) → (get_or (encode k) 0 0 / 8 % 2 ≡ 0 → ⊥) → get_or (encode k) 0 0 / 32 ≡ 0 → first (tree k) ≡ 0
unfolding encode
none_is j_nil ne h z = absurd (omega arith)
none_is (j_leaf s b k) ne h z = absurd (h (leaf_even s b))
none_is (j_node s d j_nil k) ne h z = refl
none_is (j_node s d (j_leaf r b i) k) ne h z = absurd (omega (arith, node_size s d (length (encode (j_leaf r b i)))))
none_is (j_node s d (j_node r q u i) k) ne h z = absurd (omega (arith, node_size s d (length (encode (j_node r q u i)))))

inside_is : (k : Judged) → 0 < length (encode k) → (get_or (encode k) 0 0 / 8 % 2 ≡ 0 → ⊥) → (get_or (encode k) 0 0 / 32 ≡ 0 → ⊥) → first (tree k) ≡ first (tree (opened k))
unfolding encode items_of rest_of
inside_is j_nil ne h z = absurd (omega arith)
inside_is (j_leaf s b k) ne h z = absurd (h (leaf_even s b))
inside_is (j_node s d j_nil k) ne h z = absurd (z (omega (arith, node_size s d 0)))
inside_is (j_node s d (j_leaf r b i) k) ne h z = refl
inside_is (j_node s d (j_node r q u i) k) ne h z = refl

pub first_leaf_at : {l : List ℕ} {i : ℕ} {k : Judged} → Here l i k → get_or l i 0 / 8 % 2 ≡ 0 → first (tree k) ≡ get_or l i 0 / 16
first_leaf_at {k = k} p h = rw (← p.head) (leaf_is k p.some (rw (← p.head) at h))

pub first_none_at : {l : List ℕ} {i : ℕ} {k : Judged} → Here l i k → (get_or l i 0 / 8 % 2 ≡ 0 → ⊥) → get_or l i 0 / 32 ≡ 0 → first (tree k) ≡ 0
first_none_at {k = k} p h z = none_is k p.some (rw (← p.head) at h) (rw (← p.head) at z)

pub first_inside_at : {l : List ℕ} {i : ℕ} {k : Judged} → Here l i k → (get_or l i 0 / 8 % 2 ≡ 0 → ⊥) → (get_or l i 0 / 32 ≡ 0 → ⊥) → first (tree k) ≡ first (tree (opened k))
first_inside_at {k = k} p h z = inside_is k p.some (rw (← p.head) at h) (rw (← p.head) at z)

-- The leaves, by the first token.
leaves_leaf : (k : Judged) → 0 < length (encode k) → get_or (encode k) 0 0 / 8 % 2 ≡ 0 → frontier (tree k) ≡ get_or (encode k) 0 0 / 16 ∷ frontier (tree (opened k))
unfolding encode items_of rest_of
leaves_leaf j_nil ne h = absurd (omega arith)
leaves_leaf (j_leaf s b k) ne h = rw (leaf_number s b)
leaves_leaf (j_node s d i k) ne h = absurd (omega (arith, node_odd s d (length (encode i))))

leaves_node : (k : Judged) → 0 < length (encode k) → (get_or (encode k) 0 0 / 8 % 2 ≡ 0 → ⊥) → frontier (tree k) ≡ frontier (tree (opened k))
unfolding encode items_of rest_of
leaves_node j_nil ne h = absurd (omega arith)
leaves_node (j_leaf s b k) ne h = absurd (h (leaf_even s b))
leaves_node (j_node s d i k) ne h = rw (tree-append i k) (sym (frontier-append (tree i) (tree k)))

pub frontier_leaf_at : {l : List ℕ} {i : ℕ} {k : Judged} → Here l i k → get_or l i 0 / 8 % 2 ≡ 0 → frontier (tree k) ≡ get_or l i 0 / 16 ∷ frontier (tree (opened k))
frontier_leaf_at {k = k} p h = rw (← p.head) (leaves_leaf k p.some (rw (← p.head) at h))

pub frontier-node_at : {l : List ℕ} {i : ℕ} {k : Judged} → Here l i k → (get_or l i 0 / 8 % 2 ≡ 0 → ⊥) → frontier (tree k) ≡ frontier (tree (opened k))
frontier-node_at {k = k} p h = leaves_node k p.some (rw (← p.head) at h)

-- `rest` are the tokens of a sequence k that is left of any sequence j with the tokens l, and the two are as Q says.
pub record StillLeft (l rest : List ℕ) (Q : Judged → Judged → Type 0) : Type 0 where
  pub at : (j : Judged) → l ≡ encode j → (k : Judged) × (rest ≡ encode k) × Q j k

pub all_left : {l rest : List ℕ} {Q : Judged → Judged → Type 0} → rest ≡ l → ((j : Judged) → Q j j) → StillLeft l rest Q
all_left e q = record { at = λ j w. (j, e ∙ w, q j) }

-- One item is taken; none is left.
pub item_taken : {l s t x : List ℕ} {Q R : Judged → Judged → Type 0} → StillLeft l s Q
    → (length t < length s) × ((k : Judged) → s ≡ encode k → (x ≡ encode (first_of k)) × (t ≡ encode (rest_of k)))
    → ((j k : Judged) → 0 < length (encode k) → x ≡ encode (first_of k) → Q j k → R j (rest_of k)) → StillLeft l t R
item_taken h step go = record {
  at = λ j e.
      let r = h.at j e in
      let w = step.1 r.0 r.1 in
      (rest_of r.0, w.1, go j r.0 (omega (arith, step.0, ap length r.1)) w.0 r.2);
}

pub item_tokens : {l s t x : List ℕ} {Q : Judged → Judged → Type 0} → StillLeft l s Q → Tokens l
    → (length t < length s) × ((k : Judged) → s ≡ encode k → (x ≡ encode (first_of k)) × (t ≡ encode (rest_of k))) → Tokens x × (0 < length x)
item_tokens h p step =
    let r = h.at p.0 p.1 in
    let w = step.1 r.0 r.1 in
    ((first_of r.0, w.0), omega (arith, step.0, sizes r.0 r.1, ap length w.0, ap length w.1))

pub none_left : {l s : List ℕ} {Q : Judged → Judged → Type 0} → StillLeft l s Q → length s ≡ 0 → (j : Judged) → l ≡ encode j → Q j j_nil
none_left {Q = Q} h z j e = let r = h.at j e in subst (Q j) (at_end r.0 r.1 z) r.2
