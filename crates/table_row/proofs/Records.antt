-- The records beside tokens.
use mathlib.Core.Option.{some}
use mathlib.Core.Path.{◌≡◌, refl, sym, ap, ◌∙◌}
use mathlib.Core.List.{List, [], ◌∷◌, ◌++◌}
use Prim.Native.Nat.{ℕ, zero, suc, ◌+◌, ◌-◌, ◌/◌, ◌%◌, ◌<◌}
use native.Mathlib.Omega.{arith}
use native.Mathlib.Numerals.{add-one}
use lib.ListN.{length, take, drop, get_or}
use lib.Seq.{drop-drop, drop-cons, drop-append_seam}
use Rattle.spec_orders.specs.Form.{nodes}
use Rattle.spec_orders.proofs.ListLaws.{part_to_end}
use Rattle.tree_tokens.specs.Tokens.{Judged, tree, encode}
use Rattle.tree_tokens.specs.declared.ItemShape.TheVariants.{Leaf}
use Rattle.tree_tokens.specs.Views.{shape_of, first_of, items_of, rest_of}
use Rattle.tree_tokens.proofs.Laws.{encode_split}
use Rattle.tree_tokens.proofs.Counts.{node_tokens, node_tokens_drop, node_tokens_are, nodes_split}
use Rattle.tree_tokens.proofs.Sequences.{encode-append}
use Rattle.tree_tokens.proofs.Steps.{Here, encode-opened}
use Rattle.table_row.specs.Rows.{records_from}
use Rattle.table_row.proofs.Rows.{leaf_here, even_leaf}

-- How many nodes stand before index i.
abbrev pub before : List ℕ → ℕ → ℕ
before l i = node_tokens (take i l)

before_split : (l : List ℕ) (i : ℕ) → before l i + node_tokens (drop i l) ≡ node_tokens l
before_split l zero = omega arith
before_split [] (suc i) = refl
before_split (t ∷ l) (suc i) = omega (arith, before_split l i)

before_next : (l : List ℕ) (i : ℕ) → i < length l → before l (i + 1) ≡ before l i + get_or l i 0 / 8 % 2
before_next l i h = omega (arith, before_split l i, before_split l (i + 1), node_tokens_drop l i h)

-- A leaf on; a node's token on.
pub before_leaf : {l : List ℕ} {i : ℕ} {h : Judged} → Here l i h → i < length l → shape_of h ≡ some Leaf → before l (i + 1) ≡ before l i
before_leaf {l} {i} {h} p n s =
    let even : get_or l i 0 / 8 % 2 ≡ 0 = rw (← p.head) (even_leaf h s) in
    omega (arith, before_next l i n)

odd : (t : ℕ) → (t / 8 % 2 ≡ 0 → ⊥) → t / 8 % 2 ≡ 1
odd t h = omega arith

pub before_node : {l : List ℕ} {i : ℕ} {h : Judged} → Here l i h → i < length l → (shape_of h ≡ some Leaf → ⊥) → before l (i + 1) ≡ before l i + 1
before_node {l} {i} p n s = omega (arith, before_next l i n, odd (get_or l i 0) (λ z. s (leaf_here p z)))

-- The nodes of a sequence: those before index i, and those of what stands there.
here_nodes : {l : List ℕ} {i : ℕ} {h : Judged} → Here l i h → node_tokens (drop i l) ≡ nodes (tree h)
here_nodes {l} {i} {h} p = ap node_tokens (sym (part_to_end l i) ∙ p.part) ∙ node_tokens_are h

pub before_here : {l : List ℕ} {i : ℕ} (j : Judged) {h : Judged} → l ≡ encode j → Here l i h → nodes (tree j) ≡ before l i + nodes (tree h)
before_here {l} {i} j e p = omega (arith, before_split l i, here_nodes p, ap node_tokens e ∙ node_tokens_are j)

-- An item on; m is its size.
pub before_item : {l : List ℕ} {i m : ℕ} {h : Judged} → Here l i h → m ≡ length (encode (first_of h))
    → before l (i + m) ≡ before l i + nodes (tree (first_of h))
before_item {l} {i} {m} {h} p e =
    let left : drop (i + m) l ≡ encode (rest_of h) =
    sym (drop-drop m i l)
    ∙ ap (drop m) (sym (part_to_end l i) ∙ p.part ∙ encode_split h)
    ∙ rw e (drop-append_seam (encode (first_of h)) (encode (rest_of h))) in
    omega (arith, before_split l i, before_split l (i + m), here_nodes p, ap node_tokens left ∙ node_tokens_are (rest_of h), nodes_split h)

-- The records: how many, each of them, and those beside a part.
pub records_length : (r : ℕ) (l : List ℕ) → length (records_from r l) ≡ length l
records_length r [] = refl
records_length r (t ∷ l) = ap suc (records_length (r + t / 8 % 2) l)

pub records_at : (r : ℕ) (l : List ℕ) (i : ℕ) → i < length l → get_or (records_from r l) i 0 ≡ r + before l i
records_at r [] i h = absurd (omega arith)
records_at r (t ∷ l) zero h = omega arith
records_at r (t ∷ l) (suc i) h = omega (arith, records_at (r + t / 8 % 2) l i (omega arith))

records_drop : (r : ℕ) (l : List ℕ) (i : ℕ) → drop i (records_from r l) ≡ records_from (r + before l i) (drop i l)
records_drop r l zero = let e : r + 0 ≡ r = omega arith in rw e
records_drop r [] (suc i) = refl
records_drop r (t ∷ l) (suc i) =
    let e : r + t / 8 % 2 + before l i ≡ r + (t / 8 % 2 + before l i) = omega arith in
    records_drop (r + t / 8 % 2) l i ∙ ap (λ (m : ℕ). records_from m (drop i l)) e

records_front : (r : ℕ) (l m : List ℕ) → take (length l) (records_from r (l ++ m)) ≡ records_from r l
records_front r [] m = refl
records_front r (t ∷ l) m = ap (λ (x : List ℕ). r ∷ x) (records_front (r + t / 8 % 2) l m)

pub records_items : {l records inner : List ℕ} {i : ℕ} {h : Judged} → records ≡ records_from 0 l → Here l i h → i < length l → (shape_of h ≡ some Leaf → ⊥)
    → inner ≡ encode (items_of h) → take (i + 1 + length inner - (i + 1)) (drop (i + 1) records) ≡ records_from (before l i + 1) inner
records_items {l} {records} {inner} {i} {h} b p n s e =
    let next : 0 + before l (i + 1) ≡ before l i + 1 = omega (arith, before_node p n s) in
    let size : i + 1 + length inner - (i + 1) ≡ length inner = omega arith in
    let left : drop (i + 1) l ≡ inner ++ encode (rest_of h) =
    sym (drop-drop 1 i l) ∙ ap (drop 1) (sym (part_to_end l i) ∙ p.part) ∙ encode-opened h ∙ encode-append (items_of h) (rest_of h) ∙ rw e in
    let beside : drop (i + 1) records ≡ records_from (before l i + 1) (inner ++ encode (rest_of h)) =
    ap (drop (i + 1)) b ∙ records_drop 0 l (i + 1) ∙ rw (next, left) in
    rw (size, beside) (records_front (before l i + 1) inner (encode (rest_of h)))

-- One more.
pub records_next : (r : ℕ) (l : List ℕ) (i : ℕ) → i < length l
    → records_from r (drop i l) ≡ r ∷ records_from (r + get_or l i 0 / 8 % 2) (drop (i + 1) l)
records_next r l i h = rw (add-one, drop-cons l i 0 h)
