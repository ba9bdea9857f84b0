-- What is seen of a sequence, item by item.
use mathlib.Core.Option.{some}
use mathlib.Core.Path.{◌≡◌, refl, sym, ◌∙◌, ap}
use mathlib.Core.Bool.{Bool, true, false, not, cond, ◌&&◌}
use mathlib.Core.List.{[], ◌∷◌, ◌++◌, append-nil}
use Prim.Native.Nat.{ℕ, zero, suc, ◌+◌, ◌<◌}
use native.Mathlib.Omega.{arith}
use borrow.Author.Tests.{ne_eqb, le-ltb}
use lib.Dec.{eqb, ltb}
use lib.ListN.{length, length-append}
use Rattle.spec_orders.specs.Tree.{Kind, P, C, nil, rev}
use Rattle.spec_orders.specs.Form.{first}
use Rattle.spec_orders.specs.TreeText.{digits, text, more}
use Rattle.tree_tokens.specs.Tokens.{Judged, j_nil, j_leaf, j_node, tree, encode}
use Rattle.tree_tokens.specs.declared.ItemShape.TheVariants.{Leaf, PNode, CNode}
use Rattle.tree_tokens.specs.Views.{shape_of, leaf_of, first_of, items_of, rest_of}
use Rattle.tree_tokens.proofs.Counts.{last_or, last_start, last_next}
use Rattle.text_scanner.specs.Rule.{is_p, is_c, or_else, broken_at}
use Rattle.text_rules.specs.declared.Seen.{Seen}
use Rattle.text_rules.specs.Seen.{found_byte, Saw}
use Rattle.std.specs.Prelude.{Option, Some, None}
use Rattle.std.specs.Option.{option_or}
use Rattle.std.specs.Bool.{then_some}

-- The first of two bytes that is not 0.
not_zero : (p : ℕ) → eqb (suc p) 0 ≡ false
not_zero p = ne_eqb (suc p) 0 (λ e. omega (arith, e))

or_none : (p : ℕ) → or_else p 0 ≡ p
or_none zero = refl
or_none (suc p) = rw (not_zero p)

found_or : (p q : ℕ) → found_byte (or_else p q) ≡ option_or (found_byte p) (found_byte q)
found_or zero q = refl
found_or (suc p) q = rw (not_zero p)

found_cond : (c : Bool) (o p : ℕ) → 0 < o → found_byte (cond c o p) ≡ option_or (then_some c o) (found_byte p)
found_cond true zero p h = absurd (omega arith)
found_cond true (suc o) p h = refl
found_cond false o p h = refl

either_assoc : (p q r : Option ℕ) → option_or p (option_or q r) ≡ option_or (option_or p q) r
either_assoc None q r = refl
either_assoc (Some p) q r = refl

either_none : (p : Option ℕ) → option_or p None ≡ p
either_none None = refl
either_none (Some p) = refl

or_cond : (c : Bool) (o p q : ℕ) → 0 < o → cond c o (or_else p q) ≡ or_else (cond c o p) q
or_cond true zero p q h = absurd (omega arith)
or_cond true (suc o) p q h = rw (not_zero o)
or_cond false o p q h = refl

-- No leaf is below 0.
not_below : (k : Kind) (b : ℕ) → is_p k && ltb b 0 ≡ false
not_below P b = le-ltb b 0 (omega arith)
not_below C b = refl

-- A sequence by its first item: the text, and the least byte.
text_split : (j : Judged) → 0 < length (encode j) → length (text (tree j)) ≡ length (text (tree (first_of j))) + length (more (tree (rest_of j)))
unfolding encode first_of rest_of
text_split j_nil n = absurd (omega arith)
text_split (j_leaf s b j) n = omega (arith, length-append (digits b) (more (tree j)), length-append (digits b) [])
text_split (j_node s k i j) n = omega (arith, length-append (text (tree i)) (41 ∷ more (tree j)), length-append (text (tree i)) (41 ∷ []))

more_text : (j : Judged) → 0 < length (encode j) → length (more (tree j)) ≡ suc (length (text (tree j)))
unfolding encode
more_text j_nil n = absurd (omega arith)
more_text (j_leaf s b j) n = refl
more_text (j_node s k i j) n = refl

broken_split : (k : Kind) (m o : ℕ) (j : Judged) → 0 < length (encode j) → 0 < o
    → broken_at k m o (tree j) ≡ or_else (cond (is_p k && ltb (first (tree j)) m) o (broken_at C 0 o (tree (first_of j)))) (broken_at k (first (tree j)) (o + length (text (tree (first_of j))) + 1) (tree (rest_of j)))
unfolding encode first_of rest_of broken_at
broken_split k m o j_nil n h = absurd (omega arith)
broken_split k m o (j_leaf s b j) n h = rw (append-nil (digits b)) (or_cond (is_p k && ltb b m) o 0 (broken_at k b (o + length (digits b) + 1) (tree j)) h)
broken_split k m o (j_node s d i j) n h =
    let e : o + suc (suc (length (text (tree i) ++ (41 ∷ [])))) + 1 ≡ o + length (text (tree i)) + 4 = omega (arith, length-append (text (tree i)) (41 ∷ [])) in
    let p = broken_at d 0 (o + 2) (tree i) in
    let q = broken_at k (first (tree i)) (o + length (text (tree i)) + 4) (tree j) in
    let turned = is_c d && ltb (first (rev (tree i))) (first (tree i)) in
    let below = is_p k && ltb (first (tree i)) m in
    rw (e, or_none p) (ap (cond below o) (or_cond turned (o + 2) p q (omega arith)) ∙ or_cond below o (cond turned (o + 2) p) q h)

-- The first item alone: how many tokens it has, and its first leaf.
pub first_size : (j : Judged) → 0 < length (encode j) → length (encode (first_of j)) ≡ suc (length (encode (items_of j)))
unfolding encode items_of first_of
first_size j_nil n = absurd (omega arith)
first_size (j_leaf s b j) n = refl
first_size (j_node s k i j) n = ap suc (ap length (append-nil (encode i)))

first-same : (j : Judged) → first (tree (first_of j)) ≡ first (tree j)
unfolding first_of
first-same j_nil = refl
first-same (j_leaf s b j) = refl
first-same (j_node s k i j) = refl

one_last : (j : Judged) → first (rev (tree (first_of j))) ≡ first (tree j)
unfolding first_of
one_last j_nil = refl
one_last (j_leaf s b j) = refl
one_last (j_node s k i j) = refl

-- The least byte, where t was seen of the first item.
broken_next : (k : Kind) (m o : ℕ) (j : Judged) {t : Seen} → 0 < length (encode j) → 0 < o → Saw C o (tree (first_of j)) t
    → found_byte (broken_at k m o (tree j))
    ≡ option_or (then_some (is_p k && ltb t.first m) o) (option_or t.broken (found_byte (broken_at k t.first (t.end + 1) (tree (rest_of j)))))
broken_next k m o j n h w = rw (w.first_leaf ∙ first-same j, w.least_broken, w.text_end) (
    ap found_byte (broken_split k m o j n h)
    ∙ found_or _ _
    ∙ ap (λ p. option_or p (found_byte (broken_at k (first (tree j)) (o + length (text (tree (first_of j))) + 1) (tree (rest_of j)))))
    (found_cond (is_p k && ltb (first (tree j)) m) o (broken_at C 0 o (tree (first_of j))) h)
    ∙ sym (either_assoc (then_some (is_p k && ltb (first (tree j)) m) o) _ _)
    )

-- No item; a leaf alone; a node alone, of whose items r was seen.
pub saw_none : (k : Kind) (o : ℕ) {r : Seen} → r.first ≡ 0 → r.last ≡ 0 → r.end ≡ o → r.broken ≡ None → Saw k o nil r
unfolding broken_at
saw_none k o a b c d = record { first_leaf = a; last_leaf = b; text_end = omega arith; least_broken = d }

pub saw_leaf : (j : Judged) (o : ℕ) {r : Seen} → shape_of j ≡ some Leaf → r.first ≡ leaf_of j → r.last ≡ leaf_of j → r.end ≡ o + length (digits (leaf_of j)) → r.broken ≡ None
    → Saw C o (tree (first_of j)) r
unfolding shape_of leaf_of first_of broken_at
saw_leaf j_nil o h a b c d = cc
saw_leaf (j_leaf s v j) o h a b c d = record { first_leaf = a; last_leaf = b; text_end = rw (append-nil (digits v)) c; least_broken = d }
saw_leaf (j_node s P i j) o h a b c d = cc
saw_leaf (j_node s C i j) o h a b c d = cc

-- The kind of the first item, a node.
abbrev pub kind_in : Judged → Kind
kind_in j_nil = P
kind_in (j_leaf s b j) = P
kind_in (j_node s k i j) = k

-- b says whether it is a P-node.
abbrev pub KindRead : Bool → Judged → Type 0
KindRead b j = (b ≡ is_p (kind_in j)) × (not b ≡ is_c (kind_in j)) × (shape_of j ≡ some Leaf → ⊥)

pub kind_p : (j : Judged) {b : Bool} → b ≡ true → some PNode ≡ shape_of j → KindRead b j
unfolding shape_of
kind_p j_nil q h = cc
kind_p (j_leaf s b j) q h = cc
kind_p (j_node s P i j) q h = (q, ap not q, λ x. cc)
kind_p (j_node s C i j) q h = cc

pub kind_c : (j : Judged) {b : Bool} → b ≡ false → some CNode ≡ shape_of j → KindRead b j
unfolding shape_of
kind_c j_nil q h = cc
kind_c (j_leaf s b j) q h = cc
kind_c (j_node s P i j) q h = cc
kind_c (j_node s C i j) q h = (q, ap not q, λ x. cc)

pub saw_node : (j : Judged) (o : ℕ) {r t : Seen} {turns : Bool} → 0 < length (encode j) → (shape_of j ≡ some Leaf → ⊥) → turns ≡ is_c (kind_in j) → Saw (kind_in j) (o + 2) (tree (items_of j)) r
    → t.first ≡ r.first → t.last ≡ r.first → t.end ≡ r.end + 1 → t.broken ≡ option_or (then_some (turns && ltb r.last r.first) (o + 2)) r.broken
    → Saw C o (tree (first_of j)) t
unfolding encode shape_of items_of first_of broken_at
saw_node j_nil o n h k w a b c d = absurd (omega arith)
saw_node (j_leaf s v j) o n h k w a b c d = absurd (h refl)
saw_node (j_node s k i j) o {r} n h e w a b c d = record {
  first_leaf = a ∙ w.first_leaf;
  last_leaf = b ∙ w.first_leaf;
  text_end = omega (arith, c, w.text_end, length-append (text (tree i)) (41 ∷ []));
  least_broken = d ∙ rw (e, or_none (broken_at k 0 (o + 2) (tree i)), ← w.first_leaf, ← w.last_leaf, w.least_broken)
      (sym (found_cond (is_c k && ltb r.last r.first) (o + 2) (broken_at k 0 (o + 2) (tree i)) (omega arith)));
}

-- s was seen of the items of j, of kind k from byte o on, before the items h.
pub record Goes (k : Kind) (o : ℕ) (s : Seen) (j h : Judged) : Type 0 where
  pub starts : first (tree j) ≡ s.first
  pub lasts : first (rev (tree j)) ≡ last_or s.last h
  pub ends : o + length (text (tree j)) ≡ s.end + length (more (tree h))
  pub breaks : found_byte (broken_at k 0 o (tree j)) ≡ option_or s.broken (found_byte (broken_at k s.last (s.end + 1) (tree h)))

-- The first item is seen; one more item, t; all items.
pub goes_start : (k : Kind) (o : ℕ) (j : Judged) {s : Seen} → 0 < o → 0 < length (encode j) → Saw C o (tree (first_of j)) s → Goes k o s j (rest_of j)
goes_start k o j {s} p n w = record {
  starts = sym (w.first_leaf ∙ first-same j);
  lasts = last_start j ∙ last_next 0 j n (w.last_leaf ∙ one_last j);
  ends = omega (arith, w.text_end, text_split j n);
  breaks = rw (not_below k s.first, w.first_leaf ∙ first-same j ∙ sym (w.last_leaf ∙ one_last j)) at (broken_next k 0 o j n p w);
}

pub goes_next : {k : Kind} {o : ℕ} {j : Judged} {s : Seen} (h : Judged) {t u : Seen} → Goes k o s j h → 0 < length (encode h) → Saw C (s.end + 1) (tree (first_of h)) t
    → u.first ≡ s.first → u.last ≡ t.first → u.end ≡ t.end → u.broken ≡ option_or (option_or s.broken (then_some (is_p k && ltb t.first s.last) (s.end + 1))) t.broken
    → Goes k o u j (rest_of h)
goes_next {k} {o} {j} {s} h {t} {u} g n w a b c d = record {
  starts = g.starts ∙ sym a;
  lasts = g.lasts ∙ last_next s.last h n (b ∙ w.first_leaf ∙ first-same h);
  ends = omega (arith, g.ends, c, w.text_end, text_split h n, more_text h n);
  breaks = g.breaks ∙ rw (b, c, d) (ap (option_or s.broken) (broken_next k s.last (s.end + 1) h n (omega arith) w)
      ∙ either_assoc s.broken _ _ ∙ either_assoc (option_or s.broken (then_some (is_p k && ltb t.first s.last) (s.end + 1))) t.broken _);
}

pub goes_end : {k : Kind} {o : ℕ} {j : Judged} {s : Seen} → Goes k o s j j_nil → Saw k o (tree j) s
unfolding broken_at
goes_end {s = s} g = record {
  first_leaf = sym g.starts;
  last_leaf = sym g.lasts;
  text_end = omega (arith, g.ends);
  least_broken = sym (g.breaks ∙ either_none s.broken);
}
