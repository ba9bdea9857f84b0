-- What lies in a buffer and what is laid round it; the two directions of a C-node, and the place of a tree among sorted items.
use mathlib.Core.Path.{◌≡◌, refl, sym, ap, ◌∙◌}
use mathlib.Core.Bool.{Bool, true, false, cond}
use mathlib.Core.List.{List, [], ◌∷◌, ◌++◌, append_assoc, append-nil}
use Prim.Native.Nat.{ℕ, ◌+◌, ◌-◌, ◌*◌, ◌≤◌, ◌<◌}
use native.Mathlib.Omega.{arith}
use borrow.Rule.Slice.PartMut.{put_mid}
use lib.Dec.{ltb}
use lib.ListN.{length, take, drop, get_or, set, length-append, length-drop, take-append-drop, drop_of_length-le}
use lib.Seq.{length-take-le, take_all, take_at, drop_at, take-append_seam, drop-drop, append_snoc, set_at}
use Rattle.spec_orders.specs.Tree.{Kind, Forest, nil, leaf, node, items, append, rev}
use Rattle.spec_orders.specs.Form.{first}
use Rattle.spec_orders.specs.Reduce.{put_sorted, pack}
use Rattle.spec_orders.proofs.Laws.{forest_assoc, forest_nil, rev-append, rev_perm, items-append}
use Rattle.spec_orders.proofs.Rearranged.{perm_length}
use Rattle.tree_tokens.specs.Tokens.{Judged, j_nil, j_leaf, j_node, tree, plain, j_rev, encode, Wrote, flat}
use Rattle.tree_tokens.specs.Views.{first_of, rest_of}
use Rattle.tree_tokens.proofs.Sequences.{tree-append, tree_plain, plain-length}
use Rattle.tree_tokens.proofs.Writes.{take_more}
use Rattle.tree_judge.specs.Total.{c_node_of}
use Rattle.tree_pieces.proofs.Laws.{flat_nil, flat_append, flat_turned, flat_kept, flat-pack, pack-few, pack_many, put_sorted-items}
use Rattle.tree_laid.specs.declared.Laid.{Laid}
use Rattle.tree_laid.specs.Lying.{StandsIn, Lies, lower, upper}
use borrow.Author.Tests.{lt-ltb, le-ltb}

-- The numbers at from..to, with what stands before and behind them.
pub record Around (xs buf : List ℕ) (from to : ℕ) : Type 0 where
  pub before : List ℕ
  pub after : List ℕ
  pub whole : buf ≡ before ++ (xs ++ after)
  pub start : length before ≡ from
  pub many : to ≡ from + length xs

pub around : {xs buf : List ℕ} {from to : ℕ} → StandsIn xs buf from to → to ≤ length buf → Around xs buf from to
around {xs} {buf} {from} {to} h l = record {
  before = take from buf;
  after = drop (to - from) (drop from buf);
  whole =
      sym (take-append-drop from buf)
      ∙ ap (λ (r : List ℕ). take from buf ++ r) (sym (take-append-drop (to - from) (drop from buf)) ∙ ap (λ (r : List ℕ). r ++ drop (to - from) (drop from buf)) h.text);
  start = length-take-le from buf (omega (arith, h.many));
  many = h.many;
}

pub holds : {xs buf : List ℕ} {from to : ℕ} → Around xs buf from to → StandsIn xs buf from to
holds {xs} {buf} {from} {to} a = record { many = a.many; text = text }
  where
    count : to - from ≡ length xs
    count = omega (arith, a.many)

    text : take (to - from) (drop from buf) ≡ xs
    text =
        ap (λ (l : List ℕ). take (to - from) (drop from l)) a.whole
        ∙ ap (take (to - from)) (drop_at a.before (xs ++ a.after) from a.start)
        ∙ ap (λ (n : ℕ). take n (xs ++ a.after)) count
        ∙ take-append_seam xs a.after

long : {xs buf : List ℕ} {from to : ℕ} (a : Around xs buf from to) → length buf ≡ from + (length xs + length a.after)
long {xs} a = omega (arith, ap length a.whole, length-append a.before (xs ++ a.after), length-append xs a.after, a.start)

-- A text written before them, behind them; one number before them.
pub around_left : {xs ys buf part : List ℕ} {from to p k : ℕ} → Around xs buf from to → p + length ys ≡ from → Wrote ys (take (from - p) (drop p buf)) part k
    → Around (ys ++ xs) (put_mid p (from - p) buf part) p to
around_left {xs} {ys} {buf} {part} {from} {to} {p} a e w = record {
  before = take p buf;
  after = a.after;
  whole =
      ap (λ (l : List ℕ). take p buf ++ (l ++ drop (from - p) (drop p buf))) alone
      ∙ ap (λ (l : List ℕ). take p buf ++ (ys ++ l)) back
      ∙ ap (λ (l : List ℕ). take p buf ++ l) (sym (append_assoc ys xs a.after));
  start = length-take-le p buf (omega (arith, long a));
  many = omega (arith, a.many, e, length-append ys xs);
}
  where
    room : length (take (from - p) (drop p buf)) ≡ from - p
    room = length-take-le (from - p) (drop p buf) (omega (arith, length-drop p buf, long a))

    alone : part ≡ ys
    alone = w.text ∙ ap (λ (l : List ℕ). ys ++ l) (drop_of_length-le (take (from - p) (drop p buf)) {i = length ys} (omega (arith, room, e))) ∙ append-nil ys

    seam : p + (from - p) ≡ from
    seam = omega (arith, e)

    back : drop (from - p) (drop p buf) ≡ xs ++ a.after
    back =
        drop-drop (from - p) p buf ∙ ap (λ (n : ℕ). drop n buf) seam ∙ ap (drop from) a.whole
        ∙ drop_at a.before (xs ++ a.after) from a.start

pub around_right : {xs ys buf part : List ℕ} {from to k : ℕ} → Around xs buf from to → Wrote ys (take (length buf - to) (drop to buf)) part k
    → Around (xs ++ ys) (put_mid to (length buf - to) buf part) from (to + k)
around_right {xs} {ys} {buf} {part} {from} {to} {k} a w = record {
  before = a.before;
  after = after;
  whole =
      ap (λ (l : List ℕ). l ++ (part ++ drop (length buf - to) (drop to buf))) front
      ∙ ap (λ (l : List ℕ). (a.before ++ xs) ++ (part ++ l)) none
      ∙ ap (λ (l : List ℕ). (a.before ++ xs) ++ l) (append-nil part ∙ w.text)
      ∙ append_assoc a.before xs (ys ++ after)
      ∙ ap (λ (l : List ℕ). a.before ++ l) (sym (append_assoc xs ys after));
  start = a.start;
  many = omega (arith, a.many, w.many, length-append xs ys);
}
  where
    after : List ℕ
    after = drop (length ys) (take (length buf - to) (drop to buf))

    front : take to buf ≡ a.before ++ xs
    front =
        ap (take to) (a.whole ∙ sym (append_assoc a.before xs a.after))
        ∙ take_at (a.before ++ xs) a.after to (omega (arith, length-append a.before xs, a.start, a.many))

    none : drop (length buf - to) (drop to buf) ≡ []
    none = drop_of_length-le (drop to buf) {i = length buf - to} (omega (arith, length-drop to buf))

pub around_head : (h : ℕ) {xs buf : List ℕ} {from to p : ℕ} → Around xs buf from to → p + 1 ≡ from → Around (h ∷ xs) (set buf p h) p to
around_head h {xs} {buf} {from} {to} {p} a e = record {
  before = take p a.before;
  after = a.after;
  whole =
      ap (λ (l : List ℕ). set l p h) (a.whole ∙ ap (λ (l : List ℕ). l ++ (xs ++ a.after)) split ∙ append_snoc (take p a.before) (get_or a.before p 0) (xs ++ a.after))
      ∙ set_at (take p a.before) (get_or a.before p 0) (xs ++ a.after) h p (length-take-le p a.before (omega (arith, a.start)));
  start = length-take-le p a.before (omega (arith, a.start));
  many = omega (arith, a.many, e);
}
  where
    split : a.before ≡ take p a.before ++ (get_or a.before p 0 ∷ [])
    split = sym (take_all (p + 1) a.before (omega (arith, a.start))) ∙ take_more a.before p (omega (arith, a.start))

pub settled : (kind : ℕ) (a b c : List ℕ) {n : ℕ} {buf : List ℕ} {from to : ℕ} → n ≡ length (a ++ (b ++ c)) → Around ((32 * n + kind) ∷ ((a ++ b) ++ c)) buf from to
    → StandsIn ((32 * length (a ++ (b ++ c)) + kind) ∷ (a ++ (b ++ c))) buf from to
settled kind a b c e w = rw (← e, ← append_assoc a b c) (holds w)

pub three_long : (a b c : List ℕ) → length (a ++ (b ++ c)) ≡ length a + (length b + length c)
three_long a b c = omega (arith, length-append a (b ++ c), length-append b c)

-- Two texts in one slice, as the parts that are read next.
pub both_parts : {xs ys old new : List ℕ} {k m : ℕ} → Wrote (xs ++ ys) old new m → k ≡ length xs
    → (take (k - 0) (drop 0 new) ≡ xs) × (take (m - k) (drop k new) ≡ ys)
both_parts {xs} {ys} {old} {new} {k} {m} w e = (
  ap (λ (n : ℕ). take n new) one ∙ ap (take k) whole ∙ take_at xs (ys ++ rest) k (sym e),
  ap (λ (l : List ℕ). take (m - k) (drop k l)) whole
      ∙ ap (take (m - k)) (drop_at xs (ys ++ rest) k (sym e))
      ∙ take_at ys rest (m - k) (omega (arith, w.many, length-append xs ys, e)),
)
  where
    rest : List ℕ
    rest = drop (length (xs ++ ys)) old

    one : k - 0 ≡ k
    one = omega arith

    whole : new ≡ xs ++ (ys ++ rest)
    whole = w.text ∙ append_assoc xs ys rest

-- The first leaf of a sequence with an item; a sequence of one item; one with tokens; with none.
pub first_some : (f g : Forest) → 0 < length (items f) → first (append f g) ≡ first f
first_some nil g h = absurd (omega arith)
first_some (leaf b f) g h = refl
first_some (node k i f) g h = refl

pub some_items : (f : Forest) → (length (flat f) ≡ 0 → ⊥) → 0 < length (items f)
some_items nil h = absurd (h (ap length flat_nil))
some_items (leaf b f) h = omega arith
some_items (node k i f) h = omega arith

pub last_some : (g f : Forest) → 0 < length (items f) → first (rev (append g f)) ≡ first (rev f)
last_some g f h = ap first (rev-append g f) ∙ first_some (rev f) (rev g) (omega (arith, h, perm_length (rev_perm f)))

pub tokens_items : (j : Judged) {l : List ℕ} → l ≡ encode j → (length l ≡ 0 → ⊥) → 0 < length (items (tree j))
tokens_items j e h = some_items (tree j) (λ z. h (ap length e ∙ sym (plain-length j) ∙ z))

pub rev-one : (g : Forest) → length (items g) ≡ 1 → rev g ≡ g
rev-one nil h = refl
rev-one (leaf b nil) h = refl
rev-one (leaf b (leaf c f)) h = absurd (omega arith)
rev-one (leaf b (node k i f)) h = absurd (omega arith)
rev-one (node k i nil) h = refl
rev-one (node k i (leaf c f)) h = absurd (omega arith)
rev-one (node k i (node d e f)) h = absurd (omega arith)

pub no_tokens : (f : Forest) → length (flat f) ≡ 0 → f ≡ nil
unfolding encode
no_tokens nil h = refl
no_tokens (leaf b f) h = absurd (omega arith)
no_tokens (node k i f) h = absurd (omega arith)

pub tree-rev : (j : Judged) → tree (j_rev j) ≡ rev (tree j)
tree-rev j_nil = refl
tree-rev (j_leaf s b j) = tree-append (j_rev j) (j_leaf s b j_nil) ∙ ap (λ (f : Forest). append f (leaf b nil)) (tree-rev j)
tree-rev (j_node s k i j) = tree-append (j_rev j) (j_node s k i j_nil) ∙ ap (λ (f : Forest). append f (node k (tree i) nil)) (tree-rev j)

-- Items a and b round the one item of g: the first leaf, and that of the last item.
module _ (a g b : Forest) (h : length (items g) ≡ 1) where
  some_inner : 0 < length (items (append g b))
  some_inner = omega (arith, ap length (items-append g b), length-append (items g) (items b))

  pub leaf_inner : {c : ℕ} → c ≡ first g → c ≡ first (append g b)
  leaf_inner e = e ∙ sym (first_some g b (omega arith))

  pub last_inner : {c : ℕ} → c ≡ first g → c ≡ first (rev g)
  last_inner e = e ∙ ap first (sym (rev-one g h))

  pub last_outer : {c : ℕ} → c ≡ first (rev (append g b)) → c ≡ first (rev (append a (append g b)))
  last_outer e =
      e
      ∙ sym (first_some (rev (append g b)) (rev a) (omega (arith, some_inner, perm_length (rev_perm (append g b)))))
      ∙ ap first (sym (rev-append a (append g b)))

  pub turned_is : rev (append a (append g b)) ≡ append (rev b) (append g (rev a))
  turned_is =
      rev-append a (append g b) ∙ ap (λ (f : Forest). append f (rev a)) (rev-append g b ∙ ap (append (rev b)) (rev-one g h))
      ∙ forest_assoc (rev b) g (rev a)

-- The tokens of a node round g, and what lies then.
abbrev pub tokens_round : Forest → Forest → Forest → List ℕ
tokens_round a g b = flat a ++ (flat g ++ flat b)

pub tokens_are : (a g b : Forest) → tokens_round a g b ≡ flat (append a (append g b))
tokens_are a g b = sym (flat_append a (append g b) ∙ ap (λ (l : List ℕ). flat a ++ l) (flat_append g b))

pub lies : (n f a g b : Forest) (kind : ℕ) {buf : List ℕ} {u : Laid} → f ≡ append a (append g b) → flat n ≡ (32 * length (flat f) + kind) ∷ flat f
    → u.first ≡ first n → length (items n) ≡ 1 → StandsIn ((32 * length (tokens_round a g b) + kind) ∷ tokens_round a g b) buf u.from u.to → Lies n buf u
lies n f a g b kind e t l s h =
    let q : tokens_round a g b ≡ flat f = tokens_are a g b ∙ ap flat (sym e) in
    record { held = rw (t, ← q) h; leaf_is = l; single = s }

pub c_one : (f : Forest) → length (items (c_node_of f)) ≡ 1
unfolding c_node_of
c_one f = refl

pub c_first_kept : (f : Forest) → (first (rev f) < first f → ⊥) → first (c_node_of f) ≡ first f
unfolding c_node_of
c_first_kept f h = rw (le-ltb (first (rev f)) (first f) (omega arith))

pub c_first_turned : (f : Forest) → first (rev f) < first f → first (c_node_of f) ≡ first (rev f)
unfolding c_node_of
c_first_turned f h = rw (lt-ltb (first (rev f)) (first f) h)

pub lies_kept : (a g b : Forest) {buf : List ℕ} {u : Laid} → (first (rev (append a (append g b))) < first (append a (append g b)) → ⊥)
    → u.first ≡ first (append a (append g b)) → StandsIn ((32 * length (tokens_round a g b) + 24) ∷ tokens_round a g b) buf u.from u.to
    → Lies (c_node_of (append a (append g b))) buf u
lies_kept a g b n l h =
    let f = append a (append g b) in
    lies (c_node_of f) f a g b 24 refl (flat_kept f n refl) (l ∙ sym (c_first_kept f n)) (c_one f) h

pub lies_turned : (a g b p q : Forest) {buf : List ℕ} {u : Laid} → length (items g) ≡ 1 → p ≡ rev b → q ≡ rev a
    → first (rev (append a (append g b))) < first (append a (append g b)) → u.first ≡ first (rev (append a (append g b)))
    → StandsIn ((32 * length (tokens_round p g q) + 24) ∷ tokens_round p g q) buf u.from u.to → Lies (c_node_of (append a (append g b))) buf u
lies_turned a g b p q s ep eq n l h =
    let f = append a (append g b) in
    let t : rev f ≡ append p (append g q) = rw (ep, eq) (turned_is a g b s) in
    lies (c_node_of f) (rev f) p g q 24 t (flat_turned f n refl) (l ∙ sym (c_first_turned f n)) (c_one f) h

-- The items before the first one with a larger first leaf, and those from it on.
abbrev put-between : ℕ → Forest → Forest → Forest
put-between b g f = append (lower b f) (append g (upper b f))

sorted_leaf : (d : Bool) (c : ℕ) (g l r f s : Forest) → s ≡ append l (append g r)
    → cond d (append g (leaf c f)) (leaf c s) ≡ append (cond d nil (leaf c l)) (append g (cond d (leaf c f) r))
sorted_leaf true c g l r f s e = refl
sorted_leaf false c g l r f s e = ap (leaf c) e

sorted_node : (d : Bool) (k : Kind) (i g l r f s : Forest) → s ≡ append l (append g r)
    → cond d (append g (node k i f)) (node k i s) ≡ append (cond d nil (node k i l)) (append g (cond d (node k i f) r))
sorted_node true k i g l r f s e = refl
sorted_node false k i g l r f s e = ap (node k i) e

pub sorted_is : (g f : Forest) → put_sorted g f ≡ put-between (first g) g f
sorted_is g nil = sym (forest_nil g)
sorted_is g (leaf c f) = sorted_leaf (ltb (first g) c) c g (lower (first g) f) (upper (first g) f) f (put_sorted g f) (sorted_is g f)
sorted_is g (node k i f) = sorted_node (ltb (first g) (first i)) k i g (lower (first g) f) (upper (first g) f) f (put_sorted g f) (sorted_is g f)

parts_leaf : (d : Bool) (c : ℕ) (l r f : Forest) → append l r ≡ f → append (cond d nil (leaf c l)) (cond d (leaf c f) r) ≡ leaf c f
parts_leaf true c l r f e = refl
parts_leaf false c l r f e = ap (leaf c) e

parts_node : (d : Bool) (k : Kind) (i l r f : Forest) → append l r ≡ f → append (cond d nil (node k i l)) (cond d (node k i f) r) ≡ node k i f
parts_node true k i l r f e = refl
parts_node false k i l r f e = ap (node k i) e

pub parts_are : (b : ℕ) (f : Forest) → append (lower b f) (upper b f) ≡ f
parts_are b nil = refl
parts_are b (leaf c f) = parts_leaf (ltb b c) c (lower b f) (upper b f) f (parts_are b f)
parts_are b (node k i f) = parts_node (ltb b (first i)) k i (lower b f) (upper b f) f (parts_are b f)

pub lies_p : (a g b e : Forest) {buf : List ℕ} {u : Laid} → length (items g) ≡ 1 → put_sorted g e ≡ append a (append g b) → (length (flat e) ≡ 0 → ⊥)
    → u.first ≡ first (append a (append g b)) → StandsIn ((32 * length (tokens_round a g b) + 8) ∷ tokens_round a g b) buf u.from u.to
    → Lies (pack (put_sorted g e)) buf u
lies_p a g b e s q n l h =
    let f = put_sorted g e in
    let two : length (items f) < 2 → ⊥ = λ x. omega (arith, x, put_sorted-items g e, some_items e n, s) in
    let m = pack_many f two in
    lies (pack f) f a g b 8 q (flat-pack f two refl) (l ∙ ap first (sym q) ∙ ap first (sym m)) (ap (λ (t : Forest). length (items t)) m) h

pub lies_alone : (g e : Forest) {buf : List ℕ} {u : Laid} → length (flat e) ≡ 0 → Lies g buf u → Lies (pack (put_sorted g e)) buf u
lies_alone g e h l = rw (no_tokens e h, pack-few g (omega (arith, l.single))) l

pub sorted_by : (g e : Forest) {b : ℕ} → b ≡ first g → put_sorted g e ≡ append (tree (plain (lower b e))) (append g (tree (plain (upper b e))))
sorted_by g e {b} q = rw (q, tree_plain (lower (first g) e), tree_plain (upper (first g) e)) (sorted_is g e)

pub split_parts : (b : ℕ) (e : Forest) {old new : List ℕ} {k m : ℕ} → Wrote (flat e) old new m → k ≡ length (flat (lower b (tree (plain e))))
    → (take (k - 0) (drop 0 new) ≡ flat (lower b e)) × (take (m - k) (drop k new) ≡ flat (upper b e))
split_parts b e {old} {new} {k} {m} w q =
    let t : flat e ≡ flat (lower b e) ++ flat (upper b e) = ap flat (sym (parts_are b e)) ∙ flat_append (lower b e) (upper b e) in
    let v : Wrote (flat (lower b e) ++ flat (upper b e)) old new m = rw (← t) w in
    both_parts v (q ∙ ap (λ (f : Forest). length (flat (lower b f))) (tree_plain e))

pub parts_long : (b : ℕ) (e : Forest) → length (flat e) ≡ length (flat (lower b e)) + length (flat (upper b e))
parts_long b e = ap (λ (f : Forest). length (flat f)) (sym (parts_are b e)) ∙ ap length (flat_append (lower b e) (upper b e)) ∙ length-append (flat (lower b e)) (flat (upper b e))

-- How many tokens stand before the first item with a first leaf above b: none, the first item's and those before it, where there is no item.
pub lower_here : (b : ℕ) (j : Judged) → b < first (tree j) → length (flat (lower b (tree j))) ≡ 0
unfolding encode
lower_here b j_nil h = refl
lower_here b (j_leaf s c j) h = rw (lt-ltb b c h)
lower_here b (j_node s k i j) h = rw (lt-ltb b (first (tree i)) h)

pub lower_on : (b : ℕ) (j : Judged) → (b < first (tree j) → ⊥) → length (flat (lower b (tree j))) ≡ length (encode (first_of j)) + length (flat (lower b (tree (rest_of j))))
unfolding encode first_of rest_of
lower_on b j_nil h = refl
lower_on b (j_leaf s c j) h = rw (le-ltb b c (omega arith)) (omega arith)
lower_on b (j_node s k i j) h =
    rw (le-ltb b (first (tree i)) (omega arith)) (omega (
      arith,
      length-append (flat (tree i)) (flat (lower b (tree j))),
      plain-length i,
      ap length (append-nil (encode i)),
    ))

pub lower_none : (b : ℕ) → length (flat (lower b (tree j_nil))) ≡ 0
unfolding encode
lower_none b = refl

-- What is written from place 512 on.
pub written_at : (buf : List ℕ) {xs part : List ℕ} {k : ℕ} → 512 ≤ length buf → Wrote xs (take (length buf - 512) (drop 512 buf)) part k
    → StandsIn xs (put_mid 512 (length buf - 512) buf part) 512 (512 + k)
written_at buf h w = holds (around_right (around {xs = []} {buf = buf} {from = 512} {to = 512} (record { many = refl; text = refl }) h) w)

pub laid_at : (g : Forest) {buf : List ℕ} {u : Laid} {e : ℕ} → StandsIn (flat g) buf 512 e → length (items g) ≡ 1
    → (u.from ≡ 512) × (u.to ≡ 512 + length (take (e - 512) (drop 512 buf))) × ((j : Judged) → take (e - 512) (drop 512 buf) ≡ encode j → u.first ≡ first (tree j))
    → ((u.from ≤ 512) × (512 ≤ u.to)) × Lies g buf u
laid_at g {buf} {u} {e} h s b =
    let to : u.to ≡ e = omega (arith, b.1, ap length h.text, h.many) in (
      (omega (arith, b.0), omega (arith, to, h.many)),
      record { held = rw (b.0, to) h; leaf_is = b.2 (plain g) h.text ∙ ap first (tree_plain g); single = s },
    )
