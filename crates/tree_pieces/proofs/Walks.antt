-- Going through the items of a sequence by an index, one item at a time.
use mathlib.Core.Path.{◌≡◌, refl, sym, ap, ◌∙◌}
use mathlib.Core.Bool.{Bool, true, false}
use mathlib.Core.List.{List, [], ◌++◌, append_assoc, append-nil}
use Prim.Native.Nat.{ℕ, ◌+◌, ◌-◌, ◌≤◌, ◌<◌}
use native.Mathlib.Omega.{arith}
use lib.ListN.{length, take, drop, get_or, length-append, length-drop}
use lib.Seq.{length-take-le, drop-cons, drop-drop}
use borrow.Rule.Slice.PartMut.{put_mid}
use Rattle.tree_tokens.specs.Tokens.{number, Judged, j_nil, j_leaf, j_node, tree, plain, j_append, encode, Tokens, Wrote, flat}
use Rattle.tree_tokens.specs.Views.{state_of, first_of, rest_of}
use Rattle.spec_orders.proofs.ListLaws.{part_to_end}
use Rattle.tree_tokens.proofs.Laws.{at_end}
use Rattle.tree_tokens.proofs.Sequences.{encode-append, tree-append, plain-append, plain-length, encode_injective}
use Rattle.tree_tokens.proofs.Writes.{wrote_none, wrote_then}
use Rattle.tree_spans.specs.Spans.{passing, beyond, Parted}
use Rattle.tree_spans.proofs.Laws.{passing-first, beyond-first, passing_none, beyond_all}
use Rattle.tree_judge.proofs.Items.{from_items, some_items, next-items}

-- The items from index i on are left: what g says of all items is f of what it says of them.
pub record Left {A : Type 0} (g : Judged → A) (f : A → A) (x : List ℕ) (i : ℕ) : Type 0 where
  pub left : Judged
  pub from : drop i x ≡ encode left
  pub same : (j : Judged) → x ≡ encode j → g j ≡ f (g left)

module _ {A : Type 0} (g : Judged → A) where
  pub left_all : (f : A → A) {x : List ℕ} → Tokens x → ((a : A) → f a ≡ a) → Left g f x 0
  left_all f t h = record { left = t.0; from = t.1; same = λ j e. ap g (encode_injective j t.0 (sym e ∙ t.1)) ∙ sym (h (g t.0)) }

  module _ {f : A → A} {x : List ℕ} {i : ℕ} (l : Left g f x i) where
    -- They are a part of the slice, with a first item.
    pub left_part : take (length x - i) (drop i x) ≡ encode l.left
    left_part = from_items l.left x i l.from

    pub left_some : i < length x → 0 < length (encode l.left)
    left_some h = some_items l.left x i l.from h

    -- Their first token stands at index i.
    pub left_token : i < length x → get_or (encode l.left) 0 0 ≡ get_or x i 0
    left_token h = ap (λ (y : List ℕ). get_or y 0 0) (sym l.from ∙ drop-cons x i 0 h)

    -- Some of them are passed, and others are left; the first of them is passed.
    abbrev pub left_on : (k : A → A) (m : ℕ) (next : Judged) → drop (i + m) x ≡ encode next → f (g l.left) ≡ k (g next) → Left g k x (i + m)
    left_on k m next d h = record { left = next; from = d; same = λ j e. l.same j e ∙ h }

    pub left-next : (k : A → A) {m : ℕ} → m ≡ length (encode (first_of l.left)) → f (g l.left) ≡ k (g (rest_of l.left)) → Left g k x (i + m)
    left-next k {m} em h = left_on k m (rest_of l.left) (next-items l.left x i l.from em) h

    -- They begin with r tokens of items that pass a test.
    pub left_parted : {p : ℕ → Bool} {r : ℕ} → Parted p (take (length x - i) (drop i x)) l.left r → drop (i + r) x ≡ encode (beyond p l.left)
    left_parted {r = r} w = sym (drop-drop r i x) ∙ ap (drop r) (sym (part_to_end x i)) ∙ w.back

    -- None is left.
    pub left_none : length x ≤ i → (j : Judged) → x ≡ encode j → g j ≡ f (g j_nil)
    left_none h j e = l.same j e ∙ ap (λ (k : Judged). f (g k)) (at_end l.left l.from (omega (arith, length-drop i x)))

-- A writer's walk: what g says of all items is what has been written and what it says of those that are left.
pub record Writing (g : Judged → List ℕ) (x old out : List ℕ) (i k : ℕ) : Type 0 where
  pub text : List ℕ
  pub wrote : Wrote text old out k
  pub rest : Left g (λ l. text ++ l) x i

module _ (g : Judged → List ℕ) where
  pub writing_none : {x : List ℕ} (old : List ℕ) → Tokens x → Writing g x old old 0 0
  writing_none old t = record { text = []; wrote = wrote_none old; rest = left_all g (λ l. [] ++ l) t (λ l. refl) }

  module _ {x old out : List ℕ} {i k : ℕ} (w : Writing g x old out i k) where
    -- Some items write nothing; they write ys.
    abbrev pub writing_past : (m : ℕ) (next : Judged) → drop (i + m) x ≡ encode next → g w.rest.left ≡ g next → Writing g x old out (i + m) k
    writing_past m next d h = record {
      text = w.text;
      wrote = w.wrote;
      rest = left_on g w.rest (λ l. w.text ++ l) m next d (ap (λ (l : List ℕ). w.text ++ l) h);
    }

    pub writing_on : {ys part : List ℕ} (m : ℕ) {r : ℕ} (next : Judged) → drop (i + m) x ≡ encode next → g w.rest.left ≡ ys ++ g next
        → Wrote ys (take (length out - k) (drop k out)) part r → Writing g x old (put_mid k (length out - k) out part) (i + m) (k + r)
    writing_on {ys} m next d h v = record {
      text = w.text ++ ys;
      wrote = wrote_then w.wrote v;
      rest = left_on g w.rest (λ l. (w.text ++ ys) ++ l) m next d
          (ap (λ (l : List ℕ). w.text ++ l) h ∙ sym (append_assoc w.text ys (g next)));
    }

    -- The first item writes nothing; it writes ys.
    pub writing_skip : {m : ℕ} → m ≡ length (encode (first_of w.rest.left)) → g w.rest.left ≡ g (rest_of w.rest.left) → Writing g x old out (i + m) k
    writing_skip {m} em h = writing_past m (rest_of w.rest.left) (next-items w.rest.left x i w.rest.from em) h

    pub writing_more : {ys part : List ℕ} {m r : ℕ} → m ≡ length (encode (first_of w.rest.left)) → g w.rest.left ≡ ys ++ g (rest_of w.rest.left)
        → Wrote ys (take (length out - k) (drop k out)) part r → Writing g x old (put_mid k (length out - k) out part) (i + m) (k + r)
    writing_more {m = m} em h v = writing_on m (rest_of w.rest.left) (next-items w.rest.left x i w.rest.from em) h v

    -- All items that are left write ys.
    pub writing_last : {ys part : List ℕ} {r : ℕ} → g w.rest.left ≡ ys → Wrote ys (take (length out - k) (drop k out)) part r
        → (j : Judged) → x ≡ encode j → Wrote (g j) old (put_mid k (length out - k) out part) (k + r)
    writing_last h v j e = rw (w.rest.same j e, h) (wrote_then w.wrote v)

    -- None is left.
    pub writing_end : length x ≤ i → g j_nil ≡ [] → (j : Judged) → x ≡ encode j → Wrote (g j) old out k
    writing_end h n j e = rw (left_none g w.rest h j e, n, append-nil) w.wrote

    -- There is room for what is left.
    pub writing_room : (j : Judged) → x ≡ encode j → length (g j) ≤ length old → k + length (g w.rest.left) ≤ length old
    writing_room j e h = omega (arith, w.wrote.many, ap length (w.rest.same j e), length-append w.text (g w.rest.left))

-- Items at the start that pass a test, each of which writes its own tokens, and what is written for the items behind them.
plain-join : (a b : Judged) → flat (tree (j_append a b)) ≡ flat (tree a) ++ flat (tree b)
plain-join a b = rw (tree-append a b, plain-append (tree a) (tree b)) (encode-append (plain (tree a)) (plain (tree b)))

module _ (p : ℕ → Bool) (g : Judged → List ℕ) where
  step-text : (k : Judged) → 0 < length (encode k)
      → (p (number (state_of k)) ≡ true → g k ≡ flat (tree (first_of k)) ++ g (rest_of k))
      → g (rest_of k) ≡ flat (tree (passing p (rest_of k))) ++ g (beyond p (rest_of k))
      → g k ≡ flat (tree (passing p k)) ++ g (beyond p k)
  unfolding encode
  step-text k ne h rec = go (p (number (state_of k))) refl
    where
      go : (b : Bool) → p (number (state_of k)) ≡ b → g k ≡ flat (tree (passing p k)) ++ g (beyond p k)
      go true t =
          let a = flat (tree (first_of k)) in
          let b = flat (tree (passing p (rest_of k))) in
          h t ∙ ap (λ (l : List ℕ). a ++ l) rec ∙ sym (append_assoc a b (g (beyond p (rest_of k))))
          ∙ rw (passing-first p k ne t, beyond-first p k t, plain-join (first_of k) (passing p (rest_of k)))
      go false f = rw (passing_none p k f, beyond_all p k f)

  pub passing-text : ((k : Judged) → 0 < length (encode k) → p (number (state_of k)) ≡ true → g k ≡ flat (tree (first_of k)) ++ g (rest_of k))
      → (j : Judged) → g j ≡ flat (tree (passing p j)) ++ g (beyond p j)
  unfolding encode passing beyond rest_of
  passing-text h j_nil = refl
  passing-text h (j_leaf s b j) = step-text (j_leaf s b j) (omega arith) (h (j_leaf s b j) (omega arith)) (passing-text h j)
  passing-text h (j_node s k i j) = step-text (j_node s k i j) (omega arith) (h (j_node s k i j) (omega arith)) (passing-text h j)

-- The first r tokens are as many as those without their states.
pub passing-length : {p : ℕ → Bool} {x : List ℕ} (j : Judged) {r : ℕ} → Parted p x j r → r ≤ length x → length (flat (tree (passing p j))) ≡ r
passing-length {p} {x} j {r} w h = plain-length (passing p j) ∙ sym (ap length w.front) ∙ length-take-le r x h
