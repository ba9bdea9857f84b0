-- The whole text: one word, or the root and nothing after it.
use mathlib.Core.Path.{◌≡◌, refl, sym, ◌∙◌, ap, ap₂}
use Rattle.std.specs.Prelude.{◌≢◌}
use mathlib.Core.Bool.{false}
use mathlib.Core.List.{List, [], ◌∷◌, ◌++◌}
use Prim.Native.Nat.{ℕ, zero, suc, ◌+◌, ◌-◌, ◌≤◌, ◌<◌}
use native.Mathlib.Omega.{arith}
use native.Mathlib.Numerals.{add-one}
use borrow.Rule.Slice.PartMut.{put_mid}
use lib.ListN.{length, take, drop, get_or, set, replicate, length-replicate, drop_of_length-le}
use Rattle.spec_orders.specs.Lists.{numbers_from}
use Rattle.spec_orders.specs.CircularOrder.{others}
use Rattle.spec_orders.specs.Tree.{nil, node}
use Rattle.spec_orders.specs.TreeText.{letter, text, tree_text}
use Rattle.spec_orders.proofs.TextTree.{text_injective}
use Rattle.tree_tokens.specs.Tokens.{E, node_token}
use Rattle.text_scanner.specs.Scan.{TextAnswer, text_start, lit, pre, open_due, after, letter?, run_at, accepted, refused}
use Rattle.text_scanner.specs.Unused.{unused}
use Rattle.text_scanner.proofs.Moves.{at_end, all_read, word_read, word_byte, word_bad, word_over, pre_byte, pre_bad, pre_letter, pre_none, close_root, close_left, after_root}
use Rattle.text_scanner.proofs.Exact.{others-length, refused_shape, accepted_shape, start_pre}
use Rattle.std.specs.Prelude.{Option, Some, None, MatchOption, Result, Ok, Err}
use Rattle.std.specs.Option.{ok_or}
use Rattle.text_leaf.specs.declared.NodeKind.{NodeKind}
use Rattle.text_leaf.specs.declared.Reached.{Reached}
use Rattle.text_leaf.specs.Passages.{Marks, Stops, OpenedRead, tree_kind}
use Rattle.text_shape.specs.Texts.{TextBegins, Opening, Whole, WholeRead, ShapeRead}
use Rattle.text_number.proofs.Numerals.{drop-step}
use Rattle.text_node.proofs.Nodes.{is_letter, node_wrote}

-- A word, up to byte i.
module _ (x w : List ℕ) (i : ℕ) (e : run_at x 0 (lit w) ≡ run_at x i (lit (drop i w))) where
  module _ (h : i < length w) where
    next_byte : run_at x 0 (lit w) ≡ run_at x i (lit (get_or w i 0 ∷ drop (i + 1) w))
    next_byte = e ∙ ap (λ l. run_at x i (lit l)) (drop-step w i h)

    pub word_ends : length x ≤ i → run_at x 0 (lit w) ≡ refused i
    word_ends n = next_byte ∙ at_end x i (lit (get_or w i 0 ∷ drop (i + 1) w)) n refl

    module _ (n : i < length x) where
      pub word_differs : (get_or x i 0 ≡ get_or w i 0 → ⊥) → run_at x 0 (lit w) ≡ refused i
      word_differs d = next_byte ∙ word_bad x i n (get_or w i 0) (drop (i + 1) w) d

      pub word_goes : get_or x i 0 ≡ get_or w i 0 → run_at x 0 (lit w) ≡ run_at x (i + 1) (lit (drop (i + 1) w))
      word_goes d = next_byte ∙ word_byte x i n (get_or w i 0) (drop (i + 1) w) d

  module _ (h : length w ≤ i) where
    spent : run_at x 0 (lit w) ≡ run_at x i (lit [])
    spent = e ∙ ap (λ l. run_at x i (lit l)) (drop_of_length-le w h)

    pub word_longer : (p : ℕ) → p ≡ i → i < length x → run_at x 0 (lit w) ≡ refused p
    word_longer p q n = spent ∙ word_over x i n ∙ ap refused (sym q)

    pub word_whole : length x ≤ i → run_at x 0 (lit w) ≡ accepted
    word_whole n = spent ∙ word_read x i n

pub ruleset words = (word_ends, word_differs, word_goes, word_longer)

-- `1`, a space and a letter.
abbrev opened : List ℕ → List ℕ → TextAnswer
opened x l = run_at x 0 (pre (49 ∷ 32 ∷ []) l)

pub opening_0 : (x l : List ℕ) → length x ≤ 0 → opened x l ≡ refused 0
opening_0 x l n = at_end x 0 (pre (49 ∷ 32 ∷ []) l) n refl

pub not_one : (x l : List ℕ) → 0 < length x → get_or x 0 0 ≢ 49 → opened x l ≡ refused 0
not_one x l h n = pre_bad x 0 h 49 (32 ∷ []) l n

pub opening_1 : (x l : List ℕ) → length x ≡ 1 → get_or x 0 0 ≡ 49 → opened x l ≡ refused 1
opening_1 x l h one = pre_byte x 0 (omega arith) 49 (32 ∷ []) l one ∙ at_end x 1 (pre (32 ∷ []) l) (omega arith) refl

pub not_space : (x l : List ℕ) → 1 < length x → get_or x 0 0 ≡ 49 → get_or x 1 0 ≢ 32 → opened x l ≡ refused 1
not_space x l h one n = pre_byte x 0 (omega arith) 49 (32 ∷ []) l one ∙ pre_bad x 1 h 32 [] l n

pub opening_2 : (x l : List ℕ) → length x ≡ 2 → get_or x 0 0 ≡ 49 → get_or x 1 0 ≡ 32 → opened x l ≡ refused 2
opening_2 x l h one space = pre_byte x 0 (omega arith) 49 (32 ∷ []) l one ∙ pre_byte x 1 (omega arith) 32 [] l space ∙ at_end x 2 (pre [] l) (omega arith) refl

not_letter : (x l : List ℕ) → 2 < length x → get_or x 0 0 ≡ 49 → get_or x 1 0 ≡ 32 → letter? (get_or x 2 0) ≡ false → opened x l ≡ refused 2
not_letter x l h one space n = pre_byte x 0 (omega arith) 49 (32 ∷ []) l one ∙ pre_byte x 1 (omega arith) 32 [] l space ∙ pre_none x 2 h l n

pub opening_kind : (x : List ℕ) (o : Option NodeKind) → 2 < length x → get_or x 0 0 ≡ 49 → get_or x 1 0 ≡ 32
    → MatchOption o (letter? (get_or x 2 0) ≡ false) (λ k. get_or x 2 0 ≡ letter (tree_kind k)) → Opening x (ok_or o 2)
opening_kind x (Some k) h one space e = record { long = omega arith; one = one; space = space; named = e }
opening_kind x None h one space e = λ l. not_letter x l h one space e

pub ruleset openings = (opening_0, not_one, opening_1, not_space, opening_2)

-- The root, after the opening.
module _ (x : List ℕ) (kind : NodeKind) (b : TextBegins x kind) where
  to_root : (l : List ℕ) → run_at x 0 (pre (49 ∷ 32 ∷ []) l) ≡ run_at x 3 (open_due [] l)
  to_root l =
      pre_byte x 0 (omega (arith, b.long)) 49 (32 ∷ []) l b.one ∙ pre_byte x 1 (omega (arith, b.long)) 32 [] l b.space
      ∙ pre_letter x 2 (omega (arith, b.long)) l (ap letter? b.named ∙ is_letter (tree_kind kind))

  first-bytes : x ≡ 49 ∷ 32 ∷ letter (tree_kind kind) ∷ drop 3 x
  first-bytes =
      drop-step x 0 (omega (arith, b.long))
      ∙ ap₂ ◌∷◌ b.one (drop-step x 1 (omega (arith, b.long)) ∙ ap₂ ◌∷◌ b.space (drop-step x 2 (omega (arith, b.long)) ∙ ap (λ c. c ∷ drop 3 x) b.named))

  module _ (used : List ℕ) where
    pub whole_stops : (p : ℕ) → Stops x 3 (λ cs. open_due cs (unused 0 used)) 0 p → run_at x 0 (pre (49 ∷ 32 ∷ []) (unused 0 used)) ≡ refused p
    whole_stops p o = to_root (unused 0 used) ∙ o [] refl

    module _ (many : ℕ) {used' part : List ℕ} (old : List ℕ) (r : Reached)
        (o : OpenedRead x 3 0 many used used' (take (length old - 1) (drop 1 old)) part (Ok r)) where
      to_bracket : run_at x 0 (pre (49 ∷ 32 ∷ []) (unused 0 used)) ≡ run_at x r.at (after (0 ∷ []) (unused 0 used'))
      to_bracket = to_root (unused 0 used) ∙ o.0.moves [] refl

      pub whole_left : (r.left ≡ 0 → ⊥) → run_at x 0 (pre (49 ∷ 32 ∷ []) (unused 0 used)) ≡ refused r.at
      whole_left n = to_bracket ∙ close_left x r.at o.1.there (unused 0 used') o.1.bracket (λ z. n (o.0.marks.count ∙ z))

      module _ (z : r.left ≡ 0) where
        closed : run_at x 0 (pre (49 ∷ 32 ∷ []) (unused 0 used)) ≡ run_at x (r.at + 1) (after [] (unused 0 used'))
        closed = to_bracket ∙ close_root x r.at o.1.there (unused 0 used') o.1.bracket (sym o.0.marks.count ∙ z)

        pub whole_more : r.at + 1 < length x → run_at x 0 (pre (49 ∷ 32 ∷ []) (unused 0 used)) ≡ refused (r.at + 1)
        whole_more n = closed ∙ after_root x (r.at + 1) n (unused 0 used')

        pub whole_read : {t : ℕ} → length x ≤ r.at + 1 → 0 < length old → many ≤ 255 → t ≡ node_token E (tree_kind kind) r.count
            → Whole x (unused 0 used) old (set (put_mid 1 (length old - 1) old part) 0 t) (1 + r.count)
        unfolding tree_text
        whole_read n s m t = let p = o.0 in record {
          spelled = node (tree_kind kind) p.forest nil;
          bytes = first-bytes
              ∙ ap (λ l. 49 ∷ 32 ∷ letter (tree_kind kind) ∷ l)
              (p.bytes ∙ ap (λ l. 40 ∷ (text p.forest ++ l))
              (drop-step x r.at o.1.there ∙ ap₂ ◌∷◌ o.1.bracket (drop_of_length-le x n)));
          wrote = node_wrote (tree_kind kind) p.forest s t p.wrote;
          all_used = closed ∙ all_read x (r.at + 1) (unused 0 used') n;
          few = omega (arith, p.few);
        }

-- The marks at the start: 0 and 1 are used.
abbrev zeros : ℕ → List ℕ
zeros k = replicate k 0

abbrev first_marks : ℕ → List ℕ
first_marks k = 1 ∷ 1 ∷ replicate k 0

unused_zeros : (k a : ℕ) → unused a (zeros k) ≡ numbers_from a k
unused_zeros zero a = refl
unused_zeros (suc k) a = ap (λ l. a ∷ l) (unused_zeros k (suc a))

take_zeros : (k m : ℕ) → m ≤ k → take m (zeros k) ≡ zeros m
take_zeros k zero h = refl
take_zeros zero (suc m) h = absurd (omega arith)
take_zeros (suc k) (suc m) h = ap (λ l. 0 ∷ l) (take_zeros k m (omega arith))

start_marks : (n k : ℕ) → 1 ≤ n → n ≤ suc k → take (suc n) (first_marks k) ≡ first_marks (n - 1)
start_marks zero k h g = absurd (omega arith)
start_marks (suc n) k h g = let z : suc n - 1 ≡ n = omega arith in rw z (ap (λ l. 1 ∷ 1 ∷ l) (take_zeros k n (omega arith)))

start-unused : (n : ℕ) → 1 ≤ n → unused 0 (first_marks (n - 1)) ≡ others n
start-unused zero h = absurd (omega arith)
start-unused (suc n) h = let z : suc n - 1 ≡ n = omega arith in rw z (unused_zeros n 2)

module _ (n k : ℕ) (h : 1 ≤ n) (g : n ≤ 256) (m : n ≤ suc k) where
  marked : take (n + 1) (first_marks k) ≡ first_marks (n - 1)
  marked = rw add-one (start_marks n k h m)

  pub all_unused : unused 0 (take (n + 1) (first_marks k)) ≡ others n
  all_unused = ap (unused 0) marked ∙ start-unused n h

  pub marks_start : Marks (n - 1) (take (n + 1) (first_marks k))
  marks_start = record {
    count = sym (ap length all_unused ∙ others-length n);
    wide = omega (arith, ap length marked, length-replicate (n - 1) zero);
    zero_set = ap (λ l. get_or l 0 0) marked;
  }

-- The shape, from three leaves on: the tree that was spelled is the one of the shape.
module _ (n : ℕ) (h : 3 ≤ n) (x l : List ℕ) (e : l ≡ others n) where
  begin : run_at x 0 (text_start n) ≡ run_at x 0 (pre (49 ∷ 32 ∷ []) l)
  begin = ap (run_at x 0) (start_pre n h ∙ ap (pre (49 ∷ 32 ∷ [])) (sym e))

  pub shape_read : (old new : List ℕ) (r : Result ℕ ℕ) → WholeRead x l old new r → ShapeRead n x old new r
  shape_read old new (Ok k) v =
      let s = accepted_shape n x (begin ∙ v.all_used) in
      let same : s.tree ≡ v.spelled = text_injective s.tree v.spelled (sym s.bytes ∙ v.bytes) in
      record { shown = v.spelled; shaped = rw (sym same) s.shaped; bytes = v.bytes; wrote = v.wrote; few = v.few }
  shape_read old new (Err p) w = refused_shape n x p (begin ∙ w)
