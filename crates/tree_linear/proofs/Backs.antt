-- All items in a line, from the last to the first: what is left of them.
use mathlib.Core.Path.{◌≡◌, sym, ap, ◌∙◌}
use mathlib.Core.Bool.{Bool}
use mathlib.Core.List.{List, [], reverse, append-nil}
use Prim.Native.Nat.{ℕ, ◌+◌, ◌-◌, ◌≤◌, ◌<◌}
use native.Mathlib.Omega.{arith}
use lib.ListN.{length, take, drop, length-drop}
use lib.Seq.{length-take-le}
use borrow.Rule.Slice.PartMut.{put_mid}
use Rattle.spec_orders.proofs.ListLaws.{part_to_end}
use Rattle.tree_tokens.specs.Tokens.{Judged, j_nil, encode, Wrote, flat}
use Rattle.tree_tokens.specs.Views.{first_of, items_of, rest_of}
use Rattle.tree_tokens.proofs.Laws.{at_end, items_left}
use Rattle.tree_tokens.proofs.Writes.{Written, written_start, written_same, written_then, written_end, written_length}
use Rattle.tree_judge.specs.Total.{totals}
use Rattle.tree_pieces.specs.Writers.{Fits, first_in_line, all_in_line}
use Rattle.tree_pieces.proofs.Laws.{at_first, totals_none, flat_nil}
use Rattle.tree_linear.proofs.Laws.{lines_back_split, lines_back_length}

-- The text of the lines of all items, from the last to the first; that of the first item's line.
abbrev pub backwards : Bool → Judged → List ℕ
backwards back j = flat (all_in_line back (reverse (totals j)))

abbrev pub ahead : Bool → Judged → List ℕ
ahead back j = flat (first_in_line back (totals j))

-- From index i to e of the tokens x of any sequence stand those of a sequence whose lines, from the last to the first, are still to be written; k
-- numbers were.
pub record Backing (back : Bool) (x : List ℕ) (i e : ℕ) (old new : List ℕ) (k : ℕ) : Type 0 where
  pub at : (j : Judged) → x ≡ encode j → (h : Judged) × (take (e - i) (drop i x) ≡ encode h) × Written (backwards back j) (backwards back h) old new k

pub backing_start : (back : Bool) (x old : List ℕ) → Backing back x 0 (length x) old old 0
backing_start back x old = record { at = λ j e. (j, part_to_end x 0 ∙ e, written_start (backwards back j) old) }

-- Something is left, with room for its lines.
long : (x : List ℕ) (i e : ℕ) (h : Judged) → i < e → e ≤ length x → take (e - i) (drop i x) ≡ encode h → 0 < length (encode h)
long x i e h n m p = omega (arith, sym (ap length p) ∙ length-take-le (e - i) (drop i x) (omega (arith, length-drop i x)))

pub backing_room : {back : Bool} {x : List ℕ} {i e : ℕ} {old new : List ℕ} {k : ℕ} → Fits (λ ts. all_in_line back (reverse ts)) x old → i < e
    → e ≤ length x → Backing back x i e old new k
    → (h : Judged) × (take (e - i) (drop i x) ≡ encode h) × (k + (length (backwards back (rest_of h)) + length (ahead back h)) ≤ length old)
backing_room {back} {x} {i} {e} p n m g =
    let q = g.at p.0 p.1 in
    (q.0, q.1, omega (arith, p.2, written_length q.2, lines_back_length back (at_first q.0 (long x i e q.0 n m q.1))))

-- The lines of the items after the first one are written.
rest_written : (back : Bool) (h : Judged) {old new part all : List ℕ} {k r : ℕ} → 0 < length (encode h)
    → Wrote (backwards back (rest_of h)) (take (length new - k) (drop k new)) part r
    → Written all (backwards back h) old new k → Written all (ahead back h) old (put_mid k (length new - k) new part) (k + r)
rest_written back h n w g = written_then (ahead back h) (lines_back_split back (at_first h n)) w g

-- Then the line of the first item.
pub backing_last : {back : Bool} {x : List ℕ} {i e : ℕ} {old new part last : List ℕ} {k r s : ℕ} → i < e → e ≤ length x
    → ((h : Judged) → take (e - i) (drop i x) ≡ encode h → Wrote (backwards back (rest_of h)) (take (length new - k) (drop k new)) part r)
    → ((h : Judged) → take (e - i) (drop i x) ≡ encode h → Wrote (ahead back h) (take (length (put_mid k (length new - k) new part) - (k + r)) (drop (k + r) (put_mid k (length new - k) new part))) last s)
    → Backing back x i e old new k → (j : Judged) → x ≡ encode j
    → Wrote (backwards back j) old (put_mid (k + r) (length (put_mid k (length new - k) new part) - (k + r)) (put_mid k (length new - k) new part) last) (k + r + s)
backing_last {back} {x} {i} {e} n m rests line g j d =
    let q = g.at j d in
    written_end (written_then [] (sym (append-nil (ahead back q.0))) (line q.0 q.1) (rest_written back q.0 (long x i e q.0 n m q.1) (rests q.0 q.1) q.2))

-- Or, where they are the lines of its items, these are left.
pub backing_next : {back : Bool} {x : List ℕ} {i e m : ℕ} {old new part : List ℕ} {k r : ℕ} → i < e → e ≤ length x → 0 < m → m ≤ e - i
    → ((h : Judged) → take (e - i) (drop i x) ≡ encode h → m ≡ length (encode (first_of h)))
    → ((h : Judged) → take (e - i) (drop i x) ≡ encode h → first_in_line back (totals h) ≡ all_in_line back (reverse (totals (items_of h))))
    → ((h : Judged) → take (e - i) (drop i x) ≡ encode h → Wrote (backwards back (rest_of h)) (take (length new - k) (drop k new)) part r)
    → Backing back x i e old new k → Backing back x (i + 1) (i + m) old (put_mid k (length new - k) new part) (k + r)
backing_next {back} {x} {i} {e} {m} n l o u size turned rests g = record {
  at = λ j d.
      let q = g.at j d in
      (items_of q.0, items_left x i e m q.0 o u q.1 (size q.0 q.1), written_same (backwards back (items_of q.0)) (ap flat (turned q.0 q.1)) (rest_written back q.0 (long x i e q.0 n l q.1) (rests q.0 q.1) q.2));
}

-- Nothing is left.
pub backing_end : {back : Bool} {x : List ℕ} {i e : ℕ} {old new : List ℕ} {k : ℕ} → e ≤ i → Backing back x i e old new k → (j : Judged) → x ≡ encode j
    → Wrote (backwards back j) old new k
backing_end {back} {x} {i} {e} n g j d =
    let q = g.at j d in
    let none : e - i ≡ 0 = omega arith in
    let nil : q.0 ≡ j_nil = at_end q.0 q.1 (rw none) in
    written_end (written_same [] (rw (nil, totals_none, flat_nil)) q.2)
