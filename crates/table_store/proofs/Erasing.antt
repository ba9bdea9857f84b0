-- Making rows zero, one after the other.
use mathlib.Core.Path.{◌≡◌, sym, ap, subst, ◌∙◌}
use mathlib.Core.List.{List, ◌++◌}
use Prim.Native.Nat.{ℕ, suc, ◌+◌, ◌-◌, ◌*◌, ◌≤◌, ◌<◌}
use native.Mathlib.Omega.{arith}
use lib.ListN.{length, get_or, take, drop, replicate, length-drop, length-replicate, replicate-append-replicate}
use lib.Seq.{get_or-drop, drop-drop}
use borrow.Rule.Slice.PartMut.{put_mid}
use Rattle.spec_calls.specs.Tables.{padded}
use Rattle.tree_tokens.specs.Tokens.{Wrote}
use Rattle.tree_tokens.proofs.Writes.{wrote_filled}
use Rattle.table_row.specs.Rows.{RowThere, RowsThere, blank, used}
use Rattle.table_row.proofs.Writing.{blank_after, wrote_after, wrote_over, there_long, there_count, there_zeros, there_after}
use Rattle.table_store.proofs.Standing.{first_there, later_there}

-- The first k numbers were made zero, and `left` rows stand after them, up to `room` numbers.
pub record Erasing (room : ℕ) (old new : List ℕ) (k : ℕ) : Type 0 where
  pub left : ℕ
  pub whole : k + 257 * left ≡ room
  pub wrote : Wrote (replicate k 0) old new k
  pub there : RowsThere left (drop k old)

-- Zeros up to k, and more of them after those.
zeros_more : {k room r : ℕ} {old new : List ℕ} → k ≤ room → drop k old ≡ replicate (room - k) 0 ++ drop room old → Wrote (replicate k 0) old new r
    → Wrote (replicate room 0) old new room
zeros_more {k} {room} {old = old} {new} h left w =
    let n : length (replicate {A = ℕ} k 0) ≡ k = length-replicate {A = ℕ} k 0 in
    let e : k + (room - k) ≡ room = omega arith in
    let whole : padded room (replicate k 0) ≡ replicate room 0 = rw n (replicate-append-replicate {A = ℕ} k (room - k) 0 ∙ rw e) in
    subst (λ (x : List ℕ). Wrote x old new room) whole (wrote_over (omega arith) (rw n left) w)

-- A row with no items first: all rows are blank.
none_used : {c : ℕ} {l : List ℕ} → get_or l 1 0 ≡ 0 → RowsThere c l → l ≡ replicate (257 * c) 0 ++ drop (257 * c) l
none_used {c} z (blank b) = b.is ∙ ap (λ (x : List ℕ). replicate (257 * c) 0 ++ x) (sym (blank_after b))
none_used z (used first n s) = absurd (omega (arith, there_count first))

module _ {room k : ℕ} {old new : List ℕ} (g : Erasing room old new k) where
  module _ (h : k < room) where
    first : RowThere (drop k old)
    first = first_there (omega (arith, g.whole)) g.there

    count_there : get_or (drop k old) 1 0 ≡ get_or new (k + 1) 0
    count_there = ap (λ (l : List ℕ). get_or l 1 0) (sym (wrote_after g.wrote)) ∙ get_or-drop k new 1 0

    count_is : get_or new (k + 1) 0 ≡ length first.places
    count_is = sym count_there ∙ there_count first

    -- A row is next, and says how many items it has.
    pub row_next : (k + 257 ≤ length new) × (k + 257 ≤ room) × (get_or new (k + 1) 0 ≤ 255)
    row_next = (omega (arith, there_long first, ap length (wrote_after g.wrote), length-drop k new), omega (arith, g.whole), omega (arith, count_is, first.narrow))

    -- It has none: all rows that are left are blank.
    pub erasing_stop : get_or new (k + 1) 0 ≡ 0 → Wrote (replicate room 0) old new room
    erasing_stop z =
        let n : 257 * g.left ≡ room - k = omega (arith, g.whole) in
        let blanks = none_used (count_there ∙ z) g.there in
        zeros_more {k = k} (omega arith) (blanks ∙ rw (drop-drop (257 * g.left) k old, g.whole, n)) g.wrote

    -- With zeros over its used numbers it is all zero.
    pub erasing_row : {part : List ℕ} (j : ℕ) → j ≡ 2 + get_or new (k + 1) 0 → part ≡ replicate (length (take j (drop k new))) 0
        → Erasing room old (put_mid k j new part) (k + 257)
    erasing_row {part} j is w =
        let m = get_or new (k + 1) 0 in
        let two : 2 + m ≡ suc (suc m) = omega arith in
        let more : 255 - m ≡ k + 257 - (k + (2 + m)) = omega arith in
        let one : g.left ≡ suc (g.left - 1) = omega (arith, g.whole) in
        let left : drop (k + (2 + m)) old ≡ replicate (k + 257 - (k + (2 + m))) 0 ++ drop (k + 257) old =
        sym (drop-drop (2 + m) k old)
        ∙ ap (λ (x : ℕ). drop x (drop k old)) two
        ∙ there_zeros m first (omega (arith, count_is)) (omega (arith, row_next))
        ∙ rw (more, ← there_after first, drop-drop 257 k old) in
        record {
          left = g.left - 1;
          whole = omega (arith, g.whole);
          wrote = zeros_more {k = k + (2 + m)} (omega (arith, row_next)) left (subst (λ (x : List ℕ). Wrote x old (put_mid k j new part) (k + j)) (replicate-append-replicate {A = ℕ} k j 0 ∙ ap (λ (x : ℕ). replicate (k + x) 0) is) (wrote_filled j g.wrote (omega (arith, row_next)) w));
          there = subst (RowsThere (g.left - 1)) (drop-drop 257 k old) (later_there (subst (λ (x : ℕ). RowsThere x (drop k old)) one g.there));
        }
