-- The group of a line: its leaves, and how a loop writes them.
use mathlib.Core.Path.{◌≡◌, sym, ◌∙◌, ap, ap₂}
use mathlib.Core.Bool.{Bool, true, false, cond}
use mathlib.Core.List.{List, [], ◌∷◌}
use Prim.Native.Nat.{ℕ, suc, ◌+◌, ◌-◌, ◌≤◌, ◌<◌}
use native.Mathlib.Omega.{arith}
use native.Mathlib.Numerals.{add-one}
use lib.ListN.{length, get_or, set}
use borrow.Author.Tests.{lt-ltb, le-ltb}
use Rattle.spec_orders.specs.Lists.{All, Distinct, those_of, numbers_from}
use Rattle.spec_orders.proofs.Members.{in_all}
use Rattle.spec_orders.proofs.Numbers.{those_different, in_those, in_range}
use Rattle.tree_tokens.specs.Tokens.{Wrote}
use Rattle.tree_tokens.proofs.Writes.{wrote_none, Written, written_start, written_same, written_one, written_end}
use Rattle.file_read.specs.RingFile.{Value, off, in_group, leaves_on, FileHolds, line_in, value_in, group_in, group_for}
use Rattle.file_read.proofs.Values.{group_none, group_held}

-- The leaves of a group are different leaves of the ring.
pub leaves_different : (vs : List Value) → Distinct (leaves_on vs)
unfolding leaves_on
leaves_different vs = those_different (λ b. in_group (get_or vs (b - 1) off)) 1 (length vs)

pub leaves_within : (vs : List Value) → All (λ b. (1 ≤ b) × (b ≤ length vs)) (leaves_on vs)
unfolding leaves_on
leaves_within vs =
    in_all (λ b. (1 ≤ b) × (b ≤ length vs)) (those_of p (numbers_from 1 (length vs)))
    (λ b i. let r = in_range 1 (length vs) b (in_those p (numbers_from 1 (length vs)) b i).1 in (r.0, omega (arith, r.1)))
  where
    p : ℕ → Bool
    p b = in_group (get_or vs (b - 1) off)

-- The leaves of the group from number i + 1 on: what a loop has still to write.
module _ (x : List ℕ) (n h l : ℕ) where
  abbrev on? : ℕ → Bool
  on? b = value_in x n h l (b - 1)

  unfoldable pub leaves_after : ℕ → List ℕ
  leaves_after i = those_of on? (numbers_from (suc i) (n - i))

  after_next : (i : ℕ) → i < n → leaves_after i ≡ cond (value_in x n h l i) ((i + 1) ∷ leaves_after (i + 1)) (leaves_after (i + 1))
  unfolding leaves_after
  after_next i m =
      let e : n - i ≡ suc (n - (i + 1)) = omega arith in
      let p : suc i - 1 ≡ i = omega arith in
      ap (λ k. those_of on? (numbers_from (suc i) k)) e ∙ ap₂ (λ j s. cond (value_in x n h l j) (s ∷ later s) (later s)) p (sym (add-one i))
    where
      later : ℕ → List ℕ
      later s = those_of on? (numbers_from (suc s) (n - (i + 1)))

  after_none : (i : ℕ) → n ≤ i → leaves_after i ≡ []
  unfolding leaves_after
  after_none i m = let e : n - i ≡ 0 = omega arith in ap (λ k. those_of on? (numbers_from (suc i) k)) e

  module _ {old : List ℕ} where
    pub group_start : Written (group_in x n h l) (leaves_after 0) old old 0
    unfolding group_in leaves_after
    group_start =
        let e : n ≡ n - 0 = omega arith in
        written_same (leaves_after 0) (ap (λ k. those_of on? (numbers_from 1 k)) e) (written_start (group_in x n h l) old)

    pub group_on : {i k : ℕ} {new : List ℕ} → i < n → k < length old → value_in x n h l i ≡ true → Written (group_in x n h l) (leaves_after i) old new k
        → Written (group_in x n h l) (leaves_after (i + 1)) old (set new k (i + 1)) (k + 1)
    group_on {i} m r v w = written_one (i + 1) (leaves_after (i + 1)) r (after_next i m ∙ rw v) w

    pub group_off : {i k : ℕ} {new : List ℕ} → i < n → value_in x n h l i ≡ false → Written (group_in x n h l) (leaves_after i) old new k
        → Written (group_in x n h l) (leaves_after (i + 1)) old new k
    group_off {i} m v w = written_same (leaves_after (i + 1)) (after_next i m ∙ rw v) w

    -- All of it; and nothing, where there is no line or too few places.
    pub group_end : {i k : ℕ} {new : List ℕ} → n ≤ length old → n ≤ i → Written (group_in x n h l) (leaves_after i) old new k
        → Wrote (group_for (length old) x n h l) old new k
    unfolding group_for
    group_end {i} r m w = rw (le-ltb (length old) n r) (written_end (written_same [] (after_none i m) w))

    pub group_short : length old < n → Wrote (group_for (length old) x n h l) old old 0
    unfolding group_for
    group_short m = rw (lt-ltb (length old) n m) (wrote_none old)

    pub group_absent : n ≤ length old → line_in x n h l ≡ [] → Wrote (group_for (length old) x n h l) old old 0
    unfolding group_for
    group_absent r e = rw (le-ltb (length old) n r, group_none x n h l e) (wrote_none old)

-- Of an accepted file, and with enough places, it is the line's group.
pub group_file : {x : List ℕ} {n h k : ℕ} (f : FileHolds x n h k) (l : ℕ) {old new : List ℕ} {r : ℕ} → l < k → n ≤ length old
    → Wrote (group_for (length old) x n h l) old new r → Wrote (leaves_on (get_or f.vss l [])) old new r
unfolding group_for
group_file {n = n} f l {old} {new} {r} p m w = rw (sym (group_held f l p)) (rw (le-ltb (length old) n m) at w)
