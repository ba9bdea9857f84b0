-- Rows that are those of 256 records come back from the records that they are stored in.
use mathlib.Core.Path.{◌≡◌, refl, sym, ◌∙◌, ap}
use mathlib.Core.List.{List, [], ◌∷◌, ◌++◌, append-nil}
use Prim.Native.Nat.{ℕ, zero, suc, ◌+◌, ◌*◌, ◌<◌, ◌≤◌}
use native.Mathlib.Omega.{arith}
use lib.Dec.{leb}
use lib.ListN.{length, take, drop, length-replicate, replicate-append-replicate, drop_of_length-le}
use lib.Seq.{take_at, drop_at, take_all, length-take-le}
use borrow.Author.Tests.{leb-true, leb-false}
use mathlib.Core.Bool.{Bool, true, false}
use Rattle.record_copy.specs.declared.Node.{Node}
use Rattle.record_copy.specs.Rows.{rows_of, nodes_of, zero_rows, node_rows, with_rows, Sound}
use Rattle.record_copy.proofs.Laws.{length-nodes}
use Rattle.record_copy.proofs.Kept.{of_rows}

-- ---- zeros

pub length-zero_rows : (n : ℕ) → length (zero_rows n) ≡ n
unfolding zero_rows
length-zero_rows n = length-replicate {A = ℕ} n 0

zeros_none : [] ≡ zero_rows 0
unfolding zero_rows
zeros_none = refl

zeros_more : (n : ℕ) → 0 ∷ zero_rows n ≡ zero_rows (suc n)
unfolding zero_rows
zeros_more n = refl

zeros_append : (a b : ℕ) → zero_rows a ++ zero_rows b ≡ zero_rows (a + b)
unfolding zero_rows
zeros_append a b = replicate-append-replicate {A = ℕ} a b 0

-- Records that are not used.
abbrev pub zero_records : ℕ → List Node
zero_records zero = []
zero_records (suc m) = record { kind = 0; count = 0; items = zero_rows 255 } ∷ zero_records m

pub length_zero_records : (m : ℕ) → length (zero_records m) ≡ m
length_zero_records zero = refl
length_zero_records (suc m) = ap suc (length_zero_records m)

pub sound_zero_records : (m : ℕ) → Sound (zero_records m)
unfolding Sound
sound_zero_records zero = tt
sound_zero_records (suc m) = ((omega arith, length-zero_rows 255), sound_zero_records m)

pub rows_zero_records : (m : ℕ) → rows_of (zero_records m) ≡ zero_rows (m * 257)
unfolding rows_of
rows_zero_records zero = zeros_none
rows_zero_records (suc m) =
    let e : suc (suc (255 + m * 257)) ≡ suc m * 257 = omega arith in
    ap (λ (l : List ℕ). 0 ∷ 0 ∷ (zero_rows 255 ++ l)) (rows_zero_records m)
    ∙ ap (λ (l : List ℕ). 0 ∷ 0 ∷ l) (zeros_append 255 (m * 257))
    ∙ ap (λ (l : List ℕ). 0 ∷ l) (zeros_more (255 + m * 257))
    ∙ zeros_more (suc (255 + m * 257))
    ∙ ap zero_rows e

-- ---- stored and loaded

module _ (ns ms : List Node) (many : 256 ≤ length ns) (full : length ms ≡ 256) (sound : Sound ms) where
  stored : with_rows (rows_of ms) ns ≡ ms ++ drop 256 ns
  unfolding with_rows
  stored =
      let e : length (take 256 ns) ≡ 256 = length-take-le 256 ns many in
      ap (λ (k : ℕ). nodes_of (rows_of ms) k ++ drop 256 ns) e
      ∙ ap (λ (l : List ℕ). nodes_of l 256 ++ drop 256 ns) (sym (append-nil (rows_of ms)))
      ∙ ap (λ (l : List Node). l ++ drop 256 ns) (of_rows ms [] 256 sound (omega arith) ∙ take_all 256 ms (omega arith))

  -- The records then have the rows.
  pub rows_back : node_rows (with_rows (rows_of ms) ns) ≡ rows_of ms
  unfolding node_rows
  rows_back =
      let first : take 256 (with_rows (rows_of ms) ns) ≡ ms = ap (take 256) stored ∙ take_at ms (drop 256 ns) 256 full in
      let none : drop (length ms * 257) (zero_rows 65792) ≡ [] = drop_of_length-le (zero_rows 65792) {i = length ms * 257} (omega (arith, length-zero_rows 65792)) in
      ap (λ (l : List Node). rows_of l ++ drop (length l * 257) (zero_rows 65792)) first ∙ ap (λ (l : List ℕ). rows_of ms ++ l) none ∙ append-nil (rows_of ms)

-- The records past the 256th are as they were.
pub past : (l : List ℕ) (ns : List Node) → drop 256 (with_rows l ns) ≡ drop 256 ns
unfolding with_rows
past l ns = go (leb 256 (length ns)) refl
  where
    rows : List Node
    rows = nodes_of l (length (take 256 ns))

    go : (b : Bool) → leb 256 (length ns) ≡ b → drop 256 (rows ++ drop 256 ns) ≡ drop 256 ns
    go true e = drop_at rows (drop 256 ns) 256 (length-nodes l (length (take 256 ns)) ∙ length-take-le 256 ns (leb-true 256 (length ns) e))
    go false e =
        let short : length ns < 256 = leb-false 256 (length ns) e in
        let none : drop 256 ns ≡ [] = drop_of_length-le ns {i = 256} (omega arith) in
        let all : take 256 ns ≡ ns = take_all 256 ns (omega arith) in
        let few : length rows ≡ length ns = length-nodes l (length (take 256 ns)) ∙ ap length all in
        ap (λ (x : List Node). drop 256 (rows ++ x)) none ∙ ap (drop 256) (append-nil rows) ∙ drop_of_length-le rows {i = 256} (omega arith) ∙ sym none
