-- Before the first record; and a row of a table.
use mathlib.Core.Path.{◌≡◌, refl, sym, ap, ◌∙◌, subst}
use mathlib.Core.List.{List, [], ◌∷◌, ◌++◌}
use Prim.Native.Nat.{ℕ, suc, ◌+◌, ◌-◌, ◌*◌, ◌≤◌}
use native.Mathlib.Omega.{arith}
use native.Mathlib.Numerals.{add-one}
use borrow.Rule.Slice.PartMut.{put_mid}
use lib.ListN.{length, get_or, take, drop, replicate, length-append, length-replicate, get_or-replicate, replicate-append-replicate, drop_of_length-le}
use lib.Seq.{take_at, drop_at, drop-cons, get_or-drop, length-take-le}
use Rattle.spec_orders.specs.Lists.{elem}
use Rattle.spec_orders.specs.CircularOrder.{Restriction}
use Rattle.spec_orders.specs.Tree.{nil}
use Rattle.mark_words.specs.Marks.{marked, words_of, no_leaf}
use Rattle.mark_words.proofs.Words.{words_agree, no_words}
use Rattle.table_reading.specs.Reading.{row_at, blanks}
use Rattle.table_sweep.specs.Kept.{Roots, Kept, Swept, all_blank, Blank, Started}
use Rattle.table_reading.proofs.Complete as complete

-- The four words of a restriction, and zeros after them.
some_zeros : take 4 (replicate 261 0) ≡ words_of 4 (elem [])
some_zeros = ap (take 4) (sym (replicate-append-replicate 4 257 0)) ∙ take_at (replicate 4 0) (replicate 257 0) 4 (length-replicate {A = ℕ} 4 0) ∙ sym (no_words 4) ∙ words_agree 4 no_leaf (elem []) (λ b l m. refl)

blank_kept : (S : Restriction) (p t : List ℕ) (r : ℕ) → r ≤ 256 → length p ≡ 4 → t ≡ replicate 261 0 → ((b : ℕ) → 1 ≤ b → b ≤ 256 → marked p b ≡ S b) → Kept S (p ++ t) r nil []
unfolding Roots
blank_kept S p t r l four z h = record {
  long = omega (arith, length-append p t, ap length z, length-replicate {A = ℕ} 261 0);
  side = λ b x y. ap (λ (w : List ℕ). marked w b) (take_at p t 4 four) ∙ h b x y;
  seen = ap (take 4) (drop_at p t 4 four ∙ z) ∙ some_zeros;
  roots = tt;
  low = omega arith;
}

none_used : (p t : List ℕ) → length p ≡ 4 → t ≡ replicate 261 0 → get_or (p ++ t) 264 0 ≡ 0
none_used p t four z = sym (get_or-drop 4 (p ++ t) 260 0) ∙ ap (λ (k : List ℕ). get_or k 260 0) (drop_at p t 4 four ∙ z) ∙ get_or-replicate 261 260 0 0 (omega arith)

started : (n : ℕ) (S : Restriction) (p t : List ℕ) → length p ≡ 4 → t ≡ replicate 261 0 → ((b : ℕ) → 1 ≤ b → b ≤ 256 → marked p b ≡ S b) → Started n S (p ++ t)
unfolding Started Blank blanks
started n S p t four z h table r b =
    let d : 65792 - 257 * r ≡ 257 * (256 - r) = omega (arith, b.0) in
    all_blank (blank_kept S p t r b.0 four z h) (none_used p t four z)
    (complete.all_blank n S table (256 - r) r (omega (arith, b.0)) (b.1 ∙ ap (λ (k : ℕ). replicate k 0) d))

-- A restriction's four words are put over zeros.
pub begun : (n : ℕ) (marks w part : List ℕ) → length marks ≡ 4 → length w ≡ 265 → w ≡ words_of (length w) no_leaf → part ≡ marks
    → Started n (marked marks) (put_mid 0 4 w part)
begun n marks w part four long clear e = subst (Started n (marked marks)) (sym is) (started n (marked marks) marks (replicate 261 0) four refl (λ b l m. refl))
  where
    zeros : w ≡ 0 ∷ (0 ∷ (0 ∷ (0 ∷ replicate 261 0)))
    zeros = clear ∙ ap (λ (k : ℕ). words_of k no_leaf) long ∙ no_words 265 ∙ sym (replicate-append-replicate 4 261 0)

    is : put_mid 0 4 w part ≡ marks ++ replicate 261 0
    is = ap (λ (v : List ℕ). put_mid 0 4 v part) zeros ∙ ap (λ (v : List ℕ). v ++ replicate 261 0) e

-- A row of a table.
pub row_of_table : (table : List ℕ) (r : ℕ) → 257 * r + 257 ≤ length table
    → row_at table r ≡ get_or table (257 * r) 0 ∷ get_or table (257 * r + 1) 0 ∷ take (257 * r + 257 - (257 * r + 2)) (drop (257 * r + 2) table)
unfolding row_at
row_of_table table r h =
    let a : ℕ = 257 * r in
    let e : suc (suc a) ≡ a + 2 = omega arith in
    let m : a + 257 - (a + 2) ≡ 255 = omega arith in
    ap (take 257) (drop-cons table a 0 (omega arith) ∙ ap (λ (l : List ℕ). get_or table a 0 ∷ l) (drop-cons table (suc a) 0 (omega arith)))
    ∙ ap (λ (j : ℕ). get_or table a 0 ∷ get_or table (suc a) 0 ∷ take 255 (drop j table)) e
    ∙ ap (λ (j : ℕ). get_or table a 0 ∷ get_or table j 0 ∷ take 255 (drop (a + 2) table)) (sym (add-one a))
    ∙ ap (λ (j : ℕ). get_or table a 0 ∷ get_or table (a + 1) 0 ∷ take j (drop (a + 2) table)) (sym m)

-- All records are to be read.
pub none_swept : (n : ℕ) (S : Restriction) (table work : List ℕ) → 65792 ≤ length table → Started n S work → Swept n S table 256 work
unfolding Started Blank
none_swept n S table work l h = h table 256 (omega arith, drop_of_length-le (take 65792 table) {i = 65792} (omega (arith, length-take-le 65792 table l)))

pub swept_at : (n : ℕ) (S : Restriction) (table work : List ℕ) (r j : ℕ) → r ≡ j → Swept n S table r work → Swept n S table j work
swept_at n S table work r j e h = subst (λ (m : ℕ). Swept n S table m work) e h
