-- What is known of the records is so: the table ends in the rows of the roots and zeros, and the roots are in the published form.
use mathlib.Core.Path.{◌≡◌, refl, sym, ap, ◌∙◌}
use mathlib.Core.List.{List, [], ◌∷◌, ◌++◌, append_assoc}
use Prim.Native.Nat.{ℕ, zero, suc, ◌+◌, ◌-◌, ◌*◌, ◌≤◌, ◌<◌}
use native.Mathlib.Omega.{arith}
use lib.ListN.{length, take, drop, replicate, length-append, length-replicate, take-append-drop, replicate-append-replicate, drop_of_length-le}
use lib.Seq.{take-take, drop-drop, length-take-le}
use Rattle.spec_orders.proofs.ListLaws.{drop_taken}
use Rattle.spec_orders.specs.Lists.{Rearranged, done}
use Rattle.spec_orders.specs.CircularOrder.{Restriction, others}
use Rattle.spec_orders.specs.Tree.{Kind, Forest, nil, node, items, frontier}
use Rattle.spec_orders.specs.Form.{fewest, nodes, Canonical}
use Rattle.spec_orders.proofs.Rearranged.{perm_trans}
use Rattle.spec_orders.proofs.Members.{all_in}
use Rattle.spec_orders.proofs.Numbers.{numbers_length, numbers_in}
use Rattle.spec_calls.specs.Tables.{padded}
use Rattle.spec_calls.specs.NodeTable.{kind_number, entries, rows, table_of, Holds}
use Rattle.spec_calls.proofs.NodeTables.{entries-length}
use Rattle.table_reading.proofs.Leaves.{all_there}
use Rattle.table_reading.specs.Reading.{row_at, blanks, Known, Within, known, at_record, ItemsRead, Behind, none_read, blank, a_node}
use Rattle.table_reading.proofs.Reading.{Fresh, reads-next, reads-entries, reads-rows, reads_canonical, reads-leaves, reads-fresh, reads_sorted}

pub blanks_more : (a b : ℕ) → blanks a ++ blanks b ≡ blanks (a + b)
unfolding blanks
blanks_more a b = replicate-append-replicate a b 0

no_blanks : blanks 0 ≡ []
unfolding blanks
no_blanks = refl

pub length-blanks : (k : ℕ) → length (blanks k) ≡ k
unfolding blanks
length-blanks k = length-replicate k 0

-- The table from record r on.
abbrev pub tail : List ℕ → ℕ → List ℕ
tail table r = drop (257 * r) (take 65792 table)

pub row_first : (table : List ℕ) (r : ℕ) → r < 256 → row_at table r ≡ take 257 (tail table r)
unfolding row_at
row_first table r h = sym (ap (take 257) (drop_taken (257 * r) 65792 table) ∙ take-take 257 (65792 - 257 * r) (drop (257 * r) table) (omega arith))

pub tail_row : (table : List ℕ) (r : ℕ) → r < 256 → tail table r ≡ row_at table r ++ tail table (suc r)
tail_row table r h =
    let l : List ℕ = tail table r in
    let e : 257 * suc r ≡ 257 * r + 257 = omega arith in
    let rest : drop 257 l ≡ tail table (suc r) = drop-drop 257 (257 * r) (take 65792 table) ∙ ap (λ (m : ℕ). drop m (take 65792 table)) (sym e) in
    sym (take-append-drop 257 l) ∙ ap (λ (m : List ℕ). m ++ drop 257 l) (sym (row_first table r h)) ∙ ap (λ (m : List ℕ). row_at table r ++ m) rest

module _ (n : ℕ) (S : Restriction) (table : List ℕ) (long : 65792 ≤ length table) where
  pub record Sound (r : ℕ) (s : Known) : Type 0 where
    pub zeros : ℕ
    pub ends : tail table r ≡ rows r s.roots ++ blanks zeros
    pub canonical : Canonical s.roots
    pub leaves_are : Rearranged s.leaves (frontier s.roots)
    pub fresh : Fresh n s.leaves

  node_sound : {r : ℕ} {s : Known} {k : Kind} {vs : List ℕ} {i : Forest} {z : Within} → r < 256 → row_at table r ≡ kind_number k ∷ length vs ∷ padded 255 vs → fewest k ≤ length vs
      → ItemsRead n S k vs (at_record n S k r s) i z → z.first < z.last → Sound (suc r) s → Sound r (known n S (node k i z.roots) z.leaves)
  node_sound {r} {s} {k} {vs} {i} {z} low row enough h l g =
      let c = reads_canonical n S h g.canonical in
      let es = entries (suc r) i in
      let vs-are : vs ≡ es = reads-entries n S h in
      let many : length vs ≡ length (items i) = ap length vs-are ∙ entries-length (suc r) i in
      let own : List ℕ = kind_number k ∷ length es ∷ padded 255 es in
      let row_is : row_at table r ≡ own = row ∙ ap (λ (l : List ℕ). kind_number k ∷ length l ∷ padded 255 l) vs-are in
      let inside : List ℕ = rows (suc r) i in
      let left : List ℕ = rows (suc r + nodes i) z.roots in
      let behind : rows (suc r) s.roots ≡ inside ++ left = reads-rows n S h ∙ ap (λ (x : ℕ). inside ++ rows x z.roots) (reads-next n S h) in
      record {
        zeros = g.zeros;
        ends = tail_row table r low ∙ ap (λ (l : List ℕ). row_at table r ++ l) (g.ends ∙ ap (λ (l : List ℕ). l ++ blanks g.zeros) behind)
            ∙ ap (λ (l : List ℕ). l ++ ((inside ++ left) ++ blanks g.zeros)) row_is ∙ sym (append_assoc own (inside ++ left) (blanks g.zeros));
        canonical = (((omega (arith, many), reads_sorted n S k h refl refl l), c.0), c.1);
        leaves_are = reads-leaves n S h [] g.leaves_are;
        fresh = reads-fresh n S h g.fresh;
      }

  pub sound : {r : ℕ} {s : Known} → Behind n S table r s → Sound r s
  sound none_read = record {
    zeros = 0;
    ends = drop_of_length-le (take 65792 table) {i = 65792} (omega (arith, length-take-le 65792 table long)) ∙ sym no_blanks;
    canonical = tt;
    leaves_are = done;
    fresh = (tt, tt);
  }
  sound (blank {r} low row b) =
      let g = sound b in
      record {
        zeros = 257 + g.zeros;
        ends = tail_row table r low ∙ ap (λ (l : List ℕ). row_at table r ++ l) g.ends ∙ ap (λ (l : List ℕ). l ++ blanks g.zeros) row ∙ blanks_more 257 g.zeros;
        canonical = tt;
        leaves_are = g.leaves_are;
        fresh = g.fresh;
      }
  sound (a_node low row enough most b h l) = node_sound low row enough h l (sound b)

  -- A tree of n leaves, in all records.
  pub holds : {k : Kind} {i : Forest} {ls : List ℕ} → Behind n S table 0 (known n S (node k i nil) ls) → 3 ≤ n → length ls ≡ n - 1 → Holds n table (node k i nil)
  unfolding table_of blanks
  holds {k} {i} {ls} b m e =
      let g = sound b in
      let t : Forest = node k i nil in
      let all : take 65792 table ≡ rows 0 t ++ replicate g.zeros 0 = g.ends in
      let count : length (rows 0 t) + g.zeros ≡ 65792 = sym (length-append (rows 0 t) (replicate g.zeros 0) ∙ ap (λ (m : ℕ). length (rows 0 t) + m) (length-replicate {A = ℕ} g.zeros 0)) ∙ ap length (sym all) ∙ length-take-le 65792 table long in
      record {
        in_form = record { single = tt; canonical = g.canonical; all_leaves = perm_trans (whole-ring n m ls e g.fresh) g.leaves_are };
        records = all ∙ ap (λ (z : ℕ). rows 0 t ++ replicate z 0) (back (length (rows 0 t)) g.zeros count);
      }
    where
      back : (a z : ℕ) → a + z ≡ 65792 → z ≡ 65792 - a
      back a z h = omega arith

      whole-ring : (n : ℕ) → 3 ≤ n → (ls : List ℕ) → length ls ≡ n - 1 → Fresh n ls → Rearranged (others n) ls
      whole-ring zero m ls e f = absurd (omega arith)
      whole-ring (suc c) m ls e f =
          all_there (others (suc c)) ls f.1 (λ y j. let r = all_in (λ b. (2 ≤ b) × (b ≤ suc c)) y ls f.0 j in numbers_in 2 c y r.0 (omega arith)) (omega (arith, numbers_length 2 c))
