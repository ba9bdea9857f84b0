-- One record more is read.
use mathlib.Core.Path.{◌≡◌, sym, ap, ◌∙◌, subst}
use mathlib.Core.Logic.{◌⊎◌, inl, inr}
use Rattle.std.specs.Prelude.{◌↔◌, None, EachIndex}
use mathlib.Core.List.{List, [], ◌∷◌}
use Prim.Native.Nat.{ℕ, suc, ◌≤◌, ◌<◌}
use native.Mathlib.Omega.{arith}
use lib.ListN.{length, get_or, take, drop, set, length-set}
use lib.Seq.{take-set-le, drop-set-add, get_or-set_same}
use Rattle.spec_orders.specs.CircularOrder.{Restriction}
use Rattle.spec_orders.specs.Tree.{Kind, Forest, nil, node}
use Rattle.spec_orders.specs.Form.{fewest}
use Rattle.spec_calls.specs.Tables.{padded}
use Rattle.spec_calls.specs.NodeTable.{kind_number}
use Rattle.mark_words.specs.Marks.{marked}
use Rattle.table_reading.specs.Reading.{row_at, blanks, Known, Within, known, at_record, ItemsRead, Behind, none_read, blank, a_node}
use Rattle.table_sweep.proofs.Zeros.{zeros_are, are_zeros}
use Rattle.table_sweep.specs.Kept.{Roots, Kept, Inside, NodeIs, NodeSays, Finished, Swept, lost, all_blank, roots_known}
use Rattle.table_reading.proofs.Same.{behind_same}

-- The number of the records used is set.
set_used : (S : Restriction) {work : List ℕ} {x : ℕ} {ls : List ℕ} (v : ℕ) → Kept S work x nil ls → v ≡ x → Inside S (set work 264 v) x nil ls
unfolding Roots
set_used S {work} {x} v h e = record {
  kept = record {
    long = length-set work 264 v ∙ h.long;
    side = λ b l m. ap (λ (w : List ℕ). marked w b) (take-set-le 4 work 264 v (omega arith)) ∙ h.side b l m;
    seen = ap (take 4) (drop-set-add 4 work 260 v) ∙ take-set-le 4 (drop 4 work) 260 v (omega arith) ∙ h.seen;
    roots = tt;
    low = h.low;
  };
  used = get_or-set_same work 264 v 0 (omega (arith, h.long)) ∙ omega arith;
}

-- How what is known at a record came about.
record NodeRead (n : ℕ) (S : Restriction) (table : List ℕ) (r : ℕ) : Type 0 where
  s : Known
  k : Kind
  vs : List ℕ
  i : Forest
  z : Within
  row : row_at table r ≡ kind_number k ∷ length vs ∷ padded 255 vs
  enough : fewest k ≤ length vs
  most : length vs ≤ 255
  behind : Behind n S table (suc r) s
  reads : ItemsRead n S k vs (at_record n S k r s) i z
  rises : z.first < z.last

came_by : (n : ℕ) (S : Restriction) {table : List ℕ} {r : ℕ} {s : Known} → Behind n S table r s → r < 256
    → ((row_at table r ≡ blanks 257) × Behind n S table (suc r) (known n S nil [])) ⊎ NodeRead n S table r
came_by n S none_read l = absurd (omega arith)
came_by n S (blank l row c) m = inl (row, c)
came_by n S (a_node {s = s} {k = k} {vs = vs} {i = i} {z = z} l row enough most c t y) m =
    inr (record { s = s; k = k; vs = vs; i = i; z = z; row = row; enough = enough; most = most; behind = c; reads = t; rises = y })

module _ (n : ℕ) (S : Restriction) (table : List ℕ) (r kind count : ℕ) (places : List ℕ) (low : r < 256) (at : row_at table r ≡ kind ∷ count ∷ places) where
  row-parts : (k : Kind) (vs : List ℕ) → row_at table r ≡ kind_number k ∷ length vs ∷ padded 255 vs → (kind ≡ kind_number k) × (count ≡ length vs) × (places ≡ padded 255 vs)
  row-parts k vs e =
      let q = sym at ∙ e in
      (ap (λ (l : List ℕ). get_or l 0 0) q, ap (λ (l : List ℕ). get_or l 1 0) q, ap rest q)
    where
      rest : List ℕ → List ℕ
      rest [] = []
      rest (a ∷ []) = []
      rest (a ∷ (b ∷ l)) = l

  -- It is no node's, and none behind was lost.
  no_behind : {g : Forest} {ls : List ℕ} (work : List ℕ) → ((kind ∷ count ∷ places) ≡ blanks 257 → g ≡ nil → ⊥) → NodeSays n S r kind count places g ls work None → Behind n S table (suc r) (known n S g ls) → (s : Known) → Behind n S table r s → ⊥
  no_behind {g} {ls} work nb h b s c = go (came_by n S c low)
    where
      go : ((row_at table r ≡ blanks 257) × Behind n S table (suc r) (known n S nil [])) ⊎ NodeRead n S table r → ⊥
      go (inl p) = nb (sym at ∙ p.0) (ap (λ (u : Known). u.roots) (behind_same n S b p.1))
      go (inr o) =
          let p = row-parts o.k o.vs o.row in
          let e : o.s ≡ known n S g ls = behind_same n S o.behind b in
          h o.k o.vs o.i o.z p.0 p.1 p.2 o.enough o.most (subst (λ (y : Known). ItemsRead n S o.k o.vs (at_record n S o.k r y) o.i o.z) e o.reads) o.rises

  node_behind : {g : Forest} {ls work : List ℕ} (o : NodeIs n S r kind count places g ls work) → Behind n S table (suc r) (known n S g ls)
      → Behind n S table r (known n S (node o.its_kind o.items o.end.roots) o.end.leaves)
  node_behind o b =
      a_node low (at ∙ ap (λ (c : ℕ). c ∷ count ∷ places) o.kind_is ∙ ap (λ (c : ℕ). kind_number o.its_kind ∷ c ∷ places) o.count_is ∙ ap (λ (c : List ℕ). kind_number o.its_kind ∷ length o.entries ∷ c) o.places_are)
      o.enough o.most b o.reads o.rises

module _ (n : ℕ) (S : Restriction) (table : List ℕ) (r kind count : ℕ) (places : List ℕ) (low : r < 256) (at : row_at table r ≡ kind ∷ count ∷ places) where
  finished : {g : Forest} {ls work : List ℕ} → ((kind ∷ count ∷ places) ≡ blanks 257 → g ≡ nil → ⊥) → Behind n S table (suc r) (known n S g ls) → Finished n S r kind count places g ls work → Swept n S table r work
  finished nb b (inl o) = roots_known o.inside (node_behind n S table r kind count places low at o b)
  finished {work = work} nb b (inr h) = lost h.0 h.1 (no_behind n S table r kind count places low at work nb h.2 b)

  before : {s : Known} → Behind n S table r s → (u : Known) × Behind n S table (suc r) u
  before c = go (came_by n S c low)
    where
      go : ((row_at table r ≡ blanks 257) × Behind n S table (suc r) (known n S nil [])) ⊎ NodeRead n S table r → (u : Known) × Behind n S table (suc r) u
      go (inl p) = (known n S nil [], p.1)
      go (inr o) = (o.s, o.behind)

  -- It was lost before.
  pub still_lost : {work : List ℕ} → get_or work 264 0 ≡ 257 → Swept n S table (suc r) work → Swept n S table r work
  still_lost e (lost a b h) = lost a b (λ s t. let u = before t in h u.0 u.1)
  still_lost e (all_blank k z b) = absurd (omega arith)
  still_lost e (roots_known k b) = absurd (omega (arith, k.used, k.kept.low))

  -- Records behind it are used.
  pub one_more : {old new : List ℕ} → (get_or old 264 0 ≡ 257 → ⊥) → (get_or old 264 0 ≡ 0 → ⊥) → Swept n S table (suc r) old
      → ((g : Forest) (ls : List ℕ) → Inside S old (suc r) g ls → Finished n S r kind count places g ls new) → Swept n S table r new
  one_more p q (lost a b h) f = absurd (p b)
  one_more p q (all_blank k z b) f = absurd (q z)
  one_more p q (roots_known {k = w} {i = i} {f = y} {ls = ls} k b) f = finished (λ e x. clash x) b (f (node w i y) ls k)
    where
      clash : node w i y ≡ nil → ⊥
      clash e = let z : ◌≡◌ {A = ℕ} 0 1 = cc in omega arith

  -- None is, and it is blank.
  pub blank_too : {work : List ℕ} → get_or work 264 0 ≡ 0 → kind ∷ count ∷ places ≡ blanks 257 → Swept n S table (suc r) work → Swept n S table r work
  unfolding Roots
  blank_too e z (lost a b h) = absurd (omega arith)
  blank_too e z (all_blank k y b) =
      all_blank (record { long = k.long; side = k.side; seen = k.seen; roots = tt; low = omega arith }) y (blank low (at ∙ z) b)
  blank_too e z (roots_known k b) = absurd (omega (arith, k.used))

  -- It is the first that is used.
  pub first_used : {old new : List ℕ} (v : ℕ) → v ≡ suc r → get_or old 264 0 ≡ 0 → (kind ∷ count ∷ places ≡ blanks 257 → ⊥) → Swept n S table (suc r) old
      → ((g : Forest) (ls : List ℕ) → Inside S (set old 264 v) (suc r) g ls → Finished n S r kind count places g ls new) → Swept n S table r new
  first_used v w e z (lost a b h) f = absurd (omega arith)
  first_used v w e z (all_blank k y b) f = finished (λ q x. z q) b (f nil [] (set_used S v k w))
  first_used v w e z (roots_known k b) f = absurd (omega (arith, k.used))

-- A blank record, by its numbers.
pub blank_row : (kind count : ℕ) (places : List ℕ) → length places ≡ 255
    → ((kind ≡ 0) × (count ≡ 0) × EachIndex places (λ k. get_or places k 0 ≡ 0)) ↔ (kind ∷ count ∷ places ≡ blanks 257)
unfolding blanks
blank_row kind count places e = (
  (λ h. rw (h.0, h.1, zeros_are places h.2, e)),
  (λ h. (
    ap (λ (l : List ℕ). get_or l 0 0) h,
    ap (λ (l : List ℕ). get_or l 1 0) h,
    are_zeros 255 (ap (drop 2) h),
  )),
)
