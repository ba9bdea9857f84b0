-- The table of a tree in form is read to its end, and the tree is then the only root.
use mathlib.Core.Path.{◌≡◌, refl, sym, ap, ◌∙◌, subst}
use mathlib.Core.Logic.{◌≢◌}
use mathlib.Core.List.{List, [], ◌∷◌, ◌++◌, append_assoc, append-nil}
use Prim.Native.Nat.{ℕ, zero, suc, ◌+◌, ◌-◌, ◌*◌, ◌≤◌, ◌<◌}
use native.Mathlib.Omega.{arith}
use lib.ListN.{length, take, drop, replicate, length-append}
use lib.Seq.{take_at, drop_at, drop-drop}
use Rattle.spec_orders.specs.Lists.{All, Distinct, Rearranged}
use Rattle.spec_orders.specs.CircularOrder.{Restriction}
use Rattle.spec_orders.specs.Tree.{Kind, P, C, Forest, nil, leaf, node, items, append, frontier}
use Rattle.spec_orders.specs.Form.{first, nodes, Rises, Rising, Sorted, Enough, Canonical, InForm}
use Rattle.spec_orders.proofs.Numbers.{not_elem}
use Rattle.spec_orders.proofs.Rearranged.{perm_refl, perm_trans, perm_sym, perm_skip, perm_left, perm_append, perm_swap, perm_insert, pick_middle, perm_distinct, perm_all, perm_length}
use Rattle.spec_orders.proofs.Members.{distinct_right}
use Rattle.spec_orders.proofs.ListLaws.{all_left, all_right}
use Rattle.spec_orders.proofs.Laws.{enough_two}
use Rattle.spec_orders.proofs.Forms.{form_distinct, form_more, others_range}
use Rattle.spec_orders.proofs.TextTree.{form_length}
use Rattle.spec_calls.specs.NodeTable.{entries, rows, table_of, Holds}
use Rattle.spec_calls.proofs.NodeTables.{Narrow, row, first-row, rows_after, entries-length, row-length, rows-length, at_next, form_narrow, form_few}
use Rattle.table_reading.specs.Reading.{row_at, blanks, Within, least, New, known, at_record, after_leaf, after_root, ItemsRead, read_none, read_leaf, read_root, Behind, none_read, blank, a_node}
use Rattle.table_reading.proofs.Reading.{last_of, last_is, reads_first, reads_last}
use Rattle.table_reading.proofs.Sound.{tail, row_first, blanks_more, length-blanks}

-- The nodes among the items; the leaves among them; the leaves inside the nodes.
abbrev only-nodes : Forest → Forest
only-nodes nil = nil
only-nodes (leaf b f) = only-nodes f
only-nodes (node k i f) = node k i (only-nodes f)

abbrev own : Forest → List ℕ
own nil = []
own (leaf b f) = b ∷ own f
own (node k i f) = own f

abbrev inner : Forest → List ℕ
inner nil = []
inner (leaf b f) = inner f
inner (node k i f) = frontier i ++ inner f

-- x ++ (y ++ z) and y ++ (x ++ z).
perm_past : (x y z : List ℕ) → Rearranged (x ++ (y ++ z)) (y ++ (x ++ z))
perm_past x y z = simp append_assoc at (perm_append (perm_swap x y) (perm_refl z))

frontier_perm : (f : Forest) → Rearranged (frontier f) (own f ++ inner f)
frontier_perm nil = perm_refl []
frontier_perm (leaf b f) = perm_skip b (frontier_perm f)
frontier_perm (node k i f) = perm_trans (perm_left (frontier i) (frontier_perm f)) (perm_past (frontier i) (own f) (inner f))

abbrev Ranged : ℕ → List ℕ → Type 0
Ranged n = All (λ b. (2 ≤ b) × (b ≤ n))

-- Each item is above the one before it, as its kind asks.
abbrev Above : Kind → ℕ → Forest → Type 0
Above k m nil = Unit {0}
Above k m (leaf b f) = (least k m < b) × Above k b f
Above k m (node h j f) = (least k m < first j) × Above k (first j) f

-- First leaves are positive.
positive : (n : ℕ) (f : Forest) → Canonical f → Ranged n (frontier f) → 1 ≤ length (items f) → 0 < first f
positive n nil c r l = absurd (omega arith)
positive n (leaf b f) c r l = omega (arith, r.0.0)
positive n (node k i f) c r l = positive n i c.0.1 (all_left (λ b. (2 ≤ b) × (b ≤ n)) (frontier i) (frontier f) r) (omega (arith, enough_two k i c.0.0.0))

above_c : (n m : ℕ) (f : Forest) → Canonical f → Ranged n (frontier f) → Above C m f
above_c n m nil c r = tt
above_c n m (leaf b f) c r = (omega (arith, r.0.0), above_c n b f c r.1)
above_c n m (node k i f) c r =
    let a = all_left (λ b. (2 ≤ b) × (b ≤ n)) (frontier i) (frontier f) r in
    (positive n i c.0.1 a (omega (arith, enough_two k i c.0.0.0)), above_c n (first i) f c.1 (all_right (λ b. (2 ≤ b) × (b ≤ n)) (frontier i) (frontier f) r))

above_p : (m : ℕ) (f : Forest) → Rises m (items f) → Above P m f
above_p m nil h = tt
above_p m (leaf b f) h = (h.0, above_p b f h.1)
above_p m (node k i f) h = (h.0, above_p (first i) f h.1)

rises-first : (f : Forest) → 0 < first f → 1 ≤ length (items f) → Rising (items f) → Rises 0 (items f)
rises-first nil p l h = tt
rises-first (leaf b f) p l h = (p, h)
rises-first (node k i f) p l h = (p, h)

above : (n : ℕ) (k : Kind) (i : Forest) → Canonical i → Ranged n (frontier i) → Enough k i → Sorted k i → Above k 0 i
above n P i c r enough s = above_p 0 i (rises-first i (positive n i c r (omega arith)) (omega arith) s)
above n C i c r enough s = above_c n 0 i c r

-- The first item is below the last.
no_fall : (m : ℕ) (f : Forest) → Rises m (items f) → m ≤ last_of m f
no_fall m nil h = omega arith
no_fall m (leaf b f) h = omega (arith, h.0, no_fall b f h.1)
no_fall m (node k i f) h = omega (arith, h.0, no_fall (first i) f h.1)

a_rise : (m : ℕ) (f : Forest) → 1 ≤ length (items f) → Rises m (items f) → m < last_of m f
a_rise m nil l h = absurd (omega arith)
a_rise m (leaf b f) l h = omega (arith, h.0, no_fall b f h.1)
a_rise m (node k i f) l h = omega (arith, h.0, no_fall (first i) f h.1)

first_last : (k : Kind) (i : Forest) → Enough k i → Sorted k i → first i < last_of 0 i
first_last P nil enough s = absurd (omega arith)
first_last P (leaf b f) enough s = a_rise b f (omega arith) s
first_last P (node h j f) enough s = a_rise (first j) f (omega arith) s
first_last C i enough s = omega (arith, last_is i)

module _ (n : ℕ) (S : Restriction) (table : List ℕ) where
  -- Blank records.
  pub all_blank : (d r : ℕ) → r + d ≡ 256 → tail table r ≡ blanks (257 * d) → Behind n S table r (known n S nil [])
  all_blank zero r e b = let q : 256 ≡ r = omega arith in subst (λ (m : ℕ). Behind n S table m (known n S nil [])) q none_read
  all_blank (suc d) r e b =
      let m : 257 * suc d ≡ 257 + 257 * d = omega arith in
      let two : tail table r ≡ blanks 257 ++ blanks (257 * d) = b ∙ ap blanks m ∙ sym (blanks_more 257 (257 * d)) in
      let x : 257 * suc r ≡ 257 * r + 257 = omega arith in
      let low : r < 256 = omega arith in
      blank low (row_first table r low ∙ ap (take 257) two ∙ take_at (blanks 257) (blanks (257 * d)) 257 (length-blanks 257))
      (all_blank d (suc r) (omega arith) (ap (λ (k : ℕ). drop k (take 65792 table)) x ∙ sym (drop-drop 257 (257 * r) (take 65792 table)) ∙ ap (drop 257) two ∙ drop_at (blanks 257) (blanks (257 * d)) 257 (length-blanks 257)))

module _ (n : ℕ) (small : n ≤ 256) (S : Restriction) where
  -- The items of a node are read, where its nodes are the first roots, and g is behind them.
  record ReadsTo (k : Kind) (vs : List ℕ) (a : Within) (i g : Forest) : Type 0 where
    end : Within
    reads : ItemsRead n S k vs a i end
    left : end.roots ≡ g
    leaves_are : Rearranged end.leaves (own i ++ a.leaves)

  all_reads : (k : Kind) (i : Forest) (x : ℕ) (a : Within) (g : Forest) → x ≡ a.next → 1 ≤ a.next → a.roots ≡ append (only-nodes i) g → Ranged n (own i) → Distinct (own i ++ a.leaves) → Above k a.last i
      → ReadsTo k (entries x i) a i g
  all_reads k nil x a g q o e r d h = record { end = a; reads = read_none; left = e; leaves_are = perm_refl a.leaves }
  all_reads k (leaf b f) x a g q o e r d h =
      let past : Rearranged (b ∷ (own f ++ a.leaves)) (own f ++ (b ∷ a.leaves)) = perm_insert (pick_middle (own f) b a.leaves) (perm_refl (own f ++ a.leaves)) in
      let t = all_reads k f x (after_leaf n S a b) g q o e r.1 (perm_distinct past d) h.1 in
      let new : New n a.leaves b = record { low = r.0.0; high = r.0.1; unread = not_elem b a.leaves (all_right (λ y. b ≢ y) (own f) a.leaves d.0) } in
      let low : b ≤ 256 = omega (arith, r.0.1) in
      record { end = t.end; reads = read_leaf low new h.0 t.reads; left = t.left; leaves_are = perm_trans t.leaves_are (perm_sym past) }
  all_reads k (node c j f) x a g q o e r d h =
      let z : suc x + nodes j ≡ a.next + suc (nodes j) = omega arith in
      let t = all_reads k f (suc x + nodes j) (after_root n S a c j (append (only-nodes f) g)) g z (omega arith) refl r d h.1 in
      let high : 256 < 256 + x = omega arith in
      record { end = t.end; reads = read_root high (ap (λ (m : ℕ). 256 + m) q) e h.0 t.reads; left = t.left; leaves_are = t.leaves_are }

  module _ (table : List ℕ) where
    -- The records of a sequence are read, before those behind it.
    record ReadTo (r : ℕ) (f g : Forest) (ls : List ℕ) : Type 0 where
      read : List ℕ
      behind : Behind n S table r (known n S (append (only-nodes f) g) read)
      leaves_are : Rearranged read (inner f ++ ls)

    abbrev Rows : ℕ → Forest → List ℕ → Type 0
    Rows r f more = tail table r ≡ rows r f ++ more

    -- A node's record, its items being read.
    node_behind : (k : Kind) (i g : Forest) (r : ℕ) (ls : List ℕ) → r < 256 → row_at table r ≡ row k (entries (suc r) i) → length (items i) ≤ 255 → Enough k i → Sorted k i
        → Behind n S table (suc r) (known n S (append (only-nodes i) g) ls) → (v : ReadsTo k (entries (suc r) i) (at_record n S k r (known n S (append (only-nodes i) g) ls)) i g)
        → Behind n S table r (known n S (node k i g) v.end.leaves)
    node_behind k i g r ls low at few enough sorted b v =
        let many = entries-length (suc r) i in
        subst (λ (x : Forest). Behind n S table r (known n S (node k i x) v.end.leaves)) v.left
        (a_node low at (omega (arith, enough)) (omega arith) b v.reads (omega (arith, reads_first n S v.reads refl, reads_last n S v.reads, first_last k i enough sorted)))

    -- And the leaves below it.
    record NodeRead (k : Kind) (i g : Forest) (r : ℕ) (ls : List ℕ) : Type 0 where
      read : List ℕ
      behind : Behind n S table r (known n S (node k i g) read)
      leaves_are : Rearranged read (frontier i ++ ls)

    node_read : (k : Kind) (i g : Forest) (r : ℕ) (ls : List ℕ) → r < 256 → row_at table r ≡ row k (entries (suc r) i) → length (items i) ≤ 255 → Enough k i → Sorted k i
        → Canonical i → Ranged n (frontier i) → Distinct (frontier i ++ ls) → ReadTo (suc r) i g ls → NodeRead k i g r ls
    node_read k i g r ls low at few enough sorted c ra d u =
        let split : Rearranged (frontier i ++ ls) (own i ++ u.read) =
        perm_trans (rw append_assoc at (perm_append (frontier_perm i) (perm_refl ls))) (perm_left (own i) (perm_sym u.leaves_are)) in
        let v : ReadsTo k (entries (suc r) i) (at_record n S k r (known n S (append (only-nodes i) g) u.read)) i g =
        all_reads k i (suc r) (at_record n S k r (known n S (append (only-nodes i) g) u.read)) g refl (omega arith) refl
        (all_left (λ b. (2 ≤ b) × (b ≤ n)) (own i) (inner i) (perm_all (λ b. (2 ≤ b) × (b ≤ n)) (frontier_perm i) ra)) (perm_distinct split d) (above n k i c ra enough sorted) in
        record { read = v.end.leaves; behind = node_behind k i g r u.read low at few enough sorted u.behind v; leaves_are = perm_trans v.leaves_are (perm_sym split) }

    all_read : (f g : Forest) (r : ℕ) (ls more : List ℕ) → Rows r f more → r + nodes f ≤ 256 → Canonical f → Narrow f → Ranged n (frontier f) → Distinct (inner f ++ ls)
        → Behind n S table (r + nodes f) (known n S g ls) → ReadTo r f g ls
    all_read nil g r ls more at l c w ra d b = let e : r + 0 ≡ r = omega arith in record { read = ls; behind = subst (λ (m : ℕ). Behind n S table m (known n S g ls)) e b; leaves_are = perm_refl ls }
    all_read (leaf x f) g r ls more at l c w ra d b = let t = all_read f g r ls more at l c w ra.1 d b in record { read = t.read; behind = t.behind; leaves_are = t.leaves_are }
    all_read (node k i f) g r ls more at l c w ra d b =
        let es = entries (suc r) i in
        let back : List ℕ = rows (suc r + nodes i) f ++ more in
        let here = first-row (take 65792 table) r k i f more at in
        let wide = row-length k (suc r) i w.0.0 in
        let next = at_next (take 65792 table) r k es (rows (suc r) i ++ back) here wide in
        let after = rows_after (take 65792 table) (suc r) i back w.0.1 next in
        let ra-i = all_left (λ b. (2 ≤ b) × (b ≤ n)) (frontier i) (frontier f) ra in
        let d₀ : Distinct (frontier i ++ (inner f ++ ls)) = rw append_assoc at d in
        let e₀ : r + suc (nodes i + nodes f) ≡ suc r + nodes i + nodes f = omega arith in
        let t = all_read f g (suc r + nodes i) ls more after (omega arith) c.1 w.1 (all_right (λ b. (2 ≤ b) × (b ≤ n)) (frontier i) (frontier f) ra) (distinct_right (frontier i) (inner f ++ ls) d₀)
        (subst (λ (m : ℕ). Behind n S table m (known n S g ls)) e₀ b) in
        let same : Rearranged (frontier i ++ (inner f ++ ls)) (frontier i ++ t.read) = perm_left (frontier i) (perm_sym t.leaves_are) in
        let d₁ : Distinct (frontier i ++ t.read) = perm_distinct same d₀ in
        let d₂ : Distinct (own i ++ (inner i ++ t.read)) = perm_distinct (rw append_assoc at (perm_append (frontier_perm i) (perm_refl t.read))) d₁ in
        let u = all_read i (append (only-nodes f) g) (suc r) t.read back next (omega arith) c.0.1 w.0.1 ra-i (distinct_right (own i) (inner i ++ t.read) d₂) t.behind in
        let o = node_read k i (append (only-nodes f) g) r t.read (omega arith) (row_first table r (omega arith) ∙ ap (take 257) here ∙ take_at (row k es) (rows (suc r) i ++ back) 257 wide) w.0.0 c.0.0.0 c.0.0.1 c.0.1 ra-i d₁ u in
        record { read = o.read; behind = o.behind; leaves_are = perm_trans o.leaves_are (simp append_assoc (perm_sym same)) }

    pub record Complete (t : Forest) : Type 0 where
      pub read : List ℕ
      pub behind : Behind n S table 0 (known n S t read)
      pub all : length read ≡ n - 1

    whole : (k : Kind) (i : Forest) → InForm n (node k i nil) → ReadTo 0 (node k i nil) nil [] → Complete (node k i nil)
    whole k i f r = record {
      read = r.read;
      behind = r.behind;
      all = omega (arith, perm_length r.leaves_are, length-append (frontier (node k i nil)) [], form_length n (node k i nil) f);
    }

    node_complete : (k : Kind) (i : Forest) → Holds n table (node k i nil) → Complete (node k i nil)
    unfolding table_of blanks
    node_complete k i h =
        let t : Forest = node k i nil in
        let f = h.in_form in
        let w = form_narrow n t f small in
        let few = form_few n t f small in
        let long = rows-length 0 t w in
        let d : ℕ = 256 - nodes t in
        let zeros : 65792 - length (rows 0 t) ≡ 257 * d = omega (arith, long, few) in
        let at : tail table 0 ≡ rows 0 t ++ blanks (257 * d) = h.records ∙ ap (λ (m : ℕ). rows 0 t ++ replicate m 0) zeros in
        let behind = rows_after (take 65792 table) 0 t (blanks (257 * d)) w at in
        let ranged = perm_all (λ b. (2 ≤ b) × (b ≤ n)) f.all_leaves (others_range n) in
        let different : Distinct (frontier t ++ []) = rw append-nil (form_distinct n t f) in
        let r = all_read t nil 0 [] (blanks (257 * d)) at (omega (arith, few)) f.canonical w ranged different (all_blank n S table d (0 + nodes t) (omega (arith, few)) behind) in
        whole k i f r

    pub complete : (t : Forest) → 3 ≤ n → Holds n table t → Complete t
    complete t m h = let r = form_more n t h.in_form m in subst Complete (sym r.2) (node_complete r.0 r.1 (subst (Holds n table) r.2 h))
