-- What the entries of a record that are read spell, and what is left.
use mathlib.Core.Path.{◌≡◌, refl, sym, ap, ◌∙◌, subst}
use mathlib.Core.Bool.{true≢false}
use mathlib.Core.Logic.{◌≢◌}
use mathlib.Core.List.{List, [], ◌∷◌, ◌++◌, append_assoc}
use Prim.Native.Nat.{ℕ, zero, suc, ◌+◌, ◌≤◌, ◌<◌}
use native.Mathlib.Omega.{arith}
use lib.ListN.{length}
use Rattle.spec_orders.specs.Lists.{All, Distinct, In, Rearranged}
use Rattle.spec_orders.specs.CircularOrder.{Restriction}
use Rattle.spec_orders.specs.Tree.{Kind, P, C, Forest, nil, leaf, node, items, append, rev, frontier}
use Rattle.spec_orders.specs.Form.{first, nodes, Rises, Rising, Sorted, Canonical}
use Rattle.spec_orders.proofs.Rearranged.{perm_insert, pick_middle}
use Rattle.spec_orders.proofs.Members.{in_all, in_elem}
use Rattle.spec_orders.proofs.Laws.{forest_assoc, forest_nil}
use Rattle.spec_calls.specs.Tables.{padded}
use Rattle.spec_calls.specs.NodeTable.{kind_number, entries, rows}
use Rattle.tree_judge.specs.Judge.{states, judge}
use Rattle.tree_judge.specs.Automaton.{runs}
use Rattle.table_reading.specs.Reading.{Within, head, New, ItemsRead, read_none, read_leaf, read_root}

-- The first leaf of the last item, or else m.
abbrev pub last_of : ℕ → Forest → ℕ
last_of m nil = m
last_of m (leaf b f) = last_of b f
last_of m (node k i f) = last_of (first i) f

first-rev : (f g : Forest) → first (append (rev f) g) ≡ last_of (first g) f
first-rev nil g = refl
first-rev (leaf b f) g = ap first (forest_assoc (rev f) (leaf b nil) g) ∙ first-rev f (leaf b g)
first-rev (node k i f) g = ap first (forest_assoc (rev f) (node k i nil) g) ∙ first-rev f (node k i g)

pub last_is : (f : Forest) → first (rev f) ≡ last_of 0 f
last_is f = ap first (sym (forest_nil (rev f))) ∙ first-rev f nil

-- Leaves from 2 to n, each once.
abbrev pub Fresh : ℕ → List ℕ → Type 0
Fresh n l = All (λ b. (2 ≤ b) × (b ≤ n)) l × Distinct l

fresh_more : {n : ℕ} {l : List ℕ} {b : ℕ} → New n l b → Fresh n l → Fresh n (b ∷ l)
fresh_more {l = l} {b} w h = (((w.low, w.high), h.0), (in_all (λ y. b ≢ y) l (λ y i e. true≢false (sym (in_elem l b (subst (λ z. In z l) (sym e) i)) ∙ w.unread)), h.1))

some_more : (b : ℕ) {m : ℕ} → m < b → (c : ℕ) × (b ≡ suc c)
some_more zero l = absurd (omega arith)
some_more (suc c) l = (c, refl)

module _ (n : ℕ) (S : Restriction) {k : Kind} where
  -- They are the entries of the items, whose records come next.
  pub reads-next : {vs : List ℕ} {a z : Within} {i : Forest} → ItemsRead n S k vs a i z → z.next ≡ a.next + nodes i
  reads-next read_none = omega arith
  reads-next (read_leaf l w m h) = reads-next h
  reads-next (read_root l e g m h) = omega (arith, reads-next h)

  pub reads-entries : {vs : List ℕ} {a z : Within} {i : Forest} → ItemsRead n S k vs a i z → vs ≡ entries a.next i
  reads-entries read_none = refl
  reads-entries (read_leaf {v = v} l w m h) = ap (λ (vs : List ℕ). v ∷ vs) (reads-entries h)
  reads-entries (read_root {a = a} {j = j} {i = i} l e g m h) =
      let q : a.next + suc (nodes j) ≡ suc a.next + nodes j = omega arith in
      rw e (ap (λ (vs : List ℕ). (256 + a.next) ∷ vs) (reads-entries h ∙ ap (λ (x : ℕ). entries x i) q))

  -- The rows of the roots are those of the items, and then those of the roots that are left.
  pub reads-rows : {vs : List ℕ} {a z : Within} {i : Forest} → ItemsRead n S k vs a i z → rows a.next a.roots ≡ rows a.next i ++ rows z.next z.roots
  reads-rows read_none = refl
  reads-rows (read_leaf l w m h) = reads-rows h
  reads-rows (read_root {a = a} {z = z} {h = x} {j = j} {f = f} {i = i} l e g m h) =
      let q : a.next + suc (nodes j) ≡ suc a.next + nodes j = omega arith in
      let own : List ℕ = kind_number x ∷ length (entries (suc a.next) j) ∷ padded 255 (entries (suc a.next) j) in
      let inside : List ℕ = rows (suc a.next) j in
      let after : List ℕ = rows (a.next + suc (nodes j)) i in
      let left : List ℕ = rows z.next z.roots in
      rw (g, ← q, reads-rows h) (ap (λ (l : List ℕ). own ++ l) (sym (append_assoc inside after left)) ∙ sym (append_assoc own (inside ++ after) left))

  pub reads_canonical : {vs : List ℕ} {a z : Within} {i : Forest} → ItemsRead n S k vs a i z → Canonical a.roots → Canonical i × Canonical z.roots
  reads_canonical read_none c = (tt, c)
  reads_canonical (read_leaf l w m h) c = reads_canonical h c
  reads_canonical (read_root l e g m h) c =
      let d = subst Canonical g c in
      let r = reads_canonical h d.1 in
      ((d.0, r.0), r.1)

  -- The leaves.
  pub reads-leaves : {vs : List ℕ} {a z : Within} {i : Forest} → ItemsRead n S k vs a i z → (xs : List ℕ) → Rearranged a.leaves (xs ++ frontier a.roots)
      → Rearranged z.leaves (xs ++ (frontier i ++ frontier z.roots))
  reads-leaves read_none xs p = p
  reads-leaves (read_leaf {v = v} {a = a} {z} {i} l w m h) xs p =
      let ys = frontier a.roots in
      let q : Rearranged (v ∷ a.leaves) ((xs ++ (v ∷ [])) ++ ys) = rw append_assoc (perm_insert (pick_middle xs v ys) p) in
      let r = reads-leaves h (xs ++ (v ∷ [])) q in
      rw append_assoc at r
  reads-leaves (read_root {a = a} {z} {j = j} {f} {i} l e g m h) xs p =
      let q : Rearranged a.leaves ((xs ++ frontier j) ++ frontier f) = rw append_assoc (subst (λ (t : Forest). Rearranged a.leaves (xs ++ frontier t)) g p) in
      let r = reads-leaves h (xs ++ frontier j) q in
      simp append_assoc (simp append_assoc at r)

  pub reads-fresh : {vs : List ℕ} {a z : Within} {i : Forest} → ItemsRead n S k vs a i z → Fresh n a.leaves → Fresh n z.leaves
  reads-fresh read_none p = p
  reads-fresh (read_leaf l w m h) p = reads-fresh h (fresh_more w p)
  reads-fresh (read_root l e g m h) p = reads-fresh h p

  -- The first leaves of the first item and of the last one.
  pub reads_last : {vs : List ℕ} {a z : Within} {i : Forest} → ItemsRead n S k vs a i z → z.last ≡ last_of a.last i
  reads_last read_none = refl
  reads_last (read_leaf l w m h) = reads_last h
  reads_last (read_root l e g m h) = reads_last h

  reads-first_kept : {vs : List ℕ} {a z : Within} {i : Forest} {m : ℕ} → ItemsRead n S k vs a i z → a.first ≡ suc m → z.first ≡ suc m
  reads-first_kept read_none q = q
  reads-first_kept (read_leaf {v = v} l w m h) q = reads-first_kept h (ap (λ (x : ℕ). head x v) q)
  reads-first_kept (read_root {j = j} l e g m h) q = reads-first_kept h (ap (λ (x : ℕ). head x (first j)) q)

  pub reads_first : {vs : List ℕ} {a z : Within} {i : Forest} → ItemsRead n S k vs a i z → a.first ≡ 0 → z.first ≡ first i
  reads_first read_none q = q
  reads_first (read_leaf {v = v} l w m h) q = let c = some_more v m in reads-first_kept h (ap (λ (x : ℕ). head x v) q ∙ c.1) ∙ sym c.1
  reads_first (read_root {j = j} l e g m h) q = let c = some_more (first j) m in reads-first_kept h (ap (λ (x : ℕ). head x (first j)) q ∙ c.1) ∙ sym c.1

  -- Where they take the automaton.
  pub reads-run : {vs : List ℕ} {a z : Within} {i : Forest} → ItemsRead n S k vs a i z → z.run ≡ runs a.run (states (judge S i))
  unfolding judge
  reads-run read_none = refl
  reads-run (read_leaf l w m h) = reads-run h
  reads-run (read_root l e g m h) = reads-run h

-- A P-node's items rise.
reads_rise : (n : ℕ) (S : Restriction) {vs : List ℕ} {a z : Within} {i : Forest} → ItemsRead n S P vs a i z → Rises a.last (items i)
reads_rise n S read_none = tt
reads_rise n S (read_leaf l w m h) = (m, reads_rise n S h)
reads_rise n S (read_root l e g m h) = (m, reads_rise n S h)

rising : (m : ℕ) (i : Forest) → Rises m (items i) → Rising (items i)
rising m nil h = tt
rising m (leaf b f) h = h.1
rising m (node k j f) h = h.1

pub reads_sorted : (n : ℕ) (S : Restriction) (k : Kind) {vs : List ℕ} {a z : Within} {i : Forest} → ItemsRead n S k vs a i z → a.first ≡ 0 → a.last ≡ 0 → z.first < z.last → Sorted k i
reads_sorted n S P {a = a} {i = i} h p q l = rising a.last i (reads_rise n S h)
reads_sorted n S C {a = a} {i = i} h p q l =
    omega (arith, reads_first n S h p, reads_last n S h, ap (λ (m : ℕ). last_of m i) q, last_is i)
