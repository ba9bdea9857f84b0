-- A node table with a C-node of two items in any of its records holds no tree, so every call that looks at it answers 3.
use mathlib.Core.Path.{◌≡◌, refl, sym, ◌∙◌, ap, subst}
use mathlib.Core.Bool.{Bool, true, false}
use mathlib.Core.Option.{none, some}
use mathlib.Core.List.{List, ◌∷◌, ◌++◌}
use Prim.Native.Nat.{ℕ, suc, ◌+◌, ◌-◌, ◌*◌, ◌≤◌, ◌<◌}
use native.Mathlib.Omega.{arith}
use borrow.Author.Tests.{le-ltb, eqb-true, eqb-false, ltb-true, ltb-false}
use lib.Dec.{eqb, ltb}
use lib.ListN.{length, get_or, drop, replicate, length-replicate, get_or-replicate, get_or-append, take-append-drop}
use lib.Seq.{get_or-drop}
use Rattle.spec_orders.specs.Tree.{Kind, P, C, Forest, nil, leaf, node}
use Rattle.spec_orders.specs.Form.{Every, nodes, Enough}
use Rattle.spec_orders.proofs.Tests.{or_right}
use Rattle.spec_orders.proofs.Relabel.{form_enough}
use Rattle.spec_calls.specs.declared.Refusal.TheVariants.{NotInForm}
use Rattle.spec_calls.specs.Tables.{Nodes, leaves, Book, padded}
use Rattle.spec_calls.specs.NodeTable.{kind_number, entries, rows, Holds, held_tree}
use Rattle.spec_calls.specs.Refusals.{first_refusal}
use Rattle.spec_calls.specs.Calls.{is_none, join_refusal, order_refusal, aim_refusal, write_refusal, common_checks, intersect_refusal}
use Rattle.spec_calls.specs.Demands.{LentWhole, SameBins}
use Rattle.spec_calls.proofs.NodeTables.{Narrow, entries-length, row-length, rows-length, first-row, rows_after, at_kind, at_count, at_next, form_narrow, form_few, table_rows, tree_in_none}
use Rattle.spec_calls.proofs.Demands.{nodes_fine, whole_size, whole-rack, whole-nodes}
use Rattle.spec_calls.proofs.Intersect.{bins_fine}
use Rattle.spec_demands.specs.Demands.{LentThreeNeighbours}

-- A node of kind 2 that has enough items has three or more.
c_entries : (k : Kind) (i : Forest) → Enough k i → kind_number k ≡ 2 → (r : ℕ) → 3 ≤ length (entries r i)
c_entries P i h e r = absurd (omega arith)
c_entries C i h e r = omega (arith, entries-length r i)

module _ (table : List ℕ) where
  -- So has every record of kind 2 among those of f, which stand from record r on.
  abbrev EnoughIn : Forest → Type 0
  EnoughIn f =
      (r j : ℕ) (more : List ℕ) → Every Enough f → Narrow f → drop (257 * r) table ≡ rows r f ++ more → r ≤ j → j < r + nodes f
      → get_or table (257 * j) 0 ≡ 2 → 3 ≤ get_or table (257 * j + 1) 0

  enough_rows : (f : Forest) → EnoughIn f
  enough_rows nil r j more w s at l m e = absurd (omega arith)
  enough_rows (leaf b f) r j more w s at l m e = enough_rows f r j more w s at l m e
  enough_rows (node k i f) r j more w s at l m e = by_place (eqb r j) refl (ltb j (suc r + nodes i)) refl (enough_rows i) (enough_rows f)
    where
      back : List ℕ
      back = rows (suc r + nodes i) f ++ more

      here : drop (257 * r) table ≡ (kind_number k ∷ length (entries (suc r) i) ∷ padded 255 (entries (suc r) i)) ++ (rows (suc r) i ++ back)
      here = first-row table r k i f more at

      next : drop (257 * suc r) table ≡ rows (suc r) i ++ back
      next = at_next table r k (entries (suc r) i) (rows (suc r) i ++ back) here (row-length k (suc r) i s.0.0)

      by_place : (own : Bool) → eqb r j ≡ own → (inner : Bool) → ltb j (suc r + nodes i) ≡ inner → EnoughIn i → EnoughIn f → 3 ≤ get_or table (257 * j + 1) 0
      by_place true q inner p a b =
          let same = eqb-true r j q in
          let kind : get_or table (257 * r) 0 ≡ 2 = rw same e in
          subst (λ (x : ℕ). 3 ≤ get_or table (257 * x + 1) 0) same
          (omega (arith, at_count table r k (entries (suc r) i) _ here, c_entries k i w.0.0 (sym (at_kind table r k (entries (suc r) i) _ here) ∙ kind) (suc r)))
      by_place false q true p a b = a (suc r) j back w.0.1 s.0.1 next (omega (arith, eqb-false r j q)) (ltb-true j (suc r + nodes i) p) e
      by_place false q false p a b =
          b (suc r + nodes i) j more w.1 s.1 (rows_after table (suc r) i back s.0.1 next) (ltb-false j (suc r + nodes i) p) (omega arith) e

-- Behind the rows of a tree all is zero.
blank_row : (table : List ℕ) (m k j : ℕ) (more : List ℕ) → drop (257 * m) table ≡ replicate k 0 ++ more → m ≤ j → 257 * j < 257 * m + k → get_or table (257 * j) 0 ≡ 0
blank_row table m k j more at l h =
    let e : 257 * j ≡ 257 * m + 257 * (j - m) = omega arith in
    ap (λ (x : ℕ). get_or table x 0) e ∙ sym (get_or-drop (257 * m) table (257 * (j - m)) 0) ∙ ap (λ (x : List ℕ). get_or x (257 * (j - m)) 0) at
    ∙ get_or-append (replicate k 0) more 0 (257 * (j - m)) (omega (arith, length-replicate {A = ℕ} k 0)) ∙ get_or-replicate k (257 * (j - m)) 0 0 (omega arith)

not_held : (n : ℕ) (table : List ℕ) (t : Forest) (j : ℕ) → n ≤ 256 → j < 256 → get_or table (257 * j) 0 ≡ 2 → get_or table (257 * j + 1) 0 ≡ 2 → Holds n table t → ⊥
not_held n table t j l m kind two h = by_place (ltb j (nodes t)) refl
  where
    narrow : Narrow t
    narrow = form_narrow n t h.in_form l

    more : List ℕ
    more = replicate (65792 - length (rows 0 t)) 0 ++ drop 65792 table

    at : drop (257 * 0) table ≡ rows 0 t ++ more
    at = sym (take-append-drop 65792 table) ∙ ap (λ (x : List ℕ). x ++ drop 65792 table) h.records ∙ table_rows t (drop 65792 table)

    by_place : (b : Bool) → ltb j (nodes t) ≡ b → ⊥
    by_place true q = omega (arith, enough_rows table t 0 j more (form_enough h.in_form) narrow at (omega arith) (omega (arith, ltb-true j (nodes t) q)) kind)
    by_place false q =
        let few = form_few n t h.in_form l in
        let many = rows-length 0 t narrow in
        let low = ltb-false j (nodes t) q in
        omega (arith, blank_row table (0 + nodes t) (65792 - length (rows 0 t)) j (drop 65792 table) (rows_after table 0 t more narrow at) (omega arith) (omega arith))

module _ (nodes : Nodes) (h : LentThreeNeighbours nodes) where
  no_tree : held_tree nodes ≡ none
  no_tree = (tree_in_none (leaves nodes) nodes.rows h.whole.few_leaves).1 (λ t g. not_held (leaves nodes) nodes.rows t h.place h.whole.few_leaves h.inside h.c_node h.two_items g)

  pub join_meets_3 : (book : Book) (list : List ℕ) → 384 ≤ length book.words → join_refusal nodes book list ≡ some NotInForm
  unfolding join_refusal
  join_meets_3 book list b = rw (whole_size h.whole, whole-rack h.whole, whole-nodes h.whole, le-ltb (length book.words) 384 b, no_tree)

  pub order_meets_3 : (order : List ℕ) → nodes.bins ≤ length order → order_refusal nodes order ≡ some NotInForm
  unfolding order_refusal
  order_meets_3 order b = rw (whole_size h.whole, whole-rack h.whole, whole-nodes h.whole, le-ltb (length order) nodes.bins b, no_tree)

  pub aim_meets_3 : (book : Book) (k : ℕ) → 384 ≤ length book.words → aim_refusal nodes book k ≡ some NotInForm
  unfolding aim_refusal
  aim_meets_3 book k b = rw (whole_size h.whole, whole-rack h.whole, whole-nodes h.whole, le-ltb (length book.words) 384 b, no_tree)

  pub write_meets_3 : (bytes : List ℕ) → 2048 ≤ length bytes → write_refusal nodes bytes ≡ some NotInForm
  unfolding write_refusal
  write_meets_3 bytes b = rw (whole_size h.whole, whole-rack h.whole, whole-nodes h.whole, le-ltb (length bytes) 2048 b, no_tree)

  module _ (other third : Nodes) (o : LentWhole other) (all_records : 256 ≤ third.records) (all_rows : 65792 ≤ length third.rows) where
    pair_passes : (one two : Nodes) → LentWhole one → LentWhole two → SameBins one two
        → intersect_refusal one two third ≡ first_refusal (common_checks one two)
    unfolding intersect_refusal
    pair_passes one two v w e =
        rw (whole_size v, whole_size w, whole-rack v, whole-rack w, whole-nodes v, whole-nodes w, nodes_fine third all_records all_rows, bins_fine one two e)

    pub first_meets_3 : SameBins nodes other → intersect_refusal nodes other third ≡ some NotInForm
    first_meets_3 e = pair_passes nodes other h.whole o e ∙ rw no_tree

    pub second_meets_3 : SameBins other nodes → intersect_refusal other nodes third ≡ some NotInForm
    second_meets_3 e = pair_passes other nodes o h.whole e ∙ rw (no_tree, or_right (is_none (held_tree other)) true refl)
