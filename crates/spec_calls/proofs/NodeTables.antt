-- The node table and the tree determine each other: what the records of a tree in form spell is that tree.
use mathlib.Core.Path.{◌≡◌, refl, sym, ◌∙◌, ap, ap₂, subst}
use mathlib.Core.Logic.{◌↔◌}
use mathlib.Core.Bool.{Bool, true, false, cond, ◌&&◌}
use mathlib.Core.Option.{Option, none, some}
use mathlib.Core.List.{List, [], ◌∷◌, ◌++◌, append_assoc}
use Prim.Native.Nat.{ℕ, zero, suc, ◌+◌, ◌-◌, ◌*◌, ◌≤◌}
use native.Mathlib.Omega.{arith}
use borrow.Author.Tests.{leb-true, leb-false, le-leb, lt-leb}
use lib.Dec.{leb}
use lib.ListN.{length, get_or, take, drop, replicate, length-append, length-replicate, take-append-drop}
use lib.Seq.{get_or-drop, drop-drop, drop_at, take-append_seam}
use Rattle.spec_orders.specs.Lists.{All, same}
use Rattle.spec_orders.specs.CircularOrder.{others}
use Rattle.spec_orders.specs.Tree.{Kind, P, C, Forest, nil, leaf, node, items, frontier, append}
use Rattle.spec_orders.specs.Form.{Every, nodes, InForm, in_form?}
use Rattle.spec_orders.specs.TreeText.{tree_text, Forked}
use Rattle.spec_orders.specs.Join.{leaf_items}
use Rattle.spec_orders.proofs.ListLaws.{all_left, all_right, all_map}
use Rattle.spec_orders.proofs.Forms.{form_forked, nodes_bound, form_one, form_two, form_more}
use Rattle.spec_orders.proofs.TextTree.{text_injective, leaves_most, form_length}
use Rattle.spec_orders.proofs.FormTests.{same_decides, form_decides}
use Rattle.spec_orders.proofs.Tests.{both}
use Rattle.spec_calls.specs.Tables.{over, padded}
use Rattle.spec_calls.specs.NodeTable.{kind_number, entries, rows, table_of, Holds, kind_of, spelled_items, spelled, spelled_tree, tree_in}

-- A row has 257 places: every node has at most 255 items.
abbrev pub Narrow : Forest → Type 0
Narrow f = Every (λ k i. length (items i) ≤ 255) f

narrow : (f : Forest) → Forked f → length (frontier f) ≤ 255 → Narrow f
narrow nil h l = tt
narrow (leaf b f) h l = narrow f h (omega arith)
narrow (node k i f) h l =
    let e = length-append (frontier i) (frontier f) in
    ((omega (arith, nodes_bound i h.0.1), narrow i h.0.1 (omega arith)), narrow f h.1 (omega arith))

pub entries-length : (r : ℕ) (f : Forest) → length (entries r f) ≡ length (items f)
entries-length r nil = refl
entries-length r (leaf b f) = ap suc (entries-length r f)
entries-length r (node k i f) = ap suc (entries-length (suc r + nodes i) f)

pub padded-length : (k : ℕ) (xs : List ℕ) → length xs ≤ k → length (padded k xs) ≡ k
padded-length k xs h = omega (arith, length-append xs (replicate (k - length xs) 0), length-replicate {A = ℕ} (k - length xs) 0)

abbrev pub row : Kind → List ℕ → List ℕ
row k es = kind_number k ∷ length es ∷ padded 255 es

pub row-length : (k : Kind) (r : ℕ) (i : Forest) → length (items i) ≤ 255 → length (row k (entries r i)) ≡ 257
row-length k r i h =
    let e = entries-length r i in
    omega (arith, padded-length 255 (entries r i) (omega arith))

pub rows-length : (r : ℕ) (f : Forest) → Narrow f → length (rows r f) ≡ 257 * nodes f
rows-length r nil h = refl
rows-length r (leaf b f) h = rows-length r f h
rows-length r (node k i f) h =
    omega (
      arith,
      length-append (row k (entries (suc r) i)) (rows (suc r) i ++ rows (suc r + nodes i) f),
      row-length k (suc r) i h.0.0,
      length-append (rows (suc r) i) (rows (suc r + nodes i) f),
      rows-length (suc r) i h.0.1,
      rows-length (suc r + nodes i) f h.1,
    )

-- A node's own row, the rows inside it, and the rows after it.
pub first-row : (table : List ℕ) (r : ℕ) (k : Kind) (i f : Forest) (more : List ℕ) → drop (257 * r) table ≡ rows r (node k i f) ++ more
    → drop (257 * r) table ≡ row k (entries (suc r) i) ++ (rows (suc r) i ++ (rows (suc r + nodes i) f ++ more))
first-row table r k i f more at = at ∙ simp append_assoc

pub rows_after : (table : List ℕ) (r : ℕ) (f : Forest) (more : List ℕ) → Narrow f → drop (257 * r) table ≡ rows r f ++ more → drop (257 * (r + nodes f)) table ≡ more
rows_after table r f more w at =
    let e : 257 * (r + nodes f) ≡ 257 * r + 257 * nodes f = omega arith in
    ap (λ j. drop j table) e ∙ sym (drop-drop (257 * nodes f) (257 * r) table) ∙ ap (drop (257 * nodes f)) at ∙ drop_at (rows r f) more (257 * nodes f) (rows-length r f w)

kind_back : (k : Kind) → kind_of (kind_number k) ≡ k
kind_back P = refl
kind_back C = refl

-- The record r of a table that has a row there.
module _ (table : List ℕ) (r : ℕ) (k : Kind) (es more : List ℕ) (at : drop (257 * r) table ≡ row k es ++ more) where
  pub at_kind : get_or table (257 * r) 0 ≡ kind_number k
  at_kind =
      let e : 257 * r ≡ 257 * r + 0 = omega arith in
      ap (λ j. get_or table j 0) e ∙ sym (get_or-drop (257 * r) table 0 0) ∙ ap (λ l. get_or l 0 0) at

  pub at_count : get_or table (257 * r + 1) 0 ≡ length es
  at_count = sym (get_or-drop (257 * r) table 1 0) ∙ ap (λ l. get_or l 1 0) at

  pub at_places : take (length es) (drop (257 * r + 2) table) ≡ es
  at_places =
      ap (take (length es)) (sym (drop-drop 2 (257 * r) table) ∙ ap (drop 2) at ∙ append_assoc es (replicate (255 - length es) 0) more)
      ∙ take-append_seam es (replicate (255 - length es) 0 ++ more)

  pub at_next : length (row k es) ≡ 257 → drop (257 * suc r) table ≡ more
  at_next h =
      let e : 257 * suc r ≡ 257 * r + 257 = omega arith in
      ap (λ j. drop j table) e ∙ sym (drop-drop 257 (257 * r) table) ∙ ap (drop 257) at ∙ drop_at (row k es) more 257 h

  -- What is spelled there is the node, if its items are.
  pub spelled_node : (d : ℕ) (i : Forest) → spelled_items (spelled d table) es ≡ i → spelled (suc d) table r ≡ node k i nil
  unfolding spelled
  spelled_node d i h = rw (at_kind, at_count, at_places, kind_back, h)

-- An entry of a node is above 256, and tells its record.
node_entry : (node_at : ℕ → Forest) (r : ℕ) (es : List ℕ) (f g : Forest) → 1 ≤ r → node_at r ≡ f → spelled_items node_at es ≡ g
    → spelled_items node_at ((256 + r) ∷ es) ≡ append f g
node_entry node_at r es f g l p q =
    let e : 256 + r - 256 ≡ r = omega arith in
    rw (lt-leb (256 + r) 256 (omega arith), e, p, q)

leaf_entry : (node_at : ℕ → Forest) (b : ℕ) (es : List ℕ) (g : Forest) → b ≤ 256 → spelled_items node_at es ≡ g
    → spelled_items node_at (b ∷ es) ≡ leaf b g
leaf_entry node_at b es g l q = rw (le-leb b 256 l, q)

-- All leaves are at most 256.
abbrev pub Leaves : Forest → Type 0
Leaves f = All (λ b. b ≤ 256) (frontier f)

-- Where the rows of a sequence stand in a table from record r on, its entries spell the sequence.
pub spelled-entries : (table : List ℕ) (d r : ℕ) (f : Forest) (more : List ℕ) → 1 ≤ r → Leaves f → Narrow f → nodes f ≤ d
    → drop (257 * r) table ≡ rows r f ++ more → spelled_items (spelled d table) (entries r f) ≡ f
spelled-entries table d r nil more o b w l at = refl
spelled-entries table d r (leaf x f) more o b w l at =
    leaf_entry (spelled d table) x (entries r f) f b.0 (spelled-entries table d r f more o b.1 w l at)
spelled-entries table zero r (node k i f) more o b w l at = absurd (omega arith)
spelled-entries table (suc d) r (node k i f) more o b w l at =
    let es = entries (suc r) i in
    let back : List ℕ = rows (suc r + nodes i) f ++ more in
    let here = first-row table r k i f more at in
    let next = at_next table r k es (rows (suc r) i ++ back) here (row-length k (suc r) i w.0.0) in
    let inside = spelled-entries table d (suc r) i back (omega arith) (all_left (λ x. x ≤ 256) (frontier i) (frontier f) b) w.0.1 (omega arith) next in
    let after = rows_after table (suc r) i back w.0.1 next in
    let behind = spelled-entries table (suc d) (suc r + nodes i) f more (omega arith) (all_right (λ x. x ≤ 256) (frontier i) (frontier f) b) w.1 (omega arith) after in
    node_entry (spelled (suc d) table) r (entries (suc r + nodes i) f) (node k i nil) f o (spelled_node table r k es (rows (suc r) i ++ back) here d i inside) behind

-- The tree in a ring of n leaves: what its table spells, whatever stands after the table.
small_spelled : (n : ℕ) (t : Forest) → InForm n t → n ≤ 2 → leaf_items (others n) ≡ t
small_spelled zero t h l = sym (form_one t (record { single = h.single; canonical = h.canonical; all_leaves = h.all_leaves }))
small_spelled (suc zero) t h l = sym (form_one t h)
small_spelled (suc (suc zero)) t h l = sym (form_two t h)
small_spelled (suc (suc (suc n))) t h l = absurd (omega arith)

pub form_narrow : (n : ℕ) (t : Forest) → InForm n t → n ≤ 256 → Narrow t
form_narrow n t h l = narrow t (form_forked n t h) (omega (arith, form_length n t h))

pub form_leaves : (n : ℕ) (t : Forest) → InForm n t → n ≤ 256 → Leaves t
form_leaves n t h l = all_map (λ b. b ≤ n) (λ b. b ≤ 256) (λ b m. omega arith) (frontier t) (leaves_most n t h)

pub form_few : (n : ℕ) (t : Forest) → InForm n t → n ≤ 256 → nodes t ≤ 255
form_few n t h l = omega (arith, nodes_bound t (form_forked n t h), form_length n t h)

-- A node next to leaf 1.
root_spelled : (table : List ℕ) (k : Kind) (i : Forest) (more : List ℕ) → Leaves i → Narrow (node k i nil) → nodes i ≤ 255
    → table ≡ rows 0 (node k i nil) ++ more → spelled 256 table 0 ≡ node k i nil
root_spelled table k i more b w l at =
    let es = entries 1 i in
    let here = first-row table 0 k i nil more at in
    let next = at_next table 0 k es (rows 1 i ++ more) here (row-length k 1 i w.0.0) in
    spelled_node table 0 k es (rows 1 i ++ more) here 255 i (spelled-entries table 255 1 i more (omega arith) b w.0.1 l next)

pub table_rows : (t : Forest) (rest : List ℕ) → table_of t ++ rest ≡ rows 0 t ++ (replicate (65792 - length (rows 0 t)) 0 ++ rest)
unfolding table_of
table_rows t rest = append_assoc (rows 0 t) (replicate (65792 - length (rows 0 t)) 0) rest

node_table : (n : ℕ) (k : Kind) (i : Forest) (rest : List ℕ) → n ≤ 256 → InForm n (node k i nil) → spelled 256 (table_of (node k i nil) ++ rest) 0 ≡ node k i nil
node_table n k i rest l h =
    let t = node k i nil in
    let more : List ℕ = replicate (65792 - length (rows 0 t)) 0 ++ rest in
    let leaves = all_left (λ b. b ≤ 256) (frontier i) [] (form_leaves n t h l) in
    root_spelled (table_of t ++ rest) k i more leaves (form_narrow n t h l) (omega (arith, form_few n t h l)) (table_rows t rest)

pub spelled_table : (n : ℕ) (t : Forest) (rest : List ℕ) → InForm n t → n ≤ 256 → spelled_tree n (table_of t ++ rest) ≡ t
unfolding spelled_tree
spelled_table n t rest h l = go (leb n 2) refl
  where
    go : (b : Bool) → leb n 2 ≡ b → cond b (leaf_items (others n)) (spelled 256 (table_of t ++ rest) 0) ≡ t
    go true e = small_spelled n t h (leb-true n 2 e)
    go false e =
        let r = form_more n t h (leb-false n 2 e) in
        subst (λ u. InForm n u → spelled 256 (table_of u ++ rest) 0 ≡ u) (sym r.2) (node_table n r.0 r.1 rest l) h

-- A table is the table of one tree. (A tree has one table: `table_of` is a function.)
pub table_injective : (n : ℕ) (t u : Forest) → InForm n t → InForm n u → n ≤ 256 → table_of t ≡ table_of u → t ≡ u
table_injective n t u h g l e = sym (spelled_table n t [] h l) ∙ ap (λ x. spelled_tree n (x ++ [])) e ∙ spelled_table n u [] g l

-- So a text has one table, and a table one text.
pub text_and_table : (n : ℕ) (t u : Forest) → InForm n t → InForm n u → n ≤ 256 → (tree_text t ≡ tree_text u) ↔ (table_of t ≡ table_of u)
text_and_table n t u h g l = (λ e. ap table_of (text_injective t u e), λ e. ap tree_text (table_injective n t u h g l e))

pub table_length : (n : ℕ) (t : Forest) → InForm n t → n ≤ 256 → length (table_of t) ≡ 65792
unfolding table_of
table_length n t h l =
    let r = rows-length 0 t (form_narrow n t h l) in
    let f = form_few n t h l in
    padded-length 65792 (rows 0 t) (omega arith)

-- What `tree_in` answers.
held : (n : ℕ) (table : List ℕ) (t : Forest) → n ≤ 256 → Holds n table t → spelled_tree n table ≡ t
held n table t l h =
    ap (spelled_tree n) (sym (take-append-drop 65792 table) ∙ ap (λ x. x ++ drop 65792 table) h.records) ∙ spelled_table n t (drop 65792 table) h.in_form l

-- A table holds at most one tree.
pub one_held : (n : ℕ) (table : List ℕ) (t u : Forest) → n ≤ 256 → Holds n table t → Holds n table u → t ≡ u
one_held n table t u l h g = sym (held n table t l h) ∙ held n table u l g

abbrev right : ℕ → List ℕ → Forest → Bool
right n table s = in_form? n s && same (take 65792 table) (table_of s)

right_decides : (n : ℕ) (table : List ℕ) (s : Forest) → (right n table s ≡ true) ↔ Holds n table s
right_decides n table s =
    let d = both (form_decides n s) (same_decides (take 65792 table) (table_of s)) in
    (λ e. let h = d.0 e in record { in_form = h.0; records = h.1 }, λ h. d.1 (h.in_form, h.records))

some_same : {t u : Forest} → some t ≡ some u → t ≡ u
some_same e = cc

pub tree_in_holds : (n : ℕ) (table : List ℕ) (t : Forest) → n ≤ 256 → (tree_in n table ≡ some t) ↔ Holds n table t
unfolding tree_in
tree_in_holds n table t l = (to (right n table s) refl, from)
  where
    s : Forest
    s = spelled_tree n table

    to : (b : Bool) → right n table s ≡ b → cond b (some s) none ≡ some t → Holds n table t
    to true q e = subst (Holds n table) (some_same e) ((right_decides n table s).0 q)
    to false q e = absurd (let z : ◌≡◌ {A = ℕ} 0 1 = cc in omega arith)

    from : Holds n table t → cond (right n table s) (some s) none ≡ some t
    from h =
        let p = held n table t l h in
        subst (λ b. cond b (some s) none ≡ some t) (sym ((right_decides n table s).1 (subst (Holds n table) (sym p) h))) (ap some p)

pub tree_in_none : (n : ℕ) (table : List ℕ) → n ≤ 256 → (tree_in n table ≡ none) ↔ ((t : Forest) → Holds n table t → ⊥)
tree_in_none n table l = (λ e t h. absurd (let g = (tree_in_holds n table t l).1 h in let z : ◌≡◌ {A = ℕ} 0 1 = cc in omega arith), go (tree_in n table) refl)
  where
    go : (o : Option Forest) → tree_in n table ≡ o → ((t : Forest) → Holds n table t → ⊥) → o ≡ none
    go none e h = refl
    go (some t) e h = absurd (h t ((tree_in_holds n table t l).0 e))

-- A table over which a tree's was written holds it.
pub over_holds : (n : ℕ) (t : Forest) (nodes : List ℕ) → InForm n t → n ≤ 256 → Holds n (over (table_of t) nodes) t
over_holds n t nodes f l = record {
  in_form = f;
  records = subst (λ k. take k (table_of t ++ drop (length (table_of t)) nodes) ≡ table_of t) (table_length n t f l) (take-append_seam (table_of t) (drop (length (table_of t)) nodes));
}

-- A tree's table written over one that holds it changes nothing.
pub over-same : (n : ℕ) (t : Forest) (nodes : List ℕ) → n ≤ 256 → Holds n nodes t → over (table_of t) nodes ≡ nodes
over-same n t nodes l h = ap₂ (λ (xs : List ℕ) (k : ℕ). xs ++ drop k nodes) (sym h.records) (table_length n t h.in_form l) ∙ take-append-drop 65792 nodes
