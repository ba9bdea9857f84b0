-- What the calls that change a node table leave in the records, from what the calls on rows leave in the rows.
use mathlib.Core.Path.{◌≡◌, refl, sym, ◌∙◌, ap, subst}
use mathlib.Core.Logic.{◌≢◌}
use mathlib.Core.Bool.{not, ◌||◌}
use mathlib.Core.Option.{Option, none, some}
use mathlib.Core.List.{List, [], ◌∷◌}
use Prim.Native.Nat.{ℕ, ◌≤◌}
use native.Mathlib.Omega.{arith}
use lib.Dec.{eqb}
use lib.ListN.{length, take}
use Rattle.spec_orders.specs.declared.Layout.{Layout}
use Rattle.spec_orders.specs.CircularOrder.{group_of}
use Rattle.spec_orders.specs.Tree.{Forest}
use Rattle.spec_orders.specs.Form.{InForm}
use Rattle.spec_orders.specs.TreeText.{Found, tree, refused, Reads}
use Rattle.spec_orders.specs.Join.{fresh, join, then}
use Rattle.spec_orders.proofs.TextOnce.{found_form}
use Rattle.spec_orders.proofs.Fresh.{fresh_form}
use Rattle.spec_orders.proofs.Joining.{join_some}
use Rattle.spec_calls.specs.declared.Refusal.{Refusal}
use Rattle.spec_calls.specs.declared.Refusal.TheVariants.{NotInForm, BookFull, Impossible}
use Rattle.spec_calls.specs.Tables.{Nodes, leaves, Book, over}
use Rattle.spec_calls.specs.NodeTable.{table_of, held_tree}
use Rattle.spec_calls.specs.Book.{book_in_form?}
use Rattle.spec_calls.specs.Refusals.{Reply, refuse, short, bad_list}
use Rattle.spec_calls.specs.Calls.{Changed, changed_as, Filled, filled_as, filled, of_tree as written, is_none, table_checks, ring_checks, open_refusal, opened, open_call, joined_tree, join_refusal, joined, join_call, read_outcome, ReadCall, unread, read, common_tree, intersect_refusal, intersect_call, pair_checks, common_checks}
use Rattle.spec_calls.specs.Demands.{LentWhole}
use Rattle.spec_calls.specs.Promises.{OpenPromise, JoinPromise, ReadPromise, IntersectPromise}
use Rattle.spec_calls.proofs.NodeTables.{tree_in_holds}
use Rattle.spec_calls.proofs.Refused.{open_keeps, join_keeps, read_call_keeps, filled_keeps}
use Rattle.spec_calls.proofs.Demands.{tables_whole}
use Rattle.record_copy.specs.declared.Node.{Node}
use Rattle.record_copy.specs.Rows.{node_rows, with_rows, Sound}
use Rattle.record_copy.proofs.Kept.{kept}
use Rattle.record_copy.proofs.Back.{past}
use Rattle.record_left.specs.Records.{lent_records, Left}
use Rattle.record_left.proofs.Trees.{table_back}
use Rattle.spec_calls.proofs.Checks.{first_refusal-left}
use Rattle.spec_calls.proofs.Intersect.{Whole, pair_whole, common_form}

-- The rows as they were, or the table over them of a tree with so many leaves.
data Rows (n : ℕ) (ns : List Node) (fs : List ℕ) : Type 0 where
  as_before : fs ≡ node_rows ns → Rows n ns fs
  of_tree : (t : Forest) → InForm n t → n ≤ 256 → 256 ≤ length ns → fs ≡ over (table_of t) (node_rows ns) → Rows n ns fs

module _ (ns : List Node) (sound : Sound (take 256 ns)) (long : length (node_rows ns) ≡ 65792) where
  same : (fs : List ℕ) → fs ≡ node_rows ns → with_rows fs ns ≡ ns
  same fs e = ap (λ (l : List ℕ). with_rows l ns) e ∙ kept ns sound

  back : (n : ℕ) (fs : List ℕ) → Rows n ns fs → node_rows (with_rows fs ns) ≡ fs
  back n fs (as_before e) = ap node_rows (same fs e) ∙ sym e
  back n fs (of_tree t f l m e) = table_back n t f l ns (node_rows ns) fs m long e

  -- What is promised of the rows that a call leaves is so of the records that they are stored in.
  left : (n : ℕ) (fs : List ℕ) → Rows n ns fs → (said : Reply) → (said.number ≢ 0 → fs ≡ node_rows ns) → (Promise : List ℕ → Type 0) → Promise fs
      → Promise (node_rows (with_rows fs ns)) × Left ns (with_rows fs ns) said
  left n fs rows said keeps Promise h =
      let b = back n fs rows in (
        subst Promise (sym b) h,
        record { refused = λ e. same fs (keeps e); stored = ap (λ (l : List ℕ). with_rows l ns) (sym b); past = past fs ns },
      )

-- ---- opening

module _ (nodes : Nodes) (book : Book) where
  open_whole : open_refusal nodes book ≡ none → LentWhole nodes
  unfolding open_refusal
  open_whole e = (tables_whole nodes (short 384 book.words) e).0

open_rows : (l : Layout) (n : ℕ) (ns : List Node) (book : Book) (said : Reply) (fs : List ℕ) (book' : Book) → changed_as said fs book' ≡ open_call (lent_records l n ns) book
    → Rows (leaves (lent_records l n ns)) ns fs
unfolding open_call opened
open_rows l n ns book said fs book' e = go (open_refusal (lent_records l n ns) book) refl e
  where
    go : (o : Option Refusal) → open_refusal (lent_records l n ns) book ≡ o → changed_as said fs book' ≡ opened o (lent_records l n ns) book
        → Rows (leaves (lent_records l n ns)) ns fs
    go (some x) p q = as_before (ap (λ (y : Changed). y.rows) q)
    go none p q =
        let w = open_whole (lent_records l n ns) book p in
        of_tree (fresh (leaves (lent_records l n ns))) (fresh_form (leaves (lent_records l n ns))) w.few_leaves w.all_records (ap (λ (y : Changed). y.rows) q)

pub open_left : (l : Layout) (n : ℕ) (ns : List Node) (book : Book) (said : Reply) (fs : List ℕ) (book' : Book) → Sound (take 256 ns) → length (node_rows ns) ≡ 65792
    → OpenPromise (lent_records l n ns) book fs book' said
    → OpenPromise (lent_records l n ns) book (node_rows (with_rows fs ns)) book' said × Left ns (with_rows fs ns) said
open_left l n ns book said fs book' sound long e =
    left ns sound long (leaves (lent_records l n ns)) fs (open_rows l n ns book said fs book' e) said
    (λ q. ap (λ (y : Changed). y.rows) e ∙ (open_keeps (lent_records l n ns) book (λ z. q (ap (λ (y : Changed). y.answer.number) e ∙ z))).0)
    (λ (rows : List ℕ). OpenPromise (lent_records l n ns) book rows book' said) e

-- ---- joining

module _ (nodes : Nodes) (book : Book) (list : List ℕ) where
  join-whole : join_refusal nodes book list ≡ none → LentWhole nodes
  unfolding join_refusal
  join-whole e =
      let of-form = refuse (is_none (held_tree nodes) || not (book_in_form? nodes.bins book)) NotInForm ∷ [] in
      let of-group = bad_list nodes.bins list ∷ refuse (eqb book.count 96) BookFull ∷ refuse (is_none (joined_tree nodes list)) Impossible ∷ [] in
      (tables_whole nodes (short 384 book.words) (first_refusal-left (table_checks nodes (short 384 book.words)) of-form (first_refusal-left (ring_checks nodes book) of-group e))).0

  joined_form : (u : Forest) → leaves nodes ≤ 256 → joined_tree nodes list ≡ some u → InForm (leaves nodes) u
  unfolding joined_tree
  joined_form u l e = go (held_tree nodes) refl e
    where
      go : (o : Option Forest) → held_tree nodes ≡ o → then o (join (group_of nodes.bins list)) ≡ some u → InForm (leaves nodes) u
      go none p q = absurd (let z : ◌≡◌ {A = ℕ} 0 1 = cc in omega arith)
      go (some t) p q = (join_some (leaves nodes) (group_of nodes.bins list) t u ((tree_in_holds (leaves nodes) nodes.rows t l).0 p).in_form q).form

join-rows : (l : Layout) (n : ℕ) (ns : List Node) (book : Book) (list : List ℕ) (said : Reply) (fs : List ℕ) (book' : Book) → changed_as said fs book' ≡ join_call (lent_records l n ns) book list
    → Rows (leaves (lent_records l n ns)) ns fs
unfolding join_call joined
join-rows l n ns book list said fs book' e = go (join_refusal (lent_records l n ns) book list) refl (joined_tree (lent_records l n ns) list) refl e
  where
    go : (o : Option Refusal) → join_refusal (lent_records l n ns) book list ≡ o → (u : Option Forest) → joined_tree (lent_records l n ns) list ≡ u
        → changed_as said fs book' ≡ joined o u (lent_records l n ns) book list → Rows (leaves (lent_records l n ns)) ns fs
    go (some x) p u s q = as_before (ap (λ (y : Changed). y.rows) q)
    go none p none s q = as_before (ap (λ (y : Changed). y.rows) q)
    go none p (some t) s q =
        let w = join-whole (lent_records l n ns) book list p in
        of_tree t (joined_form (lent_records l n ns) book list t w.few_leaves s) w.few_leaves w.all_records (ap (λ (y : Changed). y.rows) q)

pub join-left : (l : Layout) (n : ℕ) (ns : List Node) (book : Book) (list : List ℕ) (said : Reply) (fs : List ℕ) (book' : Book) → Sound (take 256 ns) → length (node_rows ns) ≡ 65792
    → JoinPromise (lent_records l n ns) book list fs book' said
    → JoinPromise (lent_records l n ns) book list (node_rows (with_rows fs ns)) book' said × Left ns (with_rows fs ns) said
join-left l n ns book list said fs book' sound long (e, demand) =
    left ns sound long (leaves (lent_records l n ns)) fs (join-rows l n ns book list said fs book' e) said
    (λ q. ap (λ (y : Changed). y.rows) e ∙ (join_keeps (lent_records l n ns) book list (λ z. q (ap (λ (y : Changed). y.answer.number) e ∙ z))).0)
    (λ (rows : List ℕ). JoinPromise (lent_records l n ns) book list rows book' said) (e, demand)

-- ---- reading a text

read_rows : (l : Layout) (n : ℕ) (ns : List Node) (book : Book) (text : List ℕ) (x : Changed) → ReadCall (lent_records l n ns) book text x → Rows (leaves (lent_records l n ns)) ns x.rows
unfolding read_outcome
read_rows l n ns book text x (unread p) = as_before refl
read_rows l n ns book text x (read {f = f} p h) = go f h
  where
    go : (f : Found) → Reads (leaves (lent_records l n ns)) text f → Rows (leaves (lent_records l n ns)) ns (read_outcome f (lent_records l n ns) book).rows
    go (refused q) h = as_before refl
    go (tree t) h = let w = open_whole (lent_records l n ns) book p in of_tree t (found_form h) w.few_leaves w.all_records refl

pub read_left : (l : Layout) (n : ℕ) (ns : List Node) (book : Book) (text : List ℕ) (said : Reply) (fs : List ℕ) (book' : Book) → Sound (take 256 ns) → length (node_rows ns) ≡ 65792
    → ReadPromise (lent_records l n ns) book text fs book' said
    → ReadPromise (lent_records l n ns) book text (node_rows (with_rows fs ns)) book' said × Left ns (with_rows fs ns) said
read_left l n ns book text said fs book' sound long h =
    left ns sound long (leaves (lent_records l n ns)) fs (read_rows l n ns book text (changed_as said fs book') h) said
    (λ q. (read_call_keeps (lent_records l n ns) book text (changed_as said fs book') h q).0)
    (λ (rows : List ℕ). ReadPromise (lent_records l n ns) book text rows book' said) h

-- ---- intersecting two trees

whole : (nodes other third : Nodes) → intersect_refusal nodes other third ≡ none → Whole nodes other third
unfolding intersect_refusal
whole nodes other third e = pair_whole nodes other third (first_refusal-left (pair_checks nodes other third) (common_checks nodes other) e)

module _ (nodes other : Nodes) (l : Layout) (n : ℕ) (ns : List Node) (said : Reply) (fs : List ℕ) (e : filled_as said fs ≡ intersect_call nodes other (lent_records l n ns)) where
  intersect_rows : Rows (leaves nodes) ns fs
  unfolding intersect_call
  intersect_rows = go (intersect_refusal nodes other (lent_records l n ns)) refl (common_tree nodes other) refl e
    where
      go : (o : Option Refusal) → intersect_refusal nodes other (lent_records l n ns) ≡ o → (c : Option Forest) → common_tree nodes other ≡ c
          → filled_as said fs ≡ filled o 0 (written c table_of) (node_rows ns) → Rows (leaves nodes) ns fs
      go (some x) p c q d = as_before (ap (λ (y : Filled). y.table) d)
      go none p none q d = as_before (ap (λ (y : Filled). y.table) d)
      go none p (some v) q d =
          let w = whole nodes other (lent_records l n ns) p in
          of_tree v (common_form nodes other w.same w.first.few_leaves v q) w.first.few_leaves w.third_records (ap (λ (y : Filled). y.table) d)

  intersect_keeps : said.number ≢ 0 → fs ≡ node_rows ns
  unfolding intersect_call
  intersect_keeps q =
      ap (λ (y : Filled). y.table) e
      ∙ filled_keeps (intersect_refusal nodes other (lent_records l n ns)) 0 (written (common_tree nodes other) table_of) (node_rows ns)
      (λ z. q (ap (λ (y : Filled). y.answer.number) e ∙ z))

pub intersect_left : (nodes other : Nodes) (l : Layout) (n : ℕ) (ns : List Node) (said : Reply) (fs : List ℕ) → Sound (take 256 ns) → length (node_rows ns) ≡ 65792
    → IntersectPromise nodes other (lent_records l n ns) fs said
    → IntersectPromise nodes other (lent_records l n ns) (node_rows (with_rows fs ns)) said × Left ns (with_rows fs ns) said
intersect_left nodes other l n ns said fs sound long (e, demand) =
    left ns sound long (leaves nodes) fs (intersect_rows nodes other l n ns said fs e) said (intersect_keeps nodes other l n ns said fs e)
    (λ (rows : List ℕ). IntersectPromise nodes other (lent_records l n ns) rows said) (e, demand)
