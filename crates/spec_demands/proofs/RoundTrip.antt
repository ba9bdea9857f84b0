-- "A tree written and read is the same tree; an accepted text written again is the same text": over what the calls promise. What is written of a tree
-- lent whole is its text (`write_done`), and the reader finds one tree in a text (`read_call_once`) and leaves rows that hold it: the text's tree with
-- a P-node for each C-node with three neighbours.
use mathlib.Core.Path.{◌≡◌, refl, sym, ◌∙◌, ap, subst}
use mathlib.Core.Logic.{◌↔◌}
use mathlib.Core.Option.{none}
use mathlib.Core.List.{List, append_assoc}
use Prim.Native.Nat.{ℕ, ◌≤◌}
use native.Mathlib.Omega.{arith}
use borrow.Author.Tests.{le-ltb}
use lib.ListN.{length, take, length-take}
use lib.Seq.{take_at, take-append_seam}
use Rattle.spec_orders.specs.Tree.{C, Forest}
use Rattle.spec_orders.specs.Form.{Every, Enough, InForm}
use Rattle.spec_orders.specs.ThreeNeighbours.{relabel}
use Rattle.spec_orders.specs.TreeText.{tree_text, Shaped, ShapeText, Breaks, RuleRefused, AcceptedAs, Found, tree, Reads, accepted, no_shape, breaks_rule}
use Rattle.spec_orders.proofs.Relabel.{relabel_orders, relabel_form, relabel-stays}
use Rattle.spec_orders.proofs.Straight.{same_allowed}
use Rattle.spec_orders.proofs.TextTree.{text_injective, text-length}
use Rattle.spec_orders.proofs.FirstByte.{not_refused}
use Rattle.spec_orders.proofs.TextOnce.{sorted_keeps, form_reads}
use Rattle.spec_calls.specs.declared.Refusal.TheVariants.{TreeText}
use Rattle.spec_calls.specs.Tables.{same_ring, leaves, Nodes, Book, over, padded}
use Rattle.spec_calls.specs.NodeTable.{table_of, Holds}
use Rattle.spec_calls.specs.Refusals.{Reply, reply, short}
use Rattle.spec_calls.specs.Calls.{Changed, changed_as, Filled, filled_as, open_refusal, write_refusal, write_call, ReadCall, unread, read, read_outcome}
use Rattle.spec_calls.specs.Demands.{LentWhole, LentTree}
use Rattle.spec_calls.specs.Promises.{WritePromise, ReadPromise}
use Rattle.spec_calls.proofs.NodeTables.{padded-length, table_length, over_holds}
use Rattle.spec_calls.proofs.Demands.{whole_size, whole-rack, whole-nodes, tables_whole, lent_held}
use Rattle.spec_calls.proofs.Reports.{refused_number}
use Rattle.spec_calls.proofs.ReadOnce.{read_call_once}
use Rattle.spec_demands.specs.Demands.{ReadsBack, ReadAs}

-- What is written of a tree lent whole.
write_done : (nodes : Nodes) (t : Forest) → LentTree nodes t → (bytes : List ℕ) → 2048 ≤ length bytes
    → write_call nodes bytes ≡ filled_as (reply 0 (length (tree_text t))) (over (padded 2048 (tree_text t)) bytes)
unfolding write_call write_refusal
write_done nodes t h bytes b =
    rw (
      whole_size h.whole,
      whole-rack h.whole,
      whole-nodes h.whole,
      le-ltb (length bytes) 2048 b,
      lent_held nodes t h,
    )

-- What a tree's reader leaves, where checks 1, 15 and 2 pass.
read_holds : (nodes : Nodes) (book : Book) (t : Forest) → open_refusal nodes book ≡ none → InForm (leaves nodes) t → Holds (leaves nodes) (over (table_of t) nodes.rows) t
unfolding open_refusal
read_holds nodes book t p f = over_holds (leaves nodes) t nodes.rows f (tables_whole nodes (short 384 book.words) p).0.few_leaves

-- Rows that hold a tree, lent again in 256 records or more.
pub lent_again : (nodes : Nodes) (records : ℕ) (rows : List ℕ) (t : Forest) → LentWhole nodes → 256 ≤ records → Holds (leaves nodes) rows t
    → LentTree (same_ring nodes records rows) t
lent_again nodes records rows t w r h = record {
  whole = record {
    some_bin = w.some_bin;
    few_leaves = w.few_leaves;
    all_records = r;
    all_rows = omega (arith, length-take 65792 rows, ap length h.records, table_length (leaves nodes) t h.in_form w.few_leaves);
  };
  tree = h;
}

-- ---- written, then read

module _ (nodes : Nodes) (t : Forest) (h : LentTree nodes t) (bytes bytes' : List ℕ) (wrote : Reply) (long : 2048 ≤ length bytes) (e : WritePromise nodes bytes bytes' wrote) where
  written : filled_as wrote bytes' ≡ filled_as (reply 0 (length (tree_text t))) (over (padded 2048 (tree_text t)) bytes)
  written = e ∙ write_done nodes t h bytes long

  written_text : take wrote.value bytes' ≡ tree_text t
  written_text =
      ap (λ (x : Filled). take x.answer.value x.table) written
      ∙ ap (take (length (tree_text t))) (append_assoc (tree_text t) _ _)
      ∙ take-append_seam (tree_text t) _

  pub written_read : ReadsBack (leaves nodes) t bytes' wrote
  unfolding read_outcome
  written_read = record {
    done = ap (λ (x : Filled). x.answer.number) written;
    same_tree = λ other book s o rows' book' said c.
        let form = subst (λ k. InForm k t) (sym s) h.tree.in_form in
        let y = read_call_once (subst (λ x. ReadCall other book x (changed_as said rows' book')) written_text c) (read {f = tree t} o (form_reads form)) in
        (ap (λ (x : Changed). x.answer) y, subst (λ k. Holds k rows' t) s (subst (λ r. Holds (leaves other) r t) (sym (ap (λ (x : Changed). x.rows) y)) (read_holds other book t o form)));
  }

-- ---- read, then written

-- A text that was accepted, and what the rows then hold.
record Held (nodes : Nodes) (book : Book) (text rows : List ℕ) : Type 0 where
  spelled : Forest
  accepted_as : AcceptedAs (leaves nodes) text spelled
  whole : open_refusal nodes book ≡ none
  held : Holds (leaves nodes) rows (relabel spelled)

read_tree : (nodes : Nodes) (book : Book) (text : List ℕ) (y : Changed) → ReadCall nodes book text y → y.answer.number ≡ 0 → Held nodes book text y.rows
unfolding read_outcome
read_tree nodes book text y (unread {r = r} p) e = absurd (refused_number r e)
read_tree nodes book text y (read {f = f} p r) e = go f r e
  where
    go : (f : Found) → Reads (leaves nodes) text f → (read_outcome f nodes book).answer.number ≡ 0 → Held nodes book text (read_outcome f nodes book).rows
    go (tree _) (accepted {t = t} a) e =
        record { spelled = t; accepted_as = a; whole = p; held = read_holds nodes book (relabel t) p (relabel_form (leaves nodes) t a.shaped a.sorted) }
    go (Found.refused q) r e = absurd (refused_number (TreeText q) e)

module _ (nodes : Nodes) (book : Book) (text rows' : List ℕ) (book' : Book) (said : Reply) (c : ReadPromise nodes book text rows' book' said) (z : said.number ≡ 0) where
  abbrev found : Held nodes book text rows'
  found = read_tree nodes book text (changed_as said rows' book') c z

  -- The rows written again: the text of the tree that they hold.
  module _ (records : ℕ) (bytes bytes' : List ℕ) (wrote : Reply) (r : 256 ≤ records) (long : 2048 ≤ length bytes) (e : WritePromise (same_ring nodes records rows') bytes bytes' wrote) where
    abbrev u : Forest
    u = relabel found.spelled

    whole : LentWhole nodes
    unfolding open_refusal
    whole = (tables_whole nodes (short 384 book.words) found.whole).0

    lent : LentTree (same_ring nodes records rows') u
    lent = lent_again nodes records rows' u whole r found.held

    printed : (wrote ≡ reply 0 (length (tree_text u))) × (take 2048 bytes' ≡ padded 2048 (tree_text u))
    printed =
        let w = written (same_ring nodes records rows') u lent bytes bytes' wrote long e in
        let few = text-length (leaves nodes) u found.held.in_form whole.few_leaves in
        (ap (λ (x : Filled). x.answer) w, ap (λ (x : Filled). take 2048 x.table) w ∙ take_at (padded 2048 (tree_text u)) _ 2048 (padded-length 2048 (tree_text u) few))

    reads_back : ReadsBack (leaves nodes) u bytes' wrote
    reads_back = written_read (same_ring nodes records rows') u lent bytes bytes' wrote long e

  same_text : (tree_text (relabel found.spelled) ≡ text) ↔ Every Enough found.spelled
  same_text =
      let t = found.spelled in
      let b = found.accepted_as.bytes in
      let s = relabel-stays t found.accepted_as.shaped.forked in
      ((λ q. s.0 (text_injective (relabel t) t (q ∙ b))), (λ w. ap tree_text (s.1 w) ∙ sym b))

  pub read_as : ReadAs nodes text rows'
  read_as = record {
    spelled = found.spelled;
    accepted = found.accepted_as;
    held = found.held;
    orders = same_allowed nodes.layout nodes.bins (relabel found.spelled) found.spelled (relabel_orders found.spelled);
    printed = λ records bytes bytes' wrote r long e.
        let w = printed records bytes bytes' wrote r long e in (w.0, w.1, reads_back records bytes bytes' wrote r long e);
    same_text = same_text;
  }

  -- Where no C-node has three neighbours, that is the text.
  pub read_written : (t : Forest) → AcceptedAs (leaves nodes) text t → Every Enough t → (records : ℕ) (bytes bytes' : List ℕ) (wrote : Reply) → 256 ≤ records → 2048 ≤ length bytes
      → WritePromise (same_ring nodes records rows') bytes bytes' wrote → (wrote ≡ reply 0 (length text)) × (take 2048 bytes' ≡ padded 2048 text)
  read_written t a w records bytes bytes' wrote r long e =
      let same = text_injective found.spelled t (sym found.accepted_as.bytes ∙ a.bytes) in
      subst (λ x. (wrote ≡ reply 0 (length x)) × (take 2048 bytes' ≡ padded 2048 x)) (same_text.1 (subst (Every Enough) (sym same) w)) (printed records bytes bytes' wrote r long e)

-- A text is accepted by its own letters; one of the shape whose tree breaks a rule is refused at the first byte of those.
pub accepting : (nodes : Nodes) (book : Book) (text : List ℕ) (t : Forest) → open_refusal nodes book ≡ none → AcceptedAs (leaves nodes) text t
    → (rows' : List ℕ) (book' : Book) (said : Reply) → ReadPromise nodes book text rows' book' said → said ≡ reply 0 0
unfolding read_outcome
accepting nodes book text t o a rows' book' said c = ap (λ (x : Changed). x.answer) (read_call_once c (read {f = tree (relabel t)} o (accepted a)))

pub rule_broken : (nodes : Nodes) (book : Book) (t : Forest) (p : ℕ) → open_refusal nodes book ≡ none → Shaped (leaves nodes) t → Breaks C 0 2 t p
    → (rows' : List ℕ) (book' : Book) (said : Reply) → ReadPromise nodes book (tree_text t) rows' book' said → (q : ℕ) × (said ≡ reply 12 q) × RuleRefused t q
unfolding read_outcome
rule_broken nodes book t p o s w rows' book' said (unread q) = absurd (let z : ◌≡◌ {A = ℕ} 0 1 = (let e = sym q ∙ o in cc) in omega arith)
rule_broken nodes book t p o s w rows' book' said (read {f = f} q r) = go f r
  where
    go : (f : Found) → Reads (leaves nodes) (tree_text t) f → (q : ℕ) × ((read_outcome f nodes book).answer ≡ reply 12 q) × RuleRefused t q
    go (tree _) (accepted {t = u} a) = absurd (sorted_keeps a.sorted (subst (λ (v : Forest). Breaks C 0 2 v p) (text_injective t u a.bytes) w))
    go (Found.refused q) (no_shape h) = absurd (not_refused (ShapeText (leaves nodes)) (record { tree = t; shaped = s; bytes = refl }) h)
    go (Found.refused q) (breaks_rule {t = u} k e h) = (q, refl, subst (λ (v : Forest). RuleRefused v q) (sym (text_injective t u e)) h)
