-- The checks of a lent node table and a book, down the table.
use mathlib.Core.Path.{◌≡◌, refl, sym, ◌∙◌, ap, subst}
use mathlib.Core.Bool.{Bool, true, false, not, ◌||◌}
use mathlib.Core.Option.{Option, none, some}
use mathlib.Core.List.{List, [], ◌∷◌, ◌++◌}
use Prim.Native.Nat.{ℕ, ◌≤◌}
use native.Mathlib.Omega.{arith}
use borrow.Author.Tests.{ltb-false, not-false}
use lib.ListN.{length}
use Rattle.spec_orders.specs.declared.Layout.{Layout}
use Rattle.spec_orders.specs.declared.Layout.TheVariants.{Ring, Rack}
use Rattle.spec_orders.specs.Layout.{leaf_count}
use Rattle.spec_orders.proofs.Tests.{or_neither}
use Rattle.spec_calls.specs.declared.Refusal.{Refusal}
use Rattle.spec_calls.specs.declared.Refusal.TheVariants.{RingSize, RackSize, ShortTable, NotInForm}
use Rattle.spec_calls.specs.Tables.{Nodes, leaves, Book}
use Rattle.spec_calls.specs.Book.{book_in_form?}
use Rattle.spec_calls.specs.NodeTable.{held_tree}
use Rattle.spec_calls.specs.Refusals.{refuse, first_refusal, bad_size, full_rack, size_checks, short, short_nodes}
use Rattle.spec_calls.specs.Calls.{is_none, table_checks, tree_checks, ring_checks}
use Rattle.spec_calls.specs.Demands.{LentWhole, LentBook}
use Rattle.spec_calls.proofs.NodeTables.{tree_in_holds}
use Rattle.spec_calls.proofs.Checks.{first_refusal_some, first_refusal_none, first_refusal_passed}
use Rattle.spec_calls.proofs.Demands.{few_bins, size_whole, tables_whole}
use Rattle.std.specs.Prelude.{Some}
use Rattle.table_walk.specs.Walks.{Loads}
use Rattle.std.specs.declared.result.Result.{Result}
use Rattle.std.specs.declared.result.Result.TheVariants.{Err}
use Rattle.call_checks.specs.Lent.{TreeLent, LendsTree, RingLent, LendsRing, book_checks}

-- 1 and 15, and then 2.
module _ (nodes : Nodes) (other : Bool) where
  abbrev of_tables : List (Option Refusal)
  of_tables = refuse (short_nodes nodes || other) ShortTable ∷ []

  abbrev of_size : List (Option Refusal)
  of_size = size_checks nodes.layout nodes.bins

  pub size_refused : (r : Refusal) → first_refusal of_size ≡ some r → some r ≡ first_refusal (table_checks nodes other)
  size_refused r e = sym (first_refusal_some of_size of_tables r e)

  module _ (e : first_refusal of_size ≡ none) where
    pub own_short : short_nodes nodes ≡ true → some ShortTable ≡ first_refusal (table_checks nodes other)
    own_short q = sym (first_refusal_none of_size of_tables e ∙ rw q)

    pub other_short : short_nodes nodes ≡ false → other ≡ true → some ShortTable ≡ first_refusal (table_checks nodes other)
    other_short q o = sym (first_refusal_none of_size of_tables e ∙ rw (q, o))

    pub tables_pass : short_nodes nodes ≡ false → other ≡ false → none ≡ first_refusal (table_checks nodes other)
    tables_pass q o = sym (first_refusal_none of_size of_tables e ∙ rw (q, o))

-- How many leaves the tree has, of a table that passes.
pub some_leaf : (l : Layout) (n : ℕ) → 1 ≤ n → 1 ≤ leaf_count l n
some_leaf Ring n m = m
some_leaf Rack n m = omega arith

pub leaves_are : {nodes : Nodes} {r : ℕ} → LentWhole nodes → (nodes.bins ≤ 256 → r ≡ leaf_count nodes.layout nodes.bins) → r ≡ leaves nodes
leaves_are {nodes} w h = h (few_bins nodes.layout nodes.bins w.few_leaves)

-- Of a ring that is to be made: room for its tree and its book.
pub room_passed : (nodes : Nodes) (words : List ℕ) → first_refusal (table_checks nodes (short 384 words)) ≡ none → LentWhole nodes × (384 ≤ length words)
room_passed nodes words e = let w = tables_whole nodes (short 384 words) e in (w.0, ltb-false (length words) 384 w.1)

-- And 3, on a node table.
module _ (nodes : Nodes) (other : Bool) where
  abbrev of_tree : List (Option Refusal)
  of_tree = refuse (is_none (held_tree nodes)) NotInForm ∷ []

  pub tables_refused : (r : Refusal) → first_refusal (table_checks nodes other) ≡ some r → first_refusal (tree_checks nodes other) ≡ some r
  tables_refused r e = first_refusal_some (table_checks nodes other) of_tree r e

  module _ (e : first_refusal (table_checks nodes other) ≡ none) where
    pub no_tree : held_tree nodes ≡ none → first_refusal (tree_checks nodes other) ≡ some NotInForm
    no_tree t = first_refusal_none (table_checks nodes other) of_tree e ∙ rw t

    pub tree_lent : {old new : List ℕ} {k : ℕ} → Loads (leaves nodes) nodes.rows old new (Some k) → TreeLent nodes other old new k
    tree_lent h =
        let w = tables_whole nodes other e in
        record {
          passes = first_refusal_none (table_checks nodes other) of_tree e ∙ rw h.1;
          long = w.1;
          tree = h.0;
          lent = record { whole = w.0; tree = (tree_in_holds (leaves nodes) nodes.rows h.0 w.0.few_leaves).0 h.1 };
          wrote = h.2;
        }

-- With a book: its form is looked at after the tree's.
both_forms : (xs : List (Option Refusal)) (c d : Bool)
    → first_refusal (xs ++ (refuse (c || d) NotInForm ∷ [])) ≡ first_refusal ((xs ++ (refuse c NotInForm ∷ [])) ++ (refuse d NotInForm ∷ []))
both_forms [] true d = refl
both_forms [] false d = refl
both_forms (none ∷ xs) c d = both_forms xs c d
both_forms (some x ∷ xs) c d = refl

module _ (nodes : Nodes) (book : Book) where
  abbrev of_book : List (Option Refusal)
  of_book = refuse (not (book_in_form? nodes.bins book)) NotInForm ∷ []

  split : first_refusal (ring_checks nodes book) ≡ first_refusal (tree_checks nodes (short 384 book.words) ++ of_book)
  split = both_forms (table_checks nodes (short 384 book.words)) (is_none (held_tree nodes)) (not (book_in_form? nodes.bins book))

  pub tree_refused : (old new : List ℕ) (x : Result ℕ Refusal) (r : Refusal) → x ≡ Err r → LendsTree nodes (short 384 book.words) old new x
      → LendsRing nodes book old new x
  tree_refused old new x r e h =
      subst (LendsRing nodes book old new) (sym e)
      (split ∙ first_refusal_some (tree_checks nodes (short 384 book.words)) of_book r (subst (LendsTree nodes (short 384 book.words) old new) e h))

  module _ {old new : List ℕ} {k : ℕ} (h : TreeLent nodes (short 384 book.words) old new k) where
    pub book_long : 384 ≤ length book.words
    book_long = ltb-false (length book.words) 384 h.long

    after_tree : first_refusal (ring_checks nodes book) ≡ first_refusal of_book
    after_tree = split ∙ first_refusal_none (tree_checks nodes (short 384 book.words)) of_book h.passes

    pub book_refused : book_in_form? nodes.bins book ≡ false → first_refusal (ring_checks nodes book) ≡ some NotInForm
    book_refused f = after_tree ∙ ap (λ b. first_refusal (refuse (not b) NotInForm ∷ [])) f

    pub ring_lent : book_in_form? nodes.bins book ≡ true → RingLent nodes book old new k
    ring_lent f = record {
      passes = after_tree ∙ ap (λ b. first_refusal (refuse (not b) NotInForm ∷ [])) f;
      tree = h.tree;
      lent = h.lent;
      groups = record { all_words = book_long; in_form = f };
      wrote = h.wrote;
    }

-- On a book by itself.
module _ (l : Layout) (n : ℕ) (book : Book) (other : Bool) where
  abbrev after_size : List (Option Refusal)
  after_size = refuse (short 384 book.words || other) ShortTable ∷ refuse (not (book_in_form? n book)) NotInForm ∷ []

  pub size_refuses : (r : Refusal) → first_refusal (size_checks l n) ≡ some r → some r ≡ first_refusal (book_checks l n book other)
  size_refuses r e = sym (first_refusal_some (size_checks l n) after_size r e)

  pub past_size : {o : Option Refusal} → first_refusal (size_checks l n) ≡ none → o ≡ first_refusal after_size → o ≡ first_refusal (book_checks l n book other)
  past_size e q = q ∙ sym (first_refusal_none (size_checks l n) after_size e)

  -- Where none of 1, 15, 2 and 3 refuses.
  pub book_lent : first_refusal (book_checks l n book other) ≡ none → (1 ≤ n) × (leaf_count l n ≤ 256) × LentBook n book × (other ≡ false)
  book_lent e =
      let p = first_refusal_passed ((bad_size n, RingSize) ∷ (full_rack l n, RackSize) ∷ (short 384 book.words || other, ShortTable) ∷ (not (book_in_form? n book), NotInForm) ∷ []) e in
      let tables = or_neither (short 384 book.words) other p.1.1.0 in
      let size = size_whole l n p.0 p.1.0 in
      (size.0, size.1, record { all_words = ltb-false (length book.words) 384 tables.0; in_form = not-false (book_in_form? n book) p.1.1.1.0 }, tables.1)
