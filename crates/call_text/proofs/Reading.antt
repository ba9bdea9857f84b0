-- What a text's reader answers and leaves.
use mathlib.Core.Path.{◌≡◌, sym, subst}
use mathlib.Core.Option.{none, some}
use mathlib.Core.List.{List}
use Prim.Native.Nat.{ℕ}
use Rattle.spec_orders.specs.Tree.{Forest}
use Rattle.spec_orders.specs.TreeText.{tree, refused, Reads}
use Rattle.spec_calls.specs.declared.Refusal.{Refusal}
use Rattle.spec_calls.specs.declared.Refusal.TheVariants.{TreeText}
use Rattle.spec_calls.specs.Tables.{Nodes, leaves, Book, lent_book, over}
use Rattle.spec_calls.specs.Book.{emptied}
use Rattle.spec_calls.specs.NodeTable.{table_of}
use Rattle.spec_calls.specs.Refusals.{reply, first_refusal, short}
use Rattle.spec_calls.specs.Calls.{changed_as, unchanged, table_checks, open_refusal, ReadCall, unread, read, read_outcome}

module _ (nodes : Nodes) (book : Book) (x : List ℕ) where
  pub not_read : (r : Refusal) → first_refusal (table_checks nodes (short 384 book.words)) ≡ some r → ReadCall nodes book x (unchanged r nodes book)
  unfolding open_refusal
  not_read r e = unread e

  module _ (e : first_refusal (table_checks nodes (short 384 book.words)) ≡ none) where
    pub refused_read : (p : ℕ) → Reads (leaves nodes) x (refused p) → ReadCall nodes book x (unchanged (TreeText p) nodes book)
    unfolding open_refusal read_outcome
    refused_read p h = read {f = refused p} e h

    pub tree_read : (t : Forest) (rows' words' : List ℕ) → Reads (leaves nodes) x (tree t) → rows' ≡ over (table_of t) nodes.rows → words' ≡ emptied book.words
        → ReadCall nodes book x (changed_as (reply 0 0) rows' (lent_book words' book.count))
    unfolding open_refusal read_outcome
    tree_read t rows' words' h p q =
        subst (λ y. ReadCall nodes book x (changed_as (reply 0 0) y (lent_book words' book.count))) (sym p)
        (subst (λ z. ReadCall nodes book x (changed_as (reply 0 0) (over (table_of t) nodes.rows) (lent_book z book.count))) (sym q) (read {f = tree t} e h))
