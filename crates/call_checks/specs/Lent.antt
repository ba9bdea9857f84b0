-- What the checks of lent tables answer: the tree that the node table holds, as tokens, or the first refusal down the table.
use Rattle.std.specs.Prelude.{◌≡◌, Bool, false, not, ◌||◌, List, [], ◌∷◌, ◌++◌, ℕ}
use Rattle.std.proofs.Math.Option.{Option, none, some}
use Rattle.spec_orders.specs.declared.Layout.{Layout}
use Rattle.spec_orders.specs.Tree.{Forest}
use Rattle.tree_tokens.specs.Tokens.{Wrote, flat}
use Rattle.spec_calls.specs.declared.Refusal.{Refusal}
use Rattle.spec_calls.specs.declared.Refusal.TheVariants.{ShortTable, NotInForm}
use Rattle.spec_calls.specs.Tables.{Nodes, Book}
use Rattle.spec_calls.specs.Book.{book_in_form?}
use Rattle.spec_calls.specs.Refusals.{refuse, first_refusal, size_checks, short}
use Rattle.spec_calls.specs.Calls.{tree_checks, ring_checks}
use Rattle.spec_calls.specs.Demands.{LentTree, LentBook}
use Rattle.std.specs.declared.result.Result.{Result}
use Rattle.std.specs.declared.result.Result.TheVariants.{Ok, Err}

-- A node table, where `other` said that another lent table is too short.
pub record TreeLent (nodes : Nodes) (other : Bool) (old new : List ℕ) (k : ℕ) : Type 0 where
  pub passes : first_refusal (tree_checks nodes other) ≡ none
  pub long : other ≡ false
  pub tree : Forest
  pub lent : LentTree nodes tree
  pub wrote : Wrote (flat tree) old new k

abbrev pub LendsTree : Nodes → Bool → List ℕ → List ℕ → Result ℕ Refusal → Type 0
LendsTree nodes other old new (Ok k) = TreeLent nodes other old new k
LendsTree nodes other old new (Err r) = first_refusal (tree_checks nodes other) ≡ some r

-- A node table and a book.
pub record RingLent (nodes : Nodes) (book : Book) (old new : List ℕ) (k : ℕ) : Type 0 where
  pub passes : first_refusal (ring_checks nodes book) ≡ none
  pub tree : Forest
  pub lent : LentTree nodes tree
  pub groups : LentBook nodes.bins book
  pub wrote : Wrote (flat tree) old new k

abbrev pub LendsRing : Nodes → Book → List ℕ → List ℕ → Result ℕ Refusal → Type 0
LendsRing nodes book old new (Ok k) = RingLent nodes book old new k
LendsRing nodes book old new (Err r) = first_refusal (ring_checks nodes book) ≡ some r

-- Checks 1, 15, 2 and 3 of a call that is lent a book and no node table, where `other` says that another lent table is too short.
abbrev pub book_checks : Layout → ℕ → Book → Bool → List (Option Refusal)
book_checks layout n book other =
    size_checks layout n ++ (refuse (short 384 book.words || other) ShortTable ∷ refuse (not (book_in_form? n book)) NotInForm ∷ [])
