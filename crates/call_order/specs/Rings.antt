-- A ring or a rack that was lent, its tree in tokens, and the checks of its group with the number k.
use Rattle.std.specs.Prelude.{◌≡◌, cond, ◌||◌, List, ℕ, ◌-◌, eqb, ltb}
use Rattle.tree_tokens.specs.Tokens.{flat}
use Rattle.spec_orders.specs.declared.Layout.{Layout}
use Rattle.spec_orders.specs.Tree.{Forest}
use Rattle.spec_orders.specs.SeenFrom.{standard_on}
use Rattle.spec_calls.specs.declared.Refusal.TheVariants.{NoSuchGroup, NoAim}
use Rattle.std.specs.declared.result.Result.{Result}
use Rattle.std.specs.declared.result.Result.TheVariants.{Err}
use Rattle.spec_calls.specs.Tables.{lent_nodes, Book}
use Rattle.mark_words.specs.Marks.{no_mark?}
use Rattle.spec_calls.specs.Book.{group_words}
use Rattle.spec_calls.specs.Calls.{group_numbered}
use Rattle.spec_calls.specs.Demands.{LentTree, LentBook}
use Rattle.call_order.specs.Starts.{aim_in}
use Rattle.spec_calls.specs.declared.Refusal.{Refusal}

-- The tokens of the tree of some lent node table for n bins, and a book in form for it.
pub record Lends (l : Layout) (n : ℕ) (toks : List ℕ) (book : Book) : Type 0 where
  pub records : ℕ
  pub rows : List ℕ
  pub shown : Forest
  pub is : toks ≡ flat shown
  pub lent : LentTree (lent_nodes l n records rows) shown
  pub groups : LentBook n book

-- Checks 9 and 14, and then 10 and the aim.
unfoldable pub aim_of_group : Layout → ℕ → Book → ℕ → Forest → Result ℕ Refusal
aim_of_group l n book k t =
    cond (eqb k 0 || ltb book.count k) (Err NoSuchGroup)
    (cond (no_mark? (group_words book.words (k - 1))) (Err NoAim) (aim_in l (group_numbered book.words k) (standard_on l n t)))
