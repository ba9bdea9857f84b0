-- The trial's refusal, split: what the other checks say, and what the node table adds; and what a trial says to joining.
use Rattle.std.specs.Prelude.{◌≡◌, ◌≢◌, Bool, true, false, cond, not, ◌||◌, List, [], ◌∷◌, ◌++◌, ℕ, ◌+◌, ◌≤◌, ◌<◌, eqb, leb}
use Rattle.std.proofs.Math.Option.{Option, none, some}
use Rattle.spec_orders.specs.declared.Layout.{Layout}
use Rattle.spec_orders.specs.CircularOrder.{Restriction, group_of}
use Rattle.spec_orders.specs.Layout.{leaf_count}
use Rattle.spec_orders.specs.Tree.{Forest}
use Rattle.spec_orders.specs.Form.{InForm}
use Rattle.spec_orders.specs.Reduce.{reduce}
use Rattle.spec_orders.specs.Join.{join, then}
use Rattle.mark_words.specs.Marks.{words_of}
use Rattle.spec_calls.specs.declared.Refusal.{Refusal}
use Rattle.spec_calls.specs.declared.Refusal.TheVariants.{ShortTable, NotInForm, BookFull, Impossible as Not-possible}
use Rattle.std.specs.declared.result.Result.{Result}
use Rattle.std.specs.declared.result.Result.TheVariants.{Ok, Err}
use Rattle.spec_calls.specs.Tables.{Nodes, leaves, Book}
use Rattle.spec_calls.specs.Book.{book_in_form?}
use Rattle.spec_calls.specs.NodeTable.{held_tree}
use Rattle.spec_calls.specs.Refusals.{reported, report, refuse, first_refusal, size_checks, short, short_nodes, bad_list}
use Rattle.spec_calls.specs.Calls.{is_none, join_refusal}
use Rattle.spec_calls.specs.Demands.{LentBook}
use Rattle.spec_calls.specs.Promises.{TrialPromise}
use Rattle.table_sweep.specs.declared.Verdict.{Verdict}
use Rattle.table_sweep.specs.declared.Verdict.TheVariants.{NoTree, Impossible, Possible}
use Rattle.table_sweep.specs.Kept.{Started, Swept}

-- In what follows: l and n what the call is lent, a ring or a rack of n bins.

-- Checks 1, 15, 2, 3 and 5 to 8, where `too_short` says that the node table is too short, and the table holds the tree o, or none.
unfoldable pub refusal_with : Layout → ℕ → Bool → Book → List ℕ → Option Forest → Option Refusal
refusal_with l n too_short book list o =
    first_refusal
    (size_checks l n
    ++ (refuse (too_short || short 384 book.words) ShortTable ∷ refuse (is_none o || not (book_in_form? n book)) NotInForm
    ∷ bad_list n list ∷ refuse (eqb book.count 96) BookFull ∷ refuse (is_none (then o (join (group_of n list)))) Not-possible ∷ []))

-- 1, 15, 2, and 3 on the book pass.
pub record BookPasses (l : Layout) (n : ℕ) (too_short : Bool) (book : Book) : Type 0 where
  pub some_bin : 1 ≤ n
  pub few_leaves : leaf_count l n ≤ 256
  pub long : too_short ≡ false
  pub groups : LentBook n book

-- The refusals that stand down the table up to 3: 1, 15, 2 and 3.
abbrev pub up_to_3 : Refusal → Bool
up_to_3 r = leb (reported r).number 3 || eqb (reported r).number 15

-- What the other checks answer: a refusal whatever the table holds; one that comes after the table's own; or the new count, and then it is 8 where
-- the group cannot join the tree. `Fact` is known of a group that comes so far.
pub data Waits (l : Layout) (n : ℕ) (too_short : Bool) (book : Book) (list : List ℕ) (Fact : Type 0) : Result ℕ Refusal → Type 0 where
  sooner : {r : Refusal} → up_to_3 r ≡ true → ((o : Option Forest) → refusal_with l n too_short book list o ≡ some r) → Waits l n too_short book list Fact (Err r)
  later : {r : Refusal} → up_to_3 r ≡ false → BookPasses l n too_short book → ((t : Forest) → refusal_with l n too_short book list (some t) ≡ some r)
      → Waits l n too_short book list Fact (Err r)
  counts : {k : ℕ} → k ≡ book.count + 1 → BookPasses l n too_short book → bad_list n list ≡ none → book.count ≢ 96 → Fact → Waits l n too_short book list Fact (Ok k)

-- The four words are those of the group.
abbrev pub GroupWords : ℕ → List ℕ → List ℕ → Type 0
GroupWords n list words = words ≡ words_of 4 (group_of n list)

-- A restriction by which a tree is reduced to what the group's joining gives.
abbrev pub Side : Layout → ℕ → List ℕ → Restriction → Type 0
Side l n list S = (t : Forest) → InForm (leaf_count l n) t → join (group_of n list) t ≡ reduce S t

-- The other checks are made, and work is ready for the node table.
pub record Ready (l : Layout) (n : ℕ) (too_short : Bool) (book : Book) (list work : List ℕ) (waiting : Result ℕ Refusal) : Type 0 where
  pub side : Restriction
  pub waits : Waits l n too_short book list (Side l n list side) waiting
  pub started : (k : ℕ) → Started k side work

-- And the node table was swept.
pub record AfterSweep (nodes : Nodes) (book : Book) (list work : List ℕ) (waiting : Result ℕ Refusal) : Type 0 where
  pub side : Restriction
  pub waits : Waits nodes.layout nodes.bins (short_nodes nodes) book list (Side nodes.layout nodes.bins list side) waiting
  pub swept : nodes.bins ≤ 256 → Swept (leaves nodes) side nodes.rows 0 work

-- What is known where the trial answers with the count k: the tree that the table holds, and the one with the group, which is the tree reduced by S;
-- every check passes, and the book has a place left for the group, whose four words are `marks`.
pub record Joinable (nodes : Nodes) (book : Book) (list marks : List ℕ) (S : Restriction) (k : ℕ) : Type 0 where
  pub tree : Forest
  pub held : held_tree nodes ≡ some tree
  pub new : Forest
  pub joined : join (group_of nodes.bins list) tree ≡ some new
  pub is : reduce S tree ≡ some new
  pub some_bin : 1 ≤ nodes.bins
  pub few_leaves : leaves nodes ≤ 256
  pub groups : LentBook nodes.bins book
  pub place : book.count < 96
  pub words : GroupWords nodes.bins list marks
  pub passes : join_refusal nodes book list ≡ none
  pub count_is : k ≡ book.count + 1

-- What a trial says: its promise; and where it answers with a count, the group can join the tree of the table, which was swept with the side S.
pub record TrialSays (nodes : Nodes) (book : Book) (list marks work : List ℕ) (r : Result ℕ Refusal) : Type 0 where
  pub promise : TrialPromise nodes book list (report r)
  pub joins : (k : ℕ) → r ≡ Ok k → (S : Restriction) × Joinable nodes book list marks S k × Swept (leaves nodes) S nodes.rows 0 work

-- The first of two answers, down the table of refusals: what the node table says, and what waits for it.
abbrev pub settled : Verdict → Result ℕ Refusal → Result ℕ Refusal
settled Possible waiting = waiting
settled Impossible (Err r) = Err r
settled Impossible (Ok k) = Err Not-possible
settled NoTree (Err r) = cond (up_to_3 r) (Err r) (Err NotInForm)
settled NoTree (Ok k) = Err NotInForm
