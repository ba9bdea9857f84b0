-- What each call answers, and what every lent table holds afterwards, refusals down the table included.
-- "Each call makes the checks that concern what it is lent, down the table." A refusal leaves every table as it was.
use Rattle.std.specs.Prelude.{◌≡◌, Bool, true, false, not, ◌||◌, List, [], ◌∷◌, ◌++◌, ℕ, ◌+◌, ◌-◌, eqb, ltb, length}
use Rattle.std.proofs.Math.Option.{Option, none, some}
use Rattle.spec_orders.specs.declared.Layout.{Layout}
use Rattle.spec_orders.specs.CircularOrder.{Restriction, group_of}
use Rattle.spec_orders.specs.Tree.{Forest}
use Rattle.spec_orders.specs.TreeText.{tree_text, Found, tree, refused, Reads}
use Rattle.spec_orders.specs.Join.{fresh, join, then}
use Rattle.spec_orders.specs.SeenFrom.{standard_on}
use Rattle.spec_orders.specs.Conflict.{consecutive_on?, book_conflicts}
use Rattle.spec_orders.specs.Aim.{aim_of}
use Rattle.spec_intersection.specs.Intersection.{intersection}
use Rattle.spec_load.specs.TestLoad.{load_file}
use Rattle.mark_words.specs.Marks.{marked, no_mark?}
use Rattle.spec_calls.specs.declared.Refusal.{Refusal}
use Rattle.spec_calls.specs.declared.Refusal.TheVariants.{RingSize, ShortTable, NotInForm, BookFull, Impossible, NoSuchGroup, NoAim, NotConsecutive, TreeText, BinCounts, RackSize, ZeroSeed, GroupCount}
use Rattle.spec_calls.specs.Tables.{Nodes, leaves, Book, over, padded}
use Rattle.spec_calls.specs.Book.{group_words, book_in_form?, with_group, without_groups}
use Rattle.spec_calls.specs.NodeTable.{table_of, held_tree}
use Rattle.spec_calls.specs.Refusals.{Reply, reply, reported, refuse, first_refusal, bad_size, full_rack, size_checks, bad_count, short, short_nodes, other_bins, bad_list}

-- A call that may change a ring's or a rack's tables: what it returns, and the rows and the book afterwards.
pub record Changed : Type 0 where
  pub answer : Reply
  pub rows : List ℕ
  pub book : Book

abbrev pub changed_as : Reply → List ℕ → Book → Changed
changed_as answer rows book = record { answer = answer; rows = rows; book = book }

-- A refusal, and both tables as they were.
abbrev pub unchanged : Refusal → Nodes → Book → Changed
unchanged r nodes book = changed_as (reported r) nodes.rows book

-- A call that fills one table: what it returns, and the table afterwards.
pub record Filled : Type 0 where
  pub answer : Reply
  pub table : List ℕ

abbrev pub filled_as : Reply → List ℕ → Filled
filled_as answer table = record { answer = answer; table = table }

abbrev pub is_none : {A : Type 0} → Option A → Bool
is_none none = true
is_none (some x) = false

-- Checks 1, 15 and 2 of a call that is lent a node table, where `other` says that another lent table is too short.
abbrev pub table_checks : Nodes → Bool → List (Option Refusal)
table_checks nodes other = size_checks nodes.layout nodes.bins ++ (refuse (short_nodes nodes || other) ShortTable ∷ [])

-- And 3, of a call that reads the node table; of one that reads the node table and the book.
abbrev pub tree_checks : Nodes → Bool → List (Option Refusal)
tree_checks nodes other = table_checks nodes other ++ (refuse (is_none (held_tree nodes)) NotInForm ∷ [])

abbrev pub ring_checks : Nodes → Book → List (Option Refusal)
ring_checks nodes book =
    table_checks nodes (short 384 book.words) ++ (refuse (is_none (held_tree nodes) || not (book_in_form? nodes.bins book)) NotInForm ∷ [])

-- The rows with this tree; as they were where there is none.
abbrev pub with_tree : Option Forest → List ℕ → List ℕ
with_tree none rows = rows
with_tree (some t) rows = over (table_of t) rows

-- Opening: checks 1, 15 and 2; the fresh ring, of a rack its ring of n + 1 bins, and an empty book. Answers the count of the book's groups, 0.
unfoldable pub open_refusal : Nodes → Book → Option Refusal
open_refusal nodes book = first_refusal (table_checks nodes (short 384 book.words))

unfoldable pub opened : Option Refusal → Nodes → Book → Changed
opened (some r) nodes book = unchanged r nodes book
opened none nodes book = changed_as (reply 0 0) (over (table_of (fresh (leaves nodes))) nodes.rows) (without_groups book)

unfoldable pub open_call : Nodes → Book → Changed
open_call nodes book = opened (open_refusal nodes book) nodes book

-- Joining: checks 1, 15, 2, 3 and 5 to 8. The tree with the group joined to it.
unfoldable pub joined_tree : Nodes → List ℕ → Option Forest
joined_tree nodes list = then (held_tree nodes) (join (group_of nodes.bins list))

unfoldable pub join_refusal : Nodes → Book → List ℕ → Option Refusal
join_refusal nodes book list =
    first_refusal
    (ring_checks nodes book
    ++ (bad_list nodes.bins list ∷ refuse (eqb book.count 96) BookFull ∷ refuse (is_none (joined_tree nodes list)) Impossible ∷ []))

-- "The accepted group takes the next book place in every case." Answers the new count of the book's groups.
unfoldable pub joined : Option Refusal → Option Forest → Nodes → Book → List ℕ → Changed
joined (some r) t nodes book list = unchanged r nodes book
joined none t nodes book list =
    changed_as (reply 0 (book.count + 1)) (with_tree t nodes.rows) (with_group book (group_of nodes.bins list))

unfoldable pub join_call : Nodes → Book → List ℕ → Changed
join_call nodes book list = joined (join_refusal nodes book list) (joined_tree nodes list) nodes book list

-- "A trial answers as joining would and changes nothing."
unfoldable pub trial_call : Nodes → Book → List ℕ → Reply
trial_call nodes book list = (join_call nodes book list).answer

-- A call that fills one table from a lent tree: its answer and what it writes, or the table as it was.
abbrev pub filled : Option Refusal → ℕ → List ℕ → List ℕ → Filled
filled (some r) value xs table = filled_as (reported r) table
filled none value xs table = filled_as (reply 0 value) (over xs table)

abbrev pub of_tree : Option Forest → (Forest → List ℕ) → List ℕ
of_tree none f = []
of_tree (some t) f = f t

-- The standard order: checks 1, 15, 2 (n places for the order), 3. Answers n.
unfoldable pub order_refusal : Nodes → List ℕ → Option Refusal
order_refusal nodes order = first_refusal (tree_checks nodes (short nodes.bins order))

unfoldable pub order_call : Nodes → List ℕ → Filled
order_call nodes order = filled (order_refusal nodes order) nodes.bins (of_tree (held_tree nodes) (standard_on nodes.layout nodes.bins)) order

-- The tree text, written: checks 1, 15, 2 (2,048 bytes), 3. Of a rack it is that of its ring of n + 1 bins. Answers the length.
unfoldable pub write_refusal : Nodes → List ℕ → Option Refusal
write_refusal nodes bytes = first_refusal (tree_checks nodes (short 2048 bytes))

unfoldable pub write_call : Nodes → List ℕ → Filled
write_call nodes bytes =
    filled (write_refusal nodes bytes) (length (of_tree (held_tree nodes) tree_text)) (padded 2048 (of_tree (held_tree nodes) tree_text)) bytes

-- The tree text, read: checks 1, 15, 2 and 12; the tree, an empty book. Answers the count of the book's groups, 0.
unfoldable pub read_outcome : Found → Nodes → Book → Changed
read_outcome (refused p) nodes book = unchanged (TreeText p) nodes book
read_outcome (tree t) nodes book = changed_as (reply 0 0) (over (table_of t) nodes.rows) (without_groups book)

pub data ReadCall (nodes : Nodes) (book : Book) (text : List ℕ) : Changed → Type 0 where
  unread : {r : Refusal} → open_refusal nodes book ≡ some r → ReadCall nodes book text (unchanged r nodes book)
  read : {f : Found} → open_refusal nodes book ≡ none → Reads (leaves nodes) text f → ReadCall nodes book text (read_outcome f nodes book)

-- The aim of the book's group with the number k: checks 1, 15, 2, 3, 9, 14, 10. Answers the bin. Document 02, No. 2: "14 when the aim of an empty group
-- is wanted, checked after 9".
abbrev pub group_numbered : List ℕ → ℕ → Restriction
group_numbered words k = marked (group_words words (k - 1))

unfoldable pub aim_refusal : Nodes → Book → ℕ → Option Refusal
aim_refusal nodes book k =
    first_refusal
    (ring_checks nodes book
    ++ (refuse (eqb k 0 || ltb book.count k) NoSuchGroup
    ∷ refuse (no_mark? (group_words book.words (k - 1))) NoAim
    ∷ refuse (not (consecutive_on? nodes.layout (group_numbered book.words k) (of_tree (held_tree nodes) (standard_on nodes.layout nodes.bins)))) NotConsecutive
    ∷ []))

abbrev pub answered : Option Refusal → ℕ → Reply
answered (some r) value = reported r
answered none value = reply 0 value

unfoldable pub aim_call : Nodes → Book → ℕ → Reply
aim_call nodes book k =
    answered (aim_refusal nodes book k)
    (aim_of nodes.layout (group_numbered book.words k) (of_tree (held_tree nodes) (standard_on nodes.layout nodes.bins)))

-- "A conflict call reads n, the book and a group, and makes checks 1 to 6", with 15 after 1 and but for 4. The list's 96 places are filled; answers the
-- count of numbers.
unfoldable pub conflict_refusal : Layout → ℕ → Book → List ℕ → List ℕ → Option Refusal
conflict_refusal layout n book list conflicts =
    first_refusal
    (size_checks layout n
    ++ (refuse (short 384 book.words || short 96 conflicts) ShortTable ∷ refuse (not (book_in_form? n book)) NotInForm ∷ bad_list n list ∷ []))

unfoldable pub conflicts_of : Layout → ℕ → Book → Restriction → List ℕ
conflicts_of layout n book new = book_conflicts layout n (group_numbered book.words) book.count new

unfoldable pub conflict_call : Layout → ℕ → Book → List ℕ → List ℕ → Filled
conflict_call layout n book list conflicts =
    filled (conflict_refusal layout n book list conflicts) (length (conflicts_of layout n book (group_of n list)))
    (padded 96 (conflicts_of layout n book (group_of n list))) conflicts

-- Document 02, No. 1: the tree that allows the orders allowed by both lent trees.
unfoldable pub common_tree : Nodes → Nodes → Option Forest
common_tree nodes other = then (held_tree nodes) (λ t. then (held_tree other) (intersection t))

-- Checks 1 and 15 of both bin counts; with them 2 (all three tables) and 13 ("checked right after 2"); then 3 (both trees) and 8.
abbrev pub pair_sizes : Layout → ℕ → Layout → ℕ → List (Option Refusal)
pair_sizes l n l' m = refuse (bad_size n || bad_size m) RingSize ∷ refuse (full_rack l n || full_rack l' m) RackSize ∷ []

abbrev pub pair_checks : Nodes → Nodes → Nodes → List (Option Refusal)
pair_checks nodes other third =
    pair_sizes nodes.layout nodes.bins other.layout other.bins
    ++ (refuse ((short_nodes nodes || short_nodes other) || short_nodes third) ShortTable ∷ refuse (other_bins nodes other) BinCounts ∷ [])

abbrev pub common_checks : Nodes → Nodes → List (Option Refusal)
common_checks nodes other =
    refuse (is_none (held_tree nodes) || is_none (held_tree other)) NotInForm ∷ refuse (is_none (common_tree nodes other)) Impossible ∷ []

unfoldable pub intersect_refusal : Nodes → Nodes → Nodes → Option Refusal
intersect_refusal nodes other third = first_refusal (pair_checks nodes other third ++ common_checks nodes other)

-- "The result goes into a third node table and no book is read or written." Answers 0.
unfoldable pub intersect_call : Nodes → Nodes → Nodes → Filled
intersect_call nodes other third = filled (intersect_refusal nodes other third) 0 (of_tree (common_tree nodes other) table_of) third.rows

-- Document 02, No. 7: the file of a test load, in 65,536 bytes. Checks 1, 16, 17 and 2. Answers the file's length.
unfoldable pub test_load_refusal : ℕ → ℕ → ℕ → List ℕ → Option Refusal
test_load_refusal n seed groups bytes =
    first_refusal
    (refuse (bad_size n) RingSize ∷ refuse (eqb seed 0) ZeroSeed ∷ refuse (bad_count groups) GroupCount ∷ refuse (short 65536 bytes) ShortTable ∷ [])

unfoldable pub test_load_call : ℕ → ℕ → ℕ → List ℕ → Filled
test_load_call n seed groups bytes =
    filled (test_load_refusal n seed groups bytes) (length (load_file n seed groups)) (padded 65536 (load_file n seed groups)) bytes
