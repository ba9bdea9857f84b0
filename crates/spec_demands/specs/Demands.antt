-- The customer's three demands, each as one statement over the calls, and what document 02 asks besides; proofs/Main proves them. Each is one text
-- for rings and racks: where the papers say "ring order", a rack's straight orders are meant as well (No. 6, the last section). They speak of
-- whatever keeps the promise of a call (spec_calls/specs/Promises): first comes what is lent, then the tables as they are left, last what is
-- returned. The contracts of the calls on rows and for C are these promises; so are those on node records, of the rows that the records are, with
-- `Left` (record_left/specs/Records): a refusal leaves the records themselves as they were.
use Rattle.std.specs.Prelude.{◌≡◌, ◌↔◌, ◌≢◌, ◌⊎◌, true, false, List, [], ◌∷◌, ◌++◌, map, reverse, ℕ, suc, ◌+◌, ◌*◌, ◌≤◌, ◌<◌, length, get_or, take, drop}
use Rattle.std.proofs.Math.Option.{Option, none, some}
use Rattle.spec_orders.specs.Lists.{In, Rearranged, numbers_from}
use Rattle.spec_orders.specs.declared.Layout.{Layout}
use Rattle.spec_orders.specs.declared.Layout.TheVariants.{Ring, Rack}
use Rattle.spec_orders.specs.CircularOrder.{Restriction, WellFormed, group_of, EmptyGroup, Consecutive}
use Rattle.spec_orders.specs.Layout.{leaf_count, Contiguous, ConsecutiveOn, Possible}
use Rattle.spec_orders.specs.Tree.{C, Forest, Rotation, AllowedOn}
use Rattle.spec_orders.specs.Form.{Every, Enough, InForm, FirstOf, StandardOrder}
use Rattle.spec_orders.specs.ThreeNeighbours.{relabel}
use Rattle.spec_orders.specs.TreeText.{tree_text, Shaped, Breaks, RuleRefused, AcceptedAs, tree, refused, Reads}
use Rattle.spec_orders.specs.Conflict.{Numbers}
use Rattle.spec_orders.specs.Aim.{AimedOn}
use Rattle.spec_calls.specs.declared.Refusal.{Refusal}
use Rattle.spec_calls.specs.declared.Refusal.TheVariants.{TreeText}
use Rattle.spec_calls.specs.Tables.{Nodes, lent_nodes, leaves, same_ring, Book, lent_book, padded}
use Rattle.spec_calls.specs.Book.{with_group}
use Rattle.spec_calls.specs.NodeTable.{Holds}
use Rattle.spec_calls.specs.Refusals.{Reply, reply, reported}
use Rattle.spec_calls.specs.Calls.{Changed, open_refusal, open_call, join_refusal, join_call, order_refusal, aim_refusal, write_refusal, write_call, ReadCall, conflict_refusal, conflicts_of, conflict_call, group_numbered, intersect_refusal, intersect_call}
use Rattle.spec_calls.specs.Demands.{LentWhole, LentTree, LentBook, ImpossibleIff, NewTree, BothTrees, SameBins}
use Rattle.spec_calls.specs.Promises.{OpenPromise, JoinPromise, TrialPromise, OrderPromise, AimPromise, WritePromise, ReadPromise, ConflictPromise, IntersectPromise}

-- ==== The first demand

-- "Any call, given any numbers, tables or text, ends and does nothing undefined": so does every proved function where its `requires` holds, and no
-- call has a `requires`. "One that must be refused gives the number in the table of document 01 and leaves every table as that table says", which is
-- as it was. `must` is the first refusal down that table, if there is one (document 02's 15 stands right after 1 there, 13 right after 2 and 14 after
-- 9, and 4 is no longer given); `Kept` says that the tables which the call may write are as they were. (Others are lent to be read only.) A call that
-- need not be refused is done and returns 0.
pub record ByTheTable (must : Option Refusal) (said : Reply) (Kept : Type 0) : Type 0 where
  pub refused : (r : Refusal) → must ≡ some r → (said ≡ reported r) × Kept
  pub done : (said.number ≡ 0) ↔ (must ≡ none)

-- The refusal of the tree text's reader: by 1, 15 or 2, the checks of opening; or else by 12, at a byte.
pub data ReadRefusal (nodes : Nodes) (book : Book) (text : List ℕ) : Option Refusal → Type 0 where
  by_tables : {r : Refusal} → open_refusal nodes book ≡ some r → ReadRefusal nodes book text (some r)
  by_text : {p : ℕ} → open_refusal nodes book ≡ none → Reads (leaves nodes) text (refused p) → ReadRefusal nodes book text (some (TreeText p))
  by_none : {t : Forest} → open_refusal nodes book ≡ none → Reads (leaves nodes) text (tree t) → ReadRefusal nodes book text none

-- Every call that is lent tables. (11 is the refusal of the ring file's functions, which write no table: `Says`, file_read/specs/RingFile.)
pub record FirstDemand : Type 0 where
  pub opening : (nodes : Nodes) (book : Book) (rows' : List ℕ) (book' : Book) (said : Reply) → OpenPromise nodes book rows' book' said
      → ByTheTable (open_refusal nodes book) said ((rows' ≡ nodes.rows) × (book' ≡ book))
  pub joining : (nodes : Nodes) (book : Book) (list rows' : List ℕ) (book' : Book) (said : Reply) → JoinPromise nodes book list rows' book' said
      → ByTheTable (join_refusal nodes book list) said ((rows' ≡ nodes.rows) × (book' ≡ book))
  pub trial : (nodes : Nodes) (book : Book) (list : List ℕ) (said : Reply) → TrialPromise nodes book list said
      → ByTheTable (join_refusal nodes book list) said (Unit {0})
  pub ordering : (nodes : Nodes) (order order' : List ℕ) (said : Reply) → OrderPromise nodes order order' said
      → ByTheTable (order_refusal nodes order) said (order' ≡ order)
  pub aiming : (nodes : Nodes) (book : Book) (group : ℕ) (said : Reply) → AimPromise nodes book group said
      → ByTheTable (aim_refusal nodes book group) said (Unit {0})
  pub writing : (nodes : Nodes) (bytes bytes' : List ℕ) (said : Reply) → WritePromise nodes bytes bytes' said
      → ByTheTable (write_refusal nodes bytes) said (bytes' ≡ bytes)
  pub reading : (nodes : Nodes) (book : Book) (text rows' : List ℕ) (book' : Book) (said : Reply) → ReadPromise nodes book text rows' book' said
      → (must : Option Refusal) → ReadRefusal nodes book text must → ByTheTable must said ((rows' ≡ nodes.rows) × (book' ≡ book))
  -- There is such an answer to every text.
  pub any_text : (nodes : Nodes) (book : Book) (text : List ℕ) → (must : Option Refusal) × ReadRefusal nodes book text must
  pub conflict : (l : Layout) (n : ℕ) (book : Book) (list conflicts conflicts' : List ℕ) (said : Reply)
      → ConflictPromise l n book list conflicts conflicts' said → ByTheTable (conflict_refusal l n book list conflicts) said (conflicts' ≡ conflicts)
  pub intersecting : (nodes other third : Nodes) (third' : List ℕ) (said : Reply) → IntersectPromise nodes other third third' said
      → ByTheTable (intersect_refusal nodes other third) said (third' ≡ third.rows)

-- ==== The second demand

-- "For every tree in the published form and every well_formed group, with a place left in the book": the tree t in a node table lent whole, and the
-- book lent whole and in form.
pub record Asked (nodes : Nodes) (book : Book) (list : List ℕ) (t : Forest) : Type 0 where
  pub tree : LentTree nodes t
  pub groups : LentBook nodes.bins book
  pub place_left : book.count < 96
  pub group : WellFormed nodes.bins list

-- "Otherwise the new tree allows exactly those that do, and the standard order is the first of them." The group is accepted, the rows hold the new
-- tree (`NewTree`), and the book is in form with the group. Who then calls for the tree's standard order, with these rows in 256 records or more, has
-- the first of those orders in the n places.
pub record NewRing (nodes : Nodes) (book : Book) (G : Restriction) (t : Forest) (rows' : List ℕ) (book' : Book) (said : Reply) : Type 0 where
  pub accepted : said ≡ reply 0 (book.count + 1)
  pub in_book : book' ≡ with_group book G
  pub in_form : LentBook nodes.bins (lent_book book'.words (book.count + 1))
  pub tree : NewTree nodes.layout nodes.bins G t rows'
  pub standard : (records : ℕ) (order order' : List ℕ) (answer : Reply) → 256 ≤ records → nodes.bins ≤ length order
      → OrderPromise (same_ring nodes records rows') order order' answer
      → (answer ≡ reply 0 nodes.bins)
      × FirstOf (λ ord. AllowedOn nodes.layout nodes.bins t ord × ConsecutiveOn nodes.layout G ord) (take nodes.bins order')

-- A tree t of n leaves was written: the call is done, and the bytes up to the answered length, read into any ring or rack of as many leaves that
-- is lent whole, leave rows that hold t.
pub record ReadsBack (n : ℕ) (t : Forest) (bytes' : List ℕ) (wrote : Reply) : Type 0 where
  pub done : wrote.number ≡ 0
  pub same_tree : (nodes : Nodes) (book : Book) → leaves nodes ≡ n → open_refusal nodes book ≡ none → (rows' : List ℕ) (book' : Book) (said : Reply)
      → ReadPromise nodes book (take wrote.value bytes') rows' book' said → (said ≡ reply 0 0) × Holds n rows' t

pub record SecondDemand : Type 0 where
  -- "'Impossible' [8] is answered if and only if no ring order allowed by the tree hangs the group together." On a rack: no list
  -- of the bins that the rack allows hangs the group together.
  pub joining : (nodes : Nodes) (book : Book) (list : List ℕ) (t : Forest) → Asked nodes book list t
      → (rows' : List ℕ) (book' : Book) (said : Reply) → JoinPromise nodes book list rows' book' said
      → ImpossibleIff nodes.layout nodes.bins (group_of nodes.bins list) t said
      × (said ≢ reply 8 0 → NewRing nodes book (group_of nodes.bins list) t rows' book' said)
  -- A trial answers so too, and always as joining would.
  pub trial : (nodes : Nodes) (book : Book) (list : List ℕ) (t : Forest) → Asked nodes book list t
      → (said : Reply) → TrialPromise nodes book list said → ImpossibleIff nodes.layout nodes.bins (group_of nodes.bins list) t said
  pub as_joining : (nodes : Nodes) (book : Book) (list rows' : List ℕ) (book' : Book) (said tried : Reply)
      → JoinPromise nodes book list rows' book' said → TrialPromise nodes book list tried → tried ≡ said
  -- The standard order of any tree is the first that it allows.
  pub standard : (nodes : Nodes) (t : Forest) → LentTree nodes t → (order order' : List ℕ) (said : Reply) → nodes.bins ≤ length order
      → OrderPromise nodes order order' said → (said ≡ reply 0 nodes.bins) × StandardOrder nodes.layout nodes.bins t (take nodes.bins order')
  -- "A tree written and read is the same tree."
  pub written_read : (nodes : Nodes) (t : Forest) → LentTree nodes t → (bytes bytes' : List ℕ) (wrote : Reply) → 2048 ≤ length bytes
      → WritePromise nodes bytes bytes' wrote → ReadsBack (leaves nodes) t bytes' wrote
  -- "An accepted text written again is the same text": its length is answered, and the 2,048 bytes are the text and zeros. Document 02, No. 5: "now
  -- given for texts with no such node", none of whose C-nodes has three neighbours (`ThreeNeighbours`: what is written of the others).
  pub read_written : (nodes : Nodes) (book : Book) (text rows' : List ℕ) (book' : Book) (said : Reply) → ReadPromise nodes book text rows' book' said
      → said.number ≡ 0 → (t : Forest) → AcceptedAs (leaves nodes) text t → Every Enough t
      → (records : ℕ) (bytes bytes' : List ℕ) (wrote : Reply) → 256 ≤ records → 2048 ≤ length bytes
      → WritePromise (same_ring nodes records rows') bytes bytes' wrote
      → (wrote ≡ reply 0 (length text)) × (take 2048 bytes' ≡ padded 2048 text)

-- ==== The third demand

-- The groups of the book with these numbers; all of them. "Its groups are numbered from 1."
abbrev pub groups_numbered : Book → List ℕ → List Restriction
groups_numbered book numbers = map (group_numbered book.words) numbers

abbrev pub all_numbers : Book → List ℕ
all_numbers book = numbers_from 1 book.count

-- The list of numbers for a new group G, by what the call left in its places and what it returned.
pub record ConflictList (l : Layout) (n : ℕ) (book : Book) (G : Restriction) (conflicts' : List ℕ) (said : Reply) : Type 0 where
  pub named : List ℕ
  -- "The conflict list is empty exactly when one ring order hangs together the group and every group of the book"; on a rack, one
  -- straight order.
  pub empty_iff : (named ≡ []) ↔ Possible l n (G ∷ groups_numbered book (all_numbers book))
  -- "Else it is impossible with the group, and leaving out any one named group makes the rest possible."
  pub impossible : named ≢ [] → Possible l n (G ∷ groups_numbered book named) → ⊥
  pub smallest : (before : List ℕ) (left_out : ℕ) (after : List ℕ) → named ≡ before ++ (left_out ∷ after)
      → Possible l n (G ∷ groups_numbered book (before ++ after))
  -- "Its 96 places and the count are exactly those of document 01": the numbers that the leaving-out rule keeps, which rise, and zeros.
  pub rule : named ≡ conflicts_of l n book G
  pub rise : Numbers 1 book.count named
  pub places : take 96 conflicts' ≡ padded 96 named
  pub count : said ≡ reply 0 (length named)

-- "For every well_formed book, even one that cannot hang together, and every well_formed group."
abbrev pub ThirdDemand : Type 0
ThirdDemand =
    (l : Layout) (n : ℕ) (book : Book) (list conflicts : List ℕ) → 1 ≤ n → leaf_count l n ≤ 256 → LentBook n book → WellFormed n list
    → 96 ≤ length conflicts → (conflicts' : List ℕ) (said : Reply) → ConflictPromise l n book list conflicts conflicts' said
    → ConflictList l n book (group_of n list) conflicts' said

-- ==== Document 02, No. 1: two trees, one ring

-- "Given two trees on the same bins": of two rings or two racks, each in a node table lent whole, and a third one lent whole.
pub record AskedBoth (nodes other third : Nodes) (t u : Forest) : Type 0 where
  pub first : LentTree nodes t
  pub second : LentTree other u
  pub same_bins : SameBins nodes other
  pub all_records : 256 ≤ third.records
  pub all_rows : 65792 ≤ length third.rows

-- The rows hold "the tree that allows exactly the orders allowed by both" (`BothTrees`). "A node with three neighbours in the result is a P-node",
-- as in every tree that a table holds (`ThreeNeighbours`). Who then calls for its standard order, with these rows in 256 records or more, has the
-- first of those orders in the n places.
pub record OneRing (nodes : Nodes) (t u : Forest) (third' : List ℕ) (said : Reply) : Type 0 where
  pub done : said ≡ reply 0 0
  pub tree : BothTrees nodes.layout nodes.bins t u third'
  pub standard : (records : ℕ) (order order' : List ℕ) (answer : Reply) → 256 ≤ records → nodes.bins ≤ length order
      → OrderPromise (same_ring nodes records third') order order' answer
      → (answer ≡ reply 0 nodes.bins)
      × FirstOf (λ ord. AllowedOn nodes.layout nodes.bins t ord × AllowedOn nodes.layout nodes.bins u ord) (take nodes.bins order')

pub record TwoTrees : Type 0 where
  -- "If there is none, the call is refused with 8": if and only if. (`FirstDemand`: "and the third table is untouched".)
  pub intersecting : (nodes other third : Nodes) (t u : Forest) → AskedBoth nodes other third t u
      → (third' : List ℕ) (said : Reply) → IntersectPromise nodes other third third' said
      → ((said ≡ reply 8 0) ↔ ((ord : List ℕ) → AllowedOn nodes.layout nodes.bins t ord → AllowedOn nodes.layout nodes.bins u ord → ⊥))
      × (said ≢ reply 8 0 → OneRing nodes t u third' said)
  -- Either tree may be lent as the first one: whatever is lent, the answer and the third table are the same.
  pub either_way : (nodes other : Nodes) (records : ℕ) (rows one' two' : List ℕ) (one two : Reply)
      → IntersectPromise nodes other (same_ring nodes records rows) one' one → IntersectPromise other nodes (same_ring other records rows) two' two
      → (one ≡ two) × (one' ≡ two')
  -- What stands past the third table's 256 records stays, whatever is lent.
  pub past : (nodes other third : Nodes) (third' : List ℕ) (said : Reply) → IntersectPromise nodes other third third' said → drop 65792 third' ≡ drop 65792 third.rows

-- ==== Document 02, No. 2: a line with no bins

-- The book with one empty group more than it was lent with: its words are the same, and its count is one more.
abbrev pub with_empty : Book → Book
with_empty book = lent_book book.words (book.count + 1)

pub record EmptyGroups : Type 0 where
  -- "Number 4 is no longer given." (`FirstDemand`: each call returns a refusal's number, or 0.)
  pub never_4 : (r : Refusal) → (reported r).number ≢ 4
  -- "An empty group [...] is well formed: it hangs together in every order." The list [] names one.
  pub well_formed : (n : ℕ) → WellFormed n [] × EmptyGroup (group_of n [])
  pub in_every_order : (l : Layout) (G : Restriction) → EmptyGroup G → (ord : List ℕ) → ConsecutiveOn l G ord
  -- It "shall be accepted", "changes no tree and takes a book place", where one is left; else 7. No table changes: a group without marks is four
  -- zeros, as is the place that it takes.
  pub joining : (nodes : Nodes) (book : Book) (t : Forest) → LentTree nodes t → LentBook nodes.bins book → book.count < 96
      → (rows' : List ℕ) (book' : Book) (said : Reply) → JoinPromise nodes book [] rows' book' said
      → (said ≡ reply 0 (book.count + 1)) × (rows' ≡ nodes.rows) × (book' ≡ book)
  pub full : (nodes : Nodes) (book : Book) (t : Forest) → LentTree nodes t → LentBook nodes.bins book → book.count ≡ 96
      → (rows' : List ℕ) (book' : Book) (said : Reply) → JoinPromise nodes book [] rows' book' said → said ≡ reply 7 0
  pub place : (n : ℕ) (book : Book) → LentBook n book → book.count < 96 → EmptyGroup (group_numbered book.words (book.count + 1))
  -- "So a book group without marks is in form": the book is, with this group. (`NewRing` says so of any group that joins.)
  pub in_form : (n : ℕ) (book : Book) → LentBook n book → book.count < 96 → LentBook n (with_empty book)
  -- "14 when the aim of an empty group is wanted."
  pub aiming : (nodes : Nodes) (book : Book) (t : Forest) → LentTree nodes t → LentBook nodes.bins book → (k : ℕ) → 1 ≤ k → k ≤ book.count
      → (said : Reply) → AimPromise nodes book k said → (said ≡ reply 14 0) ↔ EmptyGroup (group_numbered book.words k)
  -- "An empty group joined to a possible book never causes a conflict." Joined to any book in form, it leaves possible what was possible, and no
  -- conflict list of any group changes;
  pub possible : (l : Layout) (n : ℕ) (book : Book) → LentBook n book → book.count < 96
      → Possible l n (groups_numbered book (all_numbers (with_empty book))) ↔ Possible l n (groups_numbered book (all_numbers book))
  pub lists_stay : (l : Layout) (n : ℕ) (book : Book) → LentBook n book → book.count < 96 → (list conflicts one' two' : List ℕ) (one two : Reply)
      → ConflictPromise l n book list conflicts one' one → ConflictPromise l n (with_empty book) list conflicts two' two → (two ≡ one) × (two' ≡ one')
  -- no list names one, wherever it stands in the book;
  pub never_named : (l : Layout) (n : ℕ) (book : Book) (list conflicts : List ℕ) → 1 ≤ n → leaf_count l n ≤ 256 → LentBook n book → WellFormed n list
      → 96 ≤ length conflicts → (conflicts' : List ℕ) (said : Reply) → ConflictPromise l n book list conflicts conflicts' said
      → (place : ℕ) → place < said.value → EmptyGroup (group_numbered book.words (get_or conflicts' place 0)) → ⊥
  -- and as the new group it has the empty list iff the book can hang together by itself.
  pub as_new : (l : Layout) (n : ℕ) (book : Book) (conflicts : List ℕ) → 1 ≤ n → leaf_count l n ≤ 256 → LentBook n book → 96 ≤ length conflicts
      → (conflicts' : List ℕ) (said : Reply) → ConflictPromise l n book [] conflicts conflicts' said
      → (said ≡ reply 0 0) ↔ Possible l n (groups_numbered book (all_numbers book))

-- ==== Document 02, No. 3: middle of an even run

-- `AimedOn` (spec_orders/specs/Aim) says where a leaf stands that is aimed at: in the middle of its group's run, and which of two middles it is.
pub record EvenRuns : Type 0 where
  -- A group that is consecutive in an order and has a leaf there has one such leaf, and that is one of the group.
  pub any : (l : Layout) (G : Restriction) (ord : List ℕ) → ConsecutiveOn l G ord → (x : ℕ) → G x ≡ true → In x ord → (leaf : ℕ) × AimedOn l G ord leaf
  pub only : (l : Layout) (G : Restriction) (ord : List ℕ) (one two : ℕ) → AimedOn l G ord one → AimedOn l G ord two → one ≡ two
  pub inside : (l : Layout) (G : Restriction) (ord : List ℕ) (leaf : ℕ) → AimedOn l G ord leaf → G leaf ≡ true
  -- For a group of the book, the call answers with a leaf iff the leaf is aimed at in the standard order, and 10 iff the group is not consecutive
  -- there. (14: `EmptyGroups`.)
  pub aiming : (nodes : Nodes) (book : Book) (t : Forest) → LentTree nodes t → LentBook nodes.bins book → (k : ℕ) → 1 ≤ k → k ≤ book.count
      → (ord : List ℕ) → StandardOrder nodes.layout nodes.bins t ord → (said : Reply) → AimPromise nodes book k said
      → ((leaf : ℕ) → (said ≡ reply 0 leaf) ↔ AimedOn nodes.layout (group_numbered book.words k) ord leaf)
      × ((said ≡ reply 10 0) ↔ (ConsecutiveOn nodes.layout (group_numbered book.words k) ord → ⊥))

-- ==== Document 02, No. 5: three neighbours

-- What the reader makes of a text that it accepts. A C-node with three neighbours "is read as a P-node there", and the orders are the text's; "and is
-- printed so": who has these rows written, in 256 records or more, has the text of that tree, which read again gives the same tree. It is the text
-- that was read if and only if no C-node in that has three neighbours.
pub record ReadAs (nodes : Nodes) (text rows' : List ℕ) : Type 0 where
  pub spelled : Forest
  pub accepted : AcceptedAs (leaves nodes) text spelled
  pub held : Holds (leaves nodes) rows' (relabel spelled)
  pub orders : (ord : List ℕ) → AllowedOn nodes.layout nodes.bins (relabel spelled) ord ↔ AllowedOn nodes.layout nodes.bins spelled ord
  pub printed : (records : ℕ) (bytes bytes' : List ℕ) (wrote : Reply) → 256 ≤ records → 2048 ≤ length bytes
      → WritePromise (same_ring nodes records rows') bytes bytes' wrote
      → (wrote ≡ reply 0 (length (tree_text (relabel spelled)))) × (take 2048 bytes' ≡ padded 2048 (tree_text (relabel spelled)))
      × ReadsBack (leaves nodes) (relabel spelled) bytes' wrote
  pub same_text : (tree_text (relabel spelled) ≡ text) ↔ Every Enough spelled

-- A node table, lent whole, that has a C-node (2) of two items, and so with three neighbours, in some record.
pub record LentThreeNeighbours (nodes : Nodes) : Type 0 where
  pub whole : LentWhole nodes
  pub place : ℕ
  pub inside : place < 256
  pub c_node : get_or nodes.rows (257 * place) 0 ≡ 2
  pub two_items : get_or nodes.rows (257 * place + 1) 0 ≡ 2

-- Every call that looks at such a table, and is lent all else in full, answers 3.
pub record Meets3 (nodes : Nodes) : Type 0 where
  pub joining : (book : Book) (list rows' : List ℕ) (book' : Book) (said : Reply) → 384 ≤ length book.words
      → JoinPromise nodes book list rows' book' said → said ≡ reply 3 0
  pub trial : (book : Book) (list : List ℕ) (said : Reply) → 384 ≤ length book.words → TrialPromise nodes book list said → said ≡ reply 3 0
  pub ordering : (order order' : List ℕ) (said : Reply) → nodes.bins ≤ length order → OrderPromise nodes order order' said → said ≡ reply 3 0
  pub aiming : (book : Book) (group : ℕ) (said : Reply) → 384 ≤ length book.words → AimPromise nodes book group said → said ≡ reply 3 0
  pub writing : (bytes bytes' : List ℕ) (said : Reply) → 2048 ≤ length bytes → WritePromise nodes bytes bytes' said → said ≡ reply 3 0
  pub as_first : (other third : Nodes) (third' : List ℕ) (said : Reply) → LentWhole other → SameBins nodes other
      → 256 ≤ third.records → 65792 ≤ length third.rows → IntersectPromise nodes other third third' said → said ≡ reply 3 0
  pub as_second : (other third : Nodes) (third' : List ℕ) (said : Reply) → LentWhole other → SameBins other nodes
      → 256 ≤ third.records → 65792 ≤ length third.rows → IntersectPromise other nodes third third' said → said ≡ reply 3 0

pub record ThreeNeighbours : Type 0 where
  -- "From now on a C-node has at least four neighbours": in every tree that a table holds. (In the lister's: spec_listing/proofs/EmptyLines,
  -- `state_form`.)
  pub four : (n : ℕ) (rows : List ℕ) (t : Forest) → Holds n rows t → Every Enough t
  -- A text is accepted by its own letters, whether or not it names such a node.
  pub accepting : (nodes : Nodes) (book : Book) (text : List ℕ) (t : Forest) → open_refusal nodes book ≡ none → AcceptedAs (leaves nodes) text t
      → (rows' : List ℕ) (book' : Book) (said : Reply) → ReadPromise nodes book text rows' book' said → said ≡ reply 0 0
  pub reading : (nodes : Nodes) (book : Book) (text rows' : List ℕ) (book' : Book) (said : Reply) → ReadPromise nodes book text rows' book' said
      → said.number ≡ 0 → ReadAs nodes text rows'
  -- "While a wrong direction still meets 12": so does any rule that the tree of a text of the shape breaks, at the first byte of those.
  pub rule_broken : (nodes : Nodes) (book : Book) (t : Forest) (p : ℕ) → open_refusal nodes book ≡ none → Shaped (leaves nodes) t → Breaks C 0 2 t p
      → (rows' : List ℕ) (book' : Book) (said : Reply) → ReadPromise nodes book (tree_text t) rows' book' said
      → (q : ℕ) × (said ≡ reply 12 q) × RuleRefused t q
  -- "A node table that holds such a node meets refusal 3."
  pub refusing : (nodes : Nodes) → LentThreeNeighbours nodes → Meets3 nodes

-- ==== Document 02, No. 6: straight racks

-- What stands above is asked of racks too, and by their own orders: `OrderOn Rack n`, "a straight order is a list of the bins"; `ConsecutiveOn Rack`, "a
-- group hangs together if its run has no gap and does not pass the ends"; `StandardOrder Rack n`, "the first allowed list in dictionary order";
-- `Possible Rack n`, "refusals and conflicts are judged by straight orders there"; `AimedOn Rack`, "the rule of No. 3 without a seam". Here is what No. 6
-- says besides. A node table of a rack of n bins, and one of a ring:
abbrev pub rack : ℕ → ℕ → List ℕ → Nodes
rack n records rows = lent_nodes Rack n records rows

abbrev pub ring : ℕ → ℕ → List ℕ → Nodes
ring n records rows = lent_nodes Ring n records rows

-- The same numbers lent for a rack of n bins and for a ring of n + 1. What is answered and what is left is the same, of a book and a list without the
-- hidden end bin.
pub record PlannedAsRing (n records : ℕ) (rows : List ℕ) : Type 0 where
  pub opening : (book : Book) → open_call (rack n records rows) book ≡ open_call (ring (suc n) records rows) book
  pub joining : (book : Book) (list : List ℕ) → LentBook n book → WellFormed n list
      → join_call (rack n records rows) book list ≡ join_call (ring (suc n) records rows) book list
  pub conflict : (book : Book) (list conflicts : List ℕ) → LentBook n book → WellFormed n list
      → conflict_call Rack n book list conflicts ≡ conflict_call Ring (suc n) book list conflicts

-- The same of tree text and intersection, whatever else is lent.
pub record AsItsRing (n records : ℕ) (rows : List ℕ) : Type 0 where
  pub writing : (bytes : List ℕ) → write_call (rack n records rows) bytes ≡ write_call (ring (suc n) records rows) bytes
  pub reading : (book : Book) (text : List ℕ) (left : Changed)
      → ReadCall (rack n records rows) book text left ↔ ReadCall (ring (suc n) records rows) book text left
  pub intersecting : (more : ℕ) (others : List ℕ) (third : Nodes)
      → intersect_call (rack n records rows) (rack n more others) third ≡ intersect_call (ring (suc n) records rows) (ring (suc n) more others) third

-- The calls that are given a list all answer so.
pub record AllAnswer (nodes : Nodes) (book : Book) (list : List ℕ) (answer : Reply) : Type 0 where
  pub joining : (rows' : List ℕ) (book' : Book) (said : Reply) → JoinPromise nodes book list rows' book' said → said ≡ answer
  pub trial : (said : Reply) → TrialPromise nodes book list said → said ≡ answer
  pub conflict : (conflicts conflicts' : List ℕ) (said : Reply) → 96 ≤ length conflicts
      → ConflictPromise nodes.layout nodes.bins book list conflicts conflicts' said → said ≡ answer

-- A book lent whole, with a group that has the hidden end bin of a rack of n bins.
pub record LentHidden (n : ℕ) (book : Book) : Type 0 where
  pub all_words : 384 ≤ length book.words
  pub group : ℕ
  pub some_group : 1 ≤ group
  pub in_book : group ≤ book.count
  pub hidden : group_numbered book.words group (suc n) ≡ true

-- The group's run passes the ends of the list: it hangs together only where the list is closed to a circle.
abbrev pub PassesEnds : Restriction → List ℕ → Type 0
PassesEnds G ord = Consecutive G ord × (Contiguous G ord → ⊥)

-- Every call that is lent such a node table answers 15, whatever else it is lent; of two tables, where 1 passes the other one.
pub record Meets15 (nodes : Nodes) : Type 0 where
  pub opening : (book : Book) (rows' : List ℕ) (book' : Book) (said : Reply) → OpenPromise nodes book rows' book' said → said ≡ reply 15 0
  pub joining : (book : Book) (list rows' : List ℕ) (book' : Book) (said : Reply) → JoinPromise nodes book list rows' book' said → said ≡ reply 15 0
  pub trial : (book : Book) (list : List ℕ) (said : Reply) → TrialPromise nodes book list said → said ≡ reply 15 0
  pub ordering : (order order' : List ℕ) (said : Reply) → OrderPromise nodes order order' said → said ≡ reply 15 0
  pub aiming : (book : Book) (group : ℕ) (said : Reply) → AimPromise nodes book group said → said ≡ reply 15 0
  pub writing : (bytes bytes' : List ℕ) (said : Reply) → WritePromise nodes bytes bytes' said → said ≡ reply 15 0
  pub reading : (book : Book) (text rows' : List ℕ) (book' : Book) (said : Reply) → ReadPromise nodes book text rows' book' said → said ≡ reply 15 0
  pub conflict : (book : Book) (list conflicts conflicts' : List ℕ) (said : Reply)
      → ConflictPromise nodes.layout nodes.bins book list conflicts conflicts' said → said ≡ reply 15 0
  pub as_first : (other third : Nodes) (third' : List ℕ) (said : Reply) → 1 ≤ other.bins → other.bins ≤ 256
      → IntersectPromise nodes other third third' said → said ≡ reply 15 0
  pub as_second : (other third : Nodes) (third' : List ℕ) (said : Reply) → 1 ≤ other.bins → other.bins ≤ 256
      → IntersectPromise other nodes third third' said → said ≡ reply 15 0

pub record StraightRacks : Type 0 where
  -- "A straight order is a list of the bins": so is every one that a rack's tree allows. From two bins on, a list and its reverse are two orders; the
  -- tree allows both or neither.
  pub lists : (n : ℕ) (t : Forest) (ord : List ℕ) → 1 ≤ n → InForm (suc n) t → AllowedOn Rack n t ord → Rearranged (numbers_from 1 n) ord
  pub two_orders : (n : ℕ) (t : Forest) (ord : List ℕ) → 2 ≤ n → InForm (suc n) t → AllowedOn Rack n t ord
      → AllowedOn Rack n t (reverse ord) × (reverse ord ≢ ord)
  -- "The rack is planned as a ring with one hidden end bin, numbered n + 1." The lists that a tree allows are the circles that it allows, read from that
  -- bin, which is left out; a group hangs together in the list iff it does in the circle; so the calls plan the one as the other.
  pub circles : (n : ℕ) (t : Forest) (ord : List ℕ)
      → AllowedOn Rack n t ord ↔ ((circle : List ℕ) × AllowedOn Ring (suc n) t circle × Rotation circle (suc n ∷ ord))
  pub hangs : (n : ℕ) (G : Restriction) (circle ord : List ℕ) → G (suc n) ≡ false → Rotation circle (suc n ∷ ord)
      → ConsecutiveOn Rack G ord ↔ ConsecutiveOn Ring G circle
  pub planned : (n records : ℕ) (rows : List ℕ) → 1 ≤ n → n < 256 → PlannedAsRing n records rows
  -- "Tree text and intersection take a rack as its ring of n + 1 bins."
  pub as_its_ring : (n records : ℕ) (rows : List ℕ) → 1 ≤ n → n < 256 → AsItsRing n records rows
  -- "That no group may name." A list that names it after different bins of the rack meets 5 at that place; a book with a group that has it meets 3, for
  -- every list and every aim.
  pub hidden_in_list : (n records : ℕ) (rows : List ℕ) (t : Forest) (book : Book) → LentTree (rack n records rows) t → LentBook n book
      → (before after : List ℕ) → WellFormed n before → AllAnswer (rack n records rows) book (before ++ (suc n ∷ after)) (reply 5 (length before))
  pub hidden_in_book : (n records : ℕ) (rows : List ℕ) (book : Book) → LentWhole (rack n records rows) → LentHidden n book
      → ((list : List ℕ) → AllAnswer (rack n records rows) book list (reply 3 0))
      × ((group : ℕ) (said : Reply) → AimPromise (rack n records rows) book group said → said ≡ reply 3 0)
  -- A group of no bin, one bin or all n bins changes no rack's tree. (Of n − 1 bins it may.)
  pub small_groups : (n records : ℕ) (rows : List ℕ) (book : Book) (list : List ℕ) (t : Forest) → Asked (rack n records rows) book list t
      → (length list ≡ 0) ⊎ (length list ≡ 1) ⊎ (length list ≡ n)
      → (rows' : List ℕ) (book' : Book) (said : Reply) → JoinPromise (rack n records rows) book list rows' book' said
      → (said ≡ reply 0 (book.count + 1)) × (rows' ≡ rows)
  -- "Does not pass the ends", "without a seam": a group of the book whose run in the standard order passes the ends meets 10.
  pub no_seam : (n records : ℕ) (rows : List ℕ) (book : Book) (t : Forest) → LentTree (rack n records rows) t → LentBook n book
      → (k : ℕ) → 1 ≤ k → k ≤ book.count → (ord : List ℕ) → StandardOrder Rack n t ord → PassesEnds (group_numbered book.words k) ord
      → (said : Reply) → AimPromise (rack n records rows) book k said → said ≡ reply 10 0
  -- "A ring and a rack given to one intersection meet 13", either as the first one, for any two counts of bins: for n + 1 and n too.
  pub ring_and_rack : (nodes other third : Nodes) → nodes.layout ≢ other.layout → LentWhole nodes → LentWhole other
      → 256 ≤ third.records → 65792 ≤ length third.rows
      → (third' : List ℕ) (said : Reply) → IntersectPromise nodes other third third' said → said ≡ reply 13 0
  -- "15 when a rack has 256 bins, checked right after 1."
  pub full_rack : (records : ℕ) (rows : List ℕ) → Meets15 (rack 256 records rows)
