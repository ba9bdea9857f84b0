-- The second and the third demand, over the calls and in the orders of a ring or a rack; and the one of document 02's No. 1. The second: "for every
-- tree in the published form and every well_formed group, with a place left in the book".
use Rattle.std.specs.Prelude.{◌≡◌, ◌↔◌, ◌≢◌, true, List, ℕ, ◌≤◌, ◌<◌, length, take}
use Rattle.spec_orders.specs.declared.Layout.{Layout}
use Rattle.spec_orders.specs.CircularOrder.{Restriction, WellFormed, group_of}
use Rattle.spec_orders.specs.Layout.{leaf_count, ConsecutiveOn, Possible}
use Rattle.spec_orders.specs.Tree.{Forest, AllowedOn}
use Rattle.spec_orders.specs.Form.{FirstOf, StandardOrder}
use Rattle.spec_orders.specs.SeenFrom.{standard_on}
use Rattle.spec_orders.specs.Conflict.{Demand_3, Numbers}
use Rattle.spec_calls.specs.Tables.{Nodes, leaves, Book, padded}
use Rattle.spec_calls.specs.Book.{book_in_form?}
use Rattle.spec_orders.specs.Lists.{numbers_from}
use Rattle.spec_calls.specs.NodeTable.{Holds}
use Rattle.spec_calls.specs.Refusals.{Reply, reply}
use Rattle.spec_calls.specs.Calls.{group_numbered}

-- A node table, lent whole; and one that holds the tree.
pub record LentWhole (nodes : Nodes) : Type 0 where
  pub some_bin : 1 ≤ nodes.bins
  pub few_leaves : leaves nodes ≤ 256
  pub all_records : 256 ≤ nodes.records
  pub all_rows : 65792 ≤ length nodes.rows

pub record LentTree (nodes : Nodes) (t : Forest) : Type 0 where
  pub whole : LentWhole nodes
  pub tree : Holds (leaves nodes) nodes.rows t

-- A book, lent whole, in form for n bins.
pub record LentBook (n : ℕ) (book : Book) : Type 0 where
  pub all_words : 384 ≤ length book.words
  pub in_form : book_in_form? n book ≡ true

-- "'Impossible' [8] is answered if and only if no ring order allowed by the tree hangs the group together."
abbrev pub ImpossibleIff : Layout → ℕ → Restriction → Forest → Reply → Type 0
ImpossibleIff l n G t said = (said ≡ reply 8 0) ↔ ((ord : List ℕ) → AllowedOn l n t ord → ConsecutiveOn l G ord → ⊥)

-- "Otherwise the new tree allows exactly those that do, and the standard order is the first of them."
pub record NewTree (l : Layout) (n : ℕ) (G : Restriction) (t : Forest) (rows : List ℕ) : Type 0 where
  pub new : Forest
  pub held : Holds (leaf_count l n) rows new
  pub orders : (ord : List ℕ) → AllowedOn l n new ord ↔ (AllowedOn l n t ord × ConsecutiveOn l G ord)
  pub first : FirstOf (λ ord. AllowedOn l n t ord × ConsecutiveOn l G ord) (standard_on l n new)

pub record Joins (l : Layout) (n : ℕ) (G : Restriction) (t : Forest) (said : Reply) (rows : List ℕ) : Type 0 where
  pub impossible : ImpossibleIff l n G t said
  pub otherwise : said ≢ reply 8 0 → NewTree l n G t rows

-- The demand on a call: on joining, which returns this and leaves the rows `new`; on trial; on the standard order, which leaves the lent order
-- as `new`.
abbrev pub JoinDemand : Nodes → Book → List ℕ → Reply → List ℕ → Type 0
JoinDemand nodes book list said new =
    (t : Forest) → LentTree nodes t → LentBook nodes.bins book → book.count < 96 → WellFormed nodes.bins list
    → Joins nodes.layout nodes.bins (group_of nodes.bins list) t said new

abbrev pub TrialDemand : Nodes → Book → List ℕ → Reply → Type 0
TrialDemand nodes book list said =
    (t : Forest) → LentTree nodes t → LentBook nodes.bins book → book.count < 96 → WellFormed nodes.bins list
    → ImpossibleIff nodes.layout nodes.bins (group_of nodes.bins list) t said

abbrev pub OrderDemand : Nodes → List ℕ → List ℕ → Type 0
OrderDemand nodes order new = (t : Forest) → LentTree nodes t → nodes.bins ≤ length order → StandardOrder nodes.layout nodes.bins t (take nodes.bins new)

-- The third: "for every well_formed book, even one that cannot hang together, and every well_formed group". The call returns how many numbers
-- there are; they and zeros stand in the 96 places. They rise, from 1 to the count of groups, and meet the demand.
pub record Named (l : Layout) (n : ℕ) (book : Book) (list : List ℕ) (said : Reply) (conflicts : List ℕ) : Type 0 where
  pub numbers : List ℕ
  pub answered : said ≡ reply 0 (length numbers)
  pub places : take 96 conflicts ≡ padded 96 numbers
  pub rise : Numbers 1 book.count numbers
  pub demand : Demand_3 (Possible l n) (group_numbered book.words) (group_of n list) (numbers_from 1 book.count) numbers

abbrev pub ConflictDemand : Layout → ℕ → Book → List ℕ → List ℕ → Reply → List ℕ → Type 0
ConflictDemand l n book list conflicts said new =
    1 ≤ n → leaf_count l n ≤ 256 → LentBook n book → 96 ≤ length conflicts → WellFormed n list → Named l n book list said new

-- Document 02, No. 1: "the tree that allows exactly the orders allowed by both", its standard order the first of them. "A node with three neighbours
-- in the result is a P-node", as in every tree that a table holds.
pub record BothTrees (l : Layout) (n : ℕ) (t u : Forest) (rows : List ℕ) : Type 0 where
  pub new : Forest
  pub held : Holds (leaf_count l n) rows new
  pub orders : (ord : List ℕ) → AllowedOn l n new ord ↔ (AllowedOn l n t ord × AllowedOn l n u ord)
  pub first : FirstOf (λ ord. AllowedOn l n t ord × AllowedOn l n u ord) (standard_on l n new)

-- "If there is none, the call is refused with 8."
pub record Intersects (l : Layout) (n : ℕ) (t u : Forest) (said : Reply) (rows : List ℕ) : Type 0 where
  pub impossible : (said ≡ reply 8 0) ↔ ((ord : List ℕ) → AllowedOn l n t ord → AllowedOn l n u ord → ⊥)
  pub otherwise : said ≢ reply 8 0 → BothTrees l n t u rows

-- Both are rings, or both racks, of as many bins.
abbrev pub SameBins : Nodes → Nodes → Type 0
SameBins nodes other = (nodes.layout ≡ other.layout) × (nodes.bins ≡ other.bins)

abbrev pub IntersectDemand : Nodes → Nodes → Nodes → Reply → List ℕ → Type 0
IntersectDemand nodes other third said new =
    (t u : Forest) → LentTree nodes t → LentTree other u → SameBins nodes other → 256 ≤ third.records → 65792 ≤ length third.rows
    → Intersects nodes.layout nodes.bins t u said new

-- Document 02, No. 7: the numbers and the bytes of a test load that no check refuses.
pub record LoadGiven (n seed groups : ℕ) (bytes : List ℕ) : Type 0 where
  pub some_bin : 1 ≤ n
  pub few_bins : n ≤ 256
  pub nonzero : 1 ≤ seed
  pub some_group : 1 ≤ groups
  pub few_groups : groups ≤ 96
  pub all_bytes : 65536 ≤ length bytes
