-- The records of a node table read from the last to the first. What is known behind a record is a sequence of roots, the nodes whose parents are
-- still to come, and the leaves that were read. A record takes roots from the front, as its items, and becomes the first root itself.
use Rattle.std.specs.Prelude.{◌≡◌, false, List, [], ◌∷◌, ℕ, zero, suc, ◌+◌, ◌*◌, ◌≤◌, ◌<◌, length, take, drop, replicate}
use Rattle.spec_orders.specs.Lists.{elem}
use Rattle.spec_orders.specs.CircularOrder.{Restriction}
use Rattle.spec_orders.specs.Tree.{Kind, P, C, Forest, nil, leaf, node}
use Rattle.spec_orders.specs.Form.{first, fewest, nodes}
use Rattle.spec_calls.specs.Tables.{padded}
use Rattle.spec_calls.specs.NodeTable.{kind_number}
use Rattle.tree_judge.specs.Judge.{leaf_state, node_state, states, judge}
use Rattle.tree_judge.specs.Automaton.{Run, start, step}

-- Row r of the table.
unfoldable pub row_at : List ℕ → ℕ → List ℕ
row_at table r = take 257 (drop (257 * r) table)

-- k zeros.
unfoldable pub blanks : ℕ → List ℕ
blanks k = replicate k 0

-- What is known behind a record: the roots, and the leaves that were read, the last one first.
pub record Known : Type 0 where
  pub roots : Forest
  pub leaves : List ℕ

-- And within a record, after some of its items: the record of the next root, the first leaves of the node's first item (0: none) and of its last
-- one, and where the items take the automaton.
pub record Within : Type 0 where
  pub next : ℕ
  pub roots : Forest
  pub leaves : List ℕ
  pub first : ℕ
  pub last : ℕ
  pub run : Run

-- What the first leaf of an item must be above, that of the item before it being m.
abbrev pub least : Kind → ℕ → ℕ
least P m = m
least C m = 0

abbrev pub head : ℕ → ℕ → ℕ
head zero b = b
head (suc m) b = suc m

-- A leaf from 2 to n that is not among those read.
pub record New (n : ℕ) (read : List ℕ) (b : ℕ) : Type 0 where
  pub low : 2 ≤ b
  pub high : b ≤ n
  pub unread : elem read b ≡ false

module _ (n : ℕ) (S : Restriction) where
  -- After a leaf; after the root of the items i, with f behind it.
  abbrev pub after_leaf : Within → ℕ → Within
  after_leaf a b =
      record { next = a.next; roots = a.roots; leaves = b ∷ a.leaves; first = head a.first b; last = b; run = step a.run (leaf_state (S b)) }

  abbrev pub after_root : Within → Kind → Forest → Forest → Within
  after_root a k i f = record {
    next = a.next + suc (nodes i);
    roots = f;
    leaves = a.leaves;
    first = head a.first (first i);
    last = first i;
    run = step a.run (node_state k (states (judge S i)));
  }

  -- The entries of a node of kind k are read, from a to z: they are the items i.
  pub data ItemsRead (k : Kind) : List ℕ → Within → Forest → Within → Type 0 where
    read_none : {a : Within} → ItemsRead k [] a nil a
    read_leaf : {v : ℕ} {vs : List ℕ} {a z : Within} {i : Forest} → v ≤ 256 → New n a.leaves v → least k a.last < v
        → ItemsRead k vs (after_leaf a v) i z → ItemsRead k (v ∷ vs) a (leaf v i) z
    read_root : {v : ℕ} {vs : List ℕ} {a z : Within} {h : Kind} {j f i : Forest} → 256 < v → v ≡ 256 + a.next → a.roots ≡ node h j f → least k a.last < first j
        → ItemsRead k vs (after_root a h j f) i z → ItemsRead k (v ∷ vs) a (node h j i) z

  abbrev pub at_record : Kind → ℕ → Known → Within
  at_record k r s = record { next = suc r; roots = s.roots; leaves = s.leaves; first = 0; last = 0; run = start k }

  abbrev pub known : Forest → List ℕ → Known
  known roots leaves = record { roots = roots; leaves = leaves }

  -- What is known when the records from r on are read: those that are used hold nodes, and those behind them are blank.
  pub data Behind (table : List ℕ) : ℕ → Known → Type 0 where
    none_read : Behind table 256 (known nil [])
    blank : {r : ℕ} → r < 256 → row_at table r ≡ blanks 257 → Behind table (suc r) (known nil []) → Behind table r (known nil [])
    a_node : {r : ℕ} {s : Known} {k : Kind} {vs : List ℕ} {i : Forest} {z : Within}
        → r < 256 → row_at table r ≡ kind_number k ∷ length vs ∷ padded 255 vs → fewest k ≤ length vs → length vs ≤ 255
        → Behind table (suc r) s → ItemsRead k vs (at_record k r s) i z → z.first < z.last → Behind table r (known (node k i z.roots) z.leaves)
