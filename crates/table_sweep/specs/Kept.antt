-- What the 265 numbers of `work` hold, and what each step of the sweep says of them.
use Rattle.std.specs.Prelude.{◌≡◌, ◌≢◌, ◌⊎◌, Option, Some, None, List, [], ◌∷◌, ℕ, suc, ◌+◌, ◌-◌, ◌*◌, ◌≤◌, ◌<◌, ◌/◌, ◌%◌, length, get_or, take, drop, set, replicate}
use Rattle.std.proofs.Math.Option.{none, some}
use Rattle.spec_orders.specs.Lists.{elem}
use Rattle.spec_orders.specs.CircularOrder.{Restriction}
use Rattle.spec_orders.specs.Tree.{Kind, P, C, Forest, nil, leaf, node}
use Rattle.spec_orders.specs.Form.{first, fewest, nodes}
use Rattle.spec_orders.specs.Reduce.{reduce}
use Rattle.mark_words.specs.Marks.{marked, words_of}
use Rattle.spec_calls.specs.Tables.{padded}
use Rattle.spec_calls.specs.NodeTable.{kind_number, tree_in}
use Rattle.tree_tokens.specs.Tokens.{number}
use Rattle.tree_judge.specs.Judge.{leaf_state, node_state, states, judge}
use Rattle.tree_judge.specs.Automaton.{code}
use Rattle.table_sweep.specs.declared.Item.{Item}
use Rattle.table_sweep.specs.declared.NodeKind.{NodeKind}
use Rattle.table_sweep.specs.declared.NodeKind.TheVariants as kinds
use Rattle.table_sweep.specs.declared.Row.{Row}
use Rattle.table_sweep.specs.declared.Verdict.{Verdict}
use Rattle.table_sweep.specs.declared.Verdict.TheVariants.{NoTree, Impossible, Possible}
use Rattle.table_reading.specs.Reading.{Known, Within, New, known, at_record, ItemsRead, Behind}

-- In what follows: S the restriction; work the 265 numbers; x the record of the next root, g the roots from there on, ls the leaves read, the last
-- one first; c an item's first leaf, m how many records it takes, s the number of its state; d the first leaf of a node's last item, q where its
-- items take the automaton.

-- The number of a root: its first leaf, how many records it takes, its state.
unfoldable pub packed : ℕ → ℕ → ℕ → ℕ
packed b m s = b + 512 * (m + 512 * s)

-- The state in such a number.
abbrev pub state_in : ℕ → ℕ
state_in w = w / 262144 % 5

-- The nodes of a sequence stand in the records from x on: the state of each is in its place, roots and those below them.
unfoldable pub Labels : Restriction → List ℕ → ℕ → Forest → Type 0
Labels S work x nil = Unit {0}
Labels S work x (leaf b f) = Labels S work x f
Labels S work x (node k i f) =
    (state_in (get_or work (8 + x) 0) ≡ number (node_state k (states (judge S i)))) × Labels S work (suc x) i × Labels S work (suc x + nodes i) f

-- The roots from record x on, each in its place.
unfoldable pub Roots : Restriction → List ℕ → ℕ → Forest → Type 0
Roots S work x nil = Unit {0}
Roots S work x (leaf b f) = ⊥
Roots S work x (node k i f) =
    (get_or work (8 + x) 0 ≡ packed (first i) (suc (nodes i)) (number (node_state k (states (judge S i))))) × (first i ≤ 511) × Labels S work (suc x) i
    × Roots S work (suc x + nodes i) f

-- The marks of the restriction, those of the leaves read, and the roots, all in records up to the last.
pub record Kept (S : Restriction) (work : List ℕ) (x : ℕ) (g : Forest) (ls : List ℕ) : Type 0 where
  pub long : length work ≡ 265
  pub side : (b : ℕ) → 1 ≤ b → b ≤ 256 → marked (take 4 (drop 0 work)) b ≡ S b
  pub seen : take 4 (drop 4 work) ≡ words_of 4 (elem ls)
  pub roots : Roots S work x g
  pub low : x + nodes g ≤ 256

-- Within a record: the records that are used end behind the roots.
pub record Inside (S : Restriction) (work : List ℕ) (x : ℕ) (g : Forest) (ls : List ℕ) : Type 0 where
  pub kept : Kept S work x g ls
  pub used : get_or work 264 0 ≡ x + nodes g

-- What is kept of the records stays.
abbrev pub SameRecords : List ℕ → List ℕ → Type 0
SameRecords old new = (j : ℕ) → 8 ≤ j → get_or new j 0 ≡ get_or old j 0

-- The kind of a node in the tree; what the number of a record's kind says.
abbrev pub tree_kind : NodeKind → Kind
tree_kind kinds.P = P
tree_kind kinds.C = C

abbrev pub KindSays : ℕ → Option NodeKind → Type 0
KindSays m (Some k) = m ≡ kind_number (tree_kind k)
KindSays m None = (k : Kind) → m ≡ kind_number k → ⊥

-- An item's numbers are small, whatever `work` holds.
abbrev pub Small : Option Item → Type 0
Small (Some o) = (o.first ≤ 511) × (o.records ≤ 511) × (o.state ≤ 4)
Small None = Unit {0}

-- What reading a leaf says; a root; an entry. None: there is nothing to be read.
abbrev pub LeafSays : ℕ → Restriction → ℕ → Forest → List ℕ → ℕ → List ℕ → Option Item → Type 0
LeafSays n S x g ls b work (Some o) = (New n ls b) × (o.first ≡ b) × (o.records ≡ 0) × (o.state ≡ number (leaf_state (S b))) × Inside S work x g (b ∷ ls)
LeafSays n S x g ls b work None = New n ls b → ⊥

pub record RootIs (S : Restriction) (g : Forest) (c m s : ℕ) : Type 0 where
  pub kind : Kind
  pub items : Forest
  pub rest : Forest
  pub is : g ≡ node kind items rest
  pub its_first : c ≡ first items
  pub its_records : m ≡ suc (nodes items)
  pub its_state : s ≡ number (node_state kind (states (judge S items)))

abbrev pub RootSays : Restriction → Forest → Option Item → Type 0
RootSays S g (Some o) = RootIs S g o.first o.records o.state
RootSays S g None = g ≡ nil

abbrev pub EntrySays : ℕ → Restriction → ℕ → Forest → List ℕ → ℕ → List ℕ → Option Item → Type 0
EntrySays n S x g ls v work (Some o) =
    ((v ≤ 256) × LeafSays n S x g ls v work (Some o)) ⊎ ((256 < v) × (v ≡ 256 + x) × RootIs S g o.first o.records o.state × Inside S work x g ls)
EntrySays n S x g ls v work None = (v ≤ 256 → New n ls v → ⊥) × (256 < v → v ≡ 256 + x → g ≡ nil)

-- What reading the entries of a record says.
pub record RowIs (n : ℕ) (S : Restriction) (k : Kind) (r : ℕ) (g : Forest) (ls places work : List ℕ) (c d x q : ℕ) : Type 0 where
  pub items : Forest
  pub end : Within
  pub reads : ItemsRead n S k places (at_record n S k r (known n S g ls)) items end
  pub its_first : c ≡ end.first
  pub its_last : d ≡ end.last
  pub its_next : x ≡ end.next
  pub its_run : q ≡ code end.run
  pub labels : Labels S work (suc r) items
  pub inside : Inside S work end.next end.roots end.leaves

abbrev pub RowSays : ℕ → Restriction → Kind → ℕ → Forest → List ℕ → List ℕ → List ℕ → Option Row → Type 0
RowSays n S k r g ls places work (Some o) = RowIs n S k r g ls places work o.first o.last o.next o.run
RowSays n S k r g ls places work None = (i : Forest) (z : Within) → ItemsRead n S k places (at_record n S k r (known n S g ls)) i z → ⊥

-- Its numbers are small: 255 items take at most 511 records each.
abbrev pub RowSmall : ℕ → Option Row → Type 0
RowSmall r (Some o) = (r < o.next) × (o.next ≤ 200000) × (o.run < 17) × (o.first ≤ 511)
RowSmall r None = Unit {0}

-- What reading a node's record says, once the number to keep is in its place.
pub record NodeIs (n : ℕ) (S : Restriction) (r kind count : ℕ) (places : List ℕ) (g : Forest) (ls work : List ℕ) : Type 0 where
  pub its_kind : Kind
  pub entries : List ℕ
  pub items : Forest
  pub end : Within
  pub kind_is : kind ≡ kind_number its_kind
  pub count_is : count ≡ length entries
  pub places_are : places ≡ padded 255 entries
  pub enough : fewest its_kind ≤ length entries
  pub most : length entries ≤ 255
  pub reads : ItemsRead n S its_kind entries (at_record n S its_kind r (known n S g ls)) items end
  pub rises : end.first < end.last
  pub inside : Inside S work r (node its_kind items end.roots) end.leaves

abbrev pub NodeSays : ℕ → Restriction → ℕ → ℕ → ℕ → List ℕ → Forest → List ℕ → List ℕ → Option ℕ → Type 0
NodeSays n S r kind count places g ls work (Some w) = NodeIs n S r kind count places g ls (set work (8 + r) w)
NodeSays n S r kind count places g ls work None =
    (k : Kind) (vs : List ℕ) (i : Forest) (z : Within) → kind ≡ kind_number k → count ≡ length vs → places ≡ padded 255 vs → fewest k ≤ length vs → length vs ≤ 255
    → ItemsRead n S k vs (at_record n S k r (known n S g ls)) i z → z.first < z.last → ⊥

-- The record was no node's, and this is noted; or it is kept.
abbrev pub Finished : ℕ → Restriction → ℕ → ℕ → ℕ → List ℕ → Forest → List ℕ → List ℕ → Type 0
Finished n S r kind count places g ls work =
    (NodeIs n S r kind count places g ls work) ⊎ ((length work ≡ 265) × (get_or work 264 0 ≡ 257) × NodeSays n S r kind count places g ls work None)

-- The records from r on are read: they are those of no tree; all are blank; or roots are known.
pub data Swept (n : ℕ) (S : Restriction) (table : List ℕ) (r : ℕ) (work : List ℕ) : Type 0 where
  lost : length work ≡ 265 → get_or work 264 0 ≡ 257 → ((s : Known) → Behind n S table r s → ⊥) → Swept n S table r work
  all_blank : Kept S work r nil [] → get_or work 264 0 ≡ 0 → Behind n S table r (known n S nil []) → Swept n S table r work
  roots_known : {k : Kind} {i f : Forest} {ls : List ℕ} → Inside S work r (node k i f) ls
      → Behind n S table r (known n S (node k i f) ls) → Swept n S table r work

-- The records from r on are blank. Nothing is read yet.
unfoldable pub Blank : List ℕ → ℕ → Type 0
Blank table r = (r ≤ 256) × (drop (257 * r) (take 65792 table) ≡ replicate (65792 - 257 * r) 0)

unfoldable pub Started : ℕ → Restriction → List ℕ → Type 0
Started n S work = (table : List ℕ) (r : ℕ) → Blank table r → Swept n S table r work

-- The verdict: the table holds no tree; or it holds one, which can't be reduced by the restriction, or can.
abbrev pub Told : ℕ → Restriction → List ℕ → Verdict → Type 0
Told n S table NoTree = tree_in n table ≡ none
Told n S table Impossible = (t : Forest) × (tree_in n table ≡ some t) × (reduce S t ≡ none)
Told n S table Possible = (t : Forest) × (tree_in n table ≡ some t) × (reduce S t ≢ none)
