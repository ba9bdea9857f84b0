-- What a ring holds, and the leaves of a group line.
use Rattle.std.specs.Prelude.{◌≡◌, List, map, ℕ, ◌≤◌, length, take}
use Rattle.spec_orders.specs.CircularOrder.{WellFormed}
use Rattle.spec_orders.specs.Form.{InForm}
use Rattle.spec_calls.specs.Tables.{lent_book}
use Rattle.spec_calls.specs.Book.{groups}
use Rattle.tree_tokens.specs.Tokens.{flat}
use Rattle.file_read.specs.RingFile.{leaves_on, FileHolds}
use Rattle.spec_listing.specs.Listing.{RingState, state_at}
use Rattle.list_ring.specs.declared.lent.Ring.{Ring}

-- The tables hold a ring of n leaves in the state s: its tree in the first m tokens, its groups in the book up to the count, and the input line of
-- each in a table.
pub record RingStands (n : ℕ) (s : RingState) (toks : List ℕ) (m : ℕ) (book table : List ℕ) (count : ℕ) : Type 0 where
  pub form : InForm n s.tree
  pub tokens : take m toks ≡ flat s.tree
  pub all_tokens : m ≤ length toks
  pub in_book : groups (lent_book book count) ≡ s.groups
  pub in_table : take count table ≡ s.lines
  pub counted : count ≡ length s.groups
  pub few : count ≤ 96

-- The tables of the ring r hold it so.
abbrev pub Stands : ℕ → RingState → Ring → Type 0
Stands n s r = RingStands n s r.toks.now r.tokens r.book.now r.table.now r.count

-- The ring r' has the tables that were lent to the ring r.
abbrev pub SameTables : Ring → Ring → Type 0
SameTables r r' = (r'.toks.ghost_name ≡ r.toks.ghost_name) × (r'.book.ghost_name ≡ r.book.ghost_name) × (r'.table.ghost_name ≡ r.table.ghost_name)

-- The leaves of a group line: a group of a ring with n leaves, at most 256.
pub record Line (n : ℕ) (list : List ℕ) : Type 0 where
  pub few_leaves : n ≤ 256
  pub group : WellFormed n list

-- The groups of an accepted file, in the sequence of its lines.
abbrev pub lists_of : {x : List ℕ} {n h l : ℕ} → FileHolds x n h l → List (List ℕ)
lists_of f = map leaves_on f.vss

-- The ring r is that after the first l group lines of the file.
abbrev pub StandsAt : {x : List ℕ} {n h k : ℕ} → FileHolds x n h k → ℕ → Ring → Type 0
StandsAt {n = n} f l r = Stands n (state_at n (lists_of f) l) r

-- The tables are long enough for any ring.
abbrev pub Tables : List ℕ → List ℕ → List ℕ → Type 0
Tables toks book table = (512 ≤ length toks) × (384 ≤ length book) × (96 ≤ length table)
