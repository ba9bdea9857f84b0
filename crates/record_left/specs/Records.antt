-- A node table lent as a slice of records, and what a call leaves of them.
-- Document 01: a refusal leaves "every table" as it was, and "entries past a table's stated size are never touched".
use Rattle.std.specs.Prelude.{◌≡◌, ◌≢◌, List, ℕ, length, drop}
use Rattle.spec_orders.specs.declared.Layout.{Layout}
use Rattle.spec_calls.specs.Tables.{Nodes, lent_nodes}
use Rattle.spec_calls.specs.Refusals.{Reply}
use Rattle.record_copy.specs.declared.Node.{Node}
use Rattle.record_copy.specs.Rows.{node_rows, with_rows}

abbrev pub lent_records : Layout → ℕ → List Node → Nodes
lent_records layout n nodes = lent_nodes layout n (length nodes) (node_rows nodes)

-- The records after a call that returns this: those of its node table, and past the 256th the old ones.
pub record Left (old new : List Node) (said : Reply) : Type 0 where
  pub refused : said.number ≢ 0 → new ≡ old
  pub stored : new ≡ with_rows (node_rows new) old
  pub past : drop 256 new ≡ drop 256 old
