-- A record as a row of 257 numbers: its kind, its count and its 255 items (docs/NODE-TABLE.md).
use Rattle.std.specs.Prelude.{ℕ, zero, suc, ◌+◌, ◌*◌, ◌%◌, ◌<◌, ◌≡◌, List, [], ◌∷◌, ◌++◌, length, get_or, take, drop, replicate}
use Rattle.record_copy.specs.declared.Node.{Node}

abbrev pub zero_node : Node
zero_node = record { kind = 0; count = 0; items = [] }

-- One record's row.
abbrev pub row_of : Node → List ℕ
row_of n = n.kind ∷ n.count ∷ n.items

-- The rows of a list of records, one after the other.
unfoldable pub rows_of : List Node → List ℕ
rows_of [] = []
rows_of (n ∷ ns) = row_of n ++ rows_of ns

-- A list with row `at` replaced.
unfoldable pub put_row : List ℕ → ℕ → List ℕ → List ℕ
put_row l at row = take (at * 257) l ++ (row ++ drop (at * 257 + 257) l)

-- The record that row `at` is.
unfoldable pub node_at : List ℕ → ℕ → Node
node_at l at = record { kind = get_or l (at * 257) 0 % 256; count = get_or l (at * 257 + 1) 0; items = take 255 (drop (at * 257 + 2) l) }

-- The records of the first rows.
unfoldable pub nodes_of : List ℕ → ℕ → List Node
nodes_of l zero = []
nodes_of l (suc i) = nodes_of l i ++ (node_at l i ∷ [])

-- n zeros.
unfoldable pub zero_rows : ℕ → List ℕ
zero_rows n = replicate n 0

-- The node table in the records: the rows of the first 256, and zeros where there are fewer.
unfoldable pub node_rows : List Node → List ℕ
node_rows ns = rows_of (take 256 ns) ++ drop (length (take 256 ns) * 257) (zero_rows 65792)

-- The records with a node table stored in them: the first 256 are those of its rows, and the rest is as it was.
unfoldable pub with_rows : List ℕ → List Node → List Node
with_rows l ns = nodes_of l (length (take 256 ns)) ++ drop 256 ns

-- Each record is a value of its type.
unfoldable pub Sound : List Node → Type 0
Sound [] = Unit {0}
Sound (n ∷ ns) = ((n.kind < 256) × (length n.items ≡ 255)) × Sound ns
