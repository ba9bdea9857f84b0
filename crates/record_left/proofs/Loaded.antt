-- A node table whose records were loaded to zeroed rows, as the calls on rows are lent it.
use mathlib.Core.Path.{◌≡◌, ap, ap₂, ◌∙◌}
use mathlib.Core.List.{List, ◌++◌}
use Prim.Native.Nat.{ℕ, ◌*◌}
use lib.ListN.{length, take, drop, replicate, length-replicate}
use native.Mathlib.Omega.{arith}
use Rattle.spec_orders.specs.declared.Layout.{Layout}
use Rattle.spec_calls.specs.Tables.{lent_nodes}
use Rattle.record_copy.specs.declared.Node.{Node}
use Rattle.record_copy.specs.Rows.{rows_of, zero_rows, node_rows}
use Rattle.record_left.specs.Records.{lent_records}

rows_loaded : (ns : List Node) {k : ℕ} → k ≡ 65792 → rows_of (take 256 ns) ++ drop (length (take 256 ns) * 257) (replicate k 0) ≡ node_rows ns
unfolding node_rows zero_rows
rows_loaded ns e = ap (λ (k : ℕ). rows_of (take 256 ns) ++ drop (length (take 256 ns) * 257) (replicate k 0)) e

pub loaded : (l : Layout) (n : ℕ) (ns : List Node) {have k : ℕ} {flat : List ℕ} → k ≡ 65792 → have ≡ length ns
    → flat ≡ rows_of (take 256 ns) ++ drop (length (take 256 ns) * 257) (replicate k 0) → lent_nodes l n have flat ≡ lent_records l n ns
loaded l n ns e h f = ap₂ (λ (have : ℕ) (flat : List ℕ). lent_nodes l n have flat) h (f ∙ rows_loaded ns e)

pub loaded_long : (ns : List Node) {k : ℕ} {flat : List ℕ} → k ≡ 65792 → length flat ≡ length (replicate {A = ℕ} k 0)
    → flat ≡ rows_of (take 256 ns) ++ drop (length (take 256 ns) * 257) (replicate k 0) → length (node_rows ns) ≡ 65792
loaded_long ns {k} e l f = omega (arith, ap length (f ∙ rows_loaded ns e), l, length-replicate {A = ℕ} k 0, e)
