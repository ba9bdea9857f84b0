use mathlib.Core.Path.{sym, ◌∙◌}
use native.Mathlib.Omega.{arith}
use Rattle.std.proofs.lemmas.Bool.Decides.{Decides-eqb}
use Rattle.std.proofs.lemmas.Slice.Eq.{slice_eq-Decides}
use Rattle.tree_tokens.proofs.Sequences.{flat_injective}
use Rattle.spec_calls.proofs.NodeTables.{over-same}
use Rattle.table_store.proofs.Standing.{held_there}
use Rattle.table_store.proofs.Forms.{new_rows, old_rows, rows-then_zeros}
use Rattle.table_store.proofs.replace.Goals as goal

pub write_tree-k-requires : goal.write_tree-k-requires
write_tree-k-requires c = let p = c.requires in ((p.0, p.4), held_there p.1 p.4.few_leaves p.2)

pub overflow_sub-k : goal.overflow_sub-k
overflow_sub-k c = let f = c.requires.4 in omega (arith, new_rows f (c.write_tree-k.ensures f.shown f.is))

pub erase_rows-requires : goal.erase_rows-requires
erase_rows-requires c =
    let p = c.requires in
    let f = p.4 in
    old_rows f (c.write_tree-k.ensures f.shown f.is) (held_there p.1 f.few_leaves p.2)

pub returns : goal.returns
returns c = λ t e. rows-then_zeros t (c.write_tree-k.ensures t e) c.erase_rows.ensures

pub returns-then-eq : goal.returns-then-eq
returns-then-eq c =
    λ t e.
    let p = c.requires in
    let same = (slice_eq-Decides Decides-eqb _ _ _ c.eq.ensures).0 c.if-eq.true in
    rw (flat_injective t p.1 (sym e ∙ sym same ∙ p.3)) (sym (over-same p.0 p.1 c.args.table.now p.4.few_leaves p.2))
