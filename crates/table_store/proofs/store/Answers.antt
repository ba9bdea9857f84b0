use native.Mathlib.Omega.{arith}
use Rattle.table_row.specs.Rows.{blank}
use Rattle.table_store.proofs.Forms.{formed_rows, formed_few, blank_zeros, wrote_table, over_zeros}
use Rattle.tree_tokens.proofs.Writes.{wrote_none, wrote_filled}
use Rattle.table_store.proofs.store.Goals as goal

pub write_tree-requires : goal.write_tree-requires
write_tree-requires c = (c.requires.0, blank (blank_zeros 65792 (wrote_filled 65792 (wrote_none c.args.table.now) c.requires.1 (c.fill.ensures.after (λ y h. h)))))

pub returns : goal.returns
returns c =
    λ t e.
    let f = c.requires.0.1 in
    let z = wrote_filled 65792 (wrote_none c.args.table.now) c.requires.1 (c.fill.ensures.after (λ y h. h)) in
    over_zeros f t e z
    (wrote_table t (omega (arith, formed_rows f t e, formed_few f t e)) (blank_zeros 65792 z) (c.write_tree.ensures t e))
