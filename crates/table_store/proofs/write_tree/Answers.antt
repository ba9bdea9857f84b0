use native.Mathlib.Omega.{arith}
use Rattle.tree_tokens.specs.Tokens.{plain}
use Rattle.tree_tokens.proofs.Writes.{read_part}
use Rattle.table_store.proofs.Forms.{formed_short, formed_rowed, plain_rows}
use Rattle.table_store.proofs.write_tree.Goals as goal

pub write_records-m-requires : goal.write_records-m-requires
write_records-m-requires c = omega (arith, formed_short c.requires.0.1)

pub write_rows-requires : goal.write_rows-requires
write_rows-requires c = (formed_rowed c.requires.0.1 (read_part c.write_records-m.ensures), c.requires.1)

pub returns : goal.returns
returns c = λ t e. plain_rows t (c.write_rows.ensures (plain t) e)
