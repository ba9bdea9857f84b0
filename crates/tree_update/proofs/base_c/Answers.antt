use mathlib.Core.Path.{ap}
use Prim.Native.Nat.{◌≤◌}
use native.Mathlib.Omega.{arith}
use lib.ListN.{length}
use Rattle.tree_tokens.proofs.Writes.{read_part}
use Rattle.tree_judge.specs.Total.{c_node_of, middle_of, totals}
use Rattle.tree_pieces.proofs.Laws.{c_node-length}
use Rattle.tree_laid.proofs.Laws.{c_one, written_at, laid_at}
use Rattle.tree_update.proofs.base_c.Goals as goal

pub begun-requires : goal.begun-requires
begun-requires c =
    let few : c.c_node-e.result ≤ 512 = (let w = c.middle-m.ensures c.requires.0.0 c.requires.0.1 in
    omega (arith, (c.c_node-e.ensures (middle_of (totals c.requires.0.0)) (read_part w)).many, c_node-length (middle_of (totals c.requires.0.0)), c.requires.0.2)) in
    let w = c.c_node-e.ensures (middle_of (totals c.requires.0.0)) (read_part (c.middle-m.ensures c.requires.0.0 c.requires.0.1)) in
    let h = written_at c.args.buf.now (omega (arith, c.requires)) w in
    ((_, h.text), omega (arith, ap length h.text, w.many, few))

pub returns : goal.returns
returns c = (
  (laid_at (c_node_of (middle_of (totals c.requires.0.0))) (written_at c.args.buf.now (omega (arith, c.requires)) (c.c_node-e.ensures (middle_of (totals c.requires.0.0)) (read_part (c.middle-m.ensures c.requires.0.0 c.requires.0.1)))) (c_one (middle_of (totals c.requires.0.0))) c.begun.ensures).0,
  λ j e. (laid_at (c_node_of (middle_of (totals j))) (written_at c.args.buf.now (omega (arith, c.requires)) (c.c_node-e.ensures (middle_of (totals j)) (read_part (c.middle-m.ensures j e)))) (c_one (middle_of (totals j))) c.begun.ensures).1,
)
