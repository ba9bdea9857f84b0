use mathlib.Core.Path.{ap}
use Prim.Native.Nat.{◌≤◌}
use native.Mathlib.Omega.{arith}
use lib.ListN.{length}
use Rattle.tree_tokens.proofs.Writes.{read_part}
use Rattle.tree_judge.specs.Total.{totals}
use Rattle.tree_pieces.specs.Writers.{gathered}
use Rattle.tree_laid.proofs.Laws.{written_at, laid_at}
use Rattle.tree_update.specs.Update.{placed_again}
use Rattle.tree_update.proofs.Laws.{placed_ge}
use Rattle.tree_update.proofs.OneItem.{placed_one}
use Rattle.tree_update.proofs.base_p.Goals as goal

pub gather-m-requires : goal.gather-m-requires
gather-m-requires c = ((_, c.requires.0.1, omega (arith, c.requires.0.2, placed_ge c.requires.0.0, c.requires), omega (arith, c.requires.0.2, placed_ge c.requires.0.0, c.requires)), c.requires.2, omega (arith, c.requires), omega (arith, c.requires), c.requires.3)

pub begun-requires : goal.begun-requires
begun-requires c =
    let few : c.among-e.result ≤ 512 = (omega (arith, (c.among-e.ensures c.requires.0.0 (gathered (totals c.requires.0.0)) c.requires.0.1 (read_part (c.gather-m.ensures c.requires.0.0 c.requires.0.1))).many, c.requires.0.2)) in
    let w = c.among-e.ensures c.requires.0.0 (gathered (totals c.requires.0.0)) c.requires.0.1 (read_part (c.gather-m.ensures c.requires.0.0 c.requires.0.1)) in
    let h = written_at c.gather-m.new.tmp (omega (arith, c.gather-m.auto.tmp, c.requires)) w in
    ((_, h.text), omega (arith, ap length h.text, w.many, few))

pub returns : goal.returns
returns c = (
  (laid_at (placed_again c.requires.0.0) (written_at c.gather-m.new.tmp (omega (arith, c.gather-m.auto.tmp, c.requires)) (c.among-e.ensures c.requires.0.0 (gathered (totals c.requires.0.0)) c.requires.0.1 (read_part (c.gather-m.ensures c.requires.0.0 c.requires.0.1))))
      (placed_one c.requires.0.0 (omega (arith, ap length c.requires.0.1, c.requires.1)) (c.requires.3 c.requires.0.0 c.requires.0.1)) c.begun.ensures).0,
  λ j e. (laid_at (placed_again j) (written_at c.gather-m.new.tmp (omega (arith, c.gather-m.auto.tmp, c.requires)) (c.among-e.ensures j (gathered (totals j)) e (read_part (c.gather-m.ensures j e))))
      (placed_one j (omega (arith, ap length e, c.requires.1)) (c.requires.3 j e)) c.begun.ensures).1,
)
