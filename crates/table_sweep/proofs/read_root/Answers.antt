use native.Mathlib.Omega.{arith}
use Rattle.table_sweep.proofs.Keeping.{no_root, root_read}
use Rattle.table_sweep.proofs.read_root.Goals as goal
use Rattle.table_sweep.proofs.read_root.Goals.{then-next-gt255-via-then-next-gt255, then-next-gt255-via-else-next-gt255+then-work-next}

pub returns-then-next-gt255 : goal.returns-then-next-gt255
returns-then-next-gt255 c = (
  tt,
  λ S g ls k. elim c.then-next-gt255.branch [
    | then-next-gt255-via-then-next-gt255 w ↦ no_root g k (omega (arith, k.used, k.kept.low))
    | then-next-gt255-via-else-next-gt255+then-work-next w ↦ no_root g k (omega arith)
  ],
)

pub returns : goal.returns
returns c = ((omega arith, omega arith, omega arith), λ S g ls k. root_read g k (omega arith))
