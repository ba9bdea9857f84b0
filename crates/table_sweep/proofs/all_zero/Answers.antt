use mathlib.Core.Path.{◌≡◌}
use lib.Bits.{bit_or}
use Rattle.std.proofs.Common.{rules}
use Rattle.std.specs.List.{fold}
use Rattle.table_sweep.proofs.Zeros.{zero_bits}
use Rattle.table_sweep.proofs.all_zero.Goals as goal

pub returns : goal.returns
returns c =
    let e : c.fold.result ≡ fold bit_or 0 c.args.part.now = search rules in
    rw e (zero_bits c.args.part.now)
