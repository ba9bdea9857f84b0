use mathlib.Core.Path.{ap}
use Prim.Native.Nat.{◌+◌, ◌≤◌, ◌/◌}
use native.Mathlib.Omega.{arith}
use lib.ListN.{length, length-append}
use Rattle.spec_orders.specs.TreeText.{digits}
use Rattle.spec_orders.proofs.Digits.{digits-one, digits_step}
use Rattle.tree_tokens.proofs.Writes.{wrote_one, wrote_byte}
use Rattle.byte_write.proofs.+write_number.Goals as goal

pub bounds-out-0 : goal.bounds-out-0
bounds-out-0 t c = omega (arith, c.requires, ap length (digits-one c.args.v c.if-v-lt10.true))

pub returns-then-v-lt10 : goal.returns-then-v-lt10
returns-then-v-lt10 t c = rw (digits-one c.args.v c.if-v-lt10.true) (wrote_one _ _ (bounds-out-0 t c))

pub write_number-k-requires : goal.write_number-k-requires
write_number-k-requires t c =
    let write-number-room : length (digits (c.args.v / 10)) + 1 ≤ length c.args.out.now = (omega (arith, c.requires, simp length-append at (ap length (digits_step c.args.v (omega (arith, c.if-v-lt10.false)))))) in
    (omega (arith, c.if-v-lt10.false), omega (arith, write-number-room))

pub bounds-out-k : goal.bounds-out-k
bounds-out-k t c =
    let write-number-room : length (digits (c.args.v / 10)) + 1 ≤ length c.args.out.now = (omega (arith, c.requires, simp length-append at (ap length (digits_step c.args.v (omega (arith, c.if-v-lt10.false)))))) in
    omega (arith, write-number-room, c.write_number-k.ensures.many, c.write_number-k.auto.out)

pub returns : goal.returns
returns t c =
    let write-number-room : length (digits (c.args.v / 10)) + 1 ≤ length c.args.out.now = (omega (arith, c.requires, simp length-append at (ap length (digits_step c.args.v (omega (arith, c.if-v-lt10.false)))))) in
    rw (digits_step c.args.v (omega (arith, c.if-v-lt10.false))) (wrote_byte _ c.write_number-k.ensures (omega (arith, write-number-room)))
