use mathlib.Core.Path.{refl, sym, ap, ◌∙◌}
use mathlib.Core.Bool.{true≢false}
use Prim.Native.Nat.{◌≤◌}
use native.Mathlib.Omega.{arith}
use mir.Val.{bool_byte as from_bool}
use Rattle.table_sweep.proofs.Keeping.{same_records, leaf_kept, leaf_read, leaf_number, bit_small}
use Rattle.table_sweep.proofs.read_leaf.Goals as goal

pub returns-then-test : goal.returns-then-test
returns-then-test c = (tt, (λ j l. refl), λ S x g ls k w. true≢false (sym c.if-test.true ∙ c.test.ensures ∙ leaf_read c.args.n c.args.b k w.low c.requires.0 ∙ w.unread))

pub returns : goal.returns
returns c = (
  (omega arith, omega arith, omega (arith, c.from.ensures, bit_small c.test-2.result)),
  same_records c.args.work.now c.set.new.words c.requires.1 c.set.auto.words,
  λ S x g ls k.
      let z = leaf_kept c.args.b c.set.new.words k c.set.ensures in
      let low : 2 ≤ c.args.b = omega arith in (
        record { low = low; high = omega arith; unread = sym (leaf_read c.args.n c.args.b k low c.requires.0) ∙ sym c.test.ensures ∙ c.if-test.false },
        refl,
        refl,
        c.from.ensures ∙ ap from_bool (c.test-2.ensures ∙ z.kept.side c.args.b (omega arith) c.requires.0) ∙ leaf_number (S c.args.b),
        z,
      ),
)
