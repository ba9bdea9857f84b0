use mathlib.Core.Path.{◌≡◌}
use Prim.Native.Nat.{◌-◌}
use lib.ListN.{length}
use Rattle.spec_load.specs.TestLoad.{state_after, shuffled}
use Rattle.load_draws.proofs.shuffle.Given as goal

abbrev pub invariant-loop-i : goal.invariant-loop-i
invariant-loop-i l = (shuffled (length l.initial.places) l.initial.from.state l.initial.places ≡ shuffled l.i l.from.state l.places)
    × (state_after (length l.initial.places - 1) l.initial.from.state ≡ state_after (l.i - 1) l.from.state)
