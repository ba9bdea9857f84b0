use mathlib.Core.Path.{◌≡◌}
use mathlib.Core.List.{◌++◌}
use lib.ListN.{drop}
use Rattle.spec_orders.specs.Lists.{numbers_from}
use Rattle.load_draws.proofs.number_places.Given as goal

abbrev pub invariant-loop-i : goal.invariant-loop-i
invariant-loop-i l = l.places ≡ numbers_from 1 l.i ++ drop l.i l.initial.places
