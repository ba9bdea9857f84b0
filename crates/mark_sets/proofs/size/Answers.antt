use native.Mathlib.Omega.{arith}
use Rattle.mark_sets.proofs.Sizes.{four_words}
use Rattle.mark_sets.proofs.size.Goals as goal

pub returns : goal.returns
returns c = omega (arith, c.count.ensures.0, c.count-2.ensures.0, c.count-3.ensures.0, c.count-4.ensures.0, four_words _ _ _ _ c.well_formed.0.1 c.well_formed.1.0.1 c.well_formed.1.1.0.1 c.well_formed.1.1.1.0.1)
