use mathlib.Core.Path.{◌≡◌, ◌∙◌}
use lib.ListN.{length}
use native.Mathlib.Omega.{arith}
use Rattle.conflict_leaves.proofs.Choice.{chosen}
use Rattle.conflict_leaves.proofs.choose.Goals as goal

pub returns : goal.returns
returns c =
    let four : length c.add_book.new.words ≡ 4 = c.add_book.auto.words ∙ c.requires.0 in
    chosen c.add_book.new.words c.set.new.words (omega (arith, four)) (omega (arith, four, c.requires.2)) c.add_book.ensures.0 c.add_book.ensures.1 c.first_unmarked-first.ensures c.set.ensures
