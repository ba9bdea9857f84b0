use mathlib.Core.Path.{◌≡◌, subst, ◌∙◌}
use Prim.Native.Nat.{◌+◌, ◌-◌, ◌*◌}
use native.Mathlib.Omega.{arith}
use lib.ListN.{length, take, drop}
use Rattle.mark_words.specs.Marks.{marked}
use Rattle.conflict_leaves.specs.StandIn.{Below}
use Rattle.conflict_leaves.proofs.Choice.{first_below, second_below, part_numbered, one_more_below}
use Rattle.conflict_leaves.proofs.add_book.Goals as goal

pub loop-k-preserved : goal.loop-k-preserved
loop-k-preserved c =
    let more = take (4 * c.loop-k.k + 4 - 4 * c.loop-k.k) (drop (4 * c.loop-k.k) c.args.book.now) in
    let w : length c.loop-k.words ≡ length more = c.loop-k.invariant.1 ∙ omega (arith, c.add-arg-in-loop-k-1.given, c.requires.1) in
    let a = first_below c.loop-k.words more c.add.new.words w c.add.ensures in
    let b = second_below c.loop-k.words more c.add.new.words w c.add.ensures in (
      omega arith,
      c.add.auto.words ∙ c.loop-k.invariant.1,
      λ x e. a x (c.loop-k.invariant.2 x e),
      one_more_below c.loop-k.invariant.3 a (subst (λ G. Below G (marked c.add.new.words)) (part_numbered c.args.book.now c.loop-k.k) b),
    )
