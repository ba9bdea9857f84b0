use mathlib.Core.Path.{sym, ap, ◌∙◌}
use lib.ListN.{length}
use native.Mathlib.Omega.{arith}
use Rattle.spec_orders.specs.Tree.{Forest}
use Rattle.tree_tokens.specs.Tokens.{flat}
use Rattle.tree_update.proofs.Updates.{reduce_is, reduce-stays, judged_short, judged_form, judged_forks, reduced_short, wrote_as}
use Rattle.tree_update.proofs.rewrite.Goals as goal

pub stays-requires : goal.stays-requires
stays-requires c = let p = c.requires.0.3 in ((_, p.states), omega (arith, judged_short p, p.some_token))

pub copy-requires : goal.copy-requires
copy-requires c = omega (arith, judged_short c.requires.0.3)

pub returns-then-stays : goal.returns-then-stays
returns-then-stays c = λ S t u e j h. wrote_as (e ∙ ap (λ (f : Forest). flat f) (reduce-stays _ S t u (judged_form c.requires.0.3 e) h (sym c.if-stays.true ∙ c.stays.ensures _ j))) c.copy.ensures

pub reduced-t-requires : goal.reduced-t-requires
reduced-t-requires c =
    let p = c.requires.0.3 in (
      (_, p.states, judged_forks p, omega (arith, reduced_short p)),
      omega (arith, judged_short p, p.some_token),
      omega (arith, judged_short p),
      omega arith,
      omega arith,
    )

pub copy-requires-2 : goal.copy-requires-2
copy-requires-2 c = let p = c.requires.0.3 in omega (arith, ap length (c.reduced-t.ensures.1 _ p.states).held.text, reduced_short p, c.requires.1)

pub returns : goal.returns
returns c = λ S t u e j h. wrote_as ((c.reduced-t.ensures.1 _ j).held.text ∙ ap (λ (f : Forest). flat f) (reduce_is _ S t u (judged_form c.requires.0.3 e) h)) c.copy-2.ensures
