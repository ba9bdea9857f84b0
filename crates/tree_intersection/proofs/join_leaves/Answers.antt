use mathlib.Core.Path.{◌≡◌, refl, sym, ◌∙◌}
use native.Mathlib.Omega.{arith}
use lib.ListN.{take}
use Rattle.spec_orders.specs.Lists.{elem}
use Rattle.spec_orders.specs.Tree.{Forest, frontier}
use Rattle.spec_orders.specs.Join.{join}
use Rattle.mark_words.specs.Marks.{marked}
use Rattle.tree_tokens.specs.Tokens.{Judged, tree, encode, flat}
use Rattle.tree_update.proofs.Laws.{begins, read_part}
use Rattle.tree_update.proofs.Updates.{the_form, wrote_as}
use Rattle.tree_update.proofs.Joined.{Next, next-tree, no_tree}
use Rattle.tree_intersection.specs.Intersect.{impossible, grown}
use Rattle.tree_intersection.proofs.Marking.{list_joins}
use Rattle.tree_intersection.proofs.Growth.{growing_few, growing_begins, grows_as}
use Rattle.tree_intersection.proofs.join_leaves.Goals as goal

pub slice_bounds-join-end : goal.slice_bounds-join-end
slice_bounds-join-end c = omega (arith, growing_few c.requires.1, c.requires.1.long)

pub returns-in_err-m : goal.returns-in_err-m
returns-in_err-m c =
    let same : (j : Judged) (t : Forest) → c.args.toks.now ≡ encode j → take c.args.many c.args.into.now ≡ flat t
    → join (elem (frontier (tree j))) t ≡ join (marked c.mark_leaves.new.words) t = (λ j t e q. sym (list_joins (frontier (tree j)) c.mark_leaves.new.words (the_form _ _ c.requires.1.tree t q) c.requires.1.tree.3 (c.mark_leaves.ensures j e))) in
    rw c.from_residual.ensures (λ j t e q.
    grows_as (same j t e q ∙ no_tree t refl c.in_err-m.was (c.join.ensures t (read_part (growing_begins t c.requires.1 q)))) impossible)

pub returns : goal.returns
returns c =
    let same : (j : Judged) (t : Forest) → c.args.toks.now ≡ encode j → take c.args.many c.args.into.now ≡ flat t
    → join (elem (frontier (tree j))) t ≡ join (marked c.mark_leaves.new.words) t = (λ j t e q. sym (list_joins (frontier (tree j)) c.mark_leaves.new.words (the_form _ _ c.requires.1.tree t q) c.requires.1.tree.3 (c.mark_leaves.ensures j e))) in
    let after : (t : Forest) → take c.args.many c.args.into.now ≡ flat t → Next (marked c.mark_leaves.new.words) t c.join.new.out c.in_ok-m.m = (λ t q. next-tree t refl c.in_ok-m.was (c.join.ensures t (read_part (growing_begins t c.requires.1 q)))) in
    λ j t e q.
    let x = after t q in
    grows_as (same j t e q ∙ x.is) (grown (begins (wrote_as x.text c.copy.ensures)))
