use mathlib.Core.Path.{◌≡◌, refl}
use mathlib.Core.List.{map}
use native.Mathlib.Omega.{arith}
use lib.ListN.{take}
use Rattle.spec_orders.specs.Lists.{elem}
use Rattle.spec_orders.specs.Tree.{Forest}
use Rattle.spec_orders.specs.Join.{joins}
use Rattle.tree_tokens.specs.Tokens.{Judged, tree, flat}
use Rattle.tree_tokens.proofs.Steps.{Here, here, at_last, next_token, opened}
use Rattle.tree_intersection.specs.Intersect.{Grows, first_groups}
use Rattle.tree_intersection.proofs.Groups.{groups_split}
use Rattle.tree_intersection.proofs.Growth.{growing_more, joining_more, joining_none, joining_end}
use Rattle.tree_intersection.proofs.join_groups.Goals as goal

pub returns-in_err-k : goal.returns-in_err-k
returns-in_err-k c =
    let step : (k : Judged) → Here c.args.toks.now c.loop-i.i k → (u : Forest) → take c.loop-i.k c.loop-i.into ≡ flat u
    → Grows (joins (map elem (first_groups (tree k))) u) c.join_node.new.into c.join_node.result = (λ k p u q. c.join_node.ensures k u p.part q) in
    rw c.from_residual.ensures (λ j t e q.
    let r = here c.loop-i.invariant.1 (omega arith) j e in
    let k = r.0 in
    joining_none (first_groups (tree k)) (opened k) r.2 (groups_split k) (step k r.1) c.in_err-k.was t q)

pub loop-i-preserved : goal.loop-i-preserved
loop-i-preserved c =
    let step : (k : Judged) → Here c.args.toks.now c.loop-i.i k → (u : Forest) → take c.loop-i.k c.loop-i.into ≡ flat u
    → Grows (joins (map elem (first_groups (tree k))) u) c.join_node.new.into c.join_node.result = (λ k p u q. c.join_node.ensures k u p.part q) in
    let r = here c.loop-i.invariant.1 (omega arith) c.requires.0.0 c.requires.0.1 in
    let g = c.loop-i.invariant.0 in (
      growing_more (map elem (first_groups (tree r.0))) g.tree.0 g g.tree.1 c.join_node.auto.into c.in_ok-k.was (step r.0 r.1 g.tree.0 g.tree.1),
      next_token c.loop-i.invariant.1 (omega arith)
          (λ j k p q. joining_more (first_groups (tree k)) (opened k) q (groups_split k) (step k p) c.in_ok-k.was),
    )

pub returns : goal.returns
returns c = λ j t e q. joining_end c.loop-i.invariant.0 (at_last c.loop-i.invariant.1 (omega arith) j e) refl t q
