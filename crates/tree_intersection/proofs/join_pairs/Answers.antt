use mathlib.Core.Path.{◌≡◌, refl, ◌∙◌}
use mathlib.Core.List.{[], ◌∷◌, map}
use Prim.Native.Nat.{◌+◌, ◌-◌, ◌<◌}
use native.Mathlib.Omega.{arith}
use lib.ListN.{length, take, drop}
use Rattle.spec_orders.specs.Lists.{elem}
use Rattle.spec_orders.specs.Tree.{Forest, frontier}
use Rattle.spec_orders.specs.Join.{joins}
use Rattle.tree_tokens.specs.Tokens.{Judged, tree, encode, flat}
use Rattle.tree_tokens.specs.Views.{rest_of}
use Rattle.tree_tokens.proofs.Laws.{at_end, sizes}
use Rattle.tree_tokens.proofs.Steps.{Here, here, at_last, next_item}
use Rattle.tree_intersection.specs.Intersect.{Grows}
use Rattle.tree_intersection.proofs.Groups.{two, item_pairs_none, item_pairs_more, part_behind, part_two}
use Rattle.tree_intersection.proofs.Growth.{grows_as, joins-one, growing_more, joining_more, joining_none, joining_end}
use Rattle.tree_intersection.proofs.join_pairs.Goals as goal

pub returns-then-j-toks : goal.returns-then-j-toks
returns-then-j-toks c = λ j t e q.
    let r = here c.loop-i.invariant.3 (omega arith) j e in
    let k = r.0 in
    let none = at_end (rest_of k) refl (omega (arith, c.if-j-toks.true, c.size.ensures.2 k r.1.part, sizes k r.1.part)) in
    joining_end c.loop-i.invariant.2 r.2 (item_pairs_none k none) t q

pub size-requires-in-loop-i : goal.size-requires-in-loop-i
size-requires-in-loop-i c =
    let r = here c.loop-i.invariant.3 (omega arith) c.requires.0.0 c.requires.0.1 in
    ((_, part_behind r.1 (c.size.ensures.2 r.0 r.1.part)), omega (arith, c.if-j-toks.false, c.size.ensures.1))

pub join_leaves-requires : goal.join_leaves-requires
join_leaves-requires c =
    let part : (k : Judged) → Here c.args.toks.now c.loop-i.i k
    → take (c.loop-i.i + c.size.result + c.size-in-loop-i.result - c.loop-i.i) (drop c.loop-i.i c.args.toks.now) ≡ encode (two k) = (λ k p. let m = c.size.ensures.2 k p.part in
    part_two p m (c.size-in-loop-i.ensures.2 (rest_of k) (part_behind p m))) in
    let r = here c.loop-i.invariant.3 (omega arith) c.requires.0.0 c.requires.0.1 in
    ((_, part r.0 r.1), c.loop-i.invariant.2)

pub returns-in_err-k : goal.returns-in_err-k
returns-in_err-k c =
    let more : (k : Judged) → Here c.args.toks.now c.loop-i.i k → 0 < length (encode (rest_of k)) = (λ k p. omega (arith, c.if-j-toks.false, c.size.ensures.1, c.size.ensures.2 k p.part, sizes k p.part)) in
    let part : (k : Judged) → Here c.args.toks.now c.loop-i.i k
    → take (c.loop-i.i + c.size.result + c.size-in-loop-i.result - c.loop-i.i) (drop c.loop-i.i c.args.toks.now) ≡ encode (two k) = (λ k p. let m = c.size.ensures.2 k p.part in
    part_two p m (c.size-in-loop-i.ensures.2 (rest_of k) (part_behind p m))) in
    let step : (k : Judged) → Here c.args.toks.now c.loop-i.i k → (u : Forest) → take c.loop-i.k c.loop-i.into ≡ flat u
    → Grows (joins (map elem (frontier (tree (two k)) ∷ [])) u) c.join_leaves.new.into c.join_leaves.result = (λ k p u q. grows_as (joins-one (elem (frontier (tree (two k)))) u) (c.join_leaves.ensures (two k) u (part k p) q)) in
    rw c.from_residual.ensures (λ j t e q.
    let r = here c.loop-i.invariant.3 (omega arith) j e in
    let k = r.0 in
    joining_none (frontier (tree (two k)) ∷ []) (rest_of k) r.2 (item_pairs_more k (more k r.1)) (step k r.1) c.in_err-k.was t q)

pub loop-i-preserved : goal.loop-i-preserved
loop-i-preserved c =
    let more : (k : Judged) → Here c.args.toks.now c.loop-i.i k → 0 < length (encode (rest_of k)) = (λ k p. omega (arith, c.if-j-toks.false, c.size.ensures.1, c.size.ensures.2 k p.part, sizes k p.part)) in
    let part : (k : Judged) → Here c.args.toks.now c.loop-i.i k
    → take (c.loop-i.i + c.size.result + c.size-in-loop-i.result - c.loop-i.i) (drop c.loop-i.i c.args.toks.now) ≡ encode (two k) = (λ k p. let m = c.size.ensures.2 k p.part in
    part_two p m (c.size-in-loop-i.ensures.2 (rest_of k) (part_behind p m))) in
    let step : (k : Judged) → Here c.args.toks.now c.loop-i.i k → (u : Forest) → take c.loop-i.k c.loop-i.into ≡ flat u
    → Grows (joins (map elem (frontier (tree (two k)) ∷ [])) u) c.join_leaves.new.into c.join_leaves.result = (λ k p u q. grows_as (joins-one (elem (frontier (tree (two k)))) u) (c.join_leaves.ensures (two k) u (part k p) q)) in
    let r = here c.loop-i.invariant.3 (omega arith) c.requires.0.0 c.requires.0.1 in
    let g = c.loop-i.invariant.2 in (
      omega (arith, c.size.ensures.1),
      c.join_leaves.auto.into ∙ c.loop-i.invariant.1,
      growing_more (map elem (frontier (tree (two r.0)) ∷ [])) g.tree.0 g g.tree.1 c.join_leaves.auto.into c.in_ok-k.was (step r.0 r.1 g.tree.0 g.tree.1),
      next_item c.loop-i.invariant.3 (omega arith) c.size.ensures.2
          (λ j k p q. joining_more (frontier (tree (two k)) ∷ []) (rest_of k) q (item_pairs_more k (more k p)) (step k p) c.in_ok-k.was),
    )

pub returns : goal.returns
returns c = λ j t e q. joining_end c.loop-i.invariant.2 (at_last c.loop-i.invariant.3 (omega arith) j e) refl t q
