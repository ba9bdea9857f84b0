use Prim.Native.Nat.{ℕ, ◌+◌}
use native.Mathlib.Omega.{arith}
use lib.ListN.{length, length-drop}
use Rattle.tree_tokens.specs.Tokens.{Judged, tree, flat}
use Rattle.tree_pieces.proofs.Walks.{left_all, left_part, left-next, left_none}
use Rattle.tree_laid.specs.Lying.{lower}
use Rattle.tree_laid.proofs.Laws.{lower_here, lower_on, lower_none}
use Rattle.tree_laid.proofs.rank.Goals as goal

abbrev low : ℕ → Judged → ℕ
low b j = length (flat (lower b (tree j)))

pub loop-i-init : goal.loop-i-init
loop-i-init c = (omega arith, left_all (low c.args.b) (λ n. 0 + n) c.requires (λ n. omega arith))

pub returns-then-b-first_leaf : goal.returns-then-b-first_leaf
returns-then-b-first_leaf c =
    let l = c.loop-i.invariant.1 in
    let b = c.args.b in
    let low-zero = lower_here b l.left (omega (arith, c.first_leaf.ensures _ (left_part (low b) l), c.if-b-first_leaf.true)) in
    (omega arith, λ j e. omega (arith, l.same j e, low-zero))

pub loop-i-preserved : goal.loop-i-preserved
loop-i-preserved c =
    let l = c.loop-i.invariant.1 in
    let b = c.args.b in
    let e = left_part (low b) l in
    let on = lower_on b l.left (λ h. omega (arith, h, c.first_leaf.ensures _ e, c.if-b-first_leaf.false)) in (
      omega (arith, length-drop c.loop-i.i c.args.x.now),
      left-next (low b) l (λ n. c.loop-i.i + c.size-i.result + n) (c.size-i.ensures.2 _ e) (omega (arith, on, c.size-i.ensures.2 _ e)),
    )

pub returns : goal.returns
returns c = (omega arith, λ j e. omega (arith, left_none (low c.args.b) c.loop-i.invariant.1 (omega arith) j e, lower_none c.args.b))
