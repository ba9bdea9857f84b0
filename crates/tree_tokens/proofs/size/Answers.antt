use native.Mathlib.Omega.{arith}
use Rattle.tree_tokens.proofs.Laws.{sizes, size_leaf, size_node}
use Rattle.tree_tokens.proofs.size.Goals as goal

pub returns-then-t-eq0 : goal.returns-then-t-eq0
returns-then-t-eq0 c = (omega arith, omega arith, λ j e. size_leaf j e c.requires.1 c.if-t-eq0.true)

pub returns : goal.returns
returns c =
    let p = c.requires.0 in
    (omega arith, omega (arith, sizes p.0 p.1, size_node p.0 p.1 c.requires.1 c.if-t-eq0.false), λ j e. size_node j e c.requires.1 c.if-t-eq0.false)
