use mathlib.Core.Path.{sym, ap}
use Prim.Native.Nat.{◌<◌}
use native.Mathlib.Omega.{arith}
use lib.ListN.{length}
use Rattle.tree_tokens.specs.Views.{first_of}
use Rattle.tree_tokens.proofs.Sequences.{plain-length}
use Rattle.tree_tokens.proofs.Writes.{wrote_one}
use Rattle.tree_pieces.proofs.Laws.{bare_leaf}
use Rattle.tree_pieces.proofs.put_first.Goals as goal

pub bounds-out-0 : goal.bounds-out-0
bounds-out-0 c =
    let room : 0 < length c.args.out.now = (omega (arith, ap length (bare_leaf c.requires.0 c.requires.1 (sym (c.in-Leaf.ensures c.requires.0 c.requires.1))), plain-length (first_of c.requires.0), c.requires.3)) in
    omega (arith, room)

pub returns-in-Leaf : goal.returns-in-Leaf
returns-in-Leaf c =
    let room : 0 < length c.args.out.now = (omega (arith, ap length (bare_leaf c.requires.0 c.requires.1 (sym (c.in-Leaf.ensures c.requires.0 c.requires.1))), plain-length (first_of c.requires.0), c.requires.3)) in
    λ j e. rw (bare_leaf j e (sym (c.in-Leaf.ensures j e))) (wrote_one _ _ room)
