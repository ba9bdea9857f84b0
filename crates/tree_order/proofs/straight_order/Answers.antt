use native.Mathlib.Omega.{arith}
use Rattle.tree_tokens.specs.Tokens.{plain}
use Rattle.spec_orders.specs.SeenFrom.{seen_from}
use Prim.Native.Nat.{◌+◌}
use Rattle.tree_tokens.proofs.Writes.{read_part}
use Rattle.tree_order.proofs.Ends.{few_tokens, end_leaf, seen_count, wrote_seen}
use Rattle.tree_order.proofs.straight_order.Goals as goal

pub seen_from-k-requires : goal.seen_from-k-requires
seen_from-k-requires c = (end_leaf c.requires.0 c.requires.1, omega (arith, few_tokens c.requires.0), omega (arith, few_tokens c.requires.0), omega arith, omega (arith, c.requires.0.few_leaves))

pub collect_p-requires : goal.collect_p-requires
collect_p-requires c = let t = c.requires.0 in
    (plain (seen_from 1 (c.args.n + 1) t.shown), read_part (c.seen_from-k.ensures.1 t.shown t.is), omega (arith, seen_count t c.requires.1, c.requires.2))

pub returns : goal.returns
returns c = λ t e. wrote_seen c.args.n t (c.collect_p.ensures (plain (seen_from 1 (c.args.n + 1) t)) (read_part (c.seen_from-k.ensures.1 t e)))
