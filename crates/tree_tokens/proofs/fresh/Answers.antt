use Prim.Native.Nat.{◌-◌}
use native.Mathlib.Omega.{arith}
use Rattle.tree_tokens.proofs.FreshTree.{leaves-length, fresh_none, fresh-few, fresh_many}
use Rattle.tree_tokens.proofs.Writes.{wrote_none, wrote_head}
use Rattle.tree_tokens.proofs.fresh.Goals as goal

pub returns-then-n-eq0 : goal.returns-then-n-eq0
returns-then-n-eq0 c = (omega arith, rw (c.if-n-eq0.true, fresh_none) (wrote_none _))

pub returns-then-k-lt2 : goal.returns-then-k-lt2
returns-then-k-lt2 c =
    let n = c.args.n in (
      omega (arith, c.leaf_items.ensures.many, leaves-length 2 (n - 1)),
      rw (fresh-few n (n - 1) (omega arith) (omega arith)) c.leaf_items.ensures,
    )

pub returns : goal.returns
returns c =
    let n = c.args.n in (
      omega (arith, c.leaf_items-r.ensures.many, leaves-length 2 (n - 1)),
      rw (fresh_many n (n - 1) (omega arith) (omega arith)) (wrote_head _ _ (omega arith) c.leaf_items-r.ensures),
    )
