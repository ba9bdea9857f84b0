use mathlib.Core.Path.{sym, ◌∙◌}
use mathlib.Core.List.{List}
use Prim.Native.Nat.{ℕ, ◌≤◌}
use native.Mathlib.Omega.{arith}
use lib.ListN.{length}
use Rattle.tree_tokens.specs.Tokens.{Wrote}
use Rattle.mark_words.specs.Marks.{marked}
use Rattle.tree_tokens.proofs.Writes.{read_part, wrote_most, wrote_head}
use Rattle.tree_update.proofs.Updates.{wrote_as}
use Rattle.conflict_leaves.proofs.StartTokens.{start-few, start_many}
use Rattle.conflict_leaves.proofs.start_tree.Goals as goal

bounded : {xs old new : List ℕ} {k : ℕ} → Wrote xs old new k → (k ≤ length new) × Wrote xs old new k
bounded w = (wrote_most w, w)

pub returns-then-k-lt2 : goal.returns-then-k-lt2
returns-then-k-lt2 c = bounded (wrote_as (read_part c.leaves-k.ensures ∙ sym (start-few c.args.n (marked c.args.words.now) c.leaves-k.result c.leaves-k.ensures.many c.if-k-lt2.true)) c.copy.ensures)

pub returns : goal.returns
returns c =
    let e = start_many c.args.n (marked c.args.words.now) c.leaves-k.result c.leaves-k.ensures.many (omega (arith, c.if-k-lt2.false)) in
    bounded (wrote_as (sym e) (wrote_head _ _ (omega arith) (wrote_as (read_part c.leaves-k.ensures) c.copy-r.ensures)))
