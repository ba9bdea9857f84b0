use Prim.Native.Nat.{◌-◌, ◌≤◌}
use lib.ListN.{length}
use Rattle.tree_tokens.proofs.Counts.{node_tokens}
use Rattle.tree_tokens.proofs.Steps.{Left}
use Rattle.text_write.proofs.Spelled.{Spelled, whole}
use Rattle.text_write.proofs.+write_c_write_p.Given as goal

abbrev pub invariant-write_c-loop-i : goal.invariant-write_c-loop-i
invariant-write_c-loop-i l = (l.i ≤ length l.toks) × Left l.toks l.i (Spelled whole l.initial.out l.out l.k)

abbrev pub decreases-write_c-loop-i : goal.decreases-write_c-loop-i
decreases-write_c-loop-i l = length l.toks - l.i

abbrev pub decreases-write_c : goal.decreases-write_c
decreases-write_c l = node_tokens l.toks.now

abbrev pub invariant-write_p-loop-i : goal.invariant-write_p-loop-i
invariant-write_p-loop-i l = (l.i ≤ length l.toks) × Left l.toks l.i (Spelled whole l.initial.out l.out l.k)

abbrev pub decreases-write_p-loop-i : goal.decreases-write_p-loop-i
decreases-write_p-loop-i l = length l.toks - l.i

abbrev pub decreases-write_p : goal.decreases-write_p
decreases-write_p l = node_tokens l.toks.now
