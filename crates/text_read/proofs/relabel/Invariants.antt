use Rattle.tree_tokens.proofs.Steps.{Left}
use Rattle.text_read.proofs.Relabelling.{Relabelled}
use Rattle.text_read.proofs.relabel.Given as goal

abbrev pub invariant-loop-i : goal.invariant-loop-i
invariant-loop-i l = Left l.toks l.i (Relabelled l.initial.out l.out l.i)
