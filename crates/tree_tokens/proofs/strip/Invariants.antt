use mathlib.Core.List.{◌++◌, map}
use mathlib.Core.Path.{◌≡◌}
use lib.ListN.{take, drop}
use Rattle.tree_tokens.proofs.Sequences.{bare}
use Rattle.tree_tokens.proofs.strip.Given as goal

abbrev pub invariant-loop-i : goal.invariant-loop-i
invariant-loop-i l = l.out ≡ map bare (take l.i l.toks) ++ drop l.i l.initial.out
