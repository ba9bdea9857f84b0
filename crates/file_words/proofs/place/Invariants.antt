use Rattle.std.proofs.Common.{◌≡◌, ◌+◌, drop}
use Rattle.file_syntax.specs.Words.{place_in}
use Rattle.file_words.proofs.place.Given as goal

abbrev pub invariant-loop-i : goal.invariant-loop-i
invariant-loop-i l = place_in l.x l.k ≡ l.i + place_in (drop l.i l.x) l.left
