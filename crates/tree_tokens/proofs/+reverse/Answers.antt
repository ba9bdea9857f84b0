use mathlib.Core.Path.{sym, ap}
use Prim.Native.Nat.{◌+◌, ◌≤◌}
use lib.ListN.{length}
use native.Mathlib.Omega.{arith}
use Rattle.tree_tokens.specs.Tokens.{encode}
use Rattle.tree_tokens.proofs.Laws.{at_end, sizes}
use Rattle.tree_tokens.proofs.Sequences.{rev_split}
use Rattle.tree_tokens.proofs.Writes.{wrote_none, wrote_then}
use Rattle.tree_tokens.proofs.+reverse.Goals as goal

pub returns-then-toks-eq0 : goal.returns-then-toks-eq0
unfolding encode
returns-then-toks-eq0 t c = (sym c.if-toks-eq0.true, λ j e. rw (at_end j e c.if-toks-eq0.true) (wrote_none _))

pub copy-requires : goal.copy-requires
copy-requires t c =
    let room : c.reverse-k.result + length c.first.result.now ≤ length c.reverse-k.new.out = (let p = c.requires.0 in
    omega (
      arith,
      c.reverse-k.ensures.0,
      ap length (c.rest.ensures.1 p.0 p.1),
      ap length (c.first.ensures.1 p.0 p.1),
      sizes p.0 p.1,
      c.reverse-k.auto.out,
    )) in
    omega (arith, room, c.copy-arg-1.given)

pub returns : goal.returns
returns t c =
    let p = c.requires.0 in
    let after = c.rest.ensures.1 in
    let one = c.first.ensures.1 in (
      omega (arith, c.reverse-k.ensures.0, c.copy.ensures.many, ap length (after p.0 p.1), ap length (one p.0 p.1), sizes p.0 p.1),
      λ j e. rw (rev_split j, ← one j e) (wrote_then (c.reverse-k.ensures.1 _ (after j e)) c.copy.ensures),
    )
