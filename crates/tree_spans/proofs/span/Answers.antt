use mathlib.Core.Path.{sym, ◌∙◌}
use native.Mathlib.Omega.{arith}
use lib.ListN.{length-drop}
use borrow.Author.Tests.{eq-eqb, ne_eqb}
use Rattle.tree_tokens.specs.Tokens.{number}
use Rattle.tree_tokens.specs.Views.{state_of}
use Rattle.tree_spans.specs.Spans.{is}
use Rattle.tree_spans.proofs.Laws.{along_none, along_part, along_next, along_stop, along_end, leaf_at}
use Rattle.tree_spans.proofs.span.Goals as goal

pub loop-i-init : goal.loop-i-init
loop-i-init c = (omega arith, along_none (is c.args.s) c.requires.0)

pub loop-i-preserved-then-toks-i : goal.loop-i-preserved-then-toks-i
loop-i-preserved-then-toks-i c =
    let l = leaf_at c.loop-i.invariant.1 c.loop-i-test.true c.if-toks-i.true c.requires.1 in
    (omega arith, along_next (is c.args.s) c.loop-i.invariant.1 c.loop-i-test.true (eq-eqb (number (state_of c.loop-i.invariant.1.left)) c.args.s l.0) l.1)

pub returns-then-state-s : goal.returns-then-state-s
returns-then-state-s c = (omega arith, along_stop (is c.args.s) c.loop-i.invariant.1 (ne_eqb (number (state_of c.loop-i.invariant.1.left)) c.args.s (λ h. c.if-state-s.true (c.state.ensures _ (along_part (is c.args.s) c.loop-i.invariant.1) ∙ h))))

pub loop-i-preserved : goal.loop-i-preserved
loop-i-preserved c =
    let e = along_part (is c.args.s) c.loop-i.invariant.1 in
    (omega (arith, length-drop c.loop-i.i c.args.toks.now), along_next (is c.args.s) c.loop-i.invariant.1 c.loop-i-test.true (eq-eqb (number (state_of c.loop-i.invariant.1.left)) c.args.s (sym (c.state.ensures _ e) ∙ c.if-state-s.false)) (c.size-i.ensures.2 _ e))

pub returns : goal.returns
returns c = (omega arith, along_end (is c.args.s) c.loop-i.invariant.1 (omega arith))
