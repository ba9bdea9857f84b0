use mathlib.Core.Path.{refl, ap, ◌∙◌}
use lib.ListN.{length-set}
use native.Mathlib.Omega.{arith}
use Rattle.mark_words.specs.Marks.{marked}
use Rattle.tree_tokens.specs.Tokens.{number, tree}
use Rattle.tree_judge.specs.Judge.{states, judge}
use Rattle.tree_judge.specs.Automaton.{start}
use Rattle.tree_judge.proofs.Automaton.{judges}
use Rattle.tree_judge.proofs.Places.{LeafAt, NodeAt, leaf_at, node_at}
use Rattle.tree_judge.proofs.Pass.{going_start, going_same, going_leaf, going_node, going_end}
use Rattle.tree_judge.proofs.+judge_items.Goals as goal

pub loop-i-init : goal.loop-i-init
loop-i-init t c = (omega arith, c.requires.1, c.requires.4, refl, going_start (marked c.args.marks.now) c.args.from c.args.to c.args.out.now c.args.run c.requires.0 (omega (arith, c.requires.1, c.requires.2, c.requires.3)))

pub judge_items-requires : goal.judge_items-requires
judge_items-requires t c =
    let node_here : NodeAt c.args.toks.now c.loop-i.i c.args.to c.loop-i.invariant.4.left = (node_at c.loop-i.invariant.4.left c.args.toks.now c.loop-i.i c.args.to c.loop-i.invariant.4.part c.loop-i-test.true c.requires.2 c.if-t-eq1.true) in
    let n = node_here in
    (omega (arith, n.room, c.loop-i.invariant.0), ((_, n.inside), omega arith, omega (arith, n.room, c.requires.2), omega (arith, c.requires.3, c.loop-i.invariant.3), c.start.ensures.0, c.requires.5))

pub loop-i-preserved-then-t-eq1 : goal.loop-i-preserved-then-t-eq1
loop-i-preserved-then-t-eq1 t c =
    let node_here : NodeAt c.args.toks.now c.loop-i.i c.args.to c.loop-i.invariant.4.left = (node_at c.loop-i.invariant.4.left c.args.toks.now c.loop-i.i c.args.to c.loop-i.invariant.4.part c.loop-i-test.true c.requires.2 c.if-t-eq1.true) in
    let S = marked c.args.marks.now in
    let n = node_here in
    let w = c.judge_items.ensures.1 n.items (start n.kind) n.inside (c.start.ensures.1 n.state n.kind _ n.token) in (
      omega (arith, c.loop-i.invariant.0),
      n.room,
      c.moved-at.ensures.0,
      simp length-set (c.judge_items.auto.out ∙ c.loop-i.invariant.3),
      going_node S c.loop-i.invariant.4 n (omega (arith, c.requires.2, c.requires.3)) w.1 (c.verdict-s.ensures.1 _ w.0 ∙ ap number (judges n.kind (states (judge S (tree n.items))))) c.moved-at.ensures.1,
    )

pub loop-i-preserved-then-s-last : goal.loop-i-preserved-then-s-last
loop-i-preserved-then-s-last t c =
    let leaf_here : LeafAt c.args.toks.now c.loop-i.i c.args.to c.loop-i.invariant.4.left = (leaf_at c.loop-i.invariant.4.left c.args.toks.now c.loop-i.i c.args.to c.loop-i.invariant.4.part c.loop-i-test.true c.requires.2 c.if-t-eq1.false) in
    let n = leaf_here in (
      omega (arith, c.loop-i.invariant.0),
      omega arith,
      c.moved-at-then-s-last.ensures.0,
      simp length-set c.loop-i.invariant.3,
      going_leaf (marked c.args.marks.now) c.loop-i.invariant.4 n (omega (arith, c.requires.2, c.requires.3)) (c.leaf_state-s.ensures.1 n.state n.leaf n.token) c.moved-at-then-s-last.ensures.1 c.leaf_state-s.ensures.0,
    )

pub loop-i-preserved : goal.loop-i-preserved
loop-i-preserved t c =
    let leaf_here : LeafAt c.args.toks.now c.loop-i.i c.args.to c.loop-i.invariant.4.left = (leaf_at c.loop-i.invariant.4.left c.args.toks.now c.loop-i.i c.args.to c.loop-i.invariant.4.part c.loop-i-test.true c.requires.2 c.if-t-eq1.false) in
    let n = leaf_here in (
      omega (arith, c.loop-i.invariant.0),
      omega arith,
      c.loop-i.invariant.2,
      simp length-set c.loop-i.invariant.3,
      going_same (marked c.args.marks.now) c.loop-i.invariant.4 n (omega (arith, c.requires.2, c.requires.3)) (c.leaf_state-s.ensures.1 n.state n.leaf n.token) c.if-s-last.false,
    )

pub returns : goal.returns
returns t c = (c.loop-i.invariant.2, λ j q e r. going_end (marked c.args.marks.now) c.loop-i.invariant.4 (omega (arith, c.loop-i.invariant.1)) c.requires.2 j q e r)
