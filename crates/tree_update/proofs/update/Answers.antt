use mathlib.Core.Path.{refl, sym, ◌∙◌}
use mathlib.Core.Option.{none-ne-some}
use native.Mathlib.Omega.{arith}
use Rattle.mark_words.specs.Marks.{marked}
use Rattle.tree_tokens.proofs.Writes.{wrote_none}
use Rattle.tree_pieces.proofs.Laws.{flat_nil}
use Rattle.tree_update.specs.Update.{impossible, written}
use Rattle.tree_update.proofs.Updates.{reduce_none, tokens_short, judged_text, not_reduced, is_reduced, wrote_as}
use Rattle.tree_update.proofs.update.Goals as goal

pub returns-then-m-eq0 : goal.returns-then-m-eq0
returns-then-m-eq0 c = λ t e. rw (reduce_none (marked c.args.marks.now) t e c.if-m-eq0.true).1 (written (wrote_as (sym flat_nil) (wrote_none _)))

pub judge-requires : goal.judge-requires
judge-requires c = ((_, c.requires.1.1), omega (arith, tokens_short c.requires.0 c.args.toks.now c.requires.1))

pub returns-then-state-eq4 : goal.returns-then-state-eq4
returns-then-state-eq4 c = λ t e. rw (not_reduced (marked c.args.marks.now) c.judge.ensures c.state.ensures c.requires.1 c.if-state-eq4.true t e) (impossible refl)

pub rewrite-requires : goal.rewrite-requires
rewrite-requires c =
    let p = c.requires.1 in (
      (
        _,
        _,
        _,
        record {
          is = p.1;
          states = judged_text (marked c.args.marks.now) c.judge.ensures p.0 p.1;
          form = p.2;
          few_leaves = p.3;
          some_token = omega (arith, c.if-m-eq0.false);
          possible = λ q. none-ne-some _ (sym q ∙ is_reduced (marked c.args.marks.now) c.judge.ensures c.state.ensures p c.if-state-eq4.false p.0 p.1);
        },
      ),
      c.requires.2,
    )

pub returns : goal.returns
returns c = λ t e.
    let y = is_reduced (marked c.args.marks.now) c.judge.ensures c.state.ensures c.requires.1 c.if-state-eq4.false t e in
    rw y (written (c.rewrite.ensures _ t _ e (judged_text (marked c.args.marks.now) c.judge.ensures t e) y))
