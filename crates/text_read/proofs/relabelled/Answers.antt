use mathlib.Core.Path.{sym, ◌∙◌}
use Rattle.tree_tokens.specs.Tokens.{plain}
use Rattle.tree_tokens.proofs.Laws.{shape_read}
use Rattle.text_read.proofs.Relabelling.{token_stays, token_wide, token_narrow, c_token}
use Rattle.text_read.proofs.relabelled.Goals as goal

pub returns-in_default : goal.returns-in_default
returns-in_default c = λ t e. rw e (token_stays t (rw e at c.requires.1) (λ h. c.in_default.not-CNode (shape_read (c.shape.ensures (plain t) e) (sym h))))

pub returns-then-item_count-ne2 : goal.returns-then-item_count-ne2
returns-then-item_count-ne2 c = λ t e. rw e (token_wide t (c.in-CNode.ensures (plain t) e) (λ h. c.if-item_count-ne2.true (c.item_count.ensures.1 _ (c.items.ensures.1 (plain t) e) ∙ h)))

pub overflow_sub-result : goal.overflow_sub-result
overflow_sub-result c =
    let p = c.requires.0 in
    rw p.1 (c_token p.0 (c.in-CNode.ensures p.0 p.1))

pub returns : goal.returns
returns c = λ t e. rw e (token_narrow t (c.in-CNode.ensures (plain t) e) (sym (c.item_count.ensures.1 _ (c.items.ensures.1 (plain t) e)) ∙ c.if-item_count-ne2.false))
