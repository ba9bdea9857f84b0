use mathlib.Core.Path.{sym, ◌∙◌}
use Rattle.mark_words.proofs.Words.{no_words}
use Rattle.mark_words.proofs.clear.Goals as goal

pub returns : goal.returns
returns c = c.fill.ensures.after (λ y h. h) ∙ sym (no_words _)
