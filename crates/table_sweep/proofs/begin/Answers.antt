use mathlib.Core.Path.{sym, ap, ◌∙◌}
use Rattle.mark_words.specs.Marks.{words_of, no_leaf}
use Rattle.table_sweep.proofs.Starting.{begun}
use Rattle.table_sweep.proofs.begin.Goals as goal

pub returns : goal.returns
returns c = λ n. begun n c.args.marks.now c.clear.new.words c.copy_from_slice.new.self c.requires.0 (c.clear.auto.words ∙ c.requires.1) (c.clear.ensures ∙ ap (λ k. words_of k no_leaf) (sym c.clear.auto.words)) c.copy_from_slice.ensures.after
