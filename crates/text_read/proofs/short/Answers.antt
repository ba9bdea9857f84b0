use Rattle.std.proofs.lemmas.Result.{err_from_is_err_and}
use Rattle.text_read.proofs.Answers.{short_refused, short_read}
use Rattle.text_read.proofs.short.Goals as goal

pub returns-in_err-word_read : goal.returns-in_err-word_read
returns-in_err-word_read c =
    let p = err_from_is_err_and c.from_residual.result c.from_residual.ensures.1 in
    rw (p.1, p.2) (short_refused c.args.n c.requires.0 c.requires.1 c.args.text.now _ c.in_err-word_read.ensures)

pub returns : goal.returns
returns c = (_, short_read c.args.n c.requires.0 c.requires.1 c.args.text.now c.in_ok-word_read.ensures, c.fresh.ensures.1)
