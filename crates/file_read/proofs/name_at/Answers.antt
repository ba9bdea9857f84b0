use native.Mathlib.Omega.{arith}
use Rattle.file_words.proofs.Places.{name_none, name_found}
use Rattle.file_read.proofs.name_at.Goals as goal

pub returns-then-file-start : goal.returns-then-file-start
returns-then-file-start c = name_none c.args.file.now c.args.k c.place-start.result c.place-start.ensures c.if-file-start.true

pub returns : goal.returns
returns c = name_found c.args.file.now c.args.k c.place-start.result c.place-start.ensures c.word_end-length.result (omega (arith, c.if-file-start.false)) c.word_end-length.ensures
