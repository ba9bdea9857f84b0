use Rattle.std.proofs.Common.{◌∙◌, rules}
use Rattle.std.proofs.lemmas.Iterator.{YieldsList-from_slice}
use Rattle.std.proofs.lemmas.Iterator.Search.{position_from_yields_List}
use Rattle.file_words.proofs.Places.{ends, end_position}
use Rattle.file_words.proofs.word_end.Goals as goal

pub returns : goal.returns
returns c =
    let x = c.args.x.now in
    let found = position_from_yields_List ends _ _ c.position.result c.position.ensures.ran (YieldsList-from_slice x cc) (λ y b q k. search rules) in
    c.unwrap_or.ensures ∙ rw found (end_position x)
