use Rattle.file_words.proofs.Room.{alphabet_tested}
use Rattle.file_words.proofs.letter.Goals as goal

pub returns : goal.returns
returns c = alphabet_tested c.is_ascii_alphanumeric.result c.args.b c.is_ascii_alphanumeric.ensures.cases
