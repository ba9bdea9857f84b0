use Rattle.std.proofs.Common.{Some, None}
use Rattle.std.proofs.lemmas.Result.{err_from_is_err_and}
use Rattle.spec_orders.specs.TreeText.{no_shape}
use Rattle.tree_tokens.proofs.Writes.{read_back}
use Rattle.text_read.proofs.Answers.{spelled_tokens, ruled_by}
use Rattle.text_read.proofs.read_text.Goals as goal

pub returns-in_err-k : goal.returns-in_err-k
returns-in_err-k c =
    let p = err_from_is_err_and c.from_residual.result c.from_residual.ensures.1 in
    rw (p.1, p.2) (no_shape c.in_err-k.ensures)

pub broken-requires : goal.broken-requires
broken-requires c = spelled_tokens c.in_ok-k.ensures

pub returns-in-Some : goal.returns-in-Some
returns-in-Some c = ruled_by c.in_ok-k.ensures (Some _) c.in-Some.ensures

pub returns : goal.returns
returns c = let s = c.in_ok-k.ensures in (_, ruled_by s None c.in_default.ensures, c.relabel.ensures s.shown (read_back s.wrote))
