use Rattle.std.proofs.Common.{◌∙◌, ap, length}
use Rattle.std.specs.Option.{unwrap_or}
use Rattle.tree_seen.proofs.Index.{index_position}
use Rattle.tree_seen.proofs.index_of.Goals as goal

pub returns : goal.returns
returns c = c.unwrap_or.ensures ∙ ap (λ o. unwrap_or o (length c.args.toks.now)) c.place_of.ensures ∙ index_position c.args.b c.args.toks.now
