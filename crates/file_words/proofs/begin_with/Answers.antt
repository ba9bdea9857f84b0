use Rattle.std.proofs.Common.{rules}
use Rattle.std.proofs.lemmas.Iterator.Consumers.{YieldsList-from_filter, count_from_yields_List}
use Rattle.std.proofs.lemmas.Iterator.Splits.{YieldsList-from_slice_split}
use Rattle.file_words.proofs.Matching.{space, begun}
use Rattle.file_words.proofs.begin_with.Goals as goal

pub returns : goal.returns
returns c =
    count_from_yields_List c.filter.result c.count.result c.count.ensures.ran
    (YieldsList-from_filter _ (begun c.args.t.now)
    (YieldsList-from_slice_split _ space c.args.x.now (cc) (cc) (cc) (λ y b q k. search rules))
    c.filter.ensures.closure (λ y b q k. search rules))
