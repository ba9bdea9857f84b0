use Rattle.std.proofs.Common.{◌≡◌, sym, ap, ◌∙◌, arith, rules}
use Rattle.std.specs.List.{slice_split, list_any}
use Rattle.std.specs.Cmp.Lexicographic.{pointwise}
use Rattle.std.proofs.lemmas.Iterator.Search.{any_from_yields_List}
use Rattle.std.proofs.lemmas.Iterator.Splits.{YieldsList-from_slice_split}
use lib.Dec.{eqb}
use Rattle.file_words.proofs.Matching.{space, split_words, any_words}
use Rattle.file_words.proofs.Room.{name_words, new_is}
use Rattle.file_words.proofs.is_new.Goals as goal

pub returns-then-w-ne0 : goal.returns-then-w-ne0
returns-then-w-ne0 c = λ ns h e.
    let x = c.args.x.now in
    let w = c.args.w.now in
    let found : c.any.result ≡ list_any (pointwise eqb w) (slice_split space x) =
    any_from_yields_List (pointwise eqb w) _ _ c.any.result c.any.ensures.ran
    (YieldsList-from_slice_split _ space x c.split.ensures.rest c.split.ensures.done c.split.ensures.closure (λ y b q k. search rules))
    (λ y b q k. search rules) in
    new_is ns w c.any.result (omega arith)
    (sym (found ∙ ap (λ z. list_any (pointwise eqb w) (slice_split space z)) e ∙ ap (list_any (pointwise eqb w)) (split_words ns (name_words ns h)) ∙ any_words w (omega arith) ns))
