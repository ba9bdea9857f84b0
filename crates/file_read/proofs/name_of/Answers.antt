use Rattle.std.proofs.Common.{arith}
use Rattle.file_words.proofs.Places.{name_inside, name_there}
use Rattle.file_read.proofs.name_of.Goals as goal

pub overflow_add-end : goal.overflow_add-end
overflow_add-end c =
    omega (arith, name_inside c.args.file.now c.args.k _ _ c.name_at-part.ensures.0 c.name_at-part.ensures.1, c.well_formed)

pub slice_bounds-result-end : goal.slice_bounds-result-end
slice_bounds-result-end c = omega (arith, name_inside c.args.file.now c.args.k _ _ c.name_at-part.ensures.0 c.name_at-part.ensures.1)

pub returns-clause-result_value : goal.returns-clause-result_value
returns-clause-result_value c = name_there c.args.file.now c.args.k c.name_at-part.result.start c.name_at-part.result.length c.name_at-part.ensures.0 c.name_at-part.ensures.1
