use Rattle.std.proofs.Common.{◌≡◌, length, ap, ◌∙◌, arith}
use Rattle.std.specs.List.{slice_split, filter}
use Rattle.spec_orders.specs.Lists.{those_of, begins_with}
use Rattle.file_words.proofs.Matching.{space, begun, split_words, count_words}
use Rattle.file_words.proofs.Room.{name_words, room_test}
use Rattle.file_words.proofs.has_room.Goals as goal

pub returns : goal.returns
returns c = λ ns h d e.
    let x = c.args.x.now in
    let t = c.args.t.now in
    let words : length (filter (begun t) (slice_split space x)) ≡ length (those_of (begins_with t) ns) =
    ap (λ z. length (filter (begun t) (slice_split space z))) e
    ∙ ap (λ z. length (filter (begun t) z)) (split_words ns (name_words ns h))
    ∙ count_words t (omega arith) ns in
    rw c.begun_so.ensures (room_test ns t h d c.begin_with.result (c.begin_with.ensures ∙ words) (omega arith))
