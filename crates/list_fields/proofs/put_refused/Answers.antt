use Rattle.std.proofs.Common.{◌≡◌, ◌≤◌, length, take, ap, ◌∙◌, arith, length-take}
use Rattle.spec_orders.specs.declared.Layout.TheVariants.{Ring}
use Rattle.spec_orders.specs.Lists.{elem}
use Rattle.spec_orders.proofs.ListLaws.{all_map}
use Rattle.spec_calls.specs.Tables.{lent_book}
use Rattle.mark_words.specs.Marks.{marked}
use Rattle.mark_words.proofs.Leaves.{marked_group}
use Rattle.spec_calls.specs.Calls.{conflicts_of}
use Rattle.tree_tokens.proofs.Writes.{read_back}
use Rattle.list_bytes.proofs.Laws.{appends_then, appends_as}
use Rattle.call_conflict.proofs.Call.{list_few}
use Rattle.spec_listing.specs.Listing.{commas}
use Rattle.list_fields.proofs.Conflicting.{conflicts_all}
use Rattle.list_fields.proofs.put_refused.Goals as goal

pub put_conflicts-requires : goal.put_conflicts-requires
put_conflicts-requires c =
    let book = c.args.book.now in
    let count = c.args.count in
    let same : marked c.mark_line.new.marks ≡ elem c.args.list.now = ap marked c.mark_line.ensures ∙ marked_group 4 c.args.n c.args.list.now c.requires.0 c.requires.1 in
    let found : take c.find-k.result c.find-k.new.out ≡ conflicts_of Ring c.args.n (lent_book book count) (elem c.args.list.now) =
    read_back c.find-k.ensures ∙ ap (conflicts_of Ring c.args.n (lent_book book count)) same in
    let few : c.find-k.result ≤ count = omega (arith, c.find-k.ensures.many, list_few Ring c.args.n (lent_book book count) (marked c.mark_line.new.marks)) in (
      rw found
          (all_map (λ j. (1 ≤ j) × (j ≤ count)) (λ j. (1 ≤ j) × (j ≤ length (take count c.args.table.now)))
          (λ j h. (h.0, omega (arith, h.1, length-take count c.args.table.now, c.requires.4)))
          (conflicts_of Ring c.args.n (lent_book book count) (elem c.args.list.now)) (conflicts_all c.args.n book count (elem c.args.list.now))),
      omega (arith, c.requires.5, length-take c.find-k.result c.find-k.new.out, few, c.requires.2, c.put-a.ensures.past, c.put-a.auto.out),
    )

pub returns : goal.returns
returns c =
    let book = c.args.book.now in
    let count = c.args.count in
    let same : marked c.mark_line.new.marks ≡ elem c.args.list.now = ap marked c.mark_line.ensures ∙ marked_group 4 c.args.n c.args.list.now c.requires.0 c.requires.1 in
    let found : take c.find-k.result c.find-k.new.out ≡ conflicts_of Ring c.args.n (lent_book book count) (elem c.args.list.now) =
    read_back c.find-k.ensures ∙ ap (conflicts_of Ring c.args.n (lent_book book count)) same in
    let few : c.find-k.result ≤ count = omega (arith, c.find-k.ensures.many, list_few Ring c.args.n (lent_book book count) (marked c.mark_line.new.marks)) in (
      omega (arith, c.put_conflicts.ensures.0, length-take c.find-k.result c.find-k.new.out, few, c.requires.2, c.put-a.ensures.past),
      appends_then c.put-a.ensures (appends_as (ap (commas (take count c.args.table.now)) found) c.put_conflicts.ensures.1),
    )
