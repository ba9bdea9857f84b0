use Rattle.std.proofs.Common.{sym, ◌∙◌, arith}
use Rattle.list_bytes.proofs.Laws.{appends_as}
use Rattle.list_fields.proofs.Telling.{tells_full, tells_kept, tells_refused}
use Rattle.list_fields.proofs.put_fields.Goals as goal

pub returns-then-before-eq96 : goal.returns-then-before-eq96
returns-then-before-eq96 c = (
  omega (arith, c.put.ensures.past),
  λ s k u m q h.
      appends_as (tells_full c.args.file.holds.ns c.args.order.now c.args.file.names s c.args.list.now (sym q ∙ c.if-before-eq96.true)) c.put.ensures,
)

pub returns-then-before-after : goal.returns-then-before-after
returns-then-before-after c = (
  c.put_kept.ensures.0,
  λ s k u m q h.
      appends_as
      (tells_kept c.args.file.holds.ns c.args.order.now c.args.file.names s c.args.list.now k u m c.args.book.now c.args.table.now c.args.after (λ z. c.if-before-eq96.false (q ∙ z)) h (omega (arith, q, c.if-before-after.true)))
      c.put_kept.ensures.1,
)

pub returns : goal.returns
returns c = (
  c.put_refused.ensures.0,
  λ s k u m q h.
      appends_as
      (tells_refused c.args.file.holds.ns c.args.order.now c.args.file.names s c.args.list.now k u m c.args.book.now c.args.table.now c.args.after (λ z. c.if-before-eq96.false (q ∙ z)) h (omega (arith, q, c.if-before-after.false)) q)
      c.put_refused.ensures.1,
)
