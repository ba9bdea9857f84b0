use mathlib.Core.Path.{sym, ◌∙◌}
use mathlib.Core.Bool.{true≢false}
use Prim.Native.Nat.{◌+◌}
use native.Mathlib.Numerals.{add-one}
use Rattle.table_sweep.proofs.Records.{one_more, blank_too, first_used, blank_row}
use Rattle.table_sweep.proofs.record.Goals as goal

pub returns-then-used-ne0 : goal.returns-then-used-ne0
returns-then-used-ne0 c = λ S table at h. one_more c.args.n S table c.args.r c.args.kind c.args.count c.args.places.now c.requires.0 at c.if-used-eq257.false c.if-used-ne0.true h (c.used_record.ensures S)

pub returns-then-blank : goal.returns-then-blank
returns-then-blank c = λ S table at h. blank_too c.args.n S table c.args.r c.args.kind c.args.count c.args.places.now c.requires.0 at c.if-used-ne0.false ((blank_row c.args.kind c.args.count c.args.places.now c.requires.1).0 (c.blank.ensures.0 c.if-blank.true)) h

pub returns : goal.returns
returns c = λ S table at h. first_used c.args.n S table c.args.r c.args.kind c.args.count c.args.places.now c.requires.0 at (c.args.r + 1) (add-one c.args.r) c.if-used-ne0.false (λ e. true≢false (sym (c.blank.ensures.1 ((blank_row c.args.kind c.args.count c.args.places.now c.requires.1).1 e)) ∙ c.if-blank.false)) h (c.used_record-2.ensures S)
