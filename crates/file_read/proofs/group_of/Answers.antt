use Rattle.std.proofs.Common.{refl, ◌∙◌, ◌*◌, arith, get_or}
use borrow.Author.Tests.{eq-eqb, ne_eqb}
use Rattle.file_read.proofs.Values.{no_byte, all_bytes, value_read}
use Rattle.file_read.proofs.Groups.{group_start, group_on, group_off, group_end, group_short, group_absent}
use Rattle.file_read.proofs.group_of.Goals as goal
use Rattle.file_read.proofs.group_of.Goals.{then-values-leaf-eq49, else-values-leaf-eq49}

pub returns-then-list-names-clause-wrote : goal.returns-then-list-names-clause-wrote
returns-then-list-names-clause-wrote c = group_short c.args.file.now c.args.names c.args.head c.args.l c.if-list-names.true

pub returns-then-values-eq0-clause-wrote : goal.returns-then-values-eq0-clause-wrote
returns-then-values-eq0-clause-wrote c =
    let none = no_byte c.args.file.now c.args.names c.args.head c.args.l c.line_of-values.result.now c.line_of-values.ensures c.if-values-eq0.true in
    group_absent c.args.file.now c.args.names c.args.head c.args.l (omega (arith, c.if-list-names.false)) none

pub loop-leaf-init : goal.loop-leaf-init
loop-leaf-init c =
    let all = all_bytes c.args.file.now c.args.names c.args.head c.args.l c.line_of-values.result.now c.line_of-values.ensures c.if-values-eq0.false in
    record { few = omega arith; room = refl; names = all.0; bytes = all.1; written = group_start c.args.file.now c.args.names c.args.head c.args.l }

pub loop-leaf-preserved : goal.loop-leaf-preserved
loop-leaf-preserved c =
    let x = c.args.file.now in
    let n = c.args.names in
    let h = c.args.head in
    let l = c.args.l in
    let before = c.loop-leaf.invariant in
    let read = value_read x n h l c.line_of-values.result.now c.line_of-values.ensures c.loop-leaf.leaf in
    elim c.if-values-leaf-eq49.branch [
      | then-values-leaf-eq49 w ↦ record {
        few = omega arith;
        room = c.if-values-leaf-eq49.auto.list ∙ before.room;
        names = before.names;
        bytes = before.bytes;
        written =
            rw (w.list-is, w.k-is)
            (group_on x n h l (omega arith) (omega (arith, c.if-list-names.false)) (read ∙ eq-eqb (get_or c.line_of-values.result.now (2 * c.loop-leaf.leaf) 0) 49 w.if-values-leaf-eq49.true) before.written);
      }
      | else-values-leaf-eq49 w ↦ record {
        few = omega arith;
        room = c.if-values-leaf-eq49.auto.list ∙ before.room;
        names = before.names;
        bytes = before.bytes;
        written =
            rw (w.list-is, w.k-is)
            (group_off x n h l (omega arith) (read ∙ ne_eqb (get_or c.line_of-values.result.now (2 * c.loop-leaf.leaf) 0) 49 w.if-values-leaf-eq49.false) before.written);
      }
    ]

pub returns-clause-wrote : goal.returns-clause-wrote
returns-clause-wrote c =
    group_end c.args.file.now c.args.names c.args.head c.args.l (omega (arith, c.if-list-names.false)) (omega (arith, c.loop-leaf-test.false)) c.loop-leaf.invariant.written
