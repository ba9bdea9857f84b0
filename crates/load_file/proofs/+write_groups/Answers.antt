use mathlib.Core.Path.{◌≡◌, ap, ◌∙◌}
use mathlib.Core.List.{◌++◌}
use Prim.Native.Nat.{◌+◌, ◌-◌, ◌*◌, ◌≤◌}
use native.Mathlib.Omega.{arith}
use lib.ListN.{length, length-append}
use Rattle.spec_load.specs.TestLoad.{run}
use Rattle.spec_load.proofs.Circle.{drawn_within}
use Rattle.tree_tokens.proofs.Writes.{wrote_none, wrote_then}
use Rattle.load_file.specs.Lines.{group_line, group_lines}
use Rattle.load_file.proofs.Lines.{group_line-length, groups_none, groups_more}
use Rattle.load_file.proofs.+write_groups.Goals as goal

pub returns-then-groups-eq0 : goal.returns-then-groups-eq0
returns-then-groups-eq0 t c = rw (groups_none c.args.places.now c.args.groups c.args.generator.state c.if-groups-eq0.true) (wrote_none c.args.out.now)

pub write_group-k-requires : goal.write_group-k-requires
write_group-k-requires t c =
    let step : group_lines c.args.places.now c.args.groups c.args.generator.state ≡ group_line (length c.args.places.now) (run c.args.places.now c.draw-start.result.number c.draw-length.result.number) ++ group_lines c.args.places.now (c.args.groups - 1) c.draw-length.result.next.state = (groups_more c.args.places.now c.args.groups c.args.generator.state c.if-groups-eq0.false c.draw-start.ensures.0 c.draw-start.ensures.1 c.draw-length.ensures.0 c.draw-length.ensures.1) in
    let room : 2 * length c.args.places.now + length (group_lines c.args.places.now (c.args.groups - 1) c.draw-length.result.next.state) ≤ length c.args.out.now = (let l = c.args.places.now in
    let g = run l c.draw-start.result.number c.draw-length.result.number in
    omega (arith, ap length step, length-append (group_line (length l) g) (group_lines l (c.args.groups - 1) c.draw-length.result.next.state), group_line-length (length l) g c.requires.0.some_bin, c.requires.1)) in
    let n = length c.args.places.now in
    let s = drawn_within c.args.generator.state n c.requires.0.some_bin in
    let m = drawn_within c.draw-start.result.next.state n c.requires.0.some_bin in
    (c.requires.0, omega (arith, c.draw-start.ensures.1, s.0), omega (arith, c.draw-start.ensures.1, s.1), omega (arith, c.draw-length.ensures.1, m.1), omega (arith, room))

pub write_groups-requires : goal.write_groups-requires
write_groups-requires t c =
    let step : group_lines c.args.places.now c.args.groups c.args.generator.state ≡ group_line (length c.args.places.now) (run c.args.places.now c.draw-start.result.number c.draw-length.result.number) ++ group_lines c.args.places.now (c.args.groups - 1) c.draw-length.result.next.state = (groups_more c.args.places.now c.args.groups c.args.generator.state c.if-groups-eq0.false c.draw-start.ensures.0 c.draw-start.ensures.1 c.draw-length.ensures.0 c.draw-length.ensures.1) in
    let room : 2 * length c.args.places.now + length (group_lines c.args.places.now (c.args.groups - 1) c.draw-length.result.next.state) ≤ length c.args.out.now = (let l = c.args.places.now in
    let g = run l c.draw-start.result.number c.draw-length.result.number in
    omega (arith, ap length step, length-append (group_line (length l) g) (group_lines l (c.args.groups - 1) c.draw-length.result.next.state), group_line-length (length l) g c.requires.0.some_bin, c.requires.1)) in
    let long : c.write_group-k.result ≡ 2 * length c.args.places.now = (c.write_group-k.ensures.many ∙ group_line-length (length c.args.places.now) (run c.args.places.now c.draw-start.result.number c.draw-length.result.number) c.requires.0.some_bin) in
    (omega (arith, c.requires.0, c.if-groups-eq0.false), (c.requires.0, omega (arith, room, long, c.write_group-k.auto.out)))

pub returns : goal.returns
returns t c =
    let step : group_lines c.args.places.now c.args.groups c.args.generator.state ≡ group_line (length c.args.places.now) (run c.args.places.now c.draw-start.result.number c.draw-length.result.number) ++ group_lines c.args.places.now (c.args.groups - 1) c.draw-length.result.next.state = (groups_more c.args.places.now c.args.groups c.args.generator.state c.if-groups-eq0.false c.draw-start.ensures.0 c.draw-start.ensures.1 c.draw-length.ensures.0 c.draw-length.ensures.1) in
    rw step (wrote_then c.write_group-k.ensures c.write_groups.ensures)
