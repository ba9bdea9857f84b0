use mathlib.Core.List.{[]}
use Prim.Native.Nat.{◌+◌, ◌-◌}
use native.Mathlib.Omega.{arith}
use lib.ListN.{length, take, drop}
use Rattle.load_file.proofs.Marks.{wrote_marked, run_straight, run_round, part_bins, part_fits}
use Rattle.load_file.proofs.write_group.Goals as goal

pub returns-then-first-many : goal.returns-then-first-many
returns-then-first-many c =
    let p = c.requires.0 in
    let n = length c.args.places.now in
    rw (run_straight c.args.places.now c.args.start c.args.many c.if-first-many.true)
    (wrote_marked n p.some_bin [] (take (c.args.start - 1 + c.args.many - (c.args.start - 1)) (drop (c.args.start - 1) c.args.places.now)) c.write_empty-k.ensures (c.mark.ensures n (part_bins p (c.args.start - 1) (c.args.start - 1 + c.args.many - (c.args.start - 1)))))

pub mark-requires-2 : goal.mark-requires-2
mark-requires-2 c = part_fits c.requires.0 (c.args.start - 1) (length c.args.places.now - (c.args.start - 1)) (length c.write_empty-k.new.out) (omega (arith, c.requires.4, c.write_empty-k.auto.out))

pub mark-requires-3 : goal.mark-requires-3
mark-requires-3 c = part_fits c.requires.0 0 (c.args.start - 1 + c.args.many - length c.args.places.now - 0) (length c.mark-2.new.line) (omega (arith, c.requires.4, c.write_empty-k.auto.out, c.mark-2.auto.line))

pub returns : goal.returns
returns c =
    let p = c.requires.0 in
    let n = length c.args.places.now in
    let first = c.args.start - 1 in
    let left = first + c.args.many - n - 0 in
    rw (run_round c.args.places.now c.args.start c.args.many c.requires.3 (omega (arith, c.requires.2)) (omega (arith, c.if-first-many.false)))
    (wrote_marked n p.some_bin (take (n - first) (drop first c.args.places.now)) (take left (drop 0 c.args.places.now)) (wrote_marked n p.some_bin [] (take (n - first) (drop first c.args.places.now)) c.write_empty-k.ensures (c.mark-2.ensures n (part_bins p first (n - first)))) (c.mark-3.ensures n (part_bins p 0 left)))
