use native.Mathlib.Omega.{arith}
use lib.ListN.{length}
use Rattle.tree_tokens.proofs.Writes.{wrote_then}
use Rattle.load_file.proofs.Parts.{Parted, parted}
use Rattle.load_file.proofs.write_circle.Goals as goal

pub write_names-k-requires : goal.write_names-k-requires
write_names-k-requires c =
    let file : Parted (length c.args.places.now) c.args.seed c.args.groups c.circle-generator.new.places c.circle-generator.result.state = (parted (length c.args.places.now) c.args.seed c.args.groups c.circle-generator.ensures.1 c.circle-generator.ensures.0 c.requires.0 c.requires.1 c.requires.2) in
    let p = file in (omega (arith, p.many, c.requires.0), omega (arith, p.many, c.requires.1), omega (arith, p.fits, c.requires.3))

pub write_groups-requires : goal.write_groups-requires
write_groups-requires c =
    let file : Parted (length c.args.places.now) c.args.seed c.args.groups c.circle-generator.new.places c.circle-generator.result.state = (parted (length c.args.places.now) c.args.seed c.args.groups c.circle-generator.ensures.1 c.circle-generator.ensures.0 c.requires.0 c.requires.1 c.requires.2) in
    (file.there, omega (arith, file.fits, c.write_names-k.ensures.many, c.write_names-k.auto.out, c.requires.3))

pub returns : goal.returns
returns c =
    let file : Parted (length c.args.places.now) c.args.seed c.args.groups c.circle-generator.new.places c.circle-generator.result.state = (parted (length c.args.places.now) c.args.seed c.args.groups c.circle-generator.ensures.1 c.circle-generator.ensures.0 c.requires.0 c.requires.1 c.requires.2) in
    rw file.is (wrote_then c.write_names-k.ensures c.write_groups.ensures)
