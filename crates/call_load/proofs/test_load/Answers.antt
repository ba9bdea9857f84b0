use Rattle.std.proofs.lemmas.Result.{err_from_is_err_and}
use Rattle.std.proofs.Common.{◌≤◌, ◌-◌, sym, arith}
use Rattle.spec_load.proofs.File.{load_fits}
use Rattle.spec_calls.proofs.TestLoads.{passes_given}
use Rattle.tree_tokens.proofs.Writes.{wrote_filled}
use Rattle.byte_write.proofs.Padding.{wrote_padded}
use Rattle.call_load.proofs.Calls.{refused_load, written_load}
use Rattle.call_load.proofs.test_load.Goals as goal

pub returns-in_err-check : goal.returns-in_err-check
returns-in_err-check c =
    let p = err_from_is_err_and c.from_residual.result c.from_residual.ensures.1 in
    rw (p.1, p.2) (refused_load c.args.n c.args.seed c.args.groups c.args.bytes.now c.in_err-check.ensures)

pub write_load-k-requires : goal.write_load-k-requires
write_load-k-requires c =
    let g = passes_given c.args.n c.args.seed c.args.groups c.args.bytes.now (sym c.in_ok-check.ensures) in
    (g.some_bin, g.few_bins, g.few_groups, g.all_bytes)

pub slice_bounds-fill-count : goal.slice_bounds-fill-count
slice_bounds-fill-count c =
    let g = passes_given c.args.n c.args.seed c.args.groups c.args.bytes.now (sym c.in_ok-check.ensures) in
    omega (arith, c.write_load-k.ensures.many, load_fits c.args.n c.args.seed c.args.groups g.few_bins g.few_groups)

pub slice_bounds-fill-start : goal.slice_bounds-fill-start
slice_bounds-fill-start c =
    let g = passes_given c.args.n c.args.seed c.args.groups c.args.bytes.now (sym c.in_ok-check.ensures) in
    omega (arith, c.write_load-k.ensures.many, load_fits c.args.n c.args.seed c.args.groups g.few_bins g.few_groups)

pub slice_bounds-fill-end : goal.slice_bounds-fill-end
slice_bounds-fill-end c =
    let g = passes_given c.args.n c.args.seed c.args.groups c.args.bytes.now (sym c.in_ok-check.ensures) in
    omega (arith, g.all_bytes, c.write_load-k.auto.out)

pub returns : goal.returns
returns c =
    let g = passes_given c.args.n c.args.seed c.args.groups c.args.bytes.now (sym c.in_ok-check.ensures) in
    let w = c.write_load-k.ensures in
    let few : c.write_load-k.result ≤ 65536 = omega (arith, w.many, load_fits c.args.n c.args.seed c.args.groups g.few_bins g.few_groups) in
    written_load c.args.n c.args.seed c.args.groups c.args.bytes.now c.in_ok-check.ensures w.many
    (wrote_padded 65536 w (wrote_filled (65536 - c.write_load-k.result) w (omega (arith, g.all_bytes, c.write_load-k.auto.out)) (c.fill.ensures.after (λ y h. h))))
