use Prim.Native.Nat.{◌-◌}
use native.Mathlib.Omega.{arith}
use Rattle.tree_tokens.specs.Tokens.{plain}
use Rattle.tree_tokens.proofs.Writes.{wrote_filled}
use Rattle.call_text.proofs.Calls.{formed_text, wrote_fills}
use Rattle.call_text.proofs.fill.Goals as goal

pub tree_text-m-requires : goal.tree_text-m-requires
tree_text-m-requires c = let f = c.requires.0.1 in (plain f.shown, f.is, omega (arith, formed_text f f.shown f.is))

pub slice_bounds-fill-count : goal.slice_bounds-fill-count
slice_bounds-fill-count c = let f = c.requires.0.1 in omega (arith, (c.tree_text-m.ensures (plain f.shown) f.is).many, formed_text f f.shown f.is)

pub slice_bounds-fill-start : goal.slice_bounds-fill-start
slice_bounds-fill-start c = let f = c.requires.0.1 in omega (arith, (c.tree_text-m.ensures (plain f.shown) f.is).many, formed_text f f.shown f.is)

pub returns : goal.returns
returns c =
    λ t e.
    let f = c.requires.0.1 in
    let w = c.tree_text-m.ensures (plain t) e in
    wrote_fills t w
    (wrote_filled (2048 - c.tree_text-m.result) w (omega (arith, (c.tree_text-m.ensures (plain f.shown) f.is).many, formed_text f f.shown f.is)) (c.fill.ensures.after (λ y h. h)))
