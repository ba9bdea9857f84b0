use mathlib.Core.Path.{◌≡◌, refl, ap, ◌∙◌}
use mathlib.Core.List.{List}
use Prim.Native.Nat.{ℕ, ◌+◌, ◌-◌, ◌≤◌, ◌<◌}
use native.Mathlib.Omega.{arith}
use lib.ListN.{length, take, drop, length-append, length-drop}
use Rattle.tree_tokens.specs.Tokens.{Judged, tree, encode, flat}
use Rattle.spec_orders.proofs.ListLaws.{part_to_end}
use Rattle.tree_spans.specs.Spans.{is, is_not, passing, beyond, Parted}
use Rattle.tree_judge.specs.Total.{whole_of, totals}
use Rattle.tree_pieces.specs.Writers.{with_state}
use Rattle.tree_pieces.proofs.Laws.{totals_none, flat_nil}
use Rattle.tree_pieces.proofs.Walks.{Writing, left_part, left_some, left_parted, writing_none, writing_past, writing_on, writing_end, writing_room, passing-length}
use Rattle.tree_pieces.proofs.States.{with_until, with_span, until_span}
use Rattle.tree_pieces.proofs.only.Goals as goal

-- The tokens of the items of state s.
abbrev text : ℕ → Judged → List ℕ
text s j = flat (whole_of (with_state s (totals j)))

pub loop-i-init : goal.loop-i-init
loop-i-init c = (omega arith, refl, writing_none (text c.args.s) c.args.out.now (c.requires.0.0, c.requires.0.1))

pub strip-k-requires : goal.strip-k-requires
strip-k-requires c =
    let here : Writing (text c.args.s) c.args.x.now c.args.out.now c.loop-i.out (c.loop-i.i + c.until.result) c.loop-i.k = (let s = c.args.s in
    let w = c.loop-i.invariant.2 in
    writing_past (text s) w c.until.result (beyond (is_not s) w.rest.left) (left_parted (text s) w.rest (c.until.ensures.1 _ (left_part (text s) w.rest))) (ap (λ ts. flat (whole_of ts)) (with_until s w.rest.left))) in
    let parted : Parted (is c.args.s) (take (length c.args.x.now - (c.loop-i.i + c.until.result)) (drop (c.loop-i.i + c.until.result) c.args.x.now)) here.rest.left c.span.result = (c.span.ensures.1 _ (left_part (text c.args.s) here.rest)) in
    let its : take (c.loop-i.i + c.until.result + c.span.result - (c.loop-i.i + c.until.result)) (drop (c.loop-i.i + c.until.result) c.args.x.now) ≡ encode (passing (is c.args.s) here.rest.left) = (let n : c.loop-i.i + c.until.result + c.span.result - (c.loop-i.i + c.until.result) ≡ c.span.result = omega arith in
    rw (n, ← part_to_end c.args.x.now (c.loop-i.i + c.until.result)) parted.front) in
    let room : c.loop-i.k + c.span.result ≤ length c.loop-i.out = (let s = c.args.s in
    let l = here.rest.left in
    omega (
      arith,
      writing_room (text s) here c.requires.0.0 c.requires.0.1 c.requires.0.2,
      ap length (with_span s l) ∙ length-append (flat (tree (passing (is s) l))) (text s (beyond (is s) l)),
      passing-length l parted c.span.ensures.0,
      c.loop-i.invariant.1,
    )) in
    ((_, its), omega (arith, room, c.strip-arg-1.given, c.strip-arg-in-loop-i-1.given))

pub loop-i-smaller : goal.loop-i-smaller
loop-i-smaller c =
    let here : Writing (text c.args.s) c.args.x.now c.args.out.now c.loop-i.out (c.loop-i.i + c.until.result) c.loop-i.k = (let s = c.args.s in
    let w = c.loop-i.invariant.2 in
    writing_past (text s) w c.until.result (beyond (is_not s) w.rest.left) (left_parted (text s) w.rest (c.until.ensures.1 _ (left_part (text s) w.rest))) (ap (λ ts. flat (whole_of ts)) (with_until s w.rest.left))) in
    let parted : Parted (is c.args.s) (take (length c.args.x.now - (c.loop-i.i + c.until.result)) (drop (c.loop-i.i + c.until.result) c.args.x.now)) here.rest.left c.span.result = (c.span.ensures.1 _ (left_part (text c.args.s) here.rest)) in
    let some : 0 < c.until.result + c.span.result = (let s = c.args.s in
    let w = c.loop-i.invariant.2.rest in
    until_span s w.left (c.until.ensures.1 _ (left_part (text s) w)) c.until.ensures.0 (omega (arith, ap length (left_part (text s) w), left_some (text s) w c.loop-i-test.true)) (left_part (text s) here.rest) parted) in
    omega (arith, some, c.span.ensures.0, c.until.ensures.0, length-drop c.loop-i.i c.args.x.now, length-drop (c.loop-i.i + c.until.result) c.args.x.now)

pub loop-i-preserved : goal.loop-i-preserved
loop-i-preserved c =
    let here : Writing (text c.args.s) c.args.x.now c.args.out.now c.loop-i.out (c.loop-i.i + c.until.result) c.loop-i.k = (let s = c.args.s in
    let w = c.loop-i.invariant.2 in
    writing_past (text s) w c.until.result (beyond (is_not s) w.rest.left) (left_parted (text s) w.rest (c.until.ensures.1 _ (left_part (text s) w.rest))) (ap (λ ts. flat (whole_of ts)) (with_until s w.rest.left))) in
    let parted : Parted (is c.args.s) (take (length c.args.x.now - (c.loop-i.i + c.until.result)) (drop (c.loop-i.i + c.until.result) c.args.x.now)) here.rest.left c.span.result = (c.span.ensures.1 _ (left_part (text c.args.s) here.rest)) in
    let its : take (c.loop-i.i + c.until.result + c.span.result - (c.loop-i.i + c.until.result)) (drop (c.loop-i.i + c.until.result) c.args.x.now) ≡ encode (passing (is c.args.s) here.rest.left) = (let n : c.loop-i.i + c.until.result + c.span.result - (c.loop-i.i + c.until.result) ≡ c.span.result = omega arith in
    rw (n, ← part_to_end c.args.x.now (c.loop-i.i + c.until.result)) parted.front) in
    let s = c.args.s in
    let w = here in (
      omega (arith, c.span.ensures.0, c.until.ensures.0, length-drop c.loop-i.i c.args.x.now, length-drop (c.loop-i.i + c.until.result) c.args.x.now),
      c.out-1.given.1 ∙ c.loop-i.invariant.1,
      writing_on (text s) w c.span.result (beyond (is s) w.rest.left) (left_parted (text s) w.rest parted) (with_span s w.rest.left) (c.strip-k.ensures.1 _ its),
    )

pub returns : goal.returns
returns c = writing_end (text c.args.s) c.loop-i.invariant.2 (omega arith) (ap (λ ts. flat (whole_of (with_state c.args.s ts))) totals_none ∙ flat_nil)
