use mathlib.Core.Path.{◌≡◌, refl, sym, ap, ◌∙◌}
use mathlib.Core.Bool.{Bool, true, false}
use Prim.Native.Nat.{ℕ, ◌+◌, ◌≤◌, ◌<◌}
use lib.Dec.{leb}
use borrow.Author.Tests.{leb-true, leb-false}
use lib.ListN.{length}
use native.Mathlib.Omega.{arith}
use Rattle.tree_tokens.specs.Tokens.{flat}
use Rattle.tree_judge.specs.Total.{whole_of, totals}
use Rattle.tree_tokens.proofs.Writes.{wrote_head}
use Rattle.tree_pieces.specs.Writers.{with_state}
use Rattle.spec_orders.specs.Tree.{Forest}
use Rattle.tree_pieces.proofs.Laws.{packs_few, packs_many, with_le}
use Rattle.tree_pieces.proofs.pack_state.Goals as goal

-- What the test of two or more says.
leb-true-of : {r : Bool} {n : ℕ} → r ≡ leb 2 n → r ≡ true → 2 ≤ n
leb-true-of {r} {n} e h = leb-true 2 n (sym e ∙ h)

leb-false-of : {r : Bool} {n : ℕ} → r ≡ leb 2 n → r ≡ false → n < 2
leb-false-of {r} {n} e h = leb-false 2 n (sym e ∙ h)

pub only-requires : goal.only-requires
only-requires c =
    let p = c.requires.0 in
    ((_, p.1, omega (arith, p.2, ap (λ (f : Forest). length (flat f)) (packs_few c.args.s p.0 refl (leb-false-of (c.several.ensures p.0 p.1) c.if-not-several.true)))), c.requires.2)

pub returns-then-not-several : goal.returns-then-not-several
returns-then-not-several c = λ j e. rw (packs_few c.args.s j refl (leb-false-of (c.several.ensures j e) c.if-not-several.true)) (c.only.ensures j e)

pub slice_bounds-only-count : goal.slice_bounds-only-count
slice_bounds-only-count c =
    let room : 1 + length (flat (whole_of (with_state c.args.s (totals c.requires.0.0)))) ≤ length c.args.out.now = (let p = c.requires.0 in
    omega (arith, p.2, ap length (packs_many c.args.s p.0 refl (leb-true-of (c.several.ensures p.0 p.1) c.if-not-several.false) refl))) in
    omega (arith, room)

pub slice_bounds-only-start : goal.slice_bounds-only-start
slice_bounds-only-start c =
    let room : 1 + length (flat (whole_of (with_state c.args.s (totals c.requires.0.0)))) ≤ length c.args.out.now = (let p = c.requires.0 in
    omega (arith, p.2, ap length (packs_many c.args.s p.0 refl (leb-true-of (c.several.ensures p.0 p.1) c.if-not-several.false) refl))) in
    omega (arith, room)

pub only-k-requires : goal.only-k-requires
only-k-requires c =
    let room : 1 + length (flat (whole_of (with_state c.args.s (totals c.requires.0.0)))) ≤ length c.args.out.now = (let p = c.requires.0 in
    omega (arith, p.2, ap length (packs_many c.args.s p.0 refl (leb-true-of (c.several.ensures p.0 p.1) c.if-not-several.false) refl))) in
    ((_, c.requires.0.1, omega (arith, room, c.only-arg-2-1.given)), c.requires.2)

pub overflow_mul-out : goal.overflow_mul-out
overflow_mul-out c =
    let few : c.only-k.result ≤ length c.args.x.now = (let p = c.requires.0 in
    omega (arith, (c.only-k.ensures p.0 p.1).many, with_le c.args.s p.0, ap length p.1)) in
    omega (arith, few, c.requires.1)

pub overflow_add-out : goal.overflow_add-out
overflow_add-out c =
    let few : c.only-k.result ≤ length c.args.x.now = (let p = c.requires.0 in
    omega (arith, (c.only-k.ensures p.0 p.1).many, with_le c.args.s p.0, ap length p.1)) in
    omega (arith, few, c.requires.1)

pub overflow_cast-out : goal.overflow_cast-out
overflow_cast-out c =
    let few : c.only-k.result ≤ length c.args.x.now = (let p = c.requires.0 in
    omega (arith, (c.only-k.ensures p.0 p.1).many, with_le c.args.s p.0, ap length p.1)) in
    omega (arith, few, c.requires.1)

pub bounds-out-0 : goal.bounds-out-0
bounds-out-0 c =
    let room : 1 + length (flat (whole_of (with_state c.args.s (totals c.requires.0.0)))) ≤ length c.args.out.now = (let p = c.requires.0 in
    omega (arith, p.2, ap length (packs_many c.args.s p.0 refl (leb-true-of (c.several.ensures p.0 p.1) c.if-not-several.false) refl))) in
    omega (arith, room, c.out-2-1.given)

pub returns : goal.returns
returns c =
    let room : 1 + length (flat (whole_of (with_state c.args.s (totals c.requires.0.0)))) ≤ length c.args.out.now = (let p = c.requires.0 in
    omega (arith, p.2, ap length (packs_many c.args.s p.0 refl (leb-true-of (c.several.ensures p.0 p.1) c.if-not-several.false) refl))) in
    λ j e.
    let w = c.only-k.ensures j e in
    rw (packs_many c.args.s j refl (leb-true-of (c.several.ensures j e) c.if-not-several.false) w.many) (wrote_head _ c.args.out.now (omega (arith, room)) w)
