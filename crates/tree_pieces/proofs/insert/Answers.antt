use mathlib.Core.Path.{◌≡◌, refl, sym, ap, ◌∙◌}
use mathlib.Core.List.{List, ◌++◌, append_assoc}
use Prim.Native.Nat.{ℕ, ◌+◌, ◌≤◌}
use native.Mathlib.Omega.{arith}
use lib.ListN.{length, length-append, length-drop}
use Rattle.spec_orders.specs.Tree.{Forest}
use Rattle.spec_orders.specs.Form.{first}
use Rattle.tree_tokens.specs.Tokens.{Judged, tree, encode, flat}
use Rattle.tree_tokens.specs.Views.{first_of, rest_of}
use Rattle.tree_tokens.proofs.Sequences.{plain-length}
use Rattle.tree_tokens.proofs.Writes.{wrote_then}
use Rattle.tree_judge.specs.Total.{whole_of, totals}
use Rattle.tree_pieces.specs.Writers.{with_state}
use Rattle.tree_pieces.proofs.Laws.{at_first, placed, placed_none, placed_out, flat_before, flat_after, same_leaf}
use Rattle.tree_pieces.proofs.Walks.{Writing, left_part, left_some, writing_none, writing_skip, writing_more, writing_last, writing_room}
use Rattle.tree_pieces.proofs.insert.Goals as goal

-- The tokens of a tree among the empty items.
abbrev text : Forest → Judged → List ℕ
text g j = flat (placed g j)

pub loop-i-init : goal.loop-i-init
loop-i-init c = (omega arith, refl, λ g et eb. writing_none (text g) c.args.out.now (c.requires.0, c.requires.2))

pub loop-i-preserved-then-state-ne0 : goal.loop-i-preserved-then-state-ne0
loop-i-preserved-then-state-ne0 c = (
  omega (arith, length-drop c.loop-i.i c.args.x.now),
  c.loop-i.invariant.1,
  λ g et eb.
      let w = c.loop-i.invariant.2 g et eb in
      let e = left_part (text g) w.rest in
      let a = at_first _ (left_some (text g) w.rest c.loop-i-test.true) in
      writing_skip (text g) w (c.size-m.ensures.2 _ e) (ap flat (placed_out g a (λ h. c.if-state-ne0.true (c.state.ensures _ e ∙ h)))),
)

pub copy-requires : goal.copy-requires
copy-requires c =
    let walk : Writing (text c.requires.1) c.args.x.now c.args.out.now c.loop-i.out c.loop-i.i c.loop-i.k = (c.loop-i.invariant.2 c.requires.1 c.requires.3 c.requires.4) in
    let whole_room : c.loop-i.k + length (text c.requires.1 walk.rest.left) ≤ length c.loop-i.out = (omega (arith, writing_room (text c.requires.1) walk c.requires.0 c.requires.2 c.requires.5, c.loop-i.invariant.1)) in
    let before_first : (g : Forest) → c.args.b ≡ first g → (w : Writing (text g) c.args.x.now c.args.out.now c.loop-i.out c.loop-i.i c.loop-i.k)
    → text g w.rest.left ≡ flat g ++ flat (whole_of (with_state 0 (totals w.rest.left))) = (λ g eb w. let e = left_part (text g) w.rest in
    flat_before g (at_first _ (left_some (text g) w.rest c.loop-i-test.true)) (sym (c.state.ensures _ e) ∙ c.if-state-ne0.false) (omega (arith, c.first_leaf.ensures _ e, c.if-b-first_leaf.true))) in
    let before-room : c.loop-i.k + (length c.args.t.now + length (flat (whole_of (with_state 0 (totals walk.rest.left))))) ≤ length c.loop-i.out = (let w = walk in
    omega (
      arith,
      whole_room,
      ap length (before_first c.requires.1 c.requires.4 w) ∙ length-append (flat c.requires.1) (flat (whole_of (with_state 0 (totals w.rest.left)))),
      ap length c.requires.3,
    )) in
    omega (arith, before-room, c.copy-arg-1.given)

pub slice_bounds-only-count : goal.slice_bounds-only-count
slice_bounds-only-count c =
    let walk : Writing (text c.requires.1) c.args.x.now c.args.out.now c.loop-i.out c.loop-i.i c.loop-i.k = (c.loop-i.invariant.2 c.requires.1 c.requires.3 c.requires.4) in
    let whole_room : c.loop-i.k + length (text c.requires.1 walk.rest.left) ≤ length c.loop-i.out = (omega (arith, writing_room (text c.requires.1) walk c.requires.0 c.requires.2 c.requires.5, c.loop-i.invariant.1)) in
    let before_first : (g : Forest) → c.args.b ≡ first g → (w : Writing (text g) c.args.x.now c.args.out.now c.loop-i.out c.loop-i.i c.loop-i.k)
    → text g w.rest.left ≡ flat g ++ flat (whole_of (with_state 0 (totals w.rest.left))) = (λ g eb w. let e = left_part (text g) w.rest in
    flat_before g (at_first _ (left_some (text g) w.rest c.loop-i-test.true)) (sym (c.state.ensures _ e) ∙ c.if-state-ne0.false) (omega (arith, c.first_leaf.ensures _ e, c.if-b-first_leaf.true))) in
    let before-room : c.loop-i.k + (length c.args.t.now + length (flat (whole_of (with_state 0 (totals walk.rest.left))))) ≤ length c.loop-i.out = (let w = walk in
    omega (
      arith,
      whole_room,
      ap length (before_first c.requires.1 c.requires.4 w) ∙ length-append (flat c.requires.1) (flat (whole_of (with_state 0 (totals w.rest.left)))),
      ap length c.requires.3,
    )) in
    omega (arith, before-room, c.copy.ensures.many, c.out-1.given.1)

pub slice_bounds-only-start : goal.slice_bounds-only-start
slice_bounds-only-start c =
    let walk : Writing (text c.requires.1) c.args.x.now c.args.out.now c.loop-i.out c.loop-i.i c.loop-i.k = (c.loop-i.invariant.2 c.requires.1 c.requires.3 c.requires.4) in
    let whole_room : c.loop-i.k + length (text c.requires.1 walk.rest.left) ≤ length c.loop-i.out = (omega (arith, writing_room (text c.requires.1) walk c.requires.0 c.requires.2 c.requires.5, c.loop-i.invariant.1)) in
    let before_first : (g : Forest) → c.args.b ≡ first g → (w : Writing (text g) c.args.x.now c.args.out.now c.loop-i.out c.loop-i.i c.loop-i.k)
    → text g w.rest.left ≡ flat g ++ flat (whole_of (with_state 0 (totals w.rest.left))) = (λ g eb w. let e = left_part (text g) w.rest in
    flat_before g (at_first _ (left_some (text g) w.rest c.loop-i-test.true)) (sym (c.state.ensures _ e) ∙ c.if-state-ne0.false) (omega (arith, c.first_leaf.ensures _ e, c.if-b-first_leaf.true))) in
    let before-room : c.loop-i.k + (length c.args.t.now + length (flat (whole_of (with_state 0 (totals walk.rest.left))))) ≤ length c.loop-i.out = (let w = walk in
    omega (
      arith,
      whole_room,
      ap length (before_first c.requires.1 c.requires.4 w) ∙ length-append (flat c.requires.1) (flat (whole_of (with_state 0 (totals w.rest.left)))),
      ap length c.requires.3,
    )) in
    omega (arith, before-room, c.copy.ensures.many, c.out-1.given.1)

pub only-requires : goal.only-requires
only-requires c =
    let walk : Writing (text c.requires.1) c.args.x.now c.args.out.now c.loop-i.out c.loop-i.i c.loop-i.k = (c.loop-i.invariant.2 c.requires.1 c.requires.3 c.requires.4) in
    let whole_room : c.loop-i.k + length (text c.requires.1 walk.rest.left) ≤ length c.loop-i.out = (omega (arith, writing_room (text c.requires.1) walk c.requires.0 c.requires.2 c.requires.5, c.loop-i.invariant.1)) in
    let before_first : (g : Forest) → c.args.b ≡ first g → (w : Writing (text g) c.args.x.now c.args.out.now c.loop-i.out c.loop-i.i c.loop-i.k)
    → text g w.rest.left ≡ flat g ++ flat (whole_of (with_state 0 (totals w.rest.left))) = (λ g eb w. let e = left_part (text g) w.rest in
    flat_before g (at_first _ (left_some (text g) w.rest c.loop-i-test.true)) (sym (c.state.ensures _ e) ∙ c.if-state-ne0.false) (omega (arith, c.first_leaf.ensures _ e, c.if-b-first_leaf.true))) in
    let before-room : c.loop-i.k + (length c.args.t.now + length (flat (whole_of (with_state 0 (totals walk.rest.left))))) ≤ length c.loop-i.out = (let w = walk in
    omega (
      arith,
      whole_room,
      ap length (before_first c.requires.1 c.requires.4 w) ∙ length-append (flat c.requires.1) (flat (whole_of (with_state 0 (totals w.rest.left)))),
      ap length c.requires.3,
    )) in
    ((_, left_part (text c.requires.1) walk.rest, omega (arith, before-room, c.copy.ensures.many, c.out-1.given.1, c.only-arg-1.given)), omega arith)

pub overflow_add-result : goal.overflow_add-result
overflow_add-result c =
    let walk : Writing (text c.requires.1) c.args.x.now c.args.out.now c.loop-i.out c.loop-i.i c.loop-i.k = (c.loop-i.invariant.2 c.requires.1 c.requires.3 c.requires.4) in
    let whole_room : c.loop-i.k + length (text c.requires.1 walk.rest.left) ≤ length c.loop-i.out = (omega (arith, writing_room (text c.requires.1) walk c.requires.0 c.requires.2 c.requires.5, c.loop-i.invariant.1)) in
    let before_first : (g : Forest) → c.args.b ≡ first g → (w : Writing (text g) c.args.x.now c.args.out.now c.loop-i.out c.loop-i.i c.loop-i.k)
    → text g w.rest.left ≡ flat g ++ flat (whole_of (with_state 0 (totals w.rest.left))) = (λ g eb w. let e = left_part (text g) w.rest in
    flat_before g (at_first _ (left_some (text g) w.rest c.loop-i-test.true)) (sym (c.state.ensures _ e) ∙ c.if-state-ne0.false) (omega (arith, c.first_leaf.ensures _ e, c.if-b-first_leaf.true))) in
    let before-room : c.loop-i.k + (length c.args.t.now + length (flat (whole_of (with_state 0 (totals walk.rest.left))))) ≤ length c.loop-i.out = (let w = walk in
    omega (
      arith,
      whole_room,
      ap length (before_first c.requires.1 c.requires.4 w) ∙ length-append (flat c.requires.1) (flat (whole_of (with_state 0 (totals w.rest.left)))),
      ap length c.requires.3,
    )) in
    omega (arith, before-room, c.copy.ensures.many, (c.only.ensures _ (left_part (text c.requires.1) walk.rest)).many)

pub returns-then-b-first_leaf : goal.returns-then-b-first_leaf
returns-then-b-first_leaf c =
    let before_first : (g : Forest) → c.args.b ≡ first g → (w : Writing (text g) c.args.x.now c.args.out.now c.loop-i.out c.loop-i.i c.loop-i.k)
    → text g w.rest.left ≡ flat g ++ flat (whole_of (with_state 0 (totals w.rest.left))) = (λ g eb w. let e = left_part (text g) w.rest in
    flat_before g (at_first _ (left_some (text g) w.rest c.loop-i-test.true)) (sym (c.state.ensures _ e) ∙ c.if-state-ne0.false) (omega (arith, c.first_leaf.ensures _ e, c.if-b-first_leaf.true))) in
    λ j g e et.
    let eb = same_leaf c.requires.1 g c.requires.3 c.requires.4 et in
    let w = c.loop-i.invariant.2 g et eb in
    let others = flat (whole_of (with_state 0 (totals w.rest.left))) in
    let parts : text g j ≡ (w.text ++ c.args.t.now) ++ others =
    w.rest.same j e ∙ ap (λ (l : List ℕ). w.text ++ l) (before_first g eb w ∙ ap (λ (l : List ℕ). l ++ others) (sym et))
    ∙ sym (append_assoc w.text c.args.t.now others) in
    rw parts (wrote_then (wrote_then w.wrote c.copy.ensures) (c.only.ensures _ (left_part (text g) w.rest)))

pub put_first-k-requires : goal.put_first-k-requires
put_first-k-requires c =
    let walk : Writing (text c.requires.1) c.args.x.now c.args.out.now c.loop-i.out c.loop-i.i c.loop-i.k = (c.loop-i.invariant.2 c.requires.1 c.requires.3 c.requires.4) in
    let whole_room : c.loop-i.k + length (text c.requires.1 walk.rest.left) ≤ length c.loop-i.out = (omega (arith, writing_room (text c.requires.1) walk c.requires.0 c.requires.2 c.requires.5, c.loop-i.invariant.1)) in
    let after_first : (g : Forest) → c.args.b ≡ first g → (w : Writing (text g) c.args.x.now c.args.out.now c.loop-i.out c.loop-i.i c.loop-i.k)
    → text g w.rest.left ≡ flat (tree (first_of w.rest.left)) ++ text g (rest_of w.rest.left) = (λ g eb w. let e = left_part (text g) w.rest in
    flat_after g (at_first _ (left_some (text g) w.rest c.loop-i-test.true)) (sym (c.state.ensures _ e) ∙ c.if-state-ne0.false) (λ h. omega (arith, c.first_leaf.ensures _ e, c.if-b-first_leaf.false))) in
    let after-room : c.loop-i.k + length (encode (first_of walk.rest.left)) ≤ length c.loop-i.out = (let w = walk in
    let l = w.rest.left in
    omega (
      arith,
      whole_room,
      ap length (after_first c.requires.1 c.requires.4 w) ∙ length-append (flat (tree (first_of l))) (text c.requires.1 (rest_of l)),
      plain-length (first_of l),
    )) in
    (_, left_part (text c.requires.1) walk.rest, omega (arith, length-drop c.loop-i.i c.args.x.now), omega (arith, after-room, c.put_first-arg-1.given))

pub overflow_add-k : goal.overflow_add-k
overflow_add-k c =
    let walk : Writing (text c.requires.1) c.args.x.now c.args.out.now c.loop-i.out c.loop-i.i c.loop-i.k = (c.loop-i.invariant.2 c.requires.1 c.requires.3 c.requires.4) in
    let whole_room : c.loop-i.k + length (text c.requires.1 walk.rest.left) ≤ length c.loop-i.out = (omega (arith, writing_room (text c.requires.1) walk c.requires.0 c.requires.2 c.requires.5, c.loop-i.invariant.1)) in
    let after_first : (g : Forest) → c.args.b ≡ first g → (w : Writing (text g) c.args.x.now c.args.out.now c.loop-i.out c.loop-i.i c.loop-i.k)
    → text g w.rest.left ≡ flat (tree (first_of w.rest.left)) ++ text g (rest_of w.rest.left) = (λ g eb w. let e = left_part (text g) w.rest in
    flat_after g (at_first _ (left_some (text g) w.rest c.loop-i-test.true)) (sym (c.state.ensures _ e) ∙ c.if-state-ne0.false) (λ h. omega (arith, c.first_leaf.ensures _ e, c.if-b-first_leaf.false))) in
    let after-room : c.loop-i.k + length (encode (first_of walk.rest.left)) ≤ length c.loop-i.out = (let w = walk in
    let l = w.rest.left in
    omega (
      arith,
      whole_room,
      ap length (after_first c.requires.1 c.requires.4 w) ∙ length-append (flat (tree (first_of l))) (text c.requires.1 (rest_of l)),
      plain-length (first_of l),
    )) in
    omega (arith, after-room, (c.put_first-k.ensures _ (left_part (text c.requires.1) walk.rest)).many, plain-length (first_of walk.rest.left))

pub loop-i-preserved : goal.loop-i-preserved
loop-i-preserved c =
    let after_first : (g : Forest) → c.args.b ≡ first g → (w : Writing (text g) c.args.x.now c.args.out.now c.loop-i.out c.loop-i.i c.loop-i.k)
    → text g w.rest.left ≡ flat (tree (first_of w.rest.left)) ++ text g (rest_of w.rest.left) = (λ g eb w. let e = left_part (text g) w.rest in
    flat_after g (at_first _ (left_some (text g) w.rest c.loop-i-test.true)) (sym (c.state.ensures _ e) ∙ c.if-state-ne0.false) (λ h. omega (arith, c.first_leaf.ensures _ e, c.if-b-first_leaf.false))) in (
      omega (arith, length-drop c.loop-i.i c.args.x.now),
      c.out-in-loop-i-1.given.1 ∙ c.loop-i.invariant.1,
      λ g et eb.
          let w = c.loop-i.invariant.2 g et eb in
          let e = left_part (text g) w.rest in
          writing_more (text g) w (c.size-m.ensures.2 _ e) (after_first g eb w) (c.put_first-k.ensures _ e),
    )

pub copy-requires-2 : goal.copy-requires-2
copy-requires-2 c =
    let walk : Writing (text c.requires.1) c.args.x.now c.args.out.now c.loop-i.out c.loop-i.i c.loop-i.k = (c.loop-i.invariant.2 c.requires.1 c.requires.3 c.requires.4) in
    let whole_room : c.loop-i.k + length (text c.requires.1 walk.rest.left) ≤ length c.loop-i.out = (omega (arith, writing_room (text c.requires.1) walk c.requires.0 c.requires.2 c.requires.5, c.loop-i.invariant.1)) in
    let end_text : (g : Forest) (w : Writing (text g) c.args.x.now c.args.out.now c.loop-i.out c.loop-i.i c.loop-i.k) → text g w.rest.left ≡ flat g = (λ g w. ap flat (placed_none g w.rest.left w.rest.from (omega (arith, length-drop c.loop-i.i c.args.x.now)))) in
    let end-room : c.loop-i.k + length c.args.t.now ≤ length c.loop-i.out = (omega (arith, whole_room, ap length (end_text c.requires.1 walk), ap length c.requires.3)) in
    omega (arith, end-room, c.copy-arg-2-1.given)

pub returns : goal.returns
returns c =
    let end_text : (g : Forest) (w : Writing (text g) c.args.x.now c.args.out.now c.loop-i.out c.loop-i.i c.loop-i.k) → text g w.rest.left ≡ flat g = (λ g w. ap flat (placed_none g w.rest.left w.rest.from (omega (arith, length-drop c.loop-i.i c.args.x.now)))) in
    λ j g e et.
    let w = c.loop-i.invariant.2 g et (same_leaf c.requires.1 g c.requires.3 c.requires.4 et) in
    writing_last (text g) w (end_text g w ∙ sym et) c.copy-2.ensures j e
