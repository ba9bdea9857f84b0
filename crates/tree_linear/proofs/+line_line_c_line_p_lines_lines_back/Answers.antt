use Prim.Native.Nat.{◌+◌, ℕ, ◌≤◌, ◌-◌}
use lib.ListN.{length, take, drop, length-append, length-drop}
use mathlib.Core.Option.{some}
use mathlib.Core.Path.{sym, ap, ◌∙◌, refl, ◌≡◌}
use native.Mathlib.Omega.{arith}
use Rattle.tree_tokens.specs.Tokens.{flat, Judged, tree, encode}
use Rattle.spec_orders.specs.Tree.{Forest}
use Rattle.tree_tokens.specs.Views.{first_of, rest_of}
use Rattle.tree_tokens.proofs.Laws.{at_end, shape_read}
use Rattle.tree_tokens.proofs.Sequences.{plain-length}
use Rattle.tree_tokens.proofs.Writes.{wrote_none, wrote_one, wrote_then}
use Rattle.tree_pieces.proofs.Laws.{totals_none, flat_nil, AtFirst, at_first}
use Rattle.tree_linear.proofs.Laws.{line_token, line_kept, line_of_c, line_of_p, c_turned, c_kept, p_split, p_length, near_small, far_small, lines_split, lines-length, lines_until}
use Rattle.tree_judge.specs.Total.{totals, whole_of}
use Rattle.spec_orders.specs.Reduce.{pack}
use Rattle.tree_pieces.specs.Writers.{with_state, from_partial, first_in_line, far, all_in_line}
use mathlib.Core.Bool.{Bool}
use mathlib.Core.List.{List, ◌++◌, append_assoc, append-nil}
use Rattle.spec_orders.proofs.ListLaws.{part_to_end}
use Rattle.tree_spans.specs.Spans.{is_not, passing, beyond}
use Rattle.tree_pieces.proofs.Walks.{passing-length}
use Rattle.tree_pieces.proofs.States.{none_beyond, some_beyond}
use Rattle.tree_linear.proofs.Backs.{backing_room, backing_next, backing_last, backing_end}
use Rattle.tree_linear.proofs.+line_line_c_line_p_lines_lines_back.Goals as goal

-- All items in a line, from the first to the last.
-- The tokens of all items in a line.
abbrev text : Bool → Judged → List ℕ
text back j = flat (all_in_line back (totals j))

pub line-returns-then-x-eq0 : goal.line-returns-then-x-eq0
line-returns-then-x-eq0 t c = λ j e. rw (at_end j e c.if-x-eq0.true, totals_none, flat_nil) (wrote_none _)

pub line-bounds-out-0 : goal.line-bounds-out-0
line-bounds-out-0 t c = let p = c.requires.0 in omega (arith, p.2, ap length (line_token c.args.back p.0 p.1 (sym (c.shape-shape.ensures p.0 p.1) ∙ ap some c.in-Leaf.is)))

pub line-returns-in-Leaf : goal.line-returns-in-Leaf
line-returns-in-Leaf t c = λ j e. rw (line_token c.args.back j e (sym (c.shape-shape.ensures j e) ∙ ap some c.in-Leaf.is)) (wrote_one _ _ (line-bounds-out-0 t c))

pub line-strip-requires : goal.line-strip-requires
line-strip-requires t c =
    let p = c.requires.0 in (
      (_, c.first.ensures.1 p.0 p.1),
      omega (arith, p.2, ap length (line_kept c.args.back p.0 (λ h. c.if-state-ne2.true (c.state.ensures p.0 p.1 ∙ h))), plain-length (first_of p.0), ap length (c.first.ensures.1 p.0 p.1)),
    )

pub line-returns-then-state-ne2 : goal.line-returns-then-state-ne2
line-returns-then-state-ne2 t c = λ j e. rw (line_kept c.args.back j (λ h. c.if-state-ne2.true (c.state.ensures j e ∙ h))) (c.strip.ensures.1 _ (c.first.ensures.1 j e))

pub line-line_c-requires : goal.line-line_c-requires
line-line_c-requires t c =
    let p = c.requires.0 in
    (omega arith, ((_, c.items.ensures.1 p.0 p.1, omega (arith, p.2, ap (λ (f : Forest). length (flat f)) (line_of_c c.args.back p.0 (sym (c.shape-shape.ensures p.0 p.1) ∙ ap some c.in-CNode.is) (sym (c.state.ensures p.0 p.1) ∙ c.if-state-ne2.false)))), omega (arith, c.items.ensures.0, c.requires.1)))

pub line-returns-in-CNode : goal.line-returns-in-CNode
line-returns-in-CNode t c = λ j e. rw (line_of_c c.args.back j (sym (c.shape-shape.ensures j e) ∙ ap some c.in-CNode.is) (sym (c.state.ensures j e) ∙ c.if-state-ne2.false)) (c.line_c.ensures _ (c.items.ensures.1 j e))

pub line-line_p-requires : goal.line-line_p-requires
line-line_p-requires t c =
    let p = c.requires.0 in
    (omega arith, ((_, c.items-in_default-shape.ensures.1 p.0 p.1, omega (arith, p.2, ap (λ (f : Forest). length (flat f)) (line_of_p c.args.back p.0 (λ h. c.in_default.not-Leaf (shape_read (c.shape-shape.ensures p.0 p.1) h)) (λ h. c.in_default-shape.not-CNode (shape_read (c.shape-shape.ensures p.0 p.1) h)) (sym (c.state.ensures p.0 p.1) ∙ c.if-state-ne2.false)))), omega (arith, c.items-in_default-shape.ensures.0, c.requires.1)))

pub line-returns-in_default-shape : goal.line-returns-in_default-shape
line-returns-in_default-shape t c = λ j e. rw (line_of_p c.args.back j (λ h. c.in_default.not-Leaf (shape_read (c.shape-shape.ensures j e) h)) (λ h. c.in_default-shape.not-CNode (shape_read (c.shape-shape.ensures j e) h)) (sym (c.state.ensures j e) ∙ c.if-state-ne2.false)) (c.line_p.ensures _ (c.items-in_default-shape.ensures.1 j e))

pub line_c-lines_back-requires : goal.line_c-lines_back-requires
line_c-lines_back-requires t c = let p = c.requires.0 in (omega arith, ((_, p.1, omega (arith, p.2, ap (λ (f : Forest). length (flat f)) (c_turned c.args.back (totals p.0) (c.rises.ensures p.0 p.1) c.if-rises-back.true))), c.requires.1))

pub line_c-returns-then-rises-back : goal.line_c-returns-then-rises-back
line_c-returns-then-rises-back t c = λ j e. rw (c_turned c.args.back (totals j) (c.rises.ensures j e) c.if-rises-back.true) (c.lines_back.ensures j e)

pub line_c-lines-requires : goal.line_c-lines-requires
line_c-lines-requires t c = let p = c.requires.0 in (omega arith, ((_, p.1, omega (arith, p.2, ap (λ (f : Forest). length (flat f)) (c_kept c.args.back (totals p.0) (c.rises.ensures p.0 p.1) c.if-rises-back.false))), c.requires.1))

pub line_c-returns : goal.line_c-returns
line_c-returns t c = λ j e. rw (c_kept c.args.back (totals j) (c.rises.ensures j e) c.if-rises-back.false) (c.lines.ensures j e)

pub line_p-pack_state-i-requires : goal.line_p-pack_state-i-requires
line_p-pack_state-i-requires t c = let p = c.requires.0 in ((_, p.1, omega (arith, p.2, p_length c.args.back p.0 c.near.ensures refl)), c.requires.1, omega (arith, c.near.ensures, near_small c.args.back))

pub line_p-line-requires : goal.line_p-line-requires
line_p-line-requires t c =
    let room-partial : c.pack_state-i.result + length (flat (first_in_line c.args.back (totals (from_partial c.requires.0.0)))) + length (flat (pack (whole_of (with_state (far c.args.back) (totals c.requires.0.0))))) ≤ length c.pack_state-i.new.out = (let p = c.requires.0 in
    omega (arith, p.2, p_length c.args.back p.0 c.near.ensures refl, (c.pack_state-i.ensures p.0 p.1).many, c.pack_state-i.auto.out)) in
    let p = c.requires.0 in
    (omega (arith, c.find_partial.ensures.0), ((_, c.find_partial.ensures.1 p.0 p.1, omega (arith, room-partial, c.line-arg-1.given)), omega (arith, c.find_partial.ensures.0, c.requires.1)))

pub line_p-offset_bounds-out-j : goal.line_p-offset_bounds-out-j
line_p-offset_bounds-out-j t c =
    let room-partial : c.pack_state-i.result + length (flat (first_in_line c.args.back (totals (from_partial c.requires.0.0)))) + length (flat (pack (whole_of (with_state (far c.args.back) (totals c.requires.0.0))))) ≤ length c.pack_state-i.new.out = (let p = c.requires.0 in
    omega (arith, p.2, p_length c.args.back p.0 c.near.ensures refl, (c.pack_state-i.ensures p.0 p.1).many, c.pack_state-i.auto.out)) in
    let room-far : c.pack_state-i.result + c.line.result + length (flat (pack (whole_of (with_state (far c.args.back) (totals c.requires.0.0))))) ≤ length c.args.out.now = (let p = c.requires.0 in
    omega (arith, room-partial, (c.line.ensures _ (c.find_partial.ensures.1 p.0 p.1)).many, c.pack_state-i.auto.out)) in
    omega (arith, room-far, c.well_formed.1.1.0)

pub line_p-slice_bounds-pack_state-count : goal.line_p-slice_bounds-pack_state-count
line_p-slice_bounds-pack_state-count t c =
    let room-partial : c.pack_state-i.result + length (flat (first_in_line c.args.back (totals (from_partial c.requires.0.0)))) + length (flat (pack (whole_of (with_state (far c.args.back) (totals c.requires.0.0))))) ≤ length c.pack_state-i.new.out = (let p = c.requires.0 in
    omega (arith, p.2, p_length c.args.back p.0 c.near.ensures refl, (c.pack_state-i.ensures p.0 p.1).many, c.pack_state-i.auto.out)) in
    let room-far : c.pack_state-i.result + c.line.result + length (flat (pack (whole_of (with_state (far c.args.back) (totals c.requires.0.0))))) ≤ length c.args.out.now = (let p = c.requires.0 in
    omega (arith, room-partial, (c.line.ensures _ (c.find_partial.ensures.1 p.0 p.1)).many, c.pack_state-i.auto.out)) in
    omega (arith, room-far, c.pack_state-i.auto.out, c.out-2-1.given)

pub line_p-slice_bounds-pack_state-start : goal.line_p-slice_bounds-pack_state-start
line_p-slice_bounds-pack_state-start t c =
    let room-partial : c.pack_state-i.result + length (flat (first_in_line c.args.back (totals (from_partial c.requires.0.0)))) + length (flat (pack (whole_of (with_state (far c.args.back) (totals c.requires.0.0))))) ≤ length c.pack_state-i.new.out = (let p = c.requires.0 in
    omega (arith, p.2, p_length c.args.back p.0 c.near.ensures refl, (c.pack_state-i.ensures p.0 p.1).many, c.pack_state-i.auto.out)) in
    let room-far : c.pack_state-i.result + c.line.result + length (flat (pack (whole_of (with_state (far c.args.back) (totals c.requires.0.0))))) ≤ length c.args.out.now = (let p = c.requires.0 in
    omega (arith, room-partial, (c.line.ensures _ (c.find_partial.ensures.1 p.0 p.1)).many, c.pack_state-i.auto.out)) in
    omega (arith, room-far, c.pack_state-i.auto.out, c.out-2-1.given)

pub line_p-pack_state-requires : goal.line_p-pack_state-requires
line_p-pack_state-requires t c =
    let room-partial : c.pack_state-i.result + length (flat (first_in_line c.args.back (totals (from_partial c.requires.0.0)))) + length (flat (pack (whole_of (with_state (far c.args.back) (totals c.requires.0.0))))) ≤ length c.pack_state-i.new.out = (let p = c.requires.0 in
    omega (arith, p.2, p_length c.args.back p.0 c.near.ensures refl, (c.pack_state-i.ensures p.0 p.1).many, c.pack_state-i.auto.out)) in
    let room-far : c.pack_state-i.result + c.line.result + length (flat (pack (whole_of (with_state (far c.args.back) (totals c.requires.0.0))))) ≤ length c.args.out.now = (let p = c.requires.0 in
    omega (arith, room-partial, (c.line.ensures _ (c.find_partial.ensures.1 p.0 p.1)).many, c.pack_state-i.auto.out)) in
    let p = c.requires.0 in (
      (
        _,
        p.1,
        omega (
          arith,
          room-far,
          ap (λ (n : ℕ). length (flat (pack (whole_of (with_state n (totals p.0)))))) c.far.ensures,
          c.pack_state-i.auto.out,
          c.out-2-1.given,
          c.pack_state-arg-2-1.given,
        ),
      ),
      c.requires.1,
      omega (arith, c.far.ensures, far_small c.args.back),
    )

pub line_p-returns : goal.line_p-returns
line_p-returns t c = λ j e.
    rw (p_split c.args.back j c.near.ensures c.far.ensures)
    (wrote_then (wrote_then (c.pack_state-i.ensures j e) (c.line.ensures _ (c.find_partial.ensures.1 j e))) (c.pack_state.ensures j e))

pub line_p-overflow_add-result : goal.line_p-overflow_add-result
line_p-overflow_add-result t c = let p = c.requires.0 in omega (arith, (line_p-returns t c p.0 p.1).many, p.2, c.well_formed.1.1.0)

pub lines-strip-k-requires : goal.lines-strip-k-requires
lines-strip-k-requires t c =
    let its : (j : Judged) → c.args.x.now ≡ encode j → take (c.until-i.result - 0) (drop 0 c.args.x.now) ≡ encode (passing (is_not 2) j) = (λ j e. let n : c.until-i.result - 0 ≡ c.until-i.result = omega arith in rw n (c.until-i.ensures.1 j e).front) in
    let room : c.until-i.result + length (text c.args.back (beyond (is_not 2) c.requires.0.0)) ≤ length c.args.out.now = (let j = c.requires.0.0 in
    omega (
      arith,
      c.requires.0.2,
      ap length (lines_until c.args.back j) ∙ length-append (flat (tree (passing (is_not 2) j))) (text c.args.back (beyond (is_not 2) j)),
      passing-length j (c.until-i.ensures.1 j c.requires.0.1) c.until-i.ensures.0,
    )) in
    ((_, its c.requires.0.0 c.requires.0.1), omega (arith, room, c.strip-arg-1.given))

pub lines-returns-then-i-x : goal.lines-returns-then-i-x
lines-returns-then-i-x t c =
    let its : (j : Judged) → c.args.x.now ≡ encode j → take (c.until-i.result - 0) (drop 0 c.args.x.now) ≡ encode (passing (is_not 2) j) = (λ j e. let n : c.until-i.result - 0 ≡ c.until-i.result = omega arith in rw n (c.until-i.ensures.1 j e).front) in
    λ j e.
    let back = c.args.back in
    let none = ap (text back) (none_beyond j (c.until-i.ensures.1 j e) c.if-i-x.true) ∙ ap (λ ts. flat (all_in_line back ts)) totals_none ∙ flat_nil in
    rw (lines_until back j, none, append-nil) (c.strip-k.ensures.1 _ (its j e))

pub lines-line-requires : goal.lines-line-requires
lines-line-requires t c =
    let others : (j : Judged) → c.args.x.now ≡ encode j → take (length c.args.x.now - c.until-i.result) (drop c.until-i.result c.args.x.now) ≡ encode (beyond (is_not 2) j) = (λ j e. part_to_end c.args.x.now c.until-i.result ∙ (c.until-i.ensures.1 j e).back) in
    let room : c.until-i.result + length (text c.args.back (beyond (is_not 2) c.requires.0.0)) ≤ length c.args.out.now = (let j = c.requires.0.0 in
    omega (
      arith,
      c.requires.0.2,
      ap length (lines_until c.args.back j) ∙ length-append (flat (tree (passing (is_not 2) j))) (text c.args.back (beyond (is_not 2) j)),
      passing-length j (c.until-i.ensures.1 j c.requires.0.1) c.until-i.ensures.0,
    )) in
    let head : (j : Judged) → c.args.x.now ≡ encode j → AtFirst (beyond (is_not 2) j) = (λ j e. at_first (beyond (is_not 2) j) (some_beyond j (c.until-i.ensures.1 j e) c.until-i.ensures.0 c.if-i-x.false)) in
    let both : c.until-i.result + (length (flat (first_in_line c.args.back (totals (beyond (is_not 2) c.requires.0.0)))) + length (text c.args.back (rest_of (beyond (is_not 2) c.requires.0.0)))) ≤ length c.args.out.now = (omega (arith, room, lines-length c.args.back (head c.requires.0.0 c.requires.0.1))) in
    let kept : (c.strip-k.result ≡ c.until-i.result) × (length c.strip-k.new.out ≡ length c.args.out.now) = ((omega (arith, c.strip-k.ensures.0, c.strip-arg-1.given), c.strip-k.auto.out)) in (
      omega (arith, length-drop c.until-i.result c.args.x.now),
      ((_, others c.requires.0.0 c.requires.0.1, omega (arith, both, kept.0, kept.1, c.line-arg-1.given)), omega (arith, length-drop c.until-i.result c.args.x.now, c.requires.1)),
    )

pub lines-overflow_add-m : goal.lines-overflow_add-m
lines-overflow_add-m t c =
    let others : (j : Judged) → c.args.x.now ≡ encode j → take (length c.args.x.now - c.until-i.result) (drop c.until-i.result c.args.x.now) ≡ encode (beyond (is_not 2) j) = (λ j e. part_to_end c.args.x.now c.until-i.result ∙ (c.until-i.ensures.1 j e).back) in
    let room : c.until-i.result + length (text c.args.back (beyond (is_not 2) c.requires.0.0)) ≤ length c.args.out.now = (let j = c.requires.0.0 in
    omega (
      arith,
      c.requires.0.2,
      ap length (lines_until c.args.back j) ∙ length-append (flat (tree (passing (is_not 2) j))) (text c.args.back (beyond (is_not 2) j)),
      passing-length j (c.until-i.ensures.1 j c.requires.0.1) c.until-i.ensures.0,
    )) in
    let head : (j : Judged) → c.args.x.now ≡ encode j → AtFirst (beyond (is_not 2) j) = (λ j e. at_first (beyond (is_not 2) j) (some_beyond j (c.until-i.ensures.1 j e) c.until-i.ensures.0 c.if-i-x.false)) in
    let both : c.until-i.result + (length (flat (first_in_line c.args.back (totals (beyond (is_not 2) c.requires.0.0)))) + length (text c.args.back (rest_of (beyond (is_not 2) c.requires.0.0)))) ≤ length c.args.out.now = (omega (arith, room, lines-length c.args.back (head c.requires.0.0 c.requires.0.1))) in
    let kept : (c.strip-k.result ≡ c.until-i.result) × (length c.strip-k.new.out ≡ length c.args.out.now) = ((omega (arith, c.strip-k.ensures.0, c.strip-arg-1.given), c.strip-k.auto.out)) in
    omega (arith, both, kept.0, kept.1, (c.line.ensures _ (others c.requires.0.0 c.requires.0.1)).many, c.well_formed.1.1.0)

pub lines-offset_bounds-out-m : goal.lines-offset_bounds-out-m
lines-offset_bounds-out-m t c =
    let others : (j : Judged) → c.args.x.now ≡ encode j → take (length c.args.x.now - c.until-i.result) (drop c.until-i.result c.args.x.now) ≡ encode (beyond (is_not 2) j) = (λ j e. part_to_end c.args.x.now c.until-i.result ∙ (c.until-i.ensures.1 j e).back) in
    let room : c.until-i.result + length (text c.args.back (beyond (is_not 2) c.requires.0.0)) ≤ length c.args.out.now = (let j = c.requires.0.0 in
    omega (
      arith,
      c.requires.0.2,
      ap length (lines_until c.args.back j) ∙ length-append (flat (tree (passing (is_not 2) j))) (text c.args.back (beyond (is_not 2) j)),
      passing-length j (c.until-i.ensures.1 j c.requires.0.1) c.until-i.ensures.0,
    )) in
    let head : (j : Judged) → c.args.x.now ≡ encode j → AtFirst (beyond (is_not 2) j) = (λ j e. at_first (beyond (is_not 2) j) (some_beyond j (c.until-i.ensures.1 j e) c.until-i.ensures.0 c.if-i-x.false)) in
    let both : c.until-i.result + (length (flat (first_in_line c.args.back (totals (beyond (is_not 2) c.requires.0.0)))) + length (text c.args.back (rest_of (beyond (is_not 2) c.requires.0.0)))) ≤ length c.args.out.now = (omega (arith, room, lines-length c.args.back (head c.requires.0.0 c.requires.0.1))) in
    let kept : (c.strip-k.result ≡ c.until-i.result) × (length c.strip-k.new.out ≡ length c.args.out.now) = ((omega (arith, c.strip-k.ensures.0, c.strip-arg-1.given), c.strip-k.auto.out)) in
    omega (arith, both, kept.0, kept.1, (c.line.ensures _ (others c.requires.0.0 c.requires.0.1)).many, c.out-2-1.given.1, c.well_formed.1.1.0)

pub lines-slice_bounds-lines-count : goal.lines-slice_bounds-lines-count
lines-slice_bounds-lines-count t c =
    let others : (j : Judged) → c.args.x.now ≡ encode j → take (length c.args.x.now - c.until-i.result) (drop c.until-i.result c.args.x.now) ≡ encode (beyond (is_not 2) j) = (λ j e. part_to_end c.args.x.now c.until-i.result ∙ (c.until-i.ensures.1 j e).back) in
    let room : c.until-i.result + length (text c.args.back (beyond (is_not 2) c.requires.0.0)) ≤ length c.args.out.now = (let j = c.requires.0.0 in
    omega (
      arith,
      c.requires.0.2,
      ap length (lines_until c.args.back j) ∙ length-append (flat (tree (passing (is_not 2) j))) (text c.args.back (beyond (is_not 2) j)),
      passing-length j (c.until-i.ensures.1 j c.requires.0.1) c.until-i.ensures.0,
    )) in
    let head : (j : Judged) → c.args.x.now ≡ encode j → AtFirst (beyond (is_not 2) j) = (λ j e. at_first (beyond (is_not 2) j) (some_beyond j (c.until-i.ensures.1 j e) c.until-i.ensures.0 c.if-i-x.false)) in
    let both : c.until-i.result + (length (flat (first_in_line c.args.back (totals (beyond (is_not 2) c.requires.0.0)))) + length (text c.args.back (rest_of (beyond (is_not 2) c.requires.0.0)))) ≤ length c.args.out.now = (omega (arith, room, lines-length c.args.back (head c.requires.0.0 c.requires.0.1))) in
    let kept : (c.strip-k.result ≡ c.until-i.result) × (length c.strip-k.new.out ≡ length c.args.out.now) = ((omega (arith, c.strip-k.ensures.0, c.strip-arg-1.given), c.strip-k.auto.out)) in
    omega (arith, both, kept.0, kept.1, (c.line.ensures _ (others c.requires.0.0 c.requires.0.1)).many, c.out-2-1.given.1, c.well_formed.1.1.0)

pub lines-slice_bounds-lines-start : goal.lines-slice_bounds-lines-start
lines-slice_bounds-lines-start t c =
    let others : (j : Judged) → c.args.x.now ≡ encode j → take (length c.args.x.now - c.until-i.result) (drop c.until-i.result c.args.x.now) ≡ encode (beyond (is_not 2) j) = (λ j e. part_to_end c.args.x.now c.until-i.result ∙ (c.until-i.ensures.1 j e).back) in
    let room : c.until-i.result + length (text c.args.back (beyond (is_not 2) c.requires.0.0)) ≤ length c.args.out.now = (let j = c.requires.0.0 in
    omega (
      arith,
      c.requires.0.2,
      ap length (lines_until c.args.back j) ∙ length-append (flat (tree (passing (is_not 2) j))) (text c.args.back (beyond (is_not 2) j)),
      passing-length j (c.until-i.ensures.1 j c.requires.0.1) c.until-i.ensures.0,
    )) in
    let head : (j : Judged) → c.args.x.now ≡ encode j → AtFirst (beyond (is_not 2) j) = (λ j e. at_first (beyond (is_not 2) j) (some_beyond j (c.until-i.ensures.1 j e) c.until-i.ensures.0 c.if-i-x.false)) in
    let both : c.until-i.result + (length (flat (first_in_line c.args.back (totals (beyond (is_not 2) c.requires.0.0)))) + length (text c.args.back (rest_of (beyond (is_not 2) c.requires.0.0)))) ≤ length c.args.out.now = (omega (arith, room, lines-length c.args.back (head c.requires.0.0 c.requires.0.1))) in
    let kept : (c.strip-k.result ≡ c.until-i.result) × (length c.strip-k.new.out ≡ length c.args.out.now) = ((omega (arith, c.strip-k.ensures.0, c.strip-arg-1.given), c.strip-k.auto.out)) in
    omega (arith, both, kept.0, kept.1, (c.line.ensures _ (others c.requires.0.0 c.requires.0.1)).many, c.out-2-1.given.1, c.well_formed.1.1.0)

pub lines-lines-requires : goal.lines-lines-requires
lines-lines-requires t c =
    let others : (j : Judged) → c.args.x.now ≡ encode j → take (length c.args.x.now - c.until-i.result) (drop c.until-i.result c.args.x.now) ≡ encode (beyond (is_not 2) j) = (λ j e. part_to_end c.args.x.now c.until-i.result ∙ (c.until-i.ensures.1 j e).back) in
    let room : c.until-i.result + length (text c.args.back (beyond (is_not 2) c.requires.0.0)) ≤ length c.args.out.now = (let j = c.requires.0.0 in
    omega (
      arith,
      c.requires.0.2,
      ap length (lines_until c.args.back j) ∙ length-append (flat (tree (passing (is_not 2) j))) (text c.args.back (beyond (is_not 2) j)),
      passing-length j (c.until-i.ensures.1 j c.requires.0.1) c.until-i.ensures.0,
    )) in
    let head : (j : Judged) → c.args.x.now ≡ encode j → AtFirst (beyond (is_not 2) j) = (λ j e. at_first (beyond (is_not 2) j) (some_beyond j (c.until-i.ensures.1 j e) c.until-i.ensures.0 c.if-i-x.false)) in
    let both : c.until-i.result + (length (flat (first_in_line c.args.back (totals (beyond (is_not 2) c.requires.0.0)))) + length (text c.args.back (rest_of (beyond (is_not 2) c.requires.0.0)))) ≤ length c.args.out.now = (omega (arith, room, lines-length c.args.back (head c.requires.0.0 c.requires.0.1))) in
    let kept : (c.strip-k.result ≡ c.until-i.result) × (length c.strip-k.new.out ≡ length c.args.out.now) = ((omega (arith, c.strip-k.ensures.0, c.strip-arg-1.given), c.strip-k.auto.out)) in (
      omega (arith, length-drop c.until-i.result c.args.x.now, c.rest.ensures.0),
      ((_, c.rest.ensures.1 _ (others c.requires.0.0 c.requires.0.1), omega (arith, both, kept.0, kept.1, (c.line.ensures _ (others c.requires.0.0 c.requires.0.1)).many, c.out-2-1.given.1, c.lines-arg-1.given)), omega (arith, length-drop c.until-i.result c.args.x.now, c.rest.ensures.0, c.requires.1)),
    )

pub lines-overflow_add-result : goal.lines-overflow_add-result
lines-overflow_add-result t c =
    let others : (j : Judged) → c.args.x.now ≡ encode j → take (length c.args.x.now - c.until-i.result) (drop c.until-i.result c.args.x.now) ≡ encode (beyond (is_not 2) j) = (λ j e. part_to_end c.args.x.now c.until-i.result ∙ (c.until-i.ensures.1 j e).back) in
    let room : c.until-i.result + length (text c.args.back (beyond (is_not 2) c.requires.0.0)) ≤ length c.args.out.now = (let j = c.requires.0.0 in
    omega (
      arith,
      c.requires.0.2,
      ap length (lines_until c.args.back j) ∙ length-append (flat (tree (passing (is_not 2) j))) (text c.args.back (beyond (is_not 2) j)),
      passing-length j (c.until-i.ensures.1 j c.requires.0.1) c.until-i.ensures.0,
    )) in
    let head : (j : Judged) → c.args.x.now ≡ encode j → AtFirst (beyond (is_not 2) j) = (λ j e. at_first (beyond (is_not 2) j) (some_beyond j (c.until-i.ensures.1 j e) c.until-i.ensures.0 c.if-i-x.false)) in
    let both : c.until-i.result + (length (flat (first_in_line c.args.back (totals (beyond (is_not 2) c.requires.0.0)))) + length (text c.args.back (rest_of (beyond (is_not 2) c.requires.0.0)))) ≤ length c.args.out.now = (omega (arith, room, lines-length c.args.back (head c.requires.0.0 c.requires.0.1))) in
    let kept : (c.strip-k.result ≡ c.until-i.result) × (length c.strip-k.new.out ≡ length c.args.out.now) = ((omega (arith, c.strip-k.ensures.0, c.strip-arg-1.given), c.strip-k.auto.out)) in
    omega (arith, both, kept.0, kept.1, (c.line.ensures _ (others c.requires.0.0 c.requires.0.1)).many, (c.lines.ensures _ (c.rest.ensures.1 _ (others c.requires.0.0 c.requires.0.1))).many, c.well_formed.1.1.0)

pub lines-returns : goal.lines-returns
lines-returns t c =
    let its : (j : Judged) → c.args.x.now ≡ encode j → take (c.until-i.result - 0) (drop 0 c.args.x.now) ≡ encode (passing (is_not 2) j) = (λ j e. let n : c.until-i.result - 0 ≡ c.until-i.result = omega arith in rw n (c.until-i.ensures.1 j e).front) in
    let others : (j : Judged) → c.args.x.now ≡ encode j → take (length c.args.x.now - c.until-i.result) (drop c.until-i.result c.args.x.now) ≡ encode (beyond (is_not 2) j) = (λ j e. part_to_end c.args.x.now c.until-i.result ∙ (c.until-i.ensures.1 j e).back) in
    let head : (j : Judged) → c.args.x.now ≡ encode j → AtFirst (beyond (is_not 2) j) = (λ j e. at_first (beyond (is_not 2) j) (some_beyond j (c.until-i.ensures.1 j e) c.until-i.ensures.0 c.if-i-x.false)) in
    λ j e.
    let back = c.args.back in
    let k = beyond (is_not 2) j in
    let a = flat (tree (passing (is_not 2) j)) in
    let y = others j e in
    rw (lines_until back j ∙ ap (λ (l : List ℕ). a ++ l) (lines_split back (head j e)) ∙ sym (append_assoc a (flat (first_in_line back (totals k))) (text back (rest_of k))))
    (wrote_then (wrote_then (c.strip-k.ensures.1 _ (its j e)) (c.line.ensures k y)) (c.lines.ensures _ (c.rest.ensures.1 k y)))

pub lines_back-lines_back-k-requires : goal.lines_back-lines_back-k-requires
lines_back-lines_back-k-requires t c =
    let q = backing_room c.requires.0 c.loop-i-test.true c.loop-i.invariant.1 c.loop-i.invariant.3 in
    (omega (arith, c.rest.ensures.0, c.y-1.given, c.loop-i.invariant.1), ((_, c.rest.ensures.1 q.0 q.1, omega (arith, q.2, c.loop-i.invariant.2, c.lines_back-arg-1.given)), omega (arith, c.rest.ensures.0, c.y-1.given, c.loop-i.invariant.1, c.requires.1)))

pub lines_back-overflow_add-k : goal.lines_back-overflow_add-k
lines_back-overflow_add-k t c = let q = backing_room c.requires.0 c.loop-i-test.true c.loop-i.invariant.1 c.loop-i.invariant.3 in omega (arith, q.2, (c.lines_back-k.ensures _ (c.rest.ensures.1 q.0 q.1)).many, c.well_formed.1.1.0)

pub lines_back-offset_bounds-out-k-then-not-turns : goal.lines_back-offset_bounds-out-k-then-not-turns
lines_back-offset_bounds-out-k-then-not-turns t c = let q = backing_room c.requires.0 c.loop-i-test.true c.loop-i.invariant.1 c.loop-i.invariant.3 in omega (arith, q.2, (c.lines_back-k.ensures _ (c.rest.ensures.1 q.0 q.1)).many, c.well_formed.1.1.0, c.loop-i.invariant.2, c.out-1.given.1)

pub lines_back-slice_bounds-line-count : goal.lines_back-slice_bounds-line-count
lines_back-slice_bounds-line-count t c = let q = backing_room c.requires.0 c.loop-i-test.true c.loop-i.invariant.1 c.loop-i.invariant.3 in omega (arith, q.2, (c.lines_back-k.ensures _ (c.rest.ensures.1 q.0 q.1)).many, c.well_formed.1.1.0, c.loop-i.invariant.2, c.out-1.given.1)

pub lines_back-slice_bounds-line-start : goal.lines_back-slice_bounds-line-start
lines_back-slice_bounds-line-start t c = let q = backing_room c.requires.0 c.loop-i-test.true c.loop-i.invariant.1 c.loop-i.invariant.3 in omega (arith, q.2, (c.lines_back-k.ensures _ (c.rest.ensures.1 q.0 q.1)).many, c.well_formed.1.1.0, c.loop-i.invariant.2, c.out-1.given.1)

pub lines_back-line-requires : goal.lines_back-line-requires
lines_back-line-requires t c =
    let q = backing_room c.requires.0 c.loop-i-test.true c.loop-i.invariant.1 c.loop-i.invariant.3 in
    (omega (arith, c.y-1.given, c.loop-i.invariant.1), ((_, q.1, omega (arith, q.2, (c.lines_back-k.ensures _ (c.rest.ensures.1 q.0 q.1)).many, c.loop-i.invariant.2, c.out-1.given.1, c.line-arg-1.given)), omega (arith, c.y-1.given, c.loop-i.invariant.1, c.requires.1)))

pub lines_back-returns-then-not-turns : goal.lines_back-returns-then-not-turns
lines_back-returns-then-not-turns t c = λ j e. backing_last c.loop-i-test.true c.loop-i.invariant.1 (λ h p. c.lines_back-k.ensures _ (c.rest.ensures.1 h p)) (λ h p. c.line.ensures h p) c.loop-i.invariant.3 j e

pub lines_back-overflow_add-result : goal.lines_back-overflow_add-result
lines_back-overflow_add-result t c = let p = c.requires.0 in omega (arith, (lines_back-returns-then-not-turns t c p.0 p.1).many, p.2, c.well_formed.1.1.0)

pub lines_back-loop-i-preserved : goal.lines_back-loop-i-preserved
lines_back-loop-i-preserved t c = (
  omega (arith, c.size.ensures.0),
  omega (arith, c.size.ensures.1, c.y-1.given, c.loop-i.invariant.1),
  c.out-1.given.1 ∙ c.loop-i.invariant.2,
  backing_next c.loop-i-test.true c.loop-i.invariant.1 c.size.ensures.0 (omega (arith, c.size.ensures.1, c.y-1.given)) c.size.ensures.2 (λ h p. c.turns.ensures h p c.if-not-turns.false) (λ h p. c.lines_back-k.ensures _ (c.rest.ensures.1 h p)) c.loop-i.invariant.3,
)

pub lines_back-returns : goal.lines_back-returns
lines_back-returns t c = λ j e. backing_end (omega arith) c.loop-i.invariant.3 j e
