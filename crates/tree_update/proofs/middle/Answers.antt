use mathlib.Core.Path.{◌≡◌, refl, ap, ◌∙◌}
use mathlib.Core.Bool.{true, false}
use mathlib.Core.List.{List, [], ◌++◌, append_assoc, append-nil}
use Prim.Native.Nat.{ℕ, ◌+◌, ◌-◌, ◌≤◌}
use native.Mathlib.Omega.{arith}
use lib.ListN.{length, take, drop, length-append, length-drop}
use Rattle.spec_orders.proofs.ListLaws.{part_to_end}
use Rattle.tree_tokens.specs.Tokens.{Judged, j_nil, tree, encode, flat}
use Rattle.tree_tokens.specs.Views.{rest_of}
use Rattle.tree_tokens.proofs.Writes.{wrote_then}
use Rattle.tree_spans.specs.Spans.{is, passing, beyond}
use Rattle.tree_judge.specs.Total.{middle_of, totals}
use Rattle.tree_pieces.specs.Writers.{first_in_line, all_in_line}
use Rattle.tree_pieces.proofs.Walks.{passing-length}
use Rattle.tree_pieces.proofs.States.{none_beyond, some_beyond}
use Rattle.tree_update.proofs.Laws.{middle_none, middle_span}
use Rattle.tree_update.proofs.OneItem.{middle_apart}
use Rattle.tree_update.proofs.middle.Goals as goal

-- The tokens of the items with their full leaves consecutive.
abbrev text : Judged → List ℕ
text j = flat (middle_of (totals j))

none : text j_nil ≡ []
unfolding encode
none = middle_none j_nil {l = []} refl refl

pub strip-k-requires : goal.strip-k-requires
strip-k-requires c =
    let its : (j : Judged) → c.args.x.now ≡ encode j → take (c.span-i.result - 0) (drop 0 c.args.x.now) ≡ encode (passing (is 0) j) = (λ j e. let n : c.span-i.result - 0 ≡ c.span-i.result = omega arith in rw n (c.span-i.ensures.1 j e).front) in
    let room : c.span-i.result ≤ length c.args.out.now = (let j = c.requires.0.0 in
    omega (
      arith,
      c.requires.0.2,
      ap length (middle_span j) ∙ length-append (flat (tree (passing (is 0) j))) (text (beyond (is 0) j)),
      passing-length j (c.span-i.ensures.1 j c.requires.0.1) c.span-i.ensures.0,
    )) in
    ((_, its c.requires.0.0 c.requires.0.1), omega (arith, room, c.strip-arg-1.given))

pub returns-then-i-x : goal.returns-then-i-x
returns-then-i-x c =
    let its : (j : Judged) → c.args.x.now ≡ encode j → take (c.span-i.result - 0) (drop 0 c.args.x.now) ≡ encode (passing (is 0) j) = (λ j e. let n : c.span-i.result - 0 ≡ c.span-i.result = omega arith in rw n (c.span-i.ensures.1 j e).front) in
    λ j e.
    let end = ap text (none_beyond j (c.span-i.ensures.1 j e) c.if-i-x.true) ∙ none in
    rw (middle_span j, end, append-nil) (c.strip-k.ensures.1 _ (its j e))

pub line-requires : goal.line-requires
line-requires c =
    let others : (j : Judged) → c.args.x.now ≡ encode j → take (length c.args.x.now - c.span-i.result) (drop c.span-i.result c.args.x.now) ≡ encode (beyond (is 0) j) = (λ j e. part_to_end c.args.x.now c.span-i.result ∙ (c.span-i.ensures.1 j e).back) in
    let apart : (j : Judged) → c.args.x.now ≡ encode j
    → text j ≡ flat (tree (passing (is 0) j)) ++ (flat (first_in_line false (totals (beyond (is 0) j))) ++ flat (all_in_line true (totals (rest_of (beyond (is 0) j))))) = (λ j e. middle_apart j (some_beyond j (c.span-i.ensures.1 j e) c.span-i.ensures.0 c.if-i-x.false) (c.requires.3 j e)) in
    let sizes : (c.strip-k.result + (length (flat (first_in_line false (totals (beyond (is 0) c.requires.0.0)))) + length (flat (all_in_line true (totals (rest_of (beyond (is 0) c.requires.0.0)))))) ≤ length c.args.out.now)
    × (length c.strip-k.new.out ≡ length c.args.out.now) = (let j = c.requires.0.0 in
    let p = flat (tree (passing (is 0) j)) in
    let a = flat (first_in_line false (totals (beyond (is 0) j))) in
    let b = flat (all_in_line true (totals (rest_of (beyond (is 0) j)))) in (
      omega (
        arith,
        c.requires.0.2,
        ap length (apart j c.requires.0.1) ∙ length-append p (a ++ b),
        length-append a b,
        passing-length j (c.span-i.ensures.1 j c.requires.0.1) c.span-i.ensures.0,
        c.strip-k.ensures.0,
        c.strip-arg-1.given,
      ),
      c.strip-k.auto.out,
    )) in (
      (_, others c.requires.0.0 c.requires.0.1, omega (arith, sizes, c.line-arg-1.given)),
      omega (arith, length-drop c.span-i.result c.args.x.now, c.requires.1),
    )

pub overflow_add-m : goal.overflow_add-m
overflow_add-m c =
    let others : (j : Judged) → c.args.x.now ≡ encode j → take (length c.args.x.now - c.span-i.result) (drop c.span-i.result c.args.x.now) ≡ encode (beyond (is 0) j) = (λ j e. part_to_end c.args.x.now c.span-i.result ∙ (c.span-i.ensures.1 j e).back) in
    let apart : (j : Judged) → c.args.x.now ≡ encode j
    → text j ≡ flat (tree (passing (is 0) j)) ++ (flat (first_in_line false (totals (beyond (is 0) j))) ++ flat (all_in_line true (totals (rest_of (beyond (is 0) j))))) = (λ j e. middle_apart j (some_beyond j (c.span-i.ensures.1 j e) c.span-i.ensures.0 c.if-i-x.false) (c.requires.3 j e)) in
    let sizes : (c.strip-k.result + (length (flat (first_in_line false (totals (beyond (is 0) c.requires.0.0)))) + length (flat (all_in_line true (totals (rest_of (beyond (is 0) c.requires.0.0)))))) ≤ length c.args.out.now)
    × (length c.strip-k.new.out ≡ length c.args.out.now) = (let j = c.requires.0.0 in
    let p = flat (tree (passing (is 0) j)) in
    let a = flat (first_in_line false (totals (beyond (is 0) j))) in
    let b = flat (all_in_line true (totals (rest_of (beyond (is 0) j)))) in (
      omega (
        arith,
        c.requires.0.2,
        ap length (apart j c.requires.0.1) ∙ length-append p (a ++ b),
        length-append a b,
        passing-length j (c.span-i.ensures.1 j c.requires.0.1) c.span-i.ensures.0,
        c.strip-k.ensures.0,
        c.strip-arg-1.given,
      ),
      c.strip-k.auto.out,
    )) in
    let lined : (c.strip-k.result + c.line.result + length (flat (all_in_line true (totals (rest_of (beyond (is 0) c.requires.0.0))))) ≤ length c.args.out.now) = (omega (arith, sizes, (c.line.ensures _ (others c.requires.0.0 c.requires.0.1)).many)) in
    omega (arith, lined, c.requires.2)

pub offset_bounds-out-m : goal.offset_bounds-out-m
offset_bounds-out-m c =
    let apart : (j : Judged) → c.args.x.now ≡ encode j
    → text j ≡ flat (tree (passing (is 0) j)) ++ (flat (first_in_line false (totals (beyond (is 0) j))) ++ flat (all_in_line true (totals (rest_of (beyond (is 0) j))))) = (λ j e. middle_apart j (some_beyond j (c.span-i.ensures.1 j e) c.span-i.ensures.0 c.if-i-x.false) (c.requires.3 j e)) in
    let sizes : (c.strip-k.result + (length (flat (first_in_line false (totals (beyond (is 0) c.requires.0.0)))) + length (flat (all_in_line true (totals (rest_of (beyond (is 0) c.requires.0.0)))))) ≤ length c.args.out.now)
    × (length c.strip-k.new.out ≡ length c.args.out.now) = (let j = c.requires.0.0 in
    let p = flat (tree (passing (is 0) j)) in
    let a = flat (first_in_line false (totals (beyond (is 0) j))) in
    let b = flat (all_in_line true (totals (rest_of (beyond (is 0) j)))) in (
      omega (
        arith,
        c.requires.0.2,
        ap length (apart j c.requires.0.1) ∙ length-append p (a ++ b),
        length-append a b,
        passing-length j (c.span-i.ensures.1 j c.requires.0.1) c.span-i.ensures.0,
        c.strip-k.ensures.0,
        c.strip-arg-1.given,
      ),
      c.strip-k.auto.out,
    )) in
    let others : (j : Judged) → c.args.x.now ≡ encode j → take (length c.args.x.now - c.span-i.result) (drop c.span-i.result c.args.x.now) ≡ encode (beyond (is 0) j) = (λ j e. part_to_end c.args.x.now c.span-i.result ∙ (c.span-i.ensures.1 j e).back) in
    let lined : (c.strip-k.result + c.line.result + length (flat (all_in_line true (totals (rest_of (beyond (is 0) c.requires.0.0))))) ≤ length c.args.out.now) = (omega (arith, sizes, (c.line.ensures _ (others c.requires.0.0 c.requires.0.1)).many)) in
    omega (arith, lined, sizes, c.out-2-1.given, c.requires.2)

pub slice_bounds-lines-count : goal.slice_bounds-lines-count
slice_bounds-lines-count c =
    let apart : (j : Judged) → c.args.x.now ≡ encode j
    → text j ≡ flat (tree (passing (is 0) j)) ++ (flat (first_in_line false (totals (beyond (is 0) j))) ++ flat (all_in_line true (totals (rest_of (beyond (is 0) j))))) = (λ j e. middle_apart j (some_beyond j (c.span-i.ensures.1 j e) c.span-i.ensures.0 c.if-i-x.false) (c.requires.3 j e)) in
    let sizes : (c.strip-k.result + (length (flat (first_in_line false (totals (beyond (is 0) c.requires.0.0)))) + length (flat (all_in_line true (totals (rest_of (beyond (is 0) c.requires.0.0)))))) ≤ length c.args.out.now)
    × (length c.strip-k.new.out ≡ length c.args.out.now) = (let j = c.requires.0.0 in
    let p = flat (tree (passing (is 0) j)) in
    let a = flat (first_in_line false (totals (beyond (is 0) j))) in
    let b = flat (all_in_line true (totals (rest_of (beyond (is 0) j)))) in (
      omega (
        arith,
        c.requires.0.2,
        ap length (apart j c.requires.0.1) ∙ length-append p (a ++ b),
        length-append a b,
        passing-length j (c.span-i.ensures.1 j c.requires.0.1) c.span-i.ensures.0,
        c.strip-k.ensures.0,
        c.strip-arg-1.given,
      ),
      c.strip-k.auto.out,
    )) in
    let others : (j : Judged) → c.args.x.now ≡ encode j → take (length c.args.x.now - c.span-i.result) (drop c.span-i.result c.args.x.now) ≡ encode (beyond (is 0) j) = (λ j e. part_to_end c.args.x.now c.span-i.result ∙ (c.span-i.ensures.1 j e).back) in
    let lined : (c.strip-k.result + c.line.result + length (flat (all_in_line true (totals (rest_of (beyond (is 0) c.requires.0.0))))) ≤ length c.args.out.now) = (omega (arith, sizes, (c.line.ensures _ (others c.requires.0.0 c.requires.0.1)).many)) in
    omega (arith, lined, sizes, c.out-2-1.given, c.requires.2)

pub slice_bounds-lines-start : goal.slice_bounds-lines-start
slice_bounds-lines-start c =
    let apart : (j : Judged) → c.args.x.now ≡ encode j
    → text j ≡ flat (tree (passing (is 0) j)) ++ (flat (first_in_line false (totals (beyond (is 0) j))) ++ flat (all_in_line true (totals (rest_of (beyond (is 0) j))))) = (λ j e. middle_apart j (some_beyond j (c.span-i.ensures.1 j e) c.span-i.ensures.0 c.if-i-x.false) (c.requires.3 j e)) in
    let sizes : (c.strip-k.result + (length (flat (first_in_line false (totals (beyond (is 0) c.requires.0.0)))) + length (flat (all_in_line true (totals (rest_of (beyond (is 0) c.requires.0.0)))))) ≤ length c.args.out.now)
    × (length c.strip-k.new.out ≡ length c.args.out.now) = (let j = c.requires.0.0 in
    let p = flat (tree (passing (is 0) j)) in
    let a = flat (first_in_line false (totals (beyond (is 0) j))) in
    let b = flat (all_in_line true (totals (rest_of (beyond (is 0) j)))) in (
      omega (
        arith,
        c.requires.0.2,
        ap length (apart j c.requires.0.1) ∙ length-append p (a ++ b),
        length-append a b,
        passing-length j (c.span-i.ensures.1 j c.requires.0.1) c.span-i.ensures.0,
        c.strip-k.ensures.0,
        c.strip-arg-1.given,
      ),
      c.strip-k.auto.out,
    )) in
    let others : (j : Judged) → c.args.x.now ≡ encode j → take (length c.args.x.now - c.span-i.result) (drop c.span-i.result c.args.x.now) ≡ encode (beyond (is 0) j) = (λ j e. part_to_end c.args.x.now c.span-i.result ∙ (c.span-i.ensures.1 j e).back) in
    let lined : (c.strip-k.result + c.line.result + length (flat (all_in_line true (totals (rest_of (beyond (is 0) c.requires.0.0))))) ≤ length c.args.out.now) = (omega (arith, sizes, (c.line.ensures _ (others c.requires.0.0 c.requires.0.1)).many)) in
    omega (arith, lined, sizes, c.out-2-1.given, c.requires.2)

pub lines-requires : goal.lines-requires
lines-requires c =
    let others : (j : Judged) → c.args.x.now ≡ encode j → take (length c.args.x.now - c.span-i.result) (drop c.span-i.result c.args.x.now) ≡ encode (beyond (is 0) j) = (λ j e. part_to_end c.args.x.now c.span-i.result ∙ (c.span-i.ensures.1 j e).back) in
    let apart : (j : Judged) → c.args.x.now ≡ encode j
    → text j ≡ flat (tree (passing (is 0) j)) ++ (flat (first_in_line false (totals (beyond (is 0) j))) ++ flat (all_in_line true (totals (rest_of (beyond (is 0) j))))) = (λ j e. middle_apart j (some_beyond j (c.span-i.ensures.1 j e) c.span-i.ensures.0 c.if-i-x.false) (c.requires.3 j e)) in
    let sizes : (c.strip-k.result + (length (flat (first_in_line false (totals (beyond (is 0) c.requires.0.0)))) + length (flat (all_in_line true (totals (rest_of (beyond (is 0) c.requires.0.0)))))) ≤ length c.args.out.now)
    × (length c.strip-k.new.out ≡ length c.args.out.now) = (let j = c.requires.0.0 in
    let p = flat (tree (passing (is 0) j)) in
    let a = flat (first_in_line false (totals (beyond (is 0) j))) in
    let b = flat (all_in_line true (totals (rest_of (beyond (is 0) j)))) in (
      omega (
        arith,
        c.requires.0.2,
        ap length (apart j c.requires.0.1) ∙ length-append p (a ++ b),
        length-append a b,
        passing-length j (c.span-i.ensures.1 j c.requires.0.1) c.span-i.ensures.0,
        c.strip-k.ensures.0,
        c.strip-arg-1.given,
      ),
      c.strip-k.auto.out,
    )) in
    let lined : (c.strip-k.result + c.line.result + length (flat (all_in_line true (totals (rest_of (beyond (is 0) c.requires.0.0))))) ≤ length c.args.out.now) = (omega (arith, sizes, (c.line.ensures _ (others c.requires.0.0 c.requires.0.1)).many)) in
    let y = others c.requires.0.0 c.requires.0.1 in (
      (_, c.rest.ensures.1 _ y, omega (arith, lined, sizes, c.out-2-1.given, c.lines-arg-1.given)),
      omega (arith, length-drop c.span-i.result c.args.x.now, c.rest.ensures.0, c.requires.1),
    )

pub overflow_add-result : goal.overflow_add-result
overflow_add-result c =
    let others : (j : Judged) → c.args.x.now ≡ encode j → take (length c.args.x.now - c.span-i.result) (drop c.span-i.result c.args.x.now) ≡ encode (beyond (is 0) j) = (λ j e. part_to_end c.args.x.now c.span-i.result ∙ (c.span-i.ensures.1 j e).back) in
    let apart : (j : Judged) → c.args.x.now ≡ encode j
    → text j ≡ flat (tree (passing (is 0) j)) ++ (flat (first_in_line false (totals (beyond (is 0) j))) ++ flat (all_in_line true (totals (rest_of (beyond (is 0) j))))) = (λ j e. middle_apart j (some_beyond j (c.span-i.ensures.1 j e) c.span-i.ensures.0 c.if-i-x.false) (c.requires.3 j e)) in
    let sizes : (c.strip-k.result + (length (flat (first_in_line false (totals (beyond (is 0) c.requires.0.0)))) + length (flat (all_in_line true (totals (rest_of (beyond (is 0) c.requires.0.0)))))) ≤ length c.args.out.now)
    × (length c.strip-k.new.out ≡ length c.args.out.now) = (let j = c.requires.0.0 in
    let p = flat (tree (passing (is 0) j)) in
    let a = flat (first_in_line false (totals (beyond (is 0) j))) in
    let b = flat (all_in_line true (totals (rest_of (beyond (is 0) j)))) in (
      omega (
        arith,
        c.requires.0.2,
        ap length (apart j c.requires.0.1) ∙ length-append p (a ++ b),
        length-append a b,
        passing-length j (c.span-i.ensures.1 j c.requires.0.1) c.span-i.ensures.0,
        c.strip-k.ensures.0,
        c.strip-arg-1.given,
      ),
      c.strip-k.auto.out,
    )) in
    let lined : (c.strip-k.result + c.line.result + length (flat (all_in_line true (totals (rest_of (beyond (is 0) c.requires.0.0))))) ≤ length c.args.out.now) = (omega (arith, sizes, (c.line.ensures _ (others c.requires.0.0 c.requires.0.1)).many)) in
    let y = others c.requires.0.0 c.requires.0.1 in omega (arith, lined, (c.lines.ensures _ (c.rest.ensures.1 _ y)).many, c.requires.2)

pub returns : goal.returns
returns c =
    let its : (j : Judged) → c.args.x.now ≡ encode j → take (c.span-i.result - 0) (drop 0 c.args.x.now) ≡ encode (passing (is 0) j) = (λ j e. let n : c.span-i.result - 0 ≡ c.span-i.result = omega arith in rw n (c.span-i.ensures.1 j e).front) in
    let others : (j : Judged) → c.args.x.now ≡ encode j → take (length c.args.x.now - c.span-i.result) (drop c.span-i.result c.args.x.now) ≡ encode (beyond (is 0) j) = (λ j e. part_to_end c.args.x.now c.span-i.result ∙ (c.span-i.ensures.1 j e).back) in
    let apart : (j : Judged) → c.args.x.now ≡ encode j
    → text j ≡ flat (tree (passing (is 0) j)) ++ (flat (first_in_line false (totals (beyond (is 0) j))) ++ flat (all_in_line true (totals (rest_of (beyond (is 0) j))))) = (λ j e. middle_apart j (some_beyond j (c.span-i.ensures.1 j e) c.span-i.ensures.0 c.if-i-x.false) (c.requires.3 j e)) in
    λ j e.
    let y = others j e in
    rw (apart j e, ← append_assoc (flat (tree (passing (is 0) j))) (flat (first_in_line false (totals (beyond (is 0) j)))) (flat (all_in_line true (totals (rest_of (beyond (is 0) j)))))) (wrote_then (wrote_then (c.strip-k.ensures.1 _ (its j e)) (c.line.ensures _ y)) (c.lines.ensures _ (c.rest.ensures.1 _ y)))
