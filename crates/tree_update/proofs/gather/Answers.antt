use mathlib.Core.Path.{◌≡◌, ap, ◌∙◌}
use mathlib.Core.Bool.{true, false}
use Prim.Native.Nat.{◌+◌, ◌≤◌}
use lib.ListN.{length}
use native.Mathlib.Omega.{arith}
use Rattle.spec_orders.specs.Tree.{Forest}
use Rattle.tree_tokens.specs.Tokens.{Judged, encode, flat}
use Rattle.tree_tokens.proofs.Writes.{wrote_then, read_part}
use Rattle.tree_judge.specs.Total.{totals}
use Rattle.tree_pieces.specs.Writers.{with_state, from_partial, first_in_line, gathered}
use Rattle.tree_update.proofs.Laws.{fulls, second, between, beside, gather_none, gather_two, gather_some, between-text, beside_text, between_sum, beside_sum, between-length, beside_length}
use Rattle.tree_update.proofs.OneItem.{some_full}
use Rattle.tree_update.proofs.gather.Goals as goal

pub pack_state-requires : goal.pack_state-requires
pack_state-requires c = let p = c.requires.0 in ((_, p.1, omega (arith, p.2, ap (λ (f : Forest). length (flat f)) (gather_none p.0 (c.find_partial-y.ensures.1 p.0 p.1) c.if-y-eq0.true))), c.requires.1, omega arith)

pub returns-then-y-eq0 : goal.returns-then-y-eq0
returns-then-y-eq0 c = λ j e. rw (gather_none j (c.find_partial-y.ensures.1 j e) c.if-y-eq0.true) ((c.pack_state.ensures j e))

pub line-i-requires : goal.line-i-requires
line-i-requires c =
    let two-long : length (flat (gathered (totals c.requires.0.0))) ≡ 1 + (length (flat (first_in_line false (totals (from_partial c.requires.0.0)))) + length (flat (fulls c.requires.0.0)) + length (flat (first_in_line true (totals (second c.requires.0.0))))) = (let p = c.requires.0 in let y = c.find_partial-y.ensures.1 p.0 p.1 in between-length p.0 (gather_two p.0 y c.if-y-eq0.false (c.find_partial-z.ensures.1 _ (c.rest.ensures.1 _ y)) c.if-z-gt0.true)) in
    let p = c.requires.0 in ((_, c.find_partial-y.ensures.1 p.0 p.1, omega (arith, p.3, two-long)), omega (arith, c.find_partial-y.ensures.0, c.requires.1))

pub pack_state-requires-then-z-gt0 : goal.pack_state-requires-then-z-gt0
pack_state-requires-then-z-gt0 c =
    let two-long : length (flat (gathered (totals c.requires.0.0))) ≡ 1 + (length (flat (first_in_line false (totals (from_partial c.requires.0.0)))) + length (flat (fulls c.requires.0.0)) + length (flat (first_in_line true (totals (second c.requires.0.0))))) = (let p = c.requires.0 in let y = c.find_partial-y.ensures.1 p.0 p.1 in between-length p.0 (gather_two p.0 y c.if-y-eq0.false (c.find_partial-z.ensures.1 _ (c.rest.ensures.1 _ y)) c.if-z-gt0.true)) in
    let room-1 : 1 + (c.line-i.result + length (flat (fulls c.requires.0.0)) + length (flat (first_in_line true (totals (second c.requires.0.0))))) ≤ length c.args.tmp.now = (let p = c.requires.0 in omega (arith, p.3, two-long, (c.line-i.ensures _ (c.find_partial-y.ensures.1 p.0 p.1)).many)) in
    let p = c.requires.0 in ((_, p.1, omega (arith, room-1, c.line-i.auto.out, c.requires.3, c.pack_state-arg-then-z-gt0-1.given)), c.requires.1, omega arith)

pub line-requires : goal.line-requires
line-requires c =
    let two-long : length (flat (gathered (totals c.requires.0.0))) ≡ 1 + (length (flat (first_in_line false (totals (from_partial c.requires.0.0)))) + length (flat (fulls c.requires.0.0)) + length (flat (first_in_line true (totals (second c.requires.0.0))))) = (let p = c.requires.0 in let y = c.find_partial-y.ensures.1 p.0 p.1 in between-length p.0 (gather_two p.0 y c.if-y-eq0.false (c.find_partial-z.ensures.1 _ (c.rest.ensures.1 _ y)) c.if-z-gt0.true)) in
    let room-1 : 1 + (c.line-i.result + length (flat (fulls c.requires.0.0)) + length (flat (first_in_line true (totals (second c.requires.0.0))))) ≤ length c.args.tmp.now = (let p = c.requires.0 in omega (arith, p.3, two-long, (c.line-i.ensures _ (c.find_partial-y.ensures.1 p.0 p.1)).many)) in
    let room-2 : 1 + (c.line-i.result + c.pack_state-then-z-gt0.result + length (flat (first_in_line true (totals (second c.requires.0.0))))) ≤ length c.args.tmp.now = (let p = c.requires.0 in omega (arith, room-1, (c.pack_state-then-z-gt0.ensures p.0 p.1).many)) in
    let p = c.requires.0 in let y = c.find_partial-y.ensures.1 p.0 p.1 in let z = c.find_partial-z.ensures.1 _ (c.rest.ensures.1 _ y) in ((_, z, omega (arith, room-2, c.line-i.auto.out, c.tmp-then-z-gt0-1.given, c.requires.3, c.line-arg-then-z-gt0-1.given)), omega (arith, c.find_partial-y.ensures.0, c.rest.ensures.0, c.find_partial-z.ensures.0, c.requires.1))

pub overflow_add-m : goal.overflow_add-m
overflow_add-m c =
    let two-long : length (flat (gathered (totals c.requires.0.0))) ≡ 1 + (length (flat (first_in_line false (totals (from_partial c.requires.0.0)))) + length (flat (fulls c.requires.0.0)) + length (flat (first_in_line true (totals (second c.requires.0.0))))) = (let p = c.requires.0 in let y = c.find_partial-y.ensures.1 p.0 p.1 in between-length p.0 (gather_two p.0 y c.if-y-eq0.false (c.find_partial-z.ensures.1 _ (c.rest.ensures.1 _ y)) c.if-z-gt0.true)) in
    let room-1 : 1 + (c.line-i.result + length (flat (fulls c.requires.0.0)) + length (flat (first_in_line true (totals (second c.requires.0.0))))) ≤ length c.args.tmp.now = (let p = c.requires.0 in omega (arith, p.3, two-long, (c.line-i.ensures _ (c.find_partial-y.ensures.1 p.0 p.1)).many)) in
    let room-2 : 1 + (c.line-i.result + c.pack_state-then-z-gt0.result + length (flat (first_in_line true (totals (second c.requires.0.0))))) ≤ length c.args.tmp.now = (let p = c.requires.0 in omega (arith, room-1, (c.pack_state-then-z-gt0.ensures p.0 p.1).many)) in
    let room-3 : 1 + (c.line-i.result + c.pack_state-then-z-gt0.result + c.line.result) ≤ length c.args.tmp.now = (let p = c.requires.0 in let y = c.find_partial-y.ensures.1 p.0 p.1 in let z = c.find_partial-z.ensures.1 _ (c.rest.ensures.1 _ y) in omega (arith, room-2, (c.line.ensures _ z).many)) in
    omega (arith, room-3, c.line-i.auto.out, c.tmp-then-z-gt0-1.given, c.tmp-then-z-gt0-2-1.given, c.requires.3)

pub slice_bounds-c_node-end : goal.slice_bounds-c_node-end
slice_bounds-c_node-end c =
    let two-long : length (flat (gathered (totals c.requires.0.0))) ≡ 1 + (length (flat (first_in_line false (totals (from_partial c.requires.0.0)))) + length (flat (fulls c.requires.0.0)) + length (flat (first_in_line true (totals (second c.requires.0.0))))) = (let p = c.requires.0 in let y = c.find_partial-y.ensures.1 p.0 p.1 in between-length p.0 (gather_two p.0 y c.if-y-eq0.false (c.find_partial-z.ensures.1 _ (c.rest.ensures.1 _ y)) c.if-z-gt0.true)) in
    let room-1 : 1 + (c.line-i.result + length (flat (fulls c.requires.0.0)) + length (flat (first_in_line true (totals (second c.requires.0.0))))) ≤ length c.args.tmp.now = (let p = c.requires.0 in omega (arith, p.3, two-long, (c.line-i.ensures _ (c.find_partial-y.ensures.1 p.0 p.1)).many)) in
    let room-2 : 1 + (c.line-i.result + c.pack_state-then-z-gt0.result + length (flat (first_in_line true (totals (second c.requires.0.0))))) ≤ length c.args.tmp.now = (let p = c.requires.0 in omega (arith, room-1, (c.pack_state-then-z-gt0.ensures p.0 p.1).many)) in
    let room-3 : 1 + (c.line-i.result + c.pack_state-then-z-gt0.result + c.line.result) ≤ length c.args.tmp.now = (let p = c.requires.0 in let y = c.find_partial-y.ensures.1 p.0 p.1 in let z = c.find_partial-z.ensures.1 _ (c.rest.ensures.1 _ y) in omega (arith, room-2, (c.line.ensures _ z).many)) in
    omega (arith, room-3, c.line-i.auto.out, c.tmp-then-z-gt0-1.given, c.tmp-then-z-gt0-2-1.given, c.requires.3)

pub c_node-requires : goal.c_node-requires
c_node-requires c =
    let two-long : length (flat (gathered (totals c.requires.0.0))) ≡ 1 + (length (flat (first_in_line false (totals (from_partial c.requires.0.0)))) + length (flat (fulls c.requires.0.0)) + length (flat (first_in_line true (totals (second c.requires.0.0))))) = (let p = c.requires.0 in let y = c.find_partial-y.ensures.1 p.0 p.1 in between-length p.0 (gather_two p.0 y c.if-y-eq0.false (c.find_partial-z.ensures.1 _ (c.rest.ensures.1 _ y)) c.if-z-gt0.true)) in
    let p = c.requires.0 in let y = c.find_partial-y.ensures.1 p.0 p.1 in let z = c.find_partial-z.ensures.1 _ (c.rest.ensures.1 _ y) in let r = read_part ((wrote_then (wrote_then (c.line-i.ensures _ y) (c.pack_state-then-z-gt0.ensures p.0 p.1)) (c.line.ensures _ z))) ∙ between-text p.0 in let n = between_sum p.0 in (between p.0, r, omega (arith, ap length r, two-long, n, p.2), omega (arith, ap length r, two-long, n, p.2, c.requires.2))

pub returns-then-z-gt0 : goal.returns-then-z-gt0
returns-then-z-gt0 c = λ j e. let y = c.find_partial-y.ensures.1 j e in let z = c.find_partial-z.ensures.1 _ (c.rest.ensures.1 _ y) in rw (gather_two j y c.if-y-eq0.false z c.if-z-gt0.true) ((c.c_node.ensures (between j) (read_part ((wrote_then (wrote_then (c.line-i.ensures _ y) (c.pack_state-then-z-gt0.ensures j e)) (c.line.ensures _ z))) ∙ between-text j)))

pub pack_state-i-requires : goal.pack_state-i-requires
pack_state-i-requires c =
    let full : (j : Judged) → c.args.x.now ≡ encode j → length (with_state 1 (totals j)) ≡ 0 → ⊥ = (λ j e. let y = c.find_partial-y.ensures.1 j e in some_full j (c.requires.4 j e) y c.if-y-eq0.false (c.find_partial-z.ensures.1 _ (c.rest.ensures.1 _ y)) c.if-z-gt0.false) in
    let one-long : length (flat (gathered (totals c.requires.0.0))) ≡ 1 + (length (flat (fulls c.requires.0.0)) + length (flat (first_in_line true (totals (from_partial c.requires.0.0))))) = (let p = c.requires.0 in let y = c.find_partial-y.ensures.1 p.0 p.1 in beside_length p.0 (gather_some p.0 y c.if-y-eq0.false (c.find_partial-z.ensures.1 _ (c.rest.ensures.1 _ y)) c.if-z-gt0.false (full p.0 p.1))) in
    let p = c.requires.0 in ((_, p.1, omega (arith, p.3, one-long)), c.requires.1, omega arith)

pub line-requires-2 : goal.line-requires-2
line-requires-2 c =
    let full : (j : Judged) → c.args.x.now ≡ encode j → length (with_state 1 (totals j)) ≡ 0 → ⊥ = (λ j e. let y = c.find_partial-y.ensures.1 j e in some_full j (c.requires.4 j e) y c.if-y-eq0.false (c.find_partial-z.ensures.1 _ (c.rest.ensures.1 _ y)) c.if-z-gt0.false) in
    let one-long : length (flat (gathered (totals c.requires.0.0))) ≡ 1 + (length (flat (fulls c.requires.0.0)) + length (flat (first_in_line true (totals (from_partial c.requires.0.0))))) = (let p = c.requires.0 in let y = c.find_partial-y.ensures.1 p.0 p.1 in beside_length p.0 (gather_some p.0 y c.if-y-eq0.false (c.find_partial-z.ensures.1 _ (c.rest.ensures.1 _ y)) c.if-z-gt0.false (full p.0 p.1))) in
    let room-4 : 1 + (c.pack_state-i.result + length (flat (first_in_line true (totals (from_partial c.requires.0.0))))) ≤ length c.args.tmp.now = (let p = c.requires.0 in omega (arith, p.3, one-long, (c.pack_state-i.ensures p.0 p.1).many)) in
    let p = c.requires.0 in ((_, c.find_partial-y.ensures.1 p.0 p.1, omega (arith, room-4, c.pack_state-i.auto.out, c.requires.3, c.line-arg-2-1.given)), omega (arith, c.find_partial-y.ensures.0, c.requires.1))

pub slice_bounds-c_node-end-2 : goal.slice_bounds-c_node-end-2
slice_bounds-c_node-end-2 c =
    let full : (j : Judged) → c.args.x.now ≡ encode j → length (with_state 1 (totals j)) ≡ 0 → ⊥ = (λ j e. let y = c.find_partial-y.ensures.1 j e in some_full j (c.requires.4 j e) y c.if-y-eq0.false (c.find_partial-z.ensures.1 _ (c.rest.ensures.1 _ y)) c.if-z-gt0.false) in
    let one-long : length (flat (gathered (totals c.requires.0.0))) ≡ 1 + (length (flat (fulls c.requires.0.0)) + length (flat (first_in_line true (totals (from_partial c.requires.0.0))))) = (let p = c.requires.0 in let y = c.find_partial-y.ensures.1 p.0 p.1 in beside_length p.0 (gather_some p.0 y c.if-y-eq0.false (c.find_partial-z.ensures.1 _ (c.rest.ensures.1 _ y)) c.if-z-gt0.false (full p.0 p.1))) in
    let room-4 : 1 + (c.pack_state-i.result + length (flat (first_in_line true (totals (from_partial c.requires.0.0))))) ≤ length c.args.tmp.now = (let p = c.requires.0 in omega (arith, p.3, one-long, (c.pack_state-i.ensures p.0 p.1).many)) in
    let room-5 : 1 + (c.pack_state-i.result + c.line-2.result) ≤ length c.args.tmp.now = (let p = c.requires.0 in omega (arith, room-4, (c.line-2.ensures _ (c.find_partial-y.ensures.1 p.0 p.1)).many)) in
    omega (arith, room-5, c.pack_state-i.auto.out, c.line-2.auto.out, c.requires.3)

pub c_node-requires-2 : goal.c_node-requires-2
c_node-requires-2 c =
    let full : (j : Judged) → c.args.x.now ≡ encode j → length (with_state 1 (totals j)) ≡ 0 → ⊥ = (λ j e. let y = c.find_partial-y.ensures.1 j e in some_full j (c.requires.4 j e) y c.if-y-eq0.false (c.find_partial-z.ensures.1 _ (c.rest.ensures.1 _ y)) c.if-z-gt0.false) in
    let one-long : length (flat (gathered (totals c.requires.0.0))) ≡ 1 + (length (flat (fulls c.requires.0.0)) + length (flat (first_in_line true (totals (from_partial c.requires.0.0))))) = (let p = c.requires.0 in let y = c.find_partial-y.ensures.1 p.0 p.1 in beside_length p.0 (gather_some p.0 y c.if-y-eq0.false (c.find_partial-z.ensures.1 _ (c.rest.ensures.1 _ y)) c.if-z-gt0.false (full p.0 p.1))) in
    let p = c.requires.0 in let y = c.find_partial-y.ensures.1 p.0 p.1 in let r = read_part ((wrote_then (c.pack_state-i.ensures p.0 p.1) (c.line-2.ensures _ y))) ∙ beside_text p.0 in let n = beside_sum p.0 in (beside p.0, r, omega (arith, ap length r, one-long, n, p.2), omega (arith, ap length r, one-long, n, p.2, c.requires.2))

pub returns : goal.returns
returns c =
    let full : (j : Judged) → c.args.x.now ≡ encode j → length (with_state 1 (totals j)) ≡ 0 → ⊥ = (λ j e. let y = c.find_partial-y.ensures.1 j e in some_full j (c.requires.4 j e) y c.if-y-eq0.false (c.find_partial-z.ensures.1 _ (c.rest.ensures.1 _ y)) c.if-z-gt0.false) in
    λ j e. let y = c.find_partial-y.ensures.1 j e in rw (gather_some j y c.if-y-eq0.false (c.find_partial-z.ensures.1 _ (c.rest.ensures.1 _ y)) c.if-z-gt0.false (full j e)) ((c.c_node-2.ensures (beside j) (read_part ((wrote_then (c.pack_state-i.ensures j e) (c.line-2.ensures _ y))) ∙ beside_text j)))
