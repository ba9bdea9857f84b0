use mathlib.Core.Path.{◌≡◌, ap, ◌∙◌, sym}
use Prim.Native.Nat.{◌-◌}
use native.Mathlib.Omega.{arith}
use lib.ListN.{length, take, drop, replicate}
use Rattle.spec_orders.specs.CircularOrder.{Restriction}
use Rattle.spec_orders.specs.Tree.{Forest}
use Rattle.tree_tokens.specs.Tokens.{encode, plain, Wrote, flat}
use Rattle.tree_tokens.proofs.Writes.{read_part, wrote_most}
use Rattle.tree_judge.specs.Judge.{judge}
use Rattle.table_update.specs.States.{Updates}
use Rattle.table_update.proofs.Updating.{holds, few_tokens, small_stays, labels_known, plain-few, judged_part, judged_tree, new_tokens}
use Rattle.table_update.proofs.update.Goals as goal

pub returns-then-n-le2 : goal.returns-then-n-le2
returns-then-n-le2 c = λ S t u h. small_stays c.args.table.now c.args.work.now h c.if-n-le2.true

pub slice_bounds-label-end : goal.slice_bounds-label-end
slice_bounds-label-end c = omega (arith, wrote_most (c.walk-k.ensures c.requires.1 c.requires.3.held))

pub label-requires : goal.label-requires
label-requires c =
    let toks-are : (S : Restriction) (t u : Forest) → Updates c.args.n S t u c.args.table.now c.args.work.now → take (c.walk-k.result - 0) (drop 0 c.walk-k.new.out) ≡ flat t = (λ S t u h. read_part (c.walk-k.ensures t h.held)) in
    let h = c.requires.3 in
    let e = toks-are c.requires.0 c.requires.1 c.requires.2 h in
    ((plain c.requires.1, e, plain-few c.args.table.now c.args.work.now h (omega (arith, c.if-n-le2.false))), (labels_known c.args.table.now c.args.work.now h (omega (arith, c.if-n-le2.false))).long, omega (arith, few_tokens c.args.table.now c.args.work.now h e))

pub rewrite-m-requires : goal.rewrite-m-requires
rewrite-m-requires c =
    let toks-are : (S : Restriction) (t u : Forest) → Updates c.args.n S t u c.args.table.now c.args.work.now → take (c.walk-k.result - 0) (drop 0 c.walk-k.new.out) ≡ flat t = (λ S t u h. read_part (c.walk-k.ensures t h.held)) in
    let judged-are : (S : Restriction) (t u : Forest) → Updates c.args.n S t u c.args.table.now c.args.work.now → take (c.walk-k.result - 0) (drop 0 c.label.new.out) ≡ encode (judge S t) = (λ S t u h. let e = toks-are S t u h in
    judged_part c.args.table.now c.args.work.now h (omega (arith, c.if-n-le2.false)) ((c.walk-k.ensures t h.held).many ∙ sym (ap length e)) e c.label.ensures) in
    let h = c.requires.3 in
    ((_, _, _, judged_tree c.args.table.now c.args.work.now h (omega (arith, c.if-n-le2.false)) (toks-are c.requires.0 c.requires.1 c.requires.2 h) (judged-are c.requires.0 c.requires.1 c.requires.2 h)), omega arith)

pub slice_bounds-replace-end-2 : goal.slice_bounds-replace-end-2
slice_bounds-replace-end-2 c =
    let toks-are : (S : Restriction) (t u : Forest) → Updates c.args.n S t u c.args.table.now c.args.work.now → take (c.walk-k.result - 0) (drop 0 c.walk-k.new.out) ≡ flat t = (λ S t u h. read_part (c.walk-k.ensures t h.held)) in
    let judged-are : (S : Restriction) (t u : Forest) → Updates c.args.n S t u c.args.table.now c.args.work.now → take (c.walk-k.result - 0) (drop 0 c.label.new.out) ≡ encode (judge S t) = (λ S t u h. let e = toks-are S t u h in
    judged_part c.args.table.now c.args.work.now h (omega (arith, c.if-n-le2.false)) ((c.walk-k.ensures t h.held).many ∙ sym (ap length e)) e c.label.ensures) in
    let new-are : (S : Restriction) (t u : Forest) → Updates c.args.n S t u c.args.table.now c.args.work.now → Wrote (flat u) (replicate 512 0) c.rewrite-m.new.out c.rewrite-m.result = (λ S t u h. c.rewrite-m.ensures S t u (toks-are S t u h) (judged-are S t u h) h.is) in
    omega (arith, wrote_most (new-are c.requires.0 c.requires.1 c.requires.2 c.requires.3))

pub replace-requires : goal.replace-requires
replace-requires c =
    let toks-are : (S : Restriction) (t u : Forest) → Updates c.args.n S t u c.args.table.now c.args.work.now → take (c.walk-k.result - 0) (drop 0 c.walk-k.new.out) ≡ flat t = (λ S t u h. read_part (c.walk-k.ensures t h.held)) in
    let judged-are : (S : Restriction) (t u : Forest) → Updates c.args.n S t u c.args.table.now c.args.work.now → take (c.walk-k.result - 0) (drop 0 c.label.new.out) ≡ encode (judge S t) = (λ S t u h. let e = toks-are S t u h in
    judged_part c.args.table.now c.args.work.now h (omega (arith, c.if-n-le2.false)) ((c.walk-k.ensures t h.held).many ∙ sym (ap length e)) e c.label.ensures) in
    let new-are : (S : Restriction) (t u : Forest) → Updates c.args.n S t u c.args.table.now c.args.work.now → Wrote (flat u) (replicate 512 0) c.rewrite-m.new.out c.rewrite-m.result = (λ S t u h. c.rewrite-m.ensures S t u (toks-are S t u h) (judged-are S t u h) h.is) in
    let h = c.requires.3 in
    (c.args.n, c.requires.1, holds c.args.table.now c.args.work.now h, toks-are c.requires.0 c.requires.1 c.requires.2 h, new_tokens c.args.table.now c.args.work.now h (omega (arith, c.if-n-le2.false)) (read_part (new-are c.requires.0 c.requires.1 c.requires.2 h)))

pub returns : goal.returns
returns c =
    let toks-are : (S : Restriction) (t u : Forest) → Updates c.args.n S t u c.args.table.now c.args.work.now → take (c.walk-k.result - 0) (drop 0 c.walk-k.new.out) ≡ flat t = (λ S t u h. read_part (c.walk-k.ensures t h.held)) in
    let judged-are : (S : Restriction) (t u : Forest) → Updates c.args.n S t u c.args.table.now c.args.work.now → take (c.walk-k.result - 0) (drop 0 c.label.new.out) ≡ encode (judge S t) = (λ S t u h. let e = toks-are S t u h in
    judged_part c.args.table.now c.args.work.now h (omega (arith, c.if-n-le2.false)) ((c.walk-k.ensures t h.held).many ∙ sym (ap length e)) e c.label.ensures) in
    let new-are : (S : Restriction) (t u : Forest) → Updates c.args.n S t u c.args.table.now c.args.work.now → Wrote (flat u) (replicate 512 0) c.rewrite-m.new.out c.rewrite-m.result = (λ S t u h. c.rewrite-m.ensures S t u (toks-are S t u h) (judged-are S t u h) h.is) in
    λ S t u h. c.replace.ensures u (read_part (new-are S t u h))
