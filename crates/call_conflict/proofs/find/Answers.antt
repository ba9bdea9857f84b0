use mathlib.Core.Path.{◌≡◌, refl, sym, ap, subst}
use mathlib.Core.List.{[], ◌∷◌}
use Prim.Native.Nat.{◌-◌}
use native.Mathlib.Omega.{arith}
use lib.ListN.{length, take, drop}
use Rattle.spec_orders.specs.declared.Layout.TheVariants.{Ring}
use Rattle.spec_orders.specs.Conflict.{possible?, conflict_list}
use Rattle.spec_orders.proofs.Numbers.{numbers_length}
use Rattle.mark_words.specs.Marks.{marked}
use Rattle.spec_calls.specs.Calls.{group_numbered, conflicts_of}
use Rattle.tree_tokens.specs.Tokens.{Wrote, flat}
use Rattle.tree_tokens.proofs.Writes.{read_part}
use Rattle.mark_words.proofs.Steps.{four_words}
use Rattle.conflict_leaves.specs.StandIn.{Chosen, start}
use Rattle.conflict_rule.specs.LeavingOut.{InBook}
use Rattle.tree_update.proofs.Joined.{Next, next-tree, no_tree}
use Rattle.conflict_rule.proofs.Places.{numbers_in_book}
use Rattle.call_conflict.proofs.Start.{start_form, one_represented, one-joins}
use Rattle.call_conflict.proofs.find.Goals as goal

pub join-got-requires : goal.join-got-requires
join-got-requires c =
    let choice : Chosen c.args.n (marked c.args.group.now) (group_numbered c.args.book.now) (marked c.choose.new.words) = (subst (λ G. Chosen c.args.n G (group_numbered c.args.book.now) (marked c.choose.new.words)) (ap marked (four_words c.args.group.now c.requires.3)) c.choose.ensures) in
    let started : take (c.start_tree-m.result - 0) (drop 0 c.start_tree-m.new.out) ≡ flat (start c.args.n (marked c.choose.new.words)) = (read_part c.start_tree-m.ensures.1) in
    ((start c.args.n (marked c.choose.new.words), started, start_form choice, c.requires.0), c.requires.3, omega arith)

pub returns-in_default : goal.returns-in_default
returns-in_default c =
    let choice : Chosen c.args.n (marked c.args.group.now) (group_numbered c.args.book.now) (marked c.choose.new.words) = (subst (λ G. Chosen c.args.n G (group_numbered c.args.book.now) (marked c.choose.new.words)) (ap marked (four_words c.args.group.now c.requires.3)) c.choose.ensures) in
    let started : take (c.start_tree-m.result - 0) (drop 0 c.start_tree-m.new.out) ≡ flat (start c.args.n (marked c.choose.new.words)) = (read_part c.start_tree-m.ensures.1) in
    absurd (one-joins choice (no_tree (start c.args.n (marked c.choose.new.words)) refl c.in_default.is (c.join-got.ensures (start c.args.n (marked c.choose.new.words)) started)))

pub slice_bounds-leave_out-end : goal.slice_bounds-leave_out-end
slice_bounds-leave_out-end c =
    let started : take (c.start_tree-m.result - 0) (drop 0 c.start_tree-m.new.out) ≡ flat (start c.args.n (marked c.choose.new.words)) = (read_part c.start_tree-m.ensures.1) in
    let after : Next (marked c.args.group.now) (start c.args.n (marked c.choose.new.words)) c.join-got.new.out c.in-Some.k = (next-tree (start c.args.n (marked c.choose.new.words)) refl c.in-Some.is (c.join-got.ensures (start c.args.n (marked c.choose.new.words)) started)) in
    omega (arith, after.room)

pub leave_out-requires : goal.leave_out-requires
leave_out-requires c =
    let choice : Chosen c.args.n (marked c.args.group.now) (group_numbered c.args.book.now) (marked c.choose.new.words) = (subst (λ G. Chosen c.args.n G (group_numbered c.args.book.now) (marked c.choose.new.words)) (ap marked (four_words c.args.group.now c.requires.3)) c.choose.ensures) in
    let started : take (c.start_tree-m.result - 0) (drop 0 c.start_tree-m.new.out) ≡ flat (start c.args.n (marked c.choose.new.words)) = (read_part c.start_tree-m.ensures.1) in
    let after : Next (marked c.args.group.now) (start c.args.n (marked c.choose.new.words)) c.join-got.new.out c.in-Some.k = (next-tree (start c.args.n (marked c.choose.new.words)) refl c.in-Some.is (c.join-got.ensures (start c.args.n (marked c.choose.new.words)) started)) in
    let x = after in
    let r = read_part c.rising-many.ensures in
    ((x.tree, marked c.args.group.now ∷ [], x.text, one_represented choice x.is, c.requires.0), c.requires.1, subst InBook (sym r) (numbers_in_book c.args.count c.requires.2), omega (arith, ap length r, numbers_length 1 c.args.count, c.requires.4))

pub returns : goal.returns
unfolding conflicts_of
returns c =
    let choice : Chosen c.args.n (marked c.args.group.now) (group_numbered c.args.book.now) (marked c.choose.new.words) = (subst (λ G. Chosen c.args.n G (group_numbered c.args.book.now) (marked c.choose.new.words)) (ap marked (four_words c.args.group.now c.requires.3)) c.choose.ensures) in
    let started : take (c.start_tree-m.result - 0) (drop 0 c.start_tree-m.new.out) ≡ flat (start c.args.n (marked c.choose.new.words)) = (read_part c.start_tree-m.ensures.1) in
    let after : Next (marked c.args.group.now) (start c.args.n (marked c.choose.new.words)) c.join-got.new.out c.in-Some.k = (next-tree (start c.args.n (marked c.choose.new.words)) refl c.in-Some.is (c.join-got.ensures (start c.args.n (marked c.choose.new.words)) started)) in
    let x = after in
    subst (λ js. Wrote (conflict_list (possible? Ring c.args.n) (group_numbered c.args.book.now) (marked c.args.group.now ∷ []) js) c.args.out.now c.leave_out.new.out c.leave_out.result) (read_part c.rising-many.ensures)
    (c.leave_out.ensures x.tree (marked c.args.group.now ∷ []) x.text (one_represented choice x.is))
