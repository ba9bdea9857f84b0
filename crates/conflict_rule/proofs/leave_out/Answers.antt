use mathlib.Core.Path.{refl, sym, ap, subst}
use mathlib.Core.List.{[], ◌∷◌}
use Prim.Native.Nat.{◌-◌}
use native.Mathlib.Omega.{arith}
use lib.ListN.{length, take, drop, get_or, set, length-set, length-drop}
use Rattle.tree_tokens.specs.Tokens.{Wrote}
use Rattle.spec_orders.specs.declared.Layout.TheVariants.{Ring}
use Rattle.spec_orders.specs.Conflict.{possible?}
use Rattle.spec_orders.proofs.ListLaws.{part_to_end}
use Rattle.tree_tokens.proofs.Writes.{read_back, wrote_none, wrote_one}
use Rattle.spec_calls.specs.Calls.{group_numbered}
use Rattle.conflict_rule.specs.LeavingOut.{InBook, goes_on}
use Rattle.conflict_rule.proofs.Places.{book_drop, book_at}
use Rattle.conflict_rule.proofs.Trees.{list_all, first_kept}
use Rattle.conflict_rule.proofs.Written.{went_on}
use Rattle.conflict_rule.proofs.leave_out.Goals as goal

pub returns-in_default : goal.returns-in_default
returns-in_default c = λ u Gs e rep. rw (list_all c.args.numbers.now (c.in_default.ensures.1 u Gs e rep) refl) (wrote_none _)

pub go_on-requires : goal.go_on-requires
go_on-requires c =
    let left = c.in-Err.left in
    let j = (get_or c.args.numbers.now (c.in-Err.left - 1) 0) in
    let h = c.in-Err.ensures.1 in
    let b : InBook (j ∷ []) = (book_at c.args.numbers.now (left - 1) (omega (arith, h, c.in-Err.ensures.0)) c.requires.2, tt) in
    (c.requires.0, c.requires.1, subst InBook (sym (part_to_end c.args.numbers.now left)) (book_drop left c.args.numbers.now c.requires.2), omega (arith, h, ap length (part_to_end c.args.numbers.now left), length-drop left c.args.numbers.now, c.in-Err.ensures.0, c.requires.3, length-set c.args.out.now 0 j), subst InBook (sym (read_back (wrote_one j c.args.out.now (omega (arith, h, c.in-Err.ensures.0, c.requires.3))))) b)

pub returns : goal.returns
returns c = λ u Gs e rep.
    let left = c.in-Err.left in
    let j = (get_or c.args.numbers.now (c.in-Err.left - 1) 0) in
    let d = c.in-Err.ensures.2 u Gs e rep in
    rw (first_kept c.args.numbers.now c.in-Err.left d.0.1 d.1 c.in-Err.ensures.0 c.in-Err.ensures.1)
    (went_on (possible? Ring c.args.n) (group_numbered c.args.book.now) Gs (drop left c.args.numbers.now) (wrote_one j c.args.out.now (omega (arith, c.in-Err.ensures.1, c.in-Err.ensures.0, c.requires.3)))
    (subst (λ js. Wrote (goes_on (possible? Ring c.args.n) (group_numbered c.args.book.now) Gs (take 1 (set c.args.out.now 0 j)) js) (set c.args.out.now 0 j) c.go_on.new.out c.go_on.result) (part_to_end c.args.numbers.now left) (c.go_on.ensures.1 u Gs e rep)))
