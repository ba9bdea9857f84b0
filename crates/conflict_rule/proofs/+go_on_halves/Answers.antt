use mathlib.Core.Path.{◌≡◌, refl, sym, ap, subst, ◌∙◌}
use mathlib.Core.List.{List, [], ◌∷◌, ◌++◌, map}
use native.Mathlib.Omega.{arith}
use lib.ListN.{length, take, drop, get_or, set, length-set, length-drop}
use lib.Seq.{length-take-le}
use Rattle.spec_orders.specs.declared.Layout.TheVariants.{Ring}
use Rattle.spec_orders.specs.CircularOrder.{Restriction}
use Rattle.spec_orders.specs.Tree.{Forest}
use Rattle.spec_orders.specs.Conflict.{possible?, leave_out}
use Rattle.spec_orders.proofs.Conflicts.{sublist_all, leave_out_kept, possible_tests}
use Rattle.spec_orders.proofs.ListLaws.{part_to_end}
use Rattle.tree_tokens.specs.Tokens.{Wrote, flat}
use Rattle.tree_tokens.proofs.Writes.{read_back, wrote_one, wrote_then}
use Rattle.spec_calls.specs.Calls.{group_numbered}
use Rattle.conflict_rule.specs.LeavingOut.{InBook, Represents, TokensRepresent, Walked, Stops, goes_on}
use Rattle.conflict_rule.proofs.Keeping.{rule_halves, rule_short}
use Rattle.conflict_rule.proofs.Places.{part_start, book_take, book_drop, book_at}
use Rattle.conflict_rule.proofs.Trees.{represented_possible, walked_stands, walked_all, next_kept, no_more}
use Rattle.conflict_rule.proofs.Written.{wrote_here, went_on}
use Prim.Native.Nat.{ℕ, ◌+◌, ◌-◌, ◌/◌, ◌≤◌}
use Rattle.conflict_rule.proofs.+go_on_halves.Goals as goal

pub go_on-returns-in_default : goal.go_on-returns-in_default
go_on-returns-in_default t c = (
  omega arith,
  λ u Gs e rep.
      let stops : Stops c.args.n (group_numbered c.args.book.now) Gs (take c.args.k c.args.out.now) c.in_default.field-0 =
      subst (λ js. Stops c.args.n (group_numbered c.args.book.now) Gs js c.in_default.field-0) (part_start c.args.k c.args.out.now) (c.in_default.ensures.2 u Gs e rep).1 in
      rw (no_more (take c.args.k c.args.out.now) c.args.numbers.now stops c.in_default.ensures.0) (wrote_here c.args.k c.args.out.now (omega (arith, c.requires.3))),
)

pub go_on-halves-requires : goal.go_on-halves-requires
go_on-halves-requires t c =
    let joined : (u : Forest) (Gs : List Restriction) → c.args.toks.now ≡ flat u → Represents c.args.n (group_numbered c.args.book.now) Gs u
    → Walked c.args.n (group_numbered c.args.book.now) Gs (take c.args.k c.args.out.now) 0 (take c.in-Ok.size c.walk.new.out) = (λ u Gs e rep. subst (λ js. Walked c.args.n (group_numbered c.args.book.now) Gs js 0 (take c.in-Ok.size c.walk.new.out))
    (part_start c.args.k c.args.out.now) (c.in-Ok.ensures.1 u Gs e rep)) in
    let p = c.requires.0 in
    let w = joined p.0 p.1 p.2 p.3 in
    (omega (arith, c.requires.0), (subst (TokensRepresent c.args.n (group_numbered c.args.book.now)) (sym (part_start c.in-Ok.size c.walk.new.out)) (walked_stands w p.4), c.requires.1, c.requires.2, omega (arith, c.requires.3, c.halves-arg-2-1.given)))

pub go_on-returns : goal.go_on-returns
unfolding goes_on
go_on-returns t c =
    let joined : (u : Forest) (Gs : List Restriction) → c.args.toks.now ≡ flat u → Represents c.args.n (group_numbered c.args.book.now) Gs u
    → Walked c.args.n (group_numbered c.args.book.now) Gs (take c.args.k c.args.out.now) 0 (take c.in-Ok.size c.walk.new.out) = (λ u Gs e rep. subst (λ js. Walked c.args.n (group_numbered c.args.book.now) Gs js 0 (take c.in-Ok.size c.walk.new.out))
    (part_start c.args.k c.args.out.now) (c.in-Ok.ensures.1 u Gs e rep)) in (
      omega (arith, c.halves.ensures.0),
      λ u Gs e rep.
          let w = joined u Gs e rep in
          wrote_then {ys = leave_out (possible? Ring c.args.n) (group_numbered c.args.book.now) (Gs ++ map (group_numbered c.args.book.now) (take c.args.k c.args.out.now)) c.args.numbers.now} (wrote_here c.args.k c.args.out.now (omega (arith, c.requires.3)))
          (c.halves.ensures.1 w.tree (Gs ++ map (group_numbered c.args.book.now) (take c.args.k c.args.out.now)) (part_start c.in-Ok.size c.walk.new.out ∙ w.text) (walked_all w refl)),
    )

pub halves-returns-then-many-le1 : goal.halves-returns-then-many-le1
halves-returns-then-many-le1 t c = (
  omega (arith, c.copy.ensures.many),
  λ u Gs e rep. rw (rule_short (possible_tests Ring c.args.n) (group_numbered c.args.book.now) Gs c.args.numbers.now (omega (arith, c.if-many-le1.true)) (represented_possible rep)) c.copy.ensures,
)

pub halves-halves-k-requires : goal.halves-halves-k-requires
halves-halves-k-requires t c =
    let down : (u : Forest) (Gs : List Restriction) → c.args.toks.now ≡ flat u → Represents c.args.n (group_numbered c.args.book.now) Gs u
    → Walked c.args.n (group_numbered c.args.book.now) Gs (drop (length c.args.numbers.now / 2) c.args.numbers.now) 0 (take c.in-Ok.size c.walk.new.out) = (λ u Gs e rep. subst (λ js. Walked c.args.n (group_numbered c.args.book.now) Gs js 0 (take c.in-Ok.size c.walk.new.out))
    (part_to_end c.args.numbers.now (length c.args.numbers.now / 2)) (c.in-Ok.ensures.1 u Gs e rep)) in
    let p = c.requires.0 in
    let w = down p.0 p.1 p.2 p.3 in
    let half = ap length (part_start (length c.args.numbers.now / 2) c.args.numbers.now) in
    let size = length-take-le (length c.args.numbers.now / 2) c.args.numbers.now (omega arith) in
    (omega (arith, c.requires.0, half, size), (subst (TokensRepresent c.args.n (group_numbered c.args.book.now)) (sym (part_start c.in-Ok.size c.walk.new.out)) (walked_stands w p.4), c.requires.1, subst InBook (sym (part_start (length c.args.numbers.now / 2) c.args.numbers.now)) (book_take (length c.args.numbers.now / 2) c.args.numbers.now c.requires.2), omega (arith, half, size, c.requires.3)))

pub halves-go_on-requires : goal.halves-go_on-requires
halves-go_on-requires t c =
    let down : (u : Forest) (Gs : List Restriction) → c.args.toks.now ≡ flat u → Represents c.args.n (group_numbered c.args.book.now) Gs u
    → Walked c.args.n (group_numbered c.args.book.now) Gs (drop (length c.args.numbers.now / 2) c.args.numbers.now) 0 (take c.in-Ok.size c.walk.new.out) = (λ u Gs e rep. subst (λ js. Walked c.args.n (group_numbered c.args.book.now) Gs js 0 (take c.in-Ok.size c.walk.new.out))
    (part_to_end c.args.numbers.now (length c.args.numbers.now / 2)) (c.in-Ok.ensures.1 u Gs e rep)) in
    let first : (u : Forest) (Gs : List Restriction) → c.args.toks.now ≡ flat u → Represents c.args.n (group_numbered c.args.book.now) Gs u
    → Wrote (leave_out (possible? Ring c.args.n) (group_numbered c.args.book.now) (Gs ++ map (group_numbered c.args.book.now) (drop (length c.args.numbers.now / 2) c.args.numbers.now)) (take (length c.args.numbers.now / 2) c.args.numbers.now)) c.args.out.now c.halves-k.new.out c.halves-k.result = (λ u Gs e rep. let w = down u Gs e rep in
    subst (λ js. Wrote (leave_out (possible? Ring c.args.n) (group_numbered c.args.book.now) (Gs ++ map (group_numbered c.args.book.now) (drop (length c.args.numbers.now / 2) c.args.numbers.now)) js) c.args.out.now c.halves-k.new.out c.halves-k.result) (part_start (length c.args.numbers.now / 2) c.args.numbers.now)
    (c.halves-k.ensures.1 w.tree (Gs ++ map (group_numbered c.args.book.now) (drop (length c.args.numbers.now / 2) c.args.numbers.now)) (part_start c.in-Ok.size c.walk.new.out ∙ w.text) (walked_all w refl))) in
    let p = c.requires.0 in
    let a = first p.0 p.1 p.2 p.3 in
    let rest = ap length (part_to_end c.args.numbers.now (length c.args.numbers.now / 2)) in
    let size = length-drop (length c.args.numbers.now / 2) c.args.numbers.now in
    let half = ap length (part_start (length c.args.numbers.now / 2) c.args.numbers.now) in
    let size-2 = length-take-le (length c.args.numbers.now / 2) c.args.numbers.now (omega arith) in
    (omega (arith, c.requires.0, rest, size), (c.requires.0, c.requires.1, subst InBook (sym (part_to_end c.args.numbers.now (length c.args.numbers.now / 2))) (book_drop (length c.args.numbers.now / 2) c.args.numbers.now c.requires.2), omega (arith, c.halves-k.ensures.0, half, size-2, rest, size, c.requires.3, c.halves-k.auto.out), subst InBook (sym (read_back a)) (sublist_all (λ j. (1 ≤ j) × (j ≤ 96)) (leave_out_kept (possible_tests Ring c.args.n) (group_numbered c.args.book.now) (p.1 ++ map (group_numbered c.args.book.now) (drop (length c.args.numbers.now / 2) c.args.numbers.now)) (take (length c.args.numbers.now / 2) c.args.numbers.now)).part (book_take (length c.args.numbers.now / 2) c.args.numbers.now c.requires.2))))

pub halves-returns-in-Ok : goal.halves-returns-in-Ok
halves-returns-in-Ok t c =
    let down : (u : Forest) (Gs : List Restriction) → c.args.toks.now ≡ flat u → Represents c.args.n (group_numbered c.args.book.now) Gs u
    → Walked c.args.n (group_numbered c.args.book.now) Gs (drop (length c.args.numbers.now / 2) c.args.numbers.now) 0 (take c.in-Ok.size c.walk.new.out) = (λ u Gs e rep. subst (λ js. Walked c.args.n (group_numbered c.args.book.now) Gs js 0 (take c.in-Ok.size c.walk.new.out))
    (part_to_end c.args.numbers.now (length c.args.numbers.now / 2)) (c.in-Ok.ensures.1 u Gs e rep)) in
    let first : (u : Forest) (Gs : List Restriction) → c.args.toks.now ≡ flat u → Represents c.args.n (group_numbered c.args.book.now) Gs u
    → Wrote (leave_out (possible? Ring c.args.n) (group_numbered c.args.book.now) (Gs ++ map (group_numbered c.args.book.now) (drop (length c.args.numbers.now / 2) c.args.numbers.now)) (take (length c.args.numbers.now / 2) c.args.numbers.now)) c.args.out.now c.halves-k.new.out c.halves-k.result = (λ u Gs e rep. let w = down u Gs e rep in
    subst (λ js. Wrote (leave_out (possible? Ring c.args.n) (group_numbered c.args.book.now) (Gs ++ map (group_numbered c.args.book.now) (drop (length c.args.numbers.now / 2) c.args.numbers.now)) js) c.args.out.now c.halves-k.new.out c.halves-k.result) (part_start (length c.args.numbers.now / 2) c.args.numbers.now)
    (c.halves-k.ensures.1 w.tree (Gs ++ map (group_numbered c.args.book.now) (drop (length c.args.numbers.now / 2) c.args.numbers.now)) (part_start c.in-Ok.size c.walk.new.out ∙ w.text) (walked_all w refl))) in (
      omega (arith, c.go_on.ensures.0, c.halves-k.ensures.0, ap length (part_to_end c.args.numbers.now (length c.args.numbers.now / 2)), length-drop (length c.args.numbers.now / 2) c.args.numbers.now, ap length (part_start (length c.args.numbers.now / 2) c.args.numbers.now), length-take-le (length c.args.numbers.now / 2) c.args.numbers.now (omega arith)),
      λ u Gs e rep.
          rw (rule_halves (possible_tests Ring c.args.n) (group_numbered c.args.book.now) Gs c.args.numbers.now (length c.args.numbers.now / 2))
          (went_on (possible? Ring c.args.n) (group_numbered c.args.book.now) Gs (drop (length c.args.numbers.now / 2) c.args.numbers.now) (first u Gs e rep)
          (subst (λ js. Wrote (goes_on (possible? Ring c.args.n) (group_numbered c.args.book.now) Gs (take c.halves-k.result c.halves-k.new.out) js) c.halves-k.new.out c.go_on.new.out c.go_on.result) (part_to_end c.args.numbers.now (length c.args.numbers.now / 2)) (c.go_on.ensures.1 u Gs e rep))),
    )

pub halves-go_on-requires-in-Err : goal.halves-go_on-requires-in-Err
halves-go_on-requires-in-Err t c =
    let far : (length c.args.numbers.now / 2) + c.in-Err.left ≤ length c.args.numbers.now = (omega (arith, c.in-Err.ensures.1, ap length (part_to_end c.args.numbers.now (length c.args.numbers.now / 2)), length-drop (length c.args.numbers.now / 2) c.args.numbers.now)) in
    let from = (length c.args.numbers.now / 2) + c.in-Err.left in
    let j = (get_or c.args.numbers.now ((length c.args.numbers.now / 2) + c.in-Err.left - 1) 0) in
    let h = far in
    let rest = ap length (part_to_end c.args.numbers.now from) in
    let size = length-drop from c.args.numbers.now in
    let b : InBook (j ∷ []) = (book_at c.args.numbers.now (from - 1) (omega (arith, h, c.in-Err.ensures.0)) c.requires.2, tt) in
    (omega (arith, c.requires.0, h, rest, size, c.in-Err.ensures.0), (c.requires.0, c.requires.1, subst InBook (sym (part_to_end c.args.numbers.now from)) (book_drop from c.args.numbers.now c.requires.2), omega (arith, h, rest, size, c.in-Err.ensures.0, c.requires.3, length-set c.args.out.now 0 j), subst InBook (sym (read_back (wrote_one j c.args.out.now (omega (arith, h, c.in-Err.ensures.0, c.requires.3))))) b))

pub halves-returns-in-Err : goal.halves-returns-in-Err
halves-returns-in-Err t c =
    let down : (u : Forest) (Gs : List Restriction) → c.args.toks.now ≡ flat u → Represents c.args.n (group_numbered c.args.book.now) Gs u
    → ((l : List ℕ) × Walked c.args.n (group_numbered c.args.book.now) Gs (drop (length c.args.numbers.now / 2) c.args.numbers.now) c.in-Err.left l) × Stops c.args.n (group_numbered c.args.book.now) Gs (drop (length c.args.numbers.now / 2) c.args.numbers.now) c.in-Err.left = (λ u Gs e rep. subst (λ js. ((l : List ℕ) × Walked c.args.n (group_numbered c.args.book.now) Gs js c.in-Err.left l) × Stops c.args.n (group_numbered c.args.book.now) Gs js c.in-Err.left)
    (part_to_end c.args.numbers.now (length c.args.numbers.now / 2)) (c.in-Err.ensures.2 u Gs e rep)) in
    let far : (length c.args.numbers.now / 2) + c.in-Err.left ≤ length c.args.numbers.now = (omega (arith, c.in-Err.ensures.1, ap length (part_to_end c.args.numbers.now (length c.args.numbers.now / 2)), length-drop (length c.args.numbers.now / 2) c.args.numbers.now)) in
    let from = (length c.args.numbers.now / 2) + c.in-Err.left in
    let j = (get_or c.args.numbers.now ((length c.args.numbers.now / 2) + c.in-Err.left - 1) 0) in
    let h = far in (
      omega (arith, c.go_on-in-Err.ensures.0, h, ap length (part_to_end c.args.numbers.now from), length-drop from c.args.numbers.now, c.in-Err.ensures.0),
      λ u Gs e rep.
          let d = down u Gs e rep in
          rw (next_kept c.args.numbers.now (length c.args.numbers.now / 2) c.in-Err.left d.0.1 d.1 (omega (arith, c.in-Err.ensures.0)) h)
          (went_on (possible? Ring c.args.n) (group_numbered c.args.book.now) Gs (drop from c.args.numbers.now) (wrote_one j c.args.out.now (omega (arith, h, c.in-Err.ensures.0, c.requires.3)))
          (subst (λ js. Wrote (goes_on (possible? Ring c.args.n) (group_numbered c.args.book.now) Gs (take 1 (set c.args.out.now 0 j)) js) (set c.args.out.now 0 j) c.go_on-in-Err.new.out c.go_on-in-Err.result) (part_to_end c.args.numbers.now from) (c.go_on-in-Err.ensures.1 u Gs e rep))),
    )
