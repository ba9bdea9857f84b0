use mathlib.Core.Path.{◌≡◌, refl, subst, ◌∙◌}
use mathlib.Core.List.{List}
use Prim.Native.Nat.{◌+◌, ◌-◌, ◌≤◌}
use native.Mathlib.Omega.{arith}
use lib.ListN.{take, get_or}
use Rattle.tree_tokens.specs.Tokens.{flat}
use Rattle.spec_orders.specs.CircularOrder.{Restriction}
use Rattle.spec_orders.specs.Tree.{Forest}
use Rattle.tree_tokens.proofs.Writes.{read_back, wrote_most}
use Rattle.tree_update.proofs.Updates.{tokens_short}
use Rattle.spec_calls.specs.Calls.{group_numbered}
use Rattle.conflict_rule.specs.LeavingOut.{Represents, Walked}
use Rattle.conflict_rule.proofs.Places.{part_group, part_start, book_at}
use Rattle.conflict_rule.proofs.Trees.{stands_within, walk_begins, walk-joins, walk_stops}
use Rattle.tree_update.proofs.Joined.{Next, next-tree, no_tree}
use Rattle.conflict_rule.proofs.walk.Goals as goal

pub copy-m-requires : goal.copy-m-requires
copy-m-requires c = omega (arith, tokens_short c.args.n c.args.toks.now (stands_within c.requires.0), c.requires.3)

pub loop-i-init : goal.loop-i-init
loop-i-init c = (refl, wrote_most c.copy-m.ensures, λ t Gs e rep. walk_begins c.args.numbers.now rep (read_back c.copy-m.ensures ∙ e))

pub join-got-requires : goal.join-got-requires
join-got-requires c =
    let number : (1 ≤ get_or c.args.numbers.now (c.loop-i.i - 1) 0) × (get_or c.args.numbers.now (c.loop-i.i - 1) 0 ≤ 96) = (book_at c.args.numbers.now (c.loop-i.i - 1) (omega (arith, c.loop-i-test.true, c.loop-i.invariant.1)) c.requires.2) in
    let p = c.requires.0 in
    let w = c.loop-i.invariant.2 p.0 p.1 p.2 p.3 in
    let r = number in
    ((w.tree, part_start c.loop-i.m c.loop-i.out ∙ w.text, w.stands.form, p.4), omega (arith, r.0, r.1, c.requires.1, c.join-arg-1.given, c.join-arg-in-loop-i-1.given), omega arith)

pub returns-in_default : goal.returns-in_default
returns-in_default c =
    let back : c.loop-i.i - 1 + 1 ≡ c.loop-i.i = omega arith in
    rw back (
      omega arith,
      omega arith,
      λ t Gs e rep.
          let w = c.loop-i.invariant.2 t Gs e rep in
          ((_, w), walk_stops w (omega arith) (omega arith) (no_tree w.tree (part_group c.args.book.now (get_or c.args.numbers.now (c.loop-i.i - 1) 0)) c.in_default.is (c.join-got.ensures w.tree (part_start c.loop-i.m c.loop-i.out ∙ w.text)))),
    )

pub slice_bounds-copy-end : goal.slice_bounds-copy-end
slice_bounds-copy-end c =
    let after : (t : Forest) (Gs : List Restriction) (e : c.args.toks.now ≡ flat t) (rep : Represents c.args.n (group_numbered c.args.book.now) Gs t)
    → Next (group_numbered c.args.book.now (get_or c.args.numbers.now (c.loop-i.i - 1) 0)) (c.loop-i.invariant.2 t Gs e rep).tree c.join-got.new.out c.in-Some.k = (λ t Gs e rep. let w = c.loop-i.invariant.2 t Gs e rep in
    next-tree w.tree (part_group c.args.book.now (get_or c.args.numbers.now (c.loop-i.i - 1) 0)) c.in-Some.is (c.join-got.ensures w.tree (part_start c.loop-i.m c.loop-i.out ∙ w.text))) in
    let p = c.requires.0 in let x = after p.0 p.1 p.2 p.3 in omega (arith, x.room)

pub loop-i-preserved : goal.loop-i-preserved
loop-i-preserved c =
    let number : (1 ≤ get_or c.args.numbers.now (c.loop-i.i - 1) 0) × (get_or c.args.numbers.now (c.loop-i.i - 1) 0 ≤ 96) = (book_at c.args.numbers.now (c.loop-i.i - 1) (omega (arith, c.loop-i-test.true, c.loop-i.invariant.1)) c.requires.2) in
    let after : (t : Forest) (Gs : List Restriction) (e : c.args.toks.now ≡ flat t) (rep : Represents c.args.n (group_numbered c.args.book.now) Gs t)
    → Next (group_numbered c.args.book.now (get_or c.args.numbers.now (c.loop-i.i - 1) 0)) (c.loop-i.invariant.2 t Gs e rep).tree c.join-got.new.out c.in-Some.k = (λ t Gs e rep. let w = c.loop-i.invariant.2 t Gs e rep in
    next-tree w.tree (part_group c.args.book.now (get_or c.args.numbers.now (c.loop-i.i - 1) 0)) c.in-Some.is (c.join-got.ensures w.tree (part_start c.loop-i.m c.loop-i.out ∙ w.text))) in (
      c.copy-m-in-loop-i.auto.out ∙ c.loop-i.invariant.0,
      wrote_most c.copy-m-in-loop-i.ensures,
      λ t Gs e rep.
          let w = c.loop-i.invariant.2 t Gs e rep in
          let x = after t Gs e rep in
          walk-joins w (omega arith) (omega arith) number x.is (read_back c.copy-m-in-loop-i.ensures ∙ x.text),
    )

pub returns : goal.returns
returns c = (
  c.loop-i.invariant.1,
  λ t Gs e rep.
      let z : c.loop-i.i ≡ 0 = omega arith in
      subst (λ i. Walked c.args.n (group_numbered c.args.book.now) Gs c.args.numbers.now i (take c.loop-i.m c.loop-i.out)) z (c.loop-i.invariant.2 t Gs e rep),
)
