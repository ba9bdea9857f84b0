use mathlib.Core.Path.{◌≡◌, subst}
use mathlib.Core.Option.{Option}
use mathlib.Core.List.{List}
use Prim.Native.Nat.{ℕ}
use Rattle.spec_orders.specs.Tree.{Forest}
use Rattle.spec_calls.specs.NodeTable.{tree_in}
use lib.ListN.{replicate}
use Rattle.spec_orders.specs.Form.{InForm}
use Rattle.spec_intersection.specs.Intersection.{intersection}
use Rattle.tree_tokens.proofs.Writes.{read_part}
use Rattle.spec_calls.specs.Tables.{lent_nodes}
use Rattle.spec_calls.proofs.NodeTables.{tree_in_holds}
use Rattle.std.specs.Prelude.{Some}
use Rattle.table_walk.specs.Walks.{Loads}
use Rattle.tree_update.specs.Update.{Answers}
use Rattle.call_intersection.proofs.Laws.{not_met, met}
use Rattle.call_intersection.proofs.common.Goals as goal

-- The tree of so many leaves is that of a table lent for so many.
as-held : {k m : ℕ} (rows : List ℕ) {o : Option Forest} → k ≡ m → tree_in k rows ≡ o → tree_in m rows ≡ o
as-held rows {o = o} e h = subst (λ (j : ℕ). tree_in j rows ≡ o) e h

pub intersect-found-requires : goal.intersect-found-requires
intersect-found-requires c =
    let first : Loads c.args.leaves c.args.nodes.now (replicate 512 0) c.load.new.out (Some c.in-Some.j) = c.in-Some.ensures in
    let first-form : InForm c.args.leaves first.0 = (((tree_in_holds c.args.leaves c.args.nodes.now first.0 c.requires.1).0 first.1).in_form) in
    let second : Loads c.args.leaves c.args.other.now (replicate 512 0) c.load-2.new.out (Some c.in-Some-load.k) = c.in-Some-load.ensures in
    let second-form : InForm c.args.leaves second.0 = (((tree_in_holds c.args.leaves c.args.other.now second.0 c.requires.1).0 second.1).in_form) in
    let t = first in
    let u = second in (
      record { shown = t.0; is = read_part t.2; in_form = first-form; few_leaves = c.requires.1 },
      record { shown = u.0; is = read_part u.2; in_form = second-form; few_leaves = c.requires.1 },
      c.requires.4,
    )

pub returns-in_default-found : goal.returns-in_default-found
returns-in_default-found c =
    let first : Loads c.args.leaves c.args.nodes.now (replicate 512 0) c.load.new.out (Some c.in-Some.j) = c.in-Some.ensures in
    let second : Loads c.args.leaves c.args.other.now (replicate 512 0) c.load-2.new.out (Some c.in-Some-load.k) = c.in-Some-load.ensures in
    λ l n have had e.
    let t = first in
    let u = second in
    not_met (lent_nodes l n have c.args.nodes.now) (lent_nodes l n had c.args.other.now) t.0 (as-held _ e t.1) u.0 (as-held _ e u.1)
    (subst (Answers (intersection t.0 u.0) c.args.out.now c.intersect-found.new.out) c.in_default-found.is (c.intersect-found.ensures t.0 u.0 (read_part t.2) (read_part u.2)))

pub returns : goal.returns
returns c =
    let first : Loads c.args.leaves c.args.nodes.now (replicate 512 0) c.load.new.out (Some c.in-Some.j) = c.in-Some.ensures in
    let second : Loads c.args.leaves c.args.other.now (replicate 512 0) c.load-2.new.out (Some c.in-Some-load.k) = c.in-Some-load.ensures in
    λ l n have had e.
    let t = first in
    let u = second in
    met (lent_nodes l n have c.args.nodes.now) (lent_nodes l n had c.args.other.now) t.0 (as-held _ e t.1) u.0 (as-held _ e u.1)
    (subst (Answers (intersection t.0 u.0) c.args.out.now c.intersect-found.new.out) c.in-Some-found.is (c.intersect-found.ensures t.0 u.0 (read_part t.2) (read_part u.2)))
