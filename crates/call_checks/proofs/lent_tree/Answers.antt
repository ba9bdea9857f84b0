use mathlib.Core.Path.{sym, subst}
use Prim.Native.Nat.{ℕ}
use Rattle.std.specs.Prelude.{Some}
use Rattle.spec_calls.specs.Tables.{lent_nodes}
use Rattle.table_walk.specs.Walks.{Loads}
use Rattle.spec_calls.proofs.Demands.{tables_whole}
use Rattle.call_checks.proofs.Laws.{leaves_are, tree_lent}
use Rattle.call_checks.proofs.lent_tree.Goals as goal

pub returns : goal.returns
returns c =
    let nodes = lent_nodes c.args.layout c.args.n c.args.have c.args.nodes.now in
    let pass = sym (c.in_ok-check_tables.ensures) in
    tree_lent nodes c.args.other pass
    (subst (λ (m : ℕ). Loads m c.args.nodes.now c.args.toks.now c.load.new.out (Some c.in-Some.k)) (leaves_are (tables_whole nodes c.args.other pass).0 c.leaf_count-leaves.ensures) (c.in-Some.ensures))
