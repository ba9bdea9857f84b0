use mathlib.Core.Path.{sym, ◌∙◌, subst}
use mathlib.Core.Bool.{true≢false}
use native.Mathlib.Omega.{arith}
use Rattle.spec_orders.specs.Tree.{Kind}
use Rattle.table_reading.specs.Reading.{known, at_record, ItemsRead}
use Rattle.table_sweep.specs.Kept.{tree_kind}
use Rattle.table_sweep.proofs.Nodes.{same_kind, row_bad, zeros_left, row_low, node_good}
use Rattle.table_sweep.proofs.read_node.Goals as goal
use Rattle.table_sweep.proofs.read_node.Goals.{then-row-via-then-row, then-row-via-else-row+then-not-all_zero}

pub returns-in_err-row : goal.returns-in_err-row
returns-in_err-row c =
    rw c.from_residual-in_err-row.ensures (λ S g ls h k vs i z e a b d f t m.
    let q = same_kind k (tree_kind c.in_ok-kind.kind) (sym e ∙ c.in_ok-kind.ensures) in
    row_bad c.args.n S (tree_kind c.in_ok-kind.kind) c.args.r g ls c.args.places.now c.read_entries.new.work c.args.count (c.in_err-row.ensures.1 S g ls h) a b
    (subst (λ (x : Kind). ItemsRead c.args.n S x vs (at_record c.args.n S x c.args.r (known c.args.n S g ls)) i z) q t))

pub returns-then-row : goal.returns-then-row
returns-then-row c =
    λ S g ls h k vs i z e a b d f t m. elim c.then-row.branch [
      | then-row-via-then-row w ↦
          let q = same_kind k (tree_kind c.in_ok-kind.kind) (sym e ∙ c.in_ok-kind.ensures) in
          row_low c.args.n S (tree_kind c.in_ok-kind.kind) c.args.r g ls c.args.places.now c.read_entries.new.work c.args.count c.in_ok-row.row (c.in_ok-row.ensures.1 S g ls h) w.if-row.true a b
          (subst (λ (x : Kind). ItemsRead c.args.n S x vs (at_record c.args.n S x c.args.r (known c.args.n S g ls)) i z) q t) m
      | then-row-via-else-row+then-not-all_zero w ↦
          true≢false (sym (w.all_zero.ensures.1 (zeros_left c.args.places.now vs c.args.count a b)) ∙ w.if-not-all_zero.true)
    ]

pub returns : goal.returns
returns c =
    λ S g ls h.
    rw (c.from.ensures, c.from-state.ensures)
    (node_good c.args.n S c.args.r c.args.kind c.args.count c.args.places.now g ls c.read_entries.new.work c.in_ok-row.row c.verdict.result (tree_kind c.in_ok-kind.kind) c.in_ok-kind.ensures c.in_ok-row.ensures.0
    (c.in_ok-row.ensures.1 S g ls h) (omega arith) (c.all_zero.ensures.0 c.if-not-all_zero.false) (omega (arith, c.fewest.ensures)) (omega arith) c.requires.1 c.requires.0 c.verdict.ensures.1)
