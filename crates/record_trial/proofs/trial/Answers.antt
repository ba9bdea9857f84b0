use Rattle.std.proofs.Common.{Bool, ℕ, ◌≡◌, ◌≤◌, List, length, ltb, ◌||◌, ap, sym, ◌∙◌, arith}
use mathlib.Core.Bool.{or-false}
use borrow.Author.Tests.{le-ltb}
use Rattle.spec_orders.specs.declared.Layout.{Layout}
use Rattle.spec_calls.specs.Tables.{lent_book}
use Rattle.spec_calls.specs.Refusals.{short_nodes}
use Rattle.record_copy.specs.declared.Node.{Node}
use Rattle.record_copy.specs.Rows.{node_rows}
use Rattle.record_left.specs.Records.{lent_records}
use Rattle.call_trial.proofs.Laws.{swept_read}
use Rattle.record_trial.proofs.trial.Goals as goal

few_is : (l : Layout) (n : ℕ) (ns : List Node) → length (node_rows ns) ≡ 65792 → short_nodes (lent_records l n ns) ≡ ltb (length ns) 256
few_is l n ns e = ap (λ (b : Bool). ltb (length ns) 256 || b) (le-ltb (length (node_rows ns)) 65792 (omega (arith, e))) ∙ or-false (ltb (length ns) 256)

pub returns : goal.returns
returns c =
    let l = c.args.layout in
    let n = c.args.n in
    let ns = c.args.nodes.now in
    c.conclude.ensures (length ns) (node_rows ns) (lent_book c.args.book.now c.args.count) c.args.list.now
    (swept_read (few_is l n ns c.sweep.ensures.0) c.leaf_count-leaves.ensures c.ready-waiting.ensures c.sweep.ensures.1)
