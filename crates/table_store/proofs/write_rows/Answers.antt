use mathlib.Core.Option.{some}
use mathlib.Core.Path.{◌≡◌, sym, ap, ◌∙◌}
use native.Mathlib.Omega.{arith}
use Rattle.tree_tokens.specs.declared.ItemShape.TheVariants.{Leaf}
use Rattle.tree_tokens.specs.Views.{shape_of}
use Rattle.tree_tokens.proofs.Laws.{shape_read}
use Rattle.tree_tokens.proofs.Steps.{here, at_last, next_token}
use Rattle.tree_tokens.proofs.Writes.{written_end}
use Rattle.table_row.proofs.Rows.{here_long}
use Rattle.table_row.proofs.Records.{before, records_items}
use Rattle.table_store.proofs.Rowing.{rowing_leaf, rowing_node, node_room, next-items, next-over}
use Rattle.table_store.proofs.write_rows.Goals as goal

pub loop-i-preserved-in-Leaf : goal.loop-i-preserved-in-Leaf
loop-i-preserved-in-Leaf c = (c.loop-i.invariant.0, next_token c.loop-i.invariant.1 c.loop-i-test.true (λ j h p g. rowing_leaf p c.loop-i-test.true (sym (c.shape-shape.ensures h p.part) ∙ ap some c.in-Leaf.is) g))

pub slice_bounds-write_row-end : goal.slice_bounds-write_row-end
slice_bounds-write_row-end c = omega (arith, node_room c.items-inner.result.now c.requires.0 c.requires.1 c.loop-i.invariant.1 c.loop-i-test.true (λ h e z. c.in_default.not-Leaf (shape_read (c.shape-shape.ensures h e) z)) (omega (arith, c.items-inner.ensures.0)))

pub write_row-k-requires : goal.write_row-k-requires
write_row-k-requires c =
    let q = here c.loop-i.invariant.1 c.loop-i-test.true c.requires.0.seq c.requires.0.is in
    let s : shape_of q.0 ≡ some Leaf → ⊥ = λ h. c.in_default.not-Leaf (shape_read (c.shape-shape.ensures q.0 q.1.part) h) in
    (next-items c.requires.0 q.1 s q.2 c.loop-i-test.true (c.items-inner.ensures.1 q.0 q.1.part), next-over c.requires.0 q.1 s q.2 c.requires.1)

pub overflow_add-k : goal.overflow_add-k
overflow_add-k c =
    let q = here c.loop-i.invariant.1 c.loop-i-test.true c.requires.0.seq c.requires.0.is in
    let e = c.items-inner.ensures.1 q.0 q.1.part in
    let b = records_items c.requires.0.beside q.1 c.loop-i-test.true (λ h. c.in_default.not-Leaf (shape_read (c.shape-shape.ensures q.0 q.1.part) h)) e in
    omega (arith, node_room c.items-inner.result.now c.requires.0 c.requires.1 c.loop-i.invariant.1 c.loop-i-test.true (λ h e z. c.in_default.not-Leaf (shape_read (c.shape-shape.ensures h e) z)) (omega (arith, c.items-inner.ensures.0)), (rw c.kind_number.ensures at (c.write_row-k.ensures _ _ b e)).many ∙ here_long c.shape-shape.result (before c.args.toks.now c.loop-i.i) q.0 (q.2.narrow c.requires.0.narrow))

pub loop-i-preserved : goal.loop-i-preserved
loop-i-preserved c = (
  omega arith,
  next_token c.loop-i.invariant.1 c.loop-i-test.true (λ j h p g.
      let e = c.items-inner.ensures.1 h p.part in
      let b = records_items c.requires.0.beside p c.loop-i-test.true (λ x. c.in_default.not-Leaf (shape_read (c.shape-shape.ensures h p.part) x)) e in
      rowing_node c.shape-shape.result p c.loop-i-test.true (c.shape-shape.ensures h p.part) c.in_default.not-Leaf (rw c.kind_number.ensures at (c.write_row-k.ensures _ _ b e)) g),
)

pub returns : goal.returns
returns c = λ j e. written_end (at_last c.loop-i.invariant.1 (omega arith) j e).written
