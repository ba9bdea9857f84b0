use Rattle.std.proofs.Common.{arith}
use Rattle.tree_tokens.specs.Tokens.{plain}
use Rattle.list_bytes.proofs.Laws.{appends_as}
use Rattle.list_fields.proofs.Aiming.{order_length, order_all}
use Rattle.list_line.proofs.Printing.{end_order, end_names, end_tree, end_text, short-text}
use Rattle.list_line.proofs.print_end.Goals as goal

pub returns-in-0 : goal.returns-in-0
returns-in-0 c = (omega (arith, c.put.ensures.past), λ t e g h. appends_as (end_order c.args.file.holds.ns t c.in-0.is) c.put.ensures)

pub put_names-requires : goal.put_names-requires
put_names-requires c = (order_all c.requires.1, omega (arith, c.requires.2, order_length c.requires.1, c.requires.1.few_leaves))

pub returns-in-1 : goal.returns-in-1
returns-in-1 c = (
  omega (arith, c.put_names.ensures.0, order_length c.requires.1, c.requires.1.few_leaves),
  λ t e g h. appends_as (end_names c.args.file.holds.ns t c.in-1.is g) c.put_names.ensures.1,
)

pub returns-in-2 : goal.returns-in-2
returns-in-2 c = (omega (arith, c.put-in-2.ensures.past), λ t e g h. appends_as (end_tree c.args.file.holds.ns t c.in-2.is) c.put-in-2.ensures)

pub put_tree-requires : goal.put_tree-requires
put_tree-requires c = let p = c.requires.0 in (plain p.shown, p.is, omega (arith, c.requires.2, short-text p))

pub returns-in_default : goal.returns-in_default
returns-in_default c = (
  let p = c.requires.0 in omega (arith, (c.put_tree.ensures (plain p.shown) p.is).past, short-text p),
  λ t e g h. appends_as (end_text c.args.file.holds.ns t (omega arith)) (c.put_tree.ensures (plain t) e),
)
