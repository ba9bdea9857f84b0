use mathlib.Core.Path.{◌≡◌, ◌∙◌}
use Prim.Native.Nat.{◌-◌}
use native.Mathlib.Omega.{arith}
use lib.ListN.{length-drop}
use Rattle.spec_orders.proofs.ListLaws.{part_to_end}
use Rattle.tree_tokens.specs.Tokens.{encode}
use Rattle.tree_tokens.specs.Views.{rest_of}
use Rattle.tree_tokens.proofs.Laws.{part_first, part_rest}
use Rattle.tree_tokens.proofs.EachItemIterator.next.Goals as goal

pub invariant_of-self : goal.invariant_of-self
invariant_of-self c = let p = c.self.invariant in (rest_of p.0, part_rest p.0 p.1 (c.size-m.ensures.2 p.0 p.1))

pub returns-clause-steps : goal.returns-clause-steps
returns-clause-steps c =
    let v : c.self.inside.toks.now ≡ c.args.self.now = c.self.view_is in
    let n : c.size-m.result - 0 ≡ c.size-m.result = omega arith in (
      rw (← v, part_to_end c.self.inside.toks.now c.size-m.result) (omega (arith, length-drop c.size-m.result c.self.inside.toks.now, c.size-m.ensures.0, c.size-m.ensures.1)),
      λ j e.
          let q : c.self.inside.toks.now ≡ encode j = v ∙ e in
          let m = c.size-m.ensures.2 j q in
          (rw n at (part_first j q m), part_rest j q m),
    )
