use mathlib.Core.Path.{refl, ap, subst, ◌∙◌}
use mathlib.Core.List.{List}
use Prim.Native.Nat.{ℕ, ◌+◌, ◌≤◌}
use native.Mathlib.Omega.{arith}
use lib.ListN.{length, replicate}
use Rattle.spec_orders.specs.Tree.{leaf_item}
use Rattle.spec_orders.specs.SeenFrom.{seen_from}
use Rattle.tree_tokens.specs.Tokens.{Wrote}
use Rattle.tree_laid.specs.Lying.{Lies}
use Rattle.tree_seen.proofs.Walking.{root_tokens, in_tokens, seen_root, tree_long, seen_as, leaf_lies}
use Rattle.tree_seen.proofs.seen_from.Goals as goal

pub walk-u-requires : goal.walk-u-requires
walk-u-requires c = (root_tokens c.requires.0, in_tokens c.requires.0 c.index_of-p.ensures, (leaf_item c.args.s, leaf_lies c.args.s (replicate 1024 0) refl refl refl refl), (omega arith, omega arith), omega (arith, c.requires.1), refl, refl)

pub slice_bounds-copy-end : goal.slice_bounds-copy-end
slice_bounds-copy-end c =
    let lying : Lies (seen_from c.args.s c.args.b c.requires.0.shown) c.walk-u.new.buf c.walk-u.result = (let t = c.requires.0 in
    seen_root t c.args.s (c.walk-u.ensures.1 (root_tokens t).0 c.args.b (leaf_item c.args.s) (root_tokens t).1 c.index_of-p.ensures (leaf_lies c.args.s (replicate 1024 0) refl refl refl refl))) in
    let places : (c.walk-u.result.from ≤ 512) × (512 ≤ c.walk-u.result.to) × (c.walk-u.result.to ≤ c.walk-u.result.from + 511) = ((c.walk-u.ensures.0.0, c.walk-u.ensures.0.1, omega (arith, lying.held.many, tree_long c.requires.0 c.args.s, c.requires.1))) in
    omega (arith, places, c.walk-u.auto)

pub copy-requires : goal.copy-requires
copy-requires c =
    let lying : Lies (seen_from c.args.s c.args.b c.requires.0.shown) c.walk-u.new.buf c.walk-u.result = (let t = c.requires.0 in
    seen_root t c.args.s (c.walk-u.ensures.1 (root_tokens t).0 c.args.b (leaf_item c.args.s) (root_tokens t).1 c.index_of-p.ensures (leaf_lies c.args.s (replicate 1024 0) refl refl refl refl))) in
    omega (arith, ap length lying.held.text, tree_long c.requires.0 c.args.s, c.requires.2)

pub returns : goal.returns
returns c =
    let lying : Lies (seen_from c.args.s c.args.b c.requires.0.shown) c.walk-u.new.buf c.walk-u.result = (let t = c.requires.0 in
    seen_root t c.args.s (c.walk-u.ensures.1 (root_tokens t).0 c.args.b (leaf_item c.args.s) (root_tokens t).1 c.index_of-p.ensures (leaf_lies c.args.s (replicate 1024 0) refl refl refl refl))) in
    let l = lying.held.text in (
      omega (arith, c.copy.ensures.many, ap length l, tree_long c.requires.0 c.args.s),
      λ t e. subst (λ (x : List ℕ). Wrote x c.args.out.now c.copy.new.out c.copy.result) (l ∙ seen_as c.requires.0 c.args.s t e) c.copy.ensures,
    )
