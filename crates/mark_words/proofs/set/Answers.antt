use mathlib.Core.Path.{◌≡◌, ap, ◌∙◌}
use Prim.Native.Nat.{ℕ, suc, ◌-◌}
use native.Mathlib.Nat.{div-add-mod}
use native.Mathlib.Omega.{arith}
use lib.ListN.{length}
use Rattle.mark_words.specs.Marks.{marked, words_of, with_leaf}
use Rattle.mark_words.proofs.Steps.{set_none, set-one}
use borrow.Author.Rules.{rules}
use Rattle.mark_words.proofs.set.Goals as goal

pub returns-then-leaf-eq0 : goal.returns-then-leaf-eq0
returns-then-leaf-eq0 c = set_none c.args.words.now c.args.leaf (λ k. (c.type_inv.words k).fits) (λ x l m e. omega arith)

pub returns-then-w-words : goal.returns-then-w-words
returns-then-w-words c = set_none c.args.words.now c.args.leaf (λ k. (c.type_inv.words k).fits) (λ x l m e. omega (arith, div-add-mod (c.args.leaf - 1) 64))

pub returns : goal.returns
returns c =
    let e : suc (c.args.leaf - 1) ≡ c.args.leaf = omega arith in
    rw c.one_mark.ensures
    (set-one c.args.words.now (c.args.leaf - 1) (λ k. search rules) (omega arith)
    ∙ ap (λ (x : ℕ). words_of (length c.args.words.now) (with_leaf x (marked c.args.words.now))) e)
