use mathlib.Core.Path.{◌≡◌, refl}
use mathlib.Core.Bool.{false}
use mathlib.Core.List.{List}
use Prim.Native.Nat.{ℕ}
use Rattle.spec_orders.specs.CircularOrder.{Restriction}
use lib.ListN.{replicate}
use Rattle.mark_words.specs.Marks.{marked}
use Rattle.spec_calls.specs.Calls.{is_none}
use Rattle.spec_calls.specs.NodeTable.{tree_in}
use Rattle.table_sweep.specs.declared.Verdict.{Verdict}
use Rattle.table_sweep.specs.declared.Verdict.TheVariants.{NoTree, Impossible, Possible}
use Rattle.table_sweep.specs.Kept.{Told}
use Rattle.table_sweep.proofs.holds.Goals as goal
use Rattle.table_sweep.proofs.holds.Goals.{in-NoTree, in_default}

some_tree : (n : ℕ) (S : Restriction) (table : List ℕ) (v : Verdict) → (v ≡ NoTree → ⊥) → Told n S table v → is_none (tree_in n table) ≡ false
some_tree n S table NoTree h t = absurd (h refl)
some_tree n S table Impossible h t = rw t.1
some_tree n S table Possible h t = rw t.1

pub returns : goal.returns
returns c =
    let told : Told c.args.n (marked (replicate 4 0)) c.args.table.now c.at_end.result = c.at_end.ensures _ c.args.table.now c.requires.0 c.requires.1 c.requires.2 (c.sweep.ensures _ (c.begin.ensures c.args.n)) in
    elim c.match-matches.branch [
      | in-NoTree w ↦ rw (w.matches-is, w.in-NoTree.ensures (marked (replicate 4 0)) c.args.table.now c.requires.0 c.requires.1 c.requires.2 (c.sweep.ensures _ (c.begin.ensures c.args.n)))
      | in_default w ↦ rw (w.matches-is, some_tree c.args.n (marked (replicate 4 0)) c.args.table.now c.at_end.result w.in_default.not-NoTree told)
    ]
