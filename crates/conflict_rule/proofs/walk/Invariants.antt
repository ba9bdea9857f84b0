use mathlib.Core.Path.{◌≡◌}
use mathlib.Core.List.{List}
use Prim.Native.Nat.{◌≤◌}
use lib.ListN.{length, take}
use Rattle.tree_tokens.specs.Tokens.{flat}
use Rattle.spec_orders.specs.CircularOrder.{Restriction}
use Rattle.spec_orders.specs.Tree.{Forest}
use Rattle.spec_calls.specs.Calls.{group_numbered}
use Rattle.conflict_rule.specs.LeavingOut.{Represents, Walked}
use Rattle.conflict_rule.proofs.walk.Given as goal

abbrev pub invariant-loop-i : goal.invariant-loop-i
invariant-loop-i l = (length l.out ≡ length l.initial.out) × (l.m ≤ length l.out)
    × ((t : Forest) (Gs : List Restriction) → l.toks ≡ flat t → Represents l.n (group_numbered l.book) Gs t → Walked l.n (group_numbered l.book) Gs l.numbers l.i (take l.m l.out))
