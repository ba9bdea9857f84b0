-- The standard order of a tree in form: leaf 1, then its leaves from left to right; and no other order is one.
use mathlib.Core.Path.{◌≡◌, refl, subst, sym}
use mathlib.Core.Logic.{inr}
use mathlib.Core.List.{List}
use Prim.Native.Nat.{ℕ, zero, suc, ◌≤◌}
use native.Mathlib.Omega.{arith}
use Rattle.spec_orders.specs.declared.Layout.{Layout}
use Rattle.spec_orders.specs.declared.Layout.TheVariants.{Ring}
use Rattle.spec_orders.specs.Lists.{NotAfter, Rearranged, numbers_from}
use Rattle.spec_orders.specs.Tree.{Forest, frontier, Allowed}
use Rattle.spec_orders.specs.Form.{InForm, StandardOrder, standard}
use Rattle.spec_orders.proofs.Rearranged.{perm_skip}
use Rattle.spec_orders.proofs.NotAfter.{not_after_antisym}
use Rattle.spec_orders.proofs.First.{frontier_allowed, frontier-first}

pub standard_allowed : (t : Forest) → Allowed t (standard t)
standard_allowed t = record { after = frontier t; one_first = refl; order = frontier_allowed t }

-- It has the leaves 1 to n.
pub all_standard : (n : ℕ) (t : Forest) → InForm n t → 1 ≤ n → Rearranged (numbers_from 1 n) (standard t)
all_standard zero t f h = absurd (omega arith)
all_standard (suc n) t f h = perm_skip 1 f.all_leaves

pub standard_is : (n : ℕ) (t : Forest) → InForm n t → StandardOrder Ring n t (standard t)
standard_is n t f = record {
  allowed = standard_allowed t;
  least = λ other a. subst (NotAfter (standard t)) (sym a.one_first) (inr (refl, frontier-first a.order f.canonical));
}

pub standard_unique : (l : Layout) (n : ℕ) (t : Forest) (a b : List ℕ) → StandardOrder l n t a → StandardOrder l n t b → a ≡ b
standard_unique l n t a b p q = not_after_antisym a b (p.least b q.allowed) (q.least a p.allowed)
