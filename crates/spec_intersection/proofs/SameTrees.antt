-- Two trees in form that allow the same orders are one tree.
use mathlib.Core.Path.{◌≡◌}
use mathlib.Core.Logic.{◌↔◌}
use mathlib.Core.List.{List, ◌∷◌}
use Prim.Native.Nat.{ℕ}
use Rattle.spec_orders.specs.Tree.{Forest, Allowed}
use Rattle.spec_orders.specs.Form.{InForm}
use Rattle.spec_orders.proofs.Forms.{form_distinct}
use Rattle.spec_intersection.proofs.Pieces.{consistent_allowed}
use Rattle.spec_intersection.proofs.Unique.{unique}

pub same_tree : (n : ℕ) (t u : Forest) → InForm n t → InForm n u → ((ord : List ℕ) → Allowed t ord ↔ Allowed u ord) → t ≡ u
same_tree n t u f g h =
    unique t u f.canonical g.canonical (form_distinct n t f) f.single g.single
    (λ xs. ((λ s. (consistent_allowed u xs).1 ((h (1 ∷ xs)).0 ((consistent_allowed t xs).0 s))), (λ s. (consistent_allowed t xs).1 ((h (1 ∷ xs)).1 ((consistent_allowed u xs).0 s)))))
