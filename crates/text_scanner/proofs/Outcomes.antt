-- Every text has an outcome for n leaves: a tree, or the byte at which it is refused. (`spec_orders/proofs/TextOnce.reads_once`: it has one.)
use mathlib.Core.Path.{◌≡◌, refl}
use mathlib.Core.List.{List}
use Prim.Native.Nat.{ℕ, zero, suc}
use native.Mathlib.Omega.{arith}
use Rattle.spec_orders.specs.Tree.{C, Forest}
use Rattle.spec_orders.specs.ThreeNeighbours.{relabel}
use Rattle.spec_orders.specs.TreeText.{tree_text, Shaped, ShapeText, Found, tree, refused, Reads, accepted, no_shape, breaks_rule}
use Rattle.text_scanner.specs.Scan.{TextAnswer, scan}
use Rattle.text_scanner.specs.Rule.{broken_at}
use Rattle.text_scanner.proofs.Exact.{Exact, is_text, at, scan_exact}
use Rattle.text_scanner.proofs.Rule.{Least, fine, worst, broken_least}
use Rattle.text_scanner.proofs.Sorted.{keeps_accepted}

-- Of a text of the shape, by the least byte at which its tree breaks a rule (0: at none).
pub ruled : (n : ℕ) (x : List ℕ) (t : Forest) → Shaped n t → x ≡ tree_text t → (p : ℕ) → Least C 0 2 t p → ((p ≡ 0 → ⊥) → Reads n x (refused p)) × (p ≡ 0 → Reads n x (tree (relabel t)))
ruled n x t s b _ (fine h) = (λ z. absurd (z refl), λ z. accepted (keeps_accepted n x t s b h))
ruled n x t s b _ (worst p l w q) = (λ z. breaks_rule s b (record { broken = w; least = q }), λ z. absurd (omega arith))

pub reads_some : (n : ℕ) (x : List ℕ) → (f : Found) × Reads n x f
reads_some n x = outcome (scan n x) (scan_exact n x)
  where
    shaped : (s : ShapeText n x) (p : ℕ) → Least C 0 2 s.tree p → (f : Found) × Reads n x f
    shaped s zero l = (tree (relabel s.tree), (ruled n x s.tree s.shaped s.bytes zero l).1 refl)
    shaped s (suc p) l = (refused (suc p), (ruled n x s.tree s.shaped s.bytes (suc p) l).0 (λ e. omega arith))

    outcome : (a : TextAnswer) → Exact n x a → (f : Found) × Reads n x f
    outcome a (is_text s) = shaped s (broken_at C 0 2 s.tree) (broken_least s.tree C 0 2 (omega arith))
    outcome a (at p r) = (refused p, no_shape r)
