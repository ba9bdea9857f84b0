-- An accepted text is refused at no byte, and any other at one byte only, since what begins alike up to a byte does so up to each one before.
use mathlib.Core.Path.{◌≡◌, sym, subst}
use mathlib.Core.List.{List, ◌++◌, append_assoc}
use Prim.Native.Nat.{ℕ, suc, ◌≤◌, ◌<◌}
use native.Mathlib.Omega.{arith}
use lib.ListN.{length, take, drop, take-append-drop}
use lib.Seq.{take_all, take-take}
use Rattle.spec_orders.specs.FirstByte.{Begun, RefusedAt, at_byte, at_end}

module _ (A : List ℕ → Type 0) where
  pub not_refused : {x : List ℕ} {p : ℕ} → A x → RefusedAt A x p → ⊥
  not_refused {x} {p} a (at_byte h b g) = g (drop (suc p) x, subst A (sym (take-append-drop (suc p) x)) a)
  not_refused a (at_end e b g) = g a

  pub begun_part : (x y : List ℕ) → Begun A (x ++ y) → Begun A x
  begun_part x y b = (y ++ b.0, subst A (append_assoc x y b.0) b.1)

  begun_less : (x : List ℕ) (p q : ℕ) → p ≤ q → Begun A (take q x) → Begun A (take p x)
  begun_less x p q h b =
      subst (Begun A) (take-take p q x h) (begun_part (take p (take q x)) (drop p (take q x)) (subst (Begun A) (sym (take-append-drop p (take q x))) b))

  -- Up to p some accepted text begins alike, and up to the next byte, where there is one, none does.
  stops : {x : List ℕ} {p : ℕ} → RefusedAt A x p → (p ≤ length x) × Begun A (take p x) × (p < length x → Begun A (take (suc p) x) → ⊥)
  stops (at_byte l b g) = (omega arith, b, λ h. g)
  stops {x} {p} (at_end e b g) = (omega arith, subst (Begun A) (sym (take_all p x (omega arith))) b, λ h. absurd (omega arith))

  pub refused_once : {x : List ℕ} {p q : ℕ} → RefusedAt A x p → RefusedAt A x q → p ≡ q
  refused_once {x} {p} {q} a b =
      let s = stops a in
      let t = stops b in
      let f : p < q → ⊥ = λ h. s.2 (omega (arith, t.0)) (begun_less x (suc p) q h t.1) in
      let g : q < p → ⊥ = λ h. t.2 (omega (arith, s.0)) (begun_less x (suc q) p h s.1) in
      omega (arith, f, g)
