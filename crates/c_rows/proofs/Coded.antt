-- What holds of a call's answer and of values that it was passed holds of the two numbers that the answer is coded in and of what these values are.
use mathlib.Core.Path.{◌≡◌, sym, ap₂, subst}
use Rattle.spec_calls.specs.Refusals.{Reply}

-- Of the answer alone.
pub replied : (F : Reply → Type 0) {a b : Reply} → b ≡ a → F a → F b
replied F d f = subst F (sym d) f

pub coded : {A : Type 0} (F : A → Reply → Type 0) {x y : A} {a b : Reply} → x ≡ y → b ≡ a → F x a → F y b
coded {A} F {x} {y} {a} {b} e d f = subst (λ (z : A). F z b) e (replied (F x) d f)

-- Of two values.
pub both : {A B : Type 0} {x y : A} {u v : B} → x ≡ y → u ≡ v → ◌≡◌ {A = A × B} (x, u) (y, v)
both {A} {B} e d = ap₂ (λ (a : A) (b : B). (a, b)) e d
