-- Dictionary order of lists of numbers: `NotAfter xs ys` says that xs is not after ys.
use mathlib.Core.Path.{◌∙◌, ◌≡◌, ap₂, refl}
use mathlib.Core.Logic.{inl, inr}
use mathlib.Core.List.{List, [], ◌++◌, ◌∷◌}
use Prim.Native.Nat.{ℕ}
use native.Mathlib.Omega.{arith}
use lib.ListN.{length}
use Rattle.spec_orders.specs.Lists.{NotAfter}

pub not_after_refl : (xs : List ℕ) → NotAfter xs xs
not_after_refl [] = tt
not_after_refl (x ∷ xs) = inr (refl, not_after_refl xs)

pub not_after_trans : (xs ys zs : List ℕ) → NotAfter xs ys → NotAfter ys zs → NotAfter xs zs
not_after_trans [] ys zs p q = tt
not_after_trans (x ∷ xs) [] zs p q = absurd p
not_after_trans (x ∷ xs) (y ∷ ys) [] p q = absurd q
not_after_trans (x ∷ xs) (y ∷ ys) (z ∷ zs) (inl a) (inl b) = inl (omega arith)
not_after_trans (x ∷ xs) (y ∷ ys) (z ∷ zs) (inl a) (inr (e, q)) = inl (omega arith)
not_after_trans (x ∷ xs) (y ∷ ys) (z ∷ zs) (inr (d, p)) (inl b) = inl (omega arith)
not_after_trans (x ∷ xs) (y ∷ ys) (z ∷ zs) (inr (d, p)) (inr (e, q)) = inr (d ∙ e, not_after_trans xs ys zs p q)

pub not_after_antisym : (xs ys : List ℕ) → NotAfter xs ys → NotAfter ys xs → xs ≡ ys
not_after_antisym [] [] p q = refl
not_after_antisym [] (y ∷ ys) p q = absurd q
not_after_antisym (x ∷ xs) [] p q = absurd p
not_after_antisym (x ∷ xs) (y ∷ ys) (inl a) (inl b) = absurd (omega arith)
not_after_antisym (x ∷ xs) (y ∷ ys) (inl a) (inr (e, q)) = absurd (omega arith)
not_after_antisym (x ∷ xs) (y ∷ ys) (inr (d, p)) (inl b) = absurd (omega arith)
not_after_antisym (x ∷ xs) (y ∷ ys) (inr (d, p)) (inr (e, q)) = ap₂ ◌∷◌ d (not_after_antisym xs ys p q)

-- Parts of the same length, one after the other.
pub not_after_append : (a b c d : List ℕ) → length a ≡ length b → NotAfter a b → NotAfter c d → NotAfter (a ++ c) (b ++ d)
not_after_append [] [] c d e p q = q
not_after_append [] (y ∷ b) c d e p q = absurd (omega arith)
not_after_append (x ∷ a) [] c d e p q = absurd p
not_after_append (x ∷ a) (y ∷ b) c d e (inl l) q = inl l
not_after_append (x ∷ a) (y ∷ b) c d e (inr (s, p)) q = inr (s, not_after_append a b c d (omega arith) p q)

pub not_after_prefix : (a c d : List ℕ) → NotAfter c d → NotAfter (a ++ c) (a ++ d)
not_after_prefix [] c d p = p
not_after_prefix (x ∷ a) c d p = inr (refl, not_after_prefix a c d p)
