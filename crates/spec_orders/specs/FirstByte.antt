-- Document 01, "What a call refuses": the byte that 11 names of a ring file, and 12 of a text's shape. A says which texts are accepted.
use Rattle.std.specs.Prelude.{◌≡◌, List, ◌++◌, ℕ, suc, ◌<◌, length, take}

-- Some accepted text begins with x.
abbrev pub Begun : (List ℕ → Type 0) → List ℕ → Type 0
Begun A x = (y : List ℕ) × A (x ++ y)

-- "The first byte up to and including which no accepted file begins alike, the size limit apart, or the length if the file ends too soon."
pub data RefusedAt (A : List ℕ → Type 0) (x : List ℕ) (p : ℕ) : Type 0 where
  at_byte : p < length x → Begun A (take p x) → (Begun A (take (suc p) x) → ⊥) → RefusedAt A x p
  at_end : p ≡ length x → Begun A x → (A x → ⊥) → RefusedAt A x p
