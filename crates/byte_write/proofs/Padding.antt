-- A text, and zeros after it up to a size.
use mathlib.Core.Path.{◌≡◌, ◌∙◌}
use mathlib.Core.List.{List, ◌++◌}
use Prim.Native.Nat.{ℕ, ◌-◌}
use lib.ListN.{length, drop, replicate}
use Rattle.tree_tokens.specs.Tokens.{Wrote}

pub wrote_padded : (size : ℕ) {xs old mid new : List ℕ} {k m : ℕ} → Wrote xs old mid k → Wrote (xs ++ replicate (size - k) 0) old new m
    → new ≡ (xs ++ replicate (size - length xs) 0) ++ drop (length (xs ++ replicate (size - length xs) 0)) old
wrote_padded size a b = b.text ∙ rw a.many
