-- What an answer about a file says, by its numbers; and a file has one.
use mathlib.Core.Path.{◌≡◌, refl, sym, ◌∙◌, ap}
use mathlib.Core.Logic.{◌⊎◌, inl, inr}
use mathlib.Core.List.{List, [], ◌∷◌}
use Prim.Native.Nat.{ℕ, ◌≤◌, ◌<◌}
use native.Mathlib.Omega.{arith}
use lib.ListN.{length}
use Rattle.spec_orders.proofs.FirstByte.{not_refused, refused_once}
use Rattle.file_syntax.proofs.Exact.{parts_once}
use Rattle.file_read.proofs.Values.{line_some}
use Rattle.file_read.specs.RingFile.{Accepted, line, FileRefused, FileHolds, Says, ring, too_long, malformed}

pub ring_holds : {x : List ℕ} {n h l : ℕ} → Says x (0 ∷ n ∷ h ∷ l ∷ []) → FileHolds x n h l
ring_holds (ring h) = h

-- A refusal: an accepted file has a names line.
pub refused_at : {x : List ℕ} {r p : ℕ} → Says x (r ∷ p ∷ 0 ∷ 0 ∷ []) → ((65536 < length x) × (p ≡ 65536)) ⊎ ((length x ≤ 65536) × FileRefused x p)
refused_at (ring f) = absurd (omega (arith, f.head, line_some f.ns))
refused_at (too_long h) = inl (h, refl)
refused_at (malformed h w) = inr (h, w)

-- A file has one answer.
is_accepted : {x : List ℕ} {n h l : ℕ} → FileHolds x n h l → Accepted x
is_accepted f = record { ns = f.ns; vss = f.vss; rules = f.rules; bytes = f.bytes }

pub holds_once : {x : List ℕ} {n h l m i k : ℕ} (f : FileHolds x n h l) (g : FileHolds x m i k) → (n ≡ m) × (h ≡ i) × (l ≡ k)
holds_once f g =
    let e = parts_once f.ns g.ns f.vss g.vss f.rules g.rules (sym f.bytes ∙ g.bytes) in
    (f.leaves ∙ ap length e.0 ∙ sym g.leaves, f.head ∙ ap (λ ws. length (line ws)) e.0 ∙ sym g.head, f.lines ∙ ap length e.1 ∙ sym g.lines)

pub says_once : {x a b : List ℕ} → Says x a → Says x b → a ≡ b
says_once (ring f) (ring g) = let e = holds_once f g in cc
says_once (ring f) (too_long h) = absurd (omega (arith, f.size))
says_once (ring f) (malformed h w) = absurd (not_refused Accepted (is_accepted f) w)
says_once (too_long h) (ring f) = absurd (omega (arith, f.size))
says_once (too_long h) (too_long k) = refl
says_once (too_long h) (malformed k w) = absurd (omega arith)
says_once (malformed h w) (ring f) = absurd (not_refused Accepted (is_accepted f) w)
says_once (malformed h w) (too_long k) = absurd (omega arith)
says_once (malformed h w) (malformed k v) = ap (λ b. 11 ∷ b ∷ 0 ∷ 0 ∷ []) (refused_once Accepted w v)
