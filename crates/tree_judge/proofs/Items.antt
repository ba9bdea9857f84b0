-- The items of a sequence from an index on.
use mathlib.Core.Path.{◌≡◌, refl, sym, ap, ◌∙◌}
use mathlib.Core.List.{List}
use Prim.Native.Nat.{ℕ, ◌+◌, ◌-◌, ◌<◌}
use native.Mathlib.Omega.{arith}
use lib.ListN.{length, take, drop, length-drop}
use lib.Seq.{drop-drop, drop-append_seam}
use Rattle.tree_tokens.specs.Tokens.{State, E, F, L, R, X, number, Judged, encode}
use Rattle.tree_tokens.specs.Views.{first_of, rest_of}
use Rattle.tree_tokens.proofs.Laws.{encode_split}
use Rattle.tree_judge.specs.Automaton.{Run, p0, pE, pF, pM, p1, p2, pR, pX, c0, cE, cF, cL, cEL, cU, cD, cR, cX, step}
use Rattle.spec_orders.proofs.ListLaws.{part_to_end}

-- They are a part of the slice, and there are some before its end.
pub from_items : (k : Judged) (x : List ℕ) (i : ℕ) → drop i x ≡ encode k → take (length x - i) (drop i x) ≡ encode k
from_items k x i e = part_to_end x i ∙ e

pub some_items : (k : Judged) (x : List ℕ) (i : ℕ) → drop i x ≡ encode k → i < length x → 0 < length (encode k)
some_items k x i e h = omega (arith, ap length e, length-drop i x)

-- Those after the first of them.
pub next-items : (k : Judged) (x : List ℕ) (i : ℕ) {m : ℕ} → drop i x ≡ encode k → m ≡ length (encode (first_of k)) → drop (i + m) x ≡ encode (rest_of k)
next-items k x i {m} e h = sym (drop-drop m i x) ∙ rw (e, h, encode_split k) (drop-append_seam (encode (first_of k)) (encode (rest_of k)))

-- A second empty item takes the automaton nowhere, nor a second full one.
steady_empty : (q : Run) → step (step q E) E ≡ step q E
unfolding step
steady_empty p0 = refl
steady_empty pE = refl
steady_empty pF = refl
steady_empty pM = refl
steady_empty p1 = refl
steady_empty p2 = refl
steady_empty pR = refl
steady_empty pX = refl
steady_empty c0 = refl
steady_empty cE = refl
steady_empty cF = refl
steady_empty cL = refl
steady_empty cEL = refl
steady_empty cU = refl
steady_empty cD = refl
steady_empty cR = refl
steady_empty cX = refl

steady_full : (q : Run) → step (step q F) F ≡ step q F
unfolding step
steady_full p0 = refl
steady_full pE = refl
steady_full pF = refl
steady_full pM = refl
steady_full p1 = refl
steady_full p2 = refl
steady_full pR = refl
steady_full pX = refl
steady_full c0 = refl
steady_full cE = refl
steady_full cF = refl
steady_full cL = refl
steady_full cEL = refl
steady_full cU = refl
steady_full cD = refl
steady_full cR = refl
steady_full cX = refl

pub steady : (z : State) → number z < 2 → (q : Run) → step (step q z) z ≡ step q z
steady E h q = steady_empty q
steady F h q = steady_full q
steady L h q = absurd (omega arith)
steady R h q = absurd (omega arith)
steady X h q = absurd (omega arith)
