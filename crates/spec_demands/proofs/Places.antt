-- Numbers in the 96 places of a conflict list.
use mathlib.Core.Path.{◌≡◌, sym, ◌∙◌, ap}
use mathlib.Core.Option.{Option, none, some}
use mathlib.Core.List.{List, ◌++◌, append_assoc}
use Prim.Native.Nat.{ℕ, ◌-◌, ◌≤◌}
use native.Mathlib.Omega.{arith}
use lib.ListN.{length, take, replicate, length-append, length-take}
use lib.Seq.{take-take, take-append_seam}
use Rattle.spec_calls.specs.declared.Refusal.{Refusal}
use Rattle.spec_calls.specs.Tables.{over, padded}
use Rattle.spec_calls.specs.Refusals.{reply}
use Rattle.spec_calls.specs.Calls.{Filled, filled_as, filled}
use Rattle.spec_calls.proofs.Reports.{refused_number}

-- Numbers that stand with zeros in 96 places are told by the places and how many they are.
pub same_numbers : (xs ys rest : List ℕ) → length xs ≡ length ys → take 96 (padded 96 ys ++ rest) ≡ padded 96 xs → xs ≡ ys
same_numbers xs ys rest l e =
    let few : length xs ≤ 96 = omega (arith, length-take 96 (padded 96 ys ++ rest), ap length e, length-append xs (replicate (96 - length xs) 0)) in
    sym (take-append_seam xs _)
    ∙ ap (take (length xs)) (sym e)
    ∙ take-take (length xs) 96 (padded 96 ys ++ rest) few
    ∙ ap (λ k. take k (padded 96 ys ++ rest)) l
    ∙ ap (take (length ys)) (append_assoc ys _ rest)
    ∙ take-append_seam ys _

-- What a call filled that returned 0.
pub filled_done : (must : Option Refusal) (v : ℕ) (xs table new : List ℕ) (m : ℕ) → filled_as (reply 0 m) new ≡ filled must v xs table → (m ≡ v) × (new ≡ over xs table)
filled_done (some r) v xs table new m e = absurd (refused_number r (sym (ap (λ (x : Filled). x.answer.number) e)))
filled_done none v xs table new m e = (ap (λ (x : Filled). x.answer.value) e, ap (λ (x : Filled). x.table) e)
