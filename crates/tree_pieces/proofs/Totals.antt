-- What code finds in a judged sequence, in the words of the total update.
use mathlib.Core.Path.{◌≡◌, refl, sym, ap, ◌∙◌}
use mathlib.Core.Bool.{Bool, true, false, cond}
use mathlib.Core.Logic.{◌⊎◌, inl, inr}
use mathlib.Core.List.{List, [], ◌∷◌}
use Prim.Native.Nat.{ℕ, ◌≤◌}
use native.Mathlib.Omega.{arith}
use borrow.Author.Tests.{le-leb, lt-leb, leb-true, leb-false}
use lib.Dec.{eqb, leb}
use lib.ListN.{length}
use Rattle.spec_orders.specs.Tree.{P, append}
use Rattle.spec_orders.specs.Reduce.{put_sorted, pack}
use Rattle.tree_tokens.specs.Tokens.{State, E, F, number, Judged, j_nil, j_leaf, j_node, encode}
use Rattle.tree_tokens.specs.Views.{state_of, rest_of}
use Rattle.tree_tokens.proofs.Laws.{at_end}
use Rattle.tree_judge.specs.Total.{Total, whole_of, only_of, partial_of, pack_of, first_linear, first_mirrored, lines, mirrored_lines, linear_of, mirrored_of, gather_of, reduced_of, totals}
use Rattle.tree_pieces.specs.Writers.{with_state, from_partial, first_in_line, all_in_line, p_in_line, gathered}
use Rattle.tree_pieces.proofs.Laws.{AtFirst, at_first, totals_none, from_none, from_here, from_on}

-- The items of one state.
pub only_is : (z : State) (ts : List Total) → with_state (number z) ts ≡ only_of z ts
only_is z [] = refl
only_is z (t ∷ ts) = ap (λ (us : List Total). cond (eqb (number t.state) (number z)) (t ∷ us) us) (only_is z ts)

-- The partial items: the first item is one of them, or not.
pub partial_in : {j : Judged} (a : AtFirst j) → 2 ≤ number (state_of j) → partial_of (totals j) ≡ a.head ∷ partial_of (totals (rest_of j))
partial_in {j} a h = rw (a.split, a.its_state, le-leb 2 (number (state_of j)) h)

pub partial_out : {j : Judged} (a : AtFirst j) → (2 ≤ number (state_of j) → ⊥) → partial_of (totals j) ≡ partial_of (totals (rest_of j))
partial_out {j} a h = rw (a.split, a.its_state, lt-leb 2 (number (state_of j)) (omega arith))

-- The items from the first partial one on have the same partial items; none are left, or the first is partial.
from_step : (j : Judged) → AtFirst j → partial_of (totals (from_partial (rest_of j))) ≡ partial_of (totals (rest_of j))
    → partial_of (totals (from_partial j)) ≡ partial_of (totals j)
from_step j a same = go (leb 2 (number (state_of j))) refl
  where
    go : (b : Bool) → leb 2 (number (state_of j)) ≡ b → partial_of (totals (from_partial j)) ≡ partial_of (totals j)
    go true e = rw (from_here j (leb-true 2 (number (state_of j)) e))
    go false e =
        let h : (2 ≤ number (state_of j)) → ⊥ = λ l. omega (arith, l, leb-false 2 (number (state_of j)) e) in
        rw (from_on j h) (same ∙ sym (partial_out a h))

pub partial_from : (j : Judged) → partial_of (totals (from_partial j)) ≡ partial_of (totals j)
unfolding encode rest_of
partial_from j_nil = rw from_none
partial_from (j_leaf s b j) = from_step (j_leaf s b j) (at_first (j_leaf s b j) (omega arith)) (partial_from j)
partial_from (j_node s k i j) = from_step (j_node s k i j) (at_first (j_node s k i j) (omega arith)) (partial_from j)

is_step : (j : Judged) → (from_partial (rest_of j) ≡ j_nil) ⊎ (2 ≤ number (state_of (from_partial (rest_of j))))
    → (from_partial j ≡ j_nil) ⊎ (2 ≤ number (state_of (from_partial j)))
is_step j same = go (leb 2 (number (state_of j))) refl
  where
    go : (b : Bool) → leb 2 (number (state_of j)) ≡ b → (from_partial j ≡ j_nil) ⊎ (2 ≤ number (state_of (from_partial j)))
    go true e = let h = leb-true 2 (number (state_of j)) e in inr (rw (from_here j h) h)
    go false e = rw (from_on j (λ l. omega (arith, l, leb-false 2 (number (state_of j)) e))) same

pub from_is : (j : Judged) → (from_partial j ≡ j_nil) ⊎ (2 ≤ number (state_of (from_partial j)))
unfolding rest_of
from_is j_nil = inl from_none
from_is (j_leaf s b j) = is_step (j_leaf s b j) (from_is j)
from_is (j_node s k i j) = is_step (j_node s k i j) (from_is j)

pub partial_none : (j : Judged) {l : List ℕ} → l ≡ encode (from_partial j) → length l ≡ 0 → partial_of (totals j) ≡ []
partial_none j e h = sym (partial_from j) ∙ rw (at_end (from_partial j) e h, totals_none)

pub partial_more : (j : Judged) (a : AtFirst (from_partial j)) → partial_of (totals j) ≡ a.head ∷ partial_of (totals (rest_of (from_partial j)))
partial_more j a = sym (partial_from j) ∙ go (from_is j)
  where
    go : (from_partial j ≡ j_nil) ⊎ (2 ≤ number (state_of (from_partial j)))
        → partial_of (totals (from_partial j)) ≡ a.head ∷ partial_of (totals (rest_of (from_partial j)))
    go (inl e) = absurd (omega (arith, ap length (sym (ap totals e ∙ totals_none) ∙ a.split)))
    go (inr h) = partial_in a h

-- A line in its two directions.
pub first_linear_is : (ts : List Total) → first_in_line false ts ≡ first_linear ts
first_linear_is [] = refl
first_linear_is (t ∷ ts) = refl

pub first_mirrored_is : (ts : List Total) → first_in_line true ts ≡ first_mirrored ts
first_mirrored_is [] = refl
first_mirrored_is (t ∷ ts) = refl

pub lines_is : (ts : List Total) → all_in_line false ts ≡ lines ts
lines_is [] = refl
lines_is (t ∷ ts) = ap (append t.linear) (lines_is ts)

pub mirrored_lines_is : (ts : List Total) → all_in_line true ts ≡ mirrored_lines ts
mirrored_lines_is [] = refl
mirrored_lines_is (t ∷ ts) = ap (append t.mirrored) (mirrored_lines_is ts)

pub p_linear_is : (ts : List Total) → p_in_line false ts ≡ linear_of P ts
unfolding p_in_line linear_of pack_of
p_linear_is ts = rw (only_is E ts, only_is F ts, first_linear_is (partial_of ts))

pub p_mirrored_is : (ts : List Total) → p_in_line true ts ≡ mirrored_of P ts
unfolding p_in_line mirrored_of pack_of
p_mirrored_is ts = rw (only_is E ts, only_is F ts, first_mirrored_is (partial_of ts))

-- A P-node's partial and full items as one item; that item among the empty ones.
pub gathered_is : (ts : List Total) → gathered ts ≡ gather_of (partial_of ts) (only_of F ts)
unfolding gathered
gathered_is ts = ap (gather_of (partial_of ts)) (only_is F ts)

pub p_reduced_is : (ts : List Total) → pack (put_sorted (gathered ts) (whole_of (with_state 0 ts))) ≡ reduced_of P ts
unfolding reduced_of
p_reduced_is ts = rw (gathered_is ts, only_is E ts)
