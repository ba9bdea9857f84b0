-- The definitions, computed: the first states of xorshift32 from 1, as they are published; and a load of five bins.
use mathlib.Core.Path.{◌≡◌, refl}
use mathlib.Core.List.{[], ◌∷◌, map}
use Rattle.spec_load.specs.TestLoad.{next_state, state_after, drawn, exchanged, shuffled, circle, run, runs, load}

first-states : map (λ k. state_after k 1) (1 ∷ 2 ∷ 3 ∷ 4 ∷ 5 ∷ 6 ∷ []) ≡ 270369 ∷ 67634689 ∷ 2647435461 ∷ 307599695 ∷ 2398689233 ∷ 745495504 ∷ []
unfolding state_after next_state
first-states = refl

five_places : circle 5 7 ≡ 1 ∷ 3 ∷ 2 ∷ 5 ∷ 4 ∷ []
unfolding circle shuffled exchanged drawn next_state
five_places = refl

five_groups : load 5 7 4 ≡ (2 ∷ 5 ∷ []) ∷ (2 ∷ 5 ∷ 4 ∷ []) ∷ (5 ∷ 4 ∷ []) ∷ (3 ∷ 2 ∷ 5 ∷ 4 ∷ []) ∷ []
unfolding load runs run state_after circle shuffled exchanged drawn next_state
five_groups = refl
