-- The automaton in numbers: its tables, each proved by one test of all places.
use mathlib.Core.Path.{◌≡◌, refl}
use mathlib.Core.Bool.{Bool, true}
use mathlib.Core.List.{List, [], ◌∷◌, map}
use Prim.Native.Nat.{ℕ, zero, suc, ◌≤◌, ◌<◌}
use native.Mathlib.Omega.{arith}
use lib.Dec.{eqb, ltb}
use lib.ListN.{get_or}
use borrow.Author.Tests.{eqb-true, ltb-true}
use Rattle.spec_orders.specs.Lists.{All, all_of}
use Rattle.spec_orders.proofs.Members.{all_decides}
use Rattle.tree_tokens.specs.Tokens.{State, E, F, L, R, X, number}
use Rattle.tree_judge.specs.Judge.{node_state}
use Rattle.tree_judge.specs.Automaton.{Run, p0, pE, pF, pM, p1, p2, pR, pX, c0, cE, cF, cL, cEL, cU, cD, cR, cX, step, reads, verdict, code}

every : {A : Type 0} (t : A → Bool) (l : List A) → all_of t l ≡ true → All (λ x. t x ≡ true) l
every t l h = (all_decides t (λ x. t x ≡ true) (λ x. (λ e. e, λ e. e)) l).0 h

abbrev all_states : List State
all_states = E ∷ F ∷ L ∷ R ∷ X ∷ []

of_states : (t : State → Bool) → All (λ s. t s ≡ true) all_states → (s : State) → t s ≡ true
of_states t h E = h.0
of_states t h F = h.1.0
of_states t h L = h.1.1.0
of_states t h R = h.1.1.1.0
of_states t h X = h.1.1.1.1.0

abbrev all_runs : List Run
all_runs = p0 ∷ pE ∷ pF ∷ pM ∷ p1 ∷ p2 ∷ pR ∷ pX ∷ c0 ∷ cE ∷ cF ∷ cL ∷ cEL ∷ cU ∷ cD ∷ cR ∷ cX ∷ []

of_runs : (t : Run → Bool) → All (λ q. t q ≡ true) all_runs → (q : Run) → t q ≡ true
of_runs t h p0 = h.0
of_runs t h pE = h.1.0
of_runs t h pF = h.1.1.0
of_runs t h pM = h.1.1.1.0
of_runs t h p1 = h.1.1.1.1.0
of_runs t h p2 = h.1.1.1.1.1.0
of_runs t h pR = h.1.1.1.1.1.1.0
of_runs t h pX = h.1.1.1.1.1.1.1.0
of_runs t h c0 = h.1.1.1.1.1.1.1.1.0
of_runs t h cE = h.1.1.1.1.1.1.1.1.1.0
of_runs t h cF = h.1.1.1.1.1.1.1.1.1.1.0
of_runs t h cL = h.1.1.1.1.1.1.1.1.1.1.1.0
of_runs t h cEL = h.1.1.1.1.1.1.1.1.1.1.1.1.0
of_runs t h cU = h.1.1.1.1.1.1.1.1.1.1.1.1.1.0
of_runs t h cD = h.1.1.1.1.1.1.1.1.1.1.1.1.1.1.0
of_runs t h cR = h.1.1.1.1.1.1.1.1.1.1.1.1.1.1.1.0
of_runs t h cX = h.1.1.1.1.1.1.1.1.1.1.1.1.1.1.1.1.0

-- The run after each run and state.
abbrev row : Run → List ℕ
row q = code (step q E) ∷ code (step q F) ∷ code (step q L) ∷ code (step q R) ∷ code (step q X) ∷ []

abbrev pub moves : List (List ℕ)
moves = map row all_runs

abbrev move_at : Run → State → Bool
move_at q s = eqb (get_or (get_or moves (code q) []) (number s) 0) (code (step q s))

pub move_table : (q : Run) (s : State) → get_or (get_or moves (code q) []) (number s) 0 ≡ code (step q s)
unfolding code step
move_table q s =
    let line = of_runs (λ q. all_of (move_at q) all_states) (every (λ q. all_of (move_at q) all_states) all_runs refl) q in
    eqb-true (get_or (get_or moves (code q) []) (number s) 0) (code (step q s)) (of_states (move_at q) (every (move_at q) all_states line) s)

-- Every place of a list is below a number above 0, where each of its numbers is.
below_all : (n : ℕ) (l : List ℕ) (i : ℕ) → All (λ x. ltb x (suc n) ≡ true) l → get_or l i 0 ≤ n
below_all n [] i h = omega arith
below_all n (x ∷ l) zero h = omega (arith, ltb-true x (suc n) h.0)
below_all n (x ∷ l) (suc i) h = below_all n l i h.1

pub moves_small : (i k : ℕ) → get_or (get_or moves i []) k 0 < 17
unfolding code step
moves_small i k = go moves i (every (all_of (λ x. ltb x 17)) moves refl)
  where
    go : (l : List (List ℕ)) (i : ℕ) → All (λ r. all_of (λ x. ltb x 17) r ≡ true) l → get_or (get_or l i []) k 0 < 17
    go [] i h = omega arith
    go (r ∷ l) zero h = omega (arith, below_all 16 r k (every (λ x. ltb x 17) r h.0))
    go (r ∷ l) (suc i) h = go l i h.1

-- The state of each run.
abbrev pub verdicts : List ℕ
verdicts = map (λ q. number (verdict q)) all_runs

abbrev verdict_at : Run → Bool
verdict_at q = eqb (get_or verdicts (code q) 0) (number (verdict q))

pub verdict_table : (q : Run) → get_or verdicts (code q) 0 ≡ number (verdict q)
unfolding code verdict reads node_state
verdict_table q = eqb-true (get_or verdicts (code q) 0) (number (verdict q)) (of_runs verdict_at (every verdict_at all_runs refl) q)

pub verdict_small : (i : ℕ) → get_or verdicts i 0 ≤ 4
unfolding verdict reads node_state
verdict_small i = below_all 4 verdicts i (every (λ x. ltb x 5) verdicts refl)

pub code_small : (q : Run) → code q < 17
unfolding code
code_small q = ltb-true (code q) 17 (of_runs (λ q. ltb (code q) 17) (every (λ q. ltb (code q) 17) all_runs refl) q)
