-- How code finds a node's state: an automaton that reads the states of its items one by one.
use Rattle.std.specs.Prelude.{◌≡◌, List, [], ◌∷◌, ℕ, ◌<◌, get_or}
use Rattle.spec_orders.specs.Tree.{Kind, P, C}
use Rattle.tree_tokens.specs.Tokens.{State, E, F, L, R, X, number}
use Rattle.tree_judge.specs.Judge.{node_state}

-- What was read of a node's items. P: nothing; E's; F's; both; one L; two L's; an R and E's; a word with no order.
-- C: nothing; E's; F's; an L; E's and an L; up to an F, rising; falling; the full leaves are behind; a word with no order.
pub data Run : Type 0 where
  p0 pE pF pM p1 p2 pR pX c0 cE cF cL cEL cU cD cR cX : Run

-- Where it starts on a node's items.
abbrev pub start : Kind → Run
start P = p0
start C = c0

-- The run after one more item, by its state.
abbrev pub by : State → Run → Run → Run → Run → Run → Run
by E e f l r x = e
by F e f l r x = f
by L e f l r x = l
by R e f l r x = r
by X e f l r x = x

unfoldable pub step : Run → State → Run
step p0 s = by s pE pF p1 pR pX
step pE s = by s pE pM p1 pR pX
step pF s = by s pM pF p1 pX pX
step pM s = by s pM pM p1 pX pX
step p1 s = by s p1 p1 p2 pX pX
step p2 s = by s p2 p2 pX pX pX
step pR s = by s pR pX pX pX pX
step pX s = by s pX pX pX pX pX
step c0 s = by s cE cF cL cR cX
step cE s = by s cE cU cEL cR cX
step cF s = by s cD cF cD cX cX
step cL s = by s cD cU cR cX cX
step cEL s = by s cR cU cR cX cX
step cU s = by s cR cU cR cX cX
step cD s = by s cD cX cX cX cX
step cR s = by s cR cX cX cX cX
step cX s = by s cX cX cX cX cX

abbrev pub runs : Run → List State → Run
runs a [] = a
runs a (s ∷ ss) = runs (step a s) ss

-- The state of a node whose items took the automaton to a and whose other items have the states ss: that of a short word, and then ss.
unfoldable pub reads : Run → List State → State
reads p0 ss = node_state P ss
reads pE ss = node_state P (E ∷ ss)
reads pF ss = node_state P (F ∷ ss)
reads pM ss = node_state P (E ∷ (F ∷ ss))
reads p1 ss = node_state P (L ∷ ss)
reads p2 ss = node_state P (L ∷ (L ∷ ss))
reads pR ss = node_state P (R ∷ ss)
reads pX ss = node_state P (X ∷ ss)
reads c0 ss = node_state C ss
reads cE ss = node_state C (E ∷ ss)
reads cF ss = node_state C (F ∷ ss)
reads cL ss = node_state C (L ∷ ss)
reads cEL ss = node_state C (E ∷ (L ∷ ss))
reads cU ss = node_state C (E ∷ (F ∷ ss))
reads cD ss = node_state C (F ∷ (E ∷ ss))
reads cR ss = node_state C (R ∷ ss)
reads cX ss = node_state C (X ∷ ss)

unfoldable pub verdict : Run → State
verdict a = reads a []

-- The runs in numbers.
unfoldable pub code : Run → ℕ
code p0 = 0
code pE = 1
code pF = 2
code pM = 3
code p1 = 4
code p2 = 5
code pR = 6
code pX = 7
code c0 = 8
code cE = 9
code cF = 10
code cL = 11
code cEL = 12
code cU = 13
code cD = 14
code cR = 15
code cX = 16

-- A table of the moves: the row of each run has the run after one more item of each state.
abbrev pub Moves : List (List ℕ) → Type 0
Moves rows = ((i k : ℕ) → get_or (get_or rows i []) k 0 < 17) × ((q : Run) (z : State) → get_or (get_or rows (code q) []) (number z) 0 ≡ code (step q z))
