-- The automaton's verdict on a node is the node's state.
use mathlib.Core.Path.{◌≡◌, refl, ◌∙◌}
use mathlib.Core.List.{List, [], ◌∷◌}
use Rattle.spec_orders.specs.Tree.{Kind, P, C}
use Rattle.tree_tokens.specs.Tokens.{State}
use Rattle.tree_judge.specs.Judge.{node_state}
use Rattle.tree_judge.specs.Automaton.{Run, p0, pE, pF, pM, p1, p2, pR, pX, c0, cE, cF, cL, cEL, cU, cD, cR, cX, start, step, runs, reads, verdict}
use Rattle.tree_judge.proofs.Words.{each}

-- A state read by the automaton, or left in the word.
Same : Run → List State → State → Type 0
Same a ss s = reads (step a s) ss ≡ reads a (s ∷ ss)

same : (a : Run) (ss : List State) (s : State) → Same a ss s
unfolding Same step reads node_state
same p0 ss = each (Same p0 ss) refl refl refl refl refl
same pE ss = each (Same pE ss) refl refl refl refl refl
same pF ss = each (Same pF ss) refl refl refl refl refl
same pM ss = each (Same pM ss) refl refl refl refl refl
same p1 ss = each (Same p1 ss) refl refl refl refl refl
same p2 ss = each (Same p2 ss) refl refl refl refl refl
same pR ss = each (Same pR ss) refl refl refl refl refl
same pX ss = each (Same pX ss) refl refl refl refl refl
same c0 ss = each (Same c0 ss) refl refl refl refl refl
same cE ss = each (Same cE ss) refl refl refl refl refl
same cF ss = each (Same cF ss) refl refl refl refl refl
same cL ss = each (Same cL ss) refl refl refl refl refl
same cEL ss = each (Same cEL ss) refl refl refl refl refl
same cU ss = each (Same cU ss) refl refl refl refl refl
same cD ss = each (Same cD ss) refl refl refl refl refl
same cR ss = each (Same cR ss) refl refl refl refl refl
same cX ss = each (Same cX ss) refl refl refl refl refl

runs_read : (a : Run) (ss : List State) → verdict (runs a ss) ≡ reads a ss
unfolding verdict Same
runs_read a [] = refl
runs_read a (s ∷ ss) = runs_read (step a s) ss ∙ same a ss s

pub judges : (k : Kind) (ss : List State) → verdict (runs (start k) ss) ≡ node_state k ss
unfolding reads
judges P ss = runs_read p0 ss
judges C ss = runs_read c0 ss
