-- The scanner of tree texts: a state, one step for each byte.
use Rattle.std.specs.Prelude.{Bool, true, false, cond, ◌||◌, ◌&&◌, List, [], ◌∷◌, ◌++◌, ℕ, zero, suc, ◌+◌, ◌-◌, leb, eqb, length, drop}
use Rattle.std.proofs.Math.Option.{Option, none, some}
use Rattle.spec_orders.specs.Lists.{same}
use Rattle.spec_orders.specs.CircularOrder.{others}
use Rattle.spec_orders.specs.TreeText.{digits}

-- a begins b.
abbrev pub begins : List ℕ → List ℕ → Bool
begins [] b = true
begins (x ∷ a) [] = false
begins (x ∷ a) (y ∷ b) = eqb x y && begins a b

-- Some leaf of l has digits that begin with ds.
unfoldable pub begun : List ℕ → List ℕ → Bool
begun ds [] = false
begun ds (m ∷ l) = begins ds (digits m) || begun ds l

abbrev pub put : ℕ → Option (List ℕ) → Option (List ℕ)
put m none = none
put m (some l) = some (m ∷ l)

-- l without the leaf whose digits are ds.
unfoldable pub seek : List ℕ → List ℕ → Option (List ℕ)
seek ds [] = none
seek ds (m ∷ l) = cond (same ds (digits m)) (some l) (put m (seek ds l))

-- Open nodes are told by how many items each still wants to have two, innermost first. So many leaves they want together.
abbrev pub need : List ℕ → ℕ
need [] = 0
need (c ∷ cs) = c + need cs

-- In each state but the first the last argument is the list of leaves not yet printed.
pub data TextState : Type 0 where
  lit : List ℕ → TextState  -- these bytes and nothing else (n = 1, n = 2)
  pre : List ℕ → List ℕ → TextState  -- these bytes, then the root
  open_due : List ℕ → List ℕ → TextState  -- after P or C: the bracket; the nodes round it
  due : ℕ → List ℕ → List ℕ → TextState  -- an item; its node wants c, it among them; the nodes round that
  num : List ℕ → ℕ → List ℕ → List ℕ → TextState  -- in a number with these digits so far; its node wants c more; the nodes round
  after : List ℕ → List ℕ → TextState  -- after an item; the open nodes

abbrev pub letter? : ℕ → Bool
letter? b = eqb b 80 || eqb b 67

abbrev pub sep? : ℕ → Bool
sep? b = eqb b 32 || eqb b 41

-- After an item with no node open, no leaf may be left.
abbrev pub closes : List ℕ → List ℕ → Bool
closes [] [] = true
closes [] (m ∷ l) = false
closes (c ∷ cs) l = true

abbrev pub step_after : List ℕ → List ℕ → ℕ → Option TextState
step_after [] l b = none
step_after (c ∷ cs) l b =
    cond (eqb b 32)
    (cond (leb (suc (need ((c - 1) ∷ cs))) (length l)) (some (due c cs l)) none)
    (cond (eqb b 41 && (eqb c 0 && closes cs l)) (some (after cs l)) none)

abbrev pub step_leaf : Option (List ℕ) → ℕ → List ℕ → ℕ → Option TextState
step_leaf none c cs b = none
step_leaf (some l) c cs b = step_after (c ∷ cs) l b

unfoldable pub text_step : TextState → ℕ → Option TextState
text_step (lit []) b = none
text_step (lit (w ∷ ws)) b = cond (eqb b w) (some (lit ws)) none
text_step (pre [] l) b = cond (letter? b) (some (open_due [] l)) none
text_step (pre (w ∷ ws) l) b = cond (eqb b w) (some (pre ws l)) none
text_step (open_due cs l) b = cond (eqb b 40) (some (due 2 cs l)) none
text_step (due c cs l) b =
    cond (letter? b)
    (cond (leb (2 + need ((c - 1) ∷ cs)) (length l)) (some (open_due ((c - 1) ∷ cs) l)) none)
    (cond (begun (b ∷ []) l) (some (num (b ∷ []) (c - 1) cs l)) none)
text_step (num ds c cs l) b =
    cond (sep? b)
    (step_leaf (seek ds l) c cs b)
    (cond (begun (ds ++ (b ∷ [])) l) (some (num (ds ++ (b ∷ [])) c cs l)) none)
text_step (after cs l) b = step_after cs l b

abbrev pub final : TextState → Bool
final (lit []) = true
final (lit (w ∷ ws)) = false
final (pre ws l) = false
final (open_due cs l) = false
final (due c cs l) = false
final (num ds c cs l) = false
final (after [] l) = true
final (after (c ∷ cs) l) = false

pub data TextAnswer : Type 0 where
  accepted : TextAnswer
  refused : ℕ → TextAnswer

-- From state s at byte p.
unfoldable pub run : List ℕ → ℕ → TextState → TextAnswer
run [] p s = cond (final s) accepted (refused p)
run (b ∷ x) p s = elim (text_step s b) [ none ↦ refused p | some t ↦ run x (suc p) t ]

abbrev pub text_start : ℕ → TextState
text_start zero = lit (49 ∷ [])
text_start (suc zero) = lit (49 ∷ [])
text_start (suc (suc zero)) = lit (49 ∷ 32 ∷ 50 ∷ [])
text_start (suc (suc (suc k))) = pre (49 ∷ 32 ∷ []) (others (suc (suc (suc k))))

unfoldable pub scan : ℕ → List ℕ → TextAnswer
scan n x = run x 0 (text_start n)

-- From state s at byte p of x.
unfoldable pub run_at : List ℕ → ℕ → TextState → TextAnswer
run_at x p s = run (drop p x) p s
