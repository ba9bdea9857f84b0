-- How the scanner goes through items and nodes.
use Rattle.std.specs.Prelude.{◌≡◌, List, ◌∷◌, ◌++◌, ℕ, ◌+◌, ◌*◌, ◌-◌, ◌≤◌, ◌<◌, length, drop, get_or, Result, Ok, Err, IfOk}
use Rattle.spec_orders.specs.Tree.{Kind, P, C, Forest, items}
use Rattle.spec_orders.specs.TreeText.{text}
use Rattle.tree_tokens.specs.Tokens.{Wrote, flat}
use Rattle.text_scanner.specs.Scan.{TextState, open_due, due, after, need, run_at, refused}
use Rattle.text_scanner.specs.Unused.{unused}
use Rattle.text_leaf.specs.declared.NodeKind.{NodeKind}
use Rattle.text_leaf.specs.declared.NodeKind.TheVariants as kinds
use Rattle.text_leaf.specs.declared.Reached.{Reached}

-- The marks tell `many` unused leaves, from 1 to 256.
pub record Marks (many : ℕ) (used : List ℕ) : Type 0 where
  pub count : many ≡ length (unused 0 used)
  pub wide : length used ≤ 257
  pub zero_set : get_or used 0 0 ≡ 1

-- A part of the text from byte `at` on spells a sequence of items, whose tokens were written. It leads the scanner from `start` to `end`, whatever
-- the nodes round it are that want `want` leaves. Of `many` unused leaves at least `kept` are left, and each token but `spared` took half a leaf or more.
pub record Passage (x : List ℕ) (at : ℕ) (spell : Forest → List ℕ) (start : List ℕ → TextState) (end : List ℕ → List ℕ → TextState) (want many kept spared : ℕ)
    (used old new : List ℕ) (r : Reached) : Type 0 where
  pub forest : Forest
  pub some_item : 1 ≤ length (items forest)
  pub wrote : Wrote (flat forest) old new r.count
  pub bytes : drop at x ≡ spell forest ++ drop r.at x
  pub moves : (cs : List ℕ) → need cs ≡ want → run_at x at (start cs) ≡ run_at x r.at (end cs (unused 0 used))
  pub marks : Marks r.left used
  pub onward : at ≤ r.at
  pub within : r.at ≤ length x
  pub enough : kept ≤ r.left
  pub few : r.count + 2 * r.left + spared ≤ 2 * many

-- From byte `at` on the scanner, led from `start`, refuses the text at byte p.
abbrev pub Stops : List ℕ → ℕ → (List ℕ → TextState) → ℕ → ℕ → Type 0
Stops x at start want p = (cs : List ℕ) → need cs ≡ want → run_at x at (start cs) ≡ refused p

-- The passage; or the byte at which the text is refused.
abbrev pub Passed : List ℕ → ℕ → (Forest → List ℕ) → (List ℕ → TextState) → (List ℕ → List ℕ → TextState) → ℕ → ℕ → ℕ → ℕ
    → List ℕ → List ℕ → List ℕ → Result Reached ℕ → Type 0
Passed x at spell start end want many kept spared used old new (Ok r) = Passage x at spell start end want many kept spared used old new r
Passed x at spell start end want many kept spared used old new (Err p) = Stops x at start want p

-- One item, in a node that wants c items, this one among them.
abbrev pub ItemRead : List ℕ → ℕ → ℕ → ℕ → ℕ → List ℕ → List ℕ → List ℕ → List ℕ → Result Reached ℕ → Type 0
ItemRead x at c want many before used =
    Passed x at text (λ cs. due c cs (unused 0 before)) (λ cs l. after ((c - 1) ∷ cs) l) want many (c - 1 + want) 1 used

-- The items of a node up to its closing bracket, which stands where the passage ends.
pub record Closed (x : List ℕ) (r : Reached) : Type 0 where
  pub there : r.at < length x
  pub bracket : get_or x r.at 0 ≡ 41

abbrev pub ItemsRead : List ℕ → ℕ → ℕ → ℕ → ℕ → List ℕ → List ℕ → List ℕ → List ℕ → Result Reached ℕ → Type 0
ItemsRead x at c want many before used old new r =
    Passed x at text (λ cs. due c cs (unused 0 before)) (λ cs l. after (0 ∷ cs) l) want many want (1 + (c - 1)) used old new r × IfOk r (Closed x)

-- The same from the opening bracket on.
abbrev pub OpenedRead : List ℕ → ℕ → ℕ → ℕ → List ℕ → List ℕ → List ℕ → List ℕ → Result Reached ℕ → Type 0
OpenedRead x at want many before used old new r =
    Passed x at (λ f. 40 ∷ text f) (λ cs. open_due cs (unused 0 before)) (λ cs l. after (0 ∷ cs) l) want many want 2 used old new r × IfOk r (Closed x)

-- The kind, as a tree has it.
abbrev pub tree_kind : NodeKind → Kind
tree_kind kinds.P = P
tree_kind kinds.C = C
