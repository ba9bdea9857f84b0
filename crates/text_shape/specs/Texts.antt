-- The whole text: one word; the root and nothing after it; a text of the shape.
use Rattle.std.specs.Prelude.{◌≡◌, List, [], ◌∷◌, ℕ, ◌≤◌, length, get_or, Result, Ok, Err}
use Rattle.spec_orders.specs.Tree.{Forest}
use Rattle.spec_orders.specs.TreeText.{letter, tree_text, Shaped, ShapeRefused}
use Rattle.tree_tokens.specs.Tokens.{Wrote, flat}
use Rattle.text_leaf.specs.declared.NodeKind.{NodeKind}
use Rattle.text_leaf.specs.Passages.{tree_kind}
use Rattle.text_scanner.specs.Scan.{lit, pre, run_at, accepted, refused}

-- The text against one word; or the byte at which it is refused.
abbrev pub WordRead : List ℕ → List ℕ → Result (Unit {0}) ℕ → Type 0
WordRead x word (Ok _) = run_at x 0 (lit word) ≡ accepted
WordRead x word (Err p) = run_at x 0 (lit word) ≡ refused p

-- `1`, a space and the letter of a kind.
pub record TextBegins (x : List ℕ) (k : NodeKind) : Type 0 where
  pub long : 3 ≤ length x
  pub one : get_or x 0 0 ≡ 49
  pub space : get_or x 1 0 ≡ 32
  pub named : get_or x 2 0 ≡ letter (tree_kind k)

-- The same; or the byte at which the text is refused.
abbrev pub Opening : List ℕ → Result NodeKind ℕ → Type 0
Opening x (Ok k) = TextBegins x k
Opening x (Err p) = (l : List ℕ) → run_at x 0 (pre (49 ∷ 32 ∷ []) l) ≡ refused p

-- The whole text: the tree that it spells, whose k tokens were written.
pub record Whole (x l old new : List ℕ) (k : ℕ) : Type 0 where
  pub spelled : Forest
  pub bytes : x ≡ tree_text spelled
  pub wrote : Wrote (flat spelled) old new k
  pub all_used : run_at x 0 (pre (49 ∷ 32 ∷ []) l) ≡ accepted
  pub few : k ≤ 512

-- The same; or the byte at which the text is refused.
abbrev pub WholeRead : List ℕ → List ℕ → List ℕ → List ℕ → Result ℕ ℕ → Type 0
WholeRead x l old new (Ok k) = Whole x l old new k
WholeRead x l old new (Err p) = run_at x 0 (pre (49 ∷ 32 ∷ []) l) ≡ refused p

-- A tree of the shape, whose text was read and whose tokens were written.
pub record Spelled (n : ℕ) (x old new : List ℕ) (k : ℕ) : Type 0 where
  pub shown : Forest
  pub shaped : Shaped n shown
  pub bytes : x ≡ tree_text shown
  pub wrote : Wrote (flat shown) old new k
  pub few : k ≤ 512

-- The same; or the byte at which the shape is refused.
abbrev pub ShapeRead : ℕ → List ℕ → List ℕ → List ℕ → Result ℕ ℕ → Type 0
ShapeRead n x old new (Ok k) = Spelled n x old new k
ShapeRead n x old new (Err p) = ShapeRefused n x p
