-- Document 01, "Marked circles", a to l, as one table, and the test that runs it.
use Rattle.std.specs.Prelude.{Bool, true, false, ◌&&◌, List, [], ◌∷◌, ◌++◌, ℕ, length}
use Rattle.std.proofs.Math.Option.{Option, none, some}
use Prim.Native.Char.{code}
use Prim.Native.String.{String}
use Rattle.spec_orders.specs.declared.Layout.TheVariants.{Ring}
use Rattle.spec_orders.specs.Lists.{elem, same}
use Rattle.spec_orders.specs.CircularOrder.{Restriction}
use Rattle.spec_orders.specs.Tree.{Forest}
use Rattle.spec_orders.specs.TreeText.{tree_text}
use Rattle.spec_orders.specs.Join.{fresh, join}
use Rattle.spec_orders.specs.Conflict.{book_conflicts, numbered}

-- A group that is tried: kept, with an empty conflict list; or refused (8), with its conflict list.
pub data Try : Type 0 where
  kept : List ℕ → Try
  refused : List ℕ → List ℕ → Try

-- A fresh ring of n leaves, the groups tried one after another, and the text of the tree in the end.
pub record Circle : Type 0 where
  pub leaves : ℕ
  pub tries : List Try
  pub text : String

abbrev pub bytes : String → List ℕ
bytes String.[] = []
bytes (String.◌∷◌ c s) = code c ∷ bytes s

abbrev pub with_tree : Option Forest → (Forest → Bool) → Bool
with_tree none k = false
with_tree (some t) k = k t

abbrev pub impossible : Option Forest → Bool
impossible none = true
impossible (some t) = false

-- What the definitions answer is what the table says, from this tree and this book on.
unfoldable pub right_from : ℕ → String → List Try → Forest → List Restriction → Bool
right_from n s [] t book = same (tree_text t) (bytes s)
right_from n s (kept l ∷ ts) t book =
    same (book_conflicts Ring n (numbered book) (length book) (elem l)) [] && with_tree (join (elem l) t) (λ u. right_from n s ts u (book ++ (elem l ∷ [])))
right_from n s (refused l ns ∷ ts) t book =
    same (book_conflicts Ring n (numbered book) (length book) (elem l)) ns && (impossible (join (elem l) t) && right_from n s ts t book)

unfoldable pub right : Circle → Bool
right c = right_from c.leaves c.text c.tries (fresh c.leaves) []

abbrev pub circle : ℕ → List Try → String → Circle
circle n ts s = record { leaves = n; tries = ts; text = s }

unfoldable pub circles : List Circle
circles =
    circle 1 [] "1"  -- a
    ∷ circle 2 [] "1 2"  -- b
    ∷ circle 3 [] "1 P(2 3)"  -- c
    ∷ circle 5 (kept (1 ∷ 3 ∷ []) ∷ []) "1 P(P(2 4 5) 3)"  -- d
    ∷ circle 5 (kept (1 ∷ 3 ∷ []) ∷ kept (3 ∷ 5 ∷ []) ∷ []) "1 C(P(2 4) 5 3)"  -- e
    -- f, g
    ∷ circle 5
    (kept (1 ∷ 3 ∷ []) ∷ kept (3 ∷ 5 ∷ []) ∷ refused (1 ∷ 5 ∷ []) (1 ∷ 2 ∷ []) ∷ kept (2 ∷ 4 ∷ []) ∷ [])
    "1 C(P(2 4) 5 3)"
    -- h, i
    ∷ circle 4
    (kept (1 ∷ 2 ∷ []) ∷ kept (3 ∷ 4 ∷ []) ∷ kept (2 ∷ 3 ∷ []) ∷ kept (1 ∷ 4 ∷ []) ∷ [])
    "1 C(2 3 4)"
    ∷ circle 5
    (kept (1 ∷ 2 ∷ []) ∷ kept (3 ∷ 4 ∷ []) ∷ kept (2 ∷ 3 ∷ []) ∷ refused (1 ∷ 4 ∷ []) (1 ∷ 2 ∷ 3 ∷ []) ∷ [])
    "1 C(2 3 4 5)"
    ∷ circle 6 (kept (1 ∷ 2 ∷ []) ∷ kept (3 ∷ 4 ∷ []) ∷ kept (2 ∷ 3 ∷ []) ∷ []) "1 C(2 3 4 P(5 6))"  -- j
    ∷ circle 6 (kept (2 ∷ 4 ∷ []) ∷ kept (2 ∷ 5 ∷ []) ∷ []) "1 P(3 C(4 2 5) 6)"  -- k
    ∷ circle 5 (kept (2 ∷ 3 ∷ 4 ∷ 5 ∷ []) ∷ []) "1 P(2 3 4 5)"  -- l
    -- Ancestors of the change that are placed again, and turned again.
    ∷ circle 5 (kept (2 ∷ 4 ∷ 5 ∷ []) ∷ kept (2 ∷ 4 ∷ []) ∷ kept (2 ∷ 5 ∷ []) ∷ []) "1 P(3 C(4 2 5))"
    ∷ circle 6
    (kept (2 ∷ 4 ∷ 5 ∷ []) ∷ kept (1 ∷ 2 ∷ 4 ∷ 5 ∷ []) ∷ kept (2 ∷ 4 ∷ 5 ∷ 6 ∷ []) ∷ kept (2 ∷ 4 ∷ []) ∷ kept (2 ∷ 5 ∷ []) ∷ [])
    "1 C(3 6 C(4 2 5))"
    ∷ []
