-- The least byte at which the P or C rule is broken, as a walk along the tree finds it.
use Rattle.std.specs.Prelude.{Bool, true, false, cond, ◌&&◌, ℕ, ◌+◌, ltb, eqb, length}
use Rattle.spec_orders.specs.Tree.{Kind, P, C, Forest, nil, leaf, node, rev}
use Rattle.spec_orders.specs.Form.{first}
use Rattle.spec_orders.specs.TreeText.{digits, text}

abbrev pub is_p : Kind → Bool
is_p P = true
is_p C = false

abbrev pub is_c : Kind → Bool
is_c P = false
is_c C = true

-- The first of two bytes that is one: 0 says that there is none.
abbrev pub or_else : ℕ → ℕ → ℕ
or_else p q = cond (eqb p 0) q p

-- In the items f of a node of kind k, whose text starts at byte o, after an item whose first leaf is m. 0 where no rule is broken.
unfoldable pub broken_at : Kind → ℕ → ℕ → Forest → ℕ
broken_at k m o nil = 0
broken_at k m o (leaf b f) = cond (is_p k && ltb b m) o (broken_at k b (o + length (digits b) + 1) f)
broken_at k m o (node j i f) =
    cond (is_p k && ltb (first i) m) o
    (cond (is_c j && ltb (first (rev i)) (first i)) (o + 2) (or_else (broken_at j 0 (o + 2) i) (broken_at k (first i) (o + length (text i) + 4) f)))
