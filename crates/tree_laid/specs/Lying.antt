-- A tree that lies in the middle of a buffer.
use Rattle.std.specs.Prelude.{◌≡◌, cond, List, ℕ, ◌+◌, ◌-◌, ◌≤◌, ltb, length, take, drop}
use Rattle.spec_orders.specs.Tree.{Forest, nil, leaf, node, items}
use Rattle.spec_orders.specs.Form.{first}
use Rattle.tree_tokens.specs.Tokens.{flat}
use Rattle.tree_laid.specs.declared.Laid.{Laid}

-- The numbers xs stand in buf at the places from..to.
pub record StandsIn (xs buf : List ℕ) (from to : ℕ) : Type 0 where
  pub many : to ≡ from + length xs
  pub text : take (to - from) (drop from buf) ≡ xs

-- The tree g, one item, lies there, and its first leaf is known.
pub record Lies (g : Forest) (buf : List ℕ) (t : Laid) : Type 0 where
  pub held : StandsIn (flat g) buf t.from t.to
  pub leaf_is : t.first ≡ first g
  pub single : length (items g) ≡ 1

-- It reaches over place 512: a tree of at most 512 tokens that does lies within the places 0 to 1,024.
abbrev pub Midway : Laid → Type 0
Midway t = (t.from ≤ 512) × (512 ≤ t.to)

-- The items before the first one with a first leaf above b, and those from it on.
abbrev pub lower : ℕ → Forest → Forest
lower b nil = nil
lower b (leaf c f) = cond (ltb b c) nil (leaf c (lower b f))
lower b (node k i f) = cond (ltb b (first i)) nil (node k i (lower b f))

abbrev pub upper : ℕ → Forest → Forest
upper b nil = nil
upper b (leaf c f) = cond (ltb b c) (leaf c f) (upper b f)
upper b (node k i f) = cond (ltb b (first i)) (node k i f) (upper b f)
