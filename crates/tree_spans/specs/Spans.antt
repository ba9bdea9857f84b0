-- A judged sequence parted at its first item of a sort.
use Rattle.std.specs.Prelude.{◌≡◌, Bool, not, cond, List, ℕ, eqb, take, drop}
use Rattle.tree_tokens.specs.Tokens.{number, Judged, j_nil, j_leaf, j_node, encode}

-- The test of a state's number: it is s; it is not s.
abbrev pub is : ℕ → ℕ → Bool
is s n = eqb n s

abbrev pub is_not : ℕ → ℕ → Bool
is_not s n = not (eqb n s)

-- The items at the start whose states pass the test, up to the first one whose state does not; the items from that one on.
unfoldable pub passing : (ℕ → Bool) → Judged → Judged
passing p j_nil = j_nil
passing p (j_leaf s b j) = cond (p (number s)) (j_leaf s b (passing p j)) j_nil
passing p (j_node s k i j) = cond (p (number s)) (j_node s k i (passing p j)) j_nil

unfoldable pub beyond : (ℕ → Bool) → Judged → Judged
beyond p j_nil = j_nil
beyond p (j_leaf s b j) = cond (p (number s)) (beyond p j) (j_leaf s b j)
beyond p (j_node s k i j) = cond (p (number s)) (beyond p j) (j_node s k i j)

-- The first r tokens are those of the items that pass, and the others those of the items behind them.
pub record Parted (p : ℕ → Bool) (toks : List ℕ) (j : Judged) (r : ℕ) : Type 0 where
  pub front : take r toks ≡ encode (passing p j)
  pub back : drop r toks ≡ encode (beyond p j)
