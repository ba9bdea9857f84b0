-- What the update reads, writes and answers.
use Rattle.std.specs.Prelude.{◌≡◌, ◌≢◌, Bool, false, List, [], ◌∷◌, ℕ, ◌≤◌, ◌<◌, length, take, Option as CodeOption, Some, None}
use Rattle.std.proofs.Math.Option.{Option, none, some}
use Rattle.spec_orders.specs.Lists.{All, Distinct}
use Rattle.spec_orders.specs.CircularOrder.{Restriction}
use Rattle.spec_orders.specs.Tree.{Forest, items, frontier}
use Rattle.spec_orders.specs.Form.{Canonical, Single}
use Rattle.spec_orders.specs.TreeText.{Forked}
use Rattle.spec_orders.specs.Reduce.{pack, put_sorted, reduce}
use Rattle.tree_tokens.specs.Tokens.{Judged, tree, encode, Wrote, flat}
use Rattle.tree_spans.specs.Spans.{is, beyond}
use Rattle.tree_judge.specs.Judge.{judge}
use Rattle.tree_judge.specs.Total.{Total, whole_of, totals}
use Rattle.tree_pieces.specs.Writers.{with_state, all_with_state, gathered}

-- new begins with xs, and r says how many.
pub record Begins (xs new : List ℕ) (r : ℕ) : Type 0 where
  pub many : r ≡ length xs
  pub text : take r new ≡ xs

-- The first of the items is the last one that is not empty; not just one of the items is not empty.
abbrev pub lone_of : List Total → Bool
lone_of [] = false
lone_of (t ∷ ts) = all_with_state 0 ts

abbrev pub NotLone : List ℕ → Type 0
NotLone x = (j : Judged) → x ≡ encode j → lone_of (totals (beyond (is 0) j)) ≡ false

-- Every node has two items or more.
abbrev pub Forks : Judged → Type 0
Forks j = Forked (tree j)

-- A P-node's partial and full items as one item, among its empty items.
abbrev pub placed_again : Judged → Forest
placed_again j = pack (put_sorted (gathered (totals j)) (whole_of (with_state 0 (totals j))))

-- A tree of some of the leaves 2 to n: at most one item, in the published form, and no leaf twice.
pub record FormWithin (n : ℕ) (t : Forest) : Type 0 where
  pub single : Single (items t)
  pub canonical : Canonical t
  pub different : Distinct (frontier t)
  pub in_range : All (λ b. (2 ≤ b) × (b ≤ n)) (frontier t)

-- The tokens are those of such a tree, n at most 256.
abbrev pub TokensWithin : ℕ → List ℕ → Type 0
TokensWithin n toks = (t : Forest) × (toks ≡ flat t) × FormWithin n t × (n ≤ 256)

-- The tokens of a tree of some of the leaves 2 to n, and the same with their states under S, by which it can be reduced.
pub record JudgedTree (n : ℕ) (S : Restriction) (t : Forest) (toks judged : List ℕ) : Type 0 where
  pub is : toks ≡ flat t
  pub states : judged ≡ encode (judge S t)
  pub form : FormWithin n t
  pub few_leaves : n ≤ 256
  pub some_token : 0 < length toks
  pub possible : reduce S t ≢ none

-- The answer: there is no tree, and out stays as it was; or the tree is written to its start, and the answer says how many tokens.
pub data Answers : Option Forest → List ℕ → List ℕ → CodeOption ℕ → Type 0 where
  impossible : {old new : List ℕ} → new ≡ old → Answers none old new None
  written : {t : Forest} {old new : List ℕ} {k : ℕ} → Wrote (flat t) old new k → Answers (some t) old new (Some k)
