-- The tokens of leaves that pass a test, one by one, and of the tree of them.
use mathlib.Core.Path.{◌≡◌, refl, ap, ◌∙◌}
use mathlib.Core.Bool.{true, false}
use mathlib.Core.List.{List, [], ◌∷◌}
use Prim.Native.Nat.{ℕ, zero, suc, ◌+◌, ◌-◌, ◌*◌, ◌≤◌, ◌<◌}
use native.Mathlib.Omega.{arith}
use borrow.Author.Tests.{lt-ltb, le-ltb}
use lib.ListN.{length}
use Rattle.spec_orders.specs.Lists.{those_of, numbers_from}
use Rattle.spec_orders.specs.CircularOrder.{others, Restriction}
use Rattle.spec_orders.specs.Tree.{items}
use Rattle.spec_orders.specs.Join.{leaf_items}
use Rattle.tree_tokens.specs.Tokens.{leaf_token, encode, flat}
use Rattle.tree_pieces.proofs.Laws.{flat_p}
use Rattle.conflict_leaves.specs.StandIn.{start}

-- The tokens of the leaves from b to n that pass.
unfoldable pub from : Restriction → ℕ → ℕ → List ℕ
from p b n = flat (leaf_items (those_of p (numbers_from b (n + 1 - b))))

module _ (p : Restriction) where
  pub from_two : (n : ℕ) → flat (leaf_items (those_of p (others n))) ≡ from p 2 n
  unfolding from
  from_two zero = refl
  from_two (suc n) = let e : n ≡ suc n + 1 - 2 = omega arith in ap (λ (k : ℕ). flat (leaf_items (those_of p (numbers_from 2 k)))) e

  pub from_end : (b n : ℕ) → n < b → from p b n ≡ []
  unfolding from encode
  from_end b n h = let e : n + 1 - b ≡ 0 = omega arith in rw e

  -- The next leaf passes; it does not.
  next_range : (b n : ℕ) → b ≤ n → numbers_from b (n + 1 - b) ≡ b ∷ numbers_from (b + 1) (n + 1 - (b + 1))
  next_range b n h =
      let e : n + 1 - b ≡ suc (n + 1 - (b + 1)) = omega arith in
      let s : suc b ≡ b + 1 = omega arith in
      ap (numbers_from b) e ∙ ap (λ (i : ℕ). b ∷ numbers_from i (n + 1 - (b + 1))) s

  first_token : (b : ℕ) (l : List ℕ) → flat (leaf_items (b ∷ l)) ≡ (16 * b) ∷ flat (leaf_items l)
  unfolding encode leaf_token
  first_token b l = let e : 16 * b + 0 ≡ 16 * b = omega arith in rw e

  pub from_next : (b n : ℕ) → b ≤ n → p b ≡ true → from p b n ≡ (16 * b) ∷ from p (b + 1) n
  unfolding from
  from_next b n h e = rw (next_range b n h, e) (first_token b (those_of p (numbers_from (b + 1) (n + 1 - (b + 1)))))

  pub from_past : (b n : ℕ) → b ≤ n → p b ≡ false → from p b n ≡ from p (b + 1) n
  unfolding from
  from_past b n h e = rw (next_range b n h, e)

-- Fewer than two leaves are no node; two or more are one P-node.
leaves-length : (l : List ℕ) → length (items (leaf_items l)) ≡ length (flat (leaf_items l))
unfolding encode
leaves-length [] = refl
leaves-length (b ∷ l) = ap suc (leaves-length l)

module _ (n : ℕ) (keep : Restriction) (k : ℕ) (e : k ≡ length (flat (leaf_items (those_of keep (others n))))) where
  pub start-few : k < 2 → flat (start n keep) ≡ flat (leaf_items (those_of keep (others n)))
  unfolding start
  start-few h = rw (leaves-length (those_of keep (others n)), ← e, le-ltb 1 k (omega arith))

  pub start_many : 2 ≤ k → flat (start n keep) ≡ (32 * k + 8) ∷ flat (leaf_items (those_of keep (others n)))
  unfolding start
  start_many h = rw (leaves-length (those_of keep (others n)), ← e, lt-ltb 1 k (omega arith)) (flat_p (leaf_items (those_of keep (others n))) e)
