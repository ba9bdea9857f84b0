-- The tokens of the fresh tree.
use mathlib.Core.Path.{◌≡◌, refl, ap, ◌∙◌}
use mathlib.Core.List.{List, [], ◌∷◌, ◌++◌, append-nil}
use Prim.Native.Nat.{ℕ, zero, suc, ◌+◌, ◌*◌, ◌≤◌, ◌<◌}
use native.Mathlib.Numerals.{add-one}
use native.Mathlib.Omega.{arith}
use borrow.Author.Tests.{lt-ltb, le-ltb}
use lib.ListN.{length}
use Rattle.spec_orders.specs.Lists.{numbers_from}
use Rattle.spec_orders.specs.Tree.{P, nil, node, items}
use Rattle.spec_orders.specs.Join.{fresh, leaf_items}
use Rattle.tree_tokens.specs.Tokens.{leaf_token, node_token, encode, flat}

-- The tokens of k leaves from a on, and one more.
run_more : (a k : ℕ) → flat (leaf_items (numbers_from a (suc k))) ≡ flat (leaf_items (numbers_from a k)) ++ ((16 * (a + k)) ∷ [])
unfolding encode leaf_token
run_more a zero =
    let n : 16 * a + 0 ≡ 16 * (a + 0) = omega arith in
    rw n
run_more a (suc k) =
    let n : suc a + k ≡ a + suc k = omega arith in
    ap (λ (l : List ℕ). (16 * a + 0) ∷ l) (run_more (suc a) k ∙ rw n)

pub leaves_more : (k : ℕ) → flat (leaf_items (numbers_from 2 (k + 1))) ≡ flat (leaf_items (numbers_from 2 k)) ++ ((16 * (k + 2)) ∷ [])
leaves_more k =
    let n : 2 + k ≡ k + 2 = omega arith in
    rw (add-one, run_more 2 k, n)

pub leaves-length : (a k : ℕ) → length (flat (leaf_items (numbers_from a k))) ≡ k
unfolding encode
leaves-length a zero = refl
leaves-length a (suc k) = ap suc (leaves-length (suc a) k)

leaves-items : (a k : ℕ) → length (items (leaf_items (numbers_from a k))) ≡ k
leaves-items a zero = refl
leaves-items a (suc k) = ap suc (leaves-items (suc a) k)

-- For at most two leaves no node; from three on one P-node.
pub fresh_none : flat (fresh 0) ≡ []
unfolding fresh encode
fresh_none = refl

fresh_is : (k : ℕ) → k < 2 → fresh (suc k) ≡ leaf_items (numbers_from 2 k)
unfolding fresh
fresh_is k h = rw (leaves-items 2 k, le-ltb 1 k (omega arith))

pub fresh-few : (n k : ℕ) → n ≡ suc k → k < 2 → flat (fresh n) ≡ flat (leaf_items (numbers_from 2 k))
fresh-few n k e h = rw (e, fresh_is k h)

fresh_is_node : (k : ℕ) → 2 ≤ k → fresh (suc k) ≡ node P (leaf_items (numbers_from 2 k)) nil
unfolding fresh
fresh_is_node k h = rw (leaves-items 2 k, lt-ltb 1 k (omega arith))

pub fresh_many : (n k : ℕ) → n ≡ suc k → 2 ≤ k → flat (fresh n) ≡ (32 * k + 8) ∷ flat (leaf_items (numbers_from 2 k))
unfolding encode node_token
fresh_many n k e h =
    let m : 32 * k + 8 + 0 ≡ 32 * k + 8 = omega arith in
    rw (e, fresh_is_node k h, leaves-length 2 k, append-nil, m)
