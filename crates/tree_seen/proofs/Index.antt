-- Where a leaf stands among the tokens.
use mathlib.Core.Path.{◌≡◌, refl, sym, ap, ◌∙◌}
use mathlib.Core.Logic.{◌⊎◌, inl, inr}
use mathlib.Core.Bool.{Bool, true, false, not, cond}
use mathlib.Core.List.{List, [], ◌∷◌, ◌++◌}
use Prim.Native.Nat.{ℕ, suc, ◌+◌, ◌*◌, ◌/◌, ◌%◌, ◌≤◌, ◌<◌}
use native.Mathlib.Omega.{arith}
use borrow.Author.Tests.{eqb-true, eqb-false, eq-eqb, ne_eqb, ltb-true, ltb-false}
use lib.Dec.{eqb, ltb}
use lib.ListN.{length, length-append}
use Rattle.std.specs.Prelude.{Some, None}
use Rattle.std.specs.Option.{unwrap_or}
use Rattle.std.specs.List.{prefix_len, position}
use Rattle.spec_orders.specs.Lists.{In}
use Rattle.spec_orders.specs.Tree.{Kind, Forest, nil, leaf, node, frontier}
use Rattle.spec_orders.proofs.Members.{in_left, in_right, in_append}
use Rattle.tree_tokens.specs.Tokens.{plain, leaf_token, node_token, E, encode}
use Rattle.tree_tokens.proofs.Laws.{node_odd}
use Rattle.tree_tokens.specs.Tokens.{flat}
use Rattle.tree_seen.specs.Seen.{index_of}

pub less_or_not : (x n : ℕ) → (x < n) ⊎ (n ≤ x)
less_or_not x n = go (ltb x n) refl
  where
    go : (c : Bool) → ltb x n ≡ c → (x < n) ⊎ (n ≤ x)
    go true e = inl (ltb-true x n e)
    go false e = inr (ltb-false x n e)

module _ (r : ℕ) where
  pub index_hit : (t : ℕ) (l : List ℕ) → t ≡ 16 * r → index_of r (t ∷ l) ≡ 0
  unfolding index_of
  index_hit t l e = rw (eq-eqb t (16 * r) e)

  pub index_miss : (t : ℕ) (l : List ℕ) → (t ≡ 16 * r → ⊥) → index_of r (t ∷ l) ≡ suc (index_of r l)
  unfolding index_of
  index_miss t l h = rw (ne_eqb t (16 * r) h)

  hit_or_miss : (t : ℕ) → (t ≡ 16 * r) ⊎ (t ≡ 16 * r → ⊥)
  hit_or_miss t = go (eqb t (16 * r)) refl
    where
      go : (b : Bool) → eqb t (16 * r) ≡ b → (t ≡ 16 * r) ⊎ (t ≡ 16 * r → ⊥)
      go true e = inl (eqb-true t (16 * r) e)
      go false e = inr (eqb-false t (16 * r) e)

  pub index_none : index_of r [] ≡ 0
  unfolding index_of
  index_none = refl

  pub index_le : (l : List ℕ) → index_of r l ≤ length l
  index_le [] = omega (arith, index_none)
  index_le (t ∷ l) = go (hit_or_miss t) (index_le l)
    where
      go : (t ≡ 16 * r) ⊎ (t ≡ 16 * r → ⊥) → index_of r l ≤ length l → index_of r (t ∷ l) ≤ suc (length l)
      go (inl e) h = omega (arith, index_hit t l e)
      go (inr e) h = omega (arith, index_miss t l e)

  -- The place of the first such token, or how many there are.
  index_passed : (l : List ℕ) → prefix_len (λ t. not (eqb t (16 * r))) l ≡ index_of r l
  unfolding index_of
  index_passed [] = refl
  index_passed (t ∷ l) = go (eqb t (16 * r)) (index_passed l)
    where
      go : (b : Bool) → prefix_len (λ x. not (eqb x (16 * r))) l ≡ index_of r l
          → cond (not b) (1 + prefix_len (λ x. not (eqb x (16 * r))) l) 0 ≡ cond b 0 (suc (index_of r l))
      go true e = refl
      go false e = omega (arith, e)

  pub index_position : (l : List ℕ) → unwrap_or (position (λ t. eqb t (16 * r)) l) (length l) ≡ index_of r l
  index_position l = rw (index_passed l) (go (ltb (index_of r l) (length l)) refl)
    where
      go : (b : Bool) → ltb (index_of r l) (length l) ≡ b → unwrap_or (cond b (Some (index_of r l)) None) (length l) ≡ index_of r l
      go true e = refl
      go false e = omega (arith, index_le l, ltb-false (index_of r l) (length l) e)

  -- In the first list, or after it.
  pub index_in : (l m : List ℕ) → index_of r l < length l → index_of r (l ++ m) ≡ index_of r l
  index_in [] m h = absurd (omega (arith, index_none))
  index_in (t ∷ l) m h = go (hit_or_miss t) (index_in l m)
    where
      go : (t ≡ 16 * r) ⊎ (t ≡ 16 * r → ⊥) → (index_of r l < length l → index_of r (l ++ m) ≡ index_of r l) → index_of r (t ∷ (l ++ m)) ≡ index_of r (t ∷ l)
      go (inl e) k = index_hit t (l ++ m) e ∙ sym (index_hit t l e)
      go (inr e) k = index_miss t (l ++ m) e ∙ ap suc (k (omega (arith, h, index_miss t l e))) ∙ sym (index_miss t l e)

  pub index_out : (l m : List ℕ) → length l ≤ index_of r l → index_of r (l ++ m) ≡ length l + index_of r m
  index_out [] m h = omega arith
  index_out (t ∷ l) m h = go (hit_or_miss t) (index_out l m)
    where
      go : (t ≡ 16 * r) ⊎ (t ≡ 16 * r → ⊥) → (length l ≤ index_of r l → index_of r (l ++ m) ≡ length l + index_of r m) → index_of r (t ∷ (l ++ m)) ≡ suc (length l) + index_of r m
      go (inl e) k = absurd (omega (arith, h, index_hit t l e))
      go (inr e) k = omega (arith, index_miss t (l ++ m) e, k (omega (arith, h, index_miss t l e)))

  -- A leaf's token is its number's, and a node's is no leaf's.
  leaf_hit : (b : ℕ) → r ≡ b → leaf_token E b ≡ 16 * r
  unfolding leaf_token
  leaf_hit b e = omega arith

  hit_leaf : (b : ℕ) → leaf_token E b ≡ 16 * r → r ≡ b
  unfolding leaf_token
  hit_leaf b e = omega arith

  pub node_miss : (k : Kind) (m : ℕ) → node_token E k m ≡ 16 * r → ⊥
  node_miss k m e = omega (arith, node_odd E k m, ap (λ (t : ℕ). t / 8 % 2) e)

  -- The leaf stands among the tokens of a tree iff it is one of its leaves.
  pub index_leaf : (f : Forest) → In r (frontier f) → index_of r (flat f) < length (flat f)
  unfolding encode
  index_leaf nil h = absurd h
  index_leaf (leaf b f) h = go (hit_or_miss (leaf_token E b)) h (index_leaf f)
    where
      go : (leaf_token E b ≡ 16 * r) ⊎ (leaf_token E b ≡ 16 * r → ⊥) → (r ≡ b) ⊎ In r (frontier f) → (In r (frontier f) → index_of r (encode (plain f)) < length (encode (plain f)))
          → index_of r (leaf_token E b ∷ encode (plain f)) < suc (length (encode (plain f)))
      go (inl e) h k = omega (arith, index_hit (leaf_token E b) (encode (plain f)) e)
      go (inr e) (inl h) k = absurd (e (leaf_hit b h))
      go (inr e) (inr h) k = omega (arith, index_miss (leaf_token E b) (encode (plain f)) e, k h)
  index_leaf (node k i f) h = go (in_append r (frontier i) (frontier f) h) (index_leaf i) (index_leaf f)
    where
      a : List ℕ
      a = encode (plain i)

      b : List ℕ
      b = encode (plain f)

      t : ℕ
      t = node_token E k (length a)

      both : index_of r (a ++ b) < length a + length b → index_of r (t ∷ (a ++ b)) < suc (length (a ++ b))
      both h = omega (arith, index_miss t (a ++ b) (node_miss k (length a)), length-append a b)

      go : In r (frontier i) ⊎ In r (frontier f) → (In r (frontier i) → index_of r a < length a) → (In r (frontier f) → index_of r b < length b)
          → index_of r (t ∷ (a ++ b)) < suc (length (a ++ b))
      go (inl h) p q = both (omega (arith, index_in a b (p h), p h))
      go (inr h) p q = both (later (less_or_not (index_of r a) (length a)) (q h))
        where
          later : (index_of r a < length a) ⊎ (length a ≤ index_of r a) → index_of r b < length b → index_of r (a ++ b) < length a + length b
          later (inl e) h = omega (arith, index_in a b e)
          later (inr e) h = omega (arith, index_out a b e)

  pub leaf_index : (f : Forest) → index_of r (flat f) < length (flat f) → In r (frontier f)
  unfolding encode
  leaf_index nil h = absurd (omega (arith, index_none))
  leaf_index (leaf b f) h = go (hit_or_miss (leaf_token E b)) (leaf_index f)
    where
      go : (leaf_token E b ≡ 16 * r) ⊎ (leaf_token E b ≡ 16 * r → ⊥) → (index_of r (encode (plain f)) < length (encode (plain f)) → In r (frontier f)) → (r ≡ b) ⊎ In r (frontier f)
      go (inl e) k = inl (hit_leaf b e)
      go (inr e) k = inr (k (omega (arith, h, index_miss (leaf_token E b) (encode (plain f)) e)))
  leaf_index (node k i f) h = go (less_or_not (index_of r a) (length a)) (leaf_index i) (leaf_index f)
    where
      a : List ℕ
      a = encode (plain i)

      b : List ℕ
      b = encode (plain f)

      t : ℕ
      t = node_token E k (length a)

      go : (index_of r a < length a) ⊎ (length a ≤ index_of r a) → (index_of r a < length a → In r (frontier i)) → (index_of r b < length b → In r (frontier f))
          → In r (frontier i ++ frontier f)
      go (inl e) p q = in_left r (frontier i) (frontier f) (p e)
      go (inr e) p q = in_right r (frontier i) (frontier f) (q (omega (arith, h, index_miss t (a ++ b) (node_miss k (length a)), length-append a b, index_out a b e)))
