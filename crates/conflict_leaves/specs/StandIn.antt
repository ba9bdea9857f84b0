-- Leaves that stand for all n: those in a group, and one of the others; and the tree of them to start from.
use Rattle.std.specs.Prelude.{◌≡◌, true, false, List, ◌∷◌, ℕ, ◌+◌, ◌<◌, ◌≤◌}
use Rattle.spec_orders.specs.Lists.{those_of, Rearranged}
use Rattle.spec_orders.specs.CircularOrder.{others, CircularOrder, Restriction, Consecutive}
use Rattle.spec_orders.specs.Tree.{Forest}
use Rattle.spec_orders.specs.Reduce.{pack}
use Rattle.spec_orders.specs.Join.{leaf_items}

-- The first leaf from 1 on outside the restriction: n + 1 where all n are in it.
pub record FirstUnmarked (G : Restriction) (n b : ℕ) : Type 0 where
  pub from : 1 ≤ b
  pub to : b ≤ n + 1
  pub before : (x : ℕ) → 1 ≤ x → x < b → G x ≡ true
  pub outside : b ≤ n → G b ≡ false

-- Every leaf of the first restriction is in the second.
abbrev pub Below : Restriction → Restriction → Type 0
Below G H = (b : ℕ) → G b ≡ true → H b ≡ true

-- The leaf is neither in the new group nor in one of the book's.
pub record Unused (new : Restriction) (f : ℕ → Restriction) (b : ℕ) : Type 0 where
  pub not_new : new b ≡ false
  pub not_booked : (j : ℕ) → 1 ≤ j → j ≤ 96 → f j b ≡ false

-- The leaves to go by: 1, all in a group, and where there are others, one of them, `spare`.
pub record Chosen (n : ℕ) (new : Restriction) (f : ℕ → Restriction) (keep : Restriction) : Type 0 where
  pub spare : ℕ
  pub one : keep 1 ≡ true
  pub left_out : (b : ℕ) → 1 ≤ b → b ≤ n → keep b ≡ false → Unused new f b
  pub for_them : (b : ℕ) → 1 ≤ b → b ≤ n → keep b ≡ false → (1 ≤ spare) × (spare ≤ n) × (keep spare ≡ true) × Unused new f spare

-- The tree to start from: one P-node with the leaves from 2 to n that are kept; one by itself.
unfoldable pub start : ℕ → Restriction → Forest
start n keep = pack (leaf_items (those_of keep (others n)))

-- Leaf 1, then these leaves in some sequence.
pub record OrderOf (leaves ord : List ℕ) : Type 0 where
  pub after : List ℕ
  pub one_first : ord ≡ 1 ∷ after
  pub all_leaves : Rearranged leaves after

-- Some of the leaves 2 to n stand for all of them. Of each circular order comes an order of theirs, with every restriction consecutive that
-- was; and of each order of theirs a circular order, with every group of the book consecutive that was.
pub record StandIn (n : ℕ) (f : ℕ → Restriction) : Type 0 where
  pub leaves : List ℕ
  pub narrow : List ℕ → List ℕ
  pub narrow_order : (ord : List ℕ) → CircularOrder n ord → OrderOf leaves (narrow ord)
  pub narrow_keeps : (G : Restriction) (ord : List ℕ) → Consecutive G ord → Consecutive G (narrow ord)
  pub wide : List ℕ → List ℕ
  pub wide_order : (ord : List ℕ) → OrderOf leaves ord → CircularOrder n (wide ord)
  pub wide_keeps : (j : ℕ) → 1 ≤ j → j ≤ 96 → (ord : List ℕ) → Consecutive (f j) ord → Consecutive (f j) (wide ord)
