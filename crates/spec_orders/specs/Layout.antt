-- Document 02, No. 6: rings, and racks with two ends. "Each call is told beside n whether it is lent a ring or a rack." What an order is, and what
-- hangs together in it, goes by the layout; all else is said once, for both.
use Rattle.std.specs.Prelude.{◌≡◌, false, cond, List, ◌++◌, ℕ, suc, eqb}
use Rattle.spec_orders.specs.declared.Layout.{Layout}
use Rattle.spec_orders.specs.declared.Layout.TheVariants.{Ring, Rack}
use Rattle.spec_orders.specs.Lists.{All, Rearranged, numbers_from}
use Rattle.spec_orders.specs.CircularOrder.{CircularOrder, Restriction, Inside, Outside, Consecutive}

-- "The rack is planned as a ring with one hidden end bin, numbered n + 1": how many leaves the tree of n bins has.
abbrev pub leaf_count : Layout → ℕ → ℕ
leaf_count Ring n = n
leaf_count Rack n = suc n

-- The layout as a number, for C: 0 is a ring, any other number a rack.
abbrev pub layout_numbered : ℕ → Layout
layout_numbered number = cond (eqb number 0) Ring Rack

-- "A straight order is a list of the bins." So a list and its reverse are two orders.
abbrev pub OrderOn : Layout → ℕ → List ℕ → Type 0
OrderOn Ring n ord = CircularOrder n ord
OrderOn Rack n ord = Rearranged (numbers_from 1 n) ord

-- "A group hangs together if its run has no gap and does not pass the ends": its leaves stand next to each other in the list.
pub record Contiguous (G : Restriction) (ord : List ℕ) : Type 0 where
  pub left : List ℕ
  pub run : List ℕ
  pub right : List ℕ
  pub parts : ord ≡ left ++ (run ++ right)
  pub out_left : Outside G left
  pub in_run : Inside G run
  pub out_right : Outside G right

abbrev pub ConsecutiveOn : Layout → Restriction → List ℕ → Type 0
ConsecutiveOn Ring G ord = Consecutive G ord
ConsecutiveOn Rack G ord = Contiguous G ord

-- "That no group may name": the group does not have the hidden end bin.
abbrev pub Visible : Layout → ℕ → Restriction → Type 0
Visible Ring n G = Unit {0}
Visible Rack n G = G (suc n) ≡ false

-- Each of the groups, by itself, hangs together in the order.
abbrev pub AllOn : Layout → List Restriction → List ℕ → Type 0
AllOn l Gs ord = All (λ G. ConsecutiveOn l G ord) Gs

-- "Groups can hang together when there is one ring order in which each of them, by itself, hangs together. Otherwise they are impossible together."
-- On a rack "refusals and conflicts are judged by straight orders".
pub record Possible (l : Layout) (n : ℕ) (Gs : List Restriction) : Type 0 where
  pub order : List ℕ
  pub is_order : OrderOn l n order
  pub hang : AllOn l Gs order
