-- Two listings, computed: the sample of document 01, as document 02, No. 3, has it; and one with a line with no leaf, with two refused ones of which
-- the second names a line behind the first, and with a group that is aimed at another leaf in the final order than when it was joined.
use mathlib.Core.Path.{◌≡◌, refl}
use mathlib.Core.Bool.{true}
use mathlib.Core.List.{List, [], ◌∷◌}
use Prim.Native.Nat.{ℕ}
use Rattle.spec_orders.specs.Lists.{same}
use Rattle.spec_orders.specs.Reduce.{reduce}
use Rattle.spec_orders.specs.TreeText.{digits_in, digits, tree_text}
use Rattle.spec_orders.specs.Join.{fresh, side, join}
use Rattle.spec_orders.specs.Conflict.{consecutive?, possible?, leave_out, conflict_list}
use Rattle.spec_orders.specs.Aim.{run_start, rounded, aim_of}
use Rattle.spec_orders.specs.Circles.{bytes}
use Rattle.spec_listing.specs.Listing.{outcome, run, fields, group_lines, listing, printed}

-- The lines that are printed for bins A to E and these groups are these.
abbrev Prints : List (List ℕ) → List (List ℕ) → Type 0
Prints lists lines = same (printed (listing (bytes "A" ∷ bytes "B" ∷ bytes "C" ∷ bytes "D" ∷ bytes "E" ∷ []) lists)) (printed lines) ≡ true

pub sample_right : Prints ((1 ∷ 3 ∷ []) ∷ (3 ∷ 5 ∷ []) ∷ (1 ∷ 5 ∷ []) ∷ (2 ∷ 4 ∷ []) ∷ [])
    (bytes "line answer aim conflict"
    ∷ bytes "1 kept A -"
    ∷ bytes "2 kept C -"
    ∷ bytes "3 refused - 1,2"
    ∷ bytes "4 kept D -"
    ∷ bytes "order"
    ∷ bytes "A B D E C"
    ∷ bytes "tree"
    ∷ bytes "1 C(P(2 4) 5 3)"
    ∷ [])
unfolding reduce digits_in digits tree_text fresh side join consecutive? possible? leave_out conflict_list run_start rounded aim_of outcome run fields group_lines listing
sample_right = refl

pub lines-right : Prints ([] ∷ (1 ∷ 3 ∷ []) ∷ (3 ∷ 4 ∷ []) ∷ (1 ∷ 4 ∷ []) ∷ (2 ∷ 4 ∷ []) ∷ (4 ∷ 5 ∷ []) ∷ [])
    (bytes "line answer aim conflict"
    ∷ bytes "1 kept - -"
    ∷ bytes "2 kept A -"
    ∷ bytes "3 kept D -"
    ∷ bytes "4 refused - 2,3"
    ∷ bytes "5 kept D -"
    ∷ bytes "6 refused - 3,5"
    ∷ bytes "order"
    ∷ bytes "A C D B E"
    ∷ bytes "tree"
    ∷ bytes "1 C(3 4 2 5)"
    ∷ [])
unfolding reduce digits_in digits tree_text fresh side join consecutive? possible? leave_out conflict_list run_start rounded aim_of outcome run fields group_lines listing
lines-right = refl
