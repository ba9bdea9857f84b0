-- Racks: what the definitions compute.
use mathlib.Core.Path.{◌≡◌, refl}
use mathlib.Core.Option.{some}
use mathlib.Core.List.{List, [], ◌∷◌}
use Prim.Native.Nat.{ℕ}
use Rattle.spec_orders.specs.declared.Layout.{Layout}
use Rattle.spec_orders.specs.declared.Layout.TheVariants.{Ring, Rack}
use Rattle.spec_orders.specs.Lists.{elem}
use Rattle.spec_orders.specs.Tree.{P, C, Forest, nil, leaf, node}
use Rattle.spec_orders.specs.Form.{standard}
use Rattle.spec_orders.specs.TreeText.{digits_in, digits, tree_text}
use Rattle.spec_orders.specs.Reduce.{reduce}
use Rattle.spec_orders.specs.Join.{fresh, side, join}
use Rattle.spec_orders.specs.SeenFrom.{seen_from, standard_on}
use Rattle.spec_orders.specs.Conflict.{consecutive?, possible?, leave_out, conflict_list, book_conflicts, numbered}
use Rattle.spec_orders.specs.Circles.{bytes}

-- The fresh rack of one bin, and of two.
one_bin : tree_text (fresh 2) ≡ bytes "1 2"
unfolding digits_in digits tree_text fresh
one_bin = refl

two_bins : tree_text (fresh 3) ≡ bytes "1 P(2 3)"
unfolding digits_in digits tree_text fresh
two_bins = refl

-- Circle e, `1 C(P(2 4) 5 3)`, as a rack of four bins: its end bin 5 sees `C(P(2 4) 1 3)`. The standard order is not the sequence of the text, and bin
-- 1 is not the first.
abbrev tree_e : Forest
tree_e = node C (node P (leaf 2 (leaf 4 nil)) (leaf 5 (leaf 3 nil))) nil

end_e : seen_from 1 5 tree_e ≡ node C (node P (leaf 2 (leaf 4 nil)) (leaf 1 (leaf 3 nil))) nil
end_e = refl

ring_e : standard tree_e ≡ 1 ∷ 2 ∷ 4 ∷ 5 ∷ 3 ∷ []
ring_e = refl

rack_e : standard_on Rack 4 tree_e ≡ 2 ∷ 4 ∷ 1 ∷ 3 ∷ []
unfolding standard_on
rack_e = refl

-- Circle j, `1 C(2 3 4 P(5 6))`, as a rack of five bins: its end bin 6 sees `P(C(1 2 3 4) 5)`.
end_j : seen_from 1 6 (node C (leaf 2 (leaf 3 (leaf 4 (node P (leaf 5 (leaf 6 nil)) nil)))) nil)
    ≡ node P (node C (leaf 1 (leaf 2 (leaf 3 (leaf 4 nil)))) (leaf 5 nil)) nil
end_j = refl

-- A path through two nodes: `1 C(2 P(3 7 8) 4 5 6)` seen from 7.
two_nodes : seen_from 1 7 (node C (leaf 2 (node P (leaf 3 (leaf 7 (leaf 8 nil))) (leaf 4 (leaf 5 (leaf 6 nil))))) nil)
    ≡ node P (node C (leaf 2 (leaf 1 (leaf 6 (leaf 5 (leaf 4 nil))))) (leaf 3 (leaf 8 nil))) nil
two_nodes = refl

-- A group of n − 1 bins changes a rack's tree: bins 1 and 2 of three. On the ring of three bins it changes none.
most_on_rack : join (elem (1 ∷ 2 ∷ [])) (fresh 4) ≡ some (node P (leaf 2 (node P (leaf 3 (leaf 4 nil)) nil)) nil)
unfolding reduce fresh side join
most_on_rack = refl

most_on_ring : join (elem (1 ∷ 2 ∷ [])) (fresh 3) ≡ some (fresh 3)
unfolding reduce fresh side join
most_on_ring = refl

-- The groups {1, 2}, {3, 4}, {2, 3} and {1, 4} hang together on a ring of four bins (circle h). On a rack of four bins the last one is in conflict with
-- the others.
abbrev last_in_conflict : Layout → List ℕ
last_in_conflict l = book_conflicts l 4 (numbered (elem (1 ∷ 2 ∷ []) ∷ elem (3 ∷ 4 ∷ []) ∷ elem (2 ∷ 3 ∷ []) ∷ [])) 3 (elem (1 ∷ 4 ∷ []))

on_ring : last_in_conflict Ring ≡ []
unfolding consecutive? possible? leave_out conflict_list
on_ring = refl

on_rack : last_in_conflict Rack ≡ 1 ∷ 2 ∷ 3 ∷ []
unfolding consecutive? possible? leave_out conflict_list
on_rack = refl
