-- The leaves of a canonical tree, from left to right, are an order that it allows, and no allowed order stands before them.
use mathlib.Core.Path.{◌∙◌, ◌≡◌, ap, refl, subst, subst₂, sym}
use mathlib.Core.Logic.{inl, inr}
use mathlib.Core.List.{List, [], ◌++◌, ◌∷◌, append-nil}
use Prim.Native.Nat.{◌<◌, ℕ}
use native.Mathlib.Omega.{arith}
use lib.ListN.{length}
use Rattle.spec_orders.specs.Lists.{All, here, there, Rearranged, done, next, NotAfter}
use Rattle.spec_orders.specs.Tree.{Kind, P, C, Forest, nil, leaf, node, Item, leaf_item, node_item, items, rev, frontier, Turn, Consistent, no_items, leaf_first, node_first}
use Rattle.spec_orders.specs.Form.{first, first_of, Rises, Rising, Canonical}
use Rattle.spec_orders.specs.TreeText.{TwoItems, Forked}
use Rattle.spec_orders.proofs.ListLaws.{all_map}
use Rattle.spec_orders.proofs.Rearranged.{pick_all, perm_length}
use Rattle.spec_orders.proofs.Members.{NonEmpty, perm_nonempty}
use Rattle.spec_orders.proofs.NotAfter.{not_after_refl, not_after_trans, not_after_append, not_after_prefix}
use Rattle.spec_orders.proofs.Laws.{rev_perm, turn_perm, turn_refl, leaves_of, flat, frontier-flat, perm_frontier, consistent_perm, Every-of, every_all, every_perm, Fork, Node-canonical, enough_two, canonical_forked, canonical_perm}

pub frontier_allowed : (f : Forest) → Consistent f (frontier f)
frontier_allowed nil = no_items
frontier_allowed (leaf b f) = leaf_first (frontier_allowed f)
frontier_allowed (node k i f) = node_first (turn_refl k i) (frontier_allowed i) (frontier_allowed f) refl

pub two_nonempty : (ts : List Item) → TwoItems ts → NonEmpty ts
two_nonempty [] h = omega arith
two_nonempty (t ∷ ts) h = tt

abbrev pub Begins : List ℕ → ℕ → Type 0
Begins xs x = (l : List ℕ) × (xs ≡ x ∷ l)

-- A sequence that has an item, and two or more in every node, begins with its `first`.
first_leaf : (f : Forest) → Forked f → NonEmpty (items f) → Begins (frontier f) (first f)
first_leaf nil c h = absurd h
first_leaf (leaf b f) c h = (frontier f, refl)
first_leaf (node k i f) c h =
    let r = first_leaf i c.0.1 (two_nonempty (items i) c.0.0) in
    (r.0 ++ frontier f, ap (λ l. l ++ frontier f) r.1)

abbrev pub Starts : Item → Type 0
Starts t = Begins (leaves_of t) (first_of t)

starts : (t : Item) → Every-of Fork t → Starts t
starts (leaf_item b) c = ([], refl)
starts (node_item k i) c = first_leaf i c.1 (two_nonempty (items i) c.0)

pub all_start : (f : Forest) → Forked f → All Starts (items f)
all_start f c = all_map (Every-of Fork) Starts starts (items f) (every_all Fork f c)

-- The list that begins with the smaller number comes first.
not_after_begin : (a b c d : List ℕ) (x y : ℕ) → Begins a x → Begins b y → x < y → NotAfter (a ++ c) (b ++ d)
not_after_begin a b c d x y p q h = subst₂ (λ l m. NotAfter (l ++ c) (m ++ d)) (sym p.1) (sym q.1) (inl h)

-- Rising items: each item's first leaf is below those of the later ones.
rises_all : (m : ℕ) (ts : List Item) → Rises m ts → All (λ u. m < first_of u) ts
rises_all m [] h = tt
rises_all m (t ∷ ts) h =
    (h.0, all_map (λ u. first_of t < first_of u) (λ u. m < first_of u) (λ u l. omega (arith, h.0)) ts (rises_all (first_of t) ts h.1))

pub rises_rising : (m : ℕ) (ts : List Item) → Rises m ts → Rising ts
rises_rising m [] h = tt
rises_rising m (t ∷ ts) h = h.1

-- No rearrangement of rising items comes before them.
rising_not_after : {ts us : List Item} → Rearranged ts us → Rising ts → All Starts ts → NotAfter (flat ts) (flat us)
rising_not_after done r g = tt
rising_not_after (next {m = us} (here {x = t} {l = ts}) p) r g =
    not_after_prefix (leaves_of t) (flat ts) (flat us) (rising_not_after p (rises_rising (first_of t) ts r) g.1)
rising_not_after (next {m = us} (there {x = t} {y = s} {l = ts} k) p) r g =
    let a = pick_all (λ u. first_of s < first_of u) k (rises_all (first_of s) ts r) in
    let b = pick_all Starts k g.1 in
    not_after_begin (leaves_of s) (leaves_of t) (flat ts) (flat us) (first_of s) (first_of t) g.0 b.0 a.0

-- No turn of a canonical node's items comes before them.
turn_not_after : (k : Kind) (i j : Forest) → Turn k i j → Node-canonical k i × Canonical i → NotAfter (frontier i) (frontier j)
turn_not_after P i j t c =
    subst₂ NotAfter (sym (frontier-flat i)) (sym (frontier-flat j)) (rising_not_after t c.0.1 (all_start i (canonical_forked i c.1)))
turn_not_after C i j (inl e) c = subst (λ h. NotAfter (frontier i) (frontier h)) (sym e) (not_after_refl (frontier i))
turn_not_after C i j (inr e) c =
    let p = rev_perm i in
    let s = two_nonempty (items i) (enough_two C i c.0.0) in
    let g = canonical_forked i c.1 in
    let l = not_after_begin (frontier i) (frontier (rev i)) [] [] (first i) (first (rev i)) (first_leaf i g s) (first_leaf (rev i) (every_perm Fork i (rev i) p g) (perm_nonempty p s)) c.0.1 in
    subst (λ h. NotAfter (frontier i) (frontier h)) (sym e) (subst₂ NotAfter (append-nil (frontier i)) (append-nil (frontier (rev i))) l)

pub frontier-first : {f : Forest} {xs : List ℕ} → Consistent f xs → Canonical f → NotAfter (frontier f) xs
frontier-first no_items c = tt
frontier-first (leaf_first s) c = inr (refl, frontier-first s c)
frontier-first (node_first {k = k} {i = i} {j = j} {f = f} {ys = ys} {zs = zs} t s r e) c =
    let p = turn_perm k i j t in
    let n : length (frontier i) ≡ length ys = perm_length (perm_frontier i j p) ∙ perm_length (consistent_perm s) in
    let l = not_after_trans (frontier i) (frontier j) ys (turn_not_after k i j t c.0) (frontier-first s (canonical_perm i j p c.0.1)) in
    subst (NotAfter (frontier i ++ frontier f)) (sym e) (not_after_append (frontier i) ys (frontier f) zs n l (frontier-first r c.1))
