-- Each C-node with two items becomes a P-node: the same leaves and the same orders; a tree of the shape, with its items sorted, is then in form.
use mathlib.Core.Path.{◌∙◌, ◌≡◌, ap, ap₂, refl, subst, subst₂, sym}
use mathlib.Core.Logic.{◌↔◌, ◌⊎◌, inl, inr}
use mathlib.Core.Bool.{Bool, cond, false, true}
use mathlib.Core.List.{List, [], ◌++◌, ◌∷◌, map, reverse}
use Prim.Native.Nat.{◌<◌, ℕ}
use native.Mathlib.Omega.{arith}
use borrow.Author.Tests.{eqb-true, eqb-false}
use lib.Dec.{eqb}
use lib.ListN.{length, length-map}
use Rattle.spec_orders.specs.Lists.{Rearranged}
use Rattle.spec_orders.specs.Tree.{Kind, P, C, Forest, nil, leaf, node, Item, leaf_item, node_item, items, append, rev, frontier, Turn, Consistent, no_items, leaf_first, node_first, Allowed}
use Rattle.spec_orders.specs.Form.{first, first_of, Rises, Rising, Sorted, Every, Enough, Canonical, Single, InForm}
use Rattle.spec_orders.specs.TreeText.{TwoItems, Shaped, Forked}
use Rattle.spec_orders.specs.ThreeNeighbours.{kind_for, relabel}
use Rattle.spec_orders.specs.Reduce.{put}
use Rattle.spec_orders.proofs.Tests.{cond_cases}
use Rattle.spec_orders.proofs.Rearranged.{two_picks}
use Rattle.spec_orders.proofs.Members.{perm_map, perm_unmap}
use Rattle.spec_orders.proofs.Laws.{items-rev, turn_perm, every_map, Fork, Node-canonical, enough_two}
use Rattle.spec_orders.proofs.Parts.{forest, forest_items, items_forest}

-- A C-node that stays one has three items or more.
kind_enough : (k : Kind) (i j : Forest) → TwoItems (items i) → length (items j) ≡ length (items i) → Enough (kind_for k (items i)) j
kind_enough P i j n e = omega arith
kind_enough C i j n e = cond_cases (eqb (length (items i)) 2) P C (λ k. Enough k j) (λ q. omega arith) (λ q. let m : (length (items i) ≡ 2) → ⊥ = eqb-false (length (items i)) 2 q in omega arith)

-- Item by item.
abbrev re : Item → Item
re (leaf_item b) = leaf_item b
re (node_item k i) = node_item (kind_for k (items i)) (relabel i)

items-relabel : (f : Forest) → items (relabel f) ≡ map re (items f)
items-relabel nil = refl
items-relabel (leaf b f) = ap (λ l. leaf_item b ∷ l) (items-relabel f)
items-relabel (node k i f) = ap (λ l. node_item (kind_for k (items i)) (relabel i) ∷ l) (items-relabel f)

same_many : (f : Forest) → length (items (relabel f)) ≡ length (items f)
same_many f = ap length (items-relabel f) ∙ length-map (items f) re

pub relabel-append : (f g : Forest) → relabel (append f g) ≡ append (relabel f) (relabel g)
relabel-append nil g = refl
relabel-append (leaf b f) g = ap (leaf b) (relabel-append f g)
relabel-append (node k i f) g = ap (node (kind_for k (items i)) (relabel i)) (relabel-append f g)

relabel-rev : (f : Forest) → relabel (rev f) ≡ rev (relabel f)
relabel-rev nil = refl
relabel-rev (leaf b f) = relabel-append (rev f) (leaf b nil) ∙ ap (λ g. append g (leaf b nil)) (relabel-rev f)
relabel-rev (node k i f) = relabel-append (rev f) (node k i nil) ∙ ap (λ g. append g (node (kind_for k (items i)) (relabel i) nil)) (relabel-rev f)

-- A turn of the items is one of them relabelled.
turned : (i j : Forest) → Rearranged (items i) (items j) → Rearranged (items (relabel i)) (items (relabel j))
turned i j p = rw (items-relabel i, items-relabel j) (perm_map re p)

turn_relabel : (k : Kind) (i j : Forest) → Turn k i j → Turn (kind_for k (items i)) (relabel i) (relabel j)
turn_relabel P i j t = turned i j t
turn_relabel C i j t = go (eqb (length (items i)) 2) t
  where
    go : (b : Bool) → (j ≡ i) ⊎ (j ≡ rev i) → Turn (cond b P C) (relabel i) (relabel j)
    go true t = turned i j (turn_perm C i j t)
    go false (inl e) = inl (ap relabel e)
    go false (inr e) = inr (ap relabel e ∙ relabel-rev i)

-- And each turn of them relabelled is such a one: with two items, as they are or reversed is any sequence.
record Two (i : Forest) : Type 0 where
  head : Item
  last : Item
  is : items i ≡ head ∷ (last ∷ [])

two_items : (i : Forest) → length (items i) ≡ 2 → Two i
two_items i n = go (items i) refl n
  where
    go : (ts : List Item) → items i ≡ ts → length ts ≡ 2 → Two i
    go [] e n = absurd (omega arith)
    go (t ∷ []) e n = absurd (omega arith)
    go (t ∷ (u ∷ [])) e n = record { head = t; last = u; is = e }
    go (t ∷ (u ∷ (v ∷ ts))) e n = absurd (omega arith)

two_turns : (i j : Forest) → length (items i) ≡ 2 → Rearranged (items i) (items j) → Turn C i j
two_turns i j n p = let r = two_items i n in go r.head r.last r.is (two_picks r.head r.last (subst (λ l. Rearranged l (items j)) r.is p))
  where
    by_items : (g : Forest) → items j ≡ items g → j ≡ g
    by_items g e = sym (forest_items j) ∙ ap forest e ∙ forest_items g

    go : (t u : Item) → items i ≡ t ∷ (u ∷ []) → (items j ≡ t ∷ (u ∷ [])) ⊎ (items j ≡ u ∷ (t ∷ [])) → Turn C i j
    go t u e (inl h) = inl (by_items i (h ∙ sym e))
    go t u e (inr h) = inr (by_items (rev i) (h ∙ sym (items-rev i ∙ ap reverse e)))

record Unturned (k : Kind) (i j : Forest) : Type 0 where
  from : Forest
  is : j ≡ relabel from
  turn : Turn k i from

unturned : (i j : Forest) → Rearranged (items (relabel i)) (items j) → Unturned P i j
unturned i j p =
    let m = perm_unmap re (items i) (items-relabel i) p in
    let e : items (forest m.0) ≡ m.0 = items_forest m.0 in
    record {
      from = forest m.0;
      is = sym (forest_items j) ∙ ap forest (m.2 ∙ ap (map re) (sym e) ∙ sym (items-relabel (forest m.0))) ∙ forest_items (relabel (forest m.0));
      turn = subst (Rearranged (items i)) (sym e) m.1;
    }

turn_unrelabel : (k : Kind) (i j : Forest) → Turn (kind_for k (items i)) (relabel i) j → Unturned k i j
turn_unrelabel P i j t = unturned i j t
turn_unrelabel C i j t = go (eqb (length (items i)) 2) refl t
  where
    either : (j ≡ relabel i) ⊎ (j ≡ rev (relabel i)) → Unturned C i j
    either (inl e) = record { from = i; is = e; turn = inl refl }
    either (inr e) = record { from = rev i; is = e ∙ sym (relabel-rev i); turn = inr refl }

    go : (b : Bool) → eqb (length (items i)) 2 ≡ b → Turn (cond b P C) (relabel i) j → Unturned C i j
    go true q t = let r = unturned i j t in record { from = r.from; is = r.is; turn = two_turns i r.from (eqb-true (length (items i)) 2 q) r.turn }
    go false q t = either t

-- The same orders.
to : {f : Forest} {xs : List ℕ} → Consistent f xs → Consistent (relabel f) xs
to no_items = no_items
to (leaf_first s) = leaf_first (to s)
to (node_first {k = k} {i = i} {j = j} t s r e) = node_first (turn_relabel k i j t) (to s) (to r) e

from : {g : Forest} {xs : List ℕ} → Consistent g xs → (f : Forest) → g ≡ relabel f → Consistent f xs
from no_items nil q = no_items
from no_items (leaf b f) q = absurd (let z : ◌≡◌ {A = ℕ} 0 1 = cc in omega arith)
from no_items (node k i f) q = absurd (let z : ◌≡◌ {A = ℕ} 0 1 = cc in omega arith)
from (leaf_first s) nil q = absurd (let z : ◌≡◌ {A = ℕ} 0 1 = cc in omega arith)
from (leaf_first {b = b} {f = g} {xs = xs} s) (leaf c f) q =
    let e : b ≡ c = cc in
    let h : g ≡ relabel f = cc in
    subst (λ d. Consistent (leaf d f) (b ∷ xs)) e (leaf_first (from s f h))
from (leaf_first s) (node k i f) q = absurd (let z : ◌≡◌ {A = ℕ} 0 1 = cc in omega arith)
from (node_first t s r e) nil q = absurd (let z : ◌≡◌ {A = ℕ} 0 1 = cc in omega arith)
from (node_first t s r e) (leaf b f) q = absurd (let z : ◌≡◌ {A = ℕ} 0 1 = cc in omega arith)
from (node_first {k = l} {i = h} {j = j} {f = g} t s r e) (node k i f) q =
    let a : l ≡ kind_for k (items i) = cc in
    let b : h ≡ relabel i = cc in
    let c : g ≡ relabel f = cc in
    let u = turn_unrelabel k i j (subst₂ (λ m n. Turn m n j) a b t) in
    node_first {j = u.from} u.turn (from s u.from u.is) (from r f c) e

pub relabel_orders : (t : Forest) (ord : List ℕ) → Allowed (relabel t) ord ↔ Allowed t ord
relabel_orders t ord = (
  (λ a. record { after = a.after; one_first = a.one_first; order = from a.order t refl }),
  (λ a. record { after = a.after; one_first = a.one_first; order = to a.order }),
)

-- The same leaves from left to right.
relabel-frontier : (f : Forest) → frontier (relabel f) ≡ frontier f
relabel-frontier nil = refl
relabel-frontier (leaf b f) = ap (λ l. b ∷ l) (relabel-frontier f)
relabel-frontier (node k i f) = ap₂ ◌++◌ (relabel-frontier i) (relabel-frontier f)

-- The same first leaves, so what is sorted stays sorted.
first-relabel : (f : Forest) → first (relabel f) ≡ first f
first-relabel nil = refl
first-relabel (leaf b f) = refl
first-relabel (node k i f) = first-relabel i

first_re : (t : Item) → first_of (re t) ≡ first_of t
first_re (leaf_item b) = refl
first_re (node_item k i) = first-relabel i

rises_re : (m : ℕ) (ts : List Item) → Rises m ts → Rises m (map re ts)
rises_re m [] h = tt
rises_re m (t ∷ ts) h = rw (first_re t) (h.0, rises_re (first_of t) ts h.1)

rising_re : (ts : List Item) → Rising ts → Rising (map re ts)
rising_re [] h = tt
rising_re (t ∷ ts) h = rw (first_re t) (rises_re (first_of t) ts h)

two_rising : (i : Forest) → length (items i) ≡ 2 → Sorted C i → Rising (items i)
two_rising i n h =
    let r = two_items i n in
    let e : i ≡ forest (r.head ∷ (r.last ∷ [])) = sym (forest_items i) ∙ ap forest r.is in
    rw r.is (ends r.head r.last (subst (λ g. first g < first (rev g)) e h), tt)
  where
    ends : (t u : Item) → first (put t (put u nil)) < first (rev (put t (put u nil))) → first_of t < first_of u
    ends (leaf_item a) (leaf_item b) l = l
    ends (leaf_item a) (node_item k i) l = l
    ends (node_item k i) (leaf_item b) l = l
    ends (node_item k i) (node_item l j) m = m

sorted_relabel : (k : Kind) (i : Forest) → Sorted k i → Sorted (kind_for k (items i)) (relabel i)
sorted_relabel P i h = rw (items-relabel i) (rising_re (items i) h)
sorted_relabel C i h =
    cond_cases (eqb (length (items i)) 2) P C (λ k. Sorted k (relabel i))
    (λ q. rw (items-relabel i) (rising_re (items i) (two_rising i (eqb-true (length (items i)) 2 q) h)))
    (λ q. rw (first-relabel i, ← (relabel-rev i), first-relabel (rev i)) h)

relabel_canonical : (f : Forest) → Forked f → Every Sorted f → Canonical (relabel f)
relabel_canonical nil g h = tt
relabel_canonical (leaf b f) g h = relabel_canonical f g h
relabel_canonical (node k i f) g h =
    (((kind_enough k i (relabel i) g.0.0 (same_many i), sorted_relabel k i h.0.0), relabel_canonical i g.0.1 h.0.1), relabel_canonical f g.1 h.1)

relabel_single : (f : Forest) → Single (items f) → Single (items (relabel f))
relabel_single nil h = tt
relabel_single (leaf b nil) h = tt
relabel_single (node k i nil) h = tt
relabel_single (leaf b (leaf _ _)) h = elim h [ ]
relabel_single (leaf b (node _ _ _)) h = elim h [ ]
relabel_single (node k i (leaf _ _)) h = elim h [ ]
relabel_single (node k i (node _ _ _)) h = elim h [ ]

-- The tree of an accepted text, relabelled, is in form.
pub relabel_form : (n : ℕ) (t : Forest) → Shaped n t → Every Sorted t → InForm n (relabel t)
relabel_form n t f h = record { single = relabel_single t f.single; canonical = relabel_canonical t f.forked h; all_leaves = rw (relabel-frontier t) f.all_leaves }

-- What has no C-node with three neighbours stays as it is, and nothing else does. Trees in form have none.
pub relabel-same : (t : Forest) → Every Enough t → relabel t ≡ t
relabel-same nil w = refl
relabel-same (leaf b f) w = ap (leaf b) (relabel-same f w)
relabel-same (node k i f) w = ap₂ (λ h g. node h g (relabel f)) (same_kind k i w.0.0) (relabel-same i w.0.1) ∙ ap (node k i) (relabel-same f w.1)
  where
    same_kind : (k : Kind) (i : Forest) → Enough k i → kind_for k (items i) ≡ k
    same_kind P i h = refl
    same_kind C i h = cond_cases (eqb (length (items i)) 2) P C (λ k. k ≡ C) (λ q. let m = eqb-true (length (items i)) 2 q in absurd (omega arith)) (λ q. refl)

relabel_enough : (t : Forest) → Forked t → Every Enough (relabel t)
relabel_enough nil g = tt
relabel_enough (leaf b f) g = relabel_enough f g
relabel_enough (node k i f) g = ((kind_enough k i (relabel i) g.0.0 (same_many i), relabel_enough i g.0.1), relabel_enough f g.1)

pub relabel-stays : (t : Forest) → Forked t → (relabel t ≡ t) ↔ Every Enough t
relabel-stays t g = ((λ e. subst (Every Enough) e (relabel_enough t g)), relabel-same t)

pub enough_forked : (t : Forest) → Every Enough t → Forked t
enough_forked = every_map Enough Fork enough_two

pub form_enough : {n : ℕ} {t : Forest} → InForm n t → Every Enough t
form_enough {t = t} f = every_map Node-canonical Enough (λ k i q. q.0) t f.canonical
