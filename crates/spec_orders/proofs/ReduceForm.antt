-- Reducing keeps the published form.
-- On the way "not larger" stands for "smaller" in the form; where no leaf stands twice, that is the same.
use mathlib.Core.Path.{◌∙◌, ◌≡◌, ap, refl, subst, sym}
use mathlib.Core.Bool.{Bool, cond, false, true}
use mathlib.Core.Option.{Option, some-injective, none, some}
use mathlib.Core.List.{List, [], ◌++◌, ◌∷◌, map, reverse}
use Prim.Native.Nat.{◌+◌, ◌≤◌, min, suc, ℕ}
use native.Mathlib.Omega.{arith}
use borrow.Author.Tests.{ltb-true}
use lib.Dec.{ltb}
use lib.ListN.{length, length-append, length-map}
use Rattle.spec_orders.specs.Lists.{All, Distinct}
use Rattle.spec_orders.specs.CircularOrder.{Restriction, Inside, Outside}
use Rattle.spec_orders.specs.Tree.{Kind, P, C, Forest, nil, leaf, node, Item, leaf_item, node_item, items, append, rev, frontier}
use Rattle.spec_orders.specs.Form.{first, first_of, Rises, Rising, Sorted, Every, fewest, Enough, Canonical, Single}
use Rattle.spec_orders.specs.TreeText.{TwoItems, Forked}
use Rattle.spec_orders.specs.Reduce.{put, one, put_sorted, orient, pack, Class, empty, full, partial, class, is, Part, whole, only, every, ◌⊕◌, reversed, or_else, c_node, up, down, middle, linear_partial, gather, among, linear_node, reduced_node, settled, node_part, parts, reduce}
use Rattle.spec_orders.proofs.Rearranged.{perm_all, perm_length, perm_distinct}
use Rattle.spec_orders.proofs.Members.{distinct_left, distinct_right, perm_reverse}
use Rattle.spec_orders.proofs.Laws.{items-append, rev_perm, leaves_of, flat, frontier-flat, Every-of, every_all, all_every, every_perm, every_append, every_map, Node-canonical, enough_two, canonical_forked}
use Rattle.spec_orders.proofs.First.{two_nonempty, Starts, all_start}
use Rattle.spec_orders.proofs.Parts.{items-put, forked_nonempty}
use Rattle.spec_orders.proofs.PutSorted.{put_sorted_perm, orient_perm, Climbs, Climbing, climbing_put_sorted, orient_ends, head_differs, ends_differ}
use Rattle.spec_orders.proofs.Fits.{Mark, mark, Of, Single-item, leaf_pure, Fit}
use Rattle.spec_orders.proofs.Classes.{items-whole, only_of, keep_only}
use Rattle.spec_orders.proofs.Reduced.{single_gather, some_other}
use Rattle.spec_orders.proofs.ReduceOrders.{whole_parts, parts-length, parts_fit, reduce-frontier}

-- A node's items do not fall; a C-node's first leaf is not above that of its last item.
abbrev pub Sloped : Kind → Forest → Type 0
Sloped P i = Climbing (items i)
Sloped C i = first i ≤ first (rev i)

abbrev pub Node-formed : Kind → Forest → Type 0
Node-formed k i = Enough k i × Sloped k i

abbrev pub Formed : Forest → Type 0
Formed f = Every Node-formed f

abbrev pub Formed-of : Item → Type 0
Formed-of = Every-of Node-formed

formed_put : (t : Item) (f : Forest) → Formed-of t → Formed f → Formed (put t f)
formed_put t f h k = all_every Node-formed (put t f) (subst (All Formed-of) (sym (items-put t f)) (h, every_all Node-formed f k))

-- An answer has n or more items, in form; or it is impossible.
abbrev AtLeast : ℕ → Option Forest → Type 0
AtLeast n none = Unit {0}
AtLeast n (some f) = Formed f × (n ≤ length (items f))

at_least_less : (m n : ℕ) (o : Option Forest) → n ≤ m → AtLeast m o → AtLeast n o
at_least_less m n none l h = tt
at_least_less m n (some f) l h = (h.0, omega arith)

at_least_⊕ : (j m n : ℕ) → j ≤ m + n → (o p : Option Forest) → AtLeast m o → AtLeast n p → AtLeast j (o ⊕ p)
at_least_⊕ j m n l (some f) (some g) h k = (every_append Node-formed f g h.0 k.0, omega (arith, ap length (items-append f g), length-append (items f) (items g)))
at_least_⊕ j m n l (some f) none h k = tt
at_least_⊕ j m n l none p h k = tt

at_least-rev : (n : ℕ) (o : Option Forest) → AtLeast n o → AtLeast n (reversed o)
at_least-rev n (some f) h = (every_perm Node-formed f (rev f) (rev_perm f) h.0, omega (arith, perm_length (rev_perm f)))
at_least-rev n none h = tt

at_least_else : (n : ℕ) (o p : Option Forest) → AtLeast n o → AtLeast n p → AtLeast n (or_else o p)
at_least_else n (some f) p h k = h
at_least_else n none p h k = k

at_least_C : (n : ℕ) (o : Option Forest) → fewest C ≤ n → AtLeast n o → AtLeast 1 (c_node o)
at_least_C n (some f) l h = ((((omega (arith, perm_length (orient_perm f)), orient_ends f), every_perm Node-formed f (orient f) (orient_perm f) h.0), tt), omega arith)
at_least_C n none l h = tt

at_least-pack : (f : Forest) → Climbing (items f) → Formed f → AtLeast (min 1 (length (items f))) (some (pack f))
at_least-pack f c h = go (ltb 1 (length (items f))) refl
  where
    go : (b : Bool) → ltb 1 (length (items f)) ≡ b → AtLeast (min 1 (length (items f))) (some (cond b (node P f nil) f))
    go true q = ((((ltb-true 1 (length (items f)) q, c), h), tt), omega arith)
    go false q = (h, omega arith)

-- Parts.
abbrev pieces : Class → ℕ
pieces empty = 1
pieces full = 1
pieces partial = 2

record Made (p : Part) : Type 0 where
  item_made : Formed-of p.item
  linear_made : AtLeast (pieces p.sort) p.linear
  reduced_made : AtLeast 1 p.reduced

pieces_one : (c : Class) → 1 ≤ pieces c
pieces_one empty = omega arith
pieces_one full = omega arith
pieces_one partial = omega arith

linear_one : (p : Part) → Made p → AtLeast 1 p.linear
linear_one p m = at_least_less (pieces p.sort) 1 p.linear (pieces_one p.sort) m.linear_made

two_pieces : (p : Part) → Made p → p.sort ≡ partial → AtLeast 2 p.linear
two_pieces p m e = subst (λ c. AtLeast (pieces c) p.linear) e m.linear_made

whole_length : (ps : List Part) → length (items (whole ps)) ≡ length ps
whole_length ps = ap length (items-whole ps) ∙ length-map ps (λ p. p.item)

whole_formed : (ps : List Part) → All Made ps → Formed (whole ps)
whole_formed [] m = tt
whole_formed (p ∷ ps) m = formed_put p.item (whole ps) m.0.item_made (whole_formed ps m.1)

whole_at_least : (ps : List Part) → All Made ps → AtLeast (length ps) (some (whole ps))
whole_at_least ps m = (whole_formed ps m, omega (arith, whole_length ps))

one_at_least : (p : Part) → Made p → AtLeast 1 (some (one p.item))
one_at_least p m = whole_at_least (p ∷ []) (m, tt)

up_at_least : (ps : List Part) → All Made ps → AtLeast (length ps) (up ps)
up_at_least [] m = (tt, omega arith)
up_at_least (p ∷ ps) m = go (is empty p.sort) (up_at_least ps m.1)
  where
    rest : (b : Bool) → AtLeast (length ps) (cond b (some (whole ps)) none)
    rest true = whole_at_least ps m.1
    rest false = tt

    go : (b : Bool) → AtLeast (length ps) (up ps) → AtLeast (suc (length ps)) (cond b (some (one p.item) ⊕ up ps) (p.linear ⊕ cond (every full ps) (some (whole ps)) none))
    go true h = at_least_⊕ (suc (length ps)) 1 (length ps) (omega arith) (some (one p.item)) (up ps) (one_at_least p m.0) h
    go false h = at_least_⊕ (suc (length ps)) 1 (length ps) (omega arith) p.linear (cond (every full ps) (some (whole ps)) none) (linear_one p m.0) (rest (every full ps))

up_back_at_least : (ps : List Part) → All Made ps → AtLeast (length ps) (up (reverse ps))
up_back_at_least ps m = at_least_less (length (reverse ps)) (length ps) (up (reverse ps)) (omega (arith, perm_length (perm_reverse ps))) (up_at_least (reverse ps) (perm_all Made (perm_reverse ps) m))

middle_at_least : (ps : List Part) → All Made ps → AtLeast (length ps) (middle ps)
middle_at_least [] m = (tt, omega arith)
middle_at_least (p ∷ ps) m = go (is empty p.sort) (middle_at_least ps m.1)
  where
    past : (b : Bool) → AtLeast (suc (length ps)) (cond b (p.reduced ⊕ some (whole ps)) (p.linear ⊕ down ps))
    past true = at_least_⊕ (suc (length ps)) 1 (length ps) (omega arith) p.reduced (some (whole ps)) m.0.reduced_made (whole_at_least ps m.1)
    past false = at_least_⊕ (suc (length ps)) 1 (length ps) (omega arith) p.linear (down ps) (linear_one p m.0) (at_least-rev (length ps) (up (reverse ps)) (up_back_at_least ps m.1))

    go : (b : Bool) → AtLeast (length ps) (middle ps) → AtLeast (suc (length ps)) (cond b (some (one p.item) ⊕ middle ps) (cond (every empty ps) (p.reduced ⊕ some (whole ps)) (p.linear ⊕ down ps)))
    go true h = at_least_⊕ (suc (length ps)) 1 (length ps) (omega arith) (some (one p.item)) (middle ps) (one_at_least p m.0) h
    go false h = past (every empty ps)

-- The items of one class.
lower : (m n : ℕ) (ts : List Item) → m ≤ n → Climbs n ts → Climbs m ts
lower m n [] l h = tt
lower m n (t ∷ ts) l h = (omega arith, h.1)

climbs_only : (c : Class) (m : ℕ) (ps : List Part) → Climbs m (map (λ p. p.item) ps) → Climbs m (map (λ p. p.item) (only c ps))
climbs_only c m [] h = tt
climbs_only c m (p ∷ ps) h = go (is c p.sort) (climbs_only c (first_of p.item) ps h.1)
  where
    go : (b : Bool) → Climbs (first_of p.item) (map (λ p. p.item) (only c ps)) → Climbs m (map (λ p. p.item) (cond b (p ∷ only c ps) (only c ps)))
    go true r = (h.0, r)
    go false r = lower m (first_of p.item) (map (λ p. p.item) (only c ps)) h.0 r

climbs_climbing : (m : ℕ) (ts : List Item) → Climbs m ts → Climbing ts
climbs_climbing m [] h = tt
climbs_climbing m (t ∷ ts) h = h.1

climbing_only : (c : Class) (ps : List Part) → Climbing (items (whole ps)) → Climbing (items (whole (only c ps)))
climbing_only c [] h = tt
climbing_only c (p ∷ ps) h =
    subst Climbing (sym (items-whole (only c (p ∷ ps)))) (go (is c p.sort) (climbs_only c (first_of p.item) ps (subst Climbing (items-whole (p ∷ ps)) h)))
  where
    go : (b : Bool) → Climbs (first_of p.item) (map (λ p. p.item) (only c ps)) → Climbing (map (λ p. p.item) (cond b (p ∷ only c ps) (only c ps)))
    go true r = r
    go false r = climbs_climbing (first_of p.item) (map (λ p. p.item) (only c ps)) r

pack-only : (c : Class) (ps : List Part) → Climbing (items (whole ps)) → All Made ps → AtLeast (min 1 (length (only c ps))) (some (pack (whole (only c ps))))
pack-only c ps h m =
    subst (λ n. AtLeast (min 1 n) (some (pack (whole (only c ps))))) (whole_length (only c ps))
    (at_least-pack (whole (only c ps)) (climbing_only c ps h) (whole_formed (only c ps) (keep_only Made c ps m)))

linear_at_least : (k : Kind) (ps : List Part) → Sloped k (whole ps) → fewest k ≤ length ps → All Made ps → 1 ≤ length (only partial ps ++ only full ps) → 1 ≤ length (only partial ps ++ only empty ps) → AtLeast 2 (linear_node k ps)
linear_at_least C ps h n m a b = at_least_less (length ps) 2 (linear_node C ps) (omega arith) (at_least_else (length ps) (up ps) (up (reverse ps)) (up_at_least ps m) (up_back_at_least ps m))
linear_at_least P ps h n m a b = go (only partial ps) (keep_only Made partial ps m) (only_of partial ps) (omega (arith, length-append (only partial ps) (only full ps))) (omega (arith, length-append (only partial ps) (only empty ps)))
  where
    e : ℕ
    e = length (only empty ps)

    f : ℕ
    f = length (only full ps)

    all : (j : ℕ) (o : Option Forest) → AtLeast j o → 2 ≤ min 1 e + (j + min 1 f) → AtLeast 2 (some (pack (whole (only empty ps))) ⊕ (o ⊕ some (pack (whole (only full ps)))))
    all j o g l =
        at_least_⊕ 2 (min 1 e) (j + min 1 f) l (some (pack (whole (only empty ps)))) (o ⊕ some (pack (whole (only full ps)))) (pack-only empty ps h m)
        (at_least_⊕ (j + min 1 f) j (min 1 f) (omega arith) o (some (pack (whole (only full ps)))) g (pack-only full ps h m))

    go : (M : List Part) → All Made M → Of partial M → 1 ≤ length M + f → 1 ≤ e + length M → AtLeast 2 (some (pack (whole (only empty ps))) ⊕ (linear_partial M ⊕ some (pack (whole (only full ps)))))
    go [] q o x y = all 0 (some nil) (tt, omega arith) (omega arith)
    go (p ∷ []) q o x y = all 2 p.linear (two_pieces p q.0 o.0) (omega arith)
    go (p ∷ (p' ∷ M)) q o x y = all 2 none tt (omega arith)

gather_at_least : (M G : List Part) → All Made M → Of partial M → 1 ≤ length (M ++ G) → AtLeast (min 1 (length G)) (some (pack (whole G))) → AtLeast 1 (gather M G)
gather_at_least [] G q o n g = (g.0, omega arith)
gather_at_least (p ∷ []) [] q o n g = q.0.reduced_made
gather_at_least (p ∷ []) (x ∷ G) q o n g =
    at_least_C 3 (some (pack (whole (x ∷ G))) ⊕ reversed p.linear) (omega arith)
    (at_least_⊕ 3 1 2 (omega arith) (some (pack (whole (x ∷ G)))) (reversed p.linear) (g.0, omega arith) (at_least-rev 2 p.linear (two_pieces p q.0 o.0)))
gather_at_least (p ∷ (p' ∷ [])) G q o n g =
    at_least_C 4 (p.linear ⊕ (some (pack (whole G)) ⊕ reversed p'.linear)) (omega arith)
    (at_least_⊕ 4 2 2 (omega arith) p.linear (some (pack (whole G)) ⊕ reversed p'.linear) (two_pieces p q.0 o.0)
    (at_least_⊕ 2 0 2 (omega arith) (some (pack (whole G))) (reversed p'.linear) (g.0, omega arith) (at_least-rev 2 p'.linear (two_pieces p' q.1.0 o.1.0))))
gather_at_least (p ∷ (p' ∷ (p'' ∷ M))) G q o n g = tt

among_at_least : (e : Forest) (o : Option Forest) → Climbing (items e) → Formed e → Single-item o → AtLeast 1 o → AtLeast 1 (among e o)
among_at_least e none c h l g = tt
among_at_least e (some t) c h (u, q) g = subst (λ z. AtLeast 1 (some (pack (put_sorted z e)))) (sym q) (put_in (subst Formed q g.0))
  where
    put_in : Formed (one u) → AtLeast 1 (some (pack (put_sorted (one u) e)))
    put_in g =
        let r = at_least-pack (put_sorted (one u) e) (climbing_put_sorted u e c) (every_perm Node-formed (append (one u) e) (put_sorted (one u) e) (put_sorted_perm (one u) e) (every_append Node-formed (one u) e g h)) in
        (r.0, omega (arith, perm_length (put_sorted_perm (one u) e), ap length (items-append (one u) e), length-append (items (one u)) (items e), ap length (items-put u nil)))

reduced_at_least : (k : Kind) (ps : List Part) → Sloped k (whole ps) → fewest k ≤ length ps → All Made ps → 1 ≤ length (only partial ps ++ only full ps) → Single-item (gather (only partial ps) (only full ps)) → AtLeast 1 (reduced_node k ps)
reduced_at_least P ps h n m a o =
    among_at_least (whole (only empty ps)) (gather (only partial ps) (only full ps)) (climbing_only empty ps h) (whole_formed (only empty ps) (keep_only Made empty ps m)) o
    (gather_at_least (only partial ps) (only full ps) (keep_only Made partial ps m) (only_of partial ps) a (pack-only full ps h m))
reduced_at_least C ps h n m a o = at_least_C (length ps) (middle ps) n (middle_at_least ps m)

settled_made : (c : Class) (t : Item) → Formed-of t → pieces c ≡ 1 → Made (settled c t)
settled_made c t h e =
    let g : AtLeast 1 (some (one t)) = (formed_put t nil h tt, omega (arith, ap length (items-put t nil))) in
    record { item_made = h; linear_made = subst (λ n. AtLeast n (some (one t))) (sym e) g; reduced_made = g }

-- The parts of a tree in form.
node_made : (S : Restriction) → (c : Class) (k : Kind) (i : Forest) → Mark S (frontier i) c → Formed-of (node_item k i) → All (Fit S) (parts S i) → All Made (parts S i) → Made (node_part c k i (parts S i))
node_made S empty k i m h f d = settled_made empty (node_item k i) h refl
node_made S full k i m h f d = settled_made full (node_item k i) h refl
node_made S partial k i m h f d =
    let e = whole_parts S i in
    let u : (Outside S (frontier (whole (parts S i))) → ⊥) × (Inside S (frontier (whole (parts S i))) → ⊥) = subst (λ g. (Outside S (frontier g) → ⊥) × (Inside S (frontier g) → ⊥)) (sym e) m in
    let s : Sloped k (whole (parts S i)) = subst (Sloped k) (sym e) h.0.1 in
    let a = some_other S false (parts S i) f u.0 in
    let n : fewest k ≤ length (parts S i) = omega (arith, parts-length S i, h.0.0) in
    record {
      item_made = h;
      linear_made = linear_at_least k (parts S i) s n d a (some_other S true (parts S i) f u.1);
      reduced_made = reduced_at_least k (parts S i) s n d a (single_gather S (only partial (parts S i)) (only full (parts S i)) (keep_only (Fit S) partial (parts S i) f) a);
    }

parts_made : (S : Restriction) → (f : Forest) → Forked f → Formed f → All Made (parts S f)
parts_made S nil k h = tt
parts_made S (leaf b f) k h = (leaf_made (class S (b ∷ [])) (mark S (b ∷ []) tt), parts_made S f k h)
  where
    leaf_made : (c : Class) → Mark S (b ∷ []) c → Made (settled c (leaf_item b))
    leaf_made empty m = settled_made empty (leaf_item b) tt refl
    leaf_made full m = settled_made full (leaf_item b) tt refl
    leaf_made partial m = absurd (leaf_pure S b m)
parts_made S (node k i f) g h = (
  node_made S (class S (frontier i)) k i (mark S (frontier i) (forked_nonempty i g.0.1 (two_nonempty (items i) g.0.0))) h.0 (parts_fit S i g.0.1) (parts_made S i g.0.1 h.0.1),
  parts_made S f g.1 h.1,
)

reduce_formed : (S : Restriction) → (t t' : Forest) → Single (items t) → Forked t → Formed t → reduce S t ≡ some t' → Formed t'
unfolding reduce
reduce_formed S (leaf b (leaf _ _)) t' o k h e = elim o [ ]
reduce_formed S (leaf b (node _ _ _)) t' o k h e = elim o [ ]
reduce_formed S (node κ i (leaf _ _)) t' o k h e = elim o [ ]
reduce_formed S (node κ i (node _ _ _)) t' o k h e = elim o [ ]
reduce_formed S nil t' o k h e = subst Formed (some-injective nil t' e) tt
reduce_formed S (leaf b nil) t' o k h e = subst Formed (some-injective (leaf b nil) t' e) tt
reduce_formed S (node κ i nil) t' o k h e = (subst (AtLeast 1) e (parts_made S (node κ i nil) k h).0.reduced_made).0

-- Where no leaf stands twice, "not larger" is "smaller".
strict_rise : (t : Item) (ts : List Item) → All Starts (t ∷ ts) → Distinct (flat (t ∷ ts)) → Climbs (first_of t) ts → Rises (first_of t) ts
strict_rise t [] g d h = tt
strict_rise t (u ∷ ts) g d h =
    let n = (head_differs t (u ∷ ts) g d).0 in
    (omega arith, strict_rise u ts g.1 (distinct_right (leaves_of t) (flat (u ∷ ts)) d) h.1)

strict_rising : (ts : List Item) → All Starts ts → Distinct (flat ts) → Climbing ts → Rising ts
strict_rising [] g d h = tt
strict_rising (t ∷ ts) g d h = strict_rise t ts g d h

strict_sorted : (k : Kind) (i : Forest) → TwoItems (items i) → Forked i → Distinct (frontier i) → Sloped k i → Sorted k i
strict_sorted P i n c d h = strict_rising (items i) (all_start i c) (subst Distinct (frontier-flat i) d) h
strict_sorted C i n c d h = let u = ends_differ i n c d in omega arith

slope : (k : Kind) (i : Forest) → Sorted k i → Sloped k i
slope P i h = go (items i) h
  where
    climb : (m : ℕ) (ts : List Item) → Rises m ts → Climbs m ts
    climb m [] h = tt
    climb m (t ∷ ts) h = (omega arith, climb (first_of t) ts h.1)

    go : (ts : List Item) → Rising ts → Climbing ts
    go [] h = tt
    go (t ∷ ts) h = climb (first_of t) ts h
slope C i h = omega arith

pub canonical_formed : (f : Forest) → Canonical f → Formed f
canonical_formed = every_map Node-canonical Node-formed (λ k i q. (q.0, slope k i q.1))

pub formed_canonical : (f : Forest) → Formed f → Distinct (frontier f) → Canonical f
formed_canonical nil h d = tt
formed_canonical (leaf b f) h d = formed_canonical f h d.1
formed_canonical (node k i f) h d =
    let di = distinct_left (frontier i) (frontier f) d in
    let c = formed_canonical i h.0.1 di in
    let n = h.0.0.0 in
    (((n, strict_sorted k i (enough_two k i n) (canonical_forked i c) di h.0.0.1), c), formed_canonical f h.1 (distinct_right (frontier i) (frontier f) d))

pub reduce_canonical : (S : Restriction) (t t' : Forest) → Single (items t) → Canonical t → reduce S t ≡ some t' → Distinct (frontier t) → Canonical t'
reduce_canonical S t t' l c e d =
    formed_canonical t' (reduce_formed S t t' l (canonical_forked t c) (canonical_formed t c) e) (perm_distinct (reduce-frontier S t t' l (canonical_forked t c) e) d)
