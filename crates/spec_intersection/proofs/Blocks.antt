-- A list in which the leaves of each item stand together is cut into the items' blocks; neighbours that stand together fix the sequence of the
-- blocks.
use mathlib.Core.Path.{◌∙◌, ◌≡◌, ap, ap₂, refl, subst, sym}
use mathlib.Core.Logic.{◌≢◌, ◌⊎◌, inl, inr}
use mathlib.Core.List.{List, [], ◌++◌, ◌∷◌, append_assoc, reverse, reverse-append, reverse-cons}
use Prim.Native.Nat.{◌<◌, suc, zero, ℕ}
use native.Mathlib.Omega.{arith}
use lib.ListN.{length, length-append}
use Rattle.spec_orders.specs.Lists.{All, Distinct, In, Pick, here, there, Rearranged, done, next}
use Rattle.spec_orders.specs.Tree.{Forest, nil, leaf, node, Item, leaf_item, node_item, items, frontier}
use Rattle.spec_orders.proofs.ListLaws.{all_map}
use Rattle.spec_orders.proofs.Rearranged.{perm_refl, perm_trans, perm_sym, pick_all, perm_all, perm_append, perm_swap, pick_length, perm_length, perm_distinct, nil_perm, perm_uncons}
use Rattle.spec_orders.proofs.Members.{NonEmpty, nonempty_left, in_left, in_right, in_append, all_in, in_all, perm_in, perm_nonempty, distinct_right, apart, perm_reverse}
use Rattle.spec_orders.proofs.Laws.{leaves_of, flat, perm_flat}
use Rattle.spec_intersection.specs.Intersection.{pairs_after, item_pairs}
use Rattle.spec_intersection.proofs.Lists.{Within, all_both, perm_cancel, longer_in, Overlap}
use Rattle.spec_intersection.proofs.Pieces.{Fair, in_flat}
use Rattle.spec_intersection.proofs.Runs.{Run, run_perm, run_drop, run_front}

-- One block for each item.
abbrev pub Cut : List Item → List ℕ → Type 0
Cut [] xs = xs ≡ []
Cut (t ∷ ts) xs = (b : List ℕ) × (c : List ℕ) × (xs ≡ b ++ c) × Rearranged (leaves_of t) b × Cut ts c

pub cut_perm : (ts : List Item) (xs : List ℕ) → Cut ts xs → Rearranged (flat ts) xs
cut_perm [] xs e = subst (Rearranged []) (sym e) done
cut_perm (t ∷ ts) xs k = subst (Rearranged (leaves_of t ++ flat ts)) (sym k.2) (perm_append k.3 (cut_perm ts k.1 k.4))

-- The item of a leaf.
record Owner (x : ℕ) (ts : List Item) : Type 0 where
  item : Item
  rest : List Item
  picked : Pick item ts rest
  has : In x (leaves_of item)

owner : (x : ℕ) (ts : List Item) → In x (flat ts) → Owner x ts
owner x [] h = absurd h
owner x (t ∷ ts) h = go (in_append x (leaves_of t) (flat ts) h) (owner x ts)
  where
    go : In x (leaves_of t) ⊎ In x (flat ts) → (In x (flat ts) → Owner x ts) → Owner x (t ∷ ts)
    go (inl i) r = record { item = t; rest = ts; picked = here; has = i }
    go (inr i) r = let o = r i in record { item = o.item; rest = t ∷ o.rest; picked = there o.picked; has = o.has }

pub record Blocks (ts : List Item) (xs : List ℕ) : Type 0 where
  pub seq : List Item
  pub same : Rearranged ts seq
  pub cut : Cut seq xs

pub to_blocks : (n : ℕ) (ts : List Item) (xs : List ℕ) → length ts ≡ n → All Fair ts → Distinct xs → Rearranged (flat ts) xs → All (λ t. Run (leaves_of t) xs) ts → Blocks ts xs
to_blocks zero [] xs e f d p r = record { seq = []; same = done; cut = nil_perm p }
to_blocks (suc n) [] xs e f d p r = record { seq = []; same = done; cut = nil_perm p }
to_blocks zero (t ∷ ts) xs e f d p r = absurd (omega arith)
to_blocks (suc n) (t ∷ ts) [] e f d p r = absurd (perm_nonempty p (nonempty_left (leaves_of t) (flat ts) f.0))
to_blocks (suc n) (t ∷ ts) (x ∷ xs) e f d p r =
    let o = owner x (t ∷ ts) (perm_in x (perm_sym p) (inl refl)) in
    let u = o.item in
    let us = o.rest in
    let ru = pick_all (λ v. Run (leaves_of v) (x ∷ xs)) o.picked r in
    let fr = run_front (leaves_of u) x xs ru.0 o.has d in
    let b = fr.run in
    let c = fr.right in
    let dx : Distinct (b ++ c) = subst Distinct fr.parts d in
    let pf : Rearranged (flat (t ∷ ts)) (leaves_of u ++ flat us) = perm_flat (next o.picked (perm_refl us)) in
    let pb : Rearranged (b ++ flat us) (b ++ c) = perm_trans (perm_append (perm_sym fr.members) (perm_refl (flat us))) (perm_trans (perm_sym pf) (subst (Rearranged (flat (t ∷ ts))) fr.parts p)) in
    let pc : Rearranged (flat us) c = perm_cancel b pb in
    let rc : All (λ v. Run (leaves_of v) c) us = in_all (λ v. Run (leaves_of v) c) us (λ v i. run_drop (leaves_of v) b c (subst (Run (leaves_of v)) fr.parts (all_in (λ w. Run (leaves_of w) (x ∷ xs)) v us ru.1 i)) (λ y j k. apart y b c dx j (perm_in y pc (in_flat v us y i k)))) in
    let z = to_blocks n us c (omega (arith, pick_length o.picked)) (pick_all Fair o.picked f).1 (distinct_right b c dx) pc rc in
    record { seq = u ∷ z.seq; same = next {m = z.seq} o.picked z.same; cut = (b, c, fr.parts, fr.members, z.cut) }

-- The leaves of each two neighbouring items.
abbrev pub pairs : List Item → List (List ℕ)
pairs [] = []
pairs (t ∷ []) = []
pairs (t ∷ (u ∷ ts)) = (leaves_of t ++ leaves_of u) ∷ pairs (u ∷ ts)

after_pairs : (t : Item) (f : Forest) → pairs_after (leaves_of t) f ≡ pairs (t ∷ items f)
after_pairs t nil = refl
after_pairs t (leaf b f) = ap (λ l. (leaves_of t ++ (b ∷ [])) ∷ l) (after_pairs (leaf_item b) f)
after_pairs t (node k i f) = ap (λ l. (leaves_of t ++ frontier i) ∷ l) (after_pairs (node_item k i) f)

pub item_pairs_are : (f : Forest) → item_pairs f ≡ pairs (items f)
item_pairs_are nil = refl
item_pairs_are (leaf b f) = after_pairs (leaf_item b) f
item_pairs_are (node k i f) = after_pairs (node_item k i) f

-- Two items that share a leaf are one.
share : (us : List Item) (u v : Item) (y : ℕ) → Distinct (flat us) → In u us → In v us → In y (leaves_of u) → In y (leaves_of v) → u ≡ v
share [] u v y d h k i j = absurd h
share (w ∷ us) u v y d (inl e) (inl e') i j = e ∙ sym e'
share (w ∷ us) u v y d (inl e) (inr k) i j = absurd (apart y (leaves_of w) (flat us) d (subst (λ z. In y (leaves_of z)) e i) (in_flat v us y k j))
share (w ∷ us) u v y d (inr h) (inl e) i j = absurd (apart y (leaves_of w) (flat us) d (subst (λ z. In y (leaves_of z)) e j) (in_flat u us y h i))
share (w ∷ us) u v y d (inr h) (inr k) i j = share us u v y (distinct_right (leaves_of w) (flat us) d) h k i j

-- T and U together, T in front: the block after T is of U.
after_front : (T W U b b' c : List ℕ) → Rearranged T b → Rearranged W b' → NonEmpty T → NonEmpty W → NonEmpty U → Distinct (b ++ (b' ++ c)) → Run (T ++ U) (b ++ (b' ++ c)) → Overlap W U
after_front T W U [] b' c p q ht hv hu d r = absurd (perm_nonempty p ht)
after_front T W U (x ∷ b) [] c p q ht hv hu d r = absurd (perm_nonempty q hv)
after_front T W [] (x ∷ b) (y ∷ b') c p q ht hv hu d r = absurd hu
after_front T W (z ∷ U) (x ∷ b) (y ∷ b') c p q ht hv hu d r =
    let f = run_front (T ++ (z ∷ U)) x (b ++ ((y ∷ b') ++ c)) r (in_left x T (z ∷ U) (perm_in x (perm_sym p) (inl refl))) d in
    let n : length (x ∷ b) < length f.run = omega (arith, perm_length p, perm_length f.members, length-append T (z ∷ U)) in
    let i = longer_in f.run f.right (x ∷ b) y (b' ++ c) (sym f.parts) n in
    go (in_append y T (z ∷ U) (perm_in y (perm_sym f.members) i))
  where
    go : In y T ⊎ In y (z ∷ U) → Overlap W (z ∷ U)
    go (inl i) = absurd (apart y (x ∷ b) ((y ∷ b') ++ c) d (perm_in y p i) (inl refl))
    go (inr i) = record { elt = y; in_a = perm_in y (perm_sym q) (inl refl); in_b = i }

second : (t v u : Item) (us : List Item) (xs : List ℕ) → Cut (t ∷ (v ∷ us)) xs → Distinct (flat (t ∷ (v ∷ us))) → All Fair (t ∷ (v ∷ us)) → Run (leaves_of t ++ leaves_of u) xs → In u (v ∷ us) → v ≡ u
second t v u us xs k d f r i =
    let e : xs ≡ k.0 ++ (k.4.0 ++ k.4.1) = k.2 ∙ ap (λ l. k.0 ++ l) k.4.2 in
    let dx = subst Distinct e (perm_distinct (cut_perm (t ∷ (v ∷ us)) xs k) d) in
    let m = after_front (leaves_of t) (leaves_of v) (leaves_of u) k.0 k.4.0 k.4.1 k.3 k.4.3 f.0 f.1.0 (all_in Fair u (v ∷ us) f.1 i) dx (subst (Run (leaves_of t ++ leaves_of u)) e r) in
    share (v ∷ us) v u m.elt (distinct_right (leaves_of t) (flat (v ∷ us)) d) (inl refl) i m.in_a m.in_b

pub pairs_within : (ts : List Item) → All (Within (flat ts)) (pairs ts)
pairs_within [] = tt
pairs_within (t ∷ []) = tt
pairs_within (t ∷ (u ∷ ts)) = (
  λ x i. subst (In x) (append_assoc (leaves_of t) (leaves_of u) (flat ts)) (in_left x (leaves_of t ++ leaves_of u) (flat ts) i),
  all_map (Within (flat (u ∷ ts))) (Within (flat (t ∷ (u ∷ ts)))) (λ L h x i. in_right x (leaves_of t) (flat (u ∷ ts)) (h x i)) (pairs (u ∷ ts)) (pairs_within (u ∷ ts)),
)

-- The first blocks agree: all do.
along : (t : Item) (ts us : List Item) (xs : List ℕ) → Rearranged ts us → Cut (t ∷ us) xs → Distinct (flat (t ∷ us)) → All Fair (t ∷ us) → All (λ L. Run L xs) (pairs (t ∷ ts)) → us ≡ ts
along t [] us xs p k d f r = nil_perm p
along t (u ∷ ts) [] xs p k d f r = absurd (perm_in u p (inl refl))
along t (u ∷ ts) (v ∷ us) xs p k d f r =
    let e : v ≡ u = second t v u us xs k d f r.0 (perm_in u p (inl refl)) in
    let q : Rearranged ts us = perm_uncons (subst (λ w. Rearranged (u ∷ ts) (w ∷ us)) e p) in
    let dx : Distinct (k.0 ++ k.1) = subst Distinct k.2 (perm_distinct (cut_perm (t ∷ (v ∷ us)) xs k) d) in
    let down : (L : List ℕ) → Within (flat (u ∷ ts)) L → Run L xs → Run L k.1 =
    λ L s h. run_drop L k.0 k.1 (subst (Run L) k.2 h) (λ x i j. apart x k.0 k.1 dx i (perm_in x (cut_perm (v ∷ us) k.1 k.4) (perm_in x (perm_flat p) (s x j)))) in
    let rc = all_both (Within (flat (u ∷ ts))) (λ L. Run L xs) (λ L. Run L k.1) down (pairs (u ∷ ts)) (pairs_within (u ∷ ts)) r.1 in
    let rest = along u ts us k.1 q (subst (λ w. Cut (w ∷ us) k.1) e k.4) (subst (λ w. Distinct (flat (w ∷ us))) e (distinct_right (leaves_of t) (flat (v ∷ us)) d)) (subst (λ w. All Fair (w ∷ us)) e f.1) rc in
    ap₂ ◌∷◌ e rest

-- The block after v is one block.
two_nexts : (v s w : Item) (us : List Item) (xs : List ℕ) → Cut (v ∷ us) xs → Distinct (flat (v ∷ us)) → All Fair (v ∷ us) → Run (leaves_of v ++ leaves_of s) xs → Run (leaves_of v ++ leaves_of w) xs → In s us → In w us → s ≡ w
two_nexts v s w [] xs k d f r r' i j = absurd i
two_nexts v s w (z ∷ us) xs k d f r r' i j = sym (second v z s us xs k d f r i) ∙ second v z w us xs k d f r' j

not_first : (v s : Item) (us : List Item) → In s (v ∷ us) → s ≢ v → In s us
not_first v s us (inl e) n = absurd (n e)
not_first v s us (inr i) n = i

-- The first block v is not the first of the items: it is the last of them.
scan : (v : Item) (us : List Item) (xs : List ℕ) → Cut (v ∷ us) xs → Distinct (flat (v ∷ us)) → All Fair (v ∷ us)
    → (s : Item) (ts : List Item) → Distinct (s ∷ ts) → All (λ t. In t (v ∷ us)) (s ∷ ts) → In v ts → All (λ L. Run L xs) (pairs (s ∷ ts)) → (p : List Item) × (ts ≡ p ++ (v ∷ []))
scan v us xs k d f s [] q m i r = absurd i
scan v us xs k d f s (y ∷ []) q m (inl e) r = ([], ap (λ z. z ∷ []) (sym e))
scan v us xs k d f s (y ∷ []) q m (inr i) r = absurd i
scan v us xs k d f s (y ∷ (w ∷ ts)) q m (inl e) r =
    let r₁ : Run (leaves_of v ++ leaves_of s) xs = subst (λ z. Run (leaves_of z ++ leaves_of s) xs) (sym e) (run_perm (leaves_of s ++ leaves_of y) (leaves_of y ++ leaves_of s) xs (perm_swap (leaves_of s) (leaves_of y)) r.0) in
    let r₂ : Run (leaves_of v ++ leaves_of w) xs = subst (λ z. Run (leaves_of z ++ leaves_of w) xs) (sym e) r.1.0 in
    absurd (q.0.1.0 (two_nexts v s w us xs k d f r₁ r₂ (not_first v s us m.0 (λ h. q.0.0 (h ∙ e))) (not_first v w us m.1.1.0 (λ h. q.1.0.0 (sym (h ∙ e))))))
scan v us xs k d f s (y ∷ (w ∷ ts)) q m (inr i) r =
    let z = scan v us xs k d f y (w ∷ ts) q.1 m.1 i r.1 in
    (y ∷ z.0, ap (λ l. y ∷ l) z.1)

pairs_snoc : (Q : List ℕ → Type 0) (l : List Item) (y x : Item) → All Q (pairs (l ++ (y ∷ []))) → Q (leaves_of y ++ leaves_of x) → All Q (pairs (l ++ (y ∷ (x ∷ []))))
pairs_snoc Q [] y x a q = (q, tt)
pairs_snoc Q (z ∷ []) y x a q = (a.0, (q, tt))
pairs_snoc Q (z ∷ (w ∷ l)) y x a q = (a.0, pairs_snoc Q (w ∷ l) y x a.1 q)

pairs_reverse : (xs : List ℕ) (ts : List Item) → All (λ L. Run L xs) (pairs ts) → All (λ L. Run L xs) (pairs (reverse ts))
pairs_reverse xs [] r = tt
pairs_reverse xs (t ∷ []) r = tt
pairs_reverse xs (t ∷ (u ∷ ts)) r =
    let a = subst (λ l. All (λ L. Run L xs) (pairs l)) (reverse-cons u ts) (pairs_reverse xs (u ∷ ts) r.1) in
    let b = pairs_snoc (λ L. Run L xs) (reverse ts) u t a (run_perm (leaves_of t ++ leaves_of u) (leaves_of u ++ leaves_of t) xs (perm_swap (leaves_of t) (leaves_of u)) r.0) in
    subst (λ l. All (λ L. Run L xs) (pairs l)) (sym (reverse-cons t (u ∷ ts) ∙ ap (λ l. l ++ (t ∷ [])) (reverse-cons u ts) ∙ append_assoc (reverse ts) (u ∷ []) (t ∷ []))) b

-- Neighbours together: the blocks stand as the items or in the reversed sequence.
pub as_or_reversed : (ts us : List Item) (xs : List ℕ) → Rearranged ts us → Cut us xs → Distinct (flat ts) → Distinct ts → All Fair ts → All (λ L. Run L xs) (pairs ts) → (us ≡ ts) ⊎ (us ≡ reverse ts)
as_or_reversed ts [] xs p k d q f r = inl (sym (nil_perm (perm_sym p)))
as_or_reversed [] (v ∷ us) xs p k d q f r = absurd (perm_in v (perm_sym p) (inl refl))
as_or_reversed (t ∷ ts) (v ∷ us) xs p k d q f r = go (perm_in v (perm_sym p) (inl refl))
  where
    du : Distinct (flat (v ∷ us))
    du = perm_distinct (perm_flat p) d

    fu : All Fair (v ∷ us)
    fu = perm_all Fair p f

    go : (v ≡ t) ⊎ In v ts → (v ∷ us ≡ t ∷ ts) ⊎ (v ∷ us ≡ reverse (t ∷ ts))
    go (inl e) =
        inl (ap₂ ◌∷◌ e (along v ts us xs (perm_uncons (subst (λ z. Rearranged (z ∷ ts) (v ∷ us)) (sym e) p)) k du fu (subst (λ z. All (λ L. Run L xs) (pairs (z ∷ ts))) (sym e) r)))
    go (inr i) =
        let z = scan v us xs k du fu t ts q (in_all (λ w. In w (v ∷ us)) (t ∷ ts) (λ w j. perm_in w p j)) i r in
        let e : reverse (t ∷ ts) ≡ v ∷ reverse (t ∷ z.0) = ap reverse (ap (λ l. t ∷ l) z.1) ∙ reverse-append (t ∷ z.0) (v ∷ []) in
        let rr = subst (λ l. All (λ L. Run L xs) (pairs l)) e (pairs_reverse xs (t ∷ ts) r) in
        let pp : Rearranged (v ∷ reverse (t ∷ z.0)) (v ∷ us) = subst (λ l. Rearranged l (v ∷ us)) e (perm_trans (perm_sym (perm_reverse (t ∷ ts))) p) in
        inr (ap (λ l. v ∷ l) (along v (reverse (t ∷ z.0)) us xs (perm_uncons pp) k du fu rr) ∙ sym e)
