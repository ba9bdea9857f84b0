-- A node with an item t, and one that has at that place an item with t's leaves and more: they do not allow the same orders.
use mathlib.Core.Path.{◌∙◌, ◌≡◌, ap, ap₂, refl, subst, sym}
use mathlib.Core.Logic.{◌⊎◌, inl, inr}
use mathlib.Core.List.{List, [], ◌++◌, ◌∷◌, append_assoc, append-nil, head-eq_of_cons-eq, reverse, reverse-append, reverse-reverse}
use Prim.Native.Nat.{◌+◌, ℕ}
use native.Mathlib.Omega.{arith}
use lib.ListN.{length, length-append}
use Rattle.spec_orders.specs.Lists.{Distinct, In, Rearranged}
use Rattle.spec_orders.specs.Tree.{Kind, P, C, Forest, nil, node, Item, leaf_item, node_item, items, append, rev, frontier, Turn, Consistent, no_items, leaf_first}
use Rattle.spec_orders.specs.Reduce.{put, one}
use Rattle.spec_orders.proofs.Rearranged.{perm_sym, perm_append, perm_swap, perm_length, perm_distinct}
use Rattle.spec_orders.proofs.Members.{NonEmpty, nonempty_left, in_left, in_right, in_append, perm_in, perm_nonempty, distinct_left, distinct_right, apart, perm_reverse}
use Rattle.spec_orders.proofs.Laws.{items-append, rev_perm, turn_refl, leaves_of, consistent_perm, consistent_append, consistent_split, frontier-append}
use Rattle.spec_orders.proofs.First.{frontier_allowed}
use Rattle.spec_orders.proofs.Parts.{place_in, frontier-put, consistent_put, node_in, node_out, item_perm}
use Rattle.spec_orders.proofs.Mirror.{consistent_mirror, consistent_unmirror}
use Rattle.spec_intersection.proofs.Lists.{nonempty_right, same_cut, longer_in, overlap}
use Rattle.spec_intersection.proofs.Pieces.{node_block}

-- J stands between A and B: an element of A or B is not one of J.
not_mid : (A J B : List ℕ) (x : ℕ) → Distinct (A ++ (J ++ B)) → In x (A ++ B) → In x J → ⊥
not_mid A J B x d h k = go (in_append x A B h)
  where
    go : In x A ⊎ In x B → ⊥
    go (inl l) = apart x A (J ++ B) d l (in_left x J B k)
    go (inr r) = apart x J B (distinct_right A (J ++ B) d) k r

record Head (l : List ℕ) (m : List ℕ) : Type 0 where
  elt : ℕ
  rest : List ℕ
  is : l ≡ elt ∷ rest
  member : In elt m

head_of : (l m : List ℕ) → Rearranged l m → NonEmpty l → Head l m
head_of [] m p h = absurd h
head_of (x ∷ l) m p h = record { elt = x; rest = l; is = refl; member = perm_in x p (inl refl) }

outer : (A N B : List ℕ) → NonEmpty (A ++ B) → Head (A ++ reverse (N ++ B)) (A ++ B)
outer [] N B h =
    let r = head_of (reverse B) B (perm_sym (perm_reverse B)) (perm_nonempty (perm_reverse B) h) in
    record { elt = r.elt; rest = r.rest ++ reverse N; is = reverse-append N B ∙ ap (λ l. l ++ reverse N) r.is; member = r.member }
outer (x ∷ A) N B h = record { elt = x; rest = A ++ reverse (N ++ B); is = refl; member = inl refl }

-- T, then something that is not of J, then the rest of J: J has a gap.
gap : (T : List ℕ) (x : ℕ) (R a b c J N : List ℕ) → T ++ (x ∷ R) ≡ a ++ (b ++ c) → Rearranged J b → J ≡ T ++ N → NonEmpty T → NonEmpty N → Distinct (T ++ (x ∷ R)) → (In x J → ⊥) → ⊥
gap T x R [] b c J [] e p j h k d n = k
gap T x R [] b c J (y ∷ N) e p j h k d n =
    let q : length J ≡ length T + length (y ∷ N) = ap length j ∙ length-append T (y ∷ N) in
    n (perm_in x (perm_sym p) (longer_in b c T x R (sym e) (omega (arith, perm_length p))))
gap [] x R (z ∷ a) b c J N e p j h k d n = h
gap (y ∷ T) x R (z ∷ a) b c J N e p j h k d n =
    apart z (z ∷ a) (b ++ c) (subst Distinct e d) (inl refl) (in_left z b c (perm_in z p (subst (In z) (sym j) (inl (sym (head-eq_of_cons-eq e))))))

-- A, J = T ++ N turned round, and B: T does not come right after A.
turn_one : (A T N B a b c : List ℕ) → A ++ (reverse (T ++ N) ++ B) ≡ a ++ (b ++ c) → Rearranged A a → Rearranged T b → NonEmpty T → NonEmpty N → Distinct (T ++ N) → ⊥
turn_one A T N B a b c e p q h k d =
    let r = same_cut A (reverse (T ++ N) ++ B) a (b ++ c) e (perm_length p) in
    let e' : b ++ c ≡ reverse N ++ (reverse T ++ B) = sym r.1 ∙ ap (λ l. l ++ B) (reverse-append T N) ∙ append_assoc (reverse N) (reverse T) B in
    let m = overlap b c (reverse N) (reverse T ++ B) e' (perm_nonempty q h) (perm_nonempty (perm_reverse N) k) in
    apart m.elt T N d (perm_in m.elt (perm_sym q) m.in_a) (perm_in m.elt (perm_sym (perm_reverse N)) m.in_b)

-- The same, seen from the other end.
mir : (A J B : List ℕ) → reverse (A ++ (reverse J ++ B)) ≡ reverse B ++ (J ++ reverse A)
mir A J B =
    reverse-append A (reverse J ++ B) ∙ ap (λ l. l ++ reverse A) (reverse-append (reverse J) B ∙ ap (λ l. reverse B ++ l) (reverse-reverse J)) ∙ append_assoc (reverse B) J (reverse A)

from_end : (A J T N B a b c : List ℕ) → J ≡ T ++ N → reverse B ++ (J ++ reverse A) ≡ a ++ (b ++ c) → Rearranged A a → Rearranged T b → NonEmpty T → NonEmpty B → Distinct (A ++ (J ++ B)) → ⊥
from_end A J T N B a b c j e p q h k d =
    let m = overlap (reverse B) (J ++ reverse A) (a ++ b) c (e ∙ sym (append_assoc a b c)) (perm_nonempty (perm_reverse B) k) (nonempty_right a b (perm_nonempty q h)) in
    let x = m.elt in
    let y : In x B = perm_in x (perm_sym (perm_reverse B)) m.in_a in
    go x y (in_append x a b m.in_b)
  where
    go : (x : ℕ) → In x B → In x a ⊎ In x b → ⊥
    go x y (inl l) = apart x A (J ++ B) d (perm_in x (perm_sym p) l) (in_right x J B y)
    go x y (inr r) = apart x J B (distinct_right A (J ++ B) d) (subst (In x) (sym j) (in_left x T N (perm_in x (perm_sym q) r))) y

turn_two : (A J T N B a b c : List ℕ) → J ≡ T ++ N → reverse (A ++ (reverse J ++ B)) ≡ a ++ (b ++ c) → Rearranged A a → Rearranged T b → NonEmpty T → NonEmpty (A ++ B) → Distinct (A ++ (J ++ B)) → ⊥
turn_two A J T N [] a b c j e p q h k d =
    let f : NonEmpty A = rw append-nil at k in
    let m = overlap J (reverse A) a (b ++ c) (sym (mir A J []) ∙ e) (subst NonEmpty (sym j) (nonempty_left T N h)) (perm_nonempty p f) in
    apart m.elt A (J ++ []) d (perm_in m.elt (perm_sym p) m.in_b) (in_left m.elt J [] m.in_a)
turn_two A J T N (x ∷ B) a b c j e p q h k d = from_end A J T N (x ∷ B) a b c j (sym (mir A J (x ∷ B)) ∙ e) p q h tt d

-- The item t in front, at a P-node.
to_front : (p t f : Forest) → Rearranged (items (append p (append t f))) (items (append t (append p (rev f))))
to_front p t f =
    let a : Rearranged ((items p ++ items t) ++ items f) ((items t ++ items p) ++ items (rev f)) = perm_append (perm_swap (items p) (items t)) (rev_perm f) in
    simp items-append (simp append_assoc at a)

pub frontier-whole : (q : Forest) (u : Item) (g : Forest) → frontier (append q (put u g)) ≡ frontier q ++ (leaves_of u ++ frontier g)
frontier-whole q u g = frontier-append q (put u g) ∙ ap (λ l. frontier q ++ l) (frontier-put u g)

pub order_distinct : (l : Kind) (i : Forest) (xs : List ℕ) → Consistent (node l i nil) xs → Distinct (frontier i) → Distinct xs
order_distinct l i xs s d = perm_distinct (rw append-nil at (consistent_perm s)) d

coarse_P : (p t f : Forest) (l : Kind) (q : Forest) (u : Item) (g : Forest) (N : List ℕ)
    → ((xs : List ℕ) → Consistent (node P (append p (append t f)) nil) xs → Consistent (node l (append q (put u g)) nil) xs)
    → frontier p ≡ frontier q → leaves_of u ≡ frontier t ++ N → frontier f ≡ N ++ frontier g
    → NonEmpty (frontier t) → NonEmpty N → NonEmpty (frontier q ++ frontier g) → Distinct (frontier q ++ (leaves_of u ++ frontier g)) → ⊥
coarse_P p t f l q u g N sub ep eu ef ht hn ho d =
    let w = frontier t ++ (frontier p ++ reverse (frontier f)) in
    let s : Consistent (append t (append p (rev f))) w = consistent_append (frontier_allowed t) (consistent_append (frontier_allowed p) (consistent_mirror (frontier_allowed f))) in
    let r = sub w (node_in (to_front p t f) s) in
    let b = node_block l (append q (put u g)) u w (place_in q u g) r in
    let o = outer (frontier q) N (frontier g) ho in
    let e : w ≡ frontier t ++ (o.elt ∷ o.rest) = ap (λ m. frontier t ++ m) (ap₂ (λ x y. x ++ reverse y) ep ef ∙ o.is) in
    let dw = order_distinct l (append q (put u g)) w r (subst Distinct (sym (frontier-whole q u g)) d) in
    gap (frontier t) o.elt o.rest b.left b.block b.right (leaves_of u) N (sym e ∙ b.parts) (item_perm u b.block b.order) eu ht hn
    (subst Distinct e dw) (not_mid (frontier q) (leaves_of u) (frontier g) o.elt d o.member)

-- The item u turned round, at a C-node.
u_turned : (u : Item) → Consistent (one u) (reverse (leaves_of u))
u_turned (leaf_item b) = leaf_first no_items
u_turned (node_item k i) = consistent_mirror (node_in (turn_refl k i) (frontier_allowed i))

coarse_C : (p t f : Forest) (l : Kind) (q : Forest) (u : Item) (g : Forest) (N : List ℕ)
    → ((xs : List ℕ) → Consistent (node l (append q (put u g)) nil) xs → Consistent (node C (append p (append t f)) nil) xs)
    → frontier p ≡ frontier q → leaves_of u ≡ frontier t ++ N
    → NonEmpty (frontier t) → NonEmpty N → NonEmpty (frontier q ++ frontier g) → Distinct (frontier q ++ (leaves_of u ++ frontier g)) → ⊥
coarse_C p t f l q u g N sup ep eu ht hn ho d =
    let w = frontier q ++ (reverse (leaves_of u) ++ frontier g) in
    let s : Consistent (append q (put u g)) w = consistent_append (frontier_allowed q) (consistent_put u g (reverse (leaves_of u)) (frontier g) (u_turned u) (frontier_allowed g)) in
    let r = node_out (sup w (node_in (turn_refl l (append q (put u g))) s)) in
    go r.turned r.turn r.order
  where
    i : Forest
    i = append p (append t f)

    w' : List ℕ
    w' = frontier q ++ (reverse (leaves_of u) ++ frontier g)

    split : (xs : List ℕ) → Consistent i xs → (a : List ℕ) × (b : List ℕ) × (c : List ℕ) × (xs ≡ a ++ (b ++ c)) × Rearranged (frontier q) a × Rearranged (frontier t) b
    split xs s =
        let x = consistent_split p (append t f) xs s in
        let y = consistent_split t f x.back x.of_back in
        (x.front, y.front, y.back, x.whole ∙ ap (λ m. x.front ++ m) y.whole, subst (λ m. Rearranged m x.front) ep (consistent_perm x.of_front), consistent_perm y.of_front)

    go : (j : Forest) → Turn C i j → Consistent j w' → ⊥
    go j (inl e) s =
        let z = split w' (subst (λ h. Consistent h w') e s) in
        turn_one (frontier q) (frontier t) N (frontier g) z.0 z.1 z.2 (ap (λ m. frontier q ++ (reverse m ++ frontier g)) (sym eu) ∙ z.3) z.4 z.5 ht hn
        (subst Distinct eu (distinct_left (leaves_of u) (frontier g) (distinct_right (frontier q) (leaves_of u ++ frontier g) d)))
    go j (inr e) s =
        let z = split (reverse w') (consistent_unmirror i w' (subst (λ h. Consistent h w') e s)) in
        turn_two (frontier q) (leaves_of u) (frontier t) N (frontier g) z.0 z.1 z.2 eu z.3 z.4 z.5 ht ho d

pub coarse : (k : Kind) (p t f : Forest) (l : Kind) (q : Forest) (u : Item) (g : Forest) (N : List ℕ)
    → ((xs : List ℕ) → Consistent (node k (append p (append t f)) nil) xs → Consistent (node l (append q (put u g)) nil) xs)
    → ((xs : List ℕ) → Consistent (node l (append q (put u g)) nil) xs → Consistent (node k (append p (append t f)) nil) xs)
    → frontier p ≡ frontier q → leaves_of u ≡ frontier t ++ N → frontier f ≡ N ++ frontier g
    → NonEmpty (frontier t) → NonEmpty N → NonEmpty (frontier q ++ frontier g) → Distinct (frontier q ++ (leaves_of u ++ frontier g)) → ⊥
coarse P p t f l q u g N sub sup ep eu ef ht hn ho d = coarse_P p t f l q u g N sub ep eu ef ht hn ho d
coarse C p t f l q u g N sub sup ep eu ef ht hn ho d = coarse_C p t f l q u g N sup ep eu ht hn ho d
