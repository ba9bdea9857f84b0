-- An edge of the tree between two neighbours, the circles that it allows, and a step along the path from one leaf to another: the circles of
-- an edge are those of the next edge.
use mathlib.Core.Path.{◌∙◌, ◌≡◌, ap, refl, subst, subst₂, sym}
use mathlib.Core.Logic.{◌↔◌, inl, inr}
use mathlib.Core.List.{List, ◌++◌, ◌∷◌, append_assoc}
use Prim.Native.Nat.{ℕ, suc, ◌+◌}
use native.Mathlib.Omega.{arith}
use lib.ListN.{length, length-append}
use Rattle.spec_orders.specs.Lists.{Rearranged, next, here}
use Rattle.spec_orders.specs.Tree.{Kind, P, C, Forest, nil, node, Item, node_item, items, append, rev, Turn, Consistent, Rotation}
use Rattle.spec_orders.specs.Reduce.{put, one}
use Rattle.spec_orders.proofs.Rearranged.{perm_refl, perm_trans, perm_sym, perm_insert, perm_swap, perm_uncons, pick_middle}
use Rattle.spec_orders.proofs.Members.{perm_in}
use Rattle.spec_orders.proofs.Laws.{rev-append, items-append, consistent_append, consistent_split}
use Rattle.spec_orders.proofs.Parts.{append-put, in_place, place_in, put_one, items-put, consistent_put, consistent_unput, node_in, node_out, rev-put}
use Rattle.spec_orders.proofs.PutSorted.{put_sorted_perm, orient_perm, orient_consistent}
use Rattle.spec_orders.specs.SeenFrom.{place}
use Rattle.spec_orders.proofs.Rotations.{rotate, rotation_trans}

-- An item among others.
pub rev_mid : (a : Forest) (x : Item) (b : Forest) → rev (append a (put x b)) ≡ append (rev b) (put x (rev a))
rev_mid a x b = rev-append a (put x b) ∙ ap (λ f. append f (rev a)) (rev-put x b) ∙ append-put (rev b) x (rev a)

pub items_mid : (a : Forest) (x : Item) (b : Forest) → items (append a (put x b)) ≡ items a ++ (x ∷ items b)
items_mid a x b = items-append a (put x b) ∙ ap (λ l. items a ++ l) (items-put x b)

-- A circle with an edge: an order of one side, then one of the other.
pub record Round (u t : Item) (c : List ℕ) : Type 0 where
  pub near : List ℕ
  pub far : List ℕ
  pub of_near : Consistent (one u) near
  pub of_far : Consistent (one t) far
  pub circle : Rotation c (near ++ far)

pub round_swap : (u t : Item) (c : List ℕ) → Round u t c → Round t u c
round_swap u t c r = record { near = r.far; far = r.near; of_near = r.of_far; of_far = r.of_near; circle = rotation_trans r.circle (rotate r.near r.far) }

module _ {A : Type 0} where
  pub perm_middle : (x : A) (a b : List A) → Rearranged (x ∷ (a ++ b)) (a ++ (x ∷ b))
  perm_middle x a b = perm_insert (pick_middle a x b) (perm_refl (a ++ b))

  exchange : (x u : A) (a b p q : List A) → Rearranged (a ++ (x ∷ b)) (p ++ (x ∷ q)) → Rearranged (b ++ (u ∷ a)) (q ++ (u ∷ p))
  exchange x u a b p q h =
      let e : Rearranged (a ++ b) (p ++ q) = perm_uncons (perm_trans (perm_middle x a b) (perm_trans h (perm_sym (perm_middle x p q)))) in
      let f : Rearranged (b ++ a) (q ++ p) = perm_trans (perm_swap b a) (perm_trans e (perm_swap p q)) in
      perm_trans (perm_sym (perm_middle u b a)) (perm_trans (next here f) (perm_middle u q p))

pub same_length : (u x : Item) (a b : Forest) → length (items (append a (put x b))) ≡ length (items (append b (put u a)))
same_length u x a b =
    let p : length (items (append a (put x b))) ≡ length (items a) + suc (length (items b)) = ap length (items_mid a x b) ∙ length-append (items a) (x ∷ items b) in
    let q : length (items (append b (put u a))) ≡ length (items b) + suc (length (items a)) = ap length (items_mid b u a) ∙ length-append (items b) (u ∷ items a) in
    omega arith

-- The items round a node, read from x in place of u.
record Flipped (k : Kind) (u x : Item) (a b : Forest) (ys : List ℕ) : Type 0 where
  left : List ℕ
  mid : List ℕ
  right : List ℕ
  parts : ys ≡ left ++ (mid ++ right)
  of_mid : Consistent (one x) mid
  of_rest : (us : List ℕ) → Consistent (one u) us → Consistent (node k (append b (put u a)) nil) (right ++ (us ++ left))

from_mid : (k : Kind) (u x : Item) (a b p q : Forest) (ys : List ℕ) → Turn k (append b (put u a)) (append q (put u p)) → Consistent (append p (put x q)) ys → Flipped k u x a b ys
from_mid k u x a b p q ys t s =
    let m = consistent_split p (put x q) ys s in
    let n = consistent_unput x q m.back m.of_back in
    record {
      left = m.front;
      mid = n.front;
      right = n.back;
      parts = m.whole ∙ ap (λ l. m.front ++ l) n.whole;
      of_mid = n.of_front;
      of_rest = λ us h. node_in t (consistent_append n.of_back (consistent_put u p us m.front h m.of_front));
    }

flip_turn : (k : Kind) (u x : Item) (a b j : Forest) (ys : List ℕ) → Turn k (append a (put x b)) j → Consistent j ys → Flipped k u x a b ys
flip_turn P u x a b j ys t s =
    let pl = in_place x j (perm_in x t (place_in a x b)) in
    let h : Rearranged (items a ++ (x ∷ items b)) (items pl.before ++ (x ∷ items pl.after)) = subst₂ Rearranged (items_mid a x b) (ap items pl.there ∙ items_mid pl.before x pl.after) t in
    from_mid P u x a b pl.before pl.after ys
    (subst₂ Rearranged (sym (items_mid b u a)) (sym (items_mid pl.after u pl.before)) (exchange x u (items a) (items b) (items pl.before) (items pl.after) h))
    (subst (λ g. Consistent g ys) pl.there s)
flip_turn C u x a b j ys (inl e) s = from_mid C u x a b a b ys (inl refl) (subst (λ g. Consistent g ys) e s)
flip_turn C u x a b j ys (inr e) s = from_mid C u x a b (rev b) (rev a) ys (inr (sym (rev_mid b u a))) (subst (λ g. Consistent g ys) (e ∙ rev_mid a x b) s)

flip_rotation : (u l m r : List ℕ) → Rotation (u ++ (l ++ (m ++ r))) ((r ++ (u ++ l)) ++ m)
flip_rotation u l m r = record { left = u ++ (l ++ m); right = r; whole = simp append_assoc; turned = simp append_assoc }

flip_to : (k : Kind) (u x : Item) (a b : Forest) (c : List ℕ) → Round u (node_item k (append a (put x b))) c → Round (node_item k (append b (put u a))) x c
flip_to k u x a b c r =
    let o = node_out r.of_far in
    let f = flip_turn k u x a b o.turned r.far o.turn o.order in
    record {
      near = f.right ++ (r.near ++ f.left);
      far = f.mid;
      of_near = f.of_rest r.near r.of_near;
      of_far = f.of_mid;
      circle = rotation_trans (subst (λ l. Rotation c (r.near ++ l)) f.parts r.circle) (flip_rotation r.near f.left f.mid f.right);
    }

flip_round : (k : Kind) (u x : Item) (a b : Forest) (c : List ℕ) → Round u (node_item k (append a (put x b))) c ↔ Round (node_item k (append b (put u a))) x c
flip_round k u x a b c = (
  flip_to k u x a b c,
  λ r. round_swap (node_item k (append a (put x b))) u c (flip_to k x u b a c (round_swap (node_item k (append b (put u a))) x c r)),
)

-- The same with the items set in the published form.
front_perm : (u : Item) (a b : Forest) → Rearranged (items (append b (put u a))) (items (append (one u) (append a b)))
front_perm u a b =
    subst₂ Rearranged (sym (items_mid b u a)) (sym (ap items (put_one u (append a b)) ∙ items-put u (append a b) ∙ ap (λ l. u ∷ l) (items-append a b)))
    (perm_trans (perm_sym (perm_middle u (items b) (items a))) (next here (perm_swap (items b) (items a))))

pub place_perm : (k : Kind) (u : Item) (a b : Forest) → Rearranged (items (append b (put u a))) (items (place k u a b))
place_perm P u a b = perm_trans (front_perm u a b) (put_sorted_perm (one u) (append a b))
place_perm C u a b = orient_perm (append b (put u a))

place_consistent : (k : Kind) (u : Item) (a b : Forest) (xs : List ℕ) → Consistent (node k (append b (put u a)) nil) xs ↔ Consistent (node k (place k u a b) nil) xs
place_consistent P u a b xs = (
  λ s. let o = node_out s in node_in (perm_trans (perm_sym (place_perm P u a b)) o.turn) o.order,
  λ s. let o = node_out s in node_in (perm_trans (place_perm P u a b) o.turn) o.order,
)
place_consistent C u a b xs = let q = orient_consistent (append b (put u a)) nil xs in (q.1, q.0)

pub place_round : (k : Kind) (u x : Item) (a b : Forest) (c : List ℕ) → Round u (node_item k (append a (put x b))) c ↔ Round (node_item k (place k u a b)) x c
place_round k u x a b c =
    let f = flip_round k u x a b c in (
      (λ r. let q = f.0 r in record { near = q.near; far = q.far; of_near = (place_consistent k u a b q.near).0 q.of_near; of_far = q.of_far; circle = q.circle }),
      (λ q. f.1 (record { near = q.near; far = q.far; of_near = (place_consistent k u a b q.near).1 q.of_near; of_far = q.of_far; circle = q.circle })),
    )
