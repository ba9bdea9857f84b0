-- The orders of a sequence of items that may be impossible, and of the steps that make one from another.
use mathlib.Core.Path.{◌∙◌, ◌≡◌, ap, refl, subst, sym}
use mathlib.Core.Logic.Iff
use mathlib.Core.Logic.{◌↔◌, ◌⊎◌, inl, inr, ⊎_map}
use mathlib.Core.Bool.{Bool, cond, false, true}
use mathlib.Core.Option.{Option, none, some}
use mathlib.Core.List.{◌++◌, reverse, reverse-reverse}
use Prim.Native.Nat.{◌≤◌}
use borrow.Author.Tests.{ltb-false}
use lib.Dec.{ltb}
use lib.ListN.{length}
use Rattle.spec_orders.specs.Tree.{P, C, Forest, nil, node, Item, items, append, rev, Turn, Consistent}
use Rattle.spec_orders.specs.Reduce.{put, one, pack, ◌⊕◌, reversed, c_node}
use Rattle.spec_orders.proofs.Rearranged.{short_perm}
use Rattle.spec_orders.proofs.Contiguous.{L}
use Rattle.spec_orders.proofs.Laws.{turn_refl, consistent_append, consistent_split}
use Rattle.spec_orders.proofs.Parts.{consistent_put, consistent_unput, node_in, node_out, forest, forest_items}
use Rattle.spec_orders.proofs.Mirror.{consistent_mirror, consistent_unmirror}
use Rattle.spec_orders.proofs.PutSorted.{orient_consistent}

abbrev pub Gives : Option Forest → L → Type 0
Gives none xs = ⊥
Gives (some f) xs = Consistent f xs

-- Lists that are one of Q followed by one of R.
infixr 40 ◌⊗◌
abbrev pub ◌⊗◌ : (L → Type 0) → (L → Type 0) → L → Type 0
◌⊗◌ Q R xs = (ys : L) × (zs : L) × (xs ≡ ys ++ zs) × Q ys × R zs

same_⊗ : (Q Q' R R' : L → Type 0) → ((xs : L) → Q xs ↔ Q' xs) → ((xs : L) → R xs ↔ R' xs) → (xs : L) → (Q ⊗ R) xs ↔ (Q' ⊗ R') xs
same_⊗ Q Q' R R' h k xs =
    ((λ r. (r.0, r.1, r.2, (h r.0).0 r.3, (k r.1).0 r.4)), (λ r. (r.0, r.1, r.2, (h r.0).1 r.3, (k r.1).1 r.4)))

gives_app : (o p : Option Forest) (xs : L) → Gives (o ⊕ p) xs ↔ (Gives o ⊗ Gives p) xs
gives_app (some f) (some g) xs =
    ((λ s. let r = consistent_split f g xs s in (r.front, r.back, r.whole, r.of_front, r.of_back)), (λ r. subst (Consistent (append f g)) (sym r.2) (consistent_append r.3 r.4)))
gives_app (some f) none xs = ((λ s. absurd s), (λ r. absurd r.4))
gives_app none p xs = ((λ s. absurd s), (λ r. absurd r.3))

pub gives_⊕ : (o p : Option Forest) (Q R : L → Type 0) → ((xs : L) → Gives o xs ↔ Q xs) → ((xs : L) → Gives p xs ↔ R xs) → (xs : L) → Gives (o ⊕ p) xs ↔ (Q ⊗ R) xs
gives_⊕ o p Q R h k xs = Iff.trans (gives_app o p xs) (same_⊗ (Gives o) Q (Gives p) R h k xs)

pub gives_rev : (o : Option Forest) (xs : L) → Gives (reversed o) xs ↔ Gives o (reverse xs)
gives_rev (some f) xs = (consistent_unmirror f xs, (λ s. subst (Consistent (rev f)) (reverse-reverse xs) (consistent_mirror s)))
gives_rev none xs = ((λ s. s), (λ s. s))

pub consistent_cons : (t : Item) (f : Forest) (xs : L) → Consistent (put t f) xs ↔ (Consistent (one t) ⊗ Consistent f) xs
consistent_cons t f xs =
    ((λ s. let r = consistent_unput t f xs s in (r.front, r.back, r.whole, r.of_front, r.of_back)), (λ r. subst (Consistent (put t f)) (sym r.2) (consistent_put t f r.0 r.1 r.3 r.4)))

-- All orders of the sequence have Q.
pub same_iff : (f : Forest) (Q : L → Type 0) → ((xs : L) → Consistent f xs → Q xs) → (xs : L) → Consistent f xs ↔ (Consistent f xs × Q xs)
same_iff f Q h xs = ((λ s. (s, h xs s)), (λ r. r.0))

-- An item and a sequence: where A of the item's order and B of the other are Q of the whole.
pub gives_put : (o p : Option Forest) (t : Item) (f : Forest) (A B Q : L → Type 0)
    → ((y : L) → Gives o y ↔ (Consistent (one t) y × A y)) → ((z : L) → Gives p z ↔ (Consistent f z × B z))
    → ((xs ys zs : L) → xs ≡ ys ++ zs → Consistent (one t) ys → Consistent f zs → (A ys × B zs) ↔ Q xs)
    → (xs : L) → Gives (o ⊕ p) xs ↔ (Consistent (put t f) xs × Q xs)
gives_put o p t f A B Q h k c xs = Iff.trans (gives_⊕ o p (λ y. Consistent (one t) y × A y) (λ z. Consistent f z × B z) h k xs) (
  (λ r. ((consistent_cons t f xs).1 (r.0, r.1, r.2, r.3.0, r.4.0), (c xs r.0 r.1 r.2 r.3.0 r.4.0).0 (r.3.1, r.4.1))),
  (λ q. let r = (consistent_cons t f xs).0 q.0 in let w = (c xs r.0 r.1 r.2 r.3 r.4).1 q.1 in (r.0, r.1, r.2, (r.3, w.0), (r.4, w.1))),
)

-- A C-node's orders: its items as they stand, or the mirror image.
pub node_C : (f : Forest) (xs : L) → Consistent (node C f nil) xs ↔ (Consistent f xs ⊎ Consistent f (reverse xs))
node_C f xs = ((λ s. let r = node_out s in to r.turned r.turn r.order), from)
  where
    to : (j : Forest) → Turn C f j → Consistent j xs → Consistent f xs ⊎ Consistent f (reverse xs)
    to j (inl e) s = inl (subst (λ g. Consistent g xs) e s)
    to j (inr e) s = inr (consistent_unmirror f xs (subst (λ g. Consistent g xs) e s))

    from : Consistent f xs ⊎ Consistent f (reverse xs) → Consistent (node C f nil) xs
    from (inl s) = node_in (inl refl) s
    from (inr s) = node_in (inr refl) (subst (Consistent (rev f)) (reverse-reverse xs) (consistent_mirror s))

pub gives_C : (o : Option Forest) (Q : L → Type 0) → ((xs : L) → Gives o xs ↔ Q xs) → (xs : L) → Gives (c_node o) xs ↔ (Q xs ⊎ Q (reverse xs))
gives_C (some f) Q h xs =
    ((λ s. ⊎_map (h xs).0 (h (reverse xs)).0 ((node_C f xs).0 ((orient_consistent f nil xs).0 s))), (λ q. (orient_consistent f nil xs).1 ((node_C f xs).1 (⊎_map (h xs).1 (h (reverse xs)).1 q))))
gives_C none Q h xs = ((λ s. absurd s), no)
  where
    no : Q xs ⊎ Q (reverse xs) → ⊥
    no (inl q) = (h xs).1 q
    no (inr q) = (h (reverse xs)).1 q

-- Nothing, one item or a P-node: in any case the orders of a P-node.
pub gives_pack : (f : Forest) (xs : L) → Consistent (pack f) xs ↔ Consistent (node P f nil) xs
gives_pack f xs = go (ltb 1 (length (items f))) refl
  where
    go : (b : Bool) → ltb 1 (length (items f)) ≡ b → Consistent (cond b (node P f nil) f) xs ↔ Consistent (node P f nil) xs
    go true q = ((λ s. s), (λ s. s))
    go false q =
        let n : length (items f) ≤ 1 = ltb-false 1 (length (items f)) q in
        (node_in (turn_refl P f), (λ s. let r = node_out s in subst (λ g. Consistent g xs) (sym (forest_items r.turned) ∙ ap forest (short_perm r.turn n) ∙ forest_items f) r.order))
