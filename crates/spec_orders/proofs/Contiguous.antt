-- Marked leaves on the line: last, first, or contiguous; and what that says of the two parts of a list that is cut.
use mathlib.Core.Path.{◌∙◌, ◌≡◌, ap, refl, subst, sym}
use mathlib.Core.Logic.{◌⊎◌, inl, inr}
use mathlib.Core.Bool.{Bool, false, true}
use mathlib.Core.List.{List, [], ◌++◌, append_assoc, append-nil, reverse, reverse-append, reverse-reverse}
use Prim.Native.Nat.{ℕ}
use Rattle.spec_orders.specs.Lists.{All}
use Rattle.spec_orders.specs.CircularOrder.{Restriction, Inside, Outside}
use Rattle.spec_orders.specs.Layout.{Contiguous}
use Rattle.spec_orders.proofs.ListLaws.{all_append, all_left, all_right}
use Rattle.spec_orders.proofs.Rearranged.{perm_all}
use Rattle.spec_orders.proofs.Members.{perm_reverse, Later, cut}

-- A list of leaves.
abbrev pub L : Type 0
L = List ℕ

module _ (Q : ℕ → Type 0) where
  pub front_all : {xs : L} (a b : L) → xs ≡ a ++ b → All Q xs → All Q a
  front_all a b e h = all_left Q a b (subst (All Q) e h)

  pub back_all : {xs : L} (a b : L) → xs ≡ a ++ b → All Q xs → All Q b
  back_all a b e h = all_right Q a b (subst (All Q) e h)

  all_reverse : (a : L) → All Q a → All Q (reverse a)
  all_reverse a h = perm_all Q (perm_reverse a) h

module _ (S : Restriction) where
  -- All marked (true), or none.
  abbrev pub Pure : Bool → L → Type 0
  Pure b = All (λ x. S x ≡ b)

  -- Leaves of one kind, then leaves of the other: the marked ones last; the marked ones first.
  abbrev pub Sided : Bool → Bool → L → Type 0
  Sided b c xs = (ys : L) × (zs : L) × (xs ≡ ys ++ zs) × Pure b ys × Pure c zs

  abbrev pub Late : L → Type 0
  Late = Sided false true

  abbrev pub Early : L → Type 0
  Early = Sided true false

  module _ (b c : Bool) where
    abbrev pub Sided-cut : L → L → Type 0
    Sided-cut u v = (Pure b u × Sided b c v) ⊎ (Sided b c u × Pure c v)

    pub sided_cut : {xs : L} (u v : L) → xs ≡ u ++ v → Sided b c xs → Sided-cut u v
    sided_cut u v e h = go (cut h.0 u (sym h.2 ∙ e))
      where
        go : Later h.0 h.1 u v ⊎ Later u v h.0 h.1 → Sided-cut u v
        go (inl k) = inr ((h.0, k.0, k.1, h.3, front_all _ k.0 v k.2 h.4), back_all _ k.0 v k.2 h.4)
        go (inr k) = inl (front_all _ u k.0 k.1 h.3, (k.0, h.1, k.2, back_all _ u k.0 k.1 h.3, h.4))

    pub sided_before : {xs : L} (u v : L) → xs ≡ u ++ v → Pure b u → Sided b c v → Sided b c xs
    sided_before u v e p h = (u ++ h.0, h.1, e ∙ ap (◌++◌ u) h.2 ∙ sym (append_assoc u h.0 h.1), all_append _ u h.0 p h.3, h.4)

    pub sided_after : {xs : L} (u v : L) → xs ≡ u ++ v → Sided b c u → Pure c v → Sided b c xs
    sided_after u v e h p = (h.0, h.1 ++ v, e ∙ ap (λ z. z ++ v) h.2 ∙ append_assoc h.0 h.1 v, h.3, all_append _ h.1 v h.4 p)

    pub sided_first : (u : L) → Pure b u → Sided b c u
    sided_first u p = (u, [], sym (append-nil u), p, tt)

    pub sided_last : (u : L) → Pure c u → Sided b c u
    sided_last u p = ([], u, refl, tt, p)

    pub sided_tail : (u v : L) → Sided-cut u v → Sided b c v
    sided_tail u v (inl h) = h.1
    sided_tail u v (inr h) = sided_last v h.1

    pub sided_both : (u v : L) → (Pure b u → ⊥) → Sided-cut u v → Sided b c u × Pure c v
    sided_both u v n (inl h) = absurd (n h.0)
    sided_both u v n (inr h) = h

  -- The mirror image.
  pub sided_rev : (b c : Bool) (xs : L) → Sided b c xs → Sided c b (reverse xs)
  sided_rev b c xs h = (reverse h.1, reverse h.0, ap reverse h.2 ∙ reverse-append h.0 h.1, all_reverse _ h.1 h.4, all_reverse _ h.0 h.3)

  pub sided_unrev : (b c : Bool) (xs : L) → Sided c b (reverse xs) → Sided b c xs
  sided_unrev b c xs h = subst (Sided b c) (reverse-reverse xs) (sided_rev c b (reverse xs) h)

  -- Contiguous.
  pub con : (a b c : L) {xs : L} → xs ≡ a ++ (b ++ c) → Outside S a → Inside S b → Outside S c → Contiguous S xs
  con a b c e h i j = record { left = a; run = b; right = c; parts = e; out_left = h; in_run = i; out_right = j }

  abbrev pub Contiguous-cut : L → L → Type 0
  Contiguous-cut a b = (Outside S a × Contiguous S b) ⊎ (Contiguous S a × Outside S b) ⊎ (Late a × Early b)

  pub con_cut : {xs : L} (a b : L) → xs ≡ a ++ b → Contiguous S xs → Contiguous-cut a b
  con_cut {xs} a b e h = go (cut h.left a (sym h.parts ∙ e))
    where
      go2 : (w : L) → a ≡ h.left ++ w → Later h.run h.right w b ⊎ Later w b h.run h.right → Contiguous-cut a b
      go2 w p (inl k) = inr (inl (con h.left h.run k.0 (p ∙ ap (◌++◌ h.left) k.1) h.out_left h.in_run (front_all _ k.0 b k.2 h.out_right), back_all _ k.0 b k.2 h.out_right))
      go2 w p (inr k) = inr (inr ((h.left, w, p, h.out_left, front_all _ w k.0 k.1 h.in_run), (k.0, h.right, k.2, back_all _ w k.0 k.1 h.in_run, h.out_right)))

      go : Later h.left (h.run ++ h.right) a b ⊎ Later a b h.left (h.run ++ h.right) → Contiguous-cut a b
      go (inl k) = go2 k.0 k.1 (cut h.run k.0 k.2)
      go (inr k) = inl (front_all _ a k.0 k.1 h.out_left, con k.0 h.run h.right k.2 (back_all _ a k.0 k.1 h.out_left) h.in_run h.out_right)

  pub con_late : {xs : L} (a b : L) → xs ≡ a ++ b → Late a → Early b → Contiguous S xs
  con_late a b e h k = con h.0 (h.1 ++ k.0) k.1 (rw (e, h.2, k.2) (simp append_assoc)) h.3 (all_append _ h.1 k.0 h.4 k.3) k.4

  pub con_out : {xs : L} (a b : L) → xs ≡ a ++ b → Outside S a → Contiguous S b → Contiguous S xs
  con_out a b e o h = con (a ++ h.left) h.run h.right (e ∙ ap (◌++◌ a) h.parts ∙ sym (append_assoc a h.left (h.run ++ h.right))) (all_append _ a h.left o h.out_left) h.in_run h.out_right

  pub con_end : {xs : L} (a b : L) → xs ≡ a ++ b → Contiguous S a → Outside S b → Contiguous S xs
  con_end a b e h o = con h.left h.run (h.right ++ b) (e ∙ ap (λ z. z ++ b) h.parts ∙ simp append_assoc) h.out_left h.in_run (all_append _ h.right b h.out_right o)

  late_con : (a : L) → Late a → Contiguous S a
  late_con a h = con_late a [] (sym (append-nil a)) h (sided_last true false [] tt)

  pub early_con : (a : L) → Early a → Contiguous S a
  early_con a h = con_late [] a refl (sided_first false true [] tt) h

  pub in_con : (a : L) → Inside S a → Contiguous S a
  in_con a h = early_con a (sided_first true false a h)

  pub out_con : (a : L) → Outside S a → Contiguous S a
  out_con a h = early_con a (sided_last true false a h)

  pub con_rev : (xs : L) → Contiguous S xs → Contiguous S (reverse xs)
  con_rev xs h = con (reverse h.right) (reverse h.run) (reverse h.left)
      (ap reverse h.parts ∙ reverse-append h.left (h.run ++ h.right) ∙ ap (λ z. z ++ reverse h.left) (reverse-append h.run h.right) ∙ append_assoc (reverse h.right) (reverse h.run) (reverse h.left))
      (all_reverse _ h.right h.out_right) (all_reverse _ h.run h.in_run) (all_reverse _ h.left h.out_left)

  pub con_unrev : (xs : L) → Contiguous S (reverse xs) → Contiguous S xs
  con_unrev xs h = subst (Contiguous S) (reverse-reverse xs) (con_rev (reverse xs) h)

  pub con_front : (a b : L) → Contiguous-cut a b → Contiguous S a
  con_front a b (inl k) = out_con a k.0
  con_front a b (inr (inl k)) = k.0
  con_front a b (inr (inr k)) = late_con a k.0

  pub con_back : (a b : L) → Contiguous-cut a b → Contiguous S b
  con_back a b (inl k) = k.1
  con_back a b (inr (inl k)) = out_con b k.1
  con_back a b (inr (inr k)) = early_con b k.1

  pub con_early : (a b : L) → (Outside S a → ⊥) → Contiguous-cut a b → Early b
  con_early a b u (inl k) = absurd (u k.0)
  con_early a b u (inr (inl k)) = sided_last true false b k.1
  con_early a b u (inr (inr k)) = k.1

  pub con_both : (a b : L) → (Outside S a → ⊥) → (Outside S b → ⊥) → Contiguous-cut a b → Late a × Early b
  con_both a b u v (inl k) = absurd (u k.0)
  con_both a b u v (inr (inl k)) = absurd (v k.1)
  con_both a b u v (inr (inr k)) = k
