-- A circle read from another place.
use mathlib.Core.Path.{◌∙◌, ◌≡◌, ap, refl, subst, subst₂, sym}
use mathlib.Core.Logic.{◌≢◌, ◌⊎◌, inl, inr}
use mathlib.Core.List.{List, [], ◌++◌, ◌∷◌, append_assoc, append-nil, head-eq_of_cons-eq, tail-eq_of_cons-eq}
use Prim.Native.Nat.{ℕ}
use Rattle.spec_orders.specs.Tree.{Rotation}
use Rattle.spec_orders.specs.Lists.{Distinct, In, Rearranged}
use Rattle.spec_orders.specs.CircularOrder.{Restriction, Consecutive}
use Rattle.spec_orders.proofs.Rearranged.{perm_swap}
use Rattle.spec_orders.proofs.Members.{in_right, all_in, Later, cut}

pub rotate : (a b : List ℕ) → Rotation (a ++ b) (b ++ a)
rotate a b = record { left = a; right = b; whole = refl; turned = refl }

pub rotation_refl : (c : List ℕ) → Rotation c c
rotation_refl c = record { left = []; right = c; whole = refl; turned = sym (append-nil c) }

pub rotation_sym : {c d : List ℕ} → Rotation c d → Rotation d c
rotation_sym r = record { left = r.right; right = r.left; whole = r.turned; turned = r.whole }

pub rotation_trans : {c d e : List ℕ} → Rotation c d → Rotation d e → Rotation c e
rotation_trans {c} {d} {e} r s = go (cut r.right s.left (sym r.turned ∙ s.whole))
  where
    go : Later r.right r.left s.left s.right ⊎ Later s.left s.right r.right r.left → Rotation c e
    go (inl t) =
        record {
          left = t.0;
          right = s.right ++ r.right;
          whole = r.whole ∙ ap (λ l. l ++ r.right) t.2 ∙ append_assoc t.0 s.right r.right;
          turned = s.turned ∙ ap (λ l. s.right ++ l) t.1 ∙ sym (append_assoc s.right r.right t.0);
        }
    go (inr t) =
        record {
          left = r.left ++ s.left;
          right = t.0;
          whole = r.whole ∙ ap (λ l. r.left ++ l) t.1 ∙ sym (append_assoc r.left s.left t.0);
          turned = s.turned ∙ ap (λ l. l ++ s.left) t.2 ∙ append_assoc t.0 r.left s.left;
        }

pub rotation_perm : {c d : List ℕ} → Rotation c d → Rearranged c d
rotation_perm r = subst₂ Rearranged (sym r.whole) (sym r.turned) (perm_swap r.left r.right)

-- Read from an element that stands there one time, a circle is one list.
head_at : (x : ℕ) (xs ys p q : List ℕ) → x ∷ xs ≡ p ++ q → x ∷ ys ≡ q ++ p → Distinct (x ∷ xs) → xs ≡ ys
head_at x xs ys [] q e f d = tail-eq_of_cons-eq (e ∙ sym (append-nil q) ∙ sym f)
head_at x xs ys (z ∷ p) [] e f d = tail-eq_of_cons-eq (e ∙ append-nil (z ∷ p) ∙ sym f)
head_at x xs ys (z ∷ p) (w ∷ q) e f d =
    absurd (all_in (λ y. x ≢ y) x xs d.0 (subst (In x) (sym (tail-eq_of_cons-eq e)) (in_right x p (w ∷ q) (inl (head-eq_of_cons-eq f)))) refl)

pub rotation_head : (x : ℕ) (xs ys : List ℕ) → Distinct (x ∷ xs) → Rotation (x ∷ xs) (x ∷ ys) → xs ≡ ys
rotation_head x xs ys d r = head_at x xs ys r.left r.right r.whole r.turned d

-- Where an element stands; the circle read from there.
pub around : (x : ℕ) (l : List ℕ) → In x l → (a : List ℕ) × (b : List ℕ) × (l ≡ a ++ (x ∷ b))
around x [] h = absurd h
around x (y ∷ l) (inl e) = ([], l, ap (λ z. z ∷ l) (sym e))
around x (y ∷ l) (inr h) = let a = around x l h in (y ∷ a.0, a.1, ap (λ m. y ∷ m) a.2)

pub read_from : (x : ℕ) (c : List ℕ) → In x c → (d : List ℕ) × Rotation c (x ∷ d)
read_from x c h =
    let z = around x c h in
    (z.1 ++ z.0, subst (λ l. Rotation l (x ∷ (z.1 ++ z.0))) (sym z.2) (rotate z.0 (x ∷ z.1)))

-- What is consecutive round a circle is so from wherever it is read.
pub rotation_consecutive : (G : Restriction) (c d : List ℕ) → Rotation c d → Consecutive G c → Consecutive G d
rotation_consecutive G c d r t =
    let q : Rotation d (t.run ++ t.rest) = rotation_trans (rotation_sym r) (record { left = t.before; right = t.after; whole = t.cut; turned = sym t.turned }) in
    record { before = q.left; after = q.right; run = t.run; rest = t.rest; cut = q.whole; turned = sym q.turned; in_run = t.in_run; out_rest = t.out_rest }
