-- Laws of lists: two ways to cut one list, where a part of a list stands, and lists with the same members.
use mathlib.Core.Path.{◌≡◌, ap₂, refl, subst, sym}
use mathlib.Core.Logic.{◌≢◌, ◌⊎◌, inl, inr}
use mathlib.Core.List.{List, [], ◌++◌, ◌∷◌, head-eq_of_cons-eq, tail-eq_of_cons-eq}
use Prim.Native.Nat.{◌<◌, ℕ}
use native.Mathlib.Omega.{arith}
use lib.ListN.{length}
use Rattle.spec_orders.specs.Lists.{All, Distinct, In, Pick, here, there, Rearranged, done, next}
use Rattle.spec_orders.proofs.Rearranged.{perm_sym, perm_length, pick_distinct, perm_uncons}
use Rattle.spec_orders.proofs.Members.{NonEmpty, in_left, all_in, pick_in, perm_in, perm_nonempty, apart, in_pick}

module _ {A : Type 0} where
  pub nonempty_right : (a b : List A) → NonEmpty b → NonEmpty (a ++ b)
  nonempty_right [] b h = h
  nonempty_right (x ∷ a) b h = tt

  -- Each element of L stands in M.
  abbrev pub Within : List A → List A → Type 0
  Within M L = (x : A) → In x L → In x M

  pub all_both : (S Q R : A → Type 0) → ((x : A) → S x → Q x → R x) → (l : List A) → All S l → All Q l → All R l
  all_both S Q R h [] a b = tt
  all_both S Q R h (x ∷ l) a b = (h x a.0 b.0, all_both S Q R h l a.1 b.1)

  pub perm_cancel : (b : List A) {f g : List A} → Rearranged (b ++ f) (b ++ g) → Rearranged f g
  perm_cancel [] p = p
  perm_cancel (x ∷ b) p = perm_cancel b (perm_uncons p)

  -- Two ways to cut one list.
  pub same_cut : (a b c d : List A) → a ++ b ≡ c ++ d → length a ≡ length c → (a ≡ c) × (b ≡ d)
  same_cut [] b [] d e n = (refl, e)
  same_cut [] b (y ∷ c) d e n = absurd (omega arith)
  same_cut (x ∷ a) b [] d e n = absurd (omega arith)
  same_cut (x ∷ a) b (y ∷ c) d e n =
      let r = same_cut a b c d (tail-eq_of_cons-eq e) (omega arith) in
      (ap₂ ◌∷◌ (head-eq_of_cons-eq e) r.0, r.1)

  -- The longer first part holds what stands after the shorter one.
  pub longer_in : (b c a : List A) (x : A) (r : List A) → b ++ c ≡ a ++ (x ∷ r) → length a < length b → In x b
  longer_in [] c a x r e n = absurd (omega arith)
  longer_in (y ∷ b) c [] x r e n = inl (sym (head-eq_of_cons-eq e))
  longer_in (y ∷ b) c (z ∷ a) x r e n = inr (longer_in b c a x r (tail-eq_of_cons-eq e) (omega arith))

  -- A set of elements stands at one place of a list with no element twice.
  pub same-run : (a b c a' b' c' : List A) → a ++ (b ++ c) ≡ a' ++ (b' ++ c') → Rearranged b b' → NonEmpty b → Distinct (a ++ (b ++ c)) → b ≡ b'
  same-run [] b c [] b' c' e p h d = (same_cut b c b' c' e (perm_length p)).0
  same-run [] [] c (y ∷ a') b' c' e p h d = absurd h
  same-run [] (x ∷ b) c (y ∷ a') b' c' e p h d =
      absurd (apart y (y ∷ a') (b' ++ c') (subst Distinct e d) (inl refl) (in_left y b' c' (subst (λ z. In z b') (head-eq_of_cons-eq e) (perm_in x p (inl refl)))))
  same-run (x ∷ a) b c [] [] c' e p h d = absurd (perm_nonempty p h)
  same-run (x ∷ a) b c [] (y ∷ b') c' e p h d =
      absurd (apart x (x ∷ a) (b ++ c) d (inl refl) (in_left x b c (subst (λ z. In z b) (sym (head-eq_of_cons-eq e)) (perm_in y (perm_sym p) (inl refl)))))
  same-run (x ∷ a) b c (y ∷ a') b' c' e p h d = same-run a b c a' b' c' (tail-eq_of_cons-eq e) p h d.1

  pub member : (l : List A) → NonEmpty l → (x : A) × In x l
  member [] h = absurd h
  member (x ∷ l) h = (x, inl refl)

  -- An element in front of both.
  pub record Overlap (a b : List A) : Type 0 where
    pub elt : A
    pub in_a : In elt a
    pub in_b : In elt b

  pub overlap : (a c b d : List A) → a ++ c ≡ b ++ d → NonEmpty a → NonEmpty b → Overlap a b
  overlap [] c b d e h k = absurd h
  overlap (x ∷ a) c [] d e h k = absurd k
  overlap (x ∷ a) c (y ∷ b) d e h k = record { elt = x; in_a = inl refl; in_b = inl (head-eq_of_cons-eq e) }

  still_in : {x : A} {l m : List A} (y : A) → Pick x l m → In y m → In y l
  still_in y here i = inr i
  still_in y (there k) (inl e) = inl e
  still_in y (there k) (inr i) = inr (still_in y k i)

-- Lists with no element twice and the same members are rearrangements.
pub same_members : (a b : List ℕ) → Distinct a → Distinct b → ((x : ℕ) → In x a → In x b) → ((x : ℕ) → In x b → In x a) → Rearranged a b
same_members [] [] da db h k = done
same_members (y ∷ a) [] da db h k = absurd (h y (inl refl))
same_members a (x ∷ b) da db h k =
    let r = in_pick x a (k x (inl refl)) in
    let q = pick_distinct r.1 da in
    next r.1 (same_members r.0 b q.1 db.1
    (λ y i. other b y (h y (still_in y r.1 i)) (all_in (λ z. x ≢ z) y r.0 q.0 i))
    (λ y i. other r.0 y (pick_in y r.1 (k y (inr i))) (λ e. all_in (λ z. x ≢ z) y b db.0 i e)))
  where
    other : (m : List ℕ) (y : ℕ) → (y ≡ x) ⊎ In y m → (x ≢ y) → In y m
    other m y (inl e) n = absurd (n (sym e))
    other m y (inr i) n = i
