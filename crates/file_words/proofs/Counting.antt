-- Room for a begun name, by counting: fewer earlier names begin with it than there are names that do.
use mathlib.Core.Path.{◌≡◌, refl, sym, ◌∙◌, ap, subst}
use mathlib.Core.Logic.{◌≢◌, inl, inr}
use mathlib.Core.Bool.{Bool, true, false, cond}
use mathlib.Core.List.{List, [], ◌∷◌, ◌++◌, append-nil, append_cancel_left, head-eq_of_cons-eq}
use Prim.Native.Nat.{ℕ, suc, ◌≤◌}
use native.Mathlib.Omega.{arith}
use lib.Dec.{eqb, ltb}
use lib.ListN.{length, length-append, length-map, take, drop, take-append-drop}
use lib.Seq.{take-append_seam, take_all}
use borrow.Author.Tests.{eqb-true, eqb-false, lt-ltb, le-ltb}
use Rattle.spec_orders.specs.Lists.{All, Distinct, In, same, those_of, begins_with}
use Rattle.spec_orders.proofs.ListLaws.{all_right}
use Rattle.spec_orders.proofs.Members.{all_in, in_all}
use Rattle.spec_orders.proofs.Numbers.{in_those, those_in, those_distinct}
use Rattle.file_syntax.specs.RingFile.{alphabet, NameByte, Name}
use Rattle.file_syntax.specs.Scanner.{spare, longer}
use Rattle.file_syntax.proofs.Lists.{in_map, map_in, distinct_map, pigeonhole}
use Rattle.file_syntax.proofs.Words.{spare_true, no_spare, same_true, same_self, distinct_alphabet, length-alphabet}
use Rattle.file_syntax.proofs.NewNames.{longer_7, longer_8, longer_0, one_more}

module _ (t : List ℕ) where
  -- Seven bytes, eight, or neither.
  three : (P : List (List ℕ) → Type 0) → (length t ≡ 7 → P (t ∷ one_more t)) → (length t ≡ 8 → P (t ∷ []))
      → ((length t ≡ 7 → ⊥) → (length t ≡ 8 → ⊥) → P []) → P (longer t)
  three P f g h = go (eqb (length t) 7) (eqb (length t) 8) refl refl
    where
      go : (c d : Bool) → eqb (length t) 7 ≡ c → eqb (length t) 8 ≡ d → P (longer t)
      go true d p q = let e = eqb-true (length t) 7 p in subst P (sym (longer_7 t e)) (f e)
      go false true p q = let e = eqb-true (length t) 8 q in subst P (sym (longer_8 t e)) (g e)
      go false false p q = let m = eqb-false (length t) 7 p in let n = eqb-false (length t) 8 q in subst P (sym (longer_0 t m n)) (h m n)

  begin_so : (x : List ℕ) → In x (longer t) → take (length t) x ≡ t
  begin_so x = three (λ l. In x l → take (length t) x ≡ t) (λ e. seven) (λ e. eight) (λ m n i. absurd i)
    where
      self : x ≡ t → take (length t) x ≡ t
      self q = ap (λ z. take (length t) z) q ∙ take_all (length t) t (omega arith)

      seven : In x (t ∷ one_more t) → take (length t) x ≡ t
      seven (inl q) = self q
      seven (inr i) = let r = in_map (λ c. t ++ (c ∷ [])) alphabet x i in ap (λ z. take (length t) z) r.2 ∙ take-append_seam t (r.0 ∷ [])

      eight : In x (t ∷ []) → take (length t) x ≡ t
      eight (inl q) = self q
      eight (inr i) = absurd i

  differ_longer : Distinct (longer t)
  differ_longer = three Distinct
      (λ e. (
        in_all (λ y. t ≢ y) (one_more t) (λ y i q. let r = in_map (λ c. t ++ (c ∷ [])) alphabet y i in absurd (omega (arith, ap length (q ∙ r.2), length-append t (r.0 ∷ [])))),
        distinct_map (λ c. t ++ (c ∷ [])) alphabet distinct_alphabet (λ x y q. head-eq_of_cons-eq (append_cancel_left t _ _ q)),
      ))
      (λ e. (tt, tt)) (λ m n. tt)

  in_longer : (x : List ℕ) → 7 ≤ length t → Name x → take (length t) x ≡ t → In x (longer t)
  in_longer x h k e = go (drop (length t) x) (ap (λ z. z ++ drop (length t) x) (sym e) ∙ take-append-drop (length t) x)
    where
      go : (r : List ℕ) → t ++ r ≡ x → In x (longer t)
      go [] q =
          let s : t ≡ x = sym (append-nil t) ∙ q in
          three (λ l. In x l) (λ m. inl (sym s)) (λ m. inl (sym s)) (λ m n. absurd (omega (arith, m, n, ap length s, k.few_bytes)))
      go (c ∷ []) q =
          let l = length-append t (c ∷ []) in
          let s : length t ≡ 7 = omega (arith, ap length q, k.few_bytes) in
          let b = all_right NameByte t (c ∷ []) (subst (λ z. All NameByte z) (sym q) k.each) in
          subst (λ z. In x z) (sym (longer_7 t s)) (inr (subst (λ z. In z (one_more t)) q (map_in (λ d. t ++ (d ∷ [])) alphabet c b.0)))
      go (c ∷ (d ∷ r)) q = absurd (omega (arith, ap length q, k.few_bytes, length-append t (c ∷ (d ∷ r))))

  -- How many names begin with t.
  size_longer : length (longer t) ≡ cond (eqb (length t) 7) 63 (cond (eqb (length t) 8) 1 0)
  size_longer = go (eqb (length t) 7) (eqb (length t) 8)
    where
      go : (c d : Bool) → length (cond c (t ∷ one_more t) (cond d (t ∷ []) [])) ≡ cond c 63 (cond d 1 0)
      go true d = ap suc (length-map alphabet (λ c. t ++ (c ∷ [])) ∙ length-alphabet)
      go false true = refl
      go false false = refl

pub spare_count : (ns : List (List ℕ)) (t : List ℕ) → All Name ns → Distinct ns → 7 ≤ length t
    → spare ns (longer t) ≡ ltb (length (those_of (begins_with t) ns)) (cond (eqb (length t) 7) 63 (cond (eqb (length t) 8) 1 0))
spare_count ns t k d h = go (spare ns (longer t)) refl ∙ ap (λ m. ltb (length (those_of (begins_with t) ns)) m) (size_longer t)
  where
    go : (c : Bool) → spare ns (longer t) ≡ c → c ≡ ltb (length (those_of (begins_with t) ns)) (length (longer t))
    go true e =
        let s = spare_true ns (longer t) e in
        let p = pigeonhole (s.one ∷ those_of (begins_with t) ns) (longer t)
        (in_all (λ y. s.one ≢ y) (those_of (begins_with t) ns) (λ y i q. s.new (subst (λ z. In z ns) (sym q) (in_those (begins_with t) ns y i).1)), those_distinct (begins_with t) ns d)
        (sub s.one s.candidate) in
        sym (lt-ltb (length (those_of (begins_with t) ns)) (length (longer t)) (omega (arith, p)))
      where
        sub : (o : List ℕ) → In o (longer t) → (x : List ℕ) → In x (o ∷ those_of (begins_with t) ns) → In x (longer t)
        sub o j x (inl q) = subst (λ z. In z (longer t)) (sym q) j
        sub o j x (inr i) = let r = in_those (begins_with t) ns x i in in_longer t x h (all_in Name x ns k r.1) (same_true (take (length t) x) t r.0)
    go false e =
        let p = pigeonhole (longer t) (those_of (begins_with t) ns) (differ_longer t) (λ x i. those_in (begins_with t) ns x (ap (λ z. same z t) (begin_so t x i) ∙ same_self t) (no_spare ns (longer t) e x i)) in
        sym (le-ltb (length (those_of (begins_with t) ns)) (length (longer t)) (omega (arith, p)))
