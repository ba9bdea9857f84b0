-- A begun name can become a new name: exactly where the scanner's test says so.
use mathlib.Core.Path.{◌≡◌, refl, sym, ◌∙◌, ap, subst}
use mathlib.Core.Logic.{inl, inr}
use mathlib.Core.Bool.{Bool, true, false, cond}
use mathlib.Core.List.{List, [], ◌∷◌, ◌++◌, map, append-nil, append_cancel_left, head-eq_of_cons-eq, tail-eq_of_cons-eq}
use Prim.Native.Nat.{ℕ, ◌+◌, ◌*◌, ◌≤◌}
use native.Mathlib.Omega.{arith}
use lib.Dec.{eqb, ltb}
use lib.ListN.{length, length-append, length-map}
use borrow.Author.Tests.{eqb-true, eqb-false, eq-eqb, ne_eqb, ltb-true, ltb-false}
use Rattle.spec_orders.specs.Lists.{All, Distinct, In}
use Rattle.spec_orders.proofs.ListLaws.{all_append, all_right}
use Rattle.file_syntax.specs.RingFile.{alphabet, NameByte, Name}
use Rattle.file_syntax.specs.Scanner.{spare, longer, room, New}
use Rattle.file_syntax.proofs.Lists.{in_map, map_in, distinct_map, each, in_each, length_each, distinct_each, pigeonhole}
use Rattle.file_syntax.proofs.Words.{Spare, spare_true, true_spare, no_spare, distinct_alphabet, length-alphabet}

-- t with one byte more, and with two bytes more.
abbrev pub one_more : List ℕ → List (List ℕ)
one_more t = map (λ c. t ++ (c ∷ [])) alphabet

abbrev two_more : List ℕ → List (List ℕ)
two_more t = each (λ c. map (λ d. t ++ (c ∷ (d ∷ []))) alphabet) alphabet

pub longer_7 : (t : List ℕ) → length t ≡ 7 → longer t ≡ t ∷ one_more t
longer_7 t h = rw (eq-eqb (length t) 7 h)

pub longer_8 : (t : List ℕ) → length t ≡ 8 → longer t ≡ t ∷ []
longer_8 t h = rw (ne_eqb (length t) 7 (λ e. absurd (omega arith)), eq-eqb (length t) 8 h)

pub longer_0 : (t : List ℕ) → (length t ≡ 7 → ⊥) → (length t ≡ 8 → ⊥) → longer t ≡ []
longer_0 t h k = rw (ne_eqb (length t) 7 h, ne_eqb (length t) 8 k)

-- 62 × 62 different words begin with t.
many : (t : List ℕ) → length (two_more t) ≡ 62 * 62
many t =
    length_each (λ c. map (λ d. t ++ (c ∷ (d ∷ []))) alphabet) alphabet 62 (λ c. length-map alphabet (λ d. t ++ (c ∷ (d ∷ []))) ∙ length-alphabet)
    ∙ ap (λ k. k * 62) length-alphabet

differ : (t : List ℕ) → Distinct (two_more t)
differ t =
    distinct_each (λ c. map (λ d. t ++ (c ∷ (d ∷ []))) alphabet) alphabet distinct_alphabet
    (λ c. distinct_map (λ d. t ++ (c ∷ (d ∷ []))) alphabet distinct_alphabet (λ x y e. head-eq_of_cons-eq (tail-eq_of_cons-eq (append_cancel_left t _ _ e))))
    (λ x y z i j.
    let p = in_map (λ d. t ++ (x ∷ (d ∷ []))) alphabet z i in
    let q = in_map (λ d. t ++ (y ∷ (d ∷ []))) alphabet z j in
    head-eq_of_cons-eq (append_cancel_left t _ _ (sym p.2 ∙ q.2)))

module _ (ns : List (List ℕ)) (t : List ℕ) (bs : All NameByte t) where
  as_is : 1 ≤ length t → length t ≤ 8 → (In t ns → ⊥) → New ns t
  as_is h k n = record {
    rest = [];
    name = subst Name (sym (append-nil t)) (record { some_byte = h; few_bytes = k; each = bs });
    new = λ i. n (subst (λ z. In z ns) (append-nil t) i);
  }

  with_more : (r : List ℕ) → All NameByte r → 1 ≤ length r → length t + length r ≤ 8 → (In (t ++ r) ns → ⊥) → New ns t
  with_more r h k l n = record {
    rest = r;
    name = record { some_byte = omega (arith, length-append t r); few_bytes = omega (arith, length-append t r); each = all_append NameByte t r bs h };
    new = n;
  }

  pub short : length ns ≤ 255 → length t ≤ 6 → New ns t
  short few h = go (spare ns (two_more t)) refl
    where
      go : (c : Bool) → spare ns (two_more t) ≡ c → New ns t
      go true e =
          let s = spare_true ns (two_more t) e in
          let p = in_each (λ c. map (λ d. t ++ (c ∷ (d ∷ []))) alphabet) alphabet s.one s.candidate in
          let q = in_map (λ d. t ++ (p.0 ∷ (d ∷ []))) alphabet s.one p.2 in
          with_more (p.0 ∷ (q.0 ∷ [])) (p.1, (q.1, tt)) (omega arith) (omega arith) (λ i. s.new (subst (λ z. In z ns) (sym q.2) i))
      go false e = absurd (omega (arith, many t, pigeonhole (two_more t) ns (differ t) (no_spare ns (two_more t) e)))

  at_7 : length t ≡ 7 → Spare ns (t ∷ one_more t) → New ns t
  at_7 h s = go s.candidate
    where
      go : In s.one (t ∷ one_more t) → New ns t
      go (inl e) = as_is (omega arith) (omega arith) (λ i. s.new (subst (λ z. In z ns) (sym e) i))
      go (inr i) =
          let p = in_map (λ c. t ++ (c ∷ [])) alphabet s.one i in
          with_more (p.0 ∷ []) (p.1, tt) (omega arith) (omega arith) (λ j. s.new (subst (λ z. In z ns) (sym p.2) j))

  at_8 : length t ≡ 8 → Spare ns (t ∷ []) → New ns t
  at_8 h s = go s.candidate
    where
      go : In s.one (t ∷ []) → New ns t
      go (inl e) = as_is (omega arith) (omega arith) (λ i. s.new (subst (λ z. In z ns) (sym e) i))
      go (inr i) = absurd i

  long : Spare ns (longer t) → New ns t
  long s = go (eqb (length t) 7) (eqb (length t) 8) refl refl
    where
      go : (c d : Bool) → eqb (length t) 7 ≡ c → eqb (length t) 8 ≡ d → New ns t
      go true d p q = let h = eqb-true (length t) 7 p in at_7 h (subst (λ l. Spare ns l) (longer_7 t h) s)
      go false true p q = let h = eqb-true (length t) 8 q in at_8 h (subst (λ l. Spare ns l) (longer_8 t h) s)
      go false false p q = absurd (subst (λ l. In s.one l) (longer_0 t (eqb-false (length t) 7 p) (eqb-false (length t) 8 q)) s.candidate)

  pub room_new : length ns ≤ 255 → room ns t ≡ true → New ns t
  room_new few e = go (ltb (length t) 7) refl e
    where
      go : (c : Bool) → ltb (length t) 7 ≡ c → cond c true (spare ns (longer t)) ≡ true → New ns t
      go true p h = short few (omega (arith, ltb-true (length t) 7 p))
      go false p h = long (spare_true ns (longer t) h)

pub new_room : (ns : List (List ℕ)) (t : List ℕ) → New ns t → room ns t ≡ true
new_room ns t n = go (ltb (length t) 7) refl
  where
    fits : (r : List ℕ) → 7 ≤ length t → Name (t ++ r) → (In (t ++ r) ns → ⊥) → spare ns (longer t) ≡ true
    fits [] h k m = two (eqb (length t) 7) refl
      where
        m' : In t ns → ⊥
        m' i = m (subst (λ z. In z ns) (sym (append-nil t)) i)

        two : (c : Bool) → eqb (length t) 7 ≡ c → spare ns (longer t) ≡ true
        two true p = rw (longer_7 t (eqb-true (length t) 7 p)) (true_spare ns (t ∷ one_more t) t (inl refl) m')
        two false p = let q = eqb-false (length t) 7 p in rw (longer_8 t (omega (arith, q, k.few_bytes, length-append t []))) (true_spare ns (t ∷ []) t (inl refl) m')
    fits (c ∷ []) h k m =
        let b = all_right NameByte t (c ∷ []) k.each in
        rw (longer_7 t (omega (arith, k.few_bytes, length-append t (c ∷ []))))
        (true_spare ns (t ∷ one_more t) (t ++ (c ∷ [])) (inr (map_in (λ d. t ++ (d ∷ [])) alphabet c b.0)) m)
    fits (c ∷ (d ∷ r)) h k m = absurd (omega (arith, k.few_bytes, length-append t (c ∷ (d ∷ r))))

    go : (c : Bool) → ltb (length t) 7 ≡ c → cond c true (spare ns (longer t)) ≡ true
    go true p = refl
    go false p = fits n.rest (ltb-false (length t) 7 p) n.name n.new
