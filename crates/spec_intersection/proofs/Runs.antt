-- A set of elements that stands together in a list.
use mathlib.Core.Path.{◌∙◌, ◌≡◌, ap, ap₂, refl, subst, sym}
use mathlib.Core.Logic.{◌⊎◌, inl, inr}
use mathlib.Core.List.{List, [], ◌++◌, ◌∷◌, append_assoc, head-eq_of_cons-eq, reverse, reverse-append, reverse-reverse, tail-eq_of_cons-eq}
use Prim.Native.Nat.{ℕ}
use Rattle.spec_orders.specs.Lists.{Distinct, In, Rearranged}
use Rattle.spec_orders.proofs.Rearranged.{perm_refl, perm_trans, perm_sym, perm_append, perm_swap, perm_distinct}
use Rattle.spec_orders.proofs.Members.{NonEmpty, in_left, in_right, in_append, perm_in, distinct_left, distinct_right, apart, perm_reverse, Later, cut}
use Rattle.spec_intersection.proofs.Lists.{perm_cancel, member, same_members}

-- The members of L, in some sequence, are one stretch of xs.
pub record Run (L xs : List ℕ) : Type 0 where
  pub left : List ℕ
  pub run : List ℕ
  pub right : List ℕ
  pub parts : xs ≡ left ++ (run ++ right)
  pub members : Rearranged L run

pub run-left : (L xs ys : List ℕ) → Run L xs → Run L (xs ++ ys)
run-left L xs ys r = record { left = r.left; run = r.run; right = r.right ++ ys; parts = ap (λ l. l ++ ys) r.parts ∙ simp append_assoc; members = r.members }

pub run-right : (L xs ys : List ℕ) → Run L ys → Run L (xs ++ ys)
run-right L xs ys r = record { left = xs ++ r.left; run = r.run; right = r.right; parts = ap (λ l. xs ++ l) r.parts ∙ simp append_assoc; members = r.members }

pub run_perm : (L M xs : List ℕ) → Rearranged L M → Run L xs → Run M xs
run_perm L M xs p r = record { left = r.left; run = r.run; right = r.right; parts = r.parts; members = perm_trans (perm_sym p) r.members }

run_mirror : (L xs : List ℕ) → Run L xs → Run L (reverse xs)
run_mirror L xs r =
    record {
      left = reverse r.right;
      run = reverse r.run;
      right = reverse r.left;
      parts = ap reverse r.parts ∙ reverse-append r.left (r.run ++ r.right) ∙ ap (λ l. l ++ reverse r.left) (reverse-append r.run r.right) ∙ append_assoc (reverse r.right) (reverse r.run) (reverse r.left);
      members = perm_trans r.members (perm_reverse r.run);
    }

pub run_unmirror : (L xs : List ℕ) → Run L (reverse xs) → Run L xs
run_unmirror L xs r = subst (Run L) (reverse-reverse xs) (run_mirror L (reverse xs) r)

-- What is not of L may go.
drop-one : (L : List ℕ) (x : ℕ) (xs l r s : List ℕ) → x ∷ xs ≡ l ++ (r ++ s) → Rearranged L r → (In x L → ⊥) → Run L xs
drop-one L x xs [] [] s e p h = record { left = []; run = []; right = xs; parts = refl; members = p }
drop-one L x xs [] (y ∷ r) s e p h = absurd (h (perm_in x (perm_sym p) (inl (head-eq_of_cons-eq e))))
drop-one L x xs (z ∷ l) r s e p h = record { left = l; run = r; right = s; parts = tail-eq_of_cons-eq e; members = p }

pub run_drop : (L b c : List ℕ) → Run L (b ++ c) → ((x : ℕ) → In x b → In x L → ⊥) → Run L c
run_drop L [] c r h = r
run_drop L (x ∷ b) c r h = run_drop L b c (drop-one L x (b ++ c) r.left r.run r.right r.parts r.members (h x (inl refl))) (λ y i. h y (inr i))

pub run_keep : (L b c : List ℕ) → Run L (b ++ c) → ((x : ℕ) → In x c → In x L → ⊥) → Run L b
run_keep L b c r h =
    run_unmirror L b (run_drop L (reverse c) (reverse b) (subst (Run L) (reverse-append b c) (run_mirror L (b ++ c) r)) (λ x i. h x (perm_in x (perm_sym (perm_reverse c)) i)))

-- A run that has the first element is at the front.
pub record Front (L xs : List ℕ) : Type 0 where
  pub run : List ℕ
  pub right : List ℕ
  pub parts : xs ≡ run ++ right
  pub members : Rearranged L run

front_at : (L : List ℕ) (x : ℕ) (xs l r s : List ℕ) → x ∷ xs ≡ l ++ (r ++ s) → Rearranged L r → In x L → Distinct (x ∷ xs) → Front L (x ∷ xs)
front_at L x xs [] r s e p h d = record { run = r; right = s; parts = e; members = p }
front_at L x xs (z ∷ l) r s e p h d =
    absurd (apart z (z ∷ l) (r ++ s) (subst Distinct e d) (inl refl) (in_left z r s (perm_in z p (subst (λ y. In y L) (head-eq_of_cons-eq e) h))))

pub run_front : (L : List ℕ) (x : ℕ) (xs : List ℕ) → Run L (x ∷ xs) → In x L → Distinct (x ∷ xs) → Front L (x ∷ xs)
run_front L x xs r h d = front_at L x xs r.left r.run r.right r.parts r.members h d

-- X with Y, and Y with Z, stand together: so does each, and so do all three.
pub record Three (X Y Z xs : List ℕ) : Type 0 where
  pub first : Run X xs
  pub second : Run Y xs
  pub third : Run Z xs
  pub whole : Run (X ++ (Y ++ Z)) xs

placed : (X Y Z p w v z q : List ℕ) → Rearranged (X ++ Y) (w ++ v) → Rearranged (Y ++ Z) (v ++ z) → Distinct (p ++ (w ++ (v ++ (z ++ q)))) → Distinct (X ++ (Y ++ Z)) → Three X Y Z (p ++ (w ++ (v ++ (z ++ q))))
placed X Y Z p w v z q a b d e = record {
  first = run-right X p _ (record { left = []; run = w; right = v ++ (z ++ q); parts = refl; members = pw });
  second = run-right Y p _ (record { left = w; run = v; right = z ++ q; parts = refl; members = pv });
  third = run-right Z p _ (record { left = w ++ v; run = z; right = q; parts = sym (append_assoc w v (z ++ q)); members = pz });
  whole = run-right (X ++ (Y ++ Z)) p _ (record { left = []; run = w ++ (v ++ z); right = q; parts = simp append_assoc; members = perm_append pw (perm_append pv pz) });
}
  where
    dw : Distinct (w ++ (v ++ (z ++ q)))
    dw = distinct_right p (w ++ (v ++ (z ++ q))) d

    of_X : (x : ℕ) → In x w → In x X ⊎ In x Y → In x X
    of_X x i (inl j) = j
    of_X x i (inr j) = absurd (apart x w (v ++ (z ++ q)) dw i (subst (In x) (append_assoc v z q) (in_left x (v ++ z) q (perm_in x b (in_left x Y Z j)))))

    of_w : (x : ℕ) → In x X → In x w ⊎ In x v → In x w
    of_w x i (inl j) = j
    of_w x i (inr j) = absurd (apart x X (Y ++ Z) e i (perm_in x (perm_sym b) (in_left x v z j)))

    pw : Rearranged X w
    pw = same_members X w (distinct_left X (Y ++ Z) e) (distinct_left w (v ++ (z ++ q)) dw)
        (λ x i. of_w x i (in_append x w v (perm_in x a (in_left x X Y i))))
        (λ x i. of_X x i (in_append x X Y (perm_in x (perm_sym a) (in_left x w v i))))

    pv : Rearranged Y v
    pv = perm_cancel w (perm_trans (perm_append (perm_sym pw) (perm_refl Y)) a)

    pz : Rearranged Z z
    pz = perm_cancel v (perm_trans (perm_append (perm_sym pv) (perm_refl Z)) b)

-- The run of X and Y begins first.
begins : (X Y Z xs a r c w r' c' : List ℕ) → xs ≡ a ++ (r ++ c) → r ++ c ≡ w ++ (r' ++ c') → Rearranged (X ++ Y) r → Rearranged (Y ++ Z) r' → NonEmpty Y → NonEmpty Z → Distinct xs → Distinct (X ++ (Y ++ Z)) → Three X Y Z xs
begins X Y Z xs a r c w r' c' e e' p q hy hz d dx = go (cut r w e')
  where
    go2 : (v : List ℕ) → r ≡ w ++ v → Later r' c' v c ⊎ Later v c r' c' → Three X Y Z xs
    go2 v h (inl k) =
        let z = member Z hz in
        let i : In z.0 r = subst (In z.0) (sym h) (in_right z.0 w v (subst (In z.0) (sym k.1) (in_left z.0 r' k.0 (perm_in z.0 q (in_right z.0 Y Z z.1))))) in
        absurd (apart z.0 (X ++ Y) Z (rw append_assoc dx) (perm_in z.0 (perm_sym p) i) z.1)
    go2 v h (inr k) =
        let f : xs ≡ a ++ (w ++ (v ++ (k.0 ++ c'))) = e ∙ ap (λ l. a ++ l) (ap₂ ◌++◌ h k.2 ∙ append_assoc w v (k.0 ++ c')) in
        subst (Three X Y Z) (sym f) (placed X Y Z a w v k.0 c' (subst (Rearranged (X ++ Y)) h p) (subst (Rearranged (Y ++ Z)) k.1 q) (subst Distinct f d) dx)

    go : Later r c w (r' ++ c') ⊎ Later w (r' ++ c') r c → Three X Y Z xs
    go (inl k) =
        let y = member Y hy in
        let f : xs ≡ a ++ (r ++ (k.0 ++ (r' ++ c'))) = e ∙ ap (λ l. a ++ (r ++ l)) k.2 in
        absurd (apart y.0 r (k.0 ++ (r' ++ c')) (distinct_right a (r ++ (k.0 ++ (r' ++ c'))) (subst Distinct f d)) (perm_in y.0 p (in_right y.0 X Y y.1))
        (in_right y.0 k.0 (r' ++ c') (in_left y.0 r' c' (perm_in y.0 q (in_left y.0 Y Z y.1)))))
    go (inr k) = go2 k.0 k.1 (cut r' k.0 k.2)

turn_three : (X Y Z : List ℕ) → Rearranged (X ++ (Y ++ Z)) (Z ++ (Y ++ X))
turn_three X Y Z = perm_trans (perm_swap X (Y ++ Z)) (subst (λ l. Rearranged l (Z ++ (Y ++ X))) (sym (append_assoc Y Z X)) (subst (λ l. Rearranged (Y ++ (Z ++ X)) l) (append_assoc Z Y X) (subst (λ l. Rearranged l ((Z ++ Y) ++ X)) (append_assoc Y Z X) (perm_append (perm_swap Y Z) (perm_refl X)))))

pub run_three : (X Y Z xs : List ℕ) → Run (X ++ Y) xs → Run (Y ++ Z) xs → NonEmpty X → NonEmpty Y → NonEmpty Z → Distinct xs → Distinct (X ++ (Y ++ Z)) → Three X Y Z xs
run_three X Y Z xs a b hx hy hz d dx = go (cut a.left b.left (sym a.parts ∙ b.parts))
  where
    go : Later a.left (a.run ++ a.right) b.left (b.run ++ b.right) ⊎ Later b.left (b.run ++ b.right) a.left (a.run ++ a.right) → Three X Y Z xs
    go (inl k) = begins X Y Z xs a.left a.run a.right k.0 b.run b.right a.parts k.2 a.members b.members hy hz d dx
    go (inr k) =
        let t = begins Z Y X xs b.left b.run b.right k.0 a.run a.right b.parts k.2 (perm_trans (perm_swap Z Y) b.members) (perm_trans (perm_swap Y X) a.members) hy hx d (perm_distinct (turn_three X Y Z) dx) in
        record { first = t.third; second = t.second; third = t.first; whole = run_perm (Z ++ (Y ++ X)) (X ++ (Y ++ Z)) xs (turn_three Z Y X) t.whole }
