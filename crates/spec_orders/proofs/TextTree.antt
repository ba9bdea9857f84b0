-- A tree text has one tree, whatever its shape, and the text of a tree in form for up to 256 leaves fits 2,048 bytes.
-- A tree has one text: `tree_text` is a function.
use mathlib.Core.Path.{◌≡◌, refl, sym, ◌∙◌, ap, ap₂, subst}
use mathlib.Core.List.{List, [], ◌∷◌, ◌++◌, append_assoc, head-eq_of_cons-eq, tail-eq_of_cons-eq}
use Prim.Native.Nat.{ℕ, zero, suc, ◌+◌, ◌*◌, ◌-◌, ◌≤◌, ◌<◌}
use native.Mathlib.Omega.{arith}
use lib.ListN.{length, length-append}
use Rattle.spec_orders.specs.Lists.{All, numbers_from}
use Rattle.spec_orders.specs.CircularOrder.{others}
use Rattle.spec_orders.specs.Tree.{Kind, P, C, Forest, nil, leaf, node, frontier}
use Rattle.spec_orders.specs.Form.{InForm, nodes}
use Rattle.spec_orders.specs.TreeText.{digits, letter, text, more, tree_text}
use Rattle.spec_orders.proofs.ListLaws.{all_left, all_right, all_map}
use Rattle.spec_orders.proofs.Rearranged.{perm_all, perm_length}
use Rattle.spec_orders.proofs.Members.{NonEmpty}
use Rattle.spec_orders.proofs.Numbers.{numbers_length}
use Rattle.spec_orders.proofs.Forms.{form_forked, nodes_bound}
use Rattle.spec_orders.proofs.Digits.{Digit, digits_all, digits_nonempty, digits_injective, digits-length}

-- No digit comes first.
abbrev pub Stop : List ℕ → Type 0
Stop [] = Unit {0}
Stop (d ∷ y) = Digit d → ⊥

more_stop : (f : Forest) (r : List ℕ) → Stop (more f ++ (41 ∷ r))
more_stop nil r = λ d. omega arith
more_stop (leaf b f) r = λ d. omega arith
more_stop (node k i f) r = λ d. omega arith

-- Where the digits end.
split : (a b : List ℕ) → All Digit a → All Digit b → (y z : List ℕ) → Stop y → Stop z → a ++ y ≡ b ++ z → (a ≡ b) × (y ≡ z)
split [] [] h g y z s t e = (refl, e)
split [] (d ∷ b) h g [] z s t e = absurd (let n : ◌≡◌ {A = ℕ} 0 1 = cc in omega arith)
split [] (d ∷ b) h g (c ∷ y) z s t e = absurd (s (subst Digit (sym (head-eq_of_cons-eq e)) g.0))
split (d ∷ a) [] h g y [] s t e = absurd (let n : ◌≡◌ {A = ℕ} 0 1 = cc in omega arith)
split (d ∷ a) [] h g y (c ∷ z) s t e = absurd (t (subst Digit (head-eq_of_cons-eq e) h.0))
split (d ∷ a) (c ∷ b) h g y z s t e =
    let r = split a b h.1 g.1 y z s t (tail-eq_of_cons-eq e) in
    (ap₂ ◌∷◌ (head-eq_of_cons-eq e) r.0, r.1)

letter_injective : (j k : Kind) → letter j ≡ letter k → j ≡ k
letter_injective P P e = refl
letter_injective P C e = absurd (omega arith)
letter_injective C P e = absurd (omega arith)
letter_injective C C e = refl

-- A number does not begin with another byte.
not_digits : (m b : ℕ) → (Digit b → ⊥) → (x y : List ℕ) → b ∷ x ≡ digits m ++ y → ⊥
not_digits m b h x y e = go (digits m) (digits_nonempty m) (digits_all m) e
  where
    go : (l : List ℕ) → NonEmpty l → All Digit l → b ∷ x ≡ l ++ y → ⊥
    go (d ∷ l) f a i = h (subst Digit (sym (head-eq_of_cons-eq i)) a.0)
    go [] f a i = elim f [ ]

letter_not : (k : Kind) → Digit (letter k) → ⊥
letter_not P d = omega arith
letter_not C d = omega arith

letter_41 : (k : Kind) → 41 ≡ letter k → ⊥
letter_41 P e = omega arith
letter_41 C e = omega arith

abbrev Same : Forest → Forest → List ℕ → List ℕ → Type 0
Same f g r s = (f ≡ g) × (r ≡ s)

leaf_same : (b c : ℕ) (f g : Forest) (r s : List ℕ) → (more f ++ (41 ∷ r) ≡ more g ++ (41 ∷ s) → Same f g r s)
    → digits b ++ (more f ++ (41 ∷ r)) ≡ digits c ++ (more g ++ (41 ∷ s)) → Same (leaf b f) (leaf c g) r s
leaf_same b c f g r s rec e =
    let q = split (digits b) (digits c) (digits_all b) (digits_all c) _ _ (more_stop f r) (more_stop g s) e in
    let t = rec q.1 in
    (ap₂ leaf (digits_injective b c q.0) t.0, t.1)

node_same : (j k : Kind) (h i f g : Forest) (r s : List ℕ) → letter j ≡ letter k → Same h i (more f ++ (41 ∷ r)) (more g ++ (41 ∷ s))
    → (more f ++ (41 ∷ r) ≡ more g ++ (41 ∷ s) → Same f g r s) → Same (node j h f) (node k i g) r s
node_same j k h i f g r s l q rec =
    let t = rec q.1 in
    (ap (λ w. node w h f) (letter_injective j k l) ∙ ap (λ w. node k w f) q.0 ∙ ap (node k i) t.0, t.1)

-- Two texts, each with a bracket after it, that are one list of bytes.
mutual
  text_same : (f g : Forest) (r s : List ℕ) → text f ++ (41 ∷ r) ≡ text g ++ (41 ∷ s) → Same f g r s
  text_same nil nil r s e = (refl, tail-eq_of_cons-eq e)
  text_same nil (leaf c g) r s e = absurd (not_digits c 41 (λ d. omega arith) _ _ (e ∙ append_assoc (digits c) (more g) (41 ∷ s)))
  text_same nil (node k i g) r s e = absurd (letter_41 k (head-eq_of_cons-eq e))
  text_same (leaf b f) nil r s e = absurd (not_digits b 41 (λ d. omega arith) _ _ (sym e ∙ append_assoc (digits b) (more f) (41 ∷ r)))
  text_same (leaf b f) (leaf c g) r s e =
      leaf_same b c f g r s (λ h. more_same f g r s h) (sym (append_assoc (digits b) (more f) (41 ∷ r)) ∙ e ∙ append_assoc (digits c) (more g) (41 ∷ s))
  text_same (leaf b f) (node k i g) r s e = absurd (not_digits b (letter k) (letter_not k) _ _ (sym e ∙ append_assoc (digits b) (more f) (41 ∷ r)))
  text_same (node j h f) nil r s e = absurd (letter_41 j (sym (head-eq_of_cons-eq e)))
  text_same (node j h f) (leaf c g) r s e = absurd (not_digits c (letter j) (letter_not j) _ _ (e ∙ append_assoc (digits c) (more g) (41 ∷ s)))
  text_same (node j h f) (node k i g) r s e =
      node_same j k h i f g r s (head-eq_of_cons-eq e)
      (text_same h i (more f ++ (41 ∷ r)) (more g ++ (41 ∷ s))
      (sym (append_assoc (text h) (41 ∷ more f) (41 ∷ r)) ∙ tail-eq_of_cons-eq (tail-eq_of_cons-eq e) ∙ append_assoc (text i) (41 ∷ more g) (41 ∷ s)))
      (λ q. more_same f g r s q)

  more_same : (f g : Forest) (r s : List ℕ) → more f ++ (41 ∷ r) ≡ more g ++ (41 ∷ s) → Same f g r s
  more_same nil nil r s e = (refl, tail-eq_of_cons-eq e)
  more_same nil (leaf c g) r s e = absurd (let z = head-eq_of_cons-eq e in omega arith)
  more_same nil (node k i g) r s e = absurd (let z = head-eq_of_cons-eq e in omega arith)
  more_same (leaf b f) nil r s e = absurd (let z = head-eq_of_cons-eq e in omega arith)
  more_same (leaf b f) (leaf c g) r s e =
      leaf_same b c f g r s (λ h. more_same f g r s h) (sym (append_assoc (digits b) (more f) (41 ∷ r)) ∙ tail-eq_of_cons-eq e ∙ append_assoc (digits c) (more g) (41 ∷ s))
  more_same (leaf b f) (node k i g) r s e = absurd (not_digits b (letter k) (letter_not k) _ _ (sym (tail-eq_of_cons-eq e) ∙ append_assoc (digits b) (more f) (41 ∷ r)))
  more_same (node j h f) nil r s e = absurd (let z = head-eq_of_cons-eq e in omega arith)
  more_same (node j h f) (leaf c g) r s e = absurd (not_digits c (letter j) (letter_not j) _ _ (tail-eq_of_cons-eq e ∙ append_assoc (digits c) (more g) (41 ∷ s)))
  more_same (node j h f) (node k i g) r s e =
      node_same j k h i f g r s (head-eq_of_cons-eq (tail-eq_of_cons-eq e))
      (text_same h i (more f ++ (41 ∷ r)) (more g ++ (41 ∷ s))
      (sym (append_assoc (text h) (41 ∷ more f) (41 ∷ r)) ∙ tail-eq_of_cons-eq (tail-eq_of_cons-eq (tail-eq_of_cons-eq e)) ∙ append_assoc (text i) (41 ∷ more g) (41 ∷ s)))
      (λ q. more_same f g r s q)

pub text_injective : (t u : Forest) → tree_text t ≡ tree_text u → t ≡ u
unfolding tree_text
text_injective t u e = (more_same t u [] [] (ap (λ l. l ++ (41 ∷ [])) (tail-eq_of_cons-eq e))).0

-- The leaves of a tree in form for n leaves are at most n.
numbers_most : (a k n : ℕ) → a + k ≤ suc n → All (λ b. b ≤ n) (numbers_from a k)
numbers_most a zero n h = tt
numbers_most a (suc k) n h = (omega arith, numbers_most (suc a) k n (omega arith))

others_most : (n : ℕ) → All (λ b. b ≤ n) (others n)
others_most zero = tt
others_most (suc n) = numbers_most 2 n (suc n) (omega arith)

pub leaves_most : (n : ℕ) (t : Forest) → InForm n t → All (λ b. b ≤ n) (frontier t)
leaves_most n t h = perm_all (λ b. b ≤ n) h.all_leaves (others_most n)

pub form_length : (n : ℕ) (t : Forest) → InForm n t → length (frontier t) ≡ n - 1
form_length zero t h = omega (arith, perm_length h.all_leaves)
form_length (suc n) t h = omega (arith, perm_length h.all_leaves, numbers_length 2 n)

-- A leaf prints at most three digits and a space; a node a letter, two brackets and a space.
abbrev Small : Forest → Type 0
Small f = All (λ b. b < 1000) (frontier f)

abbrev room : Forest → ℕ
room f = 4 * length (frontier f) + 4 * nodes f

mutual
  text-room : (f : Forest) → Small f → length (text f) ≤ room f
  text-room nil h = omega arith
  text-room (leaf b f) h = omega (arith, length-append (digits b) (more f), digits-length b h.0, more_room f h.1)
  text-room (node k i f) h =
      let r = text-room i (all_left (λ b. b < 1000) (frontier i) (frontier f) h) in
      let s = more_room f (all_right (λ b. b < 1000) (frontier i) (frontier f) h) in
      omega (arith, length-append (frontier i) (frontier f), length-append (text i) (41 ∷ more f))

  more_room : (f : Forest) → Small f → length (more f) ≤ room f
  more_room nil h = omega arith
  more_room (leaf b f) h = omega (arith, length-append (digits b) (more f), digits-length b h.0, more_room f h.1)
  more_room (node k i f) h =
      let r = text-room i (all_left (λ b. b < 1000) (frontier i) (frontier f) h) in
      let s = more_room f (all_right (λ b. b < 1000) (frontier i) (frontier f) h) in
      omega (arith, length-append (frontier i) (frontier f), length-append (text i) (41 ∷ more f))

pub text-length : (n : ℕ) (t : Forest) → InForm n t → n ≤ 256 → length (tree_text t) ≤ 2048
unfolding tree_text
text-length n t h l =
    let r = more_room t (all_map (λ b. b ≤ n) (λ b. b < 1000) (λ b m. omega arith) (frontier t) (leaves_most n t h)) in
    omega (arith, nodes_bound t (form_forked n t h), form_length n t h)
