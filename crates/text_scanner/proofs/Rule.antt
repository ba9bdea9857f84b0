-- The walk along the tree finds the least byte at which a rule is broken.
use mathlib.Core.Path.{◌≡◌, ap}
use mathlib.Core.Logic.{◌⊎◌, inl, inr}
use mathlib.Core.Bool.{true, false, ◌&&◌}
use mathlib.Core.List.{◌∷◌}
use Prim.Native.Nat.{ℕ, suc, ◌+◌, ◌≤◌}
use native.Mathlib.Omega.{arith}
use borrow.Author.Tests.{ltb-true, ltb-false, ne_eqb}
use lib.Dec.{ltb}
use lib.ListN.{length, length-append}
use Rattle.spec_orders.specs.Tree.{Kind, P, C, Forest, nil, leaf, node, items, rev}
use Rattle.spec_orders.specs.Form.{first}
use Rattle.spec_orders.specs.TreeText.{digits, text, more, Breaks, leaf_falls, node_falls, wrong_way, inside, after_leaf, after_node}
use Rattle.text_scanner.specs.Rule.{is_p, is_c, or_else, broken_at}
use Rattle.text_scanner.proofs.Language.{more_text}
use Rattle.spec_orders.proofs.Tests.{cond_cases}

-- Every such byte lies in the text.
breaks_low : {k : Kind} {m o p : ℕ} {f : Forest} → Breaks k m o f p → o ≤ p
breaks_low (leaf_falls h) = omega arith
breaks_low (node_falls h) = omega arith
breaks_low (wrong_way h) = omega arith
breaks_low (inside w) = omega (arith, breaks_low w)
breaks_low (after_leaf {b = b} w) = omega (arith, breaks_low w)
breaks_low (after_node {i = i} w) = omega (arith, breaks_low w)

breaks_some : {k : Kind} {m o p : ℕ} {f : Forest} → Breaks k m o f p → 1 ≤ length (items f)
breaks_some (leaf_falls h) = omega arith
breaks_some (node_falls h) = omega arith
breaks_some (wrong_way h) = omega arith
breaks_some (inside w) = omega arith
breaks_some (after_leaf w) = omega arith
breaks_some (after_node w) = omega arith

length_more : (f : Forest) → 1 ≤ length (items f) → length (more f) ≡ suc (length (text f))
length_more f h = ap length (more_text f h)

breaks_high : {k : Kind} {m o p : ℕ} {f : Forest} → Breaks k m o f p → p ≤ o + length (text f)
breaks_high (leaf_falls h) = omega arith
breaks_high (node_falls h) = omega arith
breaks_high (wrong_way h) = omega arith
breaks_high (inside {i = i} {f = f} w) = omega (arith, breaks_high w, length-append (text i) (41 ∷ more f))
breaks_high (after_leaf {b = b} {f = f} w) = omega (arith, breaks_high w, length-append (digits b) (more f), length_more f (breaks_some w))
breaks_high (after_node {i = i} {f = f} w) = omega (arith, breaks_high w, length-append (text i) (41 ∷ more f), length_more f (breaks_some w))

-- 0 where no rule is broken; else the least byte.
pub data Least (k : Kind) (m o : ℕ) (f : Forest) : ℕ → Type 0 where
  fine : ((p : ℕ) → Breaks k m o f p → ⊥) → Least k m o f 0
  worst : (p : ℕ) → 1 ≤ p → Breaks k m o f p → ((q : ℕ) → Breaks k m o f q → p ≤ q) → Least k m o f p

no_way : {A : Type 0} → false ≡ true → A
no_way e = absurd (let z : ◌≡◌ {A = ℕ} 0 1 = cc in omega arith)

leaf_less : (k : Kind) (m o b : ℕ) (f : Forest) → is_p k && ltb b m ≡ true → Breaks k m o (leaf b f) o
leaf_less P m o b f e = leaf_falls (ltb-true b m e)
leaf_less C m o b f e = no_way e

node_less : (k j : Kind) (m o : ℕ) (i f : Forest) → is_p k && ltb (first i) m ≡ true → Breaks k m o (node j i f) o
node_less P j m o i f e = node_falls (ltb-true (first i) m e)
node_less C j m o i f e = no_way e

node_turned : (k j : Kind) (m o : ℕ) (i f : Forest) → is_c j && ltb (first (rev i)) (first i) ≡ true → Breaks k m o (node j i f) (o + 2)
node_turned k P m o i f e = no_way e
node_turned k C m o i f e = wrong_way (ltb-true (first (rev i)) (first i) e)

leaf_back : {k : Kind} {m o p b : ℕ} {f : Forest} → is_p k && ltb b m ≡ false → Breaks k m o (leaf b f) p → Breaks k b (o + length (digits b) + 1) f p
leaf_back {m = m} {b = b} e (leaf_falls h) = absurd (omega (arith, ltb-false b m e))
leaf_back e (after_leaf w) = w

node_two : {k j : Kind} {m o p : ℕ} {i f : Forest} → is_p k && ltb (first i) m ≡ false → Breaks k m o (node j i f) p → o + 2 ≤ p
node_two {m = m} {i = i} e (node_falls h) = absurd (omega (arith, ltb-false (first i) m e))
node_two e (wrong_way h) = omega arith
node_two e (inside w) = breaks_low w
node_two {i = i} e (after_node w) = omega (arith, breaks_low w)

node_back : {k j : Kind} {m o p : ℕ} {i f : Forest} → is_p k && ltb (first i) m ≡ false → is_c j && ltb (first (rev i)) (first i) ≡ false
    → Breaks k m o (node j i f) p → Breaks j 0 (o + 2) i p ⊎ Breaks k (first i) (o + length (text i) + 4) f p
node_back {m = m} {i = i} e d (node_falls h) = absurd (omega (arith, ltb-false (first i) m e))
node_back {i = i} e d (wrong_way h) = absurd (omega (arith, ltb-false (first (rev i)) (first i) d))
node_back e d (inside w) = inl w
node_back e d (after_node w) = inr w

leaf_least : (b : ℕ) (f : Forest) (k : Kind) (m o : ℕ) → is_p k && ltb b m ≡ false → (a : ℕ) → Least k b (o + length (digits b) + 1) f a → Least k m o (leaf b f) a
leaf_least b f k m o e _ (fine h) = fine (λ p w. h p (leaf_back e w))
leaf_least b f k m o e _ (worst p s w l) = worst p s (after_leaf w) (λ q v. l q (leaf_back e v))

module _ (j : Kind) (i f : Forest) (k : Kind) (m o : ℕ) (e : is_p k && ltb (first i) m ≡ false) (d : is_c j && ltb (first (rev i)) (first i) ≡ false) where
  node_least : (a c : ℕ) → Least j 0 (o + 2) i a → Least k (first i) (o + length (text i) + 4) f c → Least k m o (node j i f) (or_else a c)
  node_least _ _ (fine h) (fine g) = fine (λ p w. go p (node_back e d w))
    where
      go : (p : ℕ) → Breaks j 0 (o + 2) i p ⊎ Breaks k (first i) (o + length (text i) + 4) f p → ⊥
      go p (inl w) = h p w
      go p (inr w) = g p w
  node_least _ _ (fine h) (worst p s w l) = worst p s (after_node w) (λ q v. go q (node_back e d v))
    where
      go : (q : ℕ) → Breaks j 0 (o + 2) i q ⊎ Breaks k (first i) (o + length (text i) + 4) f q → p ≤ q
      go q (inl v) = absurd (h q v)
      go q (inr v) = l q v
  node_least _ c (worst p s w l) g = rw (ne_eqb p 0 (omega arith)) (worst p s (inside w) (λ q v. go q (node_back e d v)))
    where
      go : (q : ℕ) → Breaks j 0 (o + 2) i q ⊎ Breaks k (first i) (o + length (text i) + 4) f q → p ≤ q
      go q (inl v) = l q v
      go q (inr v) = omega (arith, breaks_high w, breaks_low v)

pub broken_least : (f : Forest) (k : Kind) (m o : ℕ) → 1 ≤ o → Least k m o f (broken_at k m o f)
unfolding broken_at
broken_least nil k m o s = fine (λ p w. omega (arith, breaks_some w))
broken_least (leaf b f) k m o s =
    cond_cases (is_p k && ltb b m) _ _ (Least k m o (leaf b f))
    (λ y. worst o s (leaf_less k m o b f y) (λ q w. breaks_low w))
    (λ n. leaf_least b f k m o n _ (broken_least f k b (o + length (digits b) + 1) (omega arith)))
broken_least (node j i f) k m o s =
    cond_cases (is_p k && ltb (first i) m) _ _ (Least k m o (node j i f))
    (λ y. worst o s (node_less k j m o i f y) (λ q w. breaks_low w))
    (λ n. cond_cases (is_c j && ltb (first (rev i)) (first i)) _ _ (Least k m o (node j i f))
    (λ y. worst (o + 2) (omega arith) (node_turned k j m o i f y) (λ q w. node_two n w))
    (λ d. node_least j i f k m o n d _ _ (broken_least i j 0 (o + 2) (omega arith)) (broken_least f k (first i) (o + length (text i) + 4) (omega arith))))
