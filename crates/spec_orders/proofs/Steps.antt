-- One step down the path to the leaf r.
use mathlib.Core.Path.{◌≡◌, refl, sym, ap, ◌∙◌}
use mathlib.Core.Logic.{inl, inr}
use mathlib.Core.Bool.{Bool, true, false, cond}
use Prim.Native.Nat.{ℕ}
use borrow.Author.Tests.{eqb-true, eq-eqb}
use lib.Dec.{eqb}
use Rattle.spec_orders.specs.Lists.{In, elem}
use Rattle.spec_orders.specs.Tree.{Kind, Forest, nil, leaf, node, Item, leaf_item, node_item, append, frontier}
use Rattle.spec_orders.specs.Reduce.{put}
use Rattle.spec_orders.proofs.Laws.{forest_assoc, forest_nil, leaves_of}
use Rattle.spec_orders.proofs.Members.{in_left, in_right, elem_in, in_elem}
use Rattle.spec_orders.specs.SeenFrom.{place, walk, sees}

module _ (r : ℕ) where
  cond_no : (c : Bool) (x y : Item) → (c ≡ true → ⊥) → cond c x y ≡ y
  cond_no true x y h = absurd (h refl)
  cond_no false x y h = refl

  skip : (k : Kind) (u : Item) (c a f : Forest) → (In r (frontier a) → ⊥) → walk r k u c (append a f) ≡ walk r k u (append c a) f
  skip k u c nil f n = ap (λ (g : Forest). walk r k u g f) (sym (forest_nil c))
  skip k u c (leaf b a) f n =
      cond_no (eqb r b) (node_item k (place k u c (append a f))) (walk r k u (append c (leaf b nil)) (append a f)) (λ y. n (inl (eqb-true r b y)))
      ∙ skip k u (append c (leaf b nil)) a f (λ i. n (inr i))
      ∙ ap (λ (g : Forest). walk r k u g f) (forest_assoc c (leaf b nil) a)
  skip k u c (node l i a) f n =
      cond_no (elem (frontier i) r) (walk r l (node_item k (place k u c (append a f))) nil i) (walk r k u (append c (node l i nil)) (append a f)) (λ y. n (in_left r (frontier i) (frontier a) (elem_in (frontier i) r y)))
      ∙ skip k u (append c (node l i nil)) a f (λ m. n (in_right r (frontier i) (frontier a) m))
      ∙ ap (λ (g : Forest). walk r k u g f) (forest_assoc c (node l i nil) a)

  here : (k : Kind) (u : Item) (a : Forest) (x : Item) (b : Forest) → In r (leaves_of x) → walk r k u a (put x b) ≡ sees r (node_item k (place k u a b)) x
  here k u a (leaf_item c) b (inl e) = rw (eq-eqb r c e)
  here k u a (leaf_item c) b (inr h) = absurd h
  here k u a (node_item l i) b h = rw (in_elem (frontier i) r h)

  pub sees-step : (k : Kind) (u : Item) (a : Forest) (x : Item) (b : Forest) → (In r (frontier a) → ⊥) → In r (leaves_of x)
      → sees r u (node_item k (append a (put x b))) ≡ sees r (node_item k (place k u a b)) x
  sees-step k u a x b n h = skip k u nil a (put x b) n ∙ here k u a x b h
