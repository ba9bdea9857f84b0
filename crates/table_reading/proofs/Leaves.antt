-- A leaf marked besides others; and different elements, as many as there are.
use mathlib.Core.Path.{◌≡◌, refl, sym, ap}
use mathlib.Core.Logic.{◌≢◌, ◌⊎◌, inl, inr}
use mathlib.Core.Bool.{Bool, ◌||◌}
use mathlib.Core.List.{List, [], ◌∷◌}
use Prim.Native.Nat.{ℕ, ◌≤◌}
use native.Mathlib.Omega.{arith}
use lib.Dec.{eqb}
use lib.ListN.{length}
use Rattle.spec_orders.specs.Lists.{Distinct, In, Rearranged, done, next}
use Rattle.spec_orders.specs.CircularOrder.{Restriction}
use Rattle.spec_orders.proofs.Rearranged.{pick_length}
use Rattle.spec_orders.proofs.Members.{all_in, pick_in, in_pick}
use Rattle.mark_words.specs.Marks.{words_of, marked, with_leaf}
use Rattle.mark_words.proofs.Words.{length_words, marked_words, words_agree}

pub leaf_marks : (k : ℕ) (G : Restriction) (b : ℕ) {ws : List ℕ} → ws ≡ words_of k G → words_of (length ws) (with_leaf b (marked ws)) ≡ words_of k (with_leaf b G)
leaf_marks k G b e =
    rw (e, length_words)
    (words_agree k (with_leaf b (marked (words_of k G))) (with_leaf b G) (λ x l m. ap (λ (t : Bool). eqb x b || t) (marked_words k G x l m)))

-- Different elements of m, as many as m has, are a rearrangement of m.
pub all_there : (m l : List ℕ) → Distinct l → ((y : ℕ) → In y l → In y m) → length m ≤ length l → Rearranged m l
all_there [] [] d h n = done
all_there (x ∷ m) [] d h n = absurd (omega arith)
all_there m (a ∷ l) d h n =
    let p = in_pick a m (h a (inl refl)) in
    next p.1 (all_there p.0 l d.1 (λ y i. other y p.0 (λ e. all_in (λ z. a ≢ z) y l d.0 i (sym e)) (pick_in y p.1 (h y (inr i)))) (omega (arith, pick_length p.1)))
  where
    other : (y : ℕ) (k : List ℕ) → y ≢ a → (y ≡ a) ⊎ In y k → In y k
    other y k u (inl e) = absurd (u e)
    other y k u (inr i) = i
