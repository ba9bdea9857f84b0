-- The intersection as one walk makes it: groups join one after another, and the groups of a sequence are those of its parts.
use mathlib.Core.Path.{◌∙◌, ◌≡◌, ap, refl, subst, sym}
use mathlib.Core.Option.{Option, none-ne-some, some-injective, none, some}
use mathlib.Core.List.{List, [], ◌++◌, ◌∷◌, append_assoc}
use Rattle.spec_orders.specs.CircularOrder.{Restriction}
use Rattle.spec_orders.specs.Tree.{Forest, nil, leaf, node, append}
use Rattle.spec_orders.specs.Join.{join, then, joins}
use Rattle.spec_intersection.specs.Intersection.{node_groups, characteristic}

pub joins-append : (Gs Hs : List Restriction) (t : Forest) → joins (Gs ++ Hs) t ≡ then (joins Gs t) (joins Hs)
unfolding joins
joins-append [] Hs t = refl
joins-append (G ∷ Gs) Hs t = go (join G t) (joins-append Gs Hs)
  where
    go : (o : Option Forest) → ((u : Forest) → joins (Gs ++ Hs) u ≡ then (joins Gs u) (joins Hs)) → then o (joins (Gs ++ Hs)) ≡ then (then o (joins Gs)) (joins Hs)
    go none rec = refl
    go (some u) rec = rec u

-- What one group that joins keeps, they keep.
pub joins_keep : (Q : Forest → Type 0) → ((G : Restriction) (t u : Forest) → Q t → join G t ≡ some u → Q u) → (Gs : List Restriction) (t u : Forest) → Q t → joins Gs t ≡ some u → Q u
unfolding joins
joins_keep Q h [] t u q e = subst Q (some-injective t u e) q
joins_keep Q h (G ∷ Gs) t u q e = go (join G t) refl e (joins_keep Q h Gs)
  where
    go : (o : Option Forest) → join G t ≡ o → then o (joins Gs) ≡ some u → ((v w : Forest) → Q v → joins Gs v ≡ some w → Q w) → Q u
    go none p e rec = absurd (none-ne-some u e)
    go (some v) p e rec = rec v u (h G t v q p) e

pub characteristic-append : (i f : Forest) → characteristic (append i f) ≡ characteristic i ++ characteristic f
characteristic-append nil f = refl
characteristic-append (leaf b i) f = characteristic-append i f
characteristic-append (node k j i) f =
    ap (λ l. node_groups k j ++ (characteristic j ++ l)) (characteristic-append i f) ∙ ap (λ l. node_groups k j ++ l) (sym (append_assoc (characteristic j) (characteristic i) (characteristic f)))
    ∙ sym (append_assoc (node_groups k j) (characteristic j ++ characteristic i) (characteristic f))
