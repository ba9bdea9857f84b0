-- Groups that join the tree at the start of an array.
use mathlib.Core.Path.{◌≡◌, refl, sym, ap, subst, ◌∙◌}
use mathlib.Core.Option.{Option, none, some}
use mathlib.Core.List.{List, [], ◌∷◌, ◌++◌, map, map-append}
use Prim.Native.Nat.{ℕ, ◌≤◌}
use native.Mathlib.Omega.{arith}
use lib.ListN.{length, take, length-take}
use Rattle.spec_orders.specs.Lists.{elem}
use Rattle.spec_orders.specs.CircularOrder.{Restriction}
use Rattle.spec_orders.specs.Tree.{Forest}
use Rattle.spec_orders.specs.Join.{join, then, joins}
use Rattle.spec_intersection.specs.Intersection.{characteristic, intersection}
use Rattle.spec_intersection.proofs.GroupWalk.{joins-append, joins_keep}
use Rattle.tree_tokens.specs.Tokens.{Judged, tree, flat}
use Rattle.std.specs.Prelude.{Option as CodeOption, Some, None}
use Rattle.tree_update.specs.Update.{Begins, FormWithin}
use Rattle.tree_update.proofs.Updates.{join_form, tokens_short, the_form}
use Rattle.tree_intersection.specs.Intersect.{Growing, Grows, impossible, grown}

-- The tree has at most 510 tokens.
pub growing_few : {n k : ℕ} {l : List ℕ} → Growing n l k → k ≤ 510
growing_few {n} {k} {l} g = omega (arith, g.long, length-take k l, tokens_short n (take k l) g.tree)

pub growing_begins : {n k : ℕ} {l : List ℕ} (t : Forest) → Growing n l k → take k l ≡ flat t → Begins (flat t) l k
growing_begins {n} {k} {l} t g e = record { many = omega (arith, g.long, growing_few g, length-take k l, ap length e); text = e }

-- What an answer says.
pub grows_tree : {o : Option Forest} {new : List ℕ} {r : CodeOption ℕ} {m : ℕ} → r ≡ Some m → Grows o new r → (u : Forest) × (o ≡ some u) × Begins (flat u) new m
grows_tree e impossible = let z : ◌≡◌ {A = ℕ} 0 1 = cc in absurd (omega (arith, z))
grows_tree {new = new} {m = m} e (grown {t = t} {k = k} b) = let n : k ≡ m = cc in (t, refl, subst (Begins (flat t) new) n b)

pub grows_none : {o : Option Forest} {new : List ℕ} {r : CodeOption ℕ} → r ≡ None → Grows o new r → o ≡ none
grows_none e impossible = refl
grows_none e (grown b) = let z : ◌≡◌ {A = ℕ} 0 1 = cc in absurd (omega (arith, z))

pub grows_as : {o q : Option Forest} {new : List ℕ} {r : CodeOption ℕ} → o ≡ q → Grows q new r → Grows o new r
grows_as {new = new} {r} e g = subst (λ x. Grows x new r) (sym e) g

-- One group joins as a list of one does.
then_some : (o : Option Forest) → then o some ≡ o
then_some none = refl
then_some (some t) = refl

pub joins-one : (G : Restriction) (t : Forest) → joins (G ∷ []) t ≡ join G t
unfolding joins
joins-one G t = then_some (join G t)

pub growing_more : {n k m : ℕ} {old new : List ℕ} {r : CodeOption ℕ} (Gs : List Restriction) (t : Forest) → Growing n old k → take k old ≡ flat t → length new ≡ length old
    → r ≡ Some m → Grows (joins Gs t) new r → Growing n new m
growing_more {n} {k} {m} {old} {new} Gs t g q s e a =
    let x = grows_tree e a in
    record { long = omega (arith, g.long, s); tree = (x.0, x.2.text, joins_keep (FormWithin n) (λ G t u f e. join_form G f e) Gs t x.0 (the_form n (take k old) g.tree t q) x.1, g.tree.3) }

-- Of the groups of j those of k are still to join: the tree in the first `many` tokens of old has become that in the first m of new.
pub record Joining (groups : Forest → List (List ℕ)) (old : List ℕ) (many : ℕ) (new : List ℕ) (m : ℕ) (j k : Judged) : Type 0 where
  pub at : (t : Forest) → take many old ≡ flat t
      → (u : Forest) × (take m new ≡ flat u) × (joins (map elem (groups (tree j))) t ≡ joins (map elem (groups (tree k))) u)

pub joining_start : (groups : Forest → List (List ℕ)) (old : List ℕ) (many : ℕ) (j : Judged) → Joining groups old many old many j j
joining_start groups old many j = record { at = λ t e. (t, e, refl) }

pub joining_same : {groups : Forest → List (List ℕ)} {old new : List ℕ} {many m : ℕ} {j k : Judged} (h : Judged) → Joining groups old many new m j k
    → groups (tree k) ≡ groups (tree h) → Joining groups old many new m j h
joining_same h q e = record { at = λ t w. let x = q.at t w in (x.0, x.1, x.2 ∙ ap (λ (l : List (List ℕ)). joins (map elem l) x.0) e) }

-- The next groups join; they cannot.
module _ {groups : Forest → List (List ℕ)} {old new next : List ℕ} {many m : ℕ} {j k : Judged} {r : CodeOption ℕ} (Gs : List (List ℕ)) (h : Judged)
    (q : Joining groups old many new m j k) (split : groups (tree k) ≡ Gs ++ groups (tree h))
    (step : (u : Forest) → take m new ≡ flat u → Grows (joins (map elem Gs) u) next r) where
  parts : (t : Forest) (e : take many old ≡ flat t) → joins (map elem (groups (tree j))) t ≡ then (joins (map elem Gs) (q.at t e).0) (joins (map elem (groups (tree h))))
  parts t e =
      let u = (q.at t e).0 in
      (q.at t e).2 ∙ ap (λ (l : List (List ℕ)). joins (map elem l) u) split ∙ ap (λ (l : List Restriction). joins l u) (map-append elem Gs (groups (tree h)))
      ∙ joins-append (map elem Gs) (map elem (groups (tree h))) u

  pub joining_more : {i : ℕ} → r ≡ Some i → Joining groups old many next i j h
  joining_more w = record {
    at = λ t e.
        let x = grows_tree w (step (q.at t e).0 (q.at t e).1) in
        (x.0, x.2.text, parts t e ∙ ap (λ (o : Option Forest). then o (joins (map elem (groups (tree h))))) x.1);
  }

  pub joining_none : r ≡ None → (t : Forest) → take many old ≡ flat t → Grows (joins (map elem (groups (tree j))) t) next None
  joining_none w t e =
      let x = grows_none w (step (q.at t e).0 (q.at t e).1) in
      grows_as (parts t e ∙ ap (λ (o : Option Forest). then o (joins (map elem (groups (tree h))))) x) impossible

-- None is left to join.
pub joining_end : {groups : Forest → List (List ℕ)} {old new : List ℕ} {n many m : ℕ} {j k : Judged} → Growing n new m → Joining groups old many new m j k
    → groups (tree k) ≡ [] → (t : Forest) → take many old ≡ flat t → Grows (joins (map elem (groups (tree j))) t) new (Some m)
unfolding joins
joining_end g q z t e =
    let x = q.at t e in
    grows_as (x.2 ∙ ap (λ (l : List (List ℕ)). joins (map elem l) x.0) z) (grown (growing_begins x.0 g x.1))

-- The intersection, by the groups that join.
pub common : (t u : Forest) → intersection t u ≡ joins (map elem (characteristic u)) t
unfolding intersection
common t u = refl
