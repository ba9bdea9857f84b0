-- The total update beside the update, item by item: what it writes is what the update has, where the state promises it.
use mathlib.Core.Path.{◌≡◌, refl, ap, ◌∙◌}
use mathlib.Core.Bool.{Bool, true, false, cond, ◌&&◌}
use mathlib.Core.Option.{some}
use mathlib.Core.List.{List, [], ◌∷◌, ◌++◌, reverse, reverse-cons}
use lib.Dec.{eqb, leb}
use Rattle.spec_orders.specs.Lists.{those_of}
use Rattle.spec_orders.specs.Tree.{Forest, append, rev}
use Rattle.spec_orders.specs.Reduce.{Class, empty, full, partial, is, Part, one, whole, only, every, ◌⊕◌, reversed}
use Rattle.tree_tokens.specs.Tokens.{State, E, F, L, R, X, number}
use Rattle.tree_judge.specs.Judge.{can_line, can_reduce, all_empty, all_full}
use Rattle.tree_judge.specs.Total.{Total, states_of, whole_of, only_of, partial_of, when}
use Rattle.tree_judge.proofs.Words.{each, partials}

abbrev pub class_of : State → Class
class_of E = empty
class_of F = full
class_of L = partial
class_of R = partial
class_of X = partial

-- An item of state s, as the total update has it, and as the update does.
pub record Tells (s : State) (t : Total) (p : Part) : Type 0 where
  pub state_is : t.state ≡ s
  pub item_is : p.item ≡ t.item
  pub sort_is : p.sort ≡ class_of s
  pub linear_is : p.linear ≡ when (can_line s) t.linear
  pub reduced_is : p.reduced ≡ when (can_reduce s) t.reduced
  pub unchanged_is : is partial (class_of s) ≡ false → t.linear ≡ one t.item
  pub mirrored_is : can_line s ≡ true → rev t.linear ≡ t.mirrored

pub data Tell : List State → List Total → List Part → Type 0 where
  tell_nil : Tell [] [] []
  tell_cons : (s : State) {t : Total} {p : Part} {ss : List State} {ts : List Total} {ps : List Part} → Tells s t p → Tell ss ts ps → Tell (s ∷ ss) (t ∷ ts) (p ∷ ps)

-- A sequence of items.
pub states_are : {ss : List State} {ts : List Total} {ps : List Part} → Tell ss ts ps → states_of ts ≡ ss
states_are tell_nil = refl
states_are (tell_cons s h r) = rw (h.state_is, states_are r)

pub whole_is : {ss : List State} {ts : List Total} {ps : List Part} → Tell ss ts ps → whole ps ≡ whole_of ts
whole_is tell_nil = refl
whole_is (tell_cons s h r) = rw (h.item_is, whole_is r)

pub every_full : {ss : List State} {ts : List Total} {ps : List Part} → Tell ss ts ps → every full ps ≡ all_full ss
every_full tell_nil = refl
every_full (tell_cons E h r) = rw h.sort_is
every_full (tell_cons F h r) = rw h.sort_is (every_full r)
every_full (tell_cons L h r) = rw h.sort_is
every_full (tell_cons R h r) = rw h.sort_is
every_full (tell_cons X h r) = rw h.sort_is

pub every_empty : {ss : List State} {ts : List Total} {ps : List Part} → Tell ss ts ps → every empty ps ≡ all_empty ss
every_empty tell_nil = refl
every_empty (tell_cons E h r) = rw h.sort_is (every_empty r)
every_empty (tell_cons F h r) = rw h.sort_is
every_empty (tell_cons L h r) = rw h.sort_is
every_empty (tell_cons R h r) = rw h.sort_is
every_empty (tell_cons X h r) = rw h.sort_is

tell_append : {ss us : List State} {ts vs : List Total} {ps qs : List Part} → Tell ss ts ps → Tell us vs qs → Tell (ss ++ us) (ts ++ vs) (ps ++ qs)
tell_append tell_nil b = b
tell_append (tell_cons s h r) b = tell_cons s h (tell_append r b)

pub tell_reverse : {ss : List State} {ts : List Total} {ps : List Part} → Tell ss ts ps → Tell (reverse ss) (reverse ts) (reverse ps)
tell_reverse tell_nil = tell_nil
tell_reverse (tell_cons s {t = t} {p = p} {ss = ss} {ts = ts} {ps = ps} h r) =
    rw (reverse-cons s ss, reverse-cons t ts, reverse-cons p ps) (tell_append (tell_reverse r) (tell_cons s h tell_nil))

-- The items of one class.
tell_if : (a b c : Bool) → b ≡ a → c ≡ a → (s : State) {t : Total} {p : Part} {ss : List State} {ts : List Total} {ps : List Part} → Tells s t p → Tell ss ts ps
    → Tell (cond a (s ∷ ss) ss) (cond b (t ∷ ts) ts) (cond c (p ∷ ps) ps)
tell_if true b c d e s h r = rw (d, e) (tell_cons s h r)
tell_if false b c d e s h r = rw (d, e) r

tell_only : (c : Class) (q : State → Bool) → ((s : State) → is c (class_of s) ≡ q s) → {ss : List State} {ts : List Total} {ps : List Part} → Tell ss ts ps
    → Tell (those_of q ss) (those_of (λ t. q t.state) ts) (only c ps)
tell_only c q agree tell_nil = tell_nil
tell_only c q agree (tell_cons s {t = t} {p = p} h r) =
    tell_if (q s) (q t.state) (is c p.sort) (ap q h.state_is) (ap (is c) h.sort_is ∙ agree s) s h (tell_only c q agree r)

pub tell_empty : {ss : List State} {ts : List Total} {ps : List Part} → Tell ss ts ps → Tell (those_of (λ s. eqb (number s) 0) ss) (only_of E ts) (only empty ps)
tell_empty = tell_only empty (λ s. eqb (number s) 0) (each (λ s. is empty (class_of s) ≡ eqb (number s) 0) refl refl refl refl refl)

pub tell_full : {ss : List State} {ts : List Total} {ps : List Part} → Tell ss ts ps → Tell (those_of (λ s. eqb (number s) 1) ss) (only_of F ts) (only full ps)
tell_full = tell_only full (λ s. eqb (number s) 1) (each (λ s. is full (class_of s) ≡ eqb (number s) 1) refl refl refl refl refl)

pub tell_partial : {ss : List State} {ts : List Total} {ps : List Part} → Tell ss ts ps → Tell (partials ss) (partial_of ts) (only partial ps)
tell_partial = tell_only partial (λ s. leb 2 (number s)) (each (λ s. is partial (class_of s) ≡ leb 2 (number s)) refl refl refl refl refl)

-- One after the other, and reversed, where there is a result.
pub both_when : (a b : Bool) (f g : Forest) → when a f ⊕ when b g ≡ when (a && b) (append f g)
both_when true true f g = refl
both_when true false f g = refl
both_when false b f g = refl

pub reversed-when : (b : Bool) (f g : Forest) → (b ≡ true → rev f ≡ g) → reversed (when b f) ≡ when b g
reversed-when true f g h = ap some (h refl)
reversed-when false f g h = refl
