-- A node's linear form and its mirrored form are the update's.
use mathlib.Core.Path.{◌≡◌, refl, sym, ap, ◌∙◌}
use mathlib.Core.Bool.{Bool, true, false, cond, ◌||◌}
use mathlib.Core.Option.{none, some}
use mathlib.Core.List.{List, [], ◌∷◌, ◌++◌, reverse, reverse-cons, reverse-reverse}
use lib.Dec.{ltb}
use lib.ListN.{length}
use borrow.Author.Tests.{ltb-false}
use native.Mathlib.Omega.{arith}
use Rattle.spec_orders.specs.Tree.{Kind, P, C, Forest, nil, leaf, node, items, append, rev}
use Rattle.spec_orders.specs.Reduce.{partial, Part, one, whole, only, pack, ◌⊕◌, reversed, or_else, up, down, linear_partial, linear_node}
use Rattle.spec_orders.proofs.Laws.{forest_assoc, forest_nil, rev-append}
use Rattle.spec_orders.proofs.Parts.{put_one}
use Rattle.spec_orders.proofs.Tests.{and_both}
use Rattle.tree_tokens.specs.Tokens.{State, E, F, L, R, X}
use Rattle.tree_judge.specs.Judge.{can_line, all_full, rises, falls, few, linear?}
use Rattle.tree_judge.specs.Total.{Total, whole_of, only_of, partial_of, pack_of, first_linear, first_mirrored, lines, mirrored_lines, linear_of, mirrored_of, when}
use Rattle.tree_judge.proofs.Words.{rises-rev, all_line, rises-lines, lone, lone_is}
use Rattle.tree_judge.proofs.Tells.{Tell, tell_nil, tell_cons, states_are, whole_is, every_full, tell_reverse, tell_empty, tell_full, tell_partial, both_when, reversed-when}

-- A C-node's items that rise.
full_lines : {ss : List State} {ts : List Total} {ps : List Part} → Tell ss ts ps → all_full ss ≡ true → whole_of ts ≡ lines ts
full_lines tell_nil a = refl
full_lines (tell_cons E h r) a = cc
full_lines (tell_cons F {t = t} {ts = ts} h r) a = sym (put_one t.item (whole_of ts)) ∙ rw (full_lines r a, h.unchanged_is refl)
full_lines (tell_cons L h r) a = cc
full_lines (tell_cons R h r) a = cc
full_lines (tell_cons X h r) a = cc

full_tail : (b : Bool) (l f g : Forest) → (b ≡ true → f ≡ g) → some l ⊕ cond b (some f) none ≡ when b (append l g)
full_tail true l f g h = ap (λ x. some (append l x)) (h refl)
full_tail false l f g h = refl

up_total : {ss : List State} {ts : List Total} {ps : List Part} → Tell ss ts ps → up ps ≡ when (rises ss) (lines ts)
up_total tell_nil = refl
up_total (tell_cons E {t = t} {ss = ss} {ts = ts} h r) = rw (h.sort_is, h.item_is, up_total r, h.unchanged_is refl) (both_when true (rises ss) (one t.item) (lines ts))
up_total (tell_cons F {t = t} {ss = ss} {ts = ts} {ps = ps} h r) =
    rw (h.sort_is, h.linear_is, every_full r) (full_tail (all_full ss) t.linear (whole ps) (lines ts) (λ a. whole_is r ∙ full_lines r a))
up_total (tell_cons L {t = t} {ss = ss} {ts = ts} {ps = ps} h r) =
    rw (h.sort_is, h.linear_is, every_full r) (full_tail (all_full ss) t.linear (whole ps) (lines ts) (λ a. whole_is r ∙ full_lines r a))
up_total (tell_cons R h r) = rw (h.sort_is, h.linear_is)
up_total (tell_cons X h r) = rw (h.sort_is, h.linear_is)

up_reverse : {ss : List State} {ts : List Total} {ps : List Part} → Tell ss ts ps → up (reverse ps) ≡ when (falls ss) (lines (reverse ts))
up_reverse {ss} {ts} r = up_total (tell_reverse r) ∙ ap (λ b. when b (lines (reverse ts))) (rises-rev ss)

either : (a b : Bool) (f g : Forest) → or_else (when a f) (when b g) ≡ when (a || b) (cond a f g)
either true b f g = refl
either false b f g = refl

-- A P-node's partial items.
lone_total : {ss : List State} {ts : List Total} {ps : List Part} → Tell ss ts ps → linear_partial ps ≡ when (lone ss) (first_linear ts)
lone_total tell_nil = refl
lone_total (tell_cons s h tell_nil) = h.linear_is
lone_total (tell_cons s h (tell_cons z g r)) = refl

three : (a c : Forest) (b : Bool) (m : Forest) → some a ⊕ (when b m ⊕ some c) ≡ when b (append a (append m c))
three a c true m = refl
three a c false m = refl

pub linear_total : (k : Kind) {ss : List State} {ts : List Total} {ps : List Part} → Tell ss ts ps → linear_node k ps ≡ when (linear? k ss) (linear_of k ts)
unfolding linear_of pack_of
linear_total P {ss} {ts} {ps} r =
    let one-partial : linear_partial (only partial ps) ≡ when (few 1 ss) (first_linear (partial_of ts)) =
    lone_total (tell_partial r) ∙ ap (λ b. when b (first_linear (partial_of ts))) (lone_is ss) in
    rw (whole_is (tell_empty r), whole_is (tell_full r), one-partial) (three (pack (whole_of (only_of E ts))) (pack (whole_of (only_of F ts))) (few 1 ss) (first_linear (partial_of ts)))
linear_total C {ss} {ts} {ps} r = rw (up_total r, up_reverse r, states_are r) (either (rises ss) (falls ss) (lines ts) (lines (reverse ts)))

-- The mirrored forms.
mirrored_append : (ts us : List Total) → mirrored_lines (ts ++ us) ≡ append (mirrored_lines ts) (mirrored_lines us)
mirrored_append [] us = refl
mirrored_append (t ∷ ts) us = ap (append t.mirrored) (mirrored_append ts us) ∙ sym (forest_assoc t.mirrored (mirrored_lines ts) (mirrored_lines us))

rev-lines : {ss : List State} {ts : List Total} {ps : List Part} → Tell ss ts ps → all_line ss ≡ true → rev (lines ts) ≡ mirrored_lines (reverse ts)
rev-lines tell_nil h = refl
rev-lines (tell_cons s {t = t} {ss = ss} {ts = ts} g r) h =
    rev-append t.linear (lines ts)
    ∙ ap (λ f. append f (rev t.linear)) (rev-lines r (and_both (can_line s) (all_line ss) h).1)
    ∙ ap (append (mirrored_lines (reverse ts))) (g.mirrored_is (and_both (can_line s) (all_line ss) h).0 ∙ sym (forest_nil t.mirrored))
    ∙ sym (mirrored_append (reverse ts) (t ∷ []))
    ∙ ap mirrored_lines (sym (reverse-cons t ts))

rev-lines_back : {ss : List State} {ts : List Total} {ps : List Part} → Tell ss ts ps → falls ss ≡ true → rev (lines (reverse ts)) ≡ mirrored_lines ts
rev-lines_back {ss} {ts} r h = rev-lines (tell_reverse r) (rises-lines (reverse ss) (rises-rev ss ∙ h)) ∙ ap mirrored_lines (reverse-reverse ts)

pub down_total : {ss : List State} {ts : List Total} {ps : List Part} → Tell ss ts ps → down ps ≡ when (falls ss) (mirrored_lines ts)
down_total {ss} {ts} r = ap reversed (up_reverse r) ∙ reversed-when (falls ss) (lines (reverse ts)) (mirrored_lines ts) (rev-lines_back r)

few-items : (f : Forest) → ltb 1 (length (items f)) ≡ false → rev f ≡ f
few-items nil h = refl
few-items (leaf b nil) h = refl
few-items (leaf b (leaf c f)) h = absurd (omega (arith, ltb-false 1 (length (items (leaf b (leaf c f)))) h))
few-items (leaf b (node k i f)) h = absurd (omega (arith, ltb-false 1 (length (items (leaf b (node k i f)))) h))
few-items (node k i nil) h = refl
few-items (node k i (leaf c f)) h = absurd (omega (arith, ltb-false 1 (length (items (node k i (leaf c f)))) h))
few-items (node k i (node l j f)) h = absurd (omega (arith, ltb-false 1 (length (items (node k i (node l j f)))) h))

rev-pack : (f : Forest) → rev (pack f) ≡ pack f
rev-pack f = go (ltb 1 (length (items f))) refl
  where
    go : (b : Bool) → ltb 1 (length (items f)) ≡ b → rev (cond b (node P f nil) f) ≡ cond b (node P f nil) f
    go true e = refl
    go false e = few-items f e

first_mirror : {ss : List State} {ts : List Total} {ps : List Part} → Tell ss ts ps → lone ss ≡ true → rev (first_linear ts) ≡ first_mirrored ts
first_mirror tell_nil h = refl
first_mirror (tell_cons s g tell_nil) h = g.mirrored_is h
first_mirror (tell_cons s g (tell_cons z k r)) h = g.mirrored_is (cc)

choose : (a b : Bool) (f g x y : Forest) → a || b ≡ true → (a ≡ true → rev f ≡ x) → (b ≡ true → rev g ≡ y) → rev (cond a f g) ≡ cond a x y
choose true b f g x y h p q = p refl
choose false b f g x y h p q = q h

pub mirrored_total : (k : Kind) {ss : List State} {ts : List Total} {ps : List Part} → Tell ss ts ps → linear? k ss ≡ true → rev (linear_of k ts) ≡ mirrored_of k ts
unfolding linear_of mirrored_of pack_of
mirrored_total P {ss} {ts} r h =
    rev-append (pack (whole_of (only_of E ts))) (append (first_linear (partial_of ts)) (pack (whole_of (only_of F ts))))
    ∙ rw (rev-append (first_linear (partial_of ts)) (pack (whole_of (only_of F ts))), rev-pack (whole_of (only_of E ts)), rev-pack (whole_of (only_of F ts)), first_mirror (tell_partial r) (lone_is ss ∙ h))
    (forest_assoc (pack (whole_of (only_of F ts))) (first_mirrored (partial_of ts)) (pack (whole_of (only_of E ts))))
mirrored_total C {ss} {ts} r h =
    rw (states_are r)
    (choose (rises ss) (falls ss) (lines ts) (lines (reverse ts)) (mirrored_lines (reverse ts)) (mirrored_lines ts) h (λ a. rev-lines r (rises-lines ss a)) (rev-lines_back r))
