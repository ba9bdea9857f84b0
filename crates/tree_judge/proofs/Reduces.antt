-- The total update is the update: a node's reduced form, and the tree's.
use mathlib.Core.Path.{◌≡◌, refl, ap, ◌∙◌}
use mathlib.Core.Bool.{Bool, true, false, cond, not, ◌&&◌}
use mathlib.Core.Option.{some}
use mathlib.Core.List.{List, [], ◌∷◌}
use Prim.Native.Nat.{ℕ}
use Rattle.spec_orders.specs.CircularOrder.{Restriction}
use Rattle.spec_orders.specs.Tree.{Kind, P, C, Forest, nil, leaf, node, leaf_item, append, rev, frontier}
use Rattle.spec_orders.specs.Reduce.{empty, full, partial, class, class_by, Part, one, whole, only, every, pack, put_sorted, ◌⊕◌, reversed, c_node, down, middle, gather, among, linear_node, reduced_node, settled, node_part, parts, reduced_first, reduce}
use Rattle.spec_orders.specs.TreeText.{Forked}
use Rattle.tree_tokens.specs.Tokens.{State, E, F, L, R, X, tree}
use Rattle.tree_tokens.specs.Views.{state_of}
use Rattle.tree_judge.specs.Judge.{can_line, can_reduce, all_empty, all_full, falls, peaks, gathers, linear?, reduced?, partial_state, leaf_state, node_state, states, judge}
use Rattle.tree_judge.specs.Total.{Total, states_of, whole_of, only_of, partial_of, first_reduced, mirrored_lines, linear_of, mirrored_of, c_node_of, middle_of, gather_of, reduced_of, unchanged, total_by, totals, when}
use Rattle.tree_judge.proofs.Words.{linear_reduced, peaks_by, partials, no_full, pair, pair_is}
use Rattle.tree_judge.proofs.Judged.{tree-judge, class_judged}
use Rattle.tree_judge.proofs.Tells.{Tells, Tell, tell_nil, tell_cons, states_are, whole_is, every_empty, tell_empty, tell_full, tell_partial, both_when, reversed-when}
use Rattle.tree_judge.proofs.Lines.{linear_total, mirrored_total, down_total}

-- A C-node's items.
middle_cases : (b j y z : Bool) (J W N M : Forest) → cond b (when j J ⊕ some W) (when y N ⊕ when z M) ≡ when (cond b j (y && z)) (cond b (append J W) (append N M))
middle_cases true true y z J W N M = refl
middle_cases true false y z J W N M = refl
middle_cases false j true true J W N M = refl
middle_cases false j true false J W N M = refl
middle_cases false j false z J W N M = refl

middle_rest : (s : State) {ss : List State} {t : Total} {p : Part} {ts : List Total} {ps : List Part} → Tells s t p → Tell ss ts ps
    → cond (every empty ps) (p.reduced ⊕ some (whole ps)) (p.linear ⊕ down ps)
    ≡ when (cond (all_empty ss) (can_reduce s) (can_line s && falls ss)) (cond (all_empty (states_of ts)) (append t.reduced (whole_of ts)) (append t.linear (mirrored_lines ts)))
middle_rest s {ss} {t} {p} {ts} {ps} h r =
    rw (h.reduced_is, h.linear_is, down_total r, whole_is r, every_empty r, states_are r)
    (middle_cases (all_empty ss) (can_reduce s) (can_line s) (falls ss) t.reduced (whole_of ts) t.linear (mirrored_lines ts))

middle_total : {ss : List State} {ts : List Total} {ps : List Part} → Tell ss ts ps → middle ps ≡ when (peaks ss) (middle_of ts)
unfolding middle_of
middle_total tell_nil = refl
middle_total (tell_cons E {t = t} {ss = ss} {ts = ts} h r) = rw (h.sort_is, h.state_is, h.item_is, middle_total r) (both_when true (peaks ss) (one t.item) (middle_of ts))
middle_total (tell_cons F {ss = ss} h r) = rw (h.sort_is, h.state_is, ← peaks_by F ss refl) (middle_rest F h r)
middle_total (tell_cons L {ss = ss} h r) = rw (h.sort_is, h.state_is, ← peaks_by L ss refl) (middle_rest L h r)
middle_total (tell_cons R {ss = ss} h r) = rw (h.sort_is, h.state_is, ← peaks_by R ss refl) (middle_rest R h r)
middle_total (tell_cons X {ss = ss} h r) = rw h.sort_is (middle_rest X h r ∙ rw (peaks_by X ss refl))

c_when : (b : Bool) (f : Forest) → c_node (when b f) ≡ when b (c_node_of f)
unfolding c_node_of
c_when true f = refl
c_when false f = refl

among-when : (e : Forest) (b : Bool) (t : Forest) → among e (when b t) ≡ when b (pack (put_sorted t e))
among-when e true t = refl
among-when e false t = refl

-- A P-node's partial and full items.
mirrored_by : {s : State} {t : Total} {p : Part} → Tells s t p → reversed p.linear ≡ when (can_line s) t.mirrored
mirrored_by {s} {t} h = ap reversed h.linear_is ∙ reversed-when (can_line s) t.linear t.mirrored h.mirrored_is

abbrev none_in : List Total → Bool
none_in [] = true
none_in (t ∷ ts) = false

gather_total : {ss us : List State} {ms gs : List Total} {ps qs : List Part} → Tell ss ms ps → Tell us gs qs → gather ps qs ≡ when (pair (none_in gs) ss) (gather_of ms gs)
unfolding gather_of
gather_total tell_nil r = rw (whole_is r)
gather_total (tell_cons s h tell_nil) tell_nil = h.reduced_is
gather_total (tell_cons s {t = t} h tell_nil) (tell_cons z {t = g} {ts = gs} k r) =
    rw (whole_is r, k.item_is, mirrored_by h, both_when true (can_line s) (pack (whole_of (g ∷ gs))) t.mirrored) (c_when (can_line s) (append (pack (whole_of (g ∷ gs))) t.mirrored))
gather_total {gs = gs} (tell_cons s {t = t} h (tell_cons z {t = u} k tell_nil)) r =
    rw (whole_is r, h.linear_is, mirrored_by k, both_when true (can_line z) (pack (whole_of gs)) u.mirrored, both_when (can_line s) (can_line z) t.linear (append (pack (whole_of gs)) u.mirrored))
    (c_when (can_line s && can_line z) (append t.linear (append (pack (whole_of gs)) u.mirrored)))
gather_total (tell_cons s h (tell_cons z k (tell_cons y i r))) q = refl

full_none : {ss : List State} {ts : List Total} {ps : List Part} → Tell ss ts ps → none_in (only_of F ts) ≡ no_full ss
full_none tell_nil = refl
full_none (tell_cons E h r) = rw h.state_is (full_none r)
full_none (tell_cons F h r) = rw h.state_is
full_none (tell_cons L h r) = rw h.state_is (full_none r)
full_none (tell_cons R h r) = rw h.state_is (full_none r)
full_none (tell_cons X h r) = rw h.state_is (full_none r)

reduced_total : (k : Kind) {ss : List State} {ts : List Total} {ps : List Part} → Tell ss ts ps → reduced_node k ps ≡ when (reduced? k ss) (reduced_of k ts)
unfolding reduced_of
reduced_total P {ss} {ts} {ps} r =
    let both : gather (only partial ps) (only full ps) ≡ when (gathers ss) (gather_of (partial_of ts) (only_of F ts)) =
    gather_total (tell_partial r) (tell_full r)
    ∙ ap (λ b. when (pair b (partials ss)) (gather_of (partial_of ts) (only_of F ts))) (full_none r)
    ∙ ap (λ b. when b (gather_of (partial_of ts) (only_of F ts))) (pair_is ss) in
    rw (whole_is (tell_empty r), both) (among-when (whole_of (only_of E ts)) (gathers ss) (gather_of (partial_of ts) (only_of F ts)))
reduced_total C {ss} {ts} r = ap c_node (middle_total r) ∙ c_when (peaks ss) (middle_of ts)

-- A node, by its items.
tells_by : (a f l r : Bool) (k : Kind) (i : Forest) (ts : List Total) (ps : List Part)
    → linear_node k ps ≡ when l (linear_of k ts) → reduced_node k ps ≡ when r (reduced_of k ts) → (l ≡ true → r ≡ true) → (l ≡ true → rev (linear_of k ts) ≡ mirrored_of k ts)
    → let s = cond a E (cond f F (partial_state l r)) in Tells s (total_by s k i ts) (node_part (class_by (not a) (not f)) k i ps)
unfolding total_by
tells_by true f l r k i ts ps hl hr h m =
    record { state_is = refl; item_is = refl; sort_is = refl; linear_is = refl; reduced_is = refl; unchanged_is = λ x. refl; mirrored_is = λ x. refl }
tells_by false true l r k i ts ps hl hr h m =
    record { state_is = refl; item_is = refl; sort_is = refl; linear_is = refl; reduced_is = refl; unchanged_is = λ x. refl; mirrored_is = λ x. refl }
tells_by false false true r k i ts ps hl hr h m =
    record { state_is = refl; item_is = refl; sort_is = refl; linear_is = hl; reduced_is = hr ∙ ap (λ b. when b (reduced_of k ts)) (h refl); unchanged_is = λ x. cc; mirrored_is = λ x. m refl }
tells_by false false false true k i ts ps hl hr h m =
    record { state_is = refl; item_is = refl; sort_is = refl; linear_is = hl; reduced_is = hr; unchanged_is = λ x. cc; mirrored_is = λ x. cc }
tells_by false false false false k i ts ps hl hr h m =
    record { state_is = refl; item_is = refl; sort_is = refl; linear_is = hl; reduced_is = hr; unchanged_is = λ x. cc; mirrored_is = λ x. cc }

node_tells : (k : Kind) (i : Forest) {ss : List State} {ts : List Total} {ps : List Part} → Tell ss ts ps
    → Tells (node_state k ss) (total_by (node_state k ss) k i ts) (node_part (class_by (not (all_empty ss)) (not (all_full ss))) k i ps)
unfolding node_state
node_tells k i {ss} {ts} {ps} r =
    tells_by (all_empty ss) (all_full ss) (linear? k ss) (reduced? k ss) k i ts ps (linear_total k r) (reduced_total k r) (linear_reduced k ss) (mirrored_total k r)

leaf_tells : (m : Bool) (b : ℕ) → Tells (leaf_state m) (unchanged (leaf_state m) (leaf_item b)) (settled (class_by (cond m true false) (cond (not m) true false)) (leaf_item b))
leaf_tells true b = record { state_is = refl; item_is = refl; sort_is = refl; linear_is = refl; reduced_is = refl; unchanged_is = λ x. refl; mirrored_is = λ x. refl }
leaf_tells false b = record { state_is = refl; item_is = refl; sort_is = refl; linear_is = refl; reduced_is = refl; unchanged_is = λ x. refl; mirrored_is = λ x. refl }

-- Item for item, the total update of the judged sequence is the update.
tells : (S : Restriction) (f : Forest) → Forked f → Tell (states (judge S f)) (totals (judge S f)) (parts S f)
unfolding judge totals
tells S nil h = tell_nil
tells S (leaf b f) h = tell_cons (leaf_state (S b)) (leaf_tells (S b) b) (tells S f h)
tells S (node k i f) h =
    let j = judge S i in
    let s = node_state k (states j) in
    let t : Tells s (total_by s k (tree j) (totals j)) (node_part (class S (frontier i)) k i (parts S i)) = rw (class_judged S i h.0.1, tree-judge S i) (node_tells k i (tells S i h.0.1)) in
    tell_cons s t (tells S f h.1)

-- The update of a tree: judge it, and write its reduced form if the state promises one.
first_is : (S : Restriction) (f : Forest) {ts : List Total} {ps : List Part} → Tell (states (judge S f)) ts ps → reduced_first ps ≡ when (can_reduce (state_of (judge S f))) (first_reduced ts)
unfolding judge state_of
first_is S nil tell_nil = refl
first_is S (leaf b f) (tell_cons s h r) = h.reduced_is
first_is S (node k i f) (tell_cons s h r) = h.reduced_is

pub reduce_total : (S : Restriction) (t : Forest) → Forked t → reduce S t ≡ when (can_reduce (state_of (judge S t))) (first_reduced (totals (judge S t)))
unfolding reduce
reduce_total S t h = first_is S t (tells S t h)
