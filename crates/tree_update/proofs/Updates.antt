-- The update of a tree of some leaves: its tokens are few, and the judged tree says what is written.
use mathlib.Core.Path.{◌≡◌, refl, sym, ap, ◌∙◌}
use mathlib.Core.Logic.{◌≢◌}
use mathlib.Core.Bool.{Bool, true, false}
use mathlib.Core.Option.{none-ne-some, some-injective, none, some}
use mathlib.Core.List.{List, [], ◌∷◌}
use Prim.Native.Nat.{ℕ, zero, suc, ◌-◌, ◌≤◌}
use native.Mathlib.Omega.{arith}
use lib.ListN.{length, take, drop}
use Rattle.spec_orders.specs.Lists.{All, Distinct, elem, numbers_from, Rearranged}
use Rattle.spec_orders.specs.CircularOrder.{Restriction}
use Rattle.spec_orders.specs.Tree.{Forest, nil, items, frontier}
use Rattle.spec_orders.specs.Form.{Canonical, Single, InForm}
use Rattle.spec_orders.specs.Reduce.{reduce}
use Rattle.spec_orders.specs.Join.{join}
use Rattle.spec_orders.proofs.ListLaws.{all_map}
use Rattle.spec_orders.proofs.Rearranged.{perm_all, perm_distinct}
use Rattle.spec_orders.proofs.Numbers.{numbers_length, count_most, count_elem}
use Rattle.spec_orders.proofs.Laws.{canonical_forked}
use Rattle.spec_orders.proofs.Forms.{others_range, form_distinct, nodes_bound}
use Rattle.spec_orders.proofs.Joining.{tree-left}
use Rattle.spec_orders.proofs.ReduceOrders.{reduce-frontier, reduce_single}
use Rattle.spec_orders.proofs.ReduceForm.{reduce_canonical}
use Rattle.tree_tokens.specs.Tokens.{State, E, F, L, R, X, number, Judged, j_nil, j_leaf, j_node, tree, plain, encode, Wrote, flat, TreeTokens}
use Rattle.tree_tokens.specs.Views.{state_of, first_of}
use Rattle.tree_tokens.proofs.Laws.{at_end}
use Rattle.tree_tokens.proofs.Counts.{flat_counts}
use Rattle.tree_tokens.proofs.Sequences.{tree_plain}
use Rattle.tree_judge.specs.Judge.{can_reduce, judge}
use Rattle.tree_judge.specs.Total.{first_reduced, totals, when}
use Rattle.tree_judge.proofs.Judged.{tree-judge, judge-length}
use Rattle.tree_judge.proofs.Reduces.{reduce_total}
use Rattle.tree_tokens.proofs.Sequences.{flat_injective}
use Rattle.tree_stays.specs.Stays.{stays}
use Rattle.tree_stays.proofs.Same.{stays_same}
use Rattle.tree_update.specs.Update.{Forks, FormWithin, TokensWithin, JudgedTree}
use Rattle.tree_update.proofs.Laws.{begins, read_part}

-- A tree in form for n leaves is one of leaves 2 to n.
pub form_within : {n : ℕ} {t : Forest} → InForm n t → FormWithin n t
form_within {n} {t} f = record {
  single = f.single;
  canonical = f.canonical;
  different = form_distinct n t f;
  in_range = perm_all (λ b. (2 ≤ b) × (b ≤ n)) f.all_leaves (others_range n);
}

pub form_tokens : {n : ℕ} {l : List ℕ} → TreeTokens n l → TokensWithin n l
form_tokens p = (p.shown, p.is, form_within p.in_form, p.few_leaves)

-- Different leaves from 2 to n are fewer than n, so the tree has at most 510 tokens.
few_leaves : (n : ℕ) (l : List ℕ) → Distinct l → All (λ b. (2 ≤ b) × (b ≤ n)) l → length l ≤ n - 1
few_leaves zero [] d h = omega arith
few_leaves zero (b ∷ l) d h = absurd (omega (arith, h.0.0, h.0.1))
few_leaves (suc n) l d h =
    let one : All (λ b. 1 ≢ b) l = all_map (λ b. (2 ≤ b) × (b ≤ suc n)) (λ b. 1 ≢ b) (λ b r e. omega (arith, r.0)) l h in
    let from : All (λ b. (1 ≤ b) × (b ≤ suc n)) l = all_map (λ b. (2 ≤ b) × (b ≤ suc n)) (λ b. (1 ≤ b) × (b ≤ suc n)) (λ b r. (omega (arith, r.0), r.1)) l h in
    omega (
      arith,
      count_elem (suc n) (1 ∷ l) (one, d) ((omega arith, omega arith), from),
      count_most (elem (1 ∷ l)) (numbers_from 1 (suc n)),
      numbers_length 1 (suc n),
    )

pub form_short : (n : ℕ) (t : Forest) → FormWithin n t → n ≤ 256 → length (flat t) ≤ 510
form_short n t f h = omega (arith, flat_counts t, nodes_bound t (canonical_forked t f.canonical), few_leaves n (frontier t) f.different f.in_range)

-- Reducing keeps the form, and so does joining.
moved : {n : ℕ} {t u : Forest} → FormWithin n t → Single (items u) → Canonical u → Rearranged (frontier t) (frontier u) → FormWithin n u
moved {n} f s c p = record { single = s; canonical = c; different = perm_distinct p f.different; in_range = perm_all (λ b. (2 ≤ b) × (b ≤ n)) p f.in_range }

pub reduce_form : (n : ℕ) (S : Restriction) (t u : Forest) → FormWithin n t → reduce S t ≡ some u → FormWithin n u
reduce_form n S t u f e =
    let k = canonical_forked t f.canonical in
    moved f (reduce_single S t u f.single k e) (reduce_canonical S t u f.single f.canonical e f.different) (reduce-frontier S t u f.single k e)

pub join_form : {n : ℕ} (G : Restriction) {t u : Forest} → FormWithin n t → join G t ≡ some u → FormWithin n u
join_form G {t} {u} f e = let r = tree-left G t f.single f.canonical u f.different e in moved f r.0 r.1 r.2

-- No tokens; the state says that there is no tree; it says that there is one.
pub reduce_none : (S : Restriction) (t : Forest) {l : List ℕ} → l ≡ flat t → length l ≡ 0 → (t ≡ nil) × (reduce S t ≡ some nil)
unfolding reduce
reduce_none S t e h =
    let q : t ≡ nil = sym (tree_plain t) ∙ ap tree (at_end (plain t) e h) in
    (q, rw q)

when_x : (s : State) (f : Forest) → number s ≡ 4 → when (can_reduce s) f ≡ none
when_x E f h = absurd (omega arith)
when_x F f h = absurd (omega arith)
when_x L f h = absurd (omega arith)
when_x R f h = absurd (omega arith)
when_x X f h = refl

when_not_x : (s : State) (f : Forest) → (number s ≡ 4 → ⊥) → when (can_reduce s) f ≡ some f
when_not_x E f h = refl
when_not_x F f h = refl
when_not_x L f h = refl
when_not_x R f h = refl
when_not_x X f h = absurd (h refl)

pub reduce_no : (n : ℕ) (S : Restriction) (t : Forest) → FormWithin n t → number (state_of (judge S t)) ≡ 4 → reduce S t ≡ none
reduce_no n S t f h = reduce_total S t (canonical_forked t f.canonical) ∙ when_x (state_of (judge S t)) (first_reduced (totals (judge S t))) h

pub reduce_yes : (n : ℕ) (S : Restriction) (t : Forest) → FormWithin n t → (number (state_of (judge S t)) ≡ 4 → ⊥) → reduce S t ≡ some (first_reduced (totals (judge S t)))
reduce_yes n S t f h = reduce_total S t (canonical_forked t f.canonical) ∙ when_not_x (state_of (judge S t)) (first_reduced (totals (judge S t))) h

-- The tree that it can be reduced to is the one that the judged tree says.
when_some : (b : Bool) (f u : Forest) → when b f ≡ some u → f ≡ u
when_some true f u h = some-injective f u h
when_some false f u h = absurd (none-ne-some u h)

pub reduce_is : (n : ℕ) (S : Restriction) (t u : Forest) → FormWithin n t → reduce S t ≡ some u → first_reduced (totals (judge S t)) ≡ u
reduce_is n S t u f h = when_some (can_reduce (state_of (judge S t))) (first_reduced (totals (judge S t))) u (sym (reduce_total S t (canonical_forked t f.canonical)) ∙ h)

-- Where the item stays, the tree does.
first-only : (j : Judged) → Single (items (tree j)) → tree (first_of j) ≡ tree j
unfolding first_of
first-only j_nil h = refl
first-only (j_leaf s b j_nil) h = refl
first-only (j_leaf s b (j_leaf r a j)) h = absurd h
first-only (j_leaf s b (j_node r k i j)) h = absurd h
first-only (j_node s k i j_nil) h = refl
first-only (j_node s k i (j_leaf r a j)) h = absurd h
first-only (j_node s k i (j_node r m l j)) h = absurd h

pub reduce-stays : (n : ℕ) (S : Restriction) (t u : Forest) → FormWithin n t → reduce S t ≡ some u → true ≡ stays (judge S t) → t ≡ u
reduce-stays n S t u f z h =
    let e = tree-judge S t in
    let c : Canonical (tree (judge S t)) = rw e f.canonical in
    let o : Single (items (tree (judge S t))) = rw e f.single in
    sym (stays_same (judge S t) c (sym h) ∙ first-only (judge S t) o ∙ e) ∙ reduce_is n S t u f z

-- The form of every tree with these tokens.
pub the_form : (n : ℕ) (l : List ℕ) (p : TokensWithin n l) (t : Forest) → l ≡ flat t → FormWithin n t
the_form n l p t e = let q = flat_injective p.0 t (sym p.1 ∙ e) in rw (← q) p.2

pub tokens_short : (n : ℕ) (l : List ℕ) → TokensWithin n l → length l ≤ 510
tokens_short n l p = omega (arith, ap length p.1, form_short n p.0 p.2 p.3)

-- The judged tree, as the part that is read next.
pub judged_part : (S : Restriction) (t : Forest) {old new : List ℕ} {m : ℕ} → Wrote (encode (judge S (tree (plain t)))) old new m → take (m - 0) (drop 0 new) ≡ encode (judge S t)
judged_part S t w = read_part (begins w) ∙ ap (λ (f : Forest). encode (judge S f)) (tree_plain t)

-- What the judge wrote, new, for the tokens of a tree, and what the first of its states says.
module _ (S : Restriction) {toks old new : List ℕ} (judged : (j : Judged) → toks ≡ encode j → Wrote (encode (judge S (tree j))) old new (length toks)) where
  pub judged_text : (t : Forest) → toks ≡ flat t → take (length toks - 0) (drop 0 new) ≡ encode (judge S t)
  judged_text t e = judged_part S t (judged (plain t) e)

  module _ {n s : ℕ} (state : (j : Judged) → take (length toks - 0) (drop 0 new) ≡ encode j → s ≡ number (state_of j)) (p : TokensWithin n toks) where
    pub not_reduced : s ≡ 4 → (t : Forest) → toks ≡ flat t → reduce S t ≡ none
    not_reduced x t e = reduce_no n S t (the_form n toks p t e) (sym (state _ (judged_text t e)) ∙ x)

    pub is_reduced : (s ≡ 4 → ⊥) → (t : Forest) → toks ≡ flat t → reduce S t ≡ some (first_reduced (totals (judge S t)))
    is_reduced x t e = reduce_yes n S t (the_form n toks p t e) (λ h. x (state _ (judged_text t e) ∙ h))

-- A judged tree that can be reduced: its tokens are few, every tree with them has the form, its nodes have two items or more, and what is written
-- has few tokens too.
module _ {n : ℕ} {S : Restriction} {t : Forest} {toks judged : List ℕ} (p : JudgedTree n S t toks judged) where
  tokens_within : TokensWithin n toks
  tokens_within = (t, p.is, p.form, p.few_leaves)

  pub judged_short : (length judged ≡ length toks) × (length toks ≤ 510)
  judged_short = (ap length p.states ∙ judge-length S t ∙ sym (ap length p.is), tokens_short n toks tokens_within)

  pub judged_form : {u : Forest} → toks ≡ flat u → FormWithin n u
  judged_form {u} e = the_form n toks tokens_within u e

  pub judged_forks : Forks (judge S t)
  judged_forks = rw (tree-judge S t) (canonical_forked t p.form.canonical)

  pub reduced_short : length (flat (first_reduced (totals (judge S t)))) ≤ 510
  reduced_short = form_short n _ (reduce_form n S t _ p.form (reduce_yes n S t p.form (λ e. p.possible (reduce_no n S t p.form e)))) p.few_leaves

pub wrote_as : {xs ys old new : List ℕ} {k : ℕ} → xs ≡ ys → Wrote xs old new k → Wrote ys old new k
wrote_as e w = rw (← e) w
