-- What the first item that ends a span says of the items' states.
use mathlib.Core.Path.{◌≡◌, refl, sym, ap, ◌∙◌}
use mathlib.Core.Bool.{Bool, true, false}
use mathlib.Core.List.{List, [], ◌++◌}
use Prim.Native.Nat.{ℕ, suc, ◌+◌, ◌≤◌, ◌<◌}
use native.Mathlib.Omega.{arith}
use borrow.Author.Tests.{eqb-true, eqb-false, eq-eqb, ltb-true, ltb-false, leb-true, leb-false, le-leb, lt-leb, not-true, not-false}
use lib.Dec.{eqb, ltb, leb}
use lib.ListN.{length, length-drop}
use Rattle.tree_tokens.specs.Tokens.{number, Judged, j_nil, tree, encode, flat}
use Rattle.tree_tokens.specs.Views.{state_of, rest_of}
use Rattle.tree_tokens.proofs.Laws.{at_end}
use Rattle.tree_spans.specs.Spans.{is, is_not, passing, beyond, Parted}
use Rattle.tree_spans.proofs.Laws.{parted_some, beyond-same, beyond_stops}
use Rattle.tree_judge.specs.Judge.{rises}
use Rattle.tree_judge.specs.Total.{whole_of, states_of, totals}
use Rattle.tree_pieces.specs.Writers.{with_state, all_with_state}
use Rattle.tree_pieces.proofs.Laws.{at_first, totals_none, many, with_in, with_out, flat_in, all_in, all_out, rises_empty, rises_not, rises_last}
use Rattle.tree_pieces.proofs.Walks.{passing-text}

-- The items beyond: none, where all tokens pass; else the first of them does not pass.
module _ {p : ℕ → Bool} {x : List ℕ} (j : Judged) {r : ℕ} (w : Parted p x j r) where
  pub none_beyond : r ≡ length x → beyond p j ≡ j_nil
  none_beyond h = at_end (beyond p j) w.back (omega (arith, length-drop r x))

  pub some_beyond : r ≤ length x → (r ≡ length x → ⊥) → 0 < length (encode (beyond p j))
  some_beyond h n = omega (arith, ap length w.back, length-drop r x)

pub is_state : {n s : ℕ} → is s n ≡ true → n ≡ s
is_state {n} {s} = eqb-true n s

pub not_state : {n s : ℕ} → is_not s n ≡ true → n ≡ s → ⊥
not_state {n} {s} t = eqb-false n s (not-true (eqb n s) t)

-- The items of state s are those beyond the others.
pub with_until : (s : ℕ) (j : Judged) → with_state s (totals j) ≡ with_state s (totals (beyond (is_not s) j))
with_until s = beyond-same (is_not s) (λ j. with_state s (totals j)) (λ k h t. with_out s (at_first k h) (not_state t))

module _ (s : ℕ) {x : List ℕ} (j : Judged) {r : ℕ} (w : Parted (is_not s) x j r) (h : r ≤ length x) where
  pub until_none : r ≡ length x → with_state s (totals j) ≡ []
  until_none e = with_until s j ∙ rw (none_beyond j w e, totals_none)

  pub until_state : (r ≡ length x → ⊥) → number (state_of (beyond (is_not s) j)) ≡ s
  until_state n = eqb-true (number (state_of (beyond (is_not s) j))) s (not-false (eqb (number (state_of (beyond (is_not s) j))) s) (beyond_stops (is_not s) j (some_beyond j w h n)))

  -- The first of them, and those behind it.
  pub until_some : (n : r ≡ length x → ⊥)
      → many s j ≡ suc (many s (rest_of (beyond (is_not s) j)))
  until_some n = ap length (with_until s j ∙ with_in s (at_first (beyond (is_not s) j) (some_beyond j w h n)) (until_state n))

-- Whether there is one.
pub until_any : (s : ℕ) {x : List ℕ} (j : Judged) {r : ℕ} → Parted (is_not s) x j r → r ≤ length x → ltb r (length x) ≡ leb 1 (many s j)
until_any s {x} j {r} w h = go (ltb r (length x)) refl
  where
    go : (b : Bool) → ltb r (length x) ≡ b → ltb r (length x) ≡ leb 1 (many s j)
    go true e = e ∙ sym (le-leb 1 (many s j) (omega (arith, until_some s j w h (λ q. absurd (ltb_not q e)))))
      where
        ltb_not : r ≡ length x → ltb r (length x) ≡ true → ⊥
        ltb_not q t = omega (arith, ltb-true r (length x) t)
    go false e = e ∙ sym (lt-leb 1 (many s j) (omega (arith, ap length (until_none s j w h (omega (arith, ltb-false r (length x) e))))))

two_of : (n : ℕ) → leb 1 n ≡ leb 2 (suc n)
two_of n = go (leb 1 n) refl
  where
    go : (b : Bool) → leb 1 n ≡ b → b ≡ leb 2 (suc n)
    go true e = sym (le-leb 2 (suc n) (omega (arith, leb-true 1 n e)))
    go false e = sym (lt-leb 2 (suc n) (omega (arith, leb-false 1 n e)))

pub until_two : (s : ℕ) {x : List ℕ} (j : Judged) {r : ℕ} {b : Bool} → Parted (is_not s) x j r → r ≤ length x → (r ≡ length x → ⊥)
    → b ≡ leb 1 (many s (rest_of (beyond (is_not s) j))) → b ≡ leb 2 (many s j)
until_two s j w h n e = e ∙ two_of (many s (rest_of (beyond (is_not s) j))) ∙ ap (leb 2) (sym (until_some s j w h n))

-- The items up to the first one of state s, and then those of state s, have some tokens.
pub until_span : (s : ℕ) {x y : List ℕ} (j : Judged) {r q : ℕ} → Parted (is_not s) x j r → r ≤ length x → 0 < length x
    → y ≡ encode (beyond (is_not s) j) → Parted (is s) y (beyond (is_not s) j) q → 0 < r + q
until_span s {x} {y} j {r} {q} w h m e v = go (eqb r (length x)) refl
  where
    go : (b : Bool) → eqb r (length x) ≡ b → 0 < r + q
    go true t = omega (arith, eqb-true r (length x) t)
    go false t =
        let n = eqb-false r (length x) t in
        let k = beyond (is_not s) j in
        omega (arith, parted_some k v e (omega (arith, ap length e, some_beyond j w h n)) (eq-eqb (number (state_of k)) s (until_state s j w h n)))

-- The tokens of the items of state s: those at the start, and then the others.
pub with_span : (s : ℕ) (j : Judged)
    → flat (whole_of (with_state s (totals j))) ≡ flat (tree (passing (is s) j)) ++ flat (whole_of (with_state s (totals (beyond (is s) j))))
with_span s = passing-text (is s) (λ j. flat (whole_of (with_state s (totals j)))) (λ k h t. flat_in s (at_first k h) (is_state t))

module _ (s : ℕ) {x : List ℕ} (j : Judged) {r : ℕ} (w : Parted (is s) x j r) (h : r ≤ length x) where
  pub span_state : (r ≡ length x → ⊥) → number (state_of (beyond (is s) j)) ≡ s → ⊥
  span_state n = eqb-false (number (state_of (beyond (is s) j))) s (beyond_stops (is s) j (some_beyond j w h n))

  -- All are of state s where all tokens pass.
  all_beyond : all_with_state s (totals j) ≡ all_with_state s (totals (beyond (is s) j))
  all_beyond = beyond-same (is s) (λ k. all_with_state s (totals k)) (λ k h t. all_in s (at_first k h) (is_state t)) j

  pub span_all : eqb r (length x) ≡ all_with_state s (totals j)
  span_all = go (eqb r (length x)) refl
    where
      go : (b : Bool) → eqb r (length x) ≡ b → b ≡ all_with_state s (totals j)
      go true e = sym (all_beyond ∙ rw (none_beyond j w (eqb-true r (length x) e), totals_none))
      go false e = let n = eqb-false r (length x) e in sym (all_beyond ∙ all_out s (at_first (beyond (is s) j) (some_beyond j w h n)) (span_state n))

-- The states rise where those beyond the empty items do.
rises-beyond : (j : Judged) → rises (states_of (totals j)) ≡ rises (states_of (totals (beyond (is 0) j)))
rises-beyond = beyond-same (is 0) (λ j. rises (states_of (totals j))) (λ k h t. rises_empty (at_first k h) (is_state t))

module _ {x : List ℕ} (j : Judged) {r : ℕ} (w : Parted (is 0) x j r) (h : r ≤ length x) where
  pub rises_none : r ≡ length x → true ≡ rises (states_of (totals j))
  rises_none e = sym (rises-beyond j ∙ rw (none_beyond j w e, totals_none))

  pub rises_stop : (r ≡ length x → ⊥) → 3 ≤ number (state_of (beyond (is 0) j)) → false ≡ rises (states_of (totals j))
  rises_stop n e = sym (rises-beyond j ∙ rises_not (at_first (beyond (is 0) j) (some_beyond j w h n)) e)

  pub rises_go : (r ≡ length x → ⊥) → (3 ≤ number (state_of (beyond (is 0) j)) → ⊥) → {b : Bool} → b ≡ all_with_state 1 (totals (rest_of (beyond (is 0) j))) → b ≡ rises (states_of (totals j))
  rises_go n e q = q ∙ sym (rises-beyond j ∙ rises_last (at_first (beyond (is 0) j) (some_beyond j w h n)) (span_state 0 j w h n) e)
