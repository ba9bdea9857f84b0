-- What a group line comes to, and what the attempt to join its group; the ring in its tables before and after it.
use mathlib.Core.Path.{◌≡◌, refl, sym, ap, ap₂, subst, ◌∙◌}
use mathlib.Core.Bool.{Bool, true, false, cond}
use mathlib.Core.Option.{Option, none, some}
use mathlib.Core.List.{List, [], ◌∷◌, ◌++◌}
use Prim.Native.Nat.{ℕ, ◌+◌, ◌≤◌, ◌<◌}
use native.Mathlib.Omega.{arith}
use native.Mathlib.Numerals.{add-one}
use borrow.Author.Tests.{eq-eqb, ne_eqb}
use lib.Dec.{eqb}
use lib.ListN.{length, take, set, length-append}
use lib.Seq.{take-suc-set}
use Rattle.spec_orders.specs.Lists.{elem}
use Rattle.spec_orders.specs.CircularOrder.{group_of}
use Rattle.spec_orders.specs.Tree.{Forest}
use Rattle.spec_orders.specs.Join.{fresh, join}
use Rattle.spec_orders.proofs.Fresh.{fresh_form}
use Rattle.spec_orders.proofs.Joining.{join_some}
use Rattle.spec_calls.specs.declared.Refusal.{Refusal}
use Rattle.spec_calls.specs.declared.Refusal.TheVariants.{BookFull, Impossible}
use Rattle.spec_calls.specs.Tables.{lent_book}
use Rattle.spec_calls.specs.Book.{groups, booked}
use Rattle.spec_calls.specs.Refusals.{refuse, first_refusal, bad_list}
use Rattle.spec_calls.specs.Calls.{is_none}
use Rattle.spec_calls.proofs.Demands.{well_formed_passes}
use Rattle.spec_calls.proofs.Books.{groups-booked}
use Rattle.table_book.proofs.Lists.{group_held}
use Rattle.tree_tokens.specs.Tokens.{Wrote, flat, TreeTokens}
use Rattle.tree_tokens.proofs.Writes.{read_back, wrote_most}
use Rattle.list_attempt.specs.Attempts.{group_refusal, JoinedTree}
use Rattle.list_attempt.proofs.Laws.{list_passed}
use Rattle.spec_listing.specs.Listing.{Outcome, kept, refused, full, RingState, opened, joined, outcome, next}
use Rattle.list_ring.specs.Stands.{RingStands, Line}

-- The fresh ring.
pub opened_stands : (n : ℕ) {old toks : List ℕ} {m : ℕ} → Wrote (flat (fresh n)) old toks m → (book table : List ℕ) → RingStands n (opened n) toks m book table 0
unfolding groups
opened_stands n w book table = record {
  form = fresh_form n;
  tokens = read_back w;
  all_tokens = wrote_most w;
  in_book = refl;
  in_table = refl;
  counted = refl;
  few = omega arith;
}

module _ (n : ℕ) (s : RingState) where
  pub outcome_full : (list : List ℕ) → length s.groups ≡ 96 → outcome n s list ≡ full
  unfolding outcome
  outcome_full list e = rw (eq-eqb (length s.groups) 96 e)

  pub outcome-joined : (list : List ℕ) → (length s.groups ≡ 96 → ⊥) → outcome n s list ≡ joined n s (elem list) (join (elem list) s.tree)
  unfolding outcome
  outcome-joined list e = rw (ne_eqb (length s.groups) 96 e)

-- "`refused` (8)", "`full` (7)": the refusal that a line meets is the attempt's.
abbrev refusal_of : Outcome → Option Refusal
refusal_of (kept t) = none
refusal_of (refused ns) = some Impossible
refusal_of full = some BookFull

outcome_refusal : (n : ℕ) (s : RingState) (list : List ℕ) → Line n list → group_refusal s.tree n (length s.groups) list ≡ refusal_of (outcome n s list)
unfolding outcome group_refusal
outcome_refusal n s list line = rw (well_formed_passes n list line.group) (judged (eqb (length s.groups) 96) (join (elem list) s.tree))
  where
    judged : (f : Bool) (o : Option Forest)
        → first_refusal (refuse f BookFull ∷ refuse (is_none o) Impossible ∷ []) ≡ refusal_of (cond f full (joined n s (elem list) o))
    judged true o = refl
    judged false none = refl
    judged false (some t) = refl

-- Only a line that is kept changes the ring.
refused_next : (o : Outcome) (r : Refusal) → refusal_of o ≡ some r → (s : RingState) (line : ℕ) (list : List ℕ) → next s line list o ≡ s
refused_next (kept t) r e s line list = absurd (let z : ◌≡◌ {A = ℕ} 0 1 = cc in omega (arith, z))
refused_next (refused ns) r e s line list = refl
refused_next full r e s line list = refl

-- A line more in the table.
table_more : (table : List ℕ) (c line : ℕ) → c < length table → take (c + 1) (set table c line) ≡ take c table ++ (line ∷ [])
table_more table c line h = rw add-one (take-suc-set table c line h)

-- The ring after a line.
module _ (n : ℕ) (s : RingState) (line : ℕ) (list : List ℕ) {toks : List ℕ} {m : ℕ} {book table : List ℕ} {count : ℕ} (h : RingStands n s toks m book table count) where
  pub tree_tokens : n ≤ 256 → TreeTokens n (take m toks)
  tree_tokens l = record { shown = s.tree; is = h.tokens; in_form = h.form; few_leaves = l }

  pub stays : Line n list → (why : Refusal) → group_refusal s.tree n count list ≡ some why → RingStands n (next s line list (outcome n s list)) toks m book table count
  stays l why e =
      let q = sym (outcome_refusal n s list l) ∙ ap (λ (c : ℕ). group_refusal s.tree n c list) (sym h.counted) ∙ e in
      subst (λ (u : RingState). RingStands n u toks m book table count) (sym (refused_next (outcome n s list) why q s line list)) h

  module _ {marks old tree : List ℕ} {k : ℕ} (a : JoinedTree s.tree n count list marks old tree k) where
    passed : bad_list n list ≡ none
    passed = list_passed s.tree n count list a.passes

    is_kept : outcome n s list ≡ kept a.tree
    is_kept = outcome-joined n s list (λ e. a.not_full (h.counted ∙ e)) ∙ ap (joined n s (elem list)) a.is

    pub kept_few : count < 96
    kept_few = omega (arith, h.few, a.not_full)

    pub kept_stands : {toks' book' table' : List ℕ} {m' count' : ℕ} → n ≤ 256 → Wrote (take k tree) toks toks' m' → book' ≡ booked book count (group_of n list)
        → table' ≡ set table count line → count' ≡ count + 1 → 384 ≤ length book → 96 ≤ length table
        → RingStands n (next s line list (outcome n s list)) toks' m' book' table' count'
    kept_stands {toks'} {m' = m'} l w b v c all_words all_places =
        let u : Wrote (flat a.tree) toks toks' m' = subst (λ (u : List ℕ). Wrote u toks toks' m') (read_back a.wrote) w in
        rw is_kept
        (record {
          form = (join_some n (group_of n list) s.tree a.tree h.form a.is).form;
          tokens = read_back u;
          all_tokens = wrote_most u;
          in_book = ap₂ (λ (book : List ℕ) (i : ℕ). groups (lent_book book i)) b c
              ∙ groups-booked book count (group_of n list) (omega (arith, kept_few))
              ∙ rw (h.in_book, group_held n list l passed);
          in_table = ap₂ take c v ∙ table_more table count line (omega (arith, kept_few)) ∙ rw h.in_table;
          counted = omega (arith, h.counted, c, length-append s.groups (elem list ∷ []));
          few = omega (arith, kept_few, c);
        })
