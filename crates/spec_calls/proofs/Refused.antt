-- What a refusal leaves, and which of 5 and 6 counts.
use mathlib.Core.Path.{◌≡◌, refl, sym, ◌∙◌, ap}
use mathlib.Core.Logic.{◌⊎◌, ◌≢◌, inl, inr}
use mathlib.Core.Bool.{Bool, true, false, cond, ◌||◌}
use mathlib.Core.Option.{Option, none, some}
use mathlib.Core.List.{List, [], ◌∷◌, ◌++◌}
use Prim.Native.Nat.{ℕ, suc, ◌+◌, ◌≤◌, ◌<◌}
use native.Mathlib.Omega.{arith}
use native.Mathlib.Nat.{add-zero, zero-add, pos_of_ne-zero}
use borrow.Author.Tests.{eqb-true, eqb-false, ltb-true, ltb-false}
use lib.Dec.{eqb, ltb}
use lib.ListN.{length}
use Rattle.spec_orders.specs.Lists.{All, Distinct, In, elem}
use Rattle.spec_orders.specs.Tree.{Forest}
use Rattle.spec_orders.specs.TreeText.{Found}
use Rattle.spec_calls.specs.declared.Refusal.{Refusal}
use Rattle.spec_calls.specs.declared.Refusal.TheVariants.{OutsideRing, Repeated}
use Rattle.spec_calls.specs.Tables.{Nodes, Book}
use Rattle.spec_calls.specs.Refusals.{bad_leaf}
use Rattle.spec_calls.specs.Calls.{Changed, filled, opened, open_refusal, open_call, joined, join_refusal, joined_tree, join_call, read_outcome, ReadCall, unread, read}
use Rattle.spec_calls.proofs.Demands.{Fine, fine_more}

-- "Left as it was: every table."
abbrev pub Keeps : Changed → Nodes → Book → Type 0
Keeps x nodes book = x.answer.number ≢ 0 → (x.rows ≡ nodes.rows) × (x.book ≡ book)

opened_keeps : (o : Option Refusal) (nodes : Nodes) (book : Book) → Keeps (opened o nodes book) nodes book
unfolding opened
opened_keeps (some q) nodes book e = (refl, refl)
opened_keeps none nodes book e = absurd (e refl)

pub open_keeps : (nodes : Nodes) (book : Book) → Keeps (open_call nodes book) nodes book
unfolding open_call
open_keeps nodes book = opened_keeps (open_refusal nodes book) nodes book

joined_keeps : (o : Option Refusal) (t : Option Forest) (nodes : Nodes) (book : Book) (list : List ℕ) → Keeps (joined o t nodes book list) nodes book
unfolding joined
joined_keeps (some q) t nodes book list e = (refl, refl)
joined_keeps none t nodes book list e = absurd (e refl)

pub join_keeps : (nodes : Nodes) (book : Book) (list : List ℕ) → Keeps (join_call nodes book list) nodes book
unfolding join_call
join_keeps nodes book list = joined_keeps (join_refusal nodes book list) (joined_tree nodes list) nodes book list

read_keeps : (f : Found) (nodes : Nodes) (book : Book) → Keeps (read_outcome f nodes book) nodes book
unfolding read_outcome
read_keeps (Found.refused p) nodes book e = (refl, refl)
read_keeps (Found.tree t) nodes book e = absurd (e refl)

pub read_call_keeps : (nodes : Nodes) (book : Book) (text : List ℕ) (x : Changed) → ReadCall nodes book text x → Keeps x nodes book
read_call_keeps nodes book text x (unread p) e = (refl, refl)
read_call_keeps nodes book text x (read {f} p q) e = read_keeps f nodes book e

-- Of a call that fills one table.
pub filled_keeps : (o : Option Refusal) (v : ℕ) (xs table : List ℕ) → (filled o v xs table).answer.number ≢ 0 → (filled o v xs table).table ≡ table
filled_keeps (some q) v xs table e = refl
filled_keeps none v xs table e = absurd (e refl)

-- "Of 5 and 6 the earlier place counts": what stands before the named place is a list of different leaves of the ring; the leaf there is none of
-- the ring (5), or stands before it (6).
pub record Fault (n : ℕ) (l : List ℕ) (r : Refusal) : Type 0 where
  pub before : List ℕ
  pub at : ℕ
  pub after : List ℕ
  pub is : l ≡ before ++ (at ∷ after)
  pub in_range : All (λ b. (1 ≤ b) × (b ≤ n)) before
  pub different : Distinct before
  pub cause : ((r ≡ OutsideRing (length before)) × ((at ≡ 0) ⊎ (n < at))) ⊎ ((r ≡ Repeated (length before)) × (1 ≤ at) × (at ≤ n) × In at before)

-- From place k on, where the leaves of `seen` stand before.
record Found-bad (n : ℕ) (seen : List ℕ) (k : ℕ) (l : List ℕ) (r : Refusal) : Type 0 where
  before : List ℕ
  at : ℕ
  after : List ℕ
  is : l ≡ before ++ (at ∷ after)
  fine : Fine n seen before
  cause : ((r ≡ OutsideRing (k + length before)) × ((at ≡ 0) ⊎ (n < at)))
      ⊎ ((r ≡ Repeated (k + length before)) × (1 ≤ at) × (at ≤ n) × ((elem seen at ≡ true) ⊎ In at before))

same_refusal : {r s : Refusal} → some r ≡ some s → s ≡ r
same_refusal e = cc

leaf_outside : (n b : ℕ) (z p : Bool) → eqb b 0 ≡ z → ltb n b ≡ p → (z || p) ≡ true → (b ≡ 0) ⊎ (n < b)
leaf_outside n b true p q s e = inl (eqb-true b 0 q)
leaf_outside n b false true q s e = inr (ltb-true n b s)
leaf_outside n b false false q s e = absurd (let z : ◌≡◌ {A = ℕ} 0 1 = cc in omega arith)

later : (n : ℕ) (seen : List ℕ) (k b : ℕ) (l : List ℕ) (r : Refusal) → eqb b 0 ≡ false → ltb n b ≡ false → elem seen b ≡ false
    → Found-bad n (b ∷ seen) (suc k) l r → Found-bad n seen k (b ∷ l) r
later n seen k b l r z p s x = record {
  before = b ∷ x.before;
  at = x.at;
  after = x.after;
  is = ap (λ y. b ∷ y) x.is;
  fine = fine_more n seen b x.before z p s x.fine;
  cause = moved x.cause;
}
  where
    place : suc k + length x.before ≡ k + length (b ∷ x.before)
    place = omega arith

    stands : (c : Bool) → eqb x.at b ≡ c → cond c true (elem seen x.at) ≡ true → (elem seen x.at ≡ true) ⊎ In x.at (b ∷ x.before)
    stands true q e = inr (inl (eqb-true x.at b q))
    stands false q e = inl e

    earlier : (elem (b ∷ seen) x.at ≡ true) ⊎ In x.at x.before → (elem seen x.at ≡ true) ⊎ In x.at (b ∷ x.before)
    earlier (inl e) = stands (eqb x.at b) refl e
    earlier (inr i) = inr (inr i)

    moved : ((r ≡ OutsideRing (suc k + length x.before)) × ((x.at ≡ 0) ⊎ (n < x.at)))
        ⊎ ((r ≡ Repeated (suc k + length x.before)) × (1 ≤ x.at) × (x.at ≤ n) × ((elem (b ∷ seen) x.at ≡ true) ⊎ In x.at x.before))
        → ((r ≡ OutsideRing (k + length (b ∷ x.before))) × ((x.at ≡ 0) ⊎ (n < x.at)))
        ⊎ ((r ≡ Repeated (k + length (b ∷ x.before))) × (1 ≤ x.at) × (x.at ≤ n) × ((elem seen x.at ≡ true) ⊎ In x.at (b ∷ x.before)))
    moved (inl c) = inl (c.0 ∙ ap OutsideRing place, c.1)
    moved (inr c) = inr (c.0 ∙ ap Repeated place, c.1, c.2, earlier c.3)

find_bad : (n : ℕ) (seen : List ℕ) (k : ℕ) (l : List ℕ) (r : Refusal) → bad_leaf n seen k l ≡ some r → Found-bad n seen k l r
unfolding bad_leaf
find_bad n seen k [] r e = absurd (let z : ◌≡◌ {A = ℕ} 0 1 = cc in omega arith)
find_bad n seen k (b ∷ l) r e = go (find_bad n (b ∷ seen) (suc k) l r) (eqb b 0) refl (ltb n b) refl (elem seen b) refl e
  where
    go : (bad_leaf n (b ∷ seen) (suc k) l ≡ some r → Found-bad n (b ∷ seen) (suc k) l r) → (z : Bool) → eqb b 0 ≡ z → (p : Bool) → ltb n b ≡ p → (s : Bool) → elem seen b ≡ s
        → cond (z || p) (some (OutsideRing k)) (cond s (some (Repeated k)) (bad_leaf n (b ∷ seen) (suc k) l)) ≡ some r → Found-bad n seen k (b ∷ l) r
    go more true z p q s w e = record { before = []; at = b; after = l; is = refl; fine = (tt, tt, tt); cause = inl (same_refusal e ∙ ap OutsideRing (sym (add-zero k)), leaf_outside n b true p z q refl) }
    go more false z true q s w e = record { before = []; at = b; after = l; is = refl; fine = (tt, tt, tt); cause = inl (same_refusal e ∙ ap OutsideRing (sym (add-zero k)), leaf_outside n b false true z q refl) }
    go more false z false q true w e = record { before = []; at = b; after = l; is = refl; fine = (tt, tt, tt); cause = inr (same_refusal e ∙ ap Repeated (sym (add-zero k)), pos_of_ne-zero (eqb-false b 0 z), ltb-false n b q, inl w) }
    go more false z false q false w e = later n seen k b l r z q w (more e)

pub earlier_place : (n : ℕ) (l : List ℕ) (r : Refusal) → bad_leaf n [] 0 l ≡ some r → Fault n l r
earlier_place n l r e =
    let x = find_bad n [] 0 l r e in
    record { before = x.before; at = x.at; after = x.after; is = x.is; in_range = x.fine.0; different = x.fine.1; cause = first x.before x.at x.cause }
  where
    seen_none : (at : ℕ) (before : List ℕ) → (elem [] at ≡ true) ⊎ In at before → In at before
    seen_none at before (inl e) = absurd (let z : ◌≡◌ {A = ℕ} 0 1 = cc in omega arith)
    seen_none at before (inr i) = i

    first : (before : List ℕ) (at : ℕ)
        → ((r ≡ OutsideRing (0 + length before)) × ((at ≡ 0) ⊎ (n < at))) ⊎ ((r ≡ Repeated (0 + length before)) × (1 ≤ at) × (at ≤ n) × ((elem [] at ≡ true) ⊎ In at before))
        → ((r ≡ OutsideRing (length before)) × ((at ≡ 0) ⊎ (n < at))) ⊎ ((r ≡ Repeated (length before)) × (1 ≤ at) × (at ≤ n) × In at before)
    first before at (inl c) = inl (c.0 ∙ ap OutsideRing (zero-add (length before)), c.1)
    first before at (inr c) = inr (c.0 ∙ ap Repeated (zero-add (length before)), c.1, c.2, seen_none at before c.3)
