-- The call's checks, and its definition meets the third demand.
use mathlib.Core.Path.{◌≡◌, refl, sym, ap, subst, ◌∙◌}
use mathlib.Core.Option.{none, some}
use mathlib.Core.List.{List, [], ◌∷◌, ◌++◌}
use Prim.Native.Nat.{ℕ, ◌≤◌}
use native.Mathlib.Omega.{arith}
use borrow.Author.Tests.{le-ltb}
use lib.ListN.{length, take, drop, replicate}
use lib.Seq.{take-append_seam}
use Rattle.spec_orders.proofs.ListLaws.{drop_zeros}
use Rattle.spec_orders.specs.declared.Layout.{Layout}
use Rattle.spec_orders.specs.declared.Layout.TheVariants.{Ring}
use Rattle.spec_orders.specs.CircularOrder.{Restriction, WellFormed, group_of}
use Rattle.spec_orders.specs.Layout.{leaf_count}
use Rattle.spec_orders.proofs.Straight.{named_visible}
use Rattle.spec_orders.proofs.StraightConflicts.{conflicts_same}
use Rattle.spec_orders.proofs.Conflicts.{sublist_length, book_numbers, book_demand_3}
use Rattle.spec_calls.specs.declared.Refusal.{Refusal}
use Rattle.spec_calls.specs.Tables.{Book, padded}
use Rattle.spec_orders.proofs.Numbers.{numbers_length}
use Rattle.spec_calls.specs.Refusals.{Reply, reply, reported, first_refusal, short, bad_list}
use Rattle.spec_calls.specs.Calls.{Filled, filled_as, group_numbered, conflict_refusal, conflicts_of, conflict_call}
use Rattle.spec_calls.proofs.NodeTables.{padded-length}
use Rattle.spec_calls.proofs.Demands.{passes_iff, size_fine, rack_fine}
use Rattle.spec_calls.proofs.Books.{book_visible}
use Rattle.table_book.proofs.Laws.{few_groups}
use Rattle.tree_tokens.specs.Tokens.{Wrote}
use Rattle.spec_calls.specs.Demands.{LentBook, Named}
use Rattle.spec_calls.specs.Promises.{ConflictPromise}
use Rattle.call_checks.specs.Lent.{book_checks}
use Rattle.spec_calls.proofs.Checks.{first_refusal_some, first_refusal_none, first_refusal-one}

module _ (l : Layout) (n : ℕ) (book : Book) (list table : List ℕ) where
  -- The checks of the lent book, and then those of the list.
  checks_are : conflict_refusal l n book list table ≡ first_refusal (book_checks l n book (short 96 table) ++ (bad_list n list ∷ []))
  unfolding conflict_refusal
  checks_are = refl

  pub book_refused : (r : Refusal) → first_refusal (book_checks l n book (short 96 table)) ≡ some r → conflict_refusal l n book list table ≡ some r
  book_refused r e = checks_are ∙ first_refusal_some (book_checks l n book (short 96 table)) (bad_list n list ∷ []) r e

  pub list_judged : first_refusal (book_checks l n book (short 96 table)) ≡ none → conflict_refusal l n book list table ≡ bad_list n list
  list_judged e = checks_are ∙ first_refusal_none (book_checks l n book (short 96 table)) (bad_list n list ∷ []) e ∙ first_refusal-one (bad_list n list)

  pub lent_passes : 1 ≤ n → leaf_count l n ≤ 256 → LentBook n book → 96 ≤ length table → WellFormed n list → conflict_refusal l n book list table ≡ none
  unfolding conflict_refusal
  lent_passes m few h places w =
      rw (
        size_fine l n m few,
        rack_fine l n few,
        le-ltb (length book.words) 384 h.all_words,
        le-ltb (length table) 96 places,
        h.in_form,
        (passes_iff n list).1 w,
      )

-- There are no more numbers than groups.
pub list_few : (l : Layout) (n : ℕ) (book : Book) (new : Restriction) → length (conflicts_of l n book new) ≤ book.count
unfolding conflicts_of
list_few l n book new = omega (arith, sublist_length (book_demand_3 l n (group_numbered book.words) book.count new).numbers, numbers_length 1 book.count)

conflict_meets : (l : Layout) (n : ℕ) (book : Book) (list table : List ℕ) → 1 ≤ n → leaf_count l n ≤ 256 → LentBook n book → 96 ≤ length table → WellFormed n list
    → Named l n book list (conflict_call l n book list table).answer (conflict_call l n book list table).table
unfolding conflict_call conflicts_of
conflict_meets l n book list table m few_leaves h places w =
    let xs = conflicts_of l n book (group_of n list) in
    let few : length xs ≤ 96 = omega (arith, list_few l n book (group_of n list), few_groups n book h.in_form) in
    let d = book_demand_3 l n (group_numbered book.words) book.count (group_of n list) in
    rw (lent_passes l n book list table m few_leaves h places w)
    (record {
      numbers = xs;
      answered = refl;
      places = subst (λ k. take k (padded 96 xs ++ drop (length (padded 96 xs)) table) ≡ padded 96 xs) (padded-length 96 xs few)
          (take-append_seam (padded 96 xs) (drop (length (padded 96 xs)) table));
      rise = book_numbers book.count d.numbers;
      demand = d;
    })

-- What the code answers: a refusal; the numbers, which were written to zeros and copied.
module _ (l : Layout) (n : ℕ) (book : Book) (list table : List ℕ) where
  promised : {said : Reply} {new : List ℕ} → filled_as said new ≡ conflict_call l n book list table → ConflictPromise l n book list table new said
  promised e = (e, λ m few h places w. subst (λ (c : Filled). Named l n book list c.answer c.table) (sym e) (conflict_meets l n book list table m few h places w))

  pub call_refused : (r : Refusal) → conflict_refusal l n book list table ≡ some r → ConflictPromise l n book list table table (reported r)
  unfolding conflict_call
  call_refused r e = promised (rw e)

  pub call_found : {numbers new : List ℕ} {k m : ℕ} → conflict_refusal l n book list table ≡ none
      → Wrote (conflicts_of l n book (group_of n list)) (replicate 96 0) numbers k → Wrote numbers table new m
      → ConflictPromise l n book list table new (reply 0 k)
  unfolding conflict_call
  call_found {numbers} h a b =
      let xs = conflicts_of l n book (group_of n list) in
      let e : numbers ≡ padded 96 xs = a.text ∙ ap (λ (ys : List ℕ). xs ++ ys) (drop_zeros (length xs) 96) in
      promised (rw (h, a.many, b.text, e))

-- The numbers are those of the ring of as many bins as the tree has leaves.
pub ring_list : (l : Layout) (n : ℕ) (book : Book) (list : List ℕ) → 1 ≤ n → LentBook n book → bad_list n list ≡ none
    → conflicts_of Ring (leaf_count l n) book (group_of n list) ≡ conflicts_of l n book (group_of n list)
unfolding conflicts_of
ring_list l n book list m h e =
    sym (conflicts_same l n m (group_numbered book.words) book.count (group_of n list) (named_visible l n list ((passes_iff n list).0 e).in_range) (book_visible l n book h))
