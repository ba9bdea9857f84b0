-- The trial's answer from what the other checks and the sweep say; joining's from the trial's.
use mathlib.Core.Path.{◌≡◌, refl, sym, ◌∙◌, ap, ap₂, subst}
use mathlib.Core.Logic.{◌≢◌}
use mathlib.Core.Bool.{Bool, true, false, cond, not, ◌||◌, true≢false}
use mathlib.Core.Option.{Option, none, some}
use mathlib.Core.List.{List, [], ◌∷◌}
use Prim.Native.Nat.{ℕ, suc, ◌+◌, ◌≤◌}
use native.Mathlib.Omega.{arith}
use borrow.Author.Tests.{eq-eqb, ne_eqb, le-ltb}
use lib.Dec.{eqb, ltb}
use lib.ListN.{length}
use Rattle.spec_orders.specs.declared.Layout.{Layout}
use Rattle.spec_orders.specs.Lists.{elem}
use Rattle.spec_orders.specs.CircularOrder.{Restriction, group_of}
use Rattle.spec_orders.proofs.Tests.{or_swap}
use Rattle.spec_orders.specs.Layout.{leaf_count}
use Rattle.spec_orders.specs.Tree.{Forest}
use Rattle.spec_orders.specs.Reduce.{reduce}
use Rattle.spec_orders.specs.Join.{join, then}
use Rattle.mark_words.specs.Marks.{marked, words_of, outside}
use Rattle.spec_calls.specs.declared.Refusal.{Refusal}
use Rattle.spec_calls.specs.declared.Refusal.TheVariants.{RingSize, RackSize, ShortTable, NotInForm, OutsideRing, Repeated, BookFull, Impossible as Not-possible}
use Rattle.std.specs.declared.result.Result.{Result}
use Rattle.std.specs.declared.result.Result.TheVariants.{Ok, Err}
use Rattle.spec_calls.specs.Tables.{Nodes, leaves, Book, lent_book, over}
use Rattle.spec_calls.specs.Book.{book_in_form?, booked}
use Rattle.spec_calls.specs.NodeTable.{table_of, held_tree}
use Rattle.spec_calls.specs.Refusals.{Reply, reply, reported, report, refuse, first_refusal, bad_size, full_rack, short, short_nodes, bad_leaf, bad_list}
use Rattle.spec_calls.specs.Calls.{changed_as, is_none, joined_tree, join_refusal, joined, join_call, trial_call}
use Rattle.spec_calls.specs.Demands.{Joins, ImpossibleIff}
use Rattle.spec_calls.specs.Promises.{JoinPromise, TrialPromise}
use Rattle.spec_calls.proofs.Demands.{few_bins, size_fine, rack_fine, nodes-whole, join_meets}
use Rattle.spec_calls.proofs.NodeTables.{tree_in_holds}
use Rattle.spec_calls.proofs.Reports.{refused_number}
use Rattle.call_checks.specs.Lent.{book_checks}
use Rattle.call_checks.proofs.Laws.{some_leaf, book_lent}
use Rattle.table_book.proofs.Laws.{few_groups}
use Rattle.table_book.proofs.Lists.{group_held}
use Rattle.table_sweep.specs.declared.Verdict.{Verdict}
use Rattle.table_sweep.specs.declared.Verdict.TheVariants.{NoTree, Impossible, Possible}
use Rattle.table_sweep.specs.Kept.{Started, Swept, Told}
use Rattle.tree_update.proofs.Agree.{join-outside, join_inside}
use Rattle.tree_update.proofs.Updates.{form_within}
use Rattle.call_trial.specs.Trials.{refusal_with, up_to_3, BookPasses, Waits, sooner, later, counts, GroupWords, Side, Ready, AfterSweep, TrialSays, Joinable, settled}

some_none : {A : Type 0} {x : A} → ◌≡◌ {A = Option A} none (some x) → ⊥
some_none e = let z : ◌≡◌ {A = ℕ} 0 1 = cc in omega arith

the_some : {A : Type 0} {x y : A} → ◌≡◌ {A = Option A} (some x) (some y) → x ≡ y
the_some e = cc

-- ---- the checks that need no node table

-- 1, 15, 2, or 3 on the book; `more` comes after them, and d is a further reason for 3.
by_book : (a k b c d : Bool) (r : Refusal) (more : List (Option Refusal)) → first_refusal (refuse a RingSize ∷ refuse k RackSize ∷ refuse b ShortTable ∷ refuse c NotInForm ∷ []) ≡ some r
    → (up_to_3 r ≡ true) × (first_refusal (refuse a RingSize ∷ refuse k RackSize ∷ refuse b ShortTable ∷ refuse (d || c) NotInForm ∷ more) ≡ some r)
by_book true k b c d r more e = (subst (λ x. up_to_3 x ≡ true) (the_some e) refl, e)
by_book false true b c d r more e = (subst (λ x. up_to_3 x ≡ true) (the_some e) refl, e)
by_book false false true c d r more e = (subst (λ x. up_to_3 x ≡ true) (the_some e) refl, e)
by_book false false false true true r more e = (subst (λ x. up_to_3 x ≡ true) (the_some e) refl, e)
by_book false false false true false r more e = (subst (λ x. up_to_3 x ≡ true) (the_some e) refl, e)
by_book false false false false d r more e = absurd (some_none e)

-- 5 and 6 come after 3.
list_later : (n : ℕ) (seen : List ℕ) (k : ℕ) (list : List ℕ) (r : Refusal) → bad_leaf n seen k list ≡ some r → up_to_3 r ≡ false
unfolding bad_leaf
list_later n seen k [] r e = absurd (some_none e)
list_later n seen k (b ∷ bs) r e = go (λ h. list_later n (b ∷ seen) (suc k) bs r h) (eqb b 0 || ltb n b) (elem seen b) e
  where
    go : (bad_leaf n (b ∷ seen) (suc k) bs ≡ some r → up_to_3 r ≡ false) → (a c : Bool) → cond a (some (OutsideRing k)) (cond c (some (Repeated k)) (bad_leaf n (b ∷ seen) (suc k) bs)) ≡ some r → up_to_3 r ≡ false
    go h true c e = subst (λ x. up_to_3 x ≡ false) (the_some e) refl
    go h false true e = subst (λ x. up_to_3 x ≡ false) (the_some e) refl
    go h false false e = h e

module _ (l : Layout) (n : ℕ) (too_short : Bool) (book : Book) (list : List ℕ) where
  pub refused_sooner : {Fact : Type 0} (r : Refusal) → first_refusal (book_checks l n book too_short) ≡ some r → Waits l n too_short book list Fact (Err r)
  unfolding refusal_with
  refused_sooner r e = sooner {r = r} (at none).0 (λ o. rw (or_swap too_short (short 384 book.words)) (at o).1)
    where
      at : (o : Option Forest) → (up_to_3 r ≡ true) × (first_refusal (refuse (bad_size n) RingSize ∷ refuse (full_rack l n) RackSize ∷ refuse (short 384 book.words || too_short) ShortTable ∷ refuse (is_none o || not (book_in_form? n book)) NotInForm ∷ bad_list n list ∷ refuse (eqb book.count 96) BookFull ∷ refuse (is_none (then o (join (group_of n list)))) Not-possible ∷ []) ≡ some r)
      at o = by_book (bad_size n) (full_rack l n) (short 384 book.words || too_short) (not (book_in_form? n book)) (is_none o) r (bad_list n list ∷ refuse (eqb book.count 96) BookFull ∷ refuse (is_none (then o (join (group_of n list)))) Not-possible ∷ []) e

  pub whole : first_refusal (book_checks l n book too_short) ≡ none → BookPasses l n too_short book
  whole e = let w = book_lent l n book too_short e in record { some_bin = w.0; few_leaves = w.1; groups = w.2; long = w.3 }

  module _ (w : BookPasses l n too_short book) where
    no_tree : refusal_with l n too_short book list none ≡ some NotInForm
    unfolding refusal_with
    no_tree = rw (size_fine l n w.some_bin w.few_leaves, rack_fine l n w.few_leaves, w.long, le-ltb (length book.words) 384 w.groups.all_words)

    with_tree : (t : Forest) → refusal_with l n too_short book list (some t)
        ≡ first_refusal (bad_list n list ∷ refuse (eqb book.count 96) BookFull ∷ refuse (is_none (join (group_of n list) t)) Not-possible ∷ [])
    unfolding refusal_with
    with_tree t = rw (size_fine l n w.some_bin w.few_leaves, rack_fine l n w.few_leaves, w.long, le-ltb (length book.words) 384 w.groups.all_words, w.groups.in_form)

    pub refused_list : {Fact : Type 0} (r : Refusal) → bad_list n list ≡ some r → Waits l n too_short book list Fact (Err r)
    refused_list r e = later {r = r} (list_later n [] 0 list r e) w (λ t. with_tree t ∙ rw e)

    module _ (e : bad_list n list ≡ none) where
      pub refused_full : {Fact : Type 0} → book.count ≡ 96 → Waits l n too_short book list Fact (Err BookFull)
      refused_full q = later {r = BookFull} refl w (λ t. with_tree t ∙ rw (e, eq-eqb book.count 96 q))

      by_tree : book.count ≢ 96 → (t : Forest) → refusal_with l n too_short book list (some t) ≡ first_refusal (refuse (is_none (join (group_of n list) t)) Not-possible ∷ [])
      by_tree q t = with_tree t ∙ rw (e, ne_eqb book.count 96 q)

  -- Where no check refuses, the other checks pass.
  passed : {Fact : Type 0} {x : Result ℕ Refusal} (o : Option Forest) → refusal_with l n too_short book list o ≡ none → Waits l n too_short book list Fact x
      → BookPasses l n too_short book × (bad_list n list ≡ none) × (book.count ≢ 96) × Fact
  passed o e (sooner a b) = absurd (some_none (sym e ∙ b o))
  passed none e (later a w b) = absurd (some_none (sym e ∙ no_tree w))
  passed (some t) e (later a w b) = absurd (some_none (sym e ∙ b t))
  passed o e (counts q w f m y) = (w, f, m, y)

  -- And there is a tree that the group can join.
  can_join : (o : Option Forest) → refusal_with l n too_short book list o ≡ none → BookPasses l n too_short book → bad_list n list ≡ none → book.count ≢ 96
      → (t : Forest) × (new : Forest) × (o ≡ some t) × (join (group_of n list) t ≡ some new)
  can_join none e w f m = absurd (some_none (sym e ∙ no_tree w))
  can_join (some t) e w f m = let r = go (join (group_of n list) t) refl (sym (by_tree w f m t) ∙ e) in (t, r.0, refl, r.1)
    where
      go : (p : Option Forest) → join (group_of n list) t ≡ p → first_refusal (refuse (is_none p) Not-possible ∷ []) ≡ none → (new : Forest) × (join (group_of n list) t ≡ some new)
      go none q h = absurd (some_none (sym h))
      go (some new) q h = (new, q)

-- ---- the side of the group that leaf 1 is not in

module _ (l : Layout) (n : ℕ) (list words : List ℕ) (m : GroupWords n list words) (e : bad_list n list ≡ none) (few : leaf_count l n ≤ 256) where
  held : marked words ≡ group_of n list
  held = ap marked m ∙ group_held n list (few_bins l n few) e

  pub side-outside : (us : List ℕ) → length words ≡ 4 → true ≡ marked words 1 → us ≡ words_of (length words) (outside (leaf_count l n) (marked words)) → Side l n list (marked us)
  side-outside us four q u t f = ap (λ G. join G t) (sym held) ∙ join-outside (leaf_count l n) words words us t (form_within f) (omega arith) q refl u

  pub side_inside : false ≡ marked words 1 → Side l n list (marked words)
  side_inside q t f = ap (λ G. join G t) (sym held) ∙ join_inside words t q

pub side_waits : {l : Layout} {n : ℕ} {too_short : Bool} {book : Book} {list words : List ℕ} {r : Result ℕ Refusal} (S : Restriction)
    → (GroupWords n list words → bad_list n list ≡ none → leaf_count l n ≤ 256 → Side l n list S) → Waits l n too_short book list (GroupWords n list words) r
    → Waits l n too_short book list (Side l n list S) r
side_waits S f (sooner a b) = sooner a b
side_waits S f (later a w b) = later a w b
side_waits S f (counts k w e q m) = counts k w e q (f m e w.few_leaves)

-- ---- the answer

module _ (nodes : Nodes) (book : Book) (list : List ℕ) where
  refusal_is : join_refusal nodes book list ≡ refusal_with nodes.layout nodes.bins (short_nodes nodes) book list (held_tree nodes)
  unfolding join_refusal joined_tree refusal_with
  refusal_is = refl

  demand : (r : Reply) → r ≡ trial_call nodes book list → TrialPromise nodes book list r
  unfolding trial_call
  demand r e = (e, λ t h b l w. subst (ImpossibleIff nodes.layout nodes.bins (group_of nodes.bins list) t) (sym e) (join_meets nodes book list t h b l w).impossible)

  refused_so : (o : Option Forest) (r : Refusal) → held_tree nodes ≡ o → refusal_with nodes.layout nodes.bins (short_nodes nodes) book list o ≡ some r → TrialPromise nodes book list (reported r)
  unfolding trial_call join_call joined
  refused_so o r e h =
      demand (reported r)
      (ap (λ x. (joined x (joined_tree nodes list) nodes book list).answer) (sym (refusal_is ∙ ap (refusal_with nodes.layout nodes.bins (short_nodes nodes) book list) e ∙ h)))

  done_so : (t : Forest) (k : ℕ) → k ≡ book.count + 1 → held_tree nodes ≡ some t → refusal_with nodes.layout nodes.bins (short_nodes nodes) book list (some t) ≡ none → TrialPromise nodes book list (reply 0 k)
  unfolding trial_call join_call joined
  done_so t k q e h =
      demand (reply 0 k)
      (ap (reply 0) q ∙ ap (λ x. (joined x (joined_tree nodes list) nodes book list).answer) (sym (refusal_is ∙ ap (refusal_with nodes.layout nodes.bins (short_nodes nodes) book list) e ∙ h)))

  -- Where only the tree can refuse.
  judged : (S : Restriction) (t : Forest) → BookPasses nodes.layout nodes.bins (short_nodes nodes) book → bad_list nodes.bins list ≡ none → book.count ≢ 96 → Side nodes.layout nodes.bins list S → held_tree nodes ≡ some t
      → refusal_with nodes.layout nodes.bins (short_nodes nodes) book list (some t) ≡ first_refusal (refuse (is_none (reduce S t)) Not-possible ∷ [])
  judged S t w e f m is =
      by_tree nodes.layout nodes.bins (short_nodes nodes) book list w e f t
      ∙ ap (λ o. first_refusal (refuse (is_none o) Not-possible ∷ [])) (m t ((tree_in_holds (leaves nodes) nodes.rows t w.few_leaves).0 is).in_form)

  passes : (o : Option Forest) → o ≢ none → first_refusal (refuse (is_none o) Not-possible ∷ []) ≡ none
  passes none h = absurd (h refl)
  passes (some t) h = refl

  -- The verdict and what waits.
  settles : (S : Restriction) (v : Verdict) (x : Result ℕ Refusal) → (BookPasses nodes.layout nodes.bins (short_nodes nodes) book → Told (leaves nodes) S nodes.rows v)
      → Waits nodes.layout nodes.bins (short_nodes nodes) book list (Side nodes.layout nodes.bins list S) x → TrialPromise nodes book list (report (settled v x))
  settles S Possible (Err r) told (sooner a b) = refused_so (held_tree nodes) r refl (b (held_tree nodes))
  settles S Impossible (Err r) told (sooner a b) = refused_so (held_tree nodes) r refl (b (held_tree nodes))
  settles S NoTree (Err r) told (sooner a b) = rw a (refused_so (held_tree nodes) r refl (b (held_tree nodes)))
  settles S Possible (Err r) told (later a w b) = let h = told w in refused_so (some h.0) r h.1 (b h.0)
  settles S Impossible (Err r) told (later a w b) = let h = told w in refused_so (some h.0) r h.1 (b h.0)
  settles S NoTree (Err r) told (later a w b) = rw a (refused_so none NotInForm (told w) (no_tree nodes.layout nodes.bins (short_nodes nodes) book list w))
  settles S Possible (Ok k) told (counts q w e f m) = let h = told w in done_so h.0 k q h.1 (judged S h.0 w e f m h.1 ∙ passes (reduce S h.0) h.2)
  settles S Impossible (Ok k) told (counts q w e f m) =
      let h = told w in
      refused_so (some h.0) Not-possible h.1 (judged S h.0 w e f m h.1 ∙ ap (λ o. first_refusal (refuse (is_none o) Not-possible ∷ [])) h.2)
  settles S NoTree (Ok k) told (counts q w e f m) = refused_so none NotInForm (told w) (no_tree nodes.layout nodes.bins (short_nodes nodes) book list w)

  -- k is how many leaves the tree has, where the count of bins passes.
  pub concluded : (k : ℕ) → (nodes.bins ≤ 256 → k ≡ leaves nodes) → (work : List ℕ) (v : Verdict) (x : Result ℕ Refusal)
      → ((S : Restriction) (table : List ℕ) → 1 ≤ k → k ≤ 256 → 65792 ≤ length table → Swept k S table 0 work → Told k S table v)
      → AfterSweep nodes book list work x → TrialPromise nodes book list (report (settled v x))
  concluded k is work v x verdict h = settles h.side v x told h.waits
    where
      told : BookPasses nodes.layout nodes.bins (short_nodes nodes) book → Told (leaves nodes) h.side nodes.rows v
      told w =
          let few = few_bins nodes.layout nodes.bins w.few_leaves in
          let at : (S : Restriction) (table : List ℕ) → 1 ≤ leaves nodes → leaves nodes ≤ 256 → 65792 ≤ length table → Swept (leaves nodes) S table 0 work → Told (leaves nodes) S table v =
          subst (λ (m : ℕ). (S : Restriction) (table : List ℕ) → 1 ≤ m → m ≤ 256 → 65792 ≤ length table → Swept m S table 0 work → Told m S table v) (is few) verdict in
          at h.side nodes.rows (some_leaf nodes.layout nodes.bins w.some_bin) w.few_leaves (nodes-whole nodes w.long).1 (h.swept few)

  -- The node table is too short.
  refused_short : (too_short : Bool) (work : List ℕ) (other : Result ℕ Refusal) → short_nodes nodes ≡ too_short → too_short ≡ true → Ready nodes.layout nodes.bins too_short book list work other
      → TrialPromise nodes book list (report other)
  refused_short too_short work other e s h = go other h.waits
    where
      go : (x : Result ℕ Refusal) → Waits nodes.layout nodes.bins too_short book list (Side nodes.layout nodes.bins list h.side) x → TrialPromise nodes book list (report x)
      go (Err r) (sooner a b) = refused_so (held_tree nodes) r refl (ap (λ c. refusal_with nodes.layout nodes.bins c book list (held_tree nodes)) e ∙ b (held_tree nodes))
      go (Err r) (later a w b) = absurd (true≢false (sym s ∙ w.long))
      go (Ok k) (counts q w f m y) = absurd (true≢false (sym s ∙ w.long))

-- The node table was swept, as one of k leaves.
pub swept_read : {nodes : Nodes} {k : ℕ} {too_short : Bool} {book : Book} {list work new : List ℕ} {other : Result ℕ Refusal}
    → short_nodes nodes ≡ too_short → (nodes.bins ≤ 256 → k ≡ leaves nodes) → Ready nodes.layout nodes.bins too_short book list work other
    → ((S : Restriction) → Started k S work → Swept k S nodes.rows 0 new) → AfterSweep nodes book list new other
swept_read {nodes} {k} {book = book} {list = list} {new = new} {other = other} e is h s = record {
  side = h.side;
  waits = subst (λ b. Waits nodes.layout nodes.bins b book list (Side nodes.layout nodes.bins list h.side) other) (sym e) h.waits;
  swept = λ few. subst (λ m. Swept m h.side nodes.rows 0 new) (is few) (s h.side (h.started k));
}

-- ---- joining

module _ (nodes : Nodes) (book : Book) (list : List ℕ) where
  -- What joining's definition says meets the demand.
  promised : (r : Reply) (rows' : List ℕ) (book' : Book) → changed_as r rows' book' ≡ join_call nodes book list → JoinPromise nodes book list rows' book' r
  promised r rows' book' e = (
    e,
    λ t h b l w. subst (λ x. Joins nodes.layout nodes.bins (group_of nodes.bins list) t x.answer x.rows) (sym e) (join_meets nodes book list t h b l w),
  )

  -- A refusal of the trial is joining's.
  pub join_refused : (r : Refusal) → TrialPromise nodes book list (reported r) → JoinPromise nodes book list nodes.rows book (reported r)
  unfolding trial_call join_call joined
  join_refused r h = promised (reported r) nodes.rows book (go (join_refusal nodes book list) h.0)
    where
      go : (o : Option Refusal) → reported r ≡ (joined o (joined_tree nodes list) nodes book list).answer → changed_as (reported r) nodes.rows book ≡ joined o (joined_tree nodes list) nodes book list
      go none e = absurd (refused_number r (ap (λ (s : Reply). s.number) e))
      go (some x) e = ap (λ s. changed_as s nodes.rows book) e

  -- Where the trial answers with a count, no check refuses, and it is the next count.
  no_refusal : {k : ℕ} → TrialPromise nodes book list (reply 0 k) → (join_refusal nodes book list ≡ none) × (k ≡ book.count + 1)
  unfolding trial_call join_call joined
  no_refusal {k} h = go (join_refusal nodes book list) refl h.0
    where
      go : (o : Option Refusal) → join_refusal nodes book list ≡ o → reply 0 k ≡ (joined o (joined_tree nodes list) nodes book list).answer → (join_refusal nodes book list ≡ none) × (k ≡ book.count + 1)
      go none q e = (q, ap (λ (s : Reply). s.value) e)
      go (some x) q e = absurd (refused_number x (sym (ap (λ (s : Reply). s.number) e)))

  -- Where the trial answers with a count, the group can join the tree that the table holds.
  joinable : {marks : List ℕ} {S : Restriction} {k : ℕ} {waiting : Result ℕ Refusal} → TrialPromise nodes book list (reply 0 k)
      → Waits nodes.layout nodes.bins (short_nodes nodes) book list (GroupWords nodes.bins list marks) waiting → Waits nodes.layout nodes.bins (short_nodes nodes) book list (Side nodes.layout nodes.bins list S) waiting
      → Joinable nodes book list marks S k
  joinable h a b =
      let r = no_refusal h in
      let e = sym (refusal_is nodes book list) ∙ r.0 in
      let p = passed nodes.layout nodes.bins (short_nodes nodes) book list (held_tree nodes) e a in
      let w = p.0 in
      let j = can_join nodes.layout nodes.bins (short_nodes nodes) book list (held_tree nodes) e w p.1 p.2 in
      record {
        tree = j.0;
        held = j.2;
        new = j.1;
        joined = j.3;
        is = sym ((passed nodes.layout nodes.bins (short_nodes nodes) book list (held_tree nodes) e b).3 j.0 ((tree_in_holds (leaves nodes) nodes.rows j.0 w.few_leaves).0 j.2).in_form) ∙ j.3;
        some_bin = w.some_bin;
        few_leaves = w.few_leaves;
        groups = w.groups;
        place = omega (arith, few_groups nodes.bins book w.groups.in_form, p.2);
        words = p.3;
        passes = r.0;
        count_is = r.1;
      }

  -- The new tree over the table, and the group in the book's next place.
  pub join_stored : {marks : List ℕ} {S : Restriction} {k : ℕ} (j : Joinable nodes book list marks S k) (rows' words' : List ℕ) → rows' ≡ over (table_of j.new) nodes.rows
      → words' ≡ booked book.words book.count (group_of nodes.bins list) → JoinPromise nodes book list rows' (lent_book words' book.count) (reply 0 k)
  unfolding join_call joined joined_tree
  join_stored {k = k} j rows' words' p q =
      promised (reply 0 k) rows' (lent_book words' book.count)
      (ap₂ (λ r w. changed_as (reply 0 k) r (lent_book w book.count)) p q
      ∙ ap (λ c. changed_as (reply 0 c) (over (table_of j.new) nodes.rows) (lent_book (booked book.words book.count (group_of nodes.bins list)) book.count)) j.count_is
      ∙ ap₂ (λ o t. joined o t nodes book list) (sym j.passes) (sym (ap (λ o. then o (join (group_of nodes.bins list))) j.held ∙ j.joined)))

  -- What a trial says: of a table that is too short, and of one that was swept.
  pub says_short : (marks work : List ℕ) {too_short : Bool} {r : Result ℕ Refusal} → short_nodes nodes ≡ too_short → too_short ≡ true → Ready nodes.layout nodes.bins too_short book list work r
      → TrialSays nodes book list marks work r
  says_short marks work {too_short} {r} e s h = record {
    promise = refused_short nodes book list too_short work r e s h;
    joins = λ k q. go (subst (Waits nodes.layout nodes.bins too_short book list (Side nodes.layout nodes.bins list h.side)) q h.waits);
  }
    where
      go : {k : ℕ} {A : Type 0} → Waits nodes.layout nodes.bins too_short book list (Side nodes.layout nodes.bins list h.side) (Ok k) → A
      go (counts q w f m y) = absurd (true≢false (sym s ∙ w.long))

  pub says_swept : (marks work : List ℕ) {too_short : Bool} {waiting r : Result ℕ Refusal} → short_nodes nodes ≡ too_short → TrialPromise nodes book list (report r)
      → Waits nodes.layout nodes.bins too_short book list (GroupWords nodes.bins list marks) waiting → AfterSweep nodes book list work waiting → TrialSays nodes book list marks work r
  says_swept marks work {waiting = waiting} e p w h = record {
    promise = p;
    joins = λ k q.
        let j = joinable (subst (λ x. TrialPromise nodes book list (report x)) q p) (subst (λ b. Waits nodes.layout nodes.bins b book list (GroupWords nodes.bins list marks) waiting) (sym e) w) h.waits in
        (h.side, j, h.swept (few_bins nodes.layout nodes.bins j.few_leaves));
  }
