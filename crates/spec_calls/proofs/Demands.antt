-- The calls' definitions meet the second demand; and a list is refused by 5 or 6 just when it is not well formed.
use mathlib.Core.Path.{◌≡◌, refl, sym, ◌∙◌, ap, subst}
use mathlib.Core.Logic.{◌↔◌, ◌≢◌}
use mathlib.Core.Bool.{Bool, true, false, cond, ◌||◌, true≢false}
use mathlib.Core.Option.{Option, none, some}
use mathlib.Core.List.{List, [], ◌∷◌, ◌++◌}
use Prim.Native.Nat.{ℕ, suc, ◌+◌, ◌≤◌, ◌<◌}
use native.Mathlib.Nat.{add-zero, zero-add, pos_of_ne-zero}
use native.Mathlib.Omega.{arith}
use borrow.Author.Tests.{ne_eqb, lt-ltb, le-ltb, eqb-false, ltb-false}
use lib.Dec.{eqb, ltb}
use lib.ListN.{length, take, drop}
use lib.Seq.{take-append_seam}
use Rattle.spec_orders.specs.Lists.{All, Distinct, elem}
use Rattle.spec_orders.specs.declared.Layout.{Layout}
use Rattle.spec_orders.specs.declared.Layout.TheVariants.{Ring, Rack}
use Rattle.spec_orders.specs.CircularOrder.{Restriction, WellFormed, group_of}
use Rattle.spec_orders.specs.Layout.{leaf_count, Visible}
use Rattle.spec_orders.specs.Tree.{Forest}
use Rattle.spec_orders.specs.Form.{InForm, FirstOf, StandardOrder}
use Rattle.spec_orders.specs.Join.{join}
use Rattle.spec_orders.specs.SeenFrom.{standard_on}
use Rattle.spec_orders.proofs.Tests.{or_neither}
use Rattle.spec_orders.proofs.Members.{all_in, in_all}
use Rattle.spec_orders.proofs.Straight.{standard-first, standard-length, named_visible, joins_none, joins_some}
use Rattle.spec_calls.specs.declared.Refusal.TheVariants.{RingSize, RackSize, ShortTable, OutsideRing, Repeated, Impossible}
use Rattle.spec_calls.specs.Tables.{Nodes, leaves, Book, over}
use Rattle.spec_calls.specs.Book.{with_group}
use Rattle.spec_calls.specs.NodeTable.{held_tree}
use Rattle.spec_calls.specs.Refusals.{Reply, reply, refuse, first_refusal, bad_size, full_rack, short, short_nodes, bad_leaf, bad_list}
use Rattle.spec_calls.specs.Calls.{filled_as, is_none, table_checks, joined_tree, join_refusal, joined, join_call, order_refusal, order_call}
use Rattle.spec_calls.specs.Demands.{LentWhole, LentTree, LentBook, Joins}
use Rattle.spec_calls.proofs.NodeTables.{tree_in_holds, over_holds}
use Rattle.spec_calls.proofs.Checks.{first_refusal_passed}

-- ---- lists

-- None of the leaves stands earlier.
abbrev pub New : List ℕ → List ℕ → Type 0
New seen = All (λ b. elem seen b ≡ false)

new_more : (seen : List ℕ) (x : ℕ) (l : List ℕ) → New seen l → All (λ y. x ≢ y) l → New (x ∷ seen) l
new_more seen x [] a d = tt
new_more seen x (y ∷ l) a d = (rw (ne_eqb y x (λ e. d.0 (sym e))) a.0, new_more seen x l a.1 d.1)

new_none : (l : List ℕ) → New [] l
new_none [] = tt
new_none (x ∷ l) = (refl, new_none l)

leaves_fine : (n : ℕ) (seen : List ℕ) (k : ℕ) (l : List ℕ) → All (λ b. (1 ≤ b) × (b ≤ n)) l → Distinct l → New seen l → bad_leaf n seen k l ≡ none
unfolding bad_leaf
leaves_fine n seen k [] r d a = refl
leaves_fine n seen k (b ∷ l) r d a =
    rw (ne_eqb b 0 (λ e. omega (arith, r.0.0)), le-ltb n b r.0.1, a.0) (leaves_fine n (b ∷ seen) (suc k) l r.1 d.1 (new_more seen b l a.1 d.0))

pub well_formed_passes : (n : ℕ) (l : List ℕ) → WellFormed n l → bad_list n l ≡ none
well_formed_passes n l w = leaves_fine n [] 0 l w.in_range w.different (new_none l)

pub empty_well_formed : (n : ℕ) → WellFormed n []
empty_well_formed n = record { in_range = tt; different = tt }

new_less : (seen : List ℕ) (x : ℕ) (l : List ℕ) → New (x ∷ seen) l → New seen l × All (λ y. x ≢ y) l
new_less seen x [] a = (tt, tt)
new_less seen x (y ∷ l) a = let r = new_less seen x l a.1 in let h = go (eqb y x) refl a.0 in ((h.0, r.0), (h.1, r.1))
  where
    go : (b : Bool) → eqb y x ≡ b → cond b true (elem seen y) ≡ false → (elem seen y ≡ false) × (x ≢ y)
    go true q e = absurd (true≢false e)
    go false q e = (e, λ p. eqb-false y x q (sym p))

-- Different leaves of the ring, none of them earlier.
abbrev pub Fine : ℕ → List ℕ → List ℕ → Type 0
Fine n seen l = All (λ b. (1 ≤ b) × (b ≤ n)) l × Distinct l × New seen l

pub fine_more : (n : ℕ) (seen : List ℕ) (b : ℕ) (l : List ℕ) → eqb b 0 ≡ false → ltb n b ≡ false → elem seen b ≡ false → Fine n (b ∷ seen) l → Fine n seen (b ∷ l)
fine_more n seen b l z q r m =
    let f = new_less seen b l m.2 in
    (((pos_of_ne-zero (eqb-false b 0 z), ltb-false n b q), m.0), (f.1, m.1), (r, f.0))

leaves_are : (n : ℕ) (seen : List ℕ) (k : ℕ) (l : List ℕ) → bad_leaf n seen k l ≡ none → Fine n seen l
unfolding bad_leaf
leaves_are n seen k [] e = (tt, tt, tt)
leaves_are n seen k (b ∷ l) e = go (leaves_are n (b ∷ seen) (suc k) l) (eqb b 0) refl (ltb n b) refl (elem seen b) refl e
  where
    go : (bad_leaf n (b ∷ seen) (suc k) l ≡ none → Fine n (b ∷ seen) l) → (z : Bool) → eqb b 0 ≡ z → (p : Bool) → ltb n b ≡ p → (s : Bool) → elem seen b ≡ s
        → cond (z || p) (some (OutsideRing k)) (cond s (some (Repeated k)) (bad_leaf n (b ∷ seen) (suc k) l)) ≡ none → Fine n seen (b ∷ l)
    go more true z p q s r e = absurd (let i : ◌≡◌ {A = ℕ} 0 1 = cc in omega arith)
    go more false z true q s r e = absurd (let i : ◌≡◌ {A = ℕ} 0 1 = cc in omega arith)
    go more false z false q true r e = absurd (let i : ◌≡◌ {A = ℕ} 0 1 = cc in omega arith)
    go more false z false q false r e = fine_more n seen b l z q r (more e)

pub passes_iff : (n : ℕ) (l : List ℕ) → (bad_list n l ≡ none) ↔ WellFormed n l
passes_iff n l = (λ e. let f = leaves_are n [] 0 l e in record { in_range = f.0; different = f.1 }, well_formed_passes n l)

pub well_formed_more : (n m : ℕ) (l : List ℕ) → n ≤ m → WellFormed n l → WellFormed m l
well_formed_more n m l h w = record {
  in_range = in_all (λ b. (1 ≤ b) × (b ≤ m)) l (λ b i. let r = all_in (λ b. (1 ≤ b) × (b ≤ n)) b l w.in_range i in (r.0, omega (arith, r.1)));
  different = w.different;
}

-- A number above n behind a well_formed list: 5, at its place.
outside_from : (n : ℕ) (seen : List ℕ) (k : ℕ) (l : List ℕ) (b : ℕ) (after : List ℕ) → All (λ b. (1 ≤ b) × (b ≤ n)) l → Distinct l → New seen l → n < b
    → bad_leaf n seen k (l ++ (b ∷ after)) ≡ some (OutsideRing (k + length l))
unfolding bad_leaf
outside_from n seen k [] b after r d a h = rw (ne_eqb b 0 (λ e. omega arith), lt-ltb n b h) (ap (λ p. some (OutsideRing p)) (sym (add-zero k)))
outside_from n seen k (x ∷ l) b after r d a h =
    let place : suc k + length l ≡ k + length (x ∷ l) = omega arith in
    rw (ne_eqb x 0 (λ e. omega (arith, r.0.0)), le-ltb n x r.0.1, a.0)
    (outside_from n (x ∷ seen) (suc k) l b after r.1 d.1 (new_more seen x l a.1 d.0) h ∙ ap (λ p. some (OutsideRing p)) place)

pub outside_at : (n : ℕ) (before : List ℕ) (b : ℕ) (after : List ℕ) → WellFormed n before → n < b → bad_list n (before ++ (b ∷ after)) ≡ some (OutsideRing (length before))
outside_at n before b after w h =
    outside_from n [] 0 before b after w.in_range w.different (new_none before) h ∙ ap (λ p. some (OutsideRing p)) (zero-add (length before))

-- ---- checks 1, 15 and 2

pub few_bins : (l : Layout) (n : ℕ) → leaf_count l n ≤ 256 → n ≤ 256
few_bins Ring n h = h
few_bins Rack n h = omega arith

pub size_fine : (l : Layout) (n : ℕ) → 1 ≤ n → leaf_count l n ≤ 256 → bad_size n ≡ false
size_fine l n m few = rw (ne_eqb n 0 (λ e. omega arith), le-ltb 256 n (few_bins l n few))

pub rack_fine : (l : Layout) (n : ℕ) → leaf_count l n ≤ 256 → full_rack l n ≡ false
rack_fine Ring n few = refl
rack_fine Rack n few = ne_eqb n 256 (λ e. omega arith)

pub nodes_fine : (nodes : Nodes) → 256 ≤ nodes.records → 65792 ≤ length nodes.rows → short_nodes nodes ≡ false
nodes_fine nodes l m = rw (le-ltb nodes.records 256 l, le-ltb (length nodes.rows) 65792 m)

-- A node table lent whole passes them.
pub whole_size : {nodes : Nodes} → LentWhole nodes → bad_size nodes.bins ≡ false
whole_size {nodes} w = size_fine nodes.layout nodes.bins w.some_bin w.few_leaves

pub whole-rack : {nodes : Nodes} → LentWhole nodes → full_rack nodes.layout nodes.bins ≡ false
whole-rack {nodes} w = rack_fine nodes.layout nodes.bins w.few_leaves

pub whole-nodes : {nodes : Nodes} → LentWhole nodes → short_nodes nodes ≡ false
whole-nodes {nodes} w = nodes_fine nodes w.all_records w.all_rows

-- And what passes them is whole.
leaves-few : (l : Layout) (n : ℕ) → n ≤ 256 → full_rack l n ≡ false → leaf_count l n ≤ 256
leaves-few Ring n m e = m
leaves-few Rack n m e = lt_of_ne (eqb-false n 256 e) m
  where
    lt_of_ne : n ≢ 256 → n ≤ 256 → suc n ≤ 256
    lt_of_ne h m = omega (arith, h)

pub size_whole : (l : Layout) (n : ℕ) → bad_size n ≡ false → full_rack l n ≡ false → (1 ≤ n) × (leaf_count l n ≤ 256)
size_whole l n e r =
    let s = or_neither (eqb n 0) (ltb 256 n) e in
    (pos_of_ne-zero (eqb-false n 0 s.0), leaves-few l n (ltb-false 256 n s.1) r)

pub nodes-whole : (nodes : Nodes) → short_nodes nodes ≡ false → (256 ≤ nodes.records) × (65792 ≤ length nodes.rows)
nodes-whole nodes e =
    let r = or_neither (ltb nodes.records 256) (short 65792 nodes.rows) e in
    (ltb-false nodes.records 256 r.0, ltb-false (length nodes.rows) 65792 r.1)

pub lent_whole : (nodes : Nodes) → bad_size nodes.bins ≡ false → full_rack nodes.layout nodes.bins ≡ false → short_nodes nodes ≡ false → LentWhole nodes
lent_whole nodes size rack rows =
    let s = size_whole nodes.layout nodes.bins size rack in
    let r = nodes-whole nodes rows in
    record { some_bin = s.0; few_leaves = s.1; all_records = r.0; all_rows = r.1 }

-- `other`: another lent table is too short.
pub tables_whole : (nodes : Nodes) (other : Bool) → first_refusal (table_checks nodes other) ≡ none → LentWhole nodes × (other ≡ false)
tables_whole nodes other e =
    let p = first_refusal_passed ((bad_size nodes.bins, RingSize) ∷ (full_rack nodes.layout nodes.bins, RackSize) ∷ (short_nodes nodes || other, ShortTable) ∷ []) e in
    let tables = or_neither (short_nodes nodes) other p.1.1.0 in
    (lent_whole nodes p.0 p.1.0 tables.0, tables.1)

-- ---- joining

pub lent_held : (nodes : Nodes) (t : Forest) → LentTree nodes t → held_tree nodes ≡ some t
lent_held nodes t h = (tree_in_holds (leaves nodes) nodes.rows t h.whole.few_leaves).1 h.tree

-- The first of some orders is the first of the same orders, however they are described.
pub first-among : {Ok Same : List ℕ → Type 0} {ord : List ℕ} → FirstOf Ok ord → ((other : List ℕ) → Ok other ↔ Same other) → FirstOf Same ord
first-among {ord = ord} s same = record { allowed = (same ord).0 s.allowed; least = λ other o. s.least other ((same other).1 o) }

module _ (nodes : Nodes) (book : Book) (list : List ℕ) (t : Forest) (h : LentTree nodes t) (b : LentBook nodes.bins book) (place_left : book.count < 96) (w : WellFormed nodes.bins list) where
  pub the_joined : joined_tree nodes list ≡ join (group_of nodes.bins list) t
  unfolding joined_tree
  the_joined = rw (lent_held nodes t h)

  pub the_refusal : join_refusal nodes book list ≡ first_refusal (refuse (is_none (join (group_of nodes.bins list) t)) Impossible ∷ [])
  unfolding join_refusal
  the_refusal =
      rw (
        whole_size h.whole,
        whole-rack h.whole,
        whole-nodes h.whole,
        le-ltb (length book.words) 384 b.all_words,
        lent_held nodes t h,
        b.in_form,
        well_formed_passes nodes.bins list w,
        ne_eqb book.count 96 (λ e. omega (arith, place_left)),
        the_joined,
      )

  -- A group that is not impossible is accepted.
  pub join_done : (join_call nodes book list).answer ≢ reply 8 0
      → ((join_call nodes book list).answer ≡ reply 0 (book.count + 1)) × ((join_call nodes book list).book ≡ with_group book (group_of nodes.bins list))
  unfolding join_call joined
  join_done = rw (the_refusal, the_joined) (by_answer (join (group_of nodes.bins list) t))
    where
      by_answer : (o : Option Forest) → (joined (first_refusal (refuse (is_none o) Impossible ∷ [])) o nodes book list).answer ≢ reply 8 0
          → ((joined (first_refusal (refuse (is_none o) Impossible ∷ [])) o nodes book list).answer ≡ reply 0 (book.count + 1))
          × ((joined (first_refusal (refuse (is_none o) Impossible ∷ [])) o nodes book list).book ≡ with_group book (group_of nodes.bins list))
      by_answer none q = absurd (q refl)
      by_answer (some u) q = (refl, refl)

  pub join_meets : Joins nodes.layout nodes.bins (group_of nodes.bins list) t (join_call nodes book list).answer (join_call nodes book list).rows
  unfolding join_call joined
  join_meets = rw (the_refusal, the_joined) (by_answer (join G t) refl)
    where
      l : Layout
      l = nodes.layout

      n : ℕ
      n = nodes.bins

      G : Restriction
      G = group_of n list

      visible : Visible l n G
      visible = named_visible l n list w.in_range

      t_form : InForm (leaf_count l n) t
      t_form = h.tree.in_form

      by_answer : (o : Option Forest) → join G t ≡ o
          → Joins l n G t (joined (first_refusal (refuse (is_none o) Impossible ∷ [])) o nodes book list).answer (joined (first_refusal (refuse (is_none o) Impossible ∷ [])) o nodes book list).rows
      by_answer none e = record { impossible = (λ q. (joins_none l n G t h.whole.some_bin t_form visible).0 e, λ q. refl); otherwise = λ q. absurd (q refl) }
      by_answer (some u) e =
          let j = joins_some l n G t h.whole.some_bin t_form visible u e in
          let first = first-among j.2 j.1 in
          record {
            impossible = (λ q. absurd (omega (arith, ap (λ (s : Reply). s.number) q)), λ q. absurd (q (standard_on l n u) first.allowed.0 first.allowed.1));
            otherwise = λ q. record {
              new = u;
              held = over_holds (leaf_count l n) u nodes.rows j.0 h.whole.few_leaves;
              orders = j.1;
              first = first;
            };
          }

-- ---- the standard order

pub order_done : (nodes : Nodes) (order : List ℕ) (t : Forest) → LentTree nodes t → nodes.bins ≤ length order
    → order_call nodes order ≡ filled_as (reply 0 nodes.bins) (over (standard_on nodes.layout nodes.bins t) order)
unfolding order_call order_refusal
order_done nodes order t h l =
    rw (
      whole_size h.whole,
      whole-rack h.whole,
      whole-nodes h.whole,
      le-ltb (length order) nodes.bins l,
      lent_held nodes t h,
    )

pub order_meets : (nodes : Nodes) (order : List ℕ) (t : Forest) → LentTree nodes t → nodes.bins ≤ length order
    → StandardOrder nodes.layout nodes.bins t (take nodes.bins (order_call nodes order).table)
order_meets nodes order t h m = rw (order_done nodes order t h m) (subst (StandardOrder l n t) (sym whole) (standard-first l n t h.whole.some_bin h.tree.in_form))
  where
    l : Layout
    l = nodes.layout

    n : ℕ
    n = nodes.bins

    ord : List ℕ
    ord = standard_on l n t

    whole : take n (ord ++ drop (length ord) order) ≡ ord
    whole = subst (λ k. take k (ord ++ drop (length ord) order) ≡ ord) (standard-length l n t h.whole.some_bin h.tree.in_form) (take-append_seam ord (drop (length ord) order))
