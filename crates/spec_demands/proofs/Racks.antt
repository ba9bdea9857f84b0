-- Racks. A rack of n bins and a ring of n + 1 pass the same checks on what names no hidden end bin, and hold the same tree; so their calls are equal. And
-- what is refused: a rack of 256 bins, the hidden end bin in a list or a book, a ring and a rack together.
use mathlib.Core.Path.{◌≡◌, refl, sym, ◌∙◌, ap, subst}
use mathlib.Core.Logic.{◌↔◌, ◌≢◌, ◌⊎◌, inl, inr}
use mathlib.Core.Bool.{true, false, ◌||◌}
use mathlib.Core.Option.{Option, none, some}
use mathlib.Core.List.{List, ◌∷◌, ◌++◌}
use Prim.Native.Nat.{ℕ, suc, ◌+◌, ◌≤◌, ◌<◌}
use native.Mathlib.Omega.{arith}
use borrow.Author.Tests.{le-ltb, eq-eqb}
use lib.ListN.{length}
use Rattle.spec_orders.specs.declared.Layout.{Layout}
use Rattle.spec_orders.specs.declared.Layout.TheVariants.{Ring, Rack}
use Rattle.spec_orders.specs.CircularOrder.{WellFormed, group_of}
use Rattle.spec_orders.specs.Tree.{Forest, Allowed, Rotation, AllowedOn}
use Rattle.spec_orders.specs.TreeText.{Found, tree, refused}
use Rattle.spec_orders.proofs.Tests.{or_right}
use Rattle.spec_orders.proofs.Joining.{join_idle}
use Rattle.spec_orders.proofs.Straight.{named_visible}
use Rattle.spec_orders.proofs.StraightConflicts.{conflicts_same}
use Rattle.spec_calls.specs.declared.Refusal.{Refusal}
use Rattle.spec_calls.specs.declared.Refusal.TheVariants.{RackSize, NotInForm, OutsideRing, BinCounts}
use Rattle.spec_calls.specs.Tables.{Nodes, Book}
use Rattle.spec_calls.specs.Book.{book_in_form?, with_group}
use Rattle.spec_calls.specs.Refusals.{reply, bad_size, full_rack, same_layout, bad_list}
use Rattle.spec_calls.specs.Calls.{Changed, changed_as, is_none, open_refusal, open_call, opened, joined_tree, join_refusal, joined, join_call, aim_refusal, write_refusal, write_call, read_outcome, ReadCall, unread, read, order_refusal, group_numbered, conflicts_of, conflict_refusal, conflict_call, common_tree, intersect_refusal, intersect_call}
use Rattle.spec_calls.specs.NodeTable.{held_tree}
use Rattle.spec_calls.specs.Demands.{LentWhole, LentTree, LentBook}
use Rattle.spec_calls.proofs.NodeTables.{over-same}
use Rattle.spec_calls.proofs.Demands.{size_fine, rack_fine, nodes_fine, whole_size, whole-rack, whole-nodes, lent_held, well_formed_more, well_formed_passes, outside_at, the_refusal, the_joined}
use Rattle.spec_calls.proofs.Books.{form_more, book_visible, outside_form}
use Rattle.spec_demands.specs.Demands.{Asked, rack, ring, PlannedAsRing, AsItsRing, LentHidden}

-- ---- planned as a ring

pub circle_read : (n : ℕ) (t : Forest) (ord : List ℕ) → AllowedOn Rack n t ord ↔ ((circle : List ℕ) × Allowed t circle × Rotation circle (suc n ∷ ord))
circle_read n t ord = (
  (λ q. (q.circle, q.allowed, q.read)),
  (λ (c, a, r). record { circle = c; allowed = a; read = r }),
)

module _ (n : ℕ) (some_bin : 1 ≤ n) (few : n < 256) where
  rack_size : bad_size n ≡ false
  rack_size = size_fine Rack n some_bin few

  not_full : full_rack Rack n ≡ false
  not_full = rack_fine Rack n few

  ring_size : bad_size (suc n) ≡ false
  ring_size = size_fine Ring (suc n) (omega arith) few

  module _ (records : ℕ) (rows : List ℕ) where
    open_same : (book : Book) → open_refusal (rack n records rows) book ≡ open_refusal (ring (suc n) records rows) book
    unfolding open_refusal
    open_same book = rw (rack_size, not_full, ring_size)

    join-same : (book : Book) (list : List ℕ) → LentBook n book → WellFormed n list
        → join_refusal (rack n records rows) book list ≡ join_refusal (ring (suc n) records rows) book list
    unfolding join_refusal joined_tree
    join-same book list b w =
        rw (
          rack_size,
          not_full,
          ring_size,
          b.in_form,
          (form_more n (suc n) book (omega arith) b).in_form,
          well_formed_passes n list w,
          well_formed_passes (suc n) list (well_formed_more n (suc n) list (omega arith) w),
        )

    open_equal : (book : Book) → open_call (rack n records rows) book ≡ open_call (ring (suc n) records rows) book
    unfolding open_call opened
    open_equal book = rw (open_same book) (go (open_refusal (ring (suc n) records rows) book))
      where
        go : (o : Option Refusal) → opened o (rack n records rows) book ≡ opened o (ring (suc n) records rows) book
        go none = refl
        go (some r) = refl

    join_equal : (book : Book) (list : List ℕ) → LentBook n book → WellFormed n list
        → join_call (rack n records rows) book list ≡ join_call (ring (suc n) records rows) book list
    unfolding join_call joined joined_tree
    join_equal book list b w = rw (join-same book list b w) (go (join_refusal (ring (suc n) records rows) book list) (joined_tree (ring (suc n) records rows) list))
      where
        go : (o : Option Refusal) (t : Option Forest) → joined o t (rack n records rows) book list ≡ joined o t (ring (suc n) records rows) book list
        go none t = refl
        go (some r) t = refl

    conflict_equal : (book : Book) (list conflicts : List ℕ) → LentBook n book → WellFormed n list
        → conflict_call Rack n book list conflicts ≡ conflict_call Ring (suc n) book list conflicts
    unfolding conflict_call conflict_refusal conflicts_of
    conflict_equal book list conflicts b w =
        rw (
          rack_size,
          not_full,
          ring_size,
          b.in_form,
          (form_more n (suc n) book (omega arith) b).in_form,
          well_formed_passes n list w,
          well_formed_passes (suc n) list (well_formed_more n (suc n) list (omega arith) w),
          conflicts_same Rack n some_bin (group_numbered book.words) book.count (group_of n list) (named_visible Rack n list w.in_range) (book_visible Rack n book b),
        )

    write_equal : (bytes : List ℕ) → write_call (rack n records rows) bytes ≡ write_call (ring (suc n) records rows) bytes
    unfolding write_call write_refusal
    write_equal bytes = rw (rack_size, not_full, ring_size)

    intersect_equal : (more : ℕ) (others : List ℕ) (third : Nodes)
        → intersect_call (rack n records rows) (rack n more others) third ≡ intersect_call (ring (suc n) records rows) (ring (suc n) more others) third
    unfolding intersect_call intersect_refusal common_tree
    intersect_equal more others third = rw (rack_size, not_full, ring_size, eq-eqb n n refl, eq-eqb (suc n) (suc n) refl)

    pub planned_as_ring : PlannedAsRing n records rows
    planned_as_ring = record { opening = open_equal; joining = join_equal; conflict = conflict_equal }

    -- What the reader leaves.
    read_same : (book : Book) (f : Found) → read_outcome f (rack n records rows) book ≡ read_outcome f (ring (suc n) records rows) book
    unfolding read_outcome
    read_same book (tree t) = refl
    read_same book (refused p) = refl

    read_equal : (book : Book) (text : List ℕ) (left : Changed) → ReadCall (rack n records rows) book text left ↔ ReadCall (ring (suc n) records rows) book text left
    read_equal book text left = (to, from)
      where
        to : {left : Changed} → ReadCall (rack n records rows) book text left → ReadCall (ring (suc n) records rows) book text left
        to (unread p) = unread (sym (open_same book) ∙ p)
        to (read {f = f} p r) = subst (ReadCall (ring (suc n) records rows) book text) (sym (read_same book f)) (read {f = f} (sym (open_same book) ∙ p) r)

        from : {left : Changed} → ReadCall (ring (suc n) records rows) book text left → ReadCall (rack n records rows) book text left
        from (unread p) = unread (open_same book ∙ p)
        from (read {f = f} p r) = subst (ReadCall (rack n records rows) book text) (read_same book f) (read {f = f} (open_same book ∙ p) r)

    pub as_its_ring : AsItsRing n records rows
    as_its_ring = record { writing = write_equal; reading = read_equal; intersecting = intersect_equal }

-- ---- small groups

-- To the ring of n + 1 bins a group of n bins is one of all but one.
pub small_joins : (n records : ℕ) (rows : List ℕ) (book : Book) (list : List ℕ) (t : Forest) → Asked (rack n records rows) book list t
    → (length list ≡ 0) ⊎ (length list ≡ 1) ⊎ (length list ≡ n)
    → join_call (rack n records rows) book list ≡ changed_as (reply 0 (book.count + 1)) rows (with_group book (group_of n list))
unfolding join_call joined
small_joins n records rows book list t a size =
    rw (
      the_refusal (rack n records rows) book list t a.tree a.groups a.place_left a.group,
      the_joined (rack n records rows) book list t a.tree a.groups a.place_left a.group,
      join_idle (suc n) list t (well_formed_more n (suc n) list (omega arith) a.group) a.tree.tree.in_form (in_ring size),
    )
    (ap (λ (rows' : List ℕ). changed_as (reply 0 (book.count + 1)) rows' (with_group book (group_of n list))) (over-same (suc n) t rows a.tree.whole.few_leaves a.tree.tree))
  where
    in_ring : (length list ≡ 0) ⊎ (length list ≡ 1) ⊎ (length list ≡ n) → (length list ≡ 0) ⊎ (length list ≡ 1) ⊎ (length list + 1 ≡ suc n) ⊎ (length list ≡ suc n)
    in_ring (inl e) = inl e
    in_ring (inr (inl e)) = inr (inl e)
    in_ring (inr (inr e)) = inr (inr (inl (omega arith)))

-- ---- the hidden end bin in a list (5), in the book (3)

module _ (n records : ℕ) (rows : List ℕ) (book : Book) where
  module _ (before after : List ℕ) (w : WellFormed n before) (b : LentBook n book) where
    at_place : bad_list n (before ++ (suc n ∷ after)) ≡ some (OutsideRing (length before))
    at_place = outside_at n before (suc n) after w (omega arith)

    pub join_meets_5 : (t : Forest) → LentTree (rack n records rows) t
        → join_refusal (rack n records rows) book (before ++ (suc n ∷ after)) ≡ some (OutsideRing (length before))
    unfolding join_refusal
    join_meets_5 t h =
        rw (
          whole_size h.whole,
          whole-rack h.whole,
          whole-nodes h.whole,
          le-ltb (length book.words) 384 b.all_words,
          lent_held (rack n records rows) t h,
          b.in_form,
          at_place,
        )

    pub conflict_meets_5 : LentWhole (rack n records rows) → (conflicts : List ℕ) → 96 ≤ length conflicts
        → conflict_refusal Rack n book (before ++ (suc n ∷ after)) conflicts ≡ some (OutsideRing (length before))
    unfolding conflict_refusal
    conflict_meets_5 h conflicts places =
        rw (
          whole_size h,
          whole-rack h,
          le-ltb (length book.words) 384 b.all_words,
          le-ltb (length conflicts) 96 places,
          b.in_form,
          at_place,
        )

  module _ (h : LentWhole (rack n records rows)) (b : LentHidden n book) where
    not_in_form : book_in_form? n book ≡ false
    not_in_form = outside_form n book b.group (suc n) b.all_words b.some_group b.in_book b.hidden (omega arith)

    no_ring : (is_none (held_tree (rack n records rows)) || true) ≡ true
    no_ring = or_right (is_none (held_tree (rack n records rows))) true refl

    pub hidden_join : (list : List ℕ) → join_refusal (rack n records rows) book list ≡ some NotInForm
    unfolding join_refusal
    hidden_join list = rw (whole_size h, whole-rack h, whole-nodes h, le-ltb (length book.words) 384 b.all_words, not_in_form, no_ring)

    pub hidden_aim : (k : ℕ) → aim_refusal (rack n records rows) book k ≡ some NotInForm
    unfolding aim_refusal
    hidden_aim k = rw (whole_size h, whole-rack h, whole-nodes h, le-ltb (length book.words) 384 b.all_words, not_in_form, no_ring)

    pub hidden_conflict : (list conflicts : List ℕ) → 96 ≤ length conflicts → conflict_refusal Rack n book list conflicts ≡ some NotInForm
    unfolding conflict_refusal
    hidden_conflict list conflicts places =
        rw (whole_size h, whole-rack h, le-ltb (length book.words) 384 b.all_words, le-ltb (length conflicts) 96 places, not_in_form)

-- ---- a ring and a rack (13), a full rack (15)

layouts_differ : (l k : Layout) → l ≢ k → same_layout l k ≡ false
layouts_differ Ring Ring h = absurd (h refl)
layouts_differ Ring Rack h = refl
layouts_differ Rack Ring h = refl
layouts_differ Rack Rack h = absurd (h refl)

pub differ_meets_13 : (nodes other third : Nodes) → nodes.layout ≢ other.layout → LentWhole nodes → LentWhole other
    → 256 ≤ third.records → 65792 ≤ length third.rows → intersect_refusal nodes other third ≡ some BinCounts
unfolding intersect_refusal
differ_meets_13 nodes other third differ v w all_records all_rows =
    rw (
      whole_size v,
      whole_size w,
      whole-rack v,
      whole-rack w,
      whole-nodes v,
      whole-nodes w,
      nodes_fine third all_records all_rows,
      layouts_differ nodes.layout other.layout differ,
    )

pub full_conflict : (book : Book) (list conflicts : List ℕ) → conflict_refusal Rack 256 book list conflicts ≡ some RackSize
unfolding conflict_refusal
full_conflict book list conflicts = refl

module _ (records : ℕ) (rows : List ℕ) where
  pub full_open : (book : Book) → open_refusal (rack 256 records rows) book ≡ some RackSize
  unfolding open_refusal
  full_open book = refl

  pub full_join : (book : Book) (list : List ℕ) → join_refusal (rack 256 records rows) book list ≡ some RackSize
  unfolding join_refusal
  full_join book list = refl

  pub full_order : (order : List ℕ) → order_refusal (rack 256 records rows) order ≡ some RackSize
  unfolding order_refusal
  full_order order = refl

  pub full_aim : (book : Book) (k : ℕ) → aim_refusal (rack 256 records rows) book k ≡ some RackSize
  unfolding aim_refusal
  full_aim book k = refl

  pub full_write : (bytes : List ℕ) → write_refusal (rack 256 records rows) bytes ≡ some RackSize
  unfolding write_refusal
  full_write bytes = refl

  module _ (other third : Nodes) (some_bin : 1 ≤ other.bins) (few : other.bins ≤ 256) where
    other_size : bad_size other.bins ≡ false
    other_size = size_fine Ring other.bins some_bin few

    pub full_first : intersect_refusal (rack 256 records rows) other third ≡ some RackSize
    unfolding intersect_refusal
    full_first = rw other_size

    pub full_second : intersect_refusal other (rack 256 records rows) third ≡ some RackSize
    unfolding intersect_refusal
    full_second = rw (other_size, or_right (full_rack other.layout other.bins) true refl)
