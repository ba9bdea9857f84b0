-- The three demands and document 02's Nos. 1 to 3, 5 and 6, proved by citing: the refusals and what they keep, the promises' own demands on joining,
-- trial, order, conflict and intersection, the round trip of a text, and the laws of empty groups, of the aim, of three neighbours and of racks.
use mathlib.Core.Path.{◌≡◌, refl, sym, ◌∙◌, ap, subst}
use mathlib.Core.Logic.Iff
use mathlib.Core.Logic.{◌↔◌, ◌≢◌}
use mathlib.Core.Option.{some}
use mathlib.Core.List.{List, ◌∷◌, ◌++◌}
use Prim.Native.Nat.{ℕ, suc, ◌+◌, ◌≤◌}
use native.Mathlib.Omega.{arith}
use lib.ListN.{length, take, drop}
use Rattle.spec_orders.specs.declared.Layout.TheVariants.{Rack}
use Rattle.spec_orders.specs.Tree.{Forest}
use Rattle.spec_orders.specs.Form.{StandardOrder}
use Rattle.spec_orders.specs.CircularOrder.{group_of, EmptyGroup}
use Rattle.spec_orders.specs.Layout.{ConsecutiveOn}
use Rattle.spec_orders.specs.Aim.{AimedOn}
use Rattle.spec_orders.proofs.Relabel.{form_enough}
use Rattle.spec_orders.proofs.Members.{elem_in, all_in}
use Rattle.spec_orders.proofs.EmptyGroups.{empty_on}
use Rattle.spec_orders.proofs.Numbers.{count_some}
use Rattle.spec_orders.proofs.Straight.{straight_order, straight_mirror, reverse_differs, straight_hangs}
use Rattle.spec_orders.proofs.StraightAims.{aimed_on_some, aimed_on_once, aimed_on_inside}
use Rattle.spec_calls.specs.declared.Refusal.{Refusal}
use Rattle.spec_calls.specs.declared.Refusal.TheVariants.{NotInForm, OutsideRing, BinCounts, RackSize}
use Rattle.spec_calls.specs.Tables.{same_ring, Nodes, Book, lent_book, padded}
use Rattle.spec_calls.specs.Refusals.{Reply, reply, reported}
use Rattle.spec_calls.specs.Calls.{Changed, Filled, changed_as, filled_as, open_refusal, open_call, joined_tree, join_refusal, join_call, trial_call, order_call, aim_call, write_call, group_numbered, conflicts_of, conflict_refusal, conflict_call, intersect_refusal, intersect_call}
use Rattle.spec_calls.specs.Demands.{LentTree, LentBook}
use Rattle.spec_calls.specs.Promises.{JoinPromise, OrderPromise, IntersectPromise}
use Rattle.spec_calls.proofs.Demands.{empty_well_formed, join_done, order_done, first-among}
use Rattle.spec_calls.proofs.Intersect.{intersect_done, intersect_either, intersect_past}
use Rattle.spec_calls.proofs.Books.{booked_form}
use Rattle.spec_calls.proofs.EmptyGroups.{next_empty, next_in_form, join_empty, join_empty_full, conflict_joined}
use Rattle.spec_calls.proofs.Aims.{aim_empty, aim_middle, aim_apart}
use Rattle.spec_calls.proofs.Reports.{never_4}
use Rattle.spec_calls.proofs.Refused.{open_keeps, join_keeps, read_call_keeps}
use Rattle.spec_demands.specs.Demands.{FirstDemand, Asked, NewRing, SecondDemand, ThirdDemand, AskedBoth, OneRing, TwoTrees, EmptyGroups, EvenRuns, LentThreeNeighbours, Meets3, ThreeNeighbours, by_tables, rack, AllAnswer, Meets15, StraightRacks}
use Rattle.spec_demands.proofs.Refusals.{by_the_table, ring_by_the_table, filled_by_the_table, open_answer, join_answer, read_answer, some_refusal}
use Rattle.spec_demands.proofs.Places.{same_numbers, filled_done}
use Rattle.spec_demands.proofs.RoundTrip.{lent_again, written_read, read_as, read_written, accepting, rule_broken}
use Rattle.spec_demands.proofs.ThreeNeighbours.{join_meets_3, order_meets_3, aim_meets_3, write_meets_3, first_meets_3, second_meets_3}
use Rattle.spec_demands.proofs.Racks.{circle_read, planned_as_ring, as_its_ring, small_joins, join_meets_5, conflict_meets_5, hidden_join, hidden_aim, hidden_conflict, differ_meets_13, full_open, full_join, full_order, full_aim, full_write, full_conflict, full_first, full_second}
use Rattle.spec_demands.proofs.EmptyGroups.{possible_more, places_never_name, empty_list}

pub first_demand : FirstDemand
unfolding open_call join_call trial_call order_call aim_call write_call conflict_call intersect_call
first_demand = record {
  opening = λ nodes book rows' book' said e.
      ring_by_the_table nodes book (open_refusal nodes book) 0 (changed_as said rows' book') (open_call nodes book) e (open_answer (open_refusal nodes book) nodes book) (open_keeps nodes book);
  joining = λ nodes book list rows' book' said e.
      ring_by_the_table nodes book (join_refusal nodes book list) (book.count + 1) (changed_as said rows' book') (join_call nodes book list) e.0
      (join_answer (join_refusal nodes book list) (joined_tree nodes list) nodes book list) (join_keeps nodes book list);
  trial = λ nodes book list said e.
      by_the_table (join_refusal nodes book list) (book.count + 1) said (e.0 ∙ join_answer (join_refusal nodes book list) (joined_tree nodes list) nodes book list) (λ q. tt);
  ordering = λ nodes order order' said e. filled_by_the_table _ _ _ order order' said e.0;
  aiming = λ nodes book group said e. by_the_table _ _ said e (λ q. tt);
  writing = λ nodes bytes bytes' said e. filled_by_the_table _ _ _ bytes bytes' said e;
  reading = λ nodes book text rows' book' said c must m.
      by_the_table must 0 said (read_answer nodes book text must m (changed_as said rows' book') c) (read_call_keeps nodes book text (changed_as said rows' book') c);
  any_text = some_refusal;
  conflict = λ l n book list conflicts conflicts' said e. filled_by_the_table _ _ _ conflicts conflicts' said e.0;
  intersecting = λ nodes other third third' said e. filled_by_the_table _ _ _ third.rows third' said e.0;
}

-- The standard order, written.
order_written : (nodes : Nodes) (t : Forest) → LentTree nodes t → (order order' : List ℕ) (said : Reply) → nodes.bins ≤ length order
    → OrderPromise nodes order order' said → (said ≡ reply 0 nodes.bins) × StandardOrder nodes.layout nodes.bins t (take nodes.bins order')
order_written nodes t h order order' said l e = (ap (λ (x : Filled). x.answer) (e.0 ∙ order_done nodes order t h l), e.1 t h l)

module _ (nodes : Nodes) (book : Book) (list : List ℕ) (t : Forest) (a : Asked nodes book list t) (rows' : List ℕ) (book' : Book) (said : Reply) (e : JoinPromise nodes book list rows' book' said) where
  new_ring : said ≢ reply 8 0 → NewRing nodes book (group_of nodes.bins list) t rows' book' said
  new_ring q =
      let j = (e.1 t a.tree a.groups a.place_left a.group).otherwise q in
      let d = join_done nodes book list t a.tree a.groups a.place_left a.group (λ z. q (ap (λ (x : Changed). x.answer) e.0 ∙ z)) in
      record {
        accepted = ap (λ (x : Changed). x.answer) e.0 ∙ d.0;
        in_book = ap (λ (x : Changed). x.book) e.0 ∙ d.1;
        in_form =
            subst (λ (b : Book). LentBook nodes.bins (lent_book b.words (book.count + 1))) (sym (ap (λ (x : Changed). x.book) e.0 ∙ d.1))
            (booked_form nodes.bins book (group_of nodes.bins list) a.groups a.place_left (λ x i. (all_in (λ b. (1 ≤ b) × (b ≤ nodes.bins)) x list a.group.in_range (elem_in list x i)).1));
        tree = j;
        standard = λ records order order' answer r l p.
            let h = lent_again nodes records rows' j.new a.tree.whole r j.held in
            let w = order_written (same_ring nodes records rows') j.new h order order' answer l p in
            (w.0, first-among w.1 j.orders);
      }

pub second_demand : SecondDemand
unfolding trial_call
second_demand = record {
  joining = λ nodes book list t a rows' book' said e.
      ((e.1 t a.tree a.groups a.place_left a.group).impossible, new_ring nodes book list t a rows' book' said e);
  trial = λ nodes book list t a said e. e.1 t a.tree a.groups a.place_left a.group;
  as_joining = λ nodes book list rows' book' said tried e f. f.0 ∙ sym (ap (λ (x : Changed). x.answer) e.0);
  standard = order_written;
  written_read = written_read;
  read_written = read_written;
}

pub third_demand : ThirdDemand
unfolding conflict_call
third_demand l n book list conflicts i m b w places conflicts' said e =
    let d = e.1 i m b places w in
    let ys = conflicts_of l n book (group_of n list) in
    let f = filled_done (conflict_refusal l n book list conflicts) (length ys) (padded 96 ys) conflicts conflicts' (length d.numbers)
    (ap (λ s. filled_as s conflicts') (sym d.answered) ∙ e.0) in
    record {
      named = d.numbers;
      empty_iff = d.demand.empty_iff;
      impossible = d.demand.impossible;
      smallest = d.demand.smallest;
      rule = same_numbers d.numbers ys (drop (length (padded 96 ys)) conflicts) f.0 (ap (take 96) (sym f.1) ∙ d.places);
      rise = d.rise;
      places = d.places;
      count = d.answered;
    }

module _ (nodes other third : Nodes) (t u : Forest) (a : AskedBoth nodes other third t u) (third' : List ℕ) (said : Reply) (e : IntersectPromise nodes other third third' said) where
  one-ring : said ≢ reply 8 0 → OneRing nodes t u third' said
  one-ring q =
      let answer = ap (λ (x : Filled). x.answer) e.0 in
      let c = (e.1 t u a.first a.second a.same_bins a.all_records a.all_rows).otherwise q in
      record {
        done = answer ∙ intersect_done nodes other third t u a.first a.second a.same_bins a.all_records a.all_rows (λ z. q (answer ∙ z));
        tree = c;
        standard = λ records order order' answer r l p.
            let h = lent_again nodes records third' c.new a.first.whole r c.held in
            let w = order_written (same_ring nodes records third') c.new h order order' answer l p in
            (w.0, first-among w.1 c.orders);
      }

pub two_trees : TwoTrees
unfolding intersect_call intersect_refusal
two_trees = record {
  intersecting = λ nodes other third t u a third' said e.
      ((e.1 t u a.first a.second a.same_bins a.all_records a.all_rows).impossible, one-ring nodes other third t u a third' said e);
  either_way = λ nodes other records rows one' two' one two e f.
      let same = e.0 ∙ intersect_either nodes other (same_ring nodes records rows) ∙ sym f.0 in
      (ap (λ (x : Filled). x.answer) same, ap (λ (x : Filled). x.table) same);
  past = λ nodes other third third' said e. ap (λ (x : Filled). drop 65792 x.table) e.0 ∙ intersect_past nodes other third;
}

pub empty_groups : EmptyGroups
empty_groups = record {
  never_4 = never_4;
  well_formed = λ n. (empty_well_formed n, λ x. refl);
  in_every_order = empty_on;
  joining = λ nodes book t h b l rows' book' said e.
      let same = e.0 ∙ join_empty nodes book t h b l in
      (ap (λ (x : Changed). x.answer) same, ap (λ (x : Changed). x.rows) same, ap (λ (x : Changed). x.book) same);
  full = λ nodes book t h b q rows' book' said e. ap (λ (x : Changed). x.answer) (e.0 ∙ join_empty_full nodes book t h b q);
  place = next_empty;
  in_form = next_in_form;
  aiming = λ nodes book t h b k l m said e. subst (λ (s : Reply). (s ≡ reply 14 0) ↔ EmptyGroup (group_numbered book.words k)) (sym e) (aim_empty nodes book t h b k l m);
  possible = λ l n book b i. possible_more l n book (next_empty n book b i);
  lists_stay = λ l n book b i list conflicts one' two' one two e f.
      let same = f.0 ∙ conflict_joined l n book b i list conflicts ∙ sym e.0 in
      (ap (λ (x : Filled). x.answer) same, ap (λ (x : Filled). x.table) same);
  never_named = λ l n book list conflicts i m b w places conflicts' said e. places_never_name l n book list said conflicts' (e.1 i m b places w);
  as_new = λ l n book conflicts i m b places conflicts' said e. empty_list l n book said conflicts' (e.1 i m b places (empty_well_formed n));
}

pub even_runs : EvenRuns
even_runs = record {
  any = λ l G ord h x g i. aimed_on_some l G ord h (count_some G ord x g i);
  only = aimed_on_once;
  inside = aimed_on_inside;
  aiming = λ nodes book t h b k l m ord s said e.
      subst (λ (r : Reply). ((leaf : ℕ) → (r ≡ reply 0 leaf) ↔ AimedOn nodes.layout (group_numbered book.words k) ord leaf) × ((r ≡ reply 10 0) ↔ (ConsecutiveOn nodes.layout (group_numbered book.words k) ord → ⊥)))
      (sym e) (aim_middle nodes book t h b k l m ord s, aim_apart nodes book t h b k l m ord s);
}

-- Each call's refusal (proofs/ThreeNeighbours) is what the call says, by the first demand.
meets_3 : (nodes : Nodes) → LentThreeNeighbours nodes → Meets3 nodes
meets_3 nodes h = record {
  joining = λ book list rows' book' said b e. ((first_demand.joining nodes book list rows' book' said e).refused NotInForm (join_meets_3 nodes h book list b)).0;
  trial = λ book list said b e. ((first_demand.trial nodes book list said e).refused NotInForm (join_meets_3 nodes h book list b)).0;
  ordering = λ order order' said b e. ((first_demand.ordering nodes order order' said e).refused NotInForm (order_meets_3 nodes h order b)).0;
  aiming = λ book group said b e. ((first_demand.aiming nodes book group said e).refused NotInForm (aim_meets_3 nodes h book group b)).0;
  writing = λ bytes bytes' said b e. ((first_demand.writing nodes bytes bytes' said e).refused NotInForm (write_meets_3 nodes h bytes b)).0;
  as_first = λ other third third' said o q r t e.
      ((first_demand.intersecting nodes other third third' said e).refused NotInForm (first_meets_3 nodes h other third o r t q)).0;
  as_second = λ other third third' said o q r t e.
      ((first_demand.intersecting other nodes third third' said e).refused NotInForm (second_meets_3 nodes h other third o r t q)).0;
}

pub three_neighbours : ThreeNeighbours
three_neighbours = record {
  four = λ n rows t h. form_enough h.in_form;
  accepting = accepting;
  reading = read_as;
  rule_broken = rule_broken;
  refusing = meets_3;
}

-- The refusals of proofs/Racks, likewise.
all_refuse : (nodes : Nodes) (book : Book) (list : List ℕ) (r : Refusal) → join_refusal nodes book list ≡ some r
    → ((conflicts : List ℕ) → 96 ≤ length conflicts → conflict_refusal nodes.layout nodes.bins book list conflicts ≡ some r)
    → AllAnswer nodes book list (reported r)
all_refuse nodes book list r j c = record {
  joining = λ rows' book' said e. ((first_demand.joining nodes book list rows' book' said e).refused r j).0;
  trial = λ said e. ((first_demand.trial nodes book list said e).refused r j).0;
  conflict = λ conflicts conflicts' said places e.
      ((first_demand.conflict nodes.layout nodes.bins book list conflicts conflicts' said e).refused r (c conflicts places)).0;
}

module _ (records : ℕ) (rows : List ℕ) where
  abbrev full : Nodes
  full = rack 256 records rows

  meets_15 : Meets15 full
  meets_15 = record {
    opening = λ book rows' book' said e. ((first_demand.opening full book rows' book' said e).refused RackSize (full_open records rows book)).0;
    joining = λ book list rows' book' said e. ((first_demand.joining full book list rows' book' said e).refused RackSize (full_join records rows book list)).0;
    trial = λ book list said e. ((first_demand.trial full book list said e).refused RackSize (full_join records rows book list)).0;
    ordering = λ order order' said e. ((first_demand.ordering full order order' said e).refused RackSize (full_order records rows order)).0;
    aiming = λ book group said e. ((first_demand.aiming full book group said e).refused RackSize (full_aim records rows book group)).0;
    writing = λ bytes bytes' said e. ((first_demand.writing full bytes bytes' said e).refused RackSize (full_write records rows bytes)).0;
    reading = λ book text rows' book' said e.
        ((first_demand.reading full book text rows' book' said e (some RackSize) (by_tables (full_open records rows book))).refused RackSize refl).0;
    conflict = λ book list conflicts conflicts' said e.
        ((first_demand.conflict Rack 256 book list conflicts conflicts' said e).refused RackSize (full_conflict book list conflicts)).0;
    as_first = λ other third third' said l m e.
        ((first_demand.intersecting full other third third' said e).refused RackSize (full_first records rows other third l m)).0;
    as_second = λ other third third' said l m e.
        ((first_demand.intersecting other full third third' said e).refused RackSize (full_second records rows other third l m)).0;
  }

pub straight_racks : StraightRacks
straight_racks = record {
  lists = straight_order;
  two_orders = λ n t ord l f q. (straight_mirror n t (omega arith) f ord q, reverse_differs n ord l (straight_order n t ord (omega arith) f q));
  circles = circle_read;
  hangs = λ n G circle ord h r. Iff.symm (straight_hangs n G circle ord h r);
  planned = λ n records rows l m. planned_as_ring n l m records rows;
  as_its_ring = λ n records rows l m. as_its_ring n l m records rows;
  hidden_in_list = λ n records rows t book h b before after w.
      all_refuse (rack n records rows) book (before ++ (suc n ∷ after)) (OutsideRing (length before))
      (join_meets_5 n records rows book before after w b t h) (conflict_meets_5 n records rows book before after w b h.whole);
  hidden_in_book = λ n records rows book h b. (
    (λ list. all_refuse (rack n records rows) book list NotInForm (hidden_join n records rows book h b list) (hidden_conflict n records rows book h b list)),
    (λ group said e. ((first_demand.aiming (rack n records rows) book group said e).refused NotInForm (hidden_aim n records rows book h b group)).0),
  );
  small_groups = λ n records rows book list t a size rows' book' said e.
      let same = e.0 ∙ small_joins n records rows book list t a size in
      (ap (λ (x : Changed). x.answer) same, ap (λ (x : Changed). x.rows) same);
  no_seam = λ n records rows book t h b k l m ord s p said e. e ∙ (aim_apart (rack n records rows) book t h b k l m ord s).1 p.1;
  ring_and_rack = λ nodes other third differ v w r q third' said e.
      ((first_demand.intersecting nodes other third third' said e).refused BinCounts (differ_meets_13 nodes other third differ v w r q)).0;
  full_rack = meets_15;
}
