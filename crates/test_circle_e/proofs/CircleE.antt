-- Circles d to g of document 01, and the groups of circle e on a rack, through the calls on whole tables, each with an entry more than it needs:
-- what the definitions answer and leave, computed.
use mathlib.Core.Path.{◌≡◌, refl}
use mathlib.Core.Bool.{Bool, true, ◌&&◌}
use mathlib.Core.List.{[], ◌∷◌, ◌++◌}
use Prim.Native.Nat.{ℕ}
use lib.Dec.{eqb}
use lib.ListN.{replicate, take, drop}
use Rattle.spec_orders.specs.Lists.{same}
use Rattle.spec_orders.specs.Form.{in_form?}
use Rattle.spec_orders.specs.TreeText.{digits_in, digits, tree_text}
use Rattle.spec_orders.specs.Reduce.{reduce}
use Rattle.spec_orders.specs.SeenFrom.{standard_on}
use Rattle.spec_orders.specs.declared.Layout.{Layout}
use Rattle.spec_orders.specs.declared.Layout.TheVariants.{Ring, Rack}
use Rattle.spec_orders.specs.Join.{fresh, side, join}
use Rattle.spec_orders.specs.Conflict.{consecutive?, possible?, leave_out, conflict_list}
use Rattle.spec_orders.specs.Aim.{run_start, rounded, aim_of}
use Rattle.spec_orders.specs.Circles.{bytes}
use Rattle.mark_words.specs.Marks.{marked, word_of, words_of, leaves_of}
use Rattle.spec_calls.specs.Tables.{Nodes, lent_nodes, Book, lent_book}
use Rattle.spec_calls.specs.Book.{book_in_form?, booked, emptied}
use Rattle.spec_calls.specs.NodeTable.{table_of, spelled, spelled_tree, tree_in}
use Rattle.spec_calls.specs.Refusals.{Reply, bad_leaf}
use Rattle.spec_calls.specs.Calls.{Changed, open_refusal, opened, open_call, joined_tree, join_refusal, joined, join_call, trial_call, order_refusal, order_call, write_refusal, write_call, aim_refusal, aim_call, conflict_refusal, conflicts_of, conflict_call}

-- A call returned these numbers.
abbrev says : Reply → ℕ → ℕ → Bool
says r number value = eqb r.number number && eqb r.value value

-- The tables of a call, lent to the next one: for 5 bins, with this many groups.
abbrev nodes_of : Layout → Changed → Nodes
nodes_of l r = lent_nodes l 5 256 r.rows

abbrev book_of : Changed → ℕ → Book
book_of r count = lent_book r.book.words count

-- What is asked of the ring of circle e, and of the rack with its groups.
abbrev right_e : Layout → Changed → Bool
right_e Ring e =
    says e.answer 0 2
    && (same (take 6 e.rows) (2 ∷ 3 ∷ 257 ∷ 5 ∷ 3 ∷ 0 ∷ [])
    && (same (take 5 (drop 257 e.rows)) (1 ∷ 2 ∷ 2 ∷ 4 ∷ 0 ∷ [])
    && (same (drop 65792 e.rows) (7 ∷ [])
    && (same (take 9 e.book.words) (5 ∷ 0 ∷ 0 ∷ 0 ∷ 20 ∷ 0 ∷ 0 ∷ 0 ∷ 0 ∷ [])
    && (says (trial_call (nodes_of Ring e) (book_of e 2) (1 ∷ 5 ∷ [])) 8 0
    && (says (trial_call (nodes_of Ring e) (book_of e 2) (2 ∷ 4 ∷ [])) 0 3
    && (same (conflict_call Ring 5 (book_of e 2) (1 ∷ 5 ∷ []) (replicate 97 7)).table (1 ∷ 2 ∷ (replicate 94 0 ++ (7 ∷ [])))
    && (same (order_call (nodes_of Ring e) (replicate 6 7)).table (1 ∷ 2 ∷ 4 ∷ 5 ∷ 3 ∷ 7 ∷ [])
    && (says (aim_call (nodes_of Ring e) (book_of e 2) 1) 0 1
    && same (take 16 (write_call (nodes_of Ring e) (replicate 2049 7)).table) (bytes "1 C(P(2 4) 5 3)" ++ (0 ∷ [])))))))))))
right_e Rack e =
    says e.answer 0 2
    && (same (take 6 e.rows) (2 ∷ 3 ∷ 257 ∷ 5 ∷ 3 ∷ 0 ∷ [])
    && (same (take 6 (drop 257 e.rows)) (1 ∷ 3 ∷ 2 ∷ 4 ∷ 6 ∷ 0 ∷ [])
    && (same (conflict_call Rack 5 (book_of e 2) (1 ∷ 5 ∷ []) (replicate 97 7)).table (1 ∷ 2 ∷ (replicate 94 0 ++ (7 ∷ [])))
    && (same (order_call (nodes_of Rack e) (replicate 6 7)).table (1 ∷ 3 ∷ 5 ∷ 2 ∷ 4 ∷ 7 ∷ [])
    && (says (aim_call (nodes_of Rack e) (book_of e 2) 2) 0 5
    && same (take 18 (write_call (nodes_of Rack e) (replicate 2049 7)).table) (bytes "1 C(P(2 4 6) 5 3)" ++ (0 ∷ [])))))))

abbrev then_e : Layout → Changed → Bool
then_e l d = right_e l (join_call (nodes_of l d) (book_of d 1) (3 ∷ 5 ∷ []))

abbrev then_d : Layout → Changed → Bool
then_d l r = then_e l (join_call (nodes_of l r) (book_of r 0) (1 ∷ 3 ∷ []))

abbrev from_open : Layout → Bool
from_open l = then_d l (open_call (lent_nodes l 5 256 (replicate 65793 7)) (lent_book (replicate 385 7) 0))

pub calls_right : (from_open Ring && from_open Rack) ≡ true
unfolding in_form? reduce fresh side join marked word_of words_of leaves_of book_in_form? booked emptied table_of spelled spelled_tree tree_in bad_leaf open_refusal opened open_call joined_tree join_refusal joined join_call trial_call consecutive? possible? leave_out conflict_list conflict_refusal conflicts_of conflict_call order_refusal order_call aim_refusal aim_call standard_on run_start rounded aim_of digits_in digits tree_text write_refusal write_call
calls_right = refl
