-- The first demand, call by call. What a call returns is its refusal, or 0 with its own number (`answered`); where it does not return 0 it keeps its
-- tables (spec_calls/proofs/Refused). The two make `ByTheTable`; a text has one answer, so the reader's is the one that `ReadRefusal` names.
use mathlib.Core.Path.{◌≡◌, refl, sym, ◌∙◌, ap, subst}
use mathlib.Core.Logic.{◌≢◌}
use mathlib.Core.Option.{Option, none, some}
use mathlib.Core.List.{List}
use Prim.Native.Nat.{ℕ, ◌+◌}
use native.Mathlib.Omega.{arith}
use Rattle.spec_orders.specs.Tree.{Forest}
use Rattle.spec_orders.specs.TreeText.{Found, tree, refused, Reads}
use Rattle.text_scanner.proofs.Outcomes.{reads_some}
use Rattle.spec_calls.specs.declared.Refusal.{Refusal}
use Rattle.spec_calls.specs.Tables.{Nodes, leaves, Book}
use Rattle.spec_calls.specs.Refusals.{Reply}
use Rattle.spec_calls.specs.Calls.{Changed, Filled, filled_as, filled, answered, opened, open_refusal, joined, read_outcome, ReadCall, unread, read}
use Rattle.spec_calls.proofs.Refused.{Keeps, filled_keeps}
use Rattle.spec_calls.proofs.Reports.{refused_number}
use Rattle.spec_calls.proofs.ReadOnce.{read_call_once}
use Rattle.spec_demands.specs.Demands.{ByTheTable, ReadRefusal, by_tables, by_text, by_none}

-- A call by the table, from its answer and from what it keeps where that is not 0.
pub by_the_table : {Kept : Type 0} (must : Option Refusal) (v : ℕ) (said : Reply) → said ≡ answered must v → (said.number ≢ 0 → Kept) → ByTheTable must said Kept
by_the_table (some r) v said e k =
    let not_done : said.number ≢ 0 = λ z. refused_number r (sym (ap (λ (s : Reply). s.number) e) ∙ z) in
    record {
      refused = λ q p. (e ∙ cc, k not_done);
      done = (λ z. absurd (not_done z), λ p. absurd (let z : ◌≡◌ {A = ℕ} 0 1 = cc in omega arith));
    }
by_the_table none v said e k = record {
  refused = λ q p. absurd (let z : ◌≡◌ {A = ℕ} 0 1 = cc in omega arith);
  done = (λ z. refl, λ p. ap (λ (s : Reply). s.number) e);
}

pub ring_by_the_table : (nodes : Nodes) (book : Book) (must : Option Refusal) (v : ℕ) (x y : Changed) → x ≡ y → y.answer ≡ answered must v → Keeps y nodes book
    → ByTheTable must x.answer ((x.rows ≡ nodes.rows) × (x.book ≡ book))
ring_by_the_table nodes book must v x y e a k =
    by_the_table must v x.answer (ap (λ (z : Changed). z.answer) e ∙ a) (subst (λ (z : Changed). Keeps z nodes book) (sym e) k)

pub filled_by_the_table : (must : Option Refusal) (v : ℕ) (xs table new : List ℕ) (said : Reply) → filled_as said new ≡ filled must v xs table → ByTheTable must said (new ≡ table)
filled_by_the_table must v xs table new said e =
    by_the_table must v said (ap (λ (x : Filled). x.answer) e ∙ the_answer must)
    (λ q. ap (λ (x : Filled). x.table) e ∙ filled_keeps must v xs table (λ z. q (ap (λ (x : Filled). x.answer.number) e ∙ z)))
  where
    the_answer : (must : Option Refusal) → (filled must v xs table).answer ≡ answered must v
    the_answer (some r) = refl
    the_answer none = refl

pub open_answer : (must : Option Refusal) (nodes : Nodes) (book : Book) → (opened must nodes book).answer ≡ answered must 0
unfolding opened
open_answer (some r) nodes book = refl
open_answer none nodes book = refl

pub join_answer : (must : Option Refusal) (t : Option Forest) (nodes : Nodes) (book : Book) (list : List ℕ) → (joined must t nodes book list).answer ≡ answered must (book.count + 1)
unfolding joined
join_answer (some r) t nodes book list = refl
join_answer none t nodes book list = refl

pub read_answer : (nodes : Nodes) (book : Book) (text : List ℕ) (must : Option Refusal) → ReadRefusal nodes book text must → (x : Changed) → ReadCall nodes book text x → x.answer ≡ answered must 0
unfolding read_outcome
read_answer nodes book text must (by_tables p) x c = ap (λ (y : Changed). y.answer) (read_call_once c (unread p))
read_answer nodes book text must (by_text {p = b} p r) x c = ap (λ (y : Changed). y.answer) (read_call_once c (read {f = refused b} p r))
read_answer nodes book text must (by_none {t = t} p r) x c = ap (λ (y : Changed). y.answer) (read_call_once c (read {f = tree t} p r))

pub some_refusal : (nodes : Nodes) (book : Book) (text : List ℕ) → (must : Option Refusal) × ReadRefusal nodes book text must
some_refusal nodes book text = go (open_refusal nodes book) refl (reads_some (leaves nodes) text)
  where
    go : (o : Option Refusal) → open_refusal nodes book ≡ o → (f : Found) × Reads (leaves nodes) text f → (must : Option Refusal) × ReadRefusal nodes book text must
    go (some r) e f = (some r, by_tables e)
    go none e (tree t, h) = (none, by_none e h)
    go none e (refused p, h) = (_, by_text e h)
