-- The checks of the aim's call, down the table.
use mathlib.Core.Path.{◌≡◌, refl, sym}
use mathlib.Core.Logic.{◌≢◌}
use mathlib.Core.Bool.{Bool, true, false, cond, not, ◌||◌}
use mathlib.Core.Option.{some}
use mathlib.Core.List.{List, [], ◌∷◌}
use Prim.Native.Nat.{ℕ, ◌-◌, ◌≤◌, ◌<◌}
use borrow.Author.Tests.{eq-eqb, ne_eqb, lt-ltb, le-ltb}
use lib.Dec.{eqb, ltb}
use lib.ListN.{take, drop}
use Rattle.spec_orders.specs.declared.Layout.{Layout}
use Rattle.spec_orders.specs.Layout.{leaf_count}
use Rattle.spec_orders.specs.Tree.{Forest}
use Rattle.spec_orders.specs.SeenFrom.{standard_on}
use Rattle.spec_orders.specs.Conflict.{consecutive_on?}
use Rattle.spec_orders.specs.Aim.{aim_of}
use Rattle.spec_calls.specs.declared.Refusal.{Refusal}
use Rattle.spec_calls.specs.declared.Refusal.TheVariants.{NoSuchGroup, NoAim, NotConsecutive}
use Rattle.std.specs.declared.result.Result.TheVariants.{Ok, Err}
use Rattle.spec_calls.specs.Tables.{Nodes, Book}
use Rattle.mark_words.specs.Marks.{no_mark?}
use Rattle.spec_calls.specs.Book.{group_words}
use Rattle.spec_calls.specs.Refusals.{reported, report, refuse, first_refusal}
use Rattle.spec_calls.specs.Calls.{ring_checks, group_numbered, answered, aim_refusal, aim_call}
use Rattle.spec_calls.proofs.Demands.{few_bins, lent_held}
use Rattle.tree_tokens.specs.Tokens.{TreeTokens}
use Rattle.tree_tokens.proofs.Writes.{read_part}
use Rattle.call_checks.specs.Lent.{RingLent}
use Rattle.spec_calls.proofs.Checks.{first_refusal_some, first_refusal_none}
use Rattle.call_order.specs.Starts.{aim_in}
use Rattle.call_order.specs.Rings.{Lends, aim_of_group}

module _ (l : Layout) (n : ℕ) (book : Book) (k : ℕ) (t : Forest) where
  pub number_zero : k ≡ 0 → aim_of_group l n book k t ≡ Err NoSuchGroup
  unfolding aim_of_group
  number_zero e = rw (eq-eqb k 0 e)

  pub number_past : k ≢ 0 → book.count < k → aim_of_group l n book k t ≡ Err NoSuchGroup
  unfolding aim_of_group
  number_past e h = rw (ne_eqb k 0 e, lt-ltb book.count k h)

  module _ (e : k ≢ 0) (h : k ≤ book.count) where
    pub no_aim : no_mark? (group_words book.words (k - 1)) ≡ true → aim_of_group l n book k t ≡ Err NoAim
    unfolding aim_of_group
    no_aim q = rw (ne_eqb k 0 e, le-ltb book.count k h, q)

    pub marks_judged : no_mark? (group_words book.words (k - 1)) ≡ false → aim_of_group l n book k t ≡ aim_in l (group_numbered book.words k) (standard_on l n t)
    unfolding aim_of_group
    marks_judged q = rw (ne_eqb k 0 e, le-ltb book.count k h, q)

-- The tokens of a tree for n bins, and the standard order fits in 256 places.
pub lends_tokens : {l : Layout} {n : ℕ} {toks : List ℕ} {book : Book} → Lends l n toks book → TreeTokens (leaf_count l n) toks
lends_tokens h = record { shown = h.shown; is = h.is; in_form = h.lent.tree.in_form; few_leaves = h.lent.whole.few_leaves }

pub lends_few : {l : Layout} {n : ℕ} {toks : List ℕ} {book : Book} → Lends l n toks book → n ≤ 256
lends_few {l} {n} h = few_bins l n h.lent.whole.few_leaves

-- The checks after the ring's, as the code makes them.
last_checks : (a e b : Bool) (v : ℕ)
    → answered (first_refusal (refuse a NoSuchGroup ∷ refuse e NoAim ∷ refuse (not b) NotConsecutive ∷ [])) v
    ≡ report (cond a (Err NoSuchGroup) (cond e (Err NoAim) (cond b (Ok v) (Err NotConsecutive))))
last_checks true e b v = refl
last_checks false true b v = refl
last_checks false false true v = refl
last_checks false false false v = refl

module _ (nodes : Nodes) (book : Book) (k : ℕ) where
  pub aim_refused : (r : Refusal) → first_refusal (ring_checks nodes book) ≡ some r → reported r ≡ aim_call nodes book k
  unfolding aim_call aim_refusal
  aim_refused r e = rw (first_refusal_some (ring_checks nodes book) _ r e)

  module _ {old toks : List ℕ} {m : ℕ} (h : RingLent nodes book old toks m) where
    pub lent_lends : Lends nodes.layout nodes.bins (take (m - 0) (drop 0 toks)) book
    lent_lends = record { records = nodes.records; rows = nodes.rows; shown = h.tree; is = read_part h.wrote; lent = h.lent; groups = h.groups }

    pub aim_there : report (aim_of_group nodes.layout nodes.bins book k h.tree) ≡ aim_call nodes book k
    unfolding aim_call aim_refusal aim_of_group aim_in
    aim_there =
        let G = group_numbered book.words k in
        let ord = standard_on nodes.layout nodes.bins h.tree in
        rw (first_refusal_none (ring_checks nodes book) _ h.passes, lent_held nodes h.tree h.lent)
        (sym (last_checks (eqb k 0 || ltb book.count k) (no_mark? (group_words book.words (k - 1))) (consecutive_on? nodes.layout G ord) (aim_of nodes.layout G ord)))
