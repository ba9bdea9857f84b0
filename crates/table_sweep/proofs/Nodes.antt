-- A node's record: what is refused, and what is kept of it.
use mathlib.Core.Path.{◌≡◌, refl, sym, ap, ◌∙◌, subst}
use Rattle.std.specs.Prelude.{Some, None, EachIndex}
use mathlib.Core.List.{List, ◌++◌}
use Prim.Native.Nat.{ℕ, suc, ◌+◌, ◌-◌, ◌*◌, ◌≤◌, ◌<◌}
use native.Mathlib.Omega.{arith}
use lib.ListN.{length, get_or, take, drop, set, replicate, length-set, length-drop, take-append-drop}
use lib.Seq.{take-append_seam, drop_at, take-set-le, drop-set-add, get_or-set_same, get_or-set_other, length-take-le}
use Rattle.spec_orders.specs.CircularOrder.{Restriction}
use Rattle.spec_orders.specs.Tree.{Kind, P, C, Forest, node}
use Rattle.spec_orders.specs.Form.{first, fewest, nodes}
use Rattle.spec_orders.proofs.ListLaws.{part_to_end}
use Rattle.spec_calls.specs.Tables.{padded}
use Rattle.spec_calls.specs.NodeTable.{kind_number}
use Rattle.mark_words.specs.Marks.{marked}
use Rattle.tree_tokens.specs.Tokens.{number}
use Rattle.tree_judge.specs.Judge.{node_state, states, judge}
use Rattle.tree_judge.specs.Automaton.{Run, verdict, code}
use Rattle.tree_judge.proofs.Automaton.{judges}
use Rattle.table_sweep.specs.declared.Row.{Row}
use Rattle.table_reading.specs.Reading.{Within, known, at_record, ItemsRead}
use Rattle.table_sweep.specs.Kept.{packed, Labels, Roots, Inside, RowSays, RowSmall, NodeIs}
use Rattle.table_reading.proofs.Reading.{reads-next, reads_first, reads-run}
use Rattle.table_reading.proofs.Same.{reads_same}
use Rattle.table_sweep.proofs.Zeros.{zeros_are, are_zeros}
use Rattle.table_sweep.proofs.Keeping.{labels_same, roots_same}

-- A kind is known by its number.
pub same_kind : (k j : Kind) → kind_number k ≡ kind_number j → k ≡ j
same_kind P P e = refl
same_kind C C e = refl
same_kind P C e = absurd (omega arith)
same_kind C P e = absurd (omega arith)

-- The places of a node's entries.
module _ (places vs : List ℕ) (count : ℕ) (e : count ≡ length vs) (p : places ≡ padded 255 vs) where
  taken : take count places ≡ vs
  taken = ap (λ (k : ℕ). take k places) e ∙ ap (take (length vs)) p ∙ take-append_seam vs (replicate (255 - length vs) 0)

  pub zeros_left : EachIndex (take (length places - count) (drop count places)) (λ k. get_or (take (length places - count) (drop count places)) k 0 ≡ 0)
  zeros_left =
      are_zeros (255 - length vs)
      (part_to_end places count ∙ ap (drop count) p ∙ drop_at vs (replicate (255 - length vs) 0) count (sym e))

module _ (n : ℕ) (S : Restriction) (k : Kind) (r : ℕ) (g : Forest) (ls places new : List ℕ) (count : ℕ) where
  abbrev entries : List ℕ
  entries = take count places

  pub row_bad : {vs : List ℕ} {i : Forest} {z : Within} → RowSays n S k r g ls entries new None → count ≡ length vs → places ≡ padded 255 vs
      → ItemsRead n S k vs (at_record n S k r (known n S g ls)) i z → ⊥
  row_bad {vs = vs} {i} {z} h c p t = h i z (subst (λ (l : List ℕ). ItemsRead n S k l (at_record n S k r (known n S g ls)) i z) (sym (taken places vs count c p)) t)

  pub row_low : (o : Row) {vs : List ℕ} {i : Forest} {z : Within} → RowSays n S k r g ls entries new (Some o) → o.last ≤ o.first → count ≡ length vs → places ≡ padded 255 vs
      → ItemsRead n S k vs (at_record n S k r (known n S g ls)) i z → z.first < z.last → ⊥
  row_low q {vs = vs} {i} {z} o l c p t m =
      let u = subst (λ (l : List ℕ). ItemsRead n S k l (at_record n S k r (known n S g ls)) i z) (sym (taken places vs count c p)) t in
      let w = (reads_same n S u o.reads).1 in
      omega (arith, o.its_first, o.its_last, ap (λ (y : Within). y.first) w, ap (λ (y : Within). y.last) w)

-- The new root is kept.
node_inside : (S : Restriction) {new : List ℕ} {x : ℕ} {f : Forest} {ls : List ℕ} (k : Kind) (i : Forest) (r v : ℕ) → Inside S new x f ls → x ≡ suc r + nodes i
    → v ≡ packed (first i) (suc (nodes i)) (number (node_state k (states (judge S i)))) → first i ≤ 511 → Labels S new (suc r) i → r < 256
    → Inside S (set new (8 + r) v) r (node k i f) ls
unfolding Roots
node_inside S {new} {x} {f} k i r v h e q m n l =
    let long = h.kept.long in
    let at : 8 + r ≡ 4 + (4 + r) = omega arith in
    record {
      kept = record {
        long = length-set new (8 + r) v ∙ long;
        side = λ b y z. ap (λ (w : List ℕ). marked w b) (take-set-le 4 new (8 + r) v (omega arith)) ∙ h.kept.side b y z;
        seen = ap (λ (j : ℕ). take 4 (drop 4 (set new j v))) at ∙ ap (take 4) (drop-set-add 4 new (4 + r) v) ∙ take-set-le 4 (drop 4 new) (4 + r) v (omega arith) ∙ h.kept.seen;
        roots = (
          get_or-set_same new (8 + r) v 0 (omega arith) ∙ q,
          m,
          labels_same S new (set new (8 + r) v) (suc r) i (λ j y. get_or-set_other new (8 + r) j v 0 (λ d. omega arith)) n,
          roots_same S new (set new (8 + r) v) (suc r + nodes i) f (λ j y. get_or-set_other new (8 + r) j v 0 (λ d. omega arith)) (subst (λ (y : ℕ). Roots S new y f) e h.kept.roots),
        );
        low = omega (arith, h.kept.low);
      };
      used = get_or-set_other new (8 + r) 264 v 0 (λ d. omega arith) ∙ omega (arith, h.used);
    }

module _ (n : ℕ) (S : Restriction) (r kind count : ℕ) (places : List ℕ) (g : Forest) (ls new : List ℕ) where
  pub node_good : (a : Row) (w : ℕ) (k : Kind) → kind ≡ kind_number k → RowSmall r (Some a) → RowSays n S k r g ls (take count places) new (Some a) → a.first < a.last
      → EachIndex (take (length places - count) (drop count places)) (λ j. get_or (take (length places - count) (drop count places)) j 0 ≡ 0) → fewest k ≤ count → count ≤ 255 → length places ≡ 255 → r < 256
      → ((p : Run) → a.run ≡ code p → w ≡ number (verdict p)) → NodeIs n S r kind count places g ls (set new (8 + r) (a.first + 512 * ((a.next - r) + 512 * w)))
  unfolding packed
  node_good a w k e small o rise none enough most long low told =
      let vs : List ℕ = take count places in
      let many : length vs ≡ count = length-take-le count places (omega arith) in
      let zeros : drop count places ≡ replicate (255 - count) 0 =
      sym (part_to_end places count) ∙ zeros_are (take (length places - count) (drop count places)) none
      ∙ ap (λ (y : ℕ). replicate y 0) (ap length (part_to_end places count) ∙ length-drop count places ∙ ap (λ (y : ℕ). y - count) long) in
      let its : first o.items ≡ a.first = sym (reads_first n S o.reads refl) ∙ sym o.its_first in
      let nexts = reads-next n S o.reads in
      let state : w ≡ number (node_state k (states (judge S o.items))) = told o.end.run o.its_run ∙ ap (λ (y : Run). number (verdict y)) (reads-run n S o.reads) ∙ ap number (judges k (states (judge S o.items))) in
      record {
        its_kind = k;
        entries = vs;
        items = o.items;
        end = o.end;
        kind_is = e;
        count_is = sym many;
        places_are = sym (take-append-drop count places) ∙ ap (λ (y : List ℕ). vs ++ y) (zeros ∙ ap (λ (y : ℕ). replicate (255 - y) 0) (sym many));
        enough = omega arith;
        most = omega arith;
        reads = o.reads;
        rises = omega (arith, o.its_first, o.its_last);
        inside = node_inside S k o.items r (a.first + 512 * ((a.next - r) + 512 * w)) o.inside nexts (omega (arith, its, o.its_next, nexts, state)) (omega (arith, its, small.3)) o.labels low;
      }
