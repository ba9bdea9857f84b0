-- What is known of a table that is updated: the labels of its tree, and what is judged.
use mathlib.Core.Path.{◌≡◌, sym, ap, ◌∙◌, subst}
use mathlib.Core.Option.{none-ne-some}
use mathlib.Core.List.{List}
use Prim.Native.Nat.{ℕ, zero, suc, ◌-◌, ◌≤◌}
use native.Mathlib.Omega.{arith}
use lib.ListN.{length, take, drop}
use Rattle.spec_orders.specs.Lists.{All}
use Rattle.spec_orders.specs.CircularOrder.{Restriction}
use Rattle.spec_orders.specs.Tree.{Forest, nil, node, frontier}
use Rattle.spec_orders.specs.Form.{nodes, InForm}
use Rattle.spec_orders.proofs.ListLaws.{all_map}
use Rattle.spec_orders.proofs.Forms.{form_one, form_two, form_nodes}
use Rattle.spec_orders.proofs.TextTree.{form_length}
use Rattle.spec_calls.specs.Tables.{over}
use Rattle.spec_calls.specs.NodeTable.{table_of, Holds}
use Rattle.spec_calls.proofs.NodeTables.{tree_in_holds, over-same}
use Rattle.mark_words.specs.Marks.{marked}
use Rattle.tree_tokens.specs.Tokens.{tree, plain, encode, Wrote, flat, TreeTokens}
use Rattle.tree_tokens.proofs.Counts.{flat_counts, form_size}
use Rattle.tree_tokens.proofs.Sequences.{tree_plain}
use Rattle.tree_tokens.proofs.Writes.{read_part}
use Rattle.tree_judge.specs.Judge.{judge}
use Rattle.tree_update.specs.Update.{JudgedTree}
use Rattle.tree_update.proofs.Updates.{form_within}
use Rattle.table_reading.specs.Reading.{Known, known, Behind}
use Rattle.table_reading.proofs.Complete.{complete}
use Rattle.table_reading.proofs.Same.{behind_same}
use Rattle.table_sweep.specs.Kept.{Labels, Swept, lost, all_blank, roots_known}
use Rattle.table_sweep.proofs.Keeping.{roots_labels, labels_none}
use Rattle.table_update.specs.States.{labelled_from, Updates}
use Rattle.table_update.proofs.Labelling.{labelled_is}

-- work has the marks of the restriction, and the states of the tree's nodes.
pub record Labelled (S : Restriction) (work : List ℕ) (t : Forest) : Type 0 where
  pub long : length work ≡ 265
  pub side : (b : ℕ) → 1 ≤ b → b ≤ 256 → marked (take 4 (drop 0 work)) b ≡ S b
  pub states : Labels S work 0 t
  pub few : nodes t ≤ 256
  pub leaves : All (λ b. (1 ≤ b) × (b ≤ 256)) (frontier t)

-- With one leaf or two there is one tree.
small_same : (n : ℕ) (t u : Forest) → 1 ≤ n → n ≤ 2 → InForm n t → InForm n u → u ≡ t
small_same zero t u l m f g = absurd (omega arith)
small_same (suc zero) t u l m f g = form_one u g ∙ sym (form_one t f)
small_same (suc (suc zero)) t u l m f g = form_two u g ∙ sym (form_two t f)
small_same (suc (suc (suc n))) t u l m f g = absurd (omega arith)

module _ {n : ℕ} {S : Restriction} {t u : Forest} (table work : List ℕ) (h : Updates n S t u table work) where
  pub holds : Holds n table t
  holds = (tree_in_holds n table t h.few_leaves).0 h.held

  pub few_tokens : {toks : List ℕ} → toks ≡ flat t → length toks ≤ 510
  few_tokens e = omega (arith, ap length e, form_size n t holds.in_form h.few_leaves)

  pub small_stays : n ≤ 2 → table ≡ over (table_of u) table
  small_stays l =
      sym (over-same n t table h.few_leaves holds) ∙ ap (λ (v : Forest). over (table_of v) table) (sym (small_same n t u h.some_leaf l holds.in_form h.form))

  module _ (more : 3 ≤ n) where
    -- What is known when all records are read is the tree.
    known_is : {g : Forest} {ls : List ℕ} → Behind n S table 0 (known n S g ls) → g ≡ t
    known_is b = ap (λ (s : Known). s.roots) (behind_same n S b (complete n h.few_leaves S table t more holds).behind)

    labelled : (g : Forest) → g ≡ t → length work ≡ 265 → ((b : ℕ) → 1 ≤ b → b ≤ 256 → marked (take 4 (drop 0 work)) b ≡ S b) → Labels S work 0 g → Labelled S work t
    labelled g e long side l = record {
      long = long;
      side = side;
      states = subst (Labels S work 0) e l;
      few = omega (arith, form_nodes n t holds.in_form (omega arith), h.few_leaves);
      leaves = all_map (λ b. (2 ≤ b) × (b ≤ n)) (λ b. (1 ≤ b) × (b ≤ 256)) (λ b r. (omega (arith, r.0), omega (arith, r.1, h.few_leaves))) (frontier t) (form_within holds.in_form).in_range;
    }

    pub labels_known : Labelled S work t
    labels_known = go h.swept
      where
        go : Swept n S table 0 work → Labelled S work t
        go (lost a b c) = let w = complete n h.few_leaves S table t more holds in absurd (c (known n S t w.read) w.behind)
        go (all_blank k z b) = labelled nil (known_is b) k.long k.side (labels_none S work 0)
        go (roots_known {k = w} {i = i} {f = f} k b) =
            labelled (node w i f) (known_is b) k.kept.long k.kept.side (roots_labels S work 0 (node w i f) k.kept.roots k.kept.low)

    pub plain-few : nodes (tree (plain t)) ≤ 256
    plain-few = subst (λ (f : Forest). nodes f ≤ 256) (sym (tree_plain t)) labels_known.few

    -- The tokens and their labels are those of the judged tree.
    judged_is : {toks : List ℕ} → toks ≡ flat t → labelled_from work 0 toks ≡ encode (judge S t)
    judged_is e =
        ap (labelled_from work 0) e
        ∙ labelled_is S work labels_known.side 0 (plain t) (subst (Labels S work 0) (sym (tree_plain t)) labels_known.states) (subst (λ (f : Forest). All (λ b. (1 ≤ b) × (b ≤ 256)) (frontier f)) (sym (tree_plain t)) labels_known.leaves)
        ∙ ap (λ (f : Forest). encode (judge S f)) (tree_plain t)

    pub judged_part : {toks old judged : List ℕ} {k : ℕ} → k ≡ length toks → toks ≡ flat t → Wrote (labelled_from work 0 toks) old judged (length toks)
        → take (k - 0) (drop 0 judged) ≡ encode (judge S t)
    judged_part {judged = judged} m e w = ap (λ (j : ℕ). take (j - 0) judged) m ∙ read_part w ∙ judged_is e

    pub judged_tree : {toks judged : List ℕ} → toks ≡ flat t → judged ≡ encode (judge S t) → JudgedTree n S t toks judged
    judged_tree e j = record {
      is = e;
      states = j;
      form = form_within holds.in_form;
      few_leaves = h.few_leaves;
      some_token = omega (arith, ap length e, flat_counts t, form_length n t holds.in_form);
      possible = λ z. none-ne-some u (sym z ∙ h.is);
    }

    pub new_tokens : {toks : List ℕ} → toks ≡ flat u → TreeTokens n toks
    new_tokens e = record { shown = u; is = e; in_form = h.form; few_leaves = h.few_leaves }
