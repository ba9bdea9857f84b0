-- The verdict, from what is known when all records are read.
use mathlib.Core.Path.{◌≡◌, refl, sym, ap, ◌∙◌, subst}
use mathlib.Core.Option.{none}
use mathlib.Core.List.{List, [], ◌∷◌}
use Prim.Native.Nat.{ℕ, zero, suc, ◌+◌, ◌-◌, ◌≤◌, ◌/◌, ◌%◌}
use native.Mathlib.Omega.{arith}
use lib.ListN.{length, get_or, take, drop}
use lib.Seq.{drop-cons}
use Rattle.spec_orders.specs.CircularOrder.{Restriction, others}
use Rattle.spec_orders.specs.Tree.{Kind, Forest, nil, leaf, node}
use Rattle.spec_orders.specs.Form.{nodes, InForm}
use Rattle.spec_orders.specs.Reduce.{reduce}
use Rattle.spec_orders.specs.Join.{leaf_items}
use Rattle.spec_orders.proofs.ListLaws.{all_map}
use Rattle.spec_orders.proofs.Forms.{form_more}
use Rattle.mark_words.specs.Marks.{leaves_of}
use Rattle.mark_words.proofs.Leaves.{size_of_list}
use Rattle.spec_calls.specs.Calls.{is_none}
use Rattle.spec_calls.specs.NodeTable.{tree_in}
use Rattle.spec_calls.proofs.NodeTables.{tree_in_holds, tree_in_none}
use Rattle.tree_tokens.specs.Tokens.{State, E, F, L, R, X, number}
use Rattle.tree_tokens.specs.Views.{state_of}
use Rattle.tree_judge.specs.Judge.{node_state, states, judge}
use Rattle.table_sweep.specs.declared.Verdict.TheVariants.{NoTree, Impossible, Possible}
use Rattle.table_reading.specs.Reading.{Known, known, Behind}
use Rattle.table_sweep.specs.Kept.{Roots, Kept, Swept, lost, all_blank, roots_known, Told}
use Rattle.table_reading.proofs.Sound.{sound}
use Rattle.table_reading.proofs.Complete.{complete}
use Rattle.table_reading.proofs.Same.{behind_same, kind_first}
use Rattle.table_reading.proofs.Trees.{tree_read, no_tree, other_root, small_read, small_none, state_says, state_x}
use Rattle.table_sweep.proofs.Keeping.{root_read}

-- The four words of the leaves read.
pub read_words : (work : List ℕ) → length work ≡ 265
    → length (leaves_of (get_or work 4 0 ∷ (get_or work 5 0 ∷ (get_or work 6 0 ∷ (get_or work 7 0 ∷ []))))) ≡ length (leaves_of (take 4 (drop 4 work)))
read_words work e =
    ap (λ (w : List ℕ). length (leaves_of w))
    (sym (ap (take 4) (drop-cons work 4 0 (omega arith) ∙ ap (λ l. get_or work 4 0 ∷ l) (drop-cons work 5 0 (omega arith)
    ∙ ap (λ l. get_or work 5 0 ∷ l) (drop-cons work 6 0 (omega arith) ∙ ap (λ l. get_or work 6 0 ∷ l) (drop-cons work 7 0 (omega arith)))))))

not_nil : {k : Kind} {i f : Forest} → node k i f ≡ nil → ⊥
not_nil e = let z : ◌≡◌ {A = ℕ} 0 1 = cc in omega arith

small_some : (n : ℕ) (S : Restriction) → n ≤ 2 → reduce S (leaf_items (others n)) ≡ none → ⊥
unfolding reduce
small_some zero S l e = let z : ◌≡◌ {A = ℕ} 0 1 = cc in omega arith
small_some (suc zero) S l e = let z : ◌≡◌ {A = ℕ} 0 1 = cc in omega arith
small_some (suc (suc zero)) S l e = let z : ◌≡◌ {A = ℕ} 0 1 = cc in omega arith
small_some (suc (suc (suc n))) S l e = absurd (omega arith)

number_x : (s : State) → number s ≡ 4 → s ≡ X
number_x E e = absurd (omega arith)
number_x F e = absurd (omega arith)
number_x L e = absurd (omega arith)
number_x R e = absurd (omega arith)
number_x X e = refl

module _ (n : ℕ) (S : Restriction) (table work : List ℕ) (one : 1 ≤ n) (most : n ≤ 256) (long : 65792 ≤ length table) where
  -- With one leaf or two.
  pub told_small : n ≤ 2 → get_or work 264 0 ≡ 0 → Swept n S table 0 work → Told n S table Possible
  told_small l e (lost a b h) = absurd (omega arith)
  told_small l e (all_blank k z b) = (leaf_items (others n), small_read n S table long one l b, small_some n S l)
  told_small l e (roots_known k b) = absurd (omega (arith, k.used))

  pub told_small_none : n ≤ 2 → (get_or work 264 0 ≡ 0 → ⊥) → Swept n S table 0 work → Told n S table NoTree
  told_small_none l e (lost a b h) = small_none n S table long one l (h (known n S nil []))
  told_small_none l e (all_blank k z b) = absurd (e z)
  told_small_none l e (roots_known k b) = small_none n S table long one l (λ c. not_nil (ap (λ (s : Known). s.roots) (behind_same n S b c)))

  module _ (more : 3 ≤ n) where
    pub told_blank : get_or work 264 0 ≡ 0 → Swept n S table 0 work → Told n S table NoTree
    told_blank e (lost a b h) = absurd (omega arith)
    told_blank e (all_blank k z b) = other_root n most S table long b more (λ q. omega arith)
    told_blank e (roots_known k b) = absurd (omega (arith, k.used))

    pub told_lost : get_or work 264 0 ≡ 257 → Swept n S table 0 work → Told n S table NoTree
    told_lost e (lost a b h) = no_tree n most S table long more (λ t ls c q. h (known n S t ls) c)
    told_lost e (all_blank k z b) = absurd (omega arith)
    told_lost e (roots_known k b) = absurd (omega (arith, k.used, k.kept.low))

    -- How many leaves were read.
    size_is : {x : ℕ} {g : Forest} {ls : List ℕ} → Kept S work x g ls → Behind n S table 0 (known n S g ls) → length (leaves_of (take 4 (drop 4 work))) ≡ length ls
    size_is {ls = ls} k b =
        let o = sound n S table long b in
        ap (λ (w : List ℕ). length (leaves_of w)) k.seen ∙ size_of_list 4 ls o.fresh.1 (all_map (λ b. (2 ≤ b) × (b ≤ n)) (λ b. (1 ≤ b) × (b ≤ 256)) (λ b p. (omega (arith, p.0), omega (arith, p.1))) ls o.fresh.0)

    pub told-few : (get_or work 264 0 ≡ 0 → ⊥) → (get_or work 264 0 ≡ 257 → ⊥) → (length (leaves_of (take 4 (drop 4 work))) ≡ n - 1 → ⊥) → Swept n S table 0 work → Told n S table NoTree
    told-few e q h (lost a b c) = absurd (q b)
    told-few e q h (all_blank k z b) = absurd (e z)
    told-few e q h (roots_known k b) = other_root n most S table long b more (λ y. h (size_is k.kept b ∙ y))

    -- More than one root.
    many_roots : {k : Kind} {i f : Forest} {ls : List ℕ} → Behind n S table 0 (known n S (node k i f) ls) → (f ≡ nil → ⊥) → tree_in n table ≡ none
    many_roots {k} {i} {f} b h = (tree_in_none n table most).1 (λ t g.
        let c = complete n most S table t more g in
        let r = form_more n t g.in_form more in
        let e : node k i f ≡ node r.0 r.1 nil = ap (λ (s : Known). s.roots) (behind_same n S b c.behind) ∙ r.2 in
        h (kind_first f nil k r.0 i r.1 e).2)

    pub told_many : (get_or work 264 0 ≡ 0 → ⊥) → (get_or work 264 0 ≡ 257 → ⊥) → (get_or work 8 0 / 512 % 512 ≡ get_or work 264 0 → ⊥) → Swept n S table 0 work → Told n S table NoTree
    told_many e q h (lost a b c) = absurd (q b)
    told_many e q h (all_blank k z b) = absurd (e z)
    told_many e q h (roots_known {k = w} {i = i} {f = f} k b) =
        many_roots b (λ y. let r = root_read (node w i f) k (omega (arith, k.used)) in let t = kind_first f r.rest w r.kind i r.items r.is in
        h (r.its_records ∙ omega (arith, k.used, ap nodes y, ap nodes t.1)))

    no_more_roots : (f : Forest) (x : ℕ) → Roots S work x f → nodes f ≡ 0 → f ≡ nil
    unfolding Roots
    no_more_roots nil x r e = refl
    no_more_roots (leaf b f) x r e = absurd r
    no_more_roots (node k i f) x r e = absurd (omega arith)

    state_is : (k : Kind) (i : Forest) → node_state k (states (judge S i)) ≡ state_of (judge S (node k i nil))
    unfolding judge state_of
    state_is k i = refl

    told-tree : {k : Kind} {i : Forest} {ls : List ℕ} (s : ℕ) → Behind n S table 0 (known n S (node k i nil) ls) → length ls ≡ n - 1 → s ≡ number (node_state k (states (judge S i)))
        → (s ≡ 4 → Told n S table Impossible) × ((s ≡ 4 → ⊥) → Told n S table Possible)
    told-tree {k} {i} s b m e =
        let t : Forest = node k i nil in
        let is = tree_read n most S table long b more m in
        let form : InForm n t = ((tree_in_holds n table t most).0 is).in_form in
        let st = state_is k i in (
          (λ q. (t, is, state_x n S t form (sym st ∙ number_x (node_state k (states (judge S i))) (sym e ∙ q)))),
          (λ q. (t, is, λ y. q (e ∙ ap number (st ∙ state_says n S t form (ap is_none y))))),
        )

    pub told : (get_or work 264 0 ≡ 0 → ⊥) → (get_or work 264 0 ≡ 257 → ⊥) → length (leaves_of (take 4 (drop 4 work))) ≡ n - 1 → get_or work 8 0 / 512 % 512 ≡ get_or work 264 0 → Swept n S table 0 work
        → (get_or work 8 0 / 262144 % 5 ≡ 4 → Told n S table Impossible) × ((get_or work 8 0 / 262144 % 5 ≡ 4 → ⊥) → Told n S table Possible)
    unfolding Roots
    told e q m u (lost a b c) = absurd (q b)
    told e q m u (all_blank k z b) = absurd (e z)
    told e q m u (roots_known {k = w} {i = i} {f = f} {ls = ls} k b) =
        let r = root_read (node w i f) k (omega (arith, k.used)) in
        let t = kind_first f r.rest w r.kind i r.items r.is in
        let none_left : nodes f ≡ 0 = omega (arith, k.used, u, r.its_records, ap nodes t.1) in
        told-tree (get_or work 8 0 / 262144 % 5)
        (subst (λ (y : Forest). Behind n S table 0 (known n S (node w i y) ls)) (no_more_roots f (suc 0 + nodes i) k.kept.roots.3 none_left) b)
        (sym (size_is k.kept b) ∙ m)
        (r.its_state ∙ ap (λ (y : Kind). number (node_state y (states (judge S r.items)))) (sym t.0) ∙ ap (λ (y : Forest). number (node_state w (states (judge S y)))) (sym t.1))
