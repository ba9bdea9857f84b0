-- The largest leaf of a tree in form, and what it sees.
use mathlib.Core.Path.{◌≡◌, ap, subst, ◌∙◌}
use mathlib.Core.List.{List}
use Prim.Native.Nat.{ℕ, suc, ◌+◌, ◌≤◌}
use native.Mathlib.Omega.{arith}
use lib.ListN.{length}
use Rattle.spec_orders.specs.declared.Layout.TheVariants.{Rack}
use Rattle.spec_orders.specs.Tree.{Forest, frontier}
use Rattle.spec_orders.specs.SeenFrom.{seen_from, standard_on}
use Rattle.spec_orders.proofs.Laws.{canonical_forked}
use Rattle.spec_orders.proofs.SeenFrom.{form_end}
use Rattle.spec_orders.proofs.Straight.{standard-length}
use Rattle.tree_tokens.specs.Tokens.{plain, tree, Wrote, TreeTokens}
use Rattle.tree_tokens.proofs.Counts.{form_size}
use Rattle.tree_tokens.proofs.Sequences.{tree_plain}
use Rattle.tree_seen.specs.Seen.{HasLeaf}

next_is : (n : ℕ) → suc n ≡ n + 1
next_is n = omega arith

module _ {n : ℕ} {toks : List ℕ} (t : TreeTokens (suc n) toks) where
  pub few_tokens : length toks ≤ 510
  few_tokens = omega (arith, ap length t.is, form_size (suc n) t.shown t.in_form t.few_leaves)

  pub end_leaf : 1 ≤ n → HasLeaf (n + 1) toks
  end_leaf l =
      subst (λ (b : ℕ). HasLeaf b toks) (next_is n) (record {
        shown = t.shown;
        is = t.is;
        single = t.in_form.single;
        forked = canonical_forked t.shown t.in_form.canonical;
        has = form_end n t.shown l t.in_form;
      })

-- The leaves that leaf n + 1 sees.
pub seen-leaves : (n : ℕ) (t : Forest) → frontier (tree (plain (seen_from 1 (n + 1) t))) ≡ frontier (seen_from 1 (suc n) t)
seen-leaves n t = rw (tree_plain (seen_from 1 (n + 1) t), next_is n)

pub seen_count : {n : ℕ} {toks : List ℕ} (t : TreeTokens (suc n) toks) → 1 ≤ n → length (frontier (tree (plain (seen_from 1 (n + 1) t.shown)))) ≡ n
unfolding standard_on
seen_count {n} t l = ap length (seen-leaves n t.shown) ∙ standard-length Rack n t.shown l t.in_form

pub wrote_seen : (n : ℕ) (t : Forest) {old new : List ℕ} {r : ℕ} → Wrote (frontier (tree (plain (seen_from 1 (n + 1) t)))) old new r → Wrote (frontier (seen_from 1 (suc n) t)) old new r
wrote_seen n t {old} {new} {r} w = subst (λ (l : List ℕ). Wrote l old new r) (seen-leaves n t) w
