-- What either order takes, and writes.
use mathlib.Core.Path.{◌≡◌, subst}
use mathlib.Core.List.{List}
use Prim.Native.Nat.{ℕ, suc, ◌≤◌}
use native.Mathlib.Omega.{arith}
use Rattle.spec_orders.specs.declared.Layout.{Layout}
use Rattle.spec_orders.specs.declared.Layout.TheVariants.{Ring, Rack}
use Rattle.spec_orders.specs.Layout.{leaf_count}
use Rattle.spec_orders.specs.Tree.{Forest, frontier}
use Rattle.spec_orders.specs.Form.{standard}
use Rattle.spec_orders.specs.SeenFrom.{seen_from, standard_on}
use Rattle.spec_orders.proofs.TextTree.{form_length}
use Rattle.tree_tokens.specs.Tokens.{tree, plain, Wrote, TreeTokens}
use Rattle.tree_tokens.proofs.Sequences.{tree_plain}
use Rattle.tree_frontier.specs.Room.{Room}

pub ring-room : (l : Layout) {n m : ℕ} {toks : List ℕ} → l ≡ Ring → TreeTokens (leaf_count l n) toks → 1 ≤ n → n ≤ m → Room standard toks m
ring-room l {n} {m} {toks} e f some room = fits (subst (λ (k : Layout). TreeTokens (leaf_count k n) toks) e f)
  where
    fits : TreeTokens n toks → Room standard toks m
    fits g = (plain g.shown, g.is, rw (tree_plain g.shown) (omega (arith, form_length n g.shown g.in_form, room)))

pub rack_tokens : (l : Layout) {n : ℕ} {toks : List ℕ} → l ≡ Rack → TreeTokens (leaf_count l n) toks → TreeTokens (suc n) toks
rack_tokens l {n} {toks} e f = subst (λ (k : Layout). TreeTokens (leaf_count k n) toks) e f

pub wrote_ring : (l : Layout) (n : ℕ) (t : Forest) {old new : List ℕ} {r : ℕ} → l ≡ Ring → Wrote (standard (tree (plain t))) old new r → Wrote (standard_on l n t) old new r
unfolding standard_on
wrote_ring l n t {old} {new} {r} e w = rw e (subst (λ (u : Forest). Wrote (standard u) old new r) (tree_plain t) w)

pub wrote_rack : (l : Layout) (n : ℕ) (t : Forest) {old new : List ℕ} {r : ℕ} → l ≡ Rack → Wrote (frontier (seen_from 1 (suc n) t)) old new r → Wrote (standard_on l n t) old new r
unfolding standard_on
wrote_rack l n t e w = rw e w
