-- What joining answers: no tree, or the next tree in the part that is read next.
use mathlib.Core.Path.{◌≡◌, refl, ap, subst}
use mathlib.Core.Option.{Option, none, some}
use mathlib.Core.List.{List}
use Prim.Native.Nat.{ℕ, ◌-◌, ◌≤◌}
use native.Mathlib.Omega.{arith}
use lib.ListN.{length, take, drop, length-append}
use Rattle.spec_orders.specs.CircularOrder.{Restriction}
use Rattle.spec_orders.specs.Tree.{Forest}
use Rattle.spec_orders.specs.Join.{join}
use Rattle.tree_tokens.specs.Tokens.{Wrote, flat}
use Rattle.tree_tokens.proofs.Writes.{read_part}
use Rattle.std.specs.Prelude.{Option as CodeOption, Some, None}
use Rattle.tree_update.specs.Update.{TokensWithin, Answers, impossible, written}
use Rattle.tree_update.proofs.Updates.{join_form}

pub record Next (G : Restriction) (t : Forest) (new : List ℕ) (m : ℕ) : Type 0 where
  pub tree : Forest
  pub is : join G t ≡ some tree
  pub text : take (m - 0) (drop 0 new) ≡ flat tree
  pub room : m ≤ length new

answers_tree : {o : Option Forest} {old new : List ℕ} {r : CodeOption ℕ} {m : ℕ} → r ≡ Some m → Answers o old new r
    → (u : Forest) × (o ≡ some u) × Wrote (flat u) old new m
answers_tree e (impossible q) = let z : ◌≡◌ {A = ℕ} 0 1 = cc in absurd (omega (arith, z))
answers_tree {old = old} {new} {r} {m} e (written {t = t} {k = k} w) = let n : k ≡ m = cc in (t, refl, subst (Wrote (flat t) old new) n w)

answers_none : {o : Option Forest} {old new : List ℕ} {r : CodeOption ℕ} → r ≡ None → Answers o old new r → o ≡ none
answers_none e (impossible q) = refl
answers_none e (written w) = let z : ◌≡◌ {A = ℕ} 0 1 = cc in absurd (omega (arith, z))

pub next-tree : {H G : Restriction} (t : Forest) {old new : List ℕ} {r : CodeOption ℕ} {m : ℕ} → H ≡ G → r ≡ Some m → Answers (join H t) old new r → Next G t new m
next-tree t {old} {new} {r} {m} g e a =
    let x = answers_tree e (subst (λ H. Answers (join H t) old new r) g a) in
    let w = x.2 in
    record {
      tree = x.0;
      is = x.1;
      text = read_part w;
      room = omega (arith, w.many, ap length w.text, length-append (flat x.0) (drop (length (flat x.0)) old));
    }

pub no_tree : {H G : Restriction} (t : Forest) {old new : List ℕ} {r : CodeOption ℕ} → H ≡ G → r ≡ None → Answers (join H t) old new r → join G t ≡ none
no_tree t {old} {new} {r} g e a = answers_none e (subst (λ H. Answers (join H t) old new r) g a)

-- The next tree is one of some of the leaves too.
pub next_within : {n : ℕ} {l : List ℕ} (p : TokensWithin n l) {G : Restriction} {new : List ℕ} {m : ℕ} → Next G p.0 new m → TokensWithin n (take (m - 0) (drop 0 new))
next_within p {G} x = (x.tree, x.text, join_form G p.2 x.is, p.3)
