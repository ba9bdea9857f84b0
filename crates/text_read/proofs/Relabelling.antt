-- A tree relabelled, token by token.
use mathlib.Core.Option.{some}
use mathlib.Core.Path.{◌≡◌, refl, sym, ap, ◌∙◌}
use mathlib.Core.List.{List, [], ◌∷◌}
use Prim.Native.Nat.{ℕ, ◌+◌, ◌-◌, ◌≤◌, ◌<◌}
use native.Mathlib.Omega.{arith}
use borrow.Author.Tests.{eq-eqb, ne_eqb}
use lib.ListN.{length, get_or, set, length-append}
use Rattle.spec_orders.specs.Tree.{P, C, Forest, nil, leaf, node, items, append}
use Rattle.spec_orders.specs.ThreeNeighbours.{kind_for, relabel}
use Rattle.spec_orders.proofs.Relabel.{relabel-append}
use Rattle.tree_tokens.specs.Tokens.{E, Judged, j_nil, j_leaf, j_node, tree, plain, node_token, encode, Wrote, flat}
use Rattle.tree_tokens.specs.declared.ItemShape.TheVariants.{CNode}
use Rattle.tree_tokens.specs.Views.{shape_of, items_of, rest_of}
use Rattle.tree_tokens.proofs.Sequences.{encode-append, plain-append, tree_plain}
use Rattle.tree_tokens.proofs.Steps.{opened}
use Rattle.tree_tokens.proofs.Writes.{Written, written_start, written_one, written_end, written_same}

relabel-length : (t : Forest) → length (flat (relabel t)) ≡ length (flat t)
unfolding encode
relabel-length nil = refl
relabel-length (leaf b f) = omega (arith, relabel-length f)
relabel-length (node k i f) =
    omega (
      arith,
      relabel-length i,
      relabel-length f,
      length-append (flat (relabel i)) (flat (relabel f)),
      length-append (flat i) (flat f),
    )

-- The first token: it stays, unless it is of a C-node with two items.
pub token_stays : (u : Forest) → 0 < length (flat u) → (some CNode ≡ shape_of (plain u) → ⊥) → get_or (flat u) 0 0 ≡ get_or (flat (relabel u)) 0 0
unfolding encode shape_of
token_stays nil ne h = absurd (omega arith)
token_stays (leaf b f) ne h = refl
token_stays (node P i f) ne h = ap (node_token E P) (sym (relabel-length i))
token_stays (node C i f) ne h = absurd (h refl)

pub token_wide : (u : Forest) → some CNode ≡ shape_of (plain u) → (length (items (tree (items_of (plain u)))) ≡ 2 → ⊥) → get_or (flat u) 0 0 ≡ get_or (flat (relabel u)) 0 0
unfolding encode shape_of items_of
token_wide nil h w = cc
token_wide (leaf b f) h w = cc
token_wide (node P i f) h w = cc
token_wide (node C i f) h w =
    let d : length (items i) ≡ 2 → ⊥ = λ e. w (ap (λ (f : Forest). length (items f)) (tree_plain i) ∙ e) in
    rw (ne_eqb (length (items i)) 2 d, relabel-length i)

pub token_narrow : (u : Forest) → some CNode ≡ shape_of (plain u) → length (items (tree (items_of (plain u)))) ≡ 2 → get_or (flat u) 0 0 - 16 ≡ get_or (flat (relabel u)) 0 0
unfolding encode shape_of items_of node_token
token_narrow nil h w = cc
token_narrow (leaf b f) h w = cc
token_narrow (node P i f) h w = cc
token_narrow (node C i f) h w =
    let d : length (items i) ≡ 2 = sym (ap (λ (f : Forest). length (items f)) (tree_plain i)) ∙ w in
    rw (eq-eqb (length (items i)) 2 d, relabel-length i) (omega arith)

pub c_token : (j : Judged) → some CNode ≡ shape_of j → 16 ≤ get_or (encode j) 0 0
unfolding encode shape_of node_token
c_token j_nil h = cc
c_token (j_leaf s b j) h = cc
c_token (j_node s P i j) h = cc
c_token (j_node s C i j) h = omega arith

-- What stands behind the first token.
abbrev behind : Forest → Forest
behind nil = nil
behind (leaf b f) = f
behind (node k i f) = append i f

behind_opened : (u : Forest) → opened (plain u) ≡ plain (behind u)
unfolding items_of rest_of
behind_opened nil = refl
behind_opened (leaf b f) = refl
behind_opened (node k i f) = sym (plain-append i f)

relabelled_split : (u : Forest) → 0 < length (flat u) → flat (relabel u) ≡ get_or (flat (relabel u)) 0 0 ∷ flat (relabel (behind u))
unfolding encode
relabelled_split nil ne = absurd (omega arith)
relabelled_split (leaf b f) ne = refl
relabelled_split (node k i f) ne =
    ap (λ (l : List ℕ). node_token E (kind_for k (items i)) (length (flat (relabel i))) ∷ l)
    (sym (ap flat (relabel-append i f) ∙ ap encode (plain-append (relabel i) (relabel f)) ∙ encode-append (plain (relabel i)) (plain (relabel f))))

-- Of the tree of j relabelled, i tokens were written to the start of old, which made it new; what is left is that of k relabelled.
pub record Relabelled (old new : List ℕ) (i : ℕ) (j k : Judged) : Type 0 where
  pub at : (t : Forest) → j ≡ plain t → (u : Forest) × (k ≡ plain u) × Written (flat (relabel t)) (flat (relabel u)) old new i

pub relabelled_start : (old : List ℕ) (j : Judged) → Relabelled old old 0 j j
relabelled_start old j = record { at = λ t e. (t, e, written_start (flat (relabel t)) old) }

pub relabelled_more : {old new : List ℕ} {i : ℕ} {j k : Judged} (v : ℕ) → Relabelled old new i j k → 0 < length (encode k) → i < length old
    → ((u : Forest) → encode k ≡ flat u → v ≡ get_or (flat (relabel u)) 0 0) → Relabelled old (set new i v) (i + 1) j (opened k)
relabelled_more v r ne h token = record {
  at = λ t e.
      let x = r.at t e in
      let u = x.0 in
      let s : flat (relabel u) ≡ v ∷ flat (relabel (behind u)) = rw (token u (ap encode x.1)) (relabelled_split u (rw x.1 at ne)) in
      (behind u, ap opened x.1 ∙ behind_opened u, written_one v (flat (relabel (behind u))) h s x.2);
}

pub relabelled_end : {old new : List ℕ} {i : ℕ} (t : Forest) → Relabelled old new i (plain t) j_nil → Wrote (flat (relabel t)) old new i
unfolding encode
relabelled_end t r =
    let x = r.at t refl in
    let e : x.0 ≡ nil = sym (tree_plain x.0) ∙ ap tree (sym x.1) in
    written_end (written_same [] (ap (λ (f : Forest). flat (relabel f)) e) x.2)
