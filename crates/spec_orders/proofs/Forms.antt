-- Trees in form for n leaves: their leaves differ, how many nodes they have, and what they are for n = 1, n = 2 and from 3 on.
use mathlib.Core.Path.{◌≡◌, ap, refl}
use mathlib.Core.List.{[], ◌∷◌, head-eq_of_cons-eq}
use Prim.Native.Nat.{◌+◌, ◌<◌, ◌≤◌, suc, zero, ℕ}
use native.Mathlib.Omega.{arith}
use lib.ListN.{length, length-append}
use Rattle.spec_orders.specs.Lists.{All, Distinct, In, numbers_from, Rearranged}
use Rattle.spec_orders.specs.CircularOrder.{others}
use Rattle.spec_orders.specs.Tree.{Kind, Forest, nil, leaf, node, items, frontier}
use Rattle.spec_orders.specs.Form.{Canonical, Single, InForm, nodes}
use Rattle.spec_orders.proofs.Rearranged.{perm_length, perm_distinct, short_perm}
use Rattle.spec_orders.proofs.Members.{in_all}
use Rattle.spec_orders.proofs.Numbers.{numbers_length, in_range, numbers_distinct}
use Rattle.spec_orders.proofs.Laws.{canonical_forked}
use Rattle.spec_orders.specs.TreeText.{Forked}

-- Leaf 1 is none of the others, they differ, and they are from 2 to n.
pub not_one : (n y : ℕ) → In y (others n) → 1 < y
not_one zero y i = absurd i
not_one (suc n) y i = (in_range 2 n y i).0

pub others_distinct : (n : ℕ) → Distinct (others n)
others_distinct zero = tt
others_distinct (suc n) = numbers_distinct 2 n

pub others_range : (n : ℕ) → All (λ b. (2 ≤ b) × (b ≤ n)) (others n)
others_range zero = tt
others_range (suc n) = in_all (λ b. (2 ≤ b) × (b ≤ suc n)) (numbers_from 2 n) (λ b i. let r = in_range 2 n b i in (r.0, omega (arith, r.1)))

pub form_distinct : (n : ℕ) (t : Forest) → InForm n t → Distinct (frontier t)
form_distinct n t h = perm_distinct h.all_leaves (others_distinct n)

pub form_forked : (n : ℕ) (t : Forest) → InForm n t → Forked t
form_forked n t h = canonical_forked t h.canonical

-- Where each node has two or more items, the nodes and the items are no more than the leaves.
pub nodes_bound : (f : Forest) → Forked f → nodes f + length (items f) ≤ length (frontier f)
nodes_bound nil h = omega arith
nodes_bound (leaf b f) h = let r = nodes_bound f h in omega arith
nodes_bound (node k i f) h =
    let r = nodes_bound f h.1 in
    let s = nodes_bound i h.0.1 in
    omega (arith, h.0.0, length-append (frontier i) (frontier f))

-- A ring of n leaves has at most n − 2 nodes.
pub form_nodes : (n : ℕ) (t : Forest) → InForm n t → 2 ≤ n → nodes t + 2 ≤ n
form_nodes zero t h l = absurd (omega arith)
form_nodes (suc n) t h l =
    go t h.single (omega (arith, nodes_bound t (form_forked (suc n) t h), perm_length h.all_leaves, numbers_length 2 n)) (omega (arith, perm_length h.all_leaves, numbers_length 2 n))
  where
    go : (t : Forest) → Single (items t) → nodes t + length (items t) ≤ n → 1 ≤ length (frontier t) → nodes t + 2 ≤ suc n
    go nil o b m = absurd (omega arith)
    go (leaf x f) o b m = omega arith
    go (node k i f) o b m = omega arith

-- For n = 1 nothing, for n = 2 leaf 2, and from 3 on a node.
node_long : (k : Kind) (i : Forest) → Canonical (node k i nil) → 2 ≤ length (frontier (node k i nil))
node_long k i c = omega (arith, nodes_bound (node k i nil) (canonical_forked (node k i nil) c))

pub form_one : (t : Forest) → InForm 1 t → t ≡ nil
form_one t f = go t f.single f.canonical (perm_length f.all_leaves)
  where
    go : (t : Forest) → Single (items t) → Canonical t → 0 ≡ length (frontier t) → t ≡ nil
    go nil o c e = refl
    go (leaf b nil) o c e = absurd (omega arith)
    go (node k i nil) o c e = absurd (omega (arith, node_long k i c))
    go (leaf b (leaf _ _)) o c e = elim o [ ]
    go (leaf b (node _ _ _)) o c e = elim o [ ]
    go (node k i (leaf _ _)) o c e = elim o [ ]
    go (node k i (node _ _ _)) o c e = elim o [ ]

pub form_two : (t : Forest) → InForm 2 t → t ≡ leaf 2 nil
form_two t f = go t f.single f.canonical f.all_leaves
  where
    go : (t : Forest) → Single (items t) → Canonical t → Rearranged (2 ∷ []) (frontier t) → t ≡ leaf 2 nil
    go nil o c p = absurd (omega (arith, perm_length p))
    go (leaf b nil) o c p = ap (λ x. leaf x nil) (head-eq_of_cons-eq (short_perm p (omega arith)))
    go (node k i nil) o c p = absurd (omega (arith, perm_length p, node_long k i c))
    go (leaf b (leaf _ _)) o c p = elim o [ ]
    go (leaf b (node _ _ _)) o c p = elim o [ ]
    go (node k i (leaf _ _)) o c p = elim o [ ]
    go (node k i (node _ _ _)) o c p = elim o [ ]

pub form_more : (n : ℕ) (t : Forest) → InForm n t → 3 ≤ n → (k : Kind) × (i : Forest) × (t ≡ node k i nil)
form_more zero t f l = absurd (omega arith)
form_more (suc n) t f l = go t f.single (omega (arith, perm_length f.all_leaves, numbers_length 2 n))
  where
    go : (t : Forest) → Single (items t) → 2 ≤ length (frontier t) → (k : Kind) × (i : Forest) × (t ≡ node k i nil)
    go nil o m = absurd (omega arith)
    go (leaf b nil) o m = absurd (omega arith)
    go (node k i nil) o m = (k, i, refl)
    go (leaf b (leaf _ _)) o m = elim o [ ]
    go (leaf b (node _ _ _)) o m = elim o [ ]
    go (node k i (leaf _ _)) o m = elim o [ ]
    go (node k i (node _ _ _)) o m = elim o [ ]
