-- Sequences whose rows stand in a table: their parts stand there too.
use mathlib.Core.Path.{◌≡◌, refl, sym, ap, ◌∙◌, subst}
use mathlib.Core.List.{List, [], ◌∷◌, ◌++◌, append_assoc, append-nil, head-eq_of_cons-eq, tail-eq_of_cons-eq}
use Prim.Native.Nat.{ℕ, suc, ◌+◌, ◌-◌, ◌*◌, ◌≤◌, ◌<◌}
use native.Mathlib.Omega.{arith}
use native.Mathlib.Numerals.{add-one}
use lib.ListN.{length, take, drop, get_or, length-append, length-drop}
use lib.Seq.{drop-cons}
use Rattle.spec_orders.specs.Tree.{Kind, P, Forest, nil, leaf, node, frontier}
use Rattle.spec_orders.specs.Form.{nodes}
use Rattle.spec_orders.proofs.ListLaws.{all_left, all_right, part_is}
use Rattle.spec_calls.specs.NodeTable.{entries, rows, kind_of, spelled_items, spelled}
use Rattle.spec_calls.proofs.NodeTables.{row, first-row, rows_after, entries-length, row-length, at_count, at_places, at_next, spelled_node}
use Rattle.tree_tokens.specs.Tokens.{E, node_token, encode, flat}
use Rattle.table_walk.specs.Walks.{RowsStand, PlacesStand}

-- The tokens of a node, and of what follows it.
pub node_flat : (k : Kind) (i f : Forest) → flat (node k i f) ≡ flat (node k i nil) ++ flat f
unfolding encode
node_flat k i f = ap (λ (l : List ℕ). node_token E k (length (flat i)) ∷ (l ++ flat f)) (sym (append-nil (flat i)))

node_size : (k : Kind) (i f : Forest) → length (flat (node k i f)) ≡ length (flat (node k i nil)) + length (flat f)
node_size k i f = ap length (node_flat k i f) ∙ length-append (flat (node k i nil)) (flat f)

inner_size : (k : Kind) (i : Forest) → length (flat (node k i nil)) ≡ suc (length (flat i))
unfolding encode
inner_size k i = ap suc (length-append (flat i) [] ∙ omega arith)

-- A leaf first.
leaf_rest : {table : List ℕ} {r b room : ℕ} {f : Forest} → RowsStand table r (leaf b f) room → (1 ≤ room) × RowsStand table r f (room - 1)
unfolding encode
leaf_rest s = (
  omega (arith, s.fits),
  record {
    more = s.more;
    at = s.at;
    leaves = s.leaves.1;
    narrow = s.narrow;
    fits = omega (arith, s.fits);
    short = omega (arith, s.short);
  },
)

-- A node first: it stands there by itself, and so do its items and what follows it.
module _ {table : List ℕ} {r room : ℕ} {k : Kind} {i f : Forest} (s : RowsStand table r (node k i f) room) where
  node_alone : RowsStand table r (node k i nil) room
  node_alone = record {
    more = rows (suc r + nodes i) f ++ s.more;
    at = first-row table r k i f s.more s.at ∙ simp (append-nil, append_assoc);
    leaves = rw append-nil (all_left (λ b. b ≤ 256) (frontier i) (frontier f) s.leaves);
    narrow = (s.narrow.0, tt);
    fits = omega (arith, s.fits, node_size k i f);
    short = omega (arith, s.short, node_size k i f);
  }

  node_row : drop (257 * r) table ≡ row k (entries (suc r) i) ++ (rows (suc r) i ++ (rows (suc r + nodes i) f ++ s.more))
  node_row = first-row table r k i f s.more s.at

  next_row : drop (257 * suc r) table ≡ rows (suc r) i ++ (rows (suc r + nodes i) f ++ s.more)
  next_row = at_next table r k (entries (suc r) i) _ node_row (row-length k (suc r) i s.narrow.0.0)

  node_inner : RowsStand table (suc r) i (room - 1)
  node_inner = record {
    more = rows (suc r + nodes i) f ++ s.more;
    at = next_row;
    leaves = all_left (λ b. b ≤ 256) (frontier i) (frontier f) s.leaves;
    narrow = s.narrow.0.1;
    fits = omega (arith, s.fits, node_size k i f, inner_size k i);
    short = omega (arith, s.short, node_size k i f, inner_size k i);
  }

  node_rest : RowsStand table (suc r + nodes i) f (room - length (flat (node k i nil)))
  node_rest = record {
    more = s.more;
    at = rows_after table (suc r) i (rows (suc r + nodes i) f ++ s.more) s.narrow.0.1 next_row;
    leaves = all_right (λ b. b ≤ 256) (frontier i) (frontier f) s.leaves;
    narrow = s.narrow.1;
    fits = omega (arith, s.fits, node_size k i f);
    short = omega (arith, s.short, node_size k i f);
  }

  -- Its record: the kind, how many items, their places.
  pub kind_is : kind_of (get_or table (257 * r) 0) ≡ k
  unfolding spelled
  kind_is = ap kind_first (spelled_node table r k (entries (suc r) i) _ node_row 0 (spelled_items (spelled 0 table) (entries (suc r) i)) refl)
    where
      kind_first : Forest → Kind
      kind_first nil = P
      kind_first (leaf b g) = P
      kind_first (node c h g) = c

  count_is : get_or table (257 * r + 1) 0 ≡ length (entries (suc r) i)
  count_is = at_count table r k (entries (suc r) i) _ node_row

  pub node_record : (257 * r + 257 ≤ length table) × (get_or table (257 * r + 1) 0 ≤ 255) × (1 ≤ room) × (length (flat i) ≤ 511)
  node_record = (
    omega (arith, ap length node_row, length-drop (257 * r) table, length-append (row k (entries (suc r) i)) (rows (suc r) i ++ (rows (suc r + nodes i) f ++ s.more)), row-length k (suc r) i s.narrow.0.0),
    omega (arith, count_is, entries-length (suc r) i, s.narrow.0.0),
    omega (arith, s.fits, node_size k i f, inner_size k i),
    omega (arith, s.short, node_size k i f, inner_size k i),
  )

  pub node_places : PlacesStand table (take (257 * r + 2 + get_or table (257 * r + 1) 0 - (257 * r + 2)) (drop (257 * r + 2) table)) (suc r) i (room - 1)
  node_places = record {
    later = omega arith;
    are = part_is table (257 * r + 2) (get_or table (257 * r + 1) 0) ∙ ap (λ (n : ℕ). take n (drop (257 * r + 2) table)) count_is ∙ at_places table r k (entries (suc r) i) _ node_row;
    stand = node_inner;
  }

-- The first place is that of a leaf.
leaf_first : (table : List ℕ) (v : ℕ) (vs : List ℕ) (room r : ℕ) (f : Forest) → PlacesStand table (v ∷ vs) r f room → v ≤ 256
    → (1 ≤ room) × (g : Forest) × (f ≡ leaf v g) × PlacesStand table vs r g (room - 1)
leaf_first table v vs room r nil s h = absurd (omega (arith, ap length s.are))
leaf_first table v vs room r (leaf b g) s h =
    let p = leaf_rest s.stand in
    (p.0, g, ap (λ (x : ℕ). leaf x g) (sym (head-eq_of_cons-eq s.are)), record { later = s.later; are = tail-eq_of_cons-eq s.are; stand = p.1 })
leaf_first table v vs room r (node k i g) s h = absurd (omega (arith, head-eq_of_cons-eq s.are, s.later))

pub leaf_head : (table l : List ℕ) (j room : ℕ) {r : ℕ} {f : Forest} → j < length l → get_or l j 0 ≤ 256 → PlacesStand table (drop j l) r f room
    → (1 ≤ room) × (g : Forest) × (f ≡ leaf (get_or l j 0) g) × PlacesStand table (drop (j + 1) l) r g (room - 1)
leaf_head table l j room {r} {f} n h s =
    rw add-one (leaf_first table (get_or l j 0) (drop (suc j) l) room r f (subst (λ (x : List ℕ). PlacesStand table x r f room) (drop-cons l j 0 n) s) h)

-- The first place is that of a node, in the record that it tells.
pub record NodeFirst (table vs : List ℕ) (r : ℕ) (f : Forest) (room : ℕ) : Type 0 where
  pub kind : Kind
  pub inner : Forest
  pub after : Forest
  pub is : f ≡ node kind inner after
  pub here : RowsStand table r (node kind inner nil) room
  pub next : ℕ
  pub left : PlacesStand table vs next after (room - length (flat (node kind inner nil)))

node_first : (table : List ℕ) (v : ℕ) (vs : List ℕ) (room r : ℕ) (f : Forest) → PlacesStand table (v ∷ vs) r f room → 256 < v
    → NodeFirst table vs (v - 256) f room
node_first table v vs room r nil s h = absurd (omega (arith, ap length s.are))
node_first table v vs room r (leaf b g) s h = absurd (omega (arith, head-eq_of_cons-eq s.are, s.stand.leaves.0))
node_first table v vs room r (node k i g) s h =
    let n : r ≡ v - 256 = omega (arith, head-eq_of_cons-eq s.are) in
    record {
      kind = k;
      inner = i;
      after = g;
      is = refl;
      here = subst (λ (x : ℕ). RowsStand table x (node k i nil) room) n (node_alone s.stand);
      next = suc r + nodes i;
      left = record { later = omega arith; are = tail-eq_of_cons-eq s.are; stand = node_rest s.stand };
    }

pub node_head : (table l : List ℕ) (j room : ℕ) {r : ℕ} {f : Forest} → j < length l → 256 < get_or l j 0 → PlacesStand table (drop j l) r f room
    → NodeFirst table (drop (j + 1) l) (get_or l j 0 - 256) f room
node_head table l j room {r} {f} n h s =
    rw add-one (node_first table (get_or l j 0) (drop (suc j) l) room r f (subst (λ (x : List ℕ). PlacesStand table x r f room) (drop-cons l j 0 n) s) h)
