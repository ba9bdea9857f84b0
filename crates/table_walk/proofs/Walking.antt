-- The steps of a walk, and what each writes.
use mathlib.Core.Path.{◌≡◌, refl, ap, ◌∙◌, subst}
use mathlib.Core.List.{List, [], ◌∷◌}
use Prim.Native.Nat.{ℕ, suc, ◌+◌, ◌-◌, ◌*◌, ◌≤◌, ◌<◌}
use native.Mathlib.Omega.{arith}
use borrow.Rule.Slice.PartMut.{put_mid}
use lib.ListN.{length, take, drop, get_or, set, length-drop, drop_of_length-le}
use Rattle.spec_orders.specs.Tree.{Kind, Forest, nil, leaf, node}
use Rattle.spec_orders.proofs.ListLaws.{part_to_end}
use Rattle.spec_calls.specs.NodeTable.{entries, kind_of}
use Rattle.tree_tokens.specs.Tokens.{E, plain, leaf_token, node_token, encode, Wrote, flat}
use Rattle.tree_tokens.proofs.Laws.{encode_node}
use Rattle.tree_tokens.proofs.Writes.{wrote_head, Written, written_end, written_same, written_one, written_then}
use Rattle.table_walk.specs.Walks.{RowsStand, PlacesStand, NodeThere, NodeWritten, ItemsWritten}
use Rattle.table_walk.proofs.Standing.{node_flat, kind_is, node_record, node_places, leaf_head, NodeFirst, node_head}

-- A part that goes to the end.
pub part_length : (l : List ℕ) (k : ℕ) → length (take (length l - k) (drop k l)) ≡ length l - k
part_length l k = ap length (part_to_end l k) ∙ length-drop k l

-- The items of a node after the first place, and then its token there.
module _ (table : List ℕ) (r : ℕ) (old : List ℕ) where
  abbrev inside : List ℕ
  inside = take (length old - 1) (drop 1 old)

  abbrev places : List ℕ
  places = take (257 * r + 2 + get_or table (257 * r + 1) 0 - (257 * r + 2)) (drop (257 * r + 2) table)

  pub inner_there : {k : Kind} {i : Forest} → RowsStand table r (node k i nil) (length old) → PlacesStand table places (suc r) i (length inside)
  inner_there s = rw (part_length old 1) (node_places s)

  pub walk_node_written : {part : List ℕ} {m h : ℕ} → ItemsWritten table places inside part m → h ≡ node_token E (kind_of (get_or table (257 * r) 0)) m
      → NodeWritten table r old (set (put_mid 1 (length old - 1) old part) 0 h) (1 + m)
  walk_node_written {part} {m} {h} w e k i s =
      let u = w _ i (inner_there s) in
      let tok : h ≡ node_token E k (length (flat i)) = e ∙ ap (λ (x : Kind). node_token E x m) (kind_is s) ∙ ap (node_token E k) u.many in
      rw (encode_node E k (plain i), ← tok) (wrote_head h old (node_record s).2 u)

-- A node has no more tokens than there is room for.
pub node_fits : {table old new : List ℕ} {r m : ℕ} → NodeThere table r (length old) → NodeWritten table r old new m → m ≤ length old
node_fits t w = omega (arith, (w t.0 t.1 t.2).many, t.2.fits)

-- ---- the places, one after the other

-- Of the tokens of f, k were written; those left are those of a sequence whose places are those from place j on.
pub record Walking (table places : List ℕ) (f : Forest) (old new : List ℕ) (k j : ℕ) : Type 0 where
  pub next : ℕ
  pub rest : Forest
  pub written : Written (flat f) (flat rest) old new k
  pub left : PlacesStand table (drop j places) next rest (length old - k)

none_left : (r : ℕ) (f : Forest) → [] ≡ entries r f → flat f ≡ []
unfolding encode
none_left r nil e = refl
none_left r (leaf b f) e = absurd (omega (arith, ap length e))
none_left r (node k i f) e = absurd (omega (arith, ap length e))

module _ {table places old new : List ℕ} {f : Forest} {k j : ℕ} (g : Walking table places f old new k j) where
  pub walking_end : length places ≤ j → Wrote (flat f) old new k
  walking_end n =
      let e : [] ≡ entries g.next g.rest = rw (← drop_of_length-le places n) g.left.are in
      written_end (written_same [] (none_left g.next g.rest e) g.written)

  -- A leaf.
  module _ (n : j < length places) (h : get_or places j 0 ≤ 256) where
    pub leaf_room : k < length old
    leaf_room = omega (arith, (leaf_head table places j (length old - k) n h g.left).0)

    pub walking_leaf : Walking table places f old (set new k (16 * get_or places j 0)) (k + 1) (j + 1)
    unfolding encode leaf_token
    walking_leaf =
        let v = get_or places j 0 in
        let p = leaf_head table places j (length old - k) n h g.left in
        let t : 16 * v + 0 ≡ 16 * v = omega arith in
        let m : length old - (k + 1) ≡ length old - k - 1 = omega arith in
        record {
          next = g.next;
          rest = p.1;
          written = written_one (16 * v) (flat p.1) leaf_room (ap (λ (x : Forest). flat x) p.2 ∙ ap (λ (x : ℕ). x ∷ flat p.1) t) g.written;
          left = rw m p.3;
        }

  -- A node: it stands in its record, and then its tokens were written.
  module _ (n : j < length places) (h : 256 < get_or places j 0) (same : length new ≡ length old) where
    here : NodeFirst table (drop (j + 1) places) (get_or places j 0 - 256) g.rest (length old - k)
    here = node_head table places j (length old - k) n h g.left

    stands : RowsStand table (get_or places j 0 - 256) (node here.kind here.inner nil) (length (take (length new - k) (drop k new)))
    stands = rw (part_length new k, same) here.here

    pub node_there : NodeThere table (get_or places j 0 - 256) (length (take (length new - k) (drop k new)))
    node_there = (here.kind, here.inner, stands)

    pub walking_node : {part : List ℕ} {m : ℕ} → NodeWritten table (get_or places j 0 - 256) (take (length new - k) (drop k new)) part m
        → Walking table places f old (put_mid k (length new - k) new part) (k + m) (j + 1)
    walking_node {part} {m} w =
        let u = w here.kind here.inner stands in
        let z : length old - k - length (flat (node here.kind here.inner nil)) ≡ length old - (k + m) = omega (arith, u.many) in
        record {
          next = here.next;
          rest = here.after;
          written = written_then (flat here.after) (ap (λ (x : Forest). flat x) here.is ∙ node_flat here.kind here.inner here.after) u g.written;
          left = subst (PlacesStand table (drop (j + 1) places) here.next here.after) z here.left;
        }
