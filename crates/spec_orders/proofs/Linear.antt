-- The linear form of a node: its orders with the marked leaves last are what linear_node gives.
use mathlib.Core.Path.{◌∙◌, ◌≡◌, ap, subst, sym}
use mathlib.Core.Logic.Iff
use mathlib.Core.Logic.{◌↔◌, ◌⊎◌, inl, inr}
use mathlib.Core.Bool.{false, true}
use mathlib.Core.Option.{Option, none, some}
use mathlib.Core.List.{List, [], ◌++◌, ◌∷◌, reverse, reverse-reverse}
use Prim.Native.Nat.{◌≤◌, ℕ}
use native.Mathlib.Omega.{arith}
use lib.ListN.{length}
use Rattle.spec_orders.specs.Lists.{All, Rearranged}
use Rattle.spec_orders.specs.CircularOrder.{Restriction, Inside, Outside}
use Rattle.spec_orders.specs.Tree.{Kind, P, C, Forest, nil, node, Item, rev, frontier, Consistent}
use Rattle.spec_orders.specs.Reduce.{put, one, pack, empty, full, partial, Part, whole, only, ◌⊕◌, or_else, up, linear_partial, linear_node}
use Rattle.spec_orders.proofs.ListLaws.{all_append}
use Rattle.spec_orders.proofs.Rearranged.{perm_refl, perm_trans, perm_sym, perm_all, perm_append, perm_length, short_perm}
use Rattle.spec_orders.proofs.Members.{NonEmpty, nonempty_left}
use Rattle.spec_orders.proofs.Contiguous.{L, Late, Early, sided_cut, sided_before, sided_after, sided_rev}
use Rattle.spec_orders.proofs.Laws.{leaves_of, consistent_perm}
use Rattle.spec_orders.proofs.First.{frontier_allowed}
use Rattle.spec_orders.proofs.Parts.{frontier-put}
use Rattle.spec_orders.proofs.Mirror.{consistent_mirror, consistent_unmirror}
use Rattle.spec_orders.proofs.Gives.{Gives, ◌⊗◌, gives_⊕, consistent_cons, node_C}
use Rattle.spec_orders.proofs.Fits.{whole-reverse, mark_nonempty, not_both, Fit, of_order, of_pure, up_ok, fits_reverse}
use Rattle.spec_orders.proofs.Classes.{P-to, P-from, pack_to, pack_from, whole_consistent, only_of, keep_only, only_perm, parted}
use Rattle.spec_orders.proofs.Reading.{one_at_most, partial_ok, read, only_read}

module _ (S : Restriction) where
  linear_P : (ps : List Part) → All (Fit S) ps → (xs : L) → Gives (linear_node P ps) xs ↔ (Consistent (node P (whole ps) nil) xs × Late S xs)
  linear_P ps f xs = Iff.trans (gives_⊕ (some (pack (whole E))) (linear_partial M ⊕ some (pack (whole F))) (Consistent (pack (whole E))) (Gives (linear_partial M) ⊗ Consistent (pack (whole F))) (λ z. Iff.rfl)
      (gives_⊕ (linear_partial M) (some (pack (whole F))) (Gives (linear_partial M)) (Consistent (pack (whole F))) (λ z. Iff.rfl) (λ z. Iff.rfl)) xs) (to, from)
    where
      E : List Part
      E = only empty ps

      M : List Part
      M = only partial ps

      F : List Part
      F = only full ps

      to : (Consistent (pack (whole E)) ⊗ (Gives (linear_partial M) ⊗ Consistent (pack (whole F)))) xs → Consistent (node P (whole ps) nil) xs × Late S xs
      to r =
          let k = r.4 in
          let a = pack_from E r.3 in
          let b = pack_from F k.4 in
          let m = (partial_ok S M (keep_only (Fit S) partial ps f) (one_at_most M k.0 k.3) k.0).0 k.3 in
          let x-out : Outside S r.0 = of_pure S false a.0 (perm_all (Fit S) a.1 (keep_only (Fit S) empty ps f)) (perm_all _ a.1 (only_of empty ps)) r.0 a.2 in
          let z-in : Inside S k.1 = of_pure S true b.0 (perm_all (Fit S) b.1 (keep_only (Fit S) full ps f)) (perm_all _ b.1 (only_of full ps)) k.1 b.2 in (
            P-to {qs = a.0 ++ (M ++ b.0)} (perm_trans (parted ps) (perm_append a.1 (perm_append (perm_refl M) b.1)))
                (subst (Consistent (whole (a.0 ++ (M ++ b.0)))) (sym (r.2 ∙ ap (◌++◌ r.0) k.2)) (whole_consistent a.0 (M ++ b.0) a.2 (whole_consistent M b.0 m.0 b.2))),
            sided_before S false true r.0 r.1 r.2 x-out (sided_after S false true k.0 k.1 k.2 m.1 z-in),
          )

      from : Consistent (node P (whole ps) nil) xs × Late S xs → (Consistent (pack (whole E)) ⊗ (Gives (linear_partial M) ⊗ Consistent (pack (whole F)))) xs
      from s =
          let a = P-from ps s.0 in
          let r = read S false a.0 (perm_all (Fit S) a.1 f) xs a.2 s.1 in
          let o = only_read S false r in
          let k = r.orders in
          let n = k.4 in
          let pm : Rearranged M r.ms = subst (Rearranged M) o.1 (only_perm partial a.1) in
          let em : r.ms ≡ M = short_perm pm (omega (arith, r.one_m, perm_length pm)) in (
            k.0,
            k.1,
            k.2,
            pack_to (subst (Rearranged E) o.0 (only_perm empty a.1)) k.3,
            (n.0, n.1, n.2, subst (λ l. Gives (linear_partial l) n.0) em ((partial_ok S r.ms r.fit_m r.one_m n.0).1 n.3), pack_to (subst (Rearranged F) o.2 (only_perm full a.1)) n.4),
          )

  -- A C-node has no order with the marked leaves last and one with them first, unless they are all its leaves, or none.
  consistent_of : (Q : ℕ → Type 0) {f : Forest} {ys : L} → Consistent f ys → All Q ys → All Q (frontier f)
  consistent_of Q s h = perm_all Q (perm_sym (consistent_perm s)) h

  one_way : (t : Item) (f : Forest) → NonEmpty (leaves_of t) → NonEmpty (frontier f) → (Outside S (frontier (put t f)) → ⊥) → (Inside S (frontier (put t f)) → ⊥)
      → {v w : L} → Consistent (put t f) v → Late S v → Consistent (put t f) w → Early S w → ⊥
  one_way t f ht hf nf ni {v} {w} a h b k = go (sided_cut S false true i.0 i.1 i.2 h) (sided_cut S true false j.0 j.1 j.2 k)
    where
      i : (Consistent (one t) ⊗ Consistent f) v
      i = (consistent_cons t f v).0 a

      j : (Consistent (one t) ⊗ Consistent f) w
      j = (consistent_cons t f w).0 b

      all : (Q : ℕ → Type 0) → All Q (leaves_of t) → All Q (frontier f) → All Q (frontier (put t f))
      all Q x y = subst (All Q) (sym (frontier-put t f)) (all_append Q (leaves_of t) (frontier f) x y)

      go : (Outside S i.0 × Late S i.1) ⊎ (Late S i.0 × Inside S i.1) → (Inside S j.0 × Early S j.1) ⊎ (Early S j.0 × Outside S j.1) → ⊥
      go (inl x) (inl y) = not_both S (leaves_of t) ht (of_order S _ t i.3 x.0) (of_order S _ t j.3 y.0)
      go (inl x) (inr y) = nf (all _ (of_order S _ t i.3 x.0) (consistent_of _ j.4 y.1))
      go (inr x) (inl y) = ni (all _ (of_order S _ t j.3 y.0) (consistent_of _ i.4 x.1))
      go (inr x) (inr y) = not_both S (frontier f) hf (consistent_of _ j.4 y.1) (consistent_of _ i.4 x.1)

  linear_C : (t : Item) (f : Forest) (o r : Option Forest) → NonEmpty (leaves_of t) → NonEmpty (frontier f) → (Outside S (frontier (put t f)) → ⊥) → (Inside S (frontier (put t f)) → ⊥)
      → ((xs : L) → Gives o xs ↔ (Consistent (put t f) xs × Late S xs)) → ((xs : L) → Gives r xs ↔ (Consistent (rev (put t f)) xs × Late S xs))
      → (xs : L) → Gives (or_else o r) xs ↔ (Consistent (node C (put t f) nil) xs × Late S xs)
  linear_C t f (some g) r ht hf nf ni h k xs = ((λ s. let a = (h xs).0 s in ((node_C (put t f) xs).1 (inl a.0), a.1)), (λ s. from ((node_C (put t f) xs).0 s.0) s.1))
    where
      from : Consistent (put t f) xs ⊎ Consistent (put t f) (reverse xs) → Late S xs → Consistent g xs
      from (inl s) l = (h xs).1 (s, l)
      from (inr s) l = let a = (h (frontier g)).0 (frontier_allowed g) in absurd (one_way t f ht hf nf ni a.0 a.1 s (sided_rev S false true xs l))
  linear_C t f none r ht hf nf ni h k xs =
      ((λ s. let a = (k xs).0 s in ((node_C (put t f) xs).1 (inr (consistent_unmirror (put t f) xs a.0)), a.1)), (λ s. (k xs).1 (from ((node_C (put t f) xs).0 s.0) s.1, s.1)))
    where
      from : Consistent (put t f) xs ⊎ Consistent (put t f) (reverse xs) → Late S xs → Consistent (rev (put t f)) xs
      from (inl s) l = absurd ((h xs).1 (s, l))
      from (inr s) l = subst (Consistent (rev (put t f))) (reverse-reverse xs) (consistent_mirror s)

  pub linear_node_ok : (k : Kind) (ps : List Part) → 2 ≤ length ps → All (Fit S) ps → (Outside S (frontier (whole ps)) → ⊥) → (Inside S (frontier (whole ps)) → ⊥)
      → (xs : L) → Gives (linear_node k ps) xs ↔ (Consistent (node k (whole ps) nil) xs × Late S xs)
  linear_node_ok P ps n f nf ni xs = linear_P ps f xs
  linear_node_ok C [] n f nf ni xs = absurd (omega arith)
  linear_node_ok C (p ∷ []) n f nf ni xs = absurd (omega arith)
  linear_node_ok C (p ∷ (q ∷ ps)) n f nf ni xs =
      linear_C p.item (whole (q ∷ ps)) (up (p ∷ (q ∷ ps))) (up (reverse (p ∷ (q ∷ ps)))) (mark_nonempty S p.sort (leaves_of p.item) f.0.marked) rest nf ni (up_ok S (p ∷ (q ∷ ps)) f)
      (λ z. subst (λ g. Gives (up (reverse (p ∷ (q ∷ ps)))) z ↔ (Consistent g z × Late S z)) (whole-reverse (p ∷ (q ∷ ps))) (up_ok S (reverse (p ∷ (q ∷ ps))) (fits_reverse S (p ∷ (q ∷ ps)) f) z)) xs
    where
      rest : NonEmpty (frontier (whole (q ∷ ps)))
      rest = subst NonEmpty (sym (frontier-put q.item (whole ps))) (nonempty_left (leaves_of q.item) (frontier (whole ps)) (mark_nonempty S q.sort (leaves_of q.item) f.1.0.marked))
