-- The reduced form of a node: its orders with the marked leaves contiguous are what reduced_node gives, as one item.
use mathlib.Core.Path.{◌∙◌, ◌≡◌, ap, ap₂, refl, subst, sym}
use mathlib.Core.Logic.Iff
use mathlib.Core.Logic.{◌↔◌, ◌⊎◌, inl, inr}
use mathlib.Core.Bool.{Bool, cond, false, not, true}
use mathlib.Core.Option.{Option, none, some}
use mathlib.Core.List.{List, [], ◌++◌, ◌∷◌, append_assoc, append-nil, reverse}
use Prim.Native.Nat.{◌≤◌}
use native.Mathlib.Omega.{arith}
use borrow.Author.Tests.{ltb-false}
use lib.Dec.{ltb}
use lib.ListN.{length}
use Rattle.spec_orders.specs.Lists.{All, here, Rearranged, next}
use Rattle.spec_orders.specs.CircularOrder.{Restriction, Outside}
use Rattle.spec_orders.specs.Tree.{Kind, P, C, Forest, nil, leaf, node, Item, leaf_item, node_item, items, frontier, Consistent}
use Rattle.spec_orders.specs.Reduce.{put, one, put_sorted, orient, pack, Class, empty, full, partial, is, Part, whole, only, ◌⊕◌, reversed, c_node, middle, gather, among, reduced_node, settled}
use Rattle.spec_orders.proofs.ListLaws.{all_left, all_right}
use Rattle.spec_orders.proofs.Rearranged.{perm_refl, perm_trans, perm_sym, perm_all, perm_left, pick_middle, perm_append, perm_swap, perm_length, pull_out}
use Rattle.spec_orders.specs.Layout.{Contiguous}
use Rattle.spec_orders.proofs.Contiguous.{L, Pure, con_out, con_end, con_rev, con_unrev}
use Rattle.spec_orders.proofs.First.{frontier_allowed}
use Rattle.spec_orders.proofs.Parts.{put_one}
use Rattle.spec_orders.proofs.PutSorted.{put_sorted_perm, put_sorted_consistent}
use Rattle.spec_orders.proofs.Gives.{Gives, ◌⊗◌, consistent_cons, node_C, gives_C, gives_pack}
use Rattle.spec_orders.proofs.Fits.{Of, Single-item, pure, Fit, of_pure, middle_ok}
use Rattle.spec_orders.proofs.Classes.{P-to, P-from, whole_consistent, only_of, keep_only, only_all, only_none, only-append, only_perm, parted}
use Rattle.spec_orders.proofs.Reading.{whole_split, read_con}
use Rattle.spec_orders.proofs.Gather.{Arranged, gather_ok}

module _ (S : Restriction) where
  -- The empty items, and the others, of a P-node's items in some sequence.
  abbrev Around : List Part → L → Type 0
  Around ps xs = (ls : List Part) × (cs : List Part) × Rearranged (only empty ps) (ls ++ cs) × (Consistent (whole ls) ⊗ (Arranged S (only partial ps ++ only full ps) ⊗ Consistent (whole cs))) xs

  around_to : (ps : List Part) → All (Fit S) ps → (xs : L) → Consistent (node P (whole ps) nil) xs → Contiguous S xs → Around ps xs
  around_to ps f xs s c =
      let a = P-from ps s in
      let r = read_con S a.0 (perm_all (Fit S) a.1 f) xs a.2 c in
      let o = r.orders in
      let v = o.4 in
      let only-these : (c : Class) → only c a.0 ≡ only c r.ls ++ (only c r.bs ++ only c r.cs) = λ c. ap (only c) r.is_these ∙ only-append c r.ls (r.bs ++ r.cs) ∙ ap (λ l. only c r.ls ++ l) (only-append c r.bs r.cs) in
      let in-bs : (c : Class) → is c empty ≡ false → only c a.0 ≡ only c r.bs = λ c n. only-these c ∙ ap₂ ◌++◌ (only_none c empty n r.ls r.all_a) (ap (λ l. only c r.bs ++ l) (only_none c empty n r.cs r.all_c) ∙ append-nil (only c r.bs)) in
      let pe : Rearranged (only empty ps) (r.ls ++ r.cs) =
      subst (Rearranged (only empty ps)) (only-these empty ∙ ap₂ ◌++◌ (only_all empty r.ls r.all_a) (ap₂ ◌++◌ r.none_b (only_all empty r.cs r.all_c))) (only_perm empty a.1) in
      let pb : Rearranged (only partial ps ++ only full ps) (only empty r.bs ++ (only partial r.bs ++ only full r.bs)) =
      subst (λ l. Rearranged (only partial ps ++ only full ps) (l ++ (only partial r.bs ++ only full r.bs))) (sym r.none_b)
      (perm_append (subst (Rearranged (only partial ps)) (in-bs partial refl) (only_perm partial a.1)) (subst (Rearranged (only full ps)) (in-bs full refl) (only_perm full a.1))) in
      (r.ls, r.cs, pe, (o.0, o.1, o.2, o.3, (v.0, v.1, v.2, (r.bs, perm_trans pb (perm_sym (parted r.bs)), v.3.0, v.3.1), v.4)))

  around_from : (ps : List Part) → All (Fit S) ps → (xs : L) → Around ps xs → Consistent (node P (whole ps) nil) xs × Contiguous S xs
  around_from ps f xs r =
      let ls = r.0 in
      let cs = r.1 in
      let o = r.3 in
      let v = o.4 in
      let bs = v.3.0 in
      let fe : All (Fit S) (ls ++ cs) = perm_all (Fit S) r.2 (keep_only (Fit S) empty ps f) in
      let he : Of empty (ls ++ cs) = perm_all _ r.2 (only_of empty ps) in
      let X = only partial ps ++ only full ps in
      let p1 : Rearranged (only empty ps ++ X) ((ls ++ cs) ++ bs) = perm_append r.2 v.3.1 in
      let p2 : Rearranged ((ls ++ cs) ++ bs) (ls ++ (bs ++ cs)) = subst (λ l. Rearranged l (ls ++ (bs ++ cs))) (sym (append_assoc ls cs bs)) (perm_left ls (perm_swap cs bs)) in (
        P-to (perm_trans (parted ps) (perm_trans p1 p2)) (subst (Consistent (whole (ls ++ (bs ++ cs)))) (sym (o.2 ∙ ap (◌++◌ o.0) v.2)) (whole_consistent ls (bs ++ cs) o.3 (whole_consistent bs cs v.3.2 v.4))),
        con_out S o.0 o.1 o.2 (of_pure S false ls (all_left _ ls cs fe) (all_left _ ls cs he) o.0 o.3)
            (con_end S v.0 v.1 v.2 v.3.3 (of_pure S false cs (all_right _ ls cs fe) (all_right _ ls cs he) v.1 v.4)),
      )

  -- The block as one item, put among the empty ones.
  among_to : (ps : List Part) (n : Part) → ((y : L) → Consistent (one n.item) y ↔ Arranged S (only partial ps ++ only full ps) y) → (xs : L) → Consistent (node P (whole (n ∷ only empty ps)) nil) xs → Around ps xs
  among_to ps n h xs s =
      let a = P-from (n ∷ only empty ps) s in
      let b = pull_out a.1 in
      let r = whole_split b.0 (n ∷ b.1) xs (subst (λ l. Consistent (whole l) xs) b.2 a.2) in
      let v = (consistent_cons n.item (whole b.1) r.1).0 r.4 in
      (b.0, b.1, b.3, (r.0, r.1, r.2, r.3, (v.0, v.1, v.2, (h v.0).0 v.3, v.4)))

  among_from : (ps : List Part) (n : Part) → ((y : L) → Consistent (one n.item) y ↔ Arranged S (only partial ps ++ only full ps) y) → (xs : L) → Around ps xs → Consistent (node P (whole (n ∷ only empty ps)) nil) xs
  among_from ps n h xs r =
      let ls = r.0 in
      let cs = r.1 in
      let o = r.3 in
      let v = o.4 in
      P-to {qs = ls ++ (n ∷ cs)} (perm_trans (next here r.2) (perm_sym (next (pick_middle ls n cs) (perm_refl (ls ++ cs)))))
      (subst (Consistent (whole (ls ++ (n ∷ cs)))) (sym o.2) (whole_consistent ls (n ∷ cs) o.3 ((consistent_cons n.item (whole cs) o.1).1 (v.0, v.1, v.2, (h v.0).1 v.3, v.4))))

-- One item.
pub pack_single : (f : Forest) → 1 ≤ length (items f) → (t : Item) × (pack f ≡ one t)
pack_single f n = go (ltb 1 (length (items f))) refl
  where
    single : (f : Forest) → 1 ≤ length (items f) → length (items f) ≤ 1 → (t : Item) × (f ≡ one t)
    single nil n l = absurd (omega arith)
    single (leaf b nil) n l = (leaf_item b, refl)
    single (node k i nil) n l = (node_item k i, refl)
    single (leaf b (leaf c f)) n l = absurd (omega arith)
    single (leaf b (node k i f)) n l = absurd (omega arith)
    single (node k i (leaf c f)) n l = absurd (omega arith)
    single (node k i (node l' j f)) n l = absurd (omega arith)

    go : (b : Bool) → ltb 1 (length (items f)) ≡ b → (t : Item) × (cond b (node P f nil) f ≡ one t)
    go true q = (node_item P f, refl)
    go false q = single f n (ltb-false 1 (length (items f)) q)

single_C : (o : Option Forest) → Single-item (c_node o)
single_C (some f) = (node_item C (orient f), refl)
single_C none = tt

put-length : (t : Item) (f : Forest) → 1 ≤ length (items (put t f))
put-length (leaf_item b) f = omega arith
put-length (node_item k i) f = omega arith

module _ (S : Restriction) where
  pub single_gather : (M G : List Part) → All (Fit S) M → 1 ≤ length (M ++ G) → Single-item (gather M G)
  single_gather [] [] f n = absurd (omega arith)
  single_gather [] (g ∷ G) f n = pack_single (whole (g ∷ G)) (put-length g.item (whole G))
  single_gather (m ∷ []) [] f n = f.0.single
  single_gather (m ∷ []) (g ∷ G) f n = single_C (some (pack (whole (g ∷ G))) ⊕ reversed m.linear)
  single_gather (m ∷ (m' ∷ [])) G f n = single_C (m.linear ⊕ (some (pack (whole G)) ⊕ reversed m'.linear))
  single_gather (m ∷ (m' ∷ (o ∷ M))) G f n = tt

  -- Not all leaves are of kind b: so not all items are.
  pub some_other : (b : Bool) (ps : List Part) → All (Fit S) ps → (Pure S b (frontier (whole ps)) → ⊥) → 1 ≤ length (only partial ps ++ only (pure (not b)) ps)
  some_other b ps f u = go (only partial ps ++ only (pure (not b)) ps) refl
    where
      E : List Part
      E = only empty ps

      M : List Part
      M = only partial ps

      F : List Part
      F = only full ps

      all_b : (b : Bool) → M ++ only (pure (not b)) ps ≡ [] → Rearranged ps (only (pure b) ps)
      all_b false e = subst (Rearranged ps) (ap (λ l. E ++ l) e ∙ append-nil E) (parted ps)
      all_b true e = subst (λ l. Rearranged ps (l ++ F)) e (perm_trans (parted ps) (subst (λ l. Rearranged l ((M ++ E) ++ F)) (append_assoc E M F) (perm_append (perm_swap E M) (perm_refl F))))

      go : (X : List Part) → M ++ only (pure (not b)) ps ≡ X → 1 ≤ length X
      go [] e = absurd (u (of_pure S b ps f (perm_all _ (perm_sym (all_b b e)) (only_of (pure b) ps)) (frontier (whole ps)) (frontier_allowed (whole ps))))
      go (x ∷ X) e = omega arith

  put_sorted_single : (u : Item) (e : Forest) → (t : Item) × (pack (put_sorted (one u) e) ≡ one t)
  put_sorted_single u e = pack_single (put_sorted (one u) e) (omega (arith, perm_length (put_sorted_perm (one u) e), subst (λ g. 1 ≤ length (items g)) (sym (put_one u e)) (put-length u e)))

  reduced_P : (ps : List Part) → All (Fit S) ps → (Outside S (frontier (whole ps)) → ⊥)
      → ((xs : L) → Gives (reduced_node P ps) xs ↔ (Consistent (node P (whole ps) nil) xs × Contiguous S xs)) × Single-item (reduced_node P ps)
  reduced_P ps f u = go (gather (only partial ps) (only full ps))
      (gather_ok S (only partial ps) (only full ps) (keep_only (Fit S) partial ps f) (keep_only (Fit S) full ps f) (only_of partial ps) (only_of full ps))
      (single_gather (only partial ps) (only full ps) (keep_only (Fit S) partial ps f) (some_other false ps f u))
    where
      E : Forest
      E = whole (only empty ps)

      go : (o : Option Forest) → ((y : L) → Gives o y ↔ Arranged S (only partial ps ++ only full ps) y) → Single-item o
          → ((xs : L) → Gives (among E o) xs ↔ (Consistent (node P (whole ps) nil) xs × Contiguous S xs)) × Single-item (among E o)
      go none h l = ((λ xs. ((λ g. absurd g), (λ r. let v = (around_to S ps f xs r.0 r.1).3.4 in (h v.0).1 v.3))), tt)
      go (some t) h (w, e) =
          let h' : (y : L) → Consistent (one w) y ↔ Arranged S (only partial ps ++ only full ps) y = subst (λ g. (y : L) → Consistent g y ↔ Arranged S (only partial ps ++ only full ps) y) e h in (
            (λ xs. subst (λ g. Consistent (pack (put_sorted g E)) xs ↔ (Consistent (node P (whole ps) nil) xs × Contiguous S xs)) (sym e)
                (Iff.trans (gives_pack (put_sorted (one w) E) xs) (Iff.trans (put_sorted_consistent (one w) E nil xs)
                (subst (λ g. Consistent (node P g nil) xs ↔ (Consistent (node P (whole ps) nil) xs × Contiguous S xs)) (sym (put_one w E))
                ((λ s. around_from S ps f xs (among_to S ps (settled partial w) h' xs s)), (λ r. among_from S ps (settled partial w) h' xs (around_to S ps f xs r.0 r.1))))))),
            subst (λ g. (t : Item) × (pack (put_sorted g E) ≡ one t)) (sym e) (put_sorted_single w E),
          )

  reduced_C : (ps : List Part) → All (Fit S) ps → (xs : L) → Gives (reduced_node C ps) xs ↔ (Consistent (node C (whole ps) nil) xs × Contiguous S xs)
  reduced_C ps f xs = Iff.trans (gives_C (middle ps) Q (middle_ok S ps f) xs) (to, (λ r. from ((node_C (whole ps) xs).0 r.0) r.1))
    where
      Q : L → Type 0
      Q z = Consistent (whole ps) z × Contiguous S z

      to : Q xs ⊎ Q (reverse xs) → Consistent (node C (whole ps) nil) xs × Contiguous S xs
      to (inl r) = ((node_C (whole ps) xs).1 (inl r.0), r.1)
      to (inr r) = ((node_C (whole ps) xs).1 (inr r.0), con_unrev S xs r.1)

      from : Consistent (whole ps) xs ⊎ Consistent (whole ps) (reverse xs) → Contiguous S xs → Q xs ⊎ Q (reverse xs)
      from (inl s) c = inl (s, c)
      from (inr s) c = inr (s, con_rev S xs c)

  pub reduced_node_ok : (k : Kind) (ps : List Part) → All (Fit S) ps → (Outside S (frontier (whole ps)) → ⊥)
      → ((xs : L) → Gives (reduced_node k ps) xs ↔ (Consistent (node k (whole ps) nil) xs × Contiguous S xs)) × Single-item (reduced_node k ps)
  reduced_node_ok P ps f u = reduced_P ps f u
  reduced_node_ok C ps f u = (reduced_C ps f, single_C (middle ps))
