-- The full and partial items of a P-node as one item: gather gives their orders with the marked leaves contiguous.
use mathlib.Core.Path.{◌∙◌, ◌≡◌, ap, ap₂, refl, subst, sym}
use mathlib.Core.Logic.Iff
use mathlib.Core.Logic.{◌↔◌, ◌⊎◌, inl, inr}
use mathlib.Core.Bool.{Bool, cond, false, true, true≢false}
use mathlib.Core.Option.{some}
use mathlib.Core.List.{List, [], ◌++◌, ◌∷◌, append_assoc, append-nil, reverse, reverse-append, reverse-reverse}
use Prim.Native.Nat.{◌≤◌}
use native.Mathlib.Omega.{arith}
use lib.ListN.{length}
use Rattle.spec_orders.specs.Lists.{All, here, Rearranged, next}
use Rattle.spec_orders.specs.CircularOrder.{Restriction, Inside}
use Rattle.spec_orders.specs.Tree.{Consistent}
use Rattle.spec_orders.specs.Reduce.{one, pack, Class, empty, full, partial, is, Part, whole, only, ◌⊕◌, reversed, c_node, gather}
use Rattle.spec_orders.proofs.ListLaws.{all_append}
use Rattle.spec_orders.proofs.Rearranged.{perm_refl, perm_trans, perm_all, perm_append, perm_swap, perm_length, two_picks, nil_perm, short_perm}
use Rattle.spec_orders.proofs.Members.{NonEmpty, perm_reverse}
use Rattle.spec_orders.specs.Layout.{Contiguous}
use Rattle.spec_orders.proofs.Contiguous.{L, Early, sided_before, sided_unrev, Contiguous-cut, con_cut, con_late, early_con, in_con, con_unrev}
use Rattle.spec_orders.proofs.Laws.{leaves_of}
use Rattle.spec_orders.proofs.Gives.{Gives, ◌⊗◌, gives_⊕, gives_rev, consistent_cons, gives_C}
use Rattle.spec_orders.proofs.Fits.{nil_order, Mark, Of, Fit, of_order, of_pure, pure_of}
use Rattle.spec_orders.proofs.Classes.{pack_to, pack_from, whole_consistent, only_all, only_none, only-append, only_perm}
use Rattle.spec_orders.proofs.Reading.{one_unmirror, whole_mirror, Gives-back, one_at_most, partial_back, Read, read, only_read}

module _ (S : Restriction) where
  -- The items in some sequence, with the marked leaves contiguous.
  abbrev pub Arranged : List Part → L → Type 0
  Arranged X y = (bs : List Part) × Rearranged X bs × Consistent (whole bs) y × Contiguous S y

  arr_mirror : (X : List Part) (y : L) → Arranged X (reverse y) → Arranged X y
  arr_mirror X y r = (reverse r.0, perm_trans r.1 (perm_reverse r.0), subst (Consistent (whole (reverse r.0))) (reverse-reverse y) (whole_mirror r.0 r.2), con_unrev S y r.3)

  -- Two items or more, none empty: full ones with at most one partial item at the end; or a partial item, and then the same.
  abbrev Ended : List Part → List Part → List Part → L → Type 0
  Ended M0 G0 [] y = ⊥
  Ended M0 G0 (p ∷ M) y = (G : List Part) × Rearranged G0 G × (Gives p.linear ⊗ (Consistent (whole G) ⊗ Gives-back M)) y

  abbrev Pattern : List Part → List Part → L → Type 0
  Pattern M0 G0 y = ((M : List Part) × (G : List Part) × Rearranged M0 M × Rearranged G0 G × (Consistent (whole G) ⊗ Gives-back M) y) ⊎ ((M : List Part) × Rearranged M0 M × Ended M0 G0 M y)

  some_head : (p : Part) (ps : List Part) → only empty (p ∷ ps) ≡ [] → (is empty p.sort ≡ false) × (only empty ps ≡ [])
  some_head p ps e = go (is empty p.sort) refl e
    where
      go : (b : Bool) → is empty p.sort ≡ b → cond b (p ∷ only empty ps) (only empty ps) ≡ [] → (is empty p.sort ≡ false) × (only empty ps ≡ [])
      go true q e = absurd (subst NonEmpty e tt)
      go false q e = (q, e)

  pattern : (M0 G0 : List Part) → Of partial M0 → Of full G0 → (p q : Part) (bs : List Part) → All (Fit S) (p ∷ (q ∷ bs)) → Rearranged (M0 ++ G0) (p ∷ (q ∷ bs)) → (y : L) → Consistent (whole (p ∷ (q ∷ bs))) y → Contiguous S y → Pattern M0 G0 y
  pattern M0 G0 hm hg p q bs f pm y s c = go p.sort refl f.0.marked (con_cut S k.0 k.1 k.2 c)
    where
      k : (Consistent (one p.item) ⊗ Consistent (whole (q ∷ bs))) y
      k = (consistent_cons p.item (whole (q ∷ bs)) y).0 s

      none_e : only empty (p ∷ (q ∷ bs)) ≡ []
      none_e = nil_perm (subst (λ l. Rearranged l (only empty (p ∷ (q ∷ bs)))) (only-append empty M0 G0 ∙ ap₂ ◌++◌ (only_none empty partial refl M0 hm) (only_none empty full refl G0 hg)) (only_perm empty pm))

      here_some : is empty p.sort ≡ false
      here_some = (some_head p (q ∷ bs) none_e).0

      rest_some : only empty (q ∷ bs) ≡ []
      rest_some = (some_head p (q ∷ bs) none_e).1

      perm_m : Rearranged M0 (only partial (p ∷ (q ∷ bs)))
      perm_m = subst (λ l. Rearranged l (only partial (p ∷ (q ∷ bs)))) (only-append partial M0 G0 ∙ ap₂ ◌++◌ (only_all partial M0 hm) (only_none partial full refl G0 hg) ∙ append-nil M0) (only_perm partial pm)

      perm_g : Rearranged G0 (only full (p ∷ (q ∷ bs)))
      perm_g = subst (λ l. Rearranged l (only full (p ∷ (q ∷ bs)))) (only-append full M0 G0 ∙ ap₂ ◌++◌ (only_none full partial refl M0 hm) (only_all full G0 hg)) (only_perm full pm)

      fall : Early S k.1 → Read S true (q ∷ bs) k.1
      fall h = read S true (q ∷ bs) f.1 k.1 k.4 h

      last : (r : Read S true (q ∷ bs) k.1) → (Consistent (whole r.bs) ⊗ Gives-back r.ms) k.1
      last r =
          let o = r.orders in
          let v = o.4 in
          let z : v.1 ≡ [] = nil_order (subst (λ l. Consistent (whole l) v.1) (sym (only_read S true r).2 ∙ rest_some) v.4) in
          (o.0, v.0, o.2 ∙ ap (◌++◌ o.0) (v.2 ∙ ap (◌++◌ v.0) z ∙ append-nil v.0), o.3, partial_back S r.ms r.fit_m r.one_m v.0 v.3.0 v.3.1)

      take : (c : Class) (d : Class) → p.sort ≡ d → only c (p ∷ (q ∷ bs)) ≡ cond (is c d) (p ∷ only c (q ∷ bs)) (only c (q ∷ bs))
      take c d e = ap (λ z. cond (is c z) (p ∷ only c (q ∷ bs)) (only c (q ∷ bs))) e

      go : (c : Class) → p.sort ≡ c → Mark S (leaves_of p.item) c → Contiguous-cut S k.0 k.1 → Pattern M0 G0 y
      go empty e m x = absurd (true≢false (sym (ap (is empty) e) ∙ here_some))
      go full e m (inl x) = absurd (m.1 (of_order S _ p.item k.3 x.0))
      go partial e m (inl x) = absurd (m.0 (of_order S _ p.item k.3 x.0))
      go full e m (inr (inl x)) = absurd (subst NonEmpty (sym (only_all empty (q ∷ bs) (pure_of S false (q ∷ bs) f.1 k.1 k.4 x.1)) ∙ rest_some) tt)
      go partial e m (inr (inl x)) = absurd (subst NonEmpty (sym (only_all empty (q ∷ bs) (pure_of S false (q ∷ bs) f.1 k.1 k.4 x.1)) ∙ rest_some) tt)
      go full e m (inr (inr x)) =
          let r = fall x.1 in
          let o = last r in
          inl (
            r.ms,
            p ∷ r.bs,
            subst (Rearranged M0) (take partial full e ∙ (only_read S true r).1) perm_m,
            subst (Rearranged G0) (take full full e ∙ ap (λ l. p ∷ l) (only_read S true r).0) perm_g,
            (k.0 ++ o.0, o.1, k.2 ∙ ap (◌++◌ k.0) o.2 ∙ sym (append_assoc k.0 o.0 o.1), (consistent_cons p.item (whole r.bs) (k.0 ++ o.0)).1 (k.0, o.0, refl, k.3, o.3), o.4),
          )
      go partial e m (inr (inr x)) =
          let r = fall x.1 in
          inr (
            p ∷ r.ms,
            subst (Rearranged M0) (take partial partial e ∙ ap (λ l. p ∷ l) (only_read S true r).1) perm_m,
            (r.bs, subst (Rearranged G0) (take full partial e ∙ (only_read S true r).0) perm_g, (k.0, k.1, k.2, (f.0.linear_ok k.0).1 (k.3, x.0), last r)),
          )

  pattern_of : (M0 G0 : List Part) → All (Fit S) (M0 ++ G0) → Of partial M0 → Of full G0 → 2 ≤ length (M0 ++ G0) → (y : L) → Arranged (M0 ++ G0) y → Pattern M0 G0 y
  pattern_of M0 G0 f hm hg n y r = go r.0 r.1 r.2
    where
      go : (bs : List Part) → Rearranged (M0 ++ G0) bs → Consistent (whole bs) y → Pattern M0 G0 y
      go [] pm s = absurd (omega (arith, perm_length pm))
      go (p ∷ []) pm s = absurd (omega (arith, perm_length pm))
      go (p ∷ (q ∷ bs)) pm s = pattern M0 G0 hm hg p q bs (perm_all (Fit S) pm f) pm y s r.3

  one-length : (M : List Part) (z : L) → Gives-back M z → length M ≤ 1
  one-length M z g = one_at_most M (reverse z) g

  -- The full items in any sequence, all inside.
  full_from : (G : List Part) → All (Fit S) G → Of full G → (y : L) → Consistent (pack (whole G)) y → (bs : List Part) × Rearranged G bs × Consistent (whole bs) y × Inside S y
  full_from G f h y s =
      let a = pack_from G s in
      (a.0, a.1, a.2, of_pure S true a.0 (perm_all (Fit S) a.1 f) (perm_all _ a.1 h) y a.2)

  pack_mirror : {G bs : List Part} (y : L) → Rearranged G bs → Consistent (whole bs) y → Consistent (pack (whole G)) (reverse y)
  pack_mirror {bs = bs} y pm s = pack_to (perm_trans pm (perm_reverse bs)) (whole_mirror bs s)

  linear_back : (m : Part) → Fit S m → (z : L) → Gives m.linear (reverse z) → Consistent (one m.item) z × Early S z
  linear_back m f z g = let r = (f.linear_ok (reverse z)).0 g in (one_unmirror m.item z r.0, sided_unrev S true false z r.1)

  nil_back : (z : L) → Gives-back [] z → z ≡ []
  nil_back z g = sym (reverse-reverse z) ∙ ap reverse (nil_order g)

  -- One partial item.
  module _ (m : Part) (G : List Part) (fm : Fit S m) (fg : All (Fit S) G) (hm : m.sort ≡ partial) (hg : Of full G) (n : 1 ≤ length G) where
    abbrev One-Q : L → Type 0
    One-Q = Consistent (pack (whole G)) ⊗ (λ z. Gives m.linear (reverse z))

    one_to : (y : L) → One-Q y → Arranged (m ∷ G) y
    one_to y r =
        let a = full_from G fg hg r.0 r.3 in
        let b = linear_back m fm r.1 r.4 in (
          a.0 ++ (m ∷ []),
          perm_trans (perm_swap (m ∷ []) G) (perm_append a.1 (perm_refl (m ∷ []))),
          subst (Consistent (whole (a.0 ++ (m ∷ [])))) (sym r.2) (whole_consistent a.0 (m ∷ []) a.2 b.0),
          early_con S y (sided_before S true false r.0 r.1 r.2 a.3 b.1),
        )

    one_from : (y : L) → Pattern (m ∷ []) G y → One-Q y ⊎ One-Q (reverse y)
    one_from y (inl r) =
        let o = r.4 in
        let e : r.0 ≡ m ∷ [] = short_perm r.2 (omega arith) in
        inl (o.0, o.1, o.2, pack_to r.3 o.3, subst (λ l. Gives-back l o.1) e o.4)
    one_from y (inr r) = go (subst (λ l. Ended (m ∷ []) G l y) (short_perm r.1 (omega arith)) r.2)
      where
        go : Ended (m ∷ []) G (m ∷ []) y → One-Q y ⊎ One-Q (reverse y)
        go q =
            let o = q.2 in
            let v = o.4 in
            let e : o.1 ≡ v.0 = v.2 ∙ ap (◌++◌ v.0) (nil_back v.1 v.4) ∙ append-nil v.0 in
            inr (reverse v.0, reverse o.0, ap reverse (o.2 ∙ ap (◌++◌ o.0) e) ∙ reverse-append o.0 v.0, pack_mirror v.0 q.1 v.3, subst (Gives m.linear) (sym (reverse-reverse o.0)) o.3)

    one_ok : (y : L) → Gives (c_node (some (pack (whole G)) ⊕ reversed m.linear)) y ↔ Arranged (m ∷ G) y
    one_ok y = Iff.trans (gives_C (some (pack (whole G)) ⊕ reversed m.linear) One-Q
        (gives_⊕ (some (pack (whole G))) (reversed m.linear) (Consistent (pack (whole G))) (λ z. Gives m.linear (reverse z)) (λ z. Iff.rfl) (gives_rev m.linear)) y)
        (to, (λ r. one_from y (pattern_of (m ∷ []) G (fm, fg) (hm, tt) hg (omega arith) y r)))
      where
        to : One-Q y ⊎ One-Q (reverse y) → Arranged (m ∷ G) y
        to (inl q) = one_to y q
        to (inr q) = arr_mirror (m ∷ G) y (one_to (reverse y) q)

  -- Two partial items.
  module _ (m m' : Part) (G : List Part) (fm : Fit S m) (fm' : Fit S m') (fg : All (Fit S) G) (hm : m.sort ≡ partial) (hm' : m'.sort ≡ partial) (hg : Of full G) where
    abbrev Two-Q : L → Type 0
    Two-Q = Gives m.linear ⊗ (Consistent (pack (whole G)) ⊗ (λ z. Gives m'.linear (reverse z)))

    two_to : (y : L) → Two-Q y → Arranged (m ∷ (m' ∷ G)) y
    two_to y r =
        let v = r.4 in
        let x = (fm.linear_ok r.0).0 r.3 in
        let a = full_from G fg hg v.0 v.3 in
        let b = linear_back m' fm' v.1 v.4 in (
          m ∷ (a.0 ++ (m' ∷ [])),
          next here (perm_trans (perm_swap (m' ∷ []) G) (perm_append a.1 (perm_refl (m' ∷ [])))),
          (consistent_cons m.item (whole (a.0 ++ (m' ∷ []))) y).1 (r.0, r.1, r.2, x.0, subst (Consistent (whole (a.0 ++ (m' ∷ [])))) (sym v.2) (whole_consistent a.0 (m' ∷ []) a.2 b.0)),
          con_late S r.0 r.1 r.2 x.1 (sided_before S true false v.0 v.1 v.2 a.3 b.1),
        )

    two_from : (y : L) → Pattern (m ∷ (m' ∷ [])) G y → Two-Q y ⊎ Two-Q (reverse y)
    two_from y (inl r) = absurd (omega (arith, perm_length r.2, one-length r.0 r.4.1 r.4.4))
    two_from y (inr r) = go (two_picks m m' r.1) r.2
      where
        go : (r.0 ≡ m ∷ (m' ∷ [])) ⊎ (r.0 ≡ m' ∷ (m ∷ [])) → Ended (m ∷ (m' ∷ [])) G r.0 y → Two-Q y ⊎ Two-Q (reverse y)
        go (inl e) q =
            let w : Ended (m ∷ (m' ∷ [])) G (m ∷ (m' ∷ [])) y = subst (λ l. Ended (m ∷ (m' ∷ [])) G l y) e q in
            let o = w.2 in
            let v = o.4 in
            inl (o.0, o.1, o.2, o.3, (v.0, v.1, v.2, pack_to w.1 v.3, v.4))
        go (inr e) q =
            let w : Ended (m ∷ (m' ∷ [])) G (m' ∷ (m ∷ [])) y = subst (λ l. Ended (m ∷ (m' ∷ [])) G l y) e q in
            let o = w.2 in
            let v = o.4 in
            inr (
              reverse v.1,
              reverse v.0 ++ reverse o.0,
              ap reverse o.2 ∙ reverse-append o.0 o.1 ∙ ap (λ z. z ++ reverse o.0) (ap reverse v.2 ∙ reverse-append v.0 v.1) ∙ append_assoc (reverse v.1) (reverse v.0) (reverse o.0),
              v.4,
              (reverse v.0, reverse o.0, refl, pack_mirror v.0 w.1 v.3, subst (Gives m'.linear) (sym (reverse-reverse o.0)) o.3),
            )

    two_ok : (y : L) → Gives (c_node (m.linear ⊕ (some (pack (whole G)) ⊕ reversed m'.linear))) y ↔ Arranged (m ∷ (m' ∷ G)) y
    two_ok y = Iff.trans (gives_C (m.linear ⊕ (some (pack (whole G)) ⊕ reversed m'.linear)) Two-Q
        (gives_⊕ m.linear (some (pack (whole G)) ⊕ reversed m'.linear) (Gives m.linear) (Consistent (pack (whole G)) ⊗ (λ z. Gives m'.linear (reverse z))) (λ z. Iff.rfl)
        (gives_⊕ (some (pack (whole G))) (reversed m'.linear) (Consistent (pack (whole G))) (λ z. Gives m'.linear (reverse z)) (λ z. Iff.rfl) (gives_rev m'.linear))) y)
        (to, (λ r. two_from y (pattern_of (m ∷ (m' ∷ [])) G (fm, (fm', fg)) (hm, (hm', tt)) hg (omega arith) y r)))
      where
        to : Two-Q y ⊎ Two-Q (reverse y) → Arranged (m ∷ (m' ∷ G)) y
        to (inl q) = two_to y q
        to (inr q) = arr_mirror (m ∷ (m' ∷ G)) y (two_to (reverse y) q)

  too_many : (M0 G0 : List Part) → 3 ≤ length M0 → (y : L) → Pattern M0 G0 y → ⊥
  too_many M0 G0 n y (inl r) = omega (arith, perm_length r.2, one-length r.0 r.4.1 r.4.4)
  too_many M0 G0 n y (inr r) = go r.0 r.1 r.2
    where
      go : (M : List Part) → Rearranged M0 M → Ended M0 G0 M y → ⊥
      go [] pm q = q
      go (p ∷ M) pm q = omega (arith, perm_length pm, one-length M q.2.4.1 q.2.4.4)

  pub gather_ok : (M G : List Part) → All (Fit S) M → All (Fit S) G → Of partial M → Of full G → (y : L) → Gives (gather M G) y ↔ Arranged (M ++ G) y
  gather_ok [] G fm fg hm hg y = ((λ s. let a = full_from G fg hg y s in (a.0, a.1, a.2, in_con S y a.3)), (λ r. pack_to r.1 r.2))
  gather_ok (m ∷ []) [] fm fg hm hg y =
      ((λ g. let r = (fm.0.reduced_ok y).0 g in (m ∷ [], perm_refl _, r.0, r.1)), (λ r. (fm.0.reduced_ok y).1 (subst (λ l. Consistent (whole l) y) (short_perm r.1 (omega arith)) r.2, r.3)))
  gather_ok (m ∷ []) (g ∷ G) fm fg hm hg y = one_ok m (g ∷ G) fm.0 fg hm.0 hg (omega arith) y
  gather_ok (m ∷ (m' ∷ [])) G fm fg hm hg y = two_ok m m' G fm.0 fm.1.0 fg hm.0 hm.1.0 hg y
  gather_ok (m ∷ (m' ∷ (o ∷ M))) G fm fg hm hg y =
      ((λ g. absurd g), (λ r. too_many (m ∷ (m' ∷ (o ∷ M))) G (omega arith) y (pattern_of (m ∷ (m' ∷ (o ∷ M))) G (all_append _ (m ∷ (m' ∷ (o ∷ M))) G fm fg) hm hg (omega arith) y r)))
