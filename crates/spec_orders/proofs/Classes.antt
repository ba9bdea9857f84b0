-- A node's items as parts: a P-node's orders are those of its parts in some sequence, and the parts of one class.
use mathlib.Core.Path.{◌∙◌, ◌≡◌, ap, ap₂, refl, subst, sym}
use mathlib.Core.Bool.{Bool, cond, false, true}
use mathlib.Core.List.{List, [], ◌++◌, ◌∷◌, append_assoc, append-nil, map}
use Rattle.spec_orders.specs.Lists.{All, Pick, here, there, Rearranged, done, next}
use Rattle.spec_orders.specs.Tree.{P, nil, node, items, Consistent}
use Rattle.spec_orders.specs.Reduce.{put, pack, Class, empty, full, partial, is, Part, whole, only}
use Rattle.spec_orders.proofs.Rearranged.{perm_refl, perm_trans, perm_sym, perm_skip, pick_middle}
use Rattle.spec_orders.proofs.Members.{perm_map, perm_unmap}
use Rattle.spec_orders.proofs.Contiguous.{L}
use Rattle.spec_orders.proofs.Laws.{consistent_append}
use Rattle.spec_orders.proofs.Parts.{items-put, node_in, node_out, forest, forest_items}
use Rattle.spec_orders.proofs.Gives.{gives_pack}
use Rattle.spec_orders.proofs.Fits.{whole_append, is_refl, is_eq, Of}

-- The orders of a P-node: those of its items in some sequence.
pub items-whole : (ps : List Part) → items (whole ps) ≡ map (λ p. p.item) ps
items-whole [] = refl
items-whole (p ∷ ps) = items-put p.item (whole ps) ∙ ap (λ l. p.item ∷ l) (items-whole ps)

forest_whole : (ps : List Part) → forest (map (λ p. p.item) ps) ≡ whole ps
forest_whole [] = refl
forest_whole (p ∷ ps) = ap (put p.item) (forest_whole ps)

items_perm : {ps qs : List Part} → Rearranged ps qs → Rearranged (items (whole ps)) (items (whole qs))
items_perm {ps} {qs} p = rw (items-whole ps, items-whole qs) (perm_map (λ p. p.item) p)

pub P-to : {ps qs : List Part} {xs : L} → Rearranged ps qs → Consistent (whole qs) xs → Consistent (node P (whole ps) nil) xs
P-to {qs = qs} p s = node_in {j = whole qs} (items_perm p) s

pub P-from : (ps : List Part) {xs : L} → Consistent (node P (whole ps) nil) xs → (qs : List Part) × Rearranged ps qs × Consistent (whole qs) xs
P-from ps {xs} s =
    let r = node_out s in
    let m = perm_unmap (λ p. p.item) ps (items-whole ps) r.turn in
    (m.0, m.1, subst (λ g. Consistent g xs) (sym (forest_items r.turned) ∙ ap forest m.2 ∙ forest_whole m.0) r.order)

pub pack_to : {ps qs : List Part} {xs : L} → Rearranged ps qs → Consistent (whole qs) xs → Consistent (pack (whole ps)) xs
pack_to {ps} {qs} {xs} p s = (gives_pack (whole ps) xs).1 (P-to p s)

pub pack_from : (ps : List Part) {xs : L} → Consistent (pack (whole ps)) xs → (qs : List Part) × Rearranged ps qs × Consistent (whole qs) xs
pack_from ps {xs} s = P-from ps ((gives_pack (whole ps) xs).0 s)

pub whole_consistent : (ps qs : List Part) {xs ys : L} → Consistent (whole ps) xs → Consistent (whole qs) ys → Consistent (whole (ps ++ qs)) (xs ++ ys)
whole_consistent ps qs {xs} {ys} s r = subst (λ g. Consistent g (xs ++ ys)) (sym (whole_append ps qs)) (consistent_append s r)

-- The items of one class.
pub only_of : (c : Class) (ps : List Part) → Of c (only c ps)
only_of c [] = tt
only_of c (p ∷ ps) = go (is c p.sort) refl (only_of c ps)
  where
    go : (b : Bool) → is c p.sort ≡ b → Of c (only c ps) → Of c (cond b (p ∷ only c ps) (only c ps))
    go true q h = (is_eq c p.sort q, h)
    go false q h = h

pub keep_only : (Q : Part → Type 0) (c : Class) (ps : List Part) → All Q ps → All Q (only c ps)
keep_only Q c [] f = tt
keep_only Q c (p ∷ ps) f = go (is c p.sort) (keep_only Q c ps f.1)
  where
    go : (b : Bool) → All Q (only c ps) → All Q (cond b (p ∷ only c ps) (only c ps))
    go true h = (f.0, h)
    go false h = h

pub only_all : (c : Class) (ps : List Part) → Of c ps → only c ps ≡ ps
only_all c [] h = refl
only_all c (p ∷ ps) h = ap (λ b. cond b (p ∷ only c ps) (only c ps)) (ap (is c) h.0 ∙ is_refl c) ∙ ap (λ l. p ∷ l) (only_all c ps h.1)

pub only_none : (c d : Class) → is c d ≡ false → (ps : List Part) → Of d ps → only c ps ≡ []
only_none c d n [] h = refl
only_none c d n (p ∷ ps) h = ap (λ b. cond b (p ∷ only c ps) (only c ps)) (ap (is c) h.0 ∙ n) ∙ only_none c d n ps h.1

pub only-append : (c : Class) (ps qs : List Part) → only c (ps ++ qs) ≡ only c ps ++ only c qs
only-append c [] qs = refl
only-append c (p ∷ ps) qs = go (is c p.sort) (only-append c ps qs)
  where
    go : (b : Bool) → only c (ps ++ qs) ≡ only c ps ++ only c qs → cond b (p ∷ only c (ps ++ qs)) (only c (ps ++ qs)) ≡ cond b (p ∷ only c ps) (only c ps) ++ only c qs
    go true h = ap (λ l. p ∷ l) h
    go false h = h

-- Parts of three classes, one class after the other.
pub only_three : (b c d : Class) → (is b c ≡ false) × (is b d ≡ false) × (is c b ≡ false) × (is c d ≡ false) × (is d b ≡ false) × (is d c ≡ false)
    → (ps qs rs : List Part) → Of b ps → Of c qs → Of d rs → (only b (ps ++ (qs ++ rs)) ≡ ps) × (only c (ps ++ (qs ++ rs)) ≡ qs) × (only d (ps ++ (qs ++ rs)) ≡ rs)
only_three b c d n ps qs rs hp hq hr = (
  split b ∙ ap₂ ◌++◌ (only_all b ps hp) (ap₂ ◌++◌ (only_none b c n.0 qs hq) (only_none b d n.1 rs hr)) ∙ append-nil ps,
  split c ∙ ap₂ ◌++◌ (only_none c b n.2 ps hp) (ap₂ ◌++◌ (only_all c qs hq) (only_none c d n.3 rs hr)) ∙ append-nil qs,
  split d ∙ ap₂ ◌++◌ (only_none d b n.4 ps hp) (ap₂ ◌++◌ (only_none d c n.5 qs hq) (only_all d rs hr)),
)
  where
    split : (c : Class) → only c (ps ++ (qs ++ rs)) ≡ only c ps ++ (only c qs ++ only c rs)
    split c = only-append c ps (qs ++ rs) ∙ ap (λ l. only c ps ++ l) (only-append c qs rs)

only_pick : (c : Class) {p : Part} {ps qs : List Part} → Pick p ps qs → Rearranged (only c ps) (only c (p ∷ qs))
only_pick c here = perm_refl _
only_pick c (there {x = p} {y = u} {l = ps} {m = qs} k) = go (is c u.sort) (is c p.sort) (only_pick c k)
  where
    go : (a b : Bool) → Rearranged (only c ps) (cond b (p ∷ only c qs) (only c qs))
        → Rearranged (cond a (u ∷ only c ps) (only c ps)) (cond b (p ∷ cond a (u ∷ only c qs) (only c qs)) (cond a (u ∷ only c qs) (only c qs)))
    go true true h = perm_trans (perm_skip u h) (next (there here) (perm_refl _))
    go true false h = perm_skip u h
    go false true h = h
    go false false h = h

pub only_perm : (c : Class) {ps qs : List Part} → Rearranged ps qs → Rearranged (only c ps) (only c qs)
only_perm c done = done
only_perm c (next {x = p} {k = g} {m = h} k q) = perm_trans (only_pick c k) (go (is c p.sort) (only_perm c q))
  where
    go : (b : Bool) → Rearranged (only c g) (only c h) → Rearranged (cond b (p ∷ only c g) (only c g)) (cond b (p ∷ only c h) (only c h))
    go true r = perm_skip p r
    go false r = r

-- The three classes are all.
pub parted : (ps : List Part) → Rearranged ps (only empty ps ++ (only partial ps ++ only full ps))
parted [] = done
parted (p ∷ ps) = go p.sort (parted ps)
  where
    e : List Part
    e = only empty ps

    m : List Part
    m = only partial ps

    f : List Part
    f = only full ps

    go : (c : Class) → Rearranged ps (e ++ (m ++ f)) → Rearranged (p ∷ ps) (cond (is empty c) (p ∷ e) e ++ (cond (is partial c) (p ∷ m) m ++ cond (is full c) (p ∷ f) f))
    go empty h = perm_skip p h
    go partial h = perm_trans (perm_skip p h) (perm_sym (next (pick_middle e p (m ++ f)) (perm_refl _)))
    go full h = perm_trans (perm_skip p h) (perm_sym (next (subst (λ l. Pick p l (e ++ (m ++ f))) (append_assoc e m (p ∷ f)) (subst (Pick p ((e ++ m) ++ (p ∷ f))) (append_assoc e m f) (pick_middle (e ++ m) p f))) (perm_refl _)))
