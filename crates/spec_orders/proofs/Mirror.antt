-- The orders of the reversed items are the mirror images.
use mathlib.Core.Path.{◌∙◌, ap, subst, sym}
use mathlib.Core.Logic.{inl, inr}
use mathlib.Core.List.{List, append-nil, reverse, reverse-append, reverse-cons}
use Prim.Native.Nat.{ℕ}
use Rattle.spec_orders.specs.Tree.{Kind, P, C, Forest, nil, leaf, node, append, rev, Turn, Consistent, no_items, leaf_first, node_first}
use Rattle.spec_orders.proofs.Rearranged.{perm_trans}
use Rattle.spec_orders.proofs.Laws.{rev-rev, rev_perm, consistent_append}

turn_rev : (k : Kind) (i j : Forest) → Turn k i j → Turn k i (rev j)
turn_rev P i j t = perm_trans t (rev_perm j)
turn_rev C i j (inl e) = inr (ap rev e)
turn_rev C i j (inr e) = inl (ap rev e ∙ rev-rev i)

pub consistent_mirror : {f : Forest} {xs : List ℕ} → Consistent f xs → Consistent (rev f) (reverse xs)
consistent_mirror no_items = no_items
consistent_mirror (leaf_first {b = b} {f = f} {xs = xs} s) = subst (Consistent (append (rev f) (leaf b nil))) (sym (reverse-cons b xs)) (consistent_append (consistent_mirror s) (leaf_first no_items))
consistent_mirror (node_first {k = k} {i = i} {j = j} {f = f} {ys = ys} {zs = zs} t s r e) =
    let q : Consistent (node k i nil) (reverse ys) = node_first (turn_rev k i j t) (consistent_mirror s) no_items (sym (append-nil (reverse ys))) in
    subst (Consistent (append (rev f) (node k i nil))) (sym (ap reverse e ∙ reverse-append ys zs)) (consistent_append (consistent_mirror r) q)

pub consistent_unmirror : (f : Forest) (xs : List ℕ) → Consistent (rev f) xs → Consistent f (reverse xs)
consistent_unmirror f xs s = subst (λ g. Consistent g (reverse xs)) (rev-rev f) (consistent_mirror s)
