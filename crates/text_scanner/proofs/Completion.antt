-- Every viable state can be finished: leaves to every node that wants some, the others to the root.
use mathlib.Core.Path.{◌≡◌, refl, sym, ◌∙◌, ap, subst}
use mathlib.Core.List.{List, [], ◌∷◌, ◌++◌, append-nil}
use Prim.Native.Nat.{ℕ, suc, ◌+◌, ◌-◌, ◌≤◌}
use native.Mathlib.Omega.{arith}
use lib.ListN.{length, take, drop, length-take, length-drop, take-append-drop}
use Rattle.spec_orders.specs.Lists.{Rearranged, done, next, here}
use Rattle.spec_orders.specs.Tree.{P, Forest, leaf, items, frontier}
use Rattle.spec_orders.specs.TreeText.{text, Forked}
use Rattle.spec_orders.specs.Join.{leaf_items}
use Rattle.spec_orders.proofs.Rearranged.{perm_refl, pick_length}
use Rattle.spec_orders.proofs.Laws.{canonical_forked}
use Rattle.spec_orders.proofs.Fresh.{frontier-leaves, leaves_canonical}
use Rattle.text_scanner.specs.Scan.{TextState, lit, pre, open_due, due, num, after, need}
use Rattle.text_scanner.proofs.Words.{Begin, begun_true}
use Rattle.text_scanner.proofs.Language.{bytes, frontiers, Fits, Tail, Due, Num, Open, Lang, Viable}

items-length : (l : List ℕ) → length (items (leaf_items l)) ≡ length l
items-length [] = refl
items-length (m ∷ l) = ap suc (items-length l)

forked_leaves : (l : List ℕ) → Forked (leaf_items l)
forked_leaves l = canonical_forked (leaf_items l) (leaves_canonical l)

record Filled (cs l : List ℕ) : Type 0 where
  fs : List Forest
  fits : Fits cs fs
  each : l ≡ frontiers fs

fill : (cs : List ℕ) (c : ℕ) (l : List ℕ) → need (c ∷ cs) ≤ length l → Filled (c ∷ cs) l
fill [] c l h = record {
  fs = leaf_items l ∷ [];
  fits = (omega (arith, items-length l), forked_leaves l, tt);
  each = sym (append-nil (frontier (leaf_items l)) ∙ frontier-leaves l);
}
fill (d ∷ cs) c l h =
    let a = take c l in
    let b = drop c l in
    let r = fill cs d b (rw (length-drop c l) (omega arith)) in
    record {
      fs = leaf_items a ∷ r.fs;
      fits = (rw (items-length a, length-take c l) (omega arith), forked_leaves a, r.fits);
      each = sym (take-append-drop c l) ∙ (rw (frontier-leaves a) (ap (λ t. a ++ t) r.each));
    }

perm_eq : {l k : List ℕ} → l ≡ k → Rearranged l k
perm_eq {l} e = subst (Rearranged l) e (perm_refl l)

finish_tail : (c : ℕ) (cs l : List ℕ) → need (c ∷ cs) ≤ length l → (x : List ℕ) × Tail (c ∷ cs) l x
finish_tail c cs l h =
    let r = fill cs c l h in
    (bytes r.fs, record { fs = r.fs; fits = r.fits; each = perm_eq r.each; is = refl })

finish_num : (ds : List ℕ) (c : ℕ) (cs l : List ℕ) → suc (need (c ∷ cs)) ≤ length l → Begin ds l → (x : List ℕ) × Num ds (c ∷ cs) l x
finish_num ds c cs l h g =
    let t = finish_tail c cs g.k (omega (arith, pick_length g.pick)) in
    (g.tail ++ t.0, record { m = g.m; tail = g.tail; k = g.k; y = t.0; name = g.name; pick = g.pick; is = refl; then = t.1 })

due_of : (c : ℕ) (cs l : List ℕ) (m : ℕ) → Filled ((c - 1) ∷ cs) l → (x : List ℕ) × Due c cs (m ∷ l) x
due_of c cs l m r = go r.fs r.fits r.each
  where
    go : (fs : List Forest) → Fits ((c - 1) ∷ cs) fs → l ≡ frontiers fs → (x : List ℕ) × Due c cs (m ∷ l) x
    go [] h e = elim h [ ]
    go (f ∷ fs) h e = (
      text (leaf m f) ++ (41 ∷ bytes fs),
      record {
        f = leaf m f;
        fs = fs;
        has = omega arith;
        two = omega arith;
        good = h.1;
        fits = h.2;
        each = next here (perm_eq e);
        is = refl;
      },
    )

finish_due : (c : ℕ) (cs l : List ℕ) → suc (need ((c - 1) ∷ cs)) ≤ length l → (x : List ℕ) × Due c cs l x
finish_due c cs [] h = absurd (omega arith)
finish_due c cs (m ∷ l) h = due_of c cs l m (fill cs (c - 1) l (omega arith))

finish_open : (cs l : List ℕ) → 2 + need cs ≤ length l → (x : List ℕ) × Open cs l x
finish_open cs l h =
    let t = finish_due 2 cs l (omega arith) in
    (40 ∷ t.0, record { y = t.0; is = refl; then = t.1 })

pub finish : (s : TextState) → Viable s → (x : List ℕ) × Lang s x
finish (lit ws) v = (ws, refl)
finish (pre ws l) v =
    let t = finish_open [] l (omega arith) in
    (ws ++ (80 ∷ t.0), record { k = P; y = t.0; is = refl; then = t.1 })
finish (open_due cs l) v = finish_open cs l v
finish (due c cs l) v = finish_due c cs l v
finish (num ds c cs l) v = finish_num ds c cs l v.0 (begun_true ds l v.1)
finish (after [] []) v = ([], record { fs = []; fits = tt; each = done; is = refl })
finish (after [] (m ∷ l)) v = absurd (let h = v.1 in let z : ◌≡◌ {A = ℕ} 0 1 = cc in omega arith)
finish (after (c ∷ cs) l) v = finish_tail c cs l v.0
