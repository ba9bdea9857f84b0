-- A table is read in one way.
use mathlib.Core.Path.{◌≡◌, refl, sym, ap, ◌∙◌, subst}
use mathlib.Core.List.{List, [], ◌∷◌}
use Prim.Native.Nat.{ℕ, ◌-◌}
use native.Mathlib.Omega.{arith}
use lib.ListN.{length, take, get_or, replicate}
use lib.Seq.{take-append_seam}
use Rattle.spec_orders.specs.CircularOrder.{Restriction}
use Rattle.spec_orders.specs.Tree.{Kind, P, C, Forest, leaf, node}
use Rattle.spec_calls.specs.Tables.{padded}
use Rattle.spec_calls.specs.NodeTable.{kind_number}
use Rattle.table_reading.specs.Reading.{blanks, Known, Within, known, at_record, after_root, ItemsRead, read_none, read_leaf, read_root, Behind, none_read, blank, a_node}

kind_same : (k h : Kind) → kind_number k ≡ kind_number h → k ≡ h
kind_same P P e = refl
kind_same P C e = absurd (omega arith)
kind_same C P e = absurd (omega arith)
kind_same C C e = refl

blank_kind : (k : Kind) (l : List ℕ) → blanks 257 ≡ kind_number k ∷ l → ⊥
unfolding blanks
blank_kind P l e = let z : ◌≡◌ {A = ℕ} 0 1 = ap (λ (m : List ℕ). get_or m 0 0) e in omega arith
blank_kind C l e = let z : ◌≡◌ {A = ℕ} 0 2 = ap (λ (m : List ℕ). get_or m 0 0) e in omega arith

entries-same : (x y : ℕ) (vs us : List ℕ) → x ∷ length vs ∷ padded 255 vs ≡ y ∷ length us ∷ padded 255 us → vs ≡ us
entries-same x y vs us e =
    let m : length vs ≡ length us = ap (λ (l : List ℕ). get_or l 1 0) e in
    let q : padded 255 vs ≡ padded 255 us = ap (λ (l : List ℕ). tail² l) e in
    sym (take-append_seam vs (replicate (255 - length vs) 0)) ∙ ap (take (length vs)) q ∙ ap (λ (k : ℕ). take k (padded 255 us)) m ∙ take-append_seam us (replicate (255 - length us) 0)
  where
    tail² : List ℕ → List ℕ
    tail² [] = []
    tail² (a ∷ []) = []
    tail² (a ∷ (b ∷ l)) = l

pub kind_first : (f g : Forest) (k h : Kind) (i j : Forest) → node k i f ≡ node h j g → (k ≡ h) × (i ≡ j) × (f ≡ g)
kind_first f g k h i j e = (cc, cc, cc)

module _ (n : ℕ) (S : Restriction) where
  pub reads_same : {k : Kind} {vs : List ℕ} {a z y : Within} {i j : Forest} → ItemsRead n S k vs a i z → ItemsRead n S k vs a j y → (i ≡ j) × (z ≡ y)
  reads_same read_none read_none = (refl, refl)
  reads_same (read_leaf {v = v} l w m h) (read_leaf l' w' m' h') = let r = reads_same h h' in (ap (leaf v) r.0, r.1)
  reads_same (read_leaf l w m h) (read_root l' e' g' m' h') = absurd (omega arith)
  reads_same (read_root l e g m h) (read_leaf l' w' m' h') = absurd (omega arith)
  reads_same {k} {a = a} {y = y} (read_root {vs = vs} {h = x} {j = j} {f = f} {i = i} l e g m h) (read_root {h = x'} {j = j'} {f = f'} {i = i'} l' e' g' m' h') =
      let q = kind_first f f' x x' j j' (sym g ∙ g') in
      let h₁ = subst (λ (p : Kind). ItemsRead n S k vs (after_root n S a p j' f') i' y) (sym q.0) h' in
      let h₂ = subst (λ (p : Forest). ItemsRead n S k vs (after_root n S a x p f') i' y) (sym q.1) h₁ in
      let h₃ = subst (λ (p : Forest). ItemsRead n S k vs (after_root n S a x j p) i' y) (sym q.2) h₂ in
      let r = reads_same h h₃ in
      (ap (λ (p : Kind). node p j i) q.0 ∙ ap (λ (p : Forest). node x' p i) q.1 ∙ ap (node x' j') r.0, r.1)

  pub behind_same : {table : List ℕ} {r : ℕ} {s u : Known} → Behind n S table r s → Behind n S table r u → s ≡ u
  behind_same none_read none_read = refl
  behind_same none_read (blank l row b) = absurd (omega arith)
  behind_same none_read (a_node l row enough most b h m) = absurd (omega arith)
  behind_same (blank l row b) none_read = absurd (omega arith)
  behind_same (blank l row b) (blank l' row' b') = refl
  behind_same (blank l row b) (a_node {k = k} {vs = vs} l' row' enough most b' h m) = absurd (blank_kind k (length vs ∷ padded 255 vs) (sym row ∙ row'))
  behind_same (a_node l row enough most b h m) none_read = absurd (omega arith)
  behind_same (a_node {k = k} {vs = vs} l row enough most b h m) (blank l' row' b') = absurd (blank_kind k (length vs ∷ padded 255 vs) (sym row' ∙ row))
  behind_same (a_node {r = r} {s = s} {k = k} {vs = vs} {i = i} {z = z} l row enough most b h m) (a_node {s = s'} {k = k'} {vs = vs'} {i = i'} {z = z'} l' row' enough' most' b' h' m') =
      let e = sym row ∙ row' in
      let q : k ≡ k' = kind_same k k' (ap (λ (l : List ℕ). get_or l 0 0) e) in
      let v : vs ≡ vs' = entries-same (kind_number k) (kind_number k') vs vs' e in
      let t : s ≡ s' = behind_same b b' in
      let h₁ = subst (λ (p : Kind). ItemsRead n S p vs' (at_record n S p r s') i' z') (sym q) h' in
      let h₂ = subst (λ (p : List ℕ). ItemsRead n S k p (at_record n S k r s') i' z') (sym v) h₁ in
      let h₃ = subst (λ (p : Known). ItemsRead n S k vs (at_record n S k r p) i' z') (sym t) h₂ in
      let w = reads_same h h₃ in
      ap (λ (p : Kind). known n S (node p i z.roots) z.leaves) q
      ∙ ap (λ (p : Forest). known n S (node k' p z.roots) z.leaves) w.0
      ∙ ap (λ (p : Within). known n S (node k' i' p.roots) p.leaves) w.1
