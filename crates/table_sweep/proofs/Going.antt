-- The entries of a record, read one after the other.
use mathlib.Core.Path.{◌≡◌, refl, sym, ap, ◌∙◌, subst}
use mathlib.Core.Logic.{inl, inr}
use Rattle.std.specs.Prelude.{Option, Some, None}
use mathlib.Core.List.{List, ◌∷◌}
use Prim.Native.Nat.{ℕ, suc, ◌+◌, ◌≤◌, ◌<◌}
use native.Mathlib.Omega.{arith}
use native.Mathlib.Numerals.{add-one}
use lib.ListN.{length, get_or, drop, drop_of_length-le}
use lib.Seq.{drop-cons}
use Rattle.spec_orders.specs.CircularOrder.{Restriction}
use Rattle.spec_orders.specs.Tree.{Kind, Forest, nil, leaf, node}
use Rattle.spec_orders.specs.Form.{first, nodes}
use Rattle.tree_tokens.specs.Tokens.{State, number}
use Rattle.tree_judge.specs.Judge.{leaf_state, node_state, states, judge}
use Rattle.tree_judge.specs.Automaton.{Run, start, step, code}
use Rattle.table_sweep.specs.declared.Item.{Item}
use Rattle.table_reading.specs.Reading.{Within, least, head, known, at_record, after_leaf, after_root, ItemsRead, read_none, read_leaf, read_root}
use Rattle.table_sweep.specs.Kept.{Labels, Roots, Inside, SameRecords, LeafSays, RootSays, EntrySays, RowIs}
use Rattle.table_reading.proofs.Same.{kind_first}
use Rattle.table_sweep.proofs.Keeping.{roots_labels, labels_leaf, labels_root, labels_none, labels_on}

-- An entry, from what a leaf and a root say.
pub leaf_entry : (n : ℕ) (S : Restriction) (x : ℕ) (g : Forest) (ls : List ℕ) (v : ℕ) (work : List ℕ) (r : Option Item) → v ≤ 256 → LeafSays n S x g ls v work r → EntrySays n S x g ls v work r
leaf_entry n S x g ls v work (Some o) l h = inl (l, h)
leaf_entry n S x g ls v work None l h = ((λ a w. h w), (λ a e. absurd (omega arith)))

pub root_entry : (n : ℕ) (S : Restriction) (x : ℕ) (g : Forest) (ls : List ℕ) (v : ℕ) (work : List ℕ) (r : Option Item) → 256 < v → v ≡ 256 + x → Inside S work x g ls → RootSays S g r → EntrySays n S x g ls v work r
root_entry n S x g ls v work (Some o) l e k h = inr (l, e, h, k)
root_entry n S x g ls v work None l e k h = ((λ a w. absurd (omega arith)), (λ a q. h))

-- The first root is taken.
root_taken : (S : Restriction) {new : List ℕ} {x y : ℕ} {ls : List ℕ} {w : Kind} {i f : Forest} → Inside S new x (node w i f) ls → x ≡ y → Inside S new (y + suc (nodes i)) f ls
unfolding Roots
root_taken S {new} {x} {y} {i = i} {f} t e =
    let q : suc x + nodes i ≡ y + suc (nodes i) = omega arith in
    record {
      kept = record {
        long = t.kept.long;
        side = t.kept.side;
        seen = t.kept.seen;
        roots = subst (λ (p : ℕ). Roots S new p f) q t.kept.roots.3;
        low = omega (arith, t.kept.low);
      };
      used = omega (arith, t.used);
    }

module _ (n : ℕ) (S : Restriction) (k : Kind) where
  -- What follows an entry.
  leaf_tail : {v : ℕ} {vs : List ℕ} {a z : Within} {i : Forest} → v ≤ 256 → ItemsRead n S k (v ∷ vs) a i z → (j : Forest) × ItemsRead n S k vs (after_leaf n S a v) j z
  leaf_tail l (read_leaf {i = i} m w b h) = (i, h)
  leaf_tail l (read_root m e g b h) = absurd (omega arith)

  root_tail : {v : ℕ} {vs : List ℕ} {a z : Within} {i : Forest} (x : Kind) (j f : Forest) → 256 < v → a.roots ≡ node x j f → ItemsRead n S k (v ∷ vs) a i z → (u : Forest) × ItemsRead n S k vs (after_root n S a x j f) u z
  root_tail x j f l e (read_leaf m w b h) = absurd (omega arith)
  root_tail {vs = vs} {a = a} {z = z} x j f l e (read_root {h = x'} {j = j'} {f = f'} {i = u} m d g b h) =
      let q = kind_first f f' x x' j j' (sym e ∙ g) in
      let h₁ = subst (λ (p : Kind). ItemsRead n S k vs (after_root n S a p j' f') u z) (sym q.0) h in
      let h₂ = subst (λ (p : Forest). ItemsRead n S k vs (after_root n S a x p f') u z) (sym q.1) h₁ in
      (u, subst (λ (p : Forest). ItemsRead n S k vs (after_root n S a x j p) u z) (sym q.2) h₂)

  -- The entries before place j are read.
  pub record Going (r : ℕ) (g : Forest) (ls places : List ℕ) (j : ℕ) (work : List ℕ) (c d x q : ℕ) : Type 0 where
    pub here : Within
    pub its_first : c ≡ here.first
    pub its_last : d ≡ here.last
    pub its_next : x ≡ here.next
    pub its_run : q ≡ code here.run
    pub inside : Inside S work here.next here.roots here.leaves
    pub on : (i : Forest) (z : Within) → ItemsRead n S k (drop j places) here i z
        → (u : Forest) × ItemsRead n S k places (at_record n S k r (known n S g ls)) u z × (Labels S work here.next i → Labels S work (suc r) u)
    pub off : (i : Forest) (z : Within) → ItemsRead n S k places (at_record n S k r (known n S g ls)) i z → (u : Forest) × ItemsRead n S k (drop j places) here u z

  pub going_start : (r : ℕ) (g : Forest) (ls places work : List ℕ) (q : ℕ) → q ≡ code (start k) → Inside S work (suc r) g ls → Going r g ls places 0 work 0 0 (r + 1) q
  going_start r g ls places work q e h = record {
    here = at_record n S k r (known n S g ls);
    its_first = refl;
    its_last = refl;
    its_next = add-one r;
    its_run = e;
    inside = h;
    on = λ i z x. (i, x, λ l. l);
    off = λ i z x. (i, x);
  }

  module _ {r : ℕ} {g : Forest} {ls places : List ℕ} {j : ℕ} {work : List ℕ} {c d x q : ℕ} (h : Going r g ls places j work c d x q) where
    pub going_end : length places ≤ j → RowIs n S k r g ls places work c d x q
    going_end l =
        let none = drop_of_length-le places {i = j} l in
        let t = h.on nil h.here (subst (λ (vs : List ℕ). ItemsRead n S k vs h.here nil h.here) (sym none) read_none) in
        record { items = t.0; end = h.here; reads = t.1; its_first = h.its_first; its_last = h.its_last; its_next = h.its_next; its_run = h.its_run; labels = t.2 (labels_none S work h.here.next); inside = h.inside }

    module _ (l : j < length places) where
      abbrev v : ℕ
      v = get_or places j 0

      rest : drop j places ≡ v ∷ drop (j + 1) places
      rest = drop-cons places j 0 l ∙ ap (λ (m : ℕ). v ∷ drop m places) (sym (add-one j))

      -- It can't stand there.
      pub going_bad : EntrySays n S x h.here.roots h.here.leaves v work None → (i : Forest) (z : Within) → ItemsRead n S k places (at_record n S k r (known n S g ls)) i z → ⊥
      going_bad b i z t = let u = h.off i z t in no u.0 (subst (λ (vs : List ℕ). ItemsRead n S k vs h.here u.0 z) rest u.1)
        where
          clash : {f : Forest} (y : Kind) (i p : Forest) → f ≡ nil → f ≡ node y i p → ⊥
          clash y i p e q = let z : ◌≡◌ {A = ℕ} 0 1 = cc in omega arith

          no : (i : Forest) → ItemsRead n S k (v ∷ drop (j + 1) places) h.here i z → ⊥
          no i (read_leaf m w y t) = b.0 m w
          no i (read_root {h = y} {j = p} {f = f} m e q y' t) = clash y p f (b.1 m (e ∙ ap (λ (s : ℕ). 256 + s) (sym h.its_next))) q

      module _ {new : List ℕ} {it : Item} (said : EntrySays n S x h.here.roots h.here.leaves v new (Some it)) where
        -- It is not above the item before it.
        pub going_low : {y : ℕ} → y ≡ least k d → it.first ≤ y → (i : Forest) (z : Within) → ItemsRead n S k places (at_record n S k r (known n S g ls)) i z → ⊥
        going_low {y} e low i z t = let u = h.off i z t in no u.0 said (subst (λ (vs : List ℕ). ItemsRead n S k vs h.here u.0 z) rest u.1)
          where
            same-least : y ≡ least k h.here.last
            same-least = e ∙ ap (least k) h.its_last

            no : (i : Forest) → EntrySays n S x h.here.roots h.here.leaves v new (Some it) → ItemsRead n S k (v ∷ drop (j + 1) places) h.here i z → ⊥
            no i (inl p) (read_leaf a w y' t) = omega (arith, p.1.1, same-least)
            no i (inl p) (read_root a f q y' t) = omega (arith, p.0)
            no i (inr p) (read_leaf a w y' t) = omega (arith, p.0)
            no i (inr p) (read_root {h = y₁} {j = i₁} {f = f₁} a f q y' t) =
                let o = p.2 in
                let w = kind_first o.rest f₁ o.kind y₁ o.items i₁ (sym o.is ∙ q) in
                omega (arith, o.its_first, ap first w.1, same-least)

        -- It is read.
        pub going_more : {y q' : ℕ} → SameRecords work new → y ≡ least k d → y < it.first → ((p : Run) (z : State) → q ≡ code p → it.state ≡ number z → q' ≡ code (step p z)) → Going r g ls places (j + 1) new (head c it.first) it.first (x + it.records) q'
        going_more {y} {q'} same e high run = go said
          where
            above : least k h.here.last < it.first
            above = omega (arith, e, ap (least k) h.its_last)

            go : EntrySays n S x h.here.roots h.here.leaves v new (Some it) → Going r g ls places (j + 1) new (head c it.first) it.first (x + it.records) q'
            go (inl (small, (w, is_b, is_m, is-s, kept))) =
                let a = h.here in
                let up : least k a.last < v = omega (arith, above, is_b) in
                record {
                  here = after_leaf n S a v;
                  its_first = ap (λ (t : ℕ). head t it.first) h.its_first ∙ ap (head a.first) is_b;
                  its_last = is_b;
                  its_next = omega (arith, h.its_next, is_m);
                  its_run = run a.run (leaf_state (S v)) h.its_run is-s;
                  inside = subst (λ (t : ℕ). Inside S new t a.roots (v ∷ a.leaves)) h.its_next kept;
                  on = λ i z t.
                      let u = h.on (leaf v i) z (subst (λ (vs : List ℕ). ItemsRead n S k vs a (leaf v i) z) (sym rest) (read_leaf small w up t)) in
                      (u.0, u.1, λ l. labels_on S work new a.next (suc r) (leaf v i) u.0 same u.2 (labels_leaf S new a.next v i l));
                  off = λ i z t. let u = h.off i z t in leaf_tail small (subst (λ (vs : List ℕ). ItemsRead n S k vs a u.0 z) rest u.1);
                }
            go (inr (large, place, o, kept)) =
                let a = h.here in
                let up : least k a.last < first o.items = omega (arith, above, o.its_first) in
                let at : v ≡ 256 + a.next = place ∙ ap (λ (t : ℕ). 256 + t) h.its_next in
                let next_is : x + it.records ≡ a.next + suc (nodes o.items) = omega (arith, h.its_next, o.its_records) in
                let here : Inside S new a.next a.roots a.leaves = subst (λ (y : ℕ). Inside S new y a.roots a.leaves) h.its_next kept in
                let its : Labels S new a.next (node o.kind o.items o.rest) = subst (Labels S new a.next) o.is (roots_labels S new a.next a.roots here.kept.roots here.kept.low) in
                record {
                  here = after_root n S a o.kind o.items o.rest;
                  its_first = ap (λ (t : ℕ). head t it.first) h.its_first ∙ ap (head a.first) o.its_first;
                  its_last = o.its_first;
                  its_next = next_is;
                  its_run = run a.run (node_state o.kind (states (judge S o.items))) h.its_run o.its_state;
                  inside = root_taken S (subst (λ (f : Forest). Inside S new x f a.leaves) o.is kept) h.its_next;
                  on = λ i z t.
                      let u = h.on (node o.kind o.items i) z (subst (λ (vs : List ℕ). ItemsRead n S k vs a (node o.kind o.items i) z) (sym rest) (read_root large at o.is up t)) in
                      (u.0, u.1, λ l. labels_on S work new a.next (suc r) (node o.kind o.items i) u.0 same u.2 (labels_root S new a.next o.kind o.items o.rest i its refl l));
                  off = λ i z t. let u = h.off i z t in root_tail o.kind o.items o.rest large o.is (subst (λ (vs : List ℕ). ItemsRead n S k vs a u.0 z) rest u.1);
                }

-- An entry of the record, from what reading it says whatever is known.
pub entry_is : (n : ℕ) (S : Restriction) (k : Kind) (new : List ℕ) (v : ℕ) {r : ℕ} {g : Forest} {ls places : List ℕ} {j : ℕ} {work : List ℕ} {c d x q : ℕ} (a : Option Item) (h : Going n S k r g ls places j work c d x q)
    → ((f : Forest) (us : List ℕ) → Inside S work x f us → EntrySays n S x f us v new a) → EntrySays n S x h.here.roots h.here.leaves v new a
entry_is n S k new v {work = work} {x = x} a h said =
    said h.here.roots h.here.leaves (subst (λ (t : ℕ). Inside S work t h.here.roots h.here.leaves) (sym h.its_next) h.inside)
