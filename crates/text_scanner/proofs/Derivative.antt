-- One byte: the step stops where no text goes on with it, and leads to a state with the same texts after it.
use mathlib.Core.Path.{◌≡◌, refl, sym, ◌∙◌, ap, ap₂, subst}
use mathlib.Core.Logic.{◌⊎◌, inl, inr}
use mathlib.Core.Bool.{Bool, true, false, ◌&&◌}
use mathlib.Core.Option.{Option, none, some}
use mathlib.Core.List.{List, [], ◌∷◌, ◌++◌, append_assoc, append-nil, head-eq_of_cons-eq, tail-eq_of_cons-eq}
use Prim.Native.Nat.{ℕ, suc, ◌+◌, ◌-◌, ◌≤◌, ◌<◌}
use native.Mathlib.Omega.{arith}
use borrow.Author.Tests.{eqb-true, eqb-false, eq-eqb, leb-true, leb-false}
use lib.Dec.{leb, eqb}
use lib.ListN.{length}
use Rattle.spec_orders.specs.Lists.{All, Rearranged, next, Pick}
use Rattle.spec_orders.specs.Tree.{Kind, P, C, Forest, nil, leaf, node, items, frontier}
use Rattle.spec_orders.specs.TreeText.{digits, letter, text, more, Forked}
use Rattle.spec_orders.proofs.Rearranged.{perm_trans, perm_length, pick_length}
use Rattle.spec_orders.proofs.Members.{NonEmpty}
use Rattle.spec_orders.proofs.Digits.{Digit, digits_all, digits_nonempty}
use Rattle.spec_orders.proofs.Tests.{cond_cases, and_both, or_either, or_neither}
use Rattle.text_scanner.specs.Scan.{TextState, lit, pre, open_due, due, num, after, need, closes, begun, seek, letter?, sep?, text_step, step_after, step_leaf}
use Rattle.text_scanner.proofs.Words.{begun_of, Seek, miss, hit, seek_view}
use Rattle.text_scanner.proofs.Language.{bytes, frontiers, Fits, Tail, Due, Num, Open, Lang, Viable, due_need, open_need, more_text}

pub data Deriv (s : TextState) (b : ℕ) : Option TextState → Type 0 where
  stop : ((x : List ℕ) → Lang s (b ∷ x) → ⊥) → Deriv s b none
  goes : {t : TextState} → Viable t → ((x : List ℕ) → Lang s (b ∷ x) → Lang t x) → ((x : List ℕ) → Lang t x → Lang s (b ∷ x)) → Deriv s b (some t)

-- The tests.
abbrev Letter : ℕ → Type 0
Letter b = (k : Kind) × (b ≡ letter k)

and_all : (a b c : Bool) → a ≡ true → b ≡ true → c ≡ true → a && (b && c) ≡ true
and_all a b c p q r = rw (p, q, r)

letter_true : (b : ℕ) → letter? b ≡ true → Letter b
letter_true b e = go (or_either (eqb b 80) (eqb b 67) e)
  where
    go : (eqb b 80 ≡ true) ⊎ (eqb b 67 ≡ true) → Letter b
    go (inl h) = (P, eqb-true b 80 h)
    go (inr h) = (C, eqb-true b 67 h)

letter_false : (b : ℕ) → letter? b ≡ false → (k : Kind) → b ≡ letter k → ⊥
letter_false b e P h = eqb-false b 80 (or_neither (eqb b 80) (eqb b 67) e).0 h
letter_false b e C h = eqb-false b 67 (or_neither (eqb b 80) (eqb b 67) e).1 h

sep_true : (b : ℕ) → sep? b ≡ true → (b ≡ 32) ⊎ (b ≡ 41)
sep_true b e = go (or_either (eqb b 32) (eqb b 41) e)
  where
    go : (eqb b 32 ≡ true) ⊎ (eqb b 41 ≡ true) → (b ≡ 32) ⊎ (b ≡ 41)
    go (inl h) = inl (eqb-true b 32 h)
    go (inr h) = inr (eqb-true b 41 h)

sep_false : (b : ℕ) → sep? b ≡ false → (b ≡ 32) ⊎ (b ≡ 41) → ⊥
sep_false b e (inl h) = eqb-false b 32 (or_neither (eqb b 32) (eqb b 41) e).0 h
sep_false b e (inr h) = eqb-false b 41 (or_neither (eqb b 32) (eqb b 41) e).1 h

-- After an item: a space and another item, or the bracket.
tail_space : {c : ℕ} {cs l x : List ℕ} → Tail (c ∷ cs) l (32 ∷ x) → Due c cs l x
tail_space {c} {cs} {l} {x} t = go t.fs t.fits t.each t.is
  where
    go : (fs : List Forest) → Fits (c ∷ cs) fs → Rearranged l (frontiers fs) → 32 ∷ x ≡ bytes fs → Due c cs l x
    go [] h p e = elim h [ ]
    go (nil ∷ fs) h p e = absurd (let z = head-eq_of_cons-eq e in omega arith)
    go (leaf m f ∷ fs) h p e = record { f = leaf m f; fs = fs; has = omega arith; two = h.0; good = h.1; fits = h.2; each = p; is = tail-eq_of_cons-eq e }
    go (node k i f ∷ fs) h p e = record { f = node k i f; fs = fs; has = omega arith; two = h.0; good = h.1; fits = h.2; each = p; is = tail-eq_of_cons-eq e }

space_tail : {c : ℕ} {cs l x : List ℕ} → Due c cs l x → Tail (c ∷ cs) l (32 ∷ x)
space_tail d = record {
  fs = d.f ∷ d.fs;
  fits = (d.two, d.good, d.fits);
  each = d.each;
  is = rw (more_text d.f d.has) (ap (◌∷◌ 32) d.is);
}

tail_close : {c : ℕ} {cs l x : List ℕ} → Tail (c ∷ cs) l (41 ∷ x) → (c ≡ 0) × Tail cs l x
tail_close {c} {cs} {l} {x} t = go t.fs t.fits t.each t.is
  where
    go : (fs : List Forest) → Fits (c ∷ cs) fs → Rearranged l (frontiers fs) → 41 ∷ x ≡ bytes fs → (c ≡ 0) × Tail cs l x
    go [] h p e = elim h [ ]
    go (nil ∷ fs) h p e = (omega (arith, h.0), record { fs = fs; fits = h.2; each = p; is = tail-eq_of_cons-eq e })
    go (leaf m f ∷ fs) h p e = absurd (let z = head-eq_of_cons-eq e in omega arith)
    go (node k i f ∷ fs) h p e = absurd (let z = head-eq_of_cons-eq e in omega arith)

close_tail : {c : ℕ} {cs l x : List ℕ} → c ≡ 0 → Tail cs l x → Tail (c ∷ cs) l (41 ∷ x)
close_tail h t = record { fs = nil ∷ t.fs; fits = (omega arith, tt, t.fits); each = t.each; is = ap (◌∷◌ 41) t.is }

tail_byte : {cs l x : List ℕ} (b : ℕ) → Tail cs l (b ∷ x) → (b ≡ 32) ⊎ (b ≡ 41)
tail_byte {cs} {l} {x} b t = go t.fs t.is
  where
    go : (fs : List Forest) → b ∷ x ≡ bytes fs → (b ≡ 32) ⊎ (b ≡ 41)
    go [] e = absurd (let z : ◌≡◌ {A = ℕ} 0 1 = cc in omega arith)
    go (nil ∷ fs) e = inr (head-eq_of_cons-eq e)
    go (leaf m f ∷ fs) e = inl (head-eq_of_cons-eq e)
    go (node k i f ∷ fs) e = inl (head-eq_of_cons-eq e)

-- No node is open.
tail_end : {l x : List ℕ} → Tail [] l x → (x ≡ []) × (l ≡ [])
tail_end {l} {x} t = go t.fs t.fits t.each t.is
  where
    empty : (k : List ℕ) → Rearranged k [] → k ≡ []
    empty [] p = refl
    empty (m ∷ k) p = absurd (omega (arith, perm_length p))

    go : (fs : List Forest) → Fits [] fs → Rearranged l (frontiers fs) → x ≡ bytes fs → (x ≡ []) × (l ≡ [])
    go (_ ∷ _) h p e = elim h [ ]
    go [] h p e = (e, empty l p)

tail_closes : (cs l : List ℕ) {x : List ℕ} → Tail cs l x → closes cs l ≡ true
tail_closes [] [] t = refl
tail_closes [] (m ∷ l) t = absurd (let e = (tail_end t).1 in let z : ◌≡◌ {A = ℕ} 0 1 = cc in omega arith)
tail_closes (c ∷ cs) l t = refl

after_deriv : (cs l : List ℕ) (b : ℕ) → need cs ≤ length l → Deriv (after cs l) b (step_after cs l b)
after_deriv [] l b v = stop (λ x t. let e = (tail_end t).0 in let z : ◌≡◌ {A = ℕ} 0 1 = cc in omega arith)
after_deriv (c ∷ cs) l b v =
    cond_cases (eqb b 32) _ _ (Deriv (after (c ∷ cs) l) b)
    (λ y. let e = eqb-true b 32 y in
    cond_cases (leb (suc (need ((c - 1) ∷ cs))) (length l)) _ _ (Deriv (after (c ∷ cs) l) b)
    (λ h. goes (leb-true (suc (need ((c - 1) ∷ cs))) (length l) h)
    (λ x t. tail_space (subst (λ w. Tail (c ∷ cs) l (w ∷ x)) e t))
    (λ x d. subst (λ w. Tail (c ∷ cs) l (w ∷ x)) (sym e) (space_tail d)))
    (λ h. stop (λ x t. let d = due_need (tail_space (subst (λ w. Tail (c ∷ cs) l (w ∷ x)) e t)) in
    let g = leb-false (suc (need ((c - 1) ∷ cs))) (length l) h in omega arith)))
    (λ n. cond_cases (eqb b 41 && (eqb c 0 && closes cs l)) _ _ (Deriv (after (c ∷ cs) l) b)
    (λ h. let a = and_both (eqb b 41) (eqb c 0 && closes cs l) h in
    let a' = and_both (eqb c 0) (closes cs l) a.1 in
    let e = eqb-true b 41 a.0 in
    let two = eqb-true c 0 a'.0 in
    goes (omega arith, a'.1)
    (λ x t. (tail_close (subst (λ w. Tail (c ∷ cs) l (w ∷ x)) e t)).1)
    (λ x t. subst (λ w. Tail (c ∷ cs) l (w ∷ x)) (sym e) (close_tail two t)))
    (λ h. stop (λ x t. not_there x h (tail_byte b t) t n)))
  where
    not_there : (x : List ℕ) → eqb b 41 && (eqb c 0 && closes cs l) ≡ false → (b ≡ 32) ⊎ (b ≡ 41) → Tail (c ∷ cs) l (b ∷ x) → eqb b 32 ≡ false → ⊥
    not_there x h (inl e) t n = eqb-false b 32 n e
    not_there x h (inr e) t n =
        let q = tail_close (subst (λ w. Tail (c ∷ cs) l (w ∷ x)) e t) in
        let a = and_all (eqb b 41) (eqb c 0) (closes cs l) (eq-eqb b 41 e) (eq-eqb c 0 q.0) (tail_closes cs l q.1) in
        let z : ◌≡◌ {A = ℕ} 0 1 = cc in omega arith

-- A byte that begins a number is a digit.
pub digit_byte : (m b : ℕ) (a t : List ℕ) → digits m ≡ a ++ (b ∷ t) → Digit b
digit_byte m b a t e = at a (subst (All Digit) e (digits_all m))
  where
    at : (a : List ℕ) → All Digit (a ++ (b ∷ t)) → Digit b
    at [] h = h.0
    at (d ∷ a) h = at a h.1

first_byte : (l : List ℕ) → NonEmpty l → (b : ℕ) (x y : List ℕ) → b ∷ x ≡ l ++ y → (t : List ℕ) × (l ≡ b ∷ t) × (x ≡ t ++ y)
first_byte [] h b x y e = elim h [ ]
first_byte (d ∷ l) h b x y e = (l, ap (λ w. w ∷ l) (sym (head-eq_of_cons-eq e)), tail-eq_of_cons-eq e)

letter_high : (k : Kind) → 57 < letter k
letter_high P = omega arith
letter_high C = omega arith

-- An item is due: a node or a leaf.
due_node : {c : ℕ} {cs l x : List ℕ} (b : ℕ) → Letter b → Due c cs l (b ∷ x) → Open ((c - 1) ∷ cs) l x
due_node {c} {cs} {l} {x} b k d = go d.f d.has d.good d.two d.each d.is
  where
    go : (f : Forest) → 1 ≤ length (items f) → Forked f → c ≤ length (items f) → Rearranged l (frontier f ++ frontiers d.fs)
        → b ∷ x ≡ text f ++ (41 ∷ bytes d.fs) → Open ((c - 1) ∷ cs) l x
    go nil h g n p e = absurd (omega arith)
    go (leaf m f) h g n p e =
        let r = first_byte (digits m) (digits_nonempty m) b x (more f ++ (41 ∷ bytes d.fs)) (e ∙ simp append_assoc) in
        let q = digit_byte m b [] r.0 r.1 in
        absurd (omega (arith, letter_high k.0, k.1))
    go (node j i f) h g n p e = record {
      y = text i ++ (41 ∷ (more f ++ (41 ∷ bytes d.fs)));
      is = tail-eq_of_cons-eq e ∙ simp append_assoc;
      then = record {
        f = i;
        fs = f ∷ d.fs;
        has = omega (arith, g.0.0);
        two = omega (arith, g.0.0);
        good = g.0.1;
        fits = (omega arith, g.1, d.fits);
        each = rw append_assoc at p;
        is = refl;
      };
    }

node_due : {c : ℕ} {cs l x : List ℕ} (b : ℕ) → Letter b → Open ((c - 1) ∷ cs) l x → Due c cs l (b ∷ x)
node_due {c} {cs} {l} {x} b k o = go o.then.fs o.then.fits o.then.each (o.is ∙ ap (◌∷◌ 40) o.then.is)
  where
    go : (fs : List Forest) → Fits ((c - 1) ∷ cs) fs → Rearranged l (frontier o.then.f ++ frontiers fs) → x ≡ 40 ∷ (text o.then.f ++ (41 ∷ bytes fs)) → Due c cs l (b ∷ x)
    go [] h p e = elim h [ ]
    go (f ∷ fs) h p e = record {
      f = node k.0 o.then.f f;
      fs = fs;
      has = omega arith;
      two = omega (arith, h.0);
      good = ((omega (arith, o.then.two), o.then.good), h.1);
      fits = h.2;
      each = rw append_assoc p;
      is = ap₂ ◌∷◌ k.1 (e ∙ simp append_assoc);
    }

due_leaf : {c : ℕ} {cs l x : List ℕ} (b : ℕ) → ((k : Kind) → b ≡ letter k → ⊥) → Due c cs l (b ∷ x) → Num (b ∷ []) ((c - 1) ∷ cs) l x
due_leaf {c} {cs} {l} {x} b k d = go l d.f d.has d.good d.two d.each d.is
  where
    go : (l : List ℕ) (f : Forest) → 1 ≤ length (items f) → Forked f → c ≤ length (items f) → Rearranged l (frontier f ++ frontiers d.fs)
        → b ∷ x ≡ text f ++ (41 ∷ bytes d.fs) → Num (b ∷ []) ((c - 1) ∷ cs) l x
    go l nil h g n p e = absurd (omega arith)
    go l (leaf m f) h g n (next {k = j} p q) e =
        let r = first_byte (digits m) (digits_nonempty m) b x (more f ++ (41 ∷ bytes d.fs)) (e ∙ simp append_assoc) in
        record {
          m = m;
          tail = r.0;
          k = j;
          y = more f ++ (41 ∷ bytes d.fs);
          name = r.1;
          pick = p;
          is = r.2;
          then = record { fs = f ∷ d.fs; fits = (omega arith, g, d.fits); each = q; is = refl };
        }
    go l (node j i f) h g n p e = absurd (k j (head-eq_of_cons-eq e))

leaf_due : {c : ℕ} {cs l x : List ℕ} (b : ℕ) → Num (b ∷ []) ((c - 1) ∷ cs) l x → Due c cs l (b ∷ x)
leaf_due {c} {cs} {l} {x} b d = go d.then.fs d.then.fits d.then.each (d.is ∙ ap (λ w. d.tail ++ w) d.then.is)
  where
    go : (fs : List Forest) → Fits ((c - 1) ∷ cs) fs → Rearranged d.k (frontiers fs) → x ≡ d.tail ++ bytes fs → Due c cs l (b ∷ x)
    go [] h p e = elim h [ ]
    go (f ∷ fs) h p e = record {
      f = leaf d.m f;
      fs = fs;
      has = omega arith;
      two = omega (arith, h.0);
      good = h.1;
      fits = h.2;
      each = next d.pick p;
      is = rw d.name (ap (◌∷◌ b) (e ∙ sym (append_assoc d.tail (more f) (41 ∷ bytes fs))));
    }

num_begun : {ds cs l x : List ℕ} → Num ds cs l x → begun ds l ≡ true
num_begun {ds} n = begun_of ds n.tail n.name n.pick

due_deriv : (c : ℕ) (cs l : List ℕ) (b : ℕ) → Viable (due c cs l) → Deriv (due c cs l) b (text_step (due c cs l) b)
unfolding text_step
due_deriv c cs l b v =
    cond_cases (letter? b) _ _ (Deriv (due c cs l) b)
    (λ y. let k = letter_true b y in
    cond_cases (leb (2 + need ((c - 1) ∷ cs)) (length l)) _ _ (Deriv (due c cs l) b)
    (λ h. goes (leb-true (2 + need ((c - 1) ∷ cs)) (length l) h) (λ x d. due_node b k d) (λ x o. node_due b k o))
    (λ h. stop (λ x d. let a = open_need (due_node b k d) in let g = leb-false (2 + need ((c - 1) ∷ cs)) (length l) h in omega arith)))
    (λ n. let k = letter_false b n in
    cond_cases (begun (b ∷ []) l) _ _ (Deriv (due c cs l) b)
    (λ h. goes (v, h) (λ x d. due_leaf b k d) (λ x m. leaf_due b m))
    (λ h. stop (λ x d. let a = num_begun (due_leaf b k d) in let z : ◌≡◌ {A = ℕ} 0 1 = cc in omega arith)))

-- In a number.
num_sep : {ds cs l x : List ℕ} (b : ℕ) → (b ≡ 32) ⊎ (b ≡ 41) → Num ds cs l (b ∷ x) → (m : ℕ) × (k : List ℕ) × (digits m ≡ ds) × Pick m l k × Tail cs k (b ∷ x)
num_sep {ds} {cs} {l} {x} b s n = go n.tail n.name n.is
  where
    low : (b ≡ 32) ⊎ (b ≡ 41) → b < 48
    low (inl e) = omega arith
    low (inr e) = omega arith

    go : (t : List ℕ) → digits n.m ≡ ds ++ t → b ∷ x ≡ t ++ n.y → (m : ℕ) × (k : List ℕ) × (digits m ≡ ds) × Pick m l k × Tail cs k (b ∷ x)
    go [] e i = (n.m, n.k, e ∙ append-nil ds, n.pick, rw i n.then)
    go (d ∷ t) e i = absurd (omega (arith, low s, (digit_byte n.m d ds t e).0, head-eq_of_cons-eq i))

num_digit : {ds cs l x : List ℕ} (b : ℕ) → ((b ≡ 32) ⊎ (b ≡ 41) → ⊥) → Num ds cs l (b ∷ x) → Num (ds ++ (b ∷ [])) cs l x
num_digit {ds} {cs} {l} {x} b s n = go n.tail n.name n.is
  where
    go : (t : List ℕ) → digits n.m ≡ ds ++ t → b ∷ x ≡ t ++ n.y → Num (ds ++ (b ∷ [])) cs l x
    go [] e i = absurd (s (tail_byte {cs = cs} {l = n.k} {x = x} b (rw i n.then)))
    go (d ∷ t) e i = record { m = n.m; tail = t; k = n.k; y = n.y; name = e ∙ rw (head-eq_of_cons-eq i) (simp append_assoc); pick = n.pick; is = tail-eq_of_cons-eq i; then = n.then }

digit_num : {ds cs l x : List ℕ} (b : ℕ) → Num (ds ++ (b ∷ [])) cs l x → Num ds cs l (b ∷ x)
digit_num {ds} b n = record { m = n.m; tail = b ∷ n.tail; k = n.k; y = n.y; name = n.name ∙ simp append_assoc; pick = n.pick; is = ap (◌∷◌ b) n.is; then = n.then }

deriv_map : (s t : TextState) (b : ℕ) (o : Option TextState) → ((x : List ℕ) → Lang s (b ∷ x) → Lang t (b ∷ x))
    → ((x : List ℕ) → Lang t (b ∷ x) → Lang s (b ∷ x)) → Deriv t b o → Deriv s b o
deriv_map s t b none f g (stop h) = stop (λ x l. h x (f x l))
deriv_map s t b (some u) f g (goes v h k) = goes v (λ x l. h x (f x l)) (λ x l. g x (k x l))

tail_perm : {cs j k x : List ℕ} → Rearranged j k → Tail cs k x → Tail cs j x
tail_perm p t = record { fs = t.fs; fits = t.fits; each = perm_trans p t.each; is = t.is }

leaf_deriv : (ds : List ℕ) (c : ℕ) (cs l : List ℕ) (b : ℕ) → suc (need (c ∷ cs)) ≤ length l → (b ≡ 32) ⊎ (b ≡ 41)
    → (o : Option (List ℕ)) → Seek ds l o → Deriv (num ds c cs l) b (step_leaf o c cs b)
leaf_deriv ds c cs l b v s none (miss f) = stop (λ x n. let r = num_sep b s n in f r.0 r.1 r.2 r.3)
leaf_deriv ds c cs l b v s (some j) (hit m e p f) =
    deriv_map (num ds c cs l) (after (c ∷ cs) j) b (step_after (c ∷ cs) j b)
    (λ x n. let r = num_sep b s n in tail_perm (f r.0 r.1 r.2 r.3) r.4)
    (λ x t. record { m = m; tail = []; k = j; y = b ∷ x; name = e ∙ sym (append-nil ds); pick = p; is = refl; then = t })
    (after_deriv (c ∷ cs) j b (omega (arith, pick_length p)))

num_deriv : (ds : List ℕ) (c : ℕ) (cs l : List ℕ) (b : ℕ) → Viable (num ds c cs l) → Deriv (num ds c cs l) b (text_step (num ds c cs l) b)
unfolding text_step
num_deriv ds c cs l b v =
    cond_cases (sep? b) _ _ (Deriv (num ds c cs l) b)
    (λ y. leaf_deriv ds c cs l b v.0 (sep_true b y) (seek ds l) (seek_view ds l))
    (λ n. cond_cases (begun (ds ++ (b ∷ [])) l) _ _ (Deriv (num ds c cs l) b)
    (λ h. goes (v.0, h) (λ x m. num_digit b (sep_false b n) m) (λ x m. digit_num b m))
    (λ h. stop (λ x m. let a = num_begun (num_digit b (sep_false b n) m) in let z : ◌≡◌ {A = ℕ} 0 1 = cc in omega arith)))

open_deriv : (cs l : List ℕ) (b : ℕ) → Viable (open_due cs l) → Deriv (open_due cs l) b (text_step (open_due cs l) b)
unfolding text_step
open_deriv cs l b v =
    cond_cases (eqb b 40) _ _ (Deriv (open_due cs l) b)
    (λ y. goes (omega arith)
    (λ x o. subst (Due 2 cs l) (sym (tail-eq_of_cons-eq o.is)) o.then)
    (λ x d. record { y = x; is = ap (λ w. w ∷ x) (eqb-true b 40 y); then = d }))
    (λ n. stop (λ x o. eqb-false b 40 n (head-eq_of_cons-eq o.is)))

pre_deriv : (ws l : List ℕ) (b : ℕ) → Viable (pre ws l) → Deriv (pre ws l) b (text_step (pre ws l) b)
unfolding text_step
pre_deriv [] l b v =
    cond_cases (letter? b) _ _ (Deriv (pre [] l) b)
    (λ y. let k = letter_true b y in goes (omega arith)
    (λ x o. subst (Open [] l) (sym (tail-eq_of_cons-eq o.is)) o.then)
    (λ x o. record { k = k.0; y = x; is = ap (λ w. w ∷ x) k.1; then = o }))
    (λ n. stop (λ x o. letter_false b n o.k (head-eq_of_cons-eq o.is)))
pre_deriv (w ∷ ws) l b v =
    cond_cases (eqb b w) _ _ (Deriv (pre (w ∷ ws) l) b)
    (λ y. let e = eqb-true b w y in goes v
    (λ x o. record { k = o.k; y = o.y; is = tail-eq_of_cons-eq o.is; then = o.then })
    (λ x o. record { k = o.k; y = o.y; is = ap₂ ◌∷◌ e o.is; then = o.then }))
    (λ n. stop (λ x o. eqb-false b w n (head-eq_of_cons-eq o.is)))

lit_deriv : (ws : List ℕ) (b : ℕ) → Deriv (lit ws) b (text_step (lit ws) b)
unfolding text_step
lit_deriv [] b = stop (λ x e. let z : ◌≡◌ {A = ℕ} 0 1 = cc in omega arith)
lit_deriv (w ∷ ws) b =
    cond_cases (eqb b w) _ _ (Deriv (lit (w ∷ ws)) b)
    (λ y. let h = eqb-true b w y in goes tt (λ x e. tail-eq_of_cons-eq e) (λ x e. ap₂ ◌∷◌ h e))
    (λ n. stop (λ x e. eqb-false b w n (head-eq_of_cons-eq e)))

pub deriv : (s : TextState) → Viable s → (b : ℕ) → Deriv s b (text_step s b)
unfolding text_step
deriv (lit ws) v b = lit_deriv ws b
deriv (pre ws l) v b = pre_deriv ws l b v
deriv (open_due cs l) v b = open_deriv cs l b v
deriv (due c cs l) v b = due_deriv c cs l b v
deriv (num ds c cs l) v b = num_deriv ds c cs l b v
deriv (after cs l) v b = after_deriv cs l b v.0
