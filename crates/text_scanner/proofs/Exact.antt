-- The scanner's answer is right: accepted texts are those of the shape, and the byte of a refusal is the one asked for.
use mathlib.Core.Path.{◌≡◌, refl, sym, ◌∙◌, ap, subst}
use mathlib.Core.Bool.{true, false, cond}
use mathlib.Core.Option.{Option, none, some}
use mathlib.Core.List.{List, [], ◌∷◌, ◌++◌, append_assoc, head-eq_of_cons-eq}
use Prim.Native.Nat.{ℕ, zero, suc, ◌+◌, ◌*◌, ◌-◌, ◌≤◌, ◌<◌}
use native.Mathlib.Omega.{arith}
use lib.ListN.{length, take}
use Rattle.spec_orders.specs.Lists.{Rearranged, done}
use Rattle.spec_orders.specs.CircularOrder.{others}
use Rattle.spec_orders.specs.Tree.{Forest, nil, leaf, node, items, frontier}
use Rattle.spec_orders.specs.Form.{Single}
use Rattle.spec_orders.specs.TreeText.{digits_in, digits, letter, text, more, tree_text, Shaped, ShapeText, ShapeRefused, Forked}
use Rattle.spec_orders.specs.FirstByte.{at_byte, at_end}
use Rattle.spec_orders.specs.Join.{fresh}
use Rattle.spec_orders.proofs.Rearranged.{perm_length, perm_refl, short_perm}
use Rattle.spec_orders.proofs.Numbers.{numbers_length}
use Rattle.spec_orders.proofs.Forms.{nodes_bound}
use Rattle.spec_orders.proofs.Tests.{cond_cases}
use Rattle.spec_orders.proofs.Members.{nil_not}
use Rattle.text_scanner.specs.Scan.{TextState, lit, pre, open_due, due, num, after, final, text_step, run, run_at, text_start, scan, TextAnswer, accepted, refused}
use Rattle.text_scanner.proofs.Language.{bytes, frontiers, Fits, Tail, Due, Lang, Viable}
use Rattle.text_scanner.proofs.Completion.{finish}
use Rattle.text_scanner.proofs.Derivative.{Deriv, stop, goes, deriv}

-- Refused at the q-th byte of what comes after state s.
data Fails (s : TextState) (x : List ℕ) (q : ℕ) : Type 0 where
  mid : q < length x → ((y : List ℕ) → Lang s (take (suc q) x ++ y) → ⊥) → (y : List ℕ) → Lang s (take q x ++ y) → Fails s x q
  end : q ≡ length x → (Lang s x → ⊥) → (b : ℕ) (y : List ℕ) → Lang s (x ++ (b ∷ y)) → Fails s x q

data Right (s : TextState) (x : List ℕ) (p : ℕ) : TextAnswer → Type 0 where
  ok : Lang s x → Right s x p accepted
  bad : (r q : ℕ) → r ≡ p + q → Fails s x q → Right s x p (refused r)

final_lang : (s : TextState) → Viable s → final s ≡ true → Lang s []
final_lang (lit []) v e = refl
final_lang (lit (w ∷ ws)) v e = absurd (let z : ◌≡◌ {A = ℕ} 0 1 = cc in omega arith)
final_lang (pre ws l) v e = absurd (let z : ◌≡◌ {A = ℕ} 0 1 = cc in omega arith)
final_lang (open_due cs l) v e = absurd (let z : ◌≡◌ {A = ℕ} 0 1 = cc in omega arith)
final_lang (due c cs l) v e = absurd (let z : ◌≡◌ {A = ℕ} 0 1 = cc in omega arith)
final_lang (num ds c cs l) v e = absurd (let z : ◌≡◌ {A = ℕ} 0 1 = cc in omega arith)
final_lang (after [] []) v e = record { fs = []; fits = tt; each = done; is = refl }
final_lang (after [] (m ∷ l)) v e = absurd (let h = v.1 in let z : ◌≡◌ {A = ℕ} 0 1 = cc in omega arith)
final_lang (after (c ∷ cs) l) v e = absurd (let z : ◌≡◌ {A = ℕ} 0 1 = cc in omega arith)

tail_some : {c : ℕ} {cs l x : List ℕ} → Tail (c ∷ cs) l x → (t : List ℕ) → [] ≡ t ++ x → ⊥
tail_some {c} {cs} {l} {x} h t e = go h.fs h.fits h.is
  where
    go : (fs : List Forest) → Fits (c ∷ cs) fs → x ≡ bytes fs → ⊥
    go [] g i = elim g [ ]
    go (f ∷ fs) g i = nil_not (t ++ more f) 41 (bytes fs) (e ∙ ap (λ w. t ++ w) i ∙ sym (append_assoc t (more f) (41 ∷ bytes fs)))

not_final : (s : TextState) → final s ≡ false → Lang s [] → ⊥
not_final (lit []) e h = let z : ◌≡◌ {A = ℕ} 0 1 = cc in omega arith
not_final (lit (w ∷ ws)) e h = nil_not [] w ws h
not_final (pre ws l) e h = nil_not ws (letter h.k) h.y h.is
not_final (open_due cs l) e h = nil_not [] 40 h.y h.is
not_final (due c cs l) e h = nil_not (text h.f) 41 (bytes h.fs) h.is
not_final (num ds c cs l) e h = tail_some h.then h.tail h.is
not_final (after [] l) e h = let z : ◌≡◌ {A = ℕ} 0 1 = cc in omega arith
not_final (after (c ∷ cs) l) e h = tail_some h [] refl

at_the_end : (s : TextState) → Viable s → (p : ℕ) → Right s [] p (cond (final s) accepted (refused p))
at_the_end s v p = cond_cases (final s) accepted (refused p) (Right s [] p)
    (λ y. ok (final_lang s v y))
    (λ n. bad p 0 (omega arith) (more_to_come (finish s v).0 (finish s v).1 n))
  where
    more_to_come : (x : List ℕ) → Lang s x → final s ≡ false → Fails s [] 0
    more_to_come [] h n = absurd (not_final s n h)
    more_to_come (b ∷ x) h n = end refl (not_final s n) b x h

further : (s t : TextState) (b : ℕ) (x : List ℕ) (p : ℕ) → ((y : List ℕ) → Lang s (b ∷ y) → Lang t y) → ((y : List ℕ) → Lang t y → Lang s (b ∷ y))
    → (a : TextAnswer) → Right t x (suc p) a → Right s (b ∷ x) p a
further s t b x p f g accepted (ok h) = ok (g x h)
further s t b x p f g (refused _) (bad r q e h) = bad r (suc q) (omega arith) (up h)
  where
    up : Fails t x q → Fails s (b ∷ x) (suc q)
    up (mid l no_text y some-text) = mid (omega arith) (λ z h. no_text z (f _ h)) y (g _ some-text)
    up (end l n c y h) = end (omega arith) (λ h. n (f x h)) c y (g _ h)

after_step : (s : TextState) → Viable s → (b : ℕ) (x : List ℕ) (p : ℕ) → ((t : TextState) → Viable t → Right t x (suc p) (run x (suc p) t))
    → (o : Option TextState) → Deriv s b o → Right s (b ∷ x) p (elim o [ none ↦ refused p | some t ↦ run x (suc p) t ])
after_step s v b x p rec none (stop h) = bad p 0 (omega arith) (mid (omega arith) (λ y l. h y l) (finish s v).0 (finish s v).1)
after_step s v b x p rec (some t) (goes w f g) = further s t b x p f g (run x (suc p) t) (rec t w)

run-right : (x : List ℕ) (p : ℕ) (s : TextState) → Viable s → Right s x p (run x p s)
unfolding run
run-right [] p s v = at_the_end s v p
run-right (b ∷ x) p s v = after_step s v b x p (λ t w. run-right x (suc p) t w) (text_step s b) (deriv s v b)

-- The start: what hangs at leaf 1 is nothing (n = 1), leaf 2 (n = 2), or a node.
pub others-length : (n : ℕ) → length (others n) ≡ n - 1
others-length zero = refl
others-length (suc n) = omega (arith, numbers_length 2 n)

to_text : (n : ℕ) (x : List ℕ) → Lang (pre (49 ∷ 32 ∷ []) (others n)) x → ShapeText n x
unfolding tree_text
to_text n x h =
    go h.then.then.fs h.then.then.fits h.then.then.each
    (h.is ∙ ap (λ w. 49 ∷ 32 ∷ letter h.k ∷ w) (h.then.is ∙ ap (◌∷◌ 40) h.then.then.is))
  where
    d : Due 2 [] (others n) h.then.y
    d = h.then.then

    go : (fs : List Forest) → Fits [] fs → Rearranged (others n) (frontier d.f ++ frontiers fs)
        → x ≡ 49 ∷ 32 ∷ letter h.k ∷ 40 ∷ (text d.f ++ (41 ∷ bytes fs)) → ShapeText n x
    go (_ ∷ _) g p e = elim g [ ]
    go [] g p e = record { tree = node h.k d.f nil; shaped = record { single = tt; forked = ((omega (arith, d.two), d.good), tt); all_leaves = p }; bytes = e }

of_text : (n : ℕ) → 3 ≤ n → (x : List ℕ) → ShapeText n x → Lang (pre (49 ∷ 32 ∷ []) (others n)) x
unfolding tree_text
of_text n b x t = go t.tree t.shaped.single t.shaped.forked t.shaped.all_leaves t.bytes
  where
    go : (f : Forest) → Single (items f) → Forked f → Rearranged (others n) (frontier f) → x ≡ tree_text f → Lang (pre (49 ∷ 32 ∷ []) (others n)) x
    go (leaf m (leaf _ _)) s g p e = elim s [ ]
    go (leaf m (node _ _ _)) s g p e = elim s [ ]
    go (node k i (leaf _ _)) s g p e = elim s [ ]
    go (node k i (node _ _ _)) s g p e = elim s [ ]
    go nil s g p e = absurd (omega (arith, perm_length p, others-length n))
    go (leaf m nil) s g p e = absurd (omega (arith, perm_length p, others-length n))
    go (node k i nil) s g p e = record {
      k = k;
      y = 40 ∷ (text i ++ (41 ∷ []));
      is = e;
      then = record {
        y = text i ++ (41 ∷ []);
        is = refl;
        then = record { f = i; fs = []; has = omega (arith, g.0.0); two = omega (arith, g.0.0); good = g.0.1; fits = tt; each = p; is = refl };
      };
    }

-- A node has two leaves or more.
node_long : (n : ℕ) (f : Forest) → Shaped n f → length (items f) ≤ length (others n)
node_long n f s = omega (arith, perm_length s.all_leaves, nodes_bound f s.forked)

one-text : (n : ℕ) → n ≤ 1 → (f : Forest) → Shaped n f → f ≡ nil
one-text n b nil s = refl
one-text n b (leaf m f) s = absurd (omega (arith, others-length n, node_long n (leaf m f) s))
one-text n b (node k i f) s = absurd (omega (arith, others-length n, node_long n (node k i f) s))

two_text : (f : Forest) → Shaped 2 f → f ≡ leaf 2 nil
two_text f s = go f s.single s.forked s.all_leaves
  where
    go : (f : Forest) → Single (items f) → Forked f → Rearranged (2 ∷ []) (frontier f) → f ≡ leaf 2 nil
    go (leaf b (leaf _ _)) o g p = elim o [ ]
    go (leaf b (node _ _ _)) o g p = elim o [ ]
    go (node k i (leaf _ _)) o g p = elim o [ ]
    go (node k i (node _ _ _)) o g p = elim o [ ]
    go nil o g p = absurd (omega (arith, perm_length p))
    go (leaf b nil) o g p = ap (λ x. leaf x nil) (head-eq_of_cons-eq (short_perm p (omega arith)))
    go (node k i nil) o g p = absurd (omega (arith, perm_length p, nodes_bound (node k i nil) g, g.0.0))

start_to : (n : ℕ) (x : List ℕ) → Lang (text_start n) x → ShapeText n x
unfolding tree_text digits digits_in
start_to zero x h = record { tree = nil; shaped = record { single = tt; forked = tt; all_leaves = done }; bytes = h }
start_to (suc zero) x h = record { tree = nil; shaped = record { single = tt; forked = tt; all_leaves = done }; bytes = h }
start_to (suc (suc zero)) x h = record { tree = leaf 2 nil; shaped = record { single = tt; forked = tt; all_leaves = perm_refl (2 ∷ []) }; bytes = h }
start_to (suc (suc (suc k))) x h = to_text (suc (suc (suc k))) x h

start_of : (n : ℕ) (x : List ℕ) → ShapeText n x → Lang (text_start n) x
unfolding tree_text digits digits_in
start_of zero x t = t.bytes ∙ ap tree_text (one-text 0 (omega arith) t.tree t.shaped)
start_of (suc zero) x t = t.bytes ∙ ap tree_text (one-text 1 (omega arith) t.tree t.shaped)
start_of (suc (suc zero)) x t = t.bytes ∙ ap tree_text (two_text t.tree t.shaped)
start_of (suc (suc (suc k))) x t = of_text (suc (suc (suc k))) (omega arith) x t

start_viable : (n : ℕ) → Viable (text_start n)
start_viable zero = tt
start_viable (suc zero) = tt
start_viable (suc (suc zero)) = tt
start_viable (suc (suc (suc k))) = omega (arith, others-length (suc (suc (suc k))))

-- The theorem: the answer is `accepted` for a text of the shape, and else `refused` at the byte of document 01.
pub data Exact (n : ℕ) (x : List ℕ) : TextAnswer → Type 0 where
  is_text : ShapeText n x → Exact n x accepted
  at : (p : ℕ) → ShapeRefused n x p → Exact n x (refused p)

pub scan_exact : (n : ℕ) (x : List ℕ) → Exact n x (scan n x)
unfolding scan
scan_exact n x = go (run x 0 (text_start n)) (run-right x 0 (text_start n) (start_viable n))
  where
    fails : (q : ℕ) → Fails (text_start n) x q → ShapeRefused n x q
    fails q (mid l none-begins y some-begins) = at_byte l (y, start_to n _ some-begins) (λ t. none-begins t.0 (start_of n _ t.1))
    fails q (end l none_is c y h) = at_end l (c ∷ y, start_to n _ h) (λ t. none_is (start_of n x t))

    go : (a : TextAnswer) → Right (text_start n) x 0 a → Exact n x a
    go accepted (ok h) = is_text (start_to n x h)
    go (refused _) (bad r q e f) = at r (subst (ShapeRefused n x) (sym (e ∙ omega arith)) (fails q f))

-- The answer from the text's start on.
pub refused_shape : (n : ℕ) (x : List ℕ) (p : ℕ) → run_at x 0 (text_start n) ≡ refused p → ShapeRefused n x p
unfolding run_at scan
refused_shape n x p = go (scan n x) (scan_exact n x)
  where
    go : (a : TextAnswer) → Exact n x a → a ≡ refused p → ShapeRefused n x p
    go accepted (is_text t) e = absurd (let z : ◌≡◌ {A = ℕ} 0 1 = cc in omega arith)
    go (refused _) (at q r) e = let z : q ≡ p = cc in subst (ShapeRefused n x) z r

pub accepted_shape : (n : ℕ) (x : List ℕ) → run_at x 0 (text_start n) ≡ accepted → ShapeText n x
unfolding run_at scan
accepted_shape n x = go (scan n x) (scan_exact n x)
  where
    go : (a : TextAnswer) → Exact n x a → a ≡ accepted → ShapeText n x
    go accepted (is_text t) e = t
    go (refused _) (at q r) e = absurd (let z : ◌≡◌ {A = ℕ} 0 1 = cc in omega arith)

pub start_pre : (n : ℕ) → 3 ≤ n → text_start n ≡ pre (49 ∷ 32 ∷ []) (others n)
start_pre zero h = absurd (omega arith)
start_pre (suc zero) h = absurd (omega arith)
start_pre (suc (suc zero)) h = absurd (omega arith)
start_pre (suc (suc (suc k))) h = refl

-- For n = 1 and n = 2 there is one text.
pub start_word : (n : ℕ) → 1 ≤ n → n ≤ 2 → text_start n ≡ lit (take (2 * n - 1) (49 ∷ 32 ∷ 50 ∷ []))
start_word zero h g = absurd (omega arith)
start_word (suc zero) h g = refl
start_word (suc (suc zero)) h g = refl
start_word (suc (suc (suc k))) h g = absurd (omega arith)

pub short-tree : (n : ℕ) → 1 ≤ n → n ≤ 2 → (t : Forest) → Shaped n t → t ≡ fresh n
unfolding fresh
short-tree zero h g t s = absurd (omega arith)
short-tree (suc zero) h g t s = one-text 1 (omega arith) t s
short-tree (suc (suc zero)) h g t s = two_text t s
short-tree (suc (suc (suc k))) h g t s = absurd (omega arith)
