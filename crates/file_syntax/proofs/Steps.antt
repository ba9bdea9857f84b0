-- The scanner's step as a relation, which byte leads from which state to which, and steps in a row.
use mathlib.Core.Path.{◌≡◌, refl, sym, ◌∙◌, ap, subst}
use mathlib.Core.Bool.{Bool, true, false, cond, ◌&&◌}
use mathlib.Core.List.{List, [], ◌∷◌, ◌++◌}
use mathlib.Core.Option.{Option, none, some}
use Prim.Native.Nat.{ℕ, suc, ◌≤◌, ◌<◌}
use native.Mathlib.Omega.{arith}
use lib.Dec.{eqb, ltb}
use lib.ListN.{length}
use borrow.Author.Tests.{eqb-true, eq-eqb, ltb-true, lt-ltb}
use Rattle.spec_orders.specs.Lists.{In, elem}
use Rattle.spec_orders.proofs.Members.{elem_in, in_elem}
use Rattle.spec_orders.proofs.Tests.{and_both}
use Rattle.file_syntax.specs.RingFile.{alphabet, NameByte, Value, off, on, hyphen, value_byte}
use Rattle.file_syntax.specs.Scanner.{room, is_new, FileState, naming, due, got, Sort, letter, space, end, other, sort, value, when, on_name, on_value, on_got, file_step}
use Rattle.file_syntax.proofs.Words.{new_true, true_new}

pub data Step : FileState → ℕ → FileState → Type 0 where
  name_byte : {ns : List (List ℕ)} {w : List ℕ} {b : ℕ} → NameByte b → room ns (w ++ (b ∷ [])) ≡ true
      → Step (naming ns w) b (naming ns (w ++ (b ∷ [])))
  name_space : {ns : List (List ℕ)} {w : List ℕ} {b : ℕ} → b ≡ 32 → 1 ≤ length w → (In w ns → ⊥) → length ns < 255
      → Step (naming ns w) b (naming (ns ++ (w ∷ [])) [])
  name_end : {ns : List (List ℕ)} {w : List ℕ} {b : ℕ} → b ≡ 10 → 1 ≤ length w → (In w ns → ⊥) → Step (naming ns w) b (due (ns ++ (w ∷ [])) [] [])
  a_value : {ns : List (List ℕ)} {vss : List (List Value)} {vs : List Value} {v : Value} {b : ℕ} → b ≡ value_byte v
      → Step (due ns vss vs) b (got ns vss vs v)
  value_space : {ns : List (List ℕ)} {vss : List (List Value)} {vs : List Value} {v : Value} {b : ℕ} → b ≡ 32 → suc (length vs) < length ns
      → Step (got ns vss vs v) b (due ns vss (vs ++ (v ∷ [])))
  value_end : {ns : List (List ℕ)} {vss : List (List Value)} {vs : List Value} {v : Value} {b : ℕ} → b ≡ 10 → suc (length vs) ≡ length ns
      → Step (got ns vss vs v) b (due ns (vss ++ ((vs ++ (v ∷ [])) ∷ [])) [])

-- What the sort of a byte says.
abbrev Sorted : ℕ → Sort → Type 0
Sorted b letter = NameByte b
Sorted b space = b ≡ 32
Sorted b end = b ≡ 10
Sorted b other = Unit {0}

sorted : (b : ℕ) → Sorted b (sort b)
sorted b = go (elem alphabet b) (eqb b 32) (eqb b 10) refl refl refl
  where
    go : (c d e : Bool) → elem alphabet b ≡ c → eqb b 32 ≡ d → eqb b 10 ≡ e → Sorted b (cond c letter (cond d space (cond e end other)))
    go true d e p q r = elem_in alphabet b p
    go false true e p q r = eqb-true b 32 q
    go false false true p q r = eqb-true b 10 r
    go false false false p q r = tt

sort-letter : (b : ℕ) → NameByte b → sort b ≡ letter
sort-letter b h = ap (λ c. cond c letter (cond (eqb b 32) space (cond (eqb b 10) end other))) (in_elem alphabet b h)

sort_space : sort 32 ≡ space
unfolding alphabet
sort_space = refl

sort_end : sort 10 ≡ end
unfolding alphabet
sort_end = refl

value_some : (b : ℕ) (v : Value) → value b ≡ some v → b ≡ value_byte v
value_some b v e = go (eqb b 48) (eqb b 49) (eqb b 45) refl refl refl e
  where
    go : (c d f : Bool) → eqb b 48 ≡ c → eqb b 49 ≡ d → eqb b 45 ≡ f → cond c (some off) (cond d (some on) (cond f (some hyphen) none)) ≡ some v
        → b ≡ value_byte v
    go true d f p q r h = let o : off ≡ v = cc in eqb-true b 48 p ∙ ap value_byte o
    go false true f p q r h = let o : on ≡ v = cc in eqb-true b 49 q ∙ ap value_byte o
    go false false true p q r h = let o : hyphen ≡ v = cc in eqb-true b 45 r ∙ ap value_byte o
    go false false false p q r h = let z : ◌≡◌ {A = ℕ} 0 1 = cc in absurd (omega arith)

pub value_of_byte : (v : Value) → value (value_byte v) ≡ some v
value_of_byte off = refl
value_of_byte on = refl
value_of_byte hyphen = refl

when_some : (c : Bool) (s t : FileState) → when c s ≡ some t → (c ≡ true) × (s ≡ t)
when_some true s t e = (refl, cc)
when_some false s t e = let z : ◌≡◌ {A = ℕ} 0 1 = cc in absurd (omega arith)

never : {A : Type 0} (t : FileState) → none ≡ some t → A
never t e = let z : ◌≡◌ {A = ℕ} 0 1 = cc in absurd (omega arith)

pub step_relates : (s : FileState) (b : ℕ) (t : FileState) → file_step s b ≡ some t → Step s b t
step_relates (naming ns w) b t e = go (sort b) (sorted b) e
  where
    go : (k : Sort) → Sorted b k → on_name k ns w b ≡ some t → Step (naming ns w) b t
    go letter h q = let r = when_some (room ns (w ++ (b ∷ []))) (naming ns (w ++ (b ∷ []))) t q in subst (λ u. Step (naming ns w) b u) r.1 (name_byte h r.0)
    go space h q =
        let r = when_some (is_new ns w && ltb (length ns) 255) (naming (ns ++ (w ∷ [])) []) t q in
        let f = and_both (is_new ns w) (ltb (length ns) 255) r.0 in
        let n = new_true ns w f.0 in
        subst (λ u. Step (naming ns w) b u) r.1 (name_space h n.0 n.1 (ltb-true (length ns) 255 f.1))
    go end h q =
        let r = when_some (is_new ns w) (due (ns ++ (w ∷ [])) [] []) t q in
        let n = new_true ns w r.0 in
        subst (λ u. Step (naming ns w) b u) r.1 (name_end h n.0 n.1)
    go other h q = never t q
step_relates (due ns vss vs) b t e = go (value b) refl e
  where
    go : (o : Option Value) → value b ≡ o → on_value o ns vss vs ≡ some t → Step (due ns vss vs) b t
    go none p q = never t q
    go (some v) p q = let r : got ns vss vs v ≡ t = cc in subst (λ u. Step (due ns vss vs) b u) r (a_value (value_some b v p))
step_relates (got ns vss vs v) b t e = go (sort b) (sorted b) e
  where
    go : (k : Sort) → Sorted b k → on_got k ns vss vs v ≡ some t → Step (got ns vss vs v) b t
    go letter h q = never t q
    go space h q =
        let r = when_some (ltb (suc (length vs)) (length ns)) (due ns vss (vs ++ (v ∷ []))) t q in
        subst (λ u. Step (got ns vss vs v) b u) r.1 (value_space h (ltb-true (suc (length vs)) (length ns) r.0))
    go end h q =
        let r = when_some (eqb (suc (length vs)) (length ns)) (due ns (vss ++ ((vs ++ (v ∷ [])) ∷ [])) []) t q in
        subst (λ u. Step (got ns vss vs v) b u) r.1 (value_end h (eqb-true (suc (length vs)) (length ns) r.0))
    go other h q = never t q

when_true : (c : Bool) (s : FileState) → c ≡ true → when c s ≡ some s
when_true c s e = ap (λ d. when d s) e

pub relation_steps : {s : FileState} {b : ℕ} {t : FileState} → Step s b t → file_step s b ≡ some t
relation_steps (name_byte {ns = ns} {w = w} {b = b} h r) =
    ap (λ k. on_name k ns w b) (sort-letter b h) ∙ when_true (room ns (w ++ (b ∷ []))) (naming ns (w ++ (b ∷ []))) r
relation_steps (name_space {ns = ns} {w = w} {b = b} e h n f) =
    ap (λ k. on_name k ns w b) (ap sort e ∙ sort_space)
    ∙ when_true (is_new ns w && ltb (length ns) 255) (naming (ns ++ (w ∷ [])) []) (ap (λ c. c && ltb (length ns) 255) (true_new ns w h n) ∙ lt-ltb (length ns) 255 f)
relation_steps (name_end {ns = ns} {w = w} {b = b} e h n) =
    ap (λ k. on_name k ns w b) (ap sort e ∙ sort_end) ∙ when_true (is_new ns w) (due (ns ++ (w ∷ [])) [] []) (true_new ns w h n)
relation_steps (a_value {ns = ns} {vss = vss} {vs = vs} {v = v} e) = ap (λ o. on_value o ns vss vs) (ap value e ∙ value_of_byte v)
relation_steps (value_space {ns = ns} {vss = vss} {vs = vs} {v = v} e h) =
    ap (λ k. on_got k ns vss vs v) (ap sort e ∙ sort_space)
    ∙ when_true (ltb (suc (length vs)) (length ns)) (due ns vss (vs ++ (v ∷ []))) (lt-ltb (suc (length vs)) (length ns) h)
relation_steps (value_end {ns = ns} {vss = vss} {vs = vs} {v = v} e h) =
    ap (λ k. on_got k ns vss vs v) (ap sort e ∙ sort_end)
    ∙ when_true (eqb (suc (length vs)) (length ns)) (due ns (vss ++ ((vs ++ (v ∷ [])) ∷ [])) []) (eq-eqb (suc (length vs)) (length ns) h)

-- Steps in a row.
pub data Run : FileState → List ℕ → FileState → Type 0 where
  done : {s : FileState} → Run s [] s
  then : {s t u : FileState} {b : ℕ} {x : List ℕ} → Step s b t → Run t x u → Run s (b ∷ x) u

pub run-append : {s t u : FileState} {x y : List ℕ} → Run s x t → Run t y u → Run s (x ++ y) u
run-append done r = r
run-append (then k q) r = then k (run-append q r)

-- One byte leads to one state, and the bytes of a run to one.
some_injective : {s t : FileState} → some s ≡ some t → s ≡ t
some_injective e = cc

step_once : {s : FileState} {b : ℕ} {t u : FileState} → Step s b t → Step s b u → t ≡ u
step_once k j = some_injective (sym (relation_steps k) ∙ relation_steps j)

-- What follows the bytes y of a run, from the state to which they lead.
pub run_after : {s t u : FileState} {y z : List ℕ} → Run s y t → Run s (y ++ z) u → Run t z u
run_after done r = r
run_after {u = u} {z = z} (then {x = x} k q) (then j r) = run_after {u = u} {z = z} q (subst (λ v. Run v (x ++ z) u) (step_once j k) r)

pub run_ends : {s u : FileState} → Run s [] u → s ≡ u
run_ends done = refl
