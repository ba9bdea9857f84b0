-- Where the values of an accepted file stand, and that the readers find them there.
use mathlib.Core.Path.{◌≡◌, refl, sym, ◌∙◌, ap}
use mathlib.Core.Logic.{◌⊎◌, inl, inr}
use mathlib.Core.Bool.{Bool, true, false, ◌&&◌}
use mathlib.Core.List.{List, [], ◌∷◌, ◌++◌, map}
use Prim.Native.Nat.{ℕ, zero, suc, ◌+◌, ◌-◌, ◌*◌, ◌/◌, ◌≤◌, ◌<◌}
use native.Mathlib.Omega.{arith}
use native.Mathlib.Nat.{mul-le-mul_right, le-div_iff_mul-le}
use lib.Dec.{eqb, leb}
use lib.ListN.{length, length-append, length-take, length-drop, take, drop, get_or, get_or-eq_default}
use lib.Seq.{take_at, drop-append-add}
use borrow.Author.Tests.{lt-ltb, le-leb, leb-true, leb-false}
use Rattle.spec_orders.specs.Lists.{All, those_of, numbers_from}
use Rattle.spec_orders.proofs.Tests.{and_both, false_if, cond_cases}
use Rattle.spec_orders.proofs.Numbers.{those_agree}
use Rattle.spec_orders.proofs.ListLaws.{none_of_length, all_at}
use Rattle.file_syntax.proofs.FirstLine.{words_file}
use Rattle.file_read.specs.RingFile.{Name, Value, off, on, hyphen, value_byte, in_group, value_word, further, line, value_lines, leaves_on, Rules, FileHolds, place_of, words_in, name_in, name_start, line_in, value_in, group_in}

-- The values.
length-values : (vs : List Value) → 1 ≤ length vs → length (line (map value_word vs)) ≡ 2 * length vs
length-values [] h = absurd (omega arith)
length-values (v ∷ vs) h = go vs
  where
    go : (us : List Value) → suc (length (further (map value_word us))) ≡ 2 * suc (length us)
    go [] = refl
    go (u ∷ us) = omega (arith, go us)

byte_in : (vs : List Value) (i : ℕ) → i < length vs → get_or (line (map value_word vs)) (2 * i) 0 ≡ value_byte (get_or vs i off)
byte_in [] i h = absurd (omega arith)
byte_in (v ∷ vs) zero h = refl
byte_in (v ∷ []) (suc i) h = absurd (omega arith)
byte_in (v ∷ (u ∷ us)) (suc i) h =
    let e : 2 * suc i ≡ suc (suc (2 * i)) = omega arith in
    ap (λ j. get_or (line (map value_word (v ∷ (u ∷ us)))) j 0) e ∙ byte_in (u ∷ us) i (omega arith)

mark_is : (v : Value) → eqb (value_byte v) 49 ≡ in_group v
mark_is off = refl
mark_is on = refl
mark_is hyphen = refl

-- The lines.
module _ (m : ℕ) (some : 1 ≤ m) where
  length-lines : (vss : List (List Value)) → All (λ vs. length vs ≡ m) vss → length (value_lines vss) ≡ length vss * (2 * m)
  length-lines [] k = omega arith
  length-lines (vs ∷ vss) k =
      let s : 2 * length vs ≡ 2 * m = omega (arith, k.0) in
      omega (arith, length-append (line (map value_word vs)) (value_lines vss), length-values vs (omega (arith, k.0)), length-lines vss k.1)

  one_line : (vss : List (List Value)) (l : ℕ) → All (λ vs. length vs ≡ m) vss → l < length vss
      → take (2 * m) (drop (l * (2 * m)) (value_lines vss)) ≡ line (map value_word (get_or vss l []))
  one_line [] l k p = absurd (omega arith)
  one_line (vs ∷ vss) zero k p =
      let e : 0 * (2 * m) ≡ 0 = omega arith in
      rw e (take_at (line (map value_word vs)) (value_lines vss) (2 * m) (omega (arith, length-values vs (omega (arith, k.0)), k.0)))
  one_line (vs ∷ vss) (suc l) k p =
      let e : suc l * (2 * m) ≡ length (line (map value_word vs)) + l * (2 * m) = omega (arith, length-values vs (omega (arith, k.0)), k.0) in
      ap (λ j. take (2 * m) (drop j (line (map value_word vs) ++ value_lines vss))) e
      ∙ ap (λ y. take (2 * m) y) (drop-append-add (line (map value_word vs)) (value_lines vss) (l * (2 * m))) ∙ one_line vss l k.1 (omega arith)

-- A line has a byte, so there are no more lines than bytes.
pub line_some : (ws : List (List ℕ)) → 1 ≤ length (line ws)
line_some [] = omega arith
line_some (w ∷ []) = omega (arith, length-append w (further []))
line_some (w ∷ (v ∷ ws)) = omega (arith, length-append w (further (v ∷ ws)))

pub lines_long : (vss : List (List Value)) → length vss ≤ length (value_lines vss)
lines_long [] = omega arith
lines_long (vs ∷ vss) = omega (arith, length-append (line (map value_word vs)) (value_lines vss), lines_long vss, line_some (map value_word vs))

-- Every line has a value for each name.
pub line-length : (ns : List (List ℕ)) (vss : List (List Value)) (l : ℕ) → Rules ns vss → l < length vss → length (get_or vss l []) ≡ length ns
line-length ns vss l r = all_at (λ vs. length vs ≡ length ns) [] vss l r.values

-- Any bytes and any numbers: where the line stands, and where there is none.
module _ (x : List ℕ) (n h l : ℕ) where
  abbrev pub WholeLine : Type 0
  WholeLine = (n ≤ 256) × (h + suc l * (2 * n) ≤ length x)

  pub line_is : WholeLine → line_in x n h l ≡ take (2 * n) (drop (h + l * (2 * n)) x)
  unfolding line_in
  line_is s = rw (le-leb n 256 s.0, le-leb (h + suc l * (2 * n)) (length x) s.1)

  pub line_none : (WholeLine → ⊥) → line_in x n h l ≡ []
  unfolding line_in
  line_none s = rw (false_if (leb n 256 && leb (h + suc l * (2 * n)) (length x)) (λ e. let b = and_both (leb n 256) (leb (h + suc l * (2 * n)) (length x)) e in s (leb-true n 256 b.0, leb-true (h + suc l * (2 * n)) (length x) b.1)))

  pub line_or_none : (WholeLine × (length (line_in x n h l) ≡ 2 * n)) ⊎ (line_in x n h l ≡ [])
  line_or_none = go (leb n 256) (leb (h + suc l * (2 * n)) (length x)) refl refl
    where
      go : (c d : Bool) → leb n 256 ≡ c → leb (h + suc l * (2 * n)) (length x) ≡ d → (WholeLine × (length (line_in x n h l) ≡ 2 * n)) ⊎ (line_in x n h l ≡ [])
      go true true p q =
          let s : WholeLine = (leb-true n 256 p, leb-true (h + suc l * (2 * n)) (length x) q) in
          inl (s, ap length (line_is s) ∙ omega (arith, s.1, length-take (2 * n) (drop (h + l * (2 * n)) x), length-drop (h + l * (2 * n)) x))
      go true false p q = inr (line_none (λ s. omega (arith, s.1, leb-false (h + suc l * (2 * n)) (length x) q)))
      go false d p q = inr (line_none (λ s. omega (arith, s.0, leb-false n 256 p)))

  -- As the code finds it, by dividing.
  pub line_past : 1 ≤ n → h ≤ length x → (length x - h) / (2 * n) ≤ l → WholeLine → ⊥
  line_past s a q i =
      let d : suc l ≤ (length x - h) / (2 * n) = (le-div_iff_mul-le {k = 2 * n} {x = suc l} {y = length x - h} (omega arith)).1 (omega (arith, i.1)) in
      omega arith

  pub line_there : 1 ≤ n → n ≤ 256 → h ≤ length x → l < (length x - h) / (2 * n) → WholeLine
  line_there s m a q =
      let d : suc l * (2 * n) ≤ length x - h = (le-div_iff_mul-le {k = 2 * n} {x = suc l} {y = length x - h} (omega arith)).0 q in
      (m, omega arith)

  pub line_zero : n ≡ 0 → line_in x n h l ≡ []
  unfolding line_in
  line_zero e = rw e (cond_cases (leb 0 256 && leb (h + suc l * (2 * 0)) (length x)) [] [] (λ y. y ≡ []) (λ c. refl) (λ c. refl))

  -- With a line of no byte no value is `1`.
  pub value_none : line_in x n h l ≡ [] → (i : ℕ) → value_in x n h l i ≡ false
  unfolding value_in
  value_none e i = rw e

  pub value_past : (i : ℕ) → length (line_in x n h l) ≤ 2 * i → value_in x n h l i ≡ false
  unfolding value_in
  value_past i m = rw (get_or-eq_default (line_in x n h l) 0 m)

  pub group_none : line_in x n h l ≡ [] → group_in x n h l ≡ []
  unfolding group_in
  group_none e = those_agree (λ b. value_in x n h l (b - 1)) (λ b. false) 1 n (λ b p q. value_none e (b - 1)) ∙ go (numbers_from 1 n)
    where
      go : (bs : List ℕ) → those_of (λ b. false) bs ≡ []
      go [] = refl
      go (b ∷ bs) = go bs

-- The same of the bytes v that were found.
module _ (x : List ℕ) (n h l : ℕ) (v : List ℕ) (e : v ≡ line_in x n h l) where
  pub no_byte : length v ≡ 0 → line_in x n h l ≡ []
  no_byte z = sym e ∙ none_of_length v z

  pub all_bytes : (length v ≡ 0 → ⊥) → (n ≤ 256) × (length v ≡ 2 * n)
  all_bytes z = go (line_or_none x n h l)
    where
      go : (WholeLine x n h l × (length (line_in x n h l) ≡ 2 * n)) ⊎ (line_in x n h l ≡ []) → (n ≤ 256) × (length v ≡ 2 * n)
      go (inl s) = (s.0.0, ap length e ∙ s.1)
      go (inr s) = absurd (z (ap length (e ∙ s)))

  pub value_read : (i : ℕ) → value_in x n h l i ≡ eqb (get_or v (2 * i) 0) 49
  unfolding value_in
  value_read i = ap (λ w. eqb (get_or w (2 * i) 0) 49) (sym e)

-- An accepted file: its names, values and groups, and nothing past its lines.
module _ {x : List ℕ} {n h k : ℕ} (f : FileHolds x n h k) where
  pub names_held : words_in x ≡ f.ns
  names_held = words_file f.ns f.vss x f.rules f.bytes

  pub name_held : (i : ℕ) → name_in x i ≡ get_or f.ns i []
  unfolding name_in
  name_held i = ap (λ ws. get_or ws i []) names_held

  -- A name has at most 8 bytes.
  pub name_few : (i : ℕ) → i < n → length (get_or f.ns i []) ≤ 8
  name_few i l = (all_at Name [] f.ns i f.rules.names.each (omega (arith, f.leaves))).few_bytes

  pub start_held : (i : ℕ) → i < n → name_start x i ≡ place_of f.ns i
  unfolding name_start
  start_held i p = rw (names_held, lt-ltb i (length f.ns) (omega (arith, f.leaves)))

  size_held : length x ≡ h + k * (2 * n)
  size_held =
      let e = length-lines (length f.ns) f.rules.names.some_name f.vss f.rules.values in
      rw (f.bytes, f.leaves, f.head, f.lines) (omega (arith, e, length-append (line f.ns) (value_lines f.vss)))

  line_held : (l : ℕ) → l < k → line_in x n h l ≡ line (map value_word (get_or f.vss l []))
  line_held l p =
      line_is x n h l (omega (arith, f.leaves, f.rules.names.few_names), omega (arith, size_held, mul-le-mul_right (2 * n) p))
      ∙ rw (f.bytes, f.leaves, f.head)
      (ap (λ y. take (2 * length f.ns) y) (drop-append-add (line f.ns) (value_lines f.vss) (l * (2 * length f.ns)))
      ∙ one_line (length f.ns) f.rules.names.some_name f.vss l f.rules.values (omega (arith, f.lines)))

  pub value_held : (l i : ℕ) → l < k → i < n → value_in x n h l i ≡ in_group (get_or (get_or f.vss l []) i off)
  unfolding value_in
  value_held l i p q =
      ap (λ y. eqb (get_or y (2 * i) 0) 49) (line_held l p)
      ∙ ap (λ b. eqb b 49) (byte_in (get_or f.vss l []) i (omega (arith, f.leaves, line-length f.ns f.vss l f.rules (omega (arith, f.lines)))))
      ∙ mark_is (get_or (get_or f.vss l []) i off)

  pub group_held : (l : ℕ) → l < k → group_in x n h l ≡ leaves_on (get_or f.vss l [])
  unfolding group_in leaves_on
  group_held l p =
      let e : n ≡ length (get_or f.vss l []) = f.leaves ∙ sym (line-length f.ns f.vss l f.rules (omega (arith, f.lines))) in
      those_agree (λ b. value_in x n h l (b - 1)) (λ b. in_group (get_or (get_or f.vss l []) (b - 1) off)) 1 n (λ b r s. value_held l (b - 1) p (omega arith))
      ∙ ap (λ m. those_of (λ b. in_group (get_or (get_or f.vss l []) (b - 1) off)) (numbers_from 1 m)) e

  no_line : (l : ℕ) → k ≤ l → line_in x n h l ≡ []
  no_line l p =
      line_none x n h l (λ s. omega (arith, s.1, size_held, mul-le-mul_right (2 * n) p, f.leaves, f.rules.names.some_name))

  pub no_value : (l i : ℕ) → k ≤ l → value_in x n h l i ≡ false
  no_value l i p = value_none x n h l (no_line l p) i

  pub no_group : (l : ℕ) → k ≤ l → group_in x n h l ≡ []
  no_group l p = group_none x n h l (no_line l p)
