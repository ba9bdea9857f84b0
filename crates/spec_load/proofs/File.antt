-- The file of a load is an accepted ring file of n names and so many lines, it always fits 65,536 bytes, and the groups of its lines, as a reader of
-- ring files finds them, are the load's: so they can hang together.
use mathlib.Core.Path.{◌≡◌, refl, sym, ap, subst, ◌∙◌}
use mathlib.Core.Bool.{Bool, true, false}
use mathlib.Core.List.{List, [], ◌∷◌, ◌++◌, map}
use Prim.Native.Nat.{ℕ, zero, suc, ◌+◌, ◌-◌, ◌*◌, ◌≤◌, ◌<◌}
use native.Mathlib.Omega.{arith}
use native.Mathlib.Nat.{le_trans, mul-le-mul_left, mul-le-mul_right}
use lib.ListN.{length, get_or, length-append, length-map}
use Rattle.spec_orders.specs.Lists.{All, elem, those_of, numbers_from}
use Rattle.spec_orders.specs.declared.Layout.TheVariants.{Ring}
use Rattle.spec_orders.specs.CircularOrder.{Restriction, group_of, Consecutive}
use Rattle.spec_orders.specs.Layout.{AllOn, Possible}
use Rattle.spec_orders.specs.TreeText.{digits}
use Rattle.spec_orders.proofs.Digits.{Digit, digits_all, digits_nonempty, digits_injective, digits-length}
use Rattle.spec_orders.proofs.ListLaws.{all_map}
use Rattle.spec_orders.proofs.Members.{NonEmpty, all_in, in_all, in_right, in_elem, elem_in}
use Rattle.spec_orders.proofs.Numbers.{numbers_length, numbers_distinct, in_range, numbers_in, those_agree, in_those, those_in}
use Rattle.spec_orders.proofs.Tests.{same_tests}
use Rattle.file_syntax.specs.RingFile.{alphabet, NameByte, Name, Names, Value, off, in_group, value_word, further, line, value_lines, file_bytes, Rules, FileHolds, leaves_on}
use Rattle.file_syntax.proofs.Lists.{distinct_map}
use Rattle.file_syntax.proofs.Exact.{parts_once}
use Rattle.spec_load.specs.TestLoad.{load, bin_names, value_of, values, load_file}
use Rattle.spec_load.proofs.Groups.{Group, load-length, load-groups, load_possible, all_of_map}

-- ==== The names

some_digit : (l : List ℕ) → NonEmpty l → 1 ≤ length l
some_digit [] h = absurd h
some_digit (x ∷ l) h = omega arith

digit_byte : (b : ℕ) → Digit b → NameByte b
unfolding alphabet
digit_byte b d =
    in_right b (numbers_from 65 26) (numbers_from 97 26 ++ numbers_from 48 10)
    (in_right b (numbers_from 97 26) (numbers_from 48 10) (numbers_in 48 10 b d.0 (omega (arith, d.1))))

number-name : (v : ℕ) → v < 1000 → Name (digits v)
number-name v h = record {
  some_byte = some_digit (digits v) (digits_nonempty v);
  few_bytes = omega (arith, digits-length v h);
  each = all_map Digit NameByte digit_byte (digits v) (digits_all v);
}

pub bin_names-length : (n : ℕ) → length (bin_names n) ≡ n
unfolding bin_names
bin_names-length n = length-map (numbers_from 1 n) digits ∙ numbers_length 1 n

-- What holds of the digits of each bin's number, up to 256, holds of each name.
all_names : (P : List ℕ → Type 0) (n : ℕ) → n ≤ 256 → ((v : ℕ) → v < 1000 → P (digits v)) → All P (bin_names n)
unfolding bin_names
all_names P n h each = all_of_map P digits (numbers_from 1 n) (in_all (λ v. P (digits v)) (numbers_from 1 n) (λ v i. each v (omega (arith, (in_range 1 n v i).1))))

names_right : (n : ℕ) → 1 ≤ n → n ≤ 256 → Names (bin_names n)
unfolding bin_names
names_right n h g = record {
  some_name = omega (arith, bin_names-length n);
  few_names = omega (arith, bin_names-length n);
  each = all_names Name n g number-name;
  different = distinct_map digits (numbers_from 1 n) (numbers_distinct 1 n) digits_injective;
}

-- ==== The lines

pub values_length : (n : ℕ) (group : List ℕ) → length (values n group) ≡ n
unfolding values
values_length n group = length-map (numbers_from 1 n) (λ b. value_of (elem group b)) ∙ numbers_length 1 n

-- So many values in each line.
load-values : (n seed groups : ℕ) → All (λ vs. length vs ≡ n) (map (values n) (load n seed groups))
load-values n seed groups =
    all_of_map (λ vs. length vs ≡ n) (values n) (load n seed groups) (in_all (λ g. length (values n g) ≡ n) (load n seed groups) (λ g i. values_length n g))

pub load_rules : (n seed groups : ℕ) → 1 ≤ n → n ≤ 256 → Rules (bin_names n) (map (values n) (load n seed groups))
load_rules n seed groups h g = record {
  names = names_right n h g;
  values = all_map (λ vs. length vs ≡ n) (λ vs. length vs ≡ length (bin_names n)) (λ vs e. e ∙ sym (bin_names-length n)) (map (values n) (load n seed groups)) (load-values n seed groups);
}

value_at : (f : ℕ → Value) (a n b : ℕ) → a ≤ b → b < a + n → get_or (map f (numbers_from a n)) (b - a) off ≡ f b
value_at f a zero b h g = absurd (omega arith)
value_at f a (suc n) b h g = go (b - a) refl (value_at f (suc a) n b)
  where
    go : (k : ℕ) → b - a ≡ k → (suc a ≤ b → b < suc a + n → get_or (map f (numbers_from (suc a) n)) (b - suc a) off ≡ f b)
        → get_or (f a ∷ map f (numbers_from (suc a) n)) k off ≡ f b
    go zero e rec = let q : a ≡ b = omega arith in ap f q
    go (suc k) e rec =
        let q : b - suc a ≡ k = omega arith in
        subst (λ (j : ℕ). get_or (map f (numbers_from (suc a) n)) j off ≡ f b) q (rec (omega arith) (omega arith))

in_value : (c : Bool) → in_group (value_of c) ≡ c
in_value true = refl
in_value false = refl

-- The leaves of a group's line are the group's, rising.
pub line-leaves : (n : ℕ) (group : List ℕ) → leaves_on (values n group) ≡ those_of (elem group) (numbers_from 1 n)
unfolding leaves_on values
line-leaves n group =
    ap (λ (k : ℕ). those_of (λ b. in_group (get_or (values n group) (b - 1) off)) (numbers_from 1 k)) (values_length n group)
    ∙ those_agree (λ b. in_group (get_or (values n group) (b - 1) off)) (elem group) 1 n
    (λ b h k. ap in_group (value_at (λ c. value_of (elem group c)) 1 n b h k) ∙ in_value (elem group b))

line_group : (n : ℕ) (group : List ℕ) → Group n group → (x : ℕ) → elem group x ≡ group_of n (leaves_on (values n group)) x
line_group n group w x =
    subst (λ l. elem group x ≡ elem l x) (sym (line-leaves n group))
    (same_tests (elem group x) (elem rising x)
    (λ e. let r = all_in (λ b. (1 ≤ b) × (b ≤ n)) x group w.well_formed.in_range (elem_in group x e) in
    in_elem rising x (those_in (elem group) (numbers_from 1 n) x e (numbers_in 1 n x r.0 (omega (arith, r.1)))))
    (λ e. (in_those (elem group) (numbers_from 1 n) x (elem_in rising x e)).0))
  where
    rising : List ℕ
    rising = those_of (elem group) (numbers_from 1 n)

-- ==== It fits

further_most : (k : ℕ) (ws : List (List ℕ)) → All (λ w. length w ≤ k) ws → length (further ws) ≤ (k + 1) * length ws + 1
further_most k [] h = omega arith
further_most k (w ∷ ws) h = omega (arith, h.0, further_most k ws h.1, length-append w (further ws))

line_most : (k : ℕ) (ws : List (List ℕ)) → All (λ w. length w ≤ k) ws → length (line ws) ≤ (k + 1) * length ws + 1
line_most k [] h = omega arith
line_most k (w ∷ ws) h = omega (arith, h.0, further_most k ws h.1, length-append w (further ws))

names_fit : (n : ℕ) → n ≤ 256 → length (line (bin_names n)) ≤ 1025
names_fit n h = omega (arith, line_most 3 (bin_names n) (all_names (λ w. length w ≤ 3) n h digits-length), bin_names-length n)

values_fit : (n : ℕ) (vss : List (List Value)) → All (λ vs. length vs ≡ n) vss → length (value_lines vss) ≤ (2 * n + 1) * length vss
values_fit n [] h = omega arith
values_fit n (vs ∷ vss) h =
    let l = line_most 1 (map value_word vs) (all_of_map (λ w. length w ≤ 1) value_word vs (in_all (λ v. length (value_word v) ≤ 1) vs (λ v i. omega arith))) in
    omega (arith, l, length-map vs value_word, h.0, values_fit n vss h.1, length-append (line (map value_word vs)) (value_lines vss))

-- At most 1,025 bytes of names, and 513 a line.
pub load_fits : (n seed groups : ℕ) → n ≤ 256 → groups ≤ 96 → length (load_file n seed groups) ≤ 65536
unfolding load_file
load_fits n seed groups h g =
    let vss = map (values n) (load n seed groups) in
    let many : length vss ≡ groups = length-map (load n seed groups) (values n) ∙ load-length n seed groups in
    let long : length (value_lines vss) ≤ (2 * n + 1) * groups = subst (λ (k : ℕ). length (value_lines vss) ≤ (2 * n + 1) * k) many (values_fit n vss (load-values n seed groups)) in
    omega (arith, length-append (line (bin_names n)) (value_lines vss), names_fit n h, long, most n groups h g)
  where
    most : (n groups : ℕ) → n ≤ 256 → groups ≤ 96 → (2 * n + 1) * groups ≤ 513 * 96
    most n groups h g = le_trans (mul-le-mul_left (2 * n + 1) g) (mul-le-mul_right {m = 2 * n + 1} {n = 513} 96 (omega arith))

-- ==== The file

-- A group with the same leaves.
consecutive_same : (G H : Restriction) (ord : List ℕ) → ((x : ℕ) → G x ≡ H x) → Consecutive G ord → Consecutive H ord
consecutive_same G H ord e c = record {
  before = c.before;
  after = c.after;
  run = c.run;
  rest = c.rest;
  cut = c.cut;
  turned = c.turned;
  in_run = all_map (λ x. G x ≡ true) (λ x. H x ≡ true) (λ x q. sym (e x) ∙ q) c.run c.in_run;
  out_rest = all_map (λ x. G x ≡ false) (λ x. H x ≡ false) (λ x q. sym (e x) ∙ q) c.rest c.out_rest;
}

lines_hang : (n : ℕ) (ord : List ℕ) (gs : List (List ℕ)) → All (Group n) gs → AllOn Ring (map (group_of n) gs) ord
    → AllOn Ring (map (λ vs. group_of n (leaves_on vs)) (map (values n) gs)) ord
lines_hang n ord [] w h = tt
lines_hang n ord (g ∷ gs) w h = (
  consecutive_same (group_of n g) (group_of n (leaves_on (values n g))) ord (line_group n g w.0) h.0,
  lines_hang n ord gs w.1 h.1,
)

module _ (n seed groups : ℕ) (some_bin : 1 ≤ n) (few_bins : n ≤ 256) where
  -- The file is accepted, and has just these parts.
  pub load_holds : groups ≤ 96 → FileHolds (load_file n seed groups) n (length (line (bin_names n))) groups
  unfolding load_file
  load_holds few = record {
    ns = bin_names n;
    vss = map (values n) (load n seed groups);
    rules = load_rules n seed groups some_bin few_bins;
    bytes = refl;
    size = load_fits n seed groups few_bins few;
    leaves = sym (bin_names-length n);
    head = refl;
    lines = sym (length-map (load n seed groups) (values n) ∙ load-length n seed groups);
  }

  pub load-parts : (ns : List (List ℕ)) (vss : List (List Value)) → Rules ns vss → load_file n seed groups ≡ file_bytes ns vss
      → (ns ≡ bin_names n) × (vss ≡ map (values n) (load n seed groups))
  unfolding load_file
  load-parts ns vss r e = parts_once ns (bin_names n) vss (map (values n) (load n seed groups)) r (load_rules n seed groups some_bin few_bins) (sym e)

  -- "Every such book can hang together": the groups of the file's lines.
  pub lines_possible : (ns : List (List ℕ)) (vss : List (List Value)) → Rules ns vss → load_file n seed groups ≡ file_bytes ns vss
      → Possible Ring n (map (λ vs. group_of n (leaves_on vs)) vss)
  lines_possible ns vss r e =
      let possible = load_possible n seed groups some_bin in
      subst (λ l. Possible Ring n (map (λ vs. group_of n (leaves_on vs)) l)) (sym (load-parts ns vss r e).1) record {
        order = possible.order;
        is_order = possible.is_order;
        hang = lines_hang n possible.order (load n seed groups) (load-groups n seed groups some_bin) possible.hang;
      }
