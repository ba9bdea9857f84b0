-- The lines of a load's file, from the first word on: the names, and the values of a group with no bin.
use mathlib.Core.Path.{◌≡◌, refl, sym, ap}
use mathlib.Core.List.{List, [], ◌∷◌, ◌++◌, map, append_assoc}
use Prim.Native.Nat.{ℕ, zero, suc, ◌+◌, ◌-◌, ◌*◌, ◌≤◌}
use native.Mathlib.Omega.{arith}
use lib.ListN.{length, length-append}
use Rattle.spec_orders.specs.Lists.{numbers_from}
use Rattle.spec_orders.specs.TreeText.{digits}
use Rattle.file_syntax.specs.RingFile.{Value, off, value_word, further, line}
use Rattle.spec_load.specs.TestLoad.{state_after, next_state, drawn, run, runs, values}
use Rattle.spec_load.proofs.File.{values_length}
use Rattle.load_file.specs.Lines.{name_line, group_line, group_lines}

-- The last name, and a name before others.
pub name_last : (b many : ℕ) → many ≡ 1 → name_line b many ≡ digits b ++ (10 ∷ [])
unfolding name_line
name_last b many e = rw e

pub name_more : (b many : ℕ) → 1 ≤ many → (many ≡ 1 → ⊥) → name_line b many ≡ (digits b ++ (32 ∷ [])) ++ name_line (b + 1) (many - 1)
unfolding name_line
name_more b zero h n = absurd (omega arith)
name_more b (suc zero) h n = absurd (n refl)
name_more b (suc (suc k)) h n =
    let next : b + 1 ≡ suc b = omega arith in
    let left : suc (suc k) - 1 ≡ suc k = omega arith in
    rw (next, left) (sym (append_assoc (digits b) (32 ∷ []) (line (map digits (numbers_from (suc b) (suc k))))))

pub name_more_length : (b many : ℕ) → 1 ≤ many → (many ≡ 1 → ⊥) → length (name_line b many) ≡ length (digits b) + 1 + length (name_line (b + 1) (many - 1))
name_more_length b many h n =
    omega (arith, ap length (name_more b many h n), length-append (digits b ++ (32 ∷ [])) (name_line (b + 1) (many - 1)), length-append (digits b) (32 ∷ []))

pub name-first : (b many : ℕ) → 1 ≤ many → length (digits b) + 1 ≤ length (name_line b many)
unfolding name_line
name-first b zero h = absurd (omega arith)
name-first b (suc zero) h = omega (arith, length-append (digits b) (10 ∷ []))
name-first b (suc (suc k)) h = omega (arith, length-append (digits b) (further (map digits (numbers_from (suc b) (suc k)))))

-- A line of one value, and of more.
pub value-line-length : (vs : List Value) → 1 ≤ length vs → length (line (map value_word vs)) ≡ 2 * length vs
value-line-length [] h = absurd (omega arith)
value-line-length (v ∷ []) h = omega arith
value-line-length (v ∷ w ∷ vs) h = let r = value-line-length (w ∷ vs) (omega arith) in omega (arith, r)

pub group_line-length : (n : ℕ) (group : List ℕ) → 1 ≤ n → length (group_line n group) ≡ 2 * n
unfolding group_line
group_line-length n group h = omega (arith, value-line-length (values n group) (omega (arith, values_length n group)), values_length n group)

-- A group with no bin has the same values from whichever bin on.
no_values : (a b n : ℕ) → map (λ (x : ℕ). off) (numbers_from a n) ≡ map (λ (x : ℕ). off) (numbers_from b n)
no_values a b zero = refl
no_values a b (suc n) = ap (λ vs. off ∷ vs) (no_values (suc a) (suc b) n)

pub empty_last : (n : ℕ) → n ≡ 1 → group_line n [] ≡ 48 ∷ 10 ∷ []
unfolding group_line values
empty_last n e = rw e

pub empty_more : (n : ℕ) → 1 ≤ n → (n ≡ 1 → ⊥) → group_line n [] ≡ 48 ∷ 32 ∷ group_line (n - 1) []
unfolding group_line values
empty_more zero h e = absurd (omega arith)
empty_more (suc zero) h e = absurd (e refl)
empty_more (suc (suc k)) h e =
    let left : suc (suc k) - 1 ≡ suc k = omega arith in
    rw left (ap (λ (vs : List Value). 48 ∷ 32 ∷ 48 ∷ further (map value_word vs)) (no_values 3 2 k))

-- No groups; one group, drawn from the state x on, and then the others.
pub groups_none : (places : List ℕ) (groups x : ℕ) → groups ≡ 0 → group_lines places groups x ≡ []
unfolding group_lines runs
groups_none places groups x e = rw e

pub groups_more : (places : List ℕ) (groups x : ℕ) {y z start many : ℕ} → (groups ≡ 0 → ⊥)
    → y ≡ next_state x → start ≡ drawn x (length places) → z ≡ next_state y → many ≡ drawn y (length places)
    → group_lines places groups x ≡ group_line (length places) (run places start many) ++ group_lines places (groups - 1) z
unfolding group_lines group_line runs state_after
groups_more places zero x n a b c d = absurd (n refl)
groups_more places (suc k) x n a b c d =
    let left : suc k - 1 ≡ k = omega arith in
    rw (left, b, d, c, a)
