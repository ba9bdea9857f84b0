-- Reading a number: how the scanner goes through the rest of its digits.
use Rattle.std.specs.Prelude.{◌≡◌, List, ◌∷◌, ◌++◌, ℕ, ◌≤◌, ◌<◌, length, drop, get_or, set, Result, Ok, Err}
use Rattle.spec_orders.specs.TreeText.{digits}
use Rattle.text_scanner.specs.Scan.{num, after, run_at, refused}
use Rattle.text_scanner.specs.Unused.{unused}
use Rattle.text_number.specs.declared.Numeral.{Numeral}

-- Some mark from a on and before e is 0.
abbrev pub FreeIn : List ℕ → ℕ → ℕ → Type 0
FreeIn used a e = (m : ℕ) × (a ≤ m) × (m < e) × (m < length used) × (get_or used m 0 ≡ 0)

-- From byte `at`, in a number whose digits so far are those of v: the rest of an unused leaf's digits, up to a separator.
pub record LeafRead (x : List ℕ) (at v : ℕ) (used : List ℕ) (r : Numeral) : Type 0 where
  pub tail : List ℕ
  pub name : digits r.leaf ≡ digits v ++ tail
  pub bytes : drop at x ≡ tail ++ drop r.at x
  pub onward : at ≤ r.at
  pub within : r.at ≤ length x
  pub marked : r.leaf < length used
  pub free : get_or used r.leaf 0 ≡ 0
  pub moves : (c : ℕ) (cs : List ℕ) → run_at x at (num (digits v) c cs (unused 0 used)) ≡ run_at x r.at (after (c ∷ cs) (unused 0 (set used r.leaf 1)))

abbrev pub NumberRead : List ℕ → ℕ → ℕ → List ℕ → Result Numeral ℕ → Type 0
NumberRead x at v used (Ok r) = LeafRead x at v used r
NumberRead x at v used (Err p) = (c : ℕ) (cs : List ℕ) → run_at x at (num (digits v) c cs (unused 0 used)) ≡ refused p
