-- The file of a load in its two parts, as they are written once the places have the circle: the names, and the lines of the groups.
use mathlib.Core.Path.{◌≡◌, sym, ap, subst, ◌∙◌}
use mathlib.Core.List.{List, ◌++◌}
use Prim.Native.Nat.{ℕ, ◌+◌, ◌-◌, ◌≤◌}
use native.Mathlib.Omega.{arith}
use lib.ListN.{length, length-append}
use Rattle.spec_orders.specs.Lists.{All, numbers_from}
use Rattle.spec_orders.proofs.Members.{in_all}
use Rattle.spec_orders.proofs.Numbers.{in_range}
use Rattle.spec_orders.proofs.Rearranged.{perm_all}
use Rattle.spec_load.specs.TestLoad.{state_after, circle, load, bin_names, load_file}
use Rattle.spec_load.proofs.Circle.{circle_perm, circle-length}
use Rattle.spec_load.proofs.File.{load_fits}
use Rattle.load_file.specs.Lines.{name_line, group_lines, Places}

-- The places have the circle of a load of n bins, and x is the generator's state then.
pub record Parted (n seed groups : ℕ) (places : List ℕ) (x : ℕ) : Type 0 where
  pub many : length places ≡ n
  pub there : Places places
  pub is : load_file n seed groups ≡ name_line 1 (length places) ++ group_lines places groups x
  pub fits : length (name_line 1 (length places)) + length (group_lines places groups x) ≤ 65536

pub parted : (n seed groups : ℕ) {places : List ℕ} {x : ℕ} → places ≡ circle n seed → x ≡ state_after (n - 1) seed → 1 ≤ n → n ≤ 256 → groups ≤ 96
    → Parted n seed groups places x
unfolding load_file load bin_names name_line group_lines
parted n seed groups {places} {x} c s some few most = record {
  many = as_many;
  there = record { some_bin = omega (arith, as_many); bins = bins };
  is = file_is;
  fits = omega (arith, load_fits n seed groups few most, ap length file_is, length-append (name_line 1 (length places)) (group_lines places groups x));
}
  where
    as_many : length places ≡ n
    as_many = ap length c ∙ circle-length n seed

    bins : All (λ b. (1 ≤ b) × (b ≤ length places)) places
    bins = subst (λ (l : List ℕ). All (λ b. (1 ≤ b) × (b ≤ length places)) l) (sym c)
        (perm_all (λ b. (1 ≤ b) × (b ≤ length places)) (circle_perm n seed)
        (in_all (λ b. (1 ≤ b) × (b ≤ length places)) (numbers_from 1 n) (λ b i. let r = in_range 1 n b i in (r.0, omega (arith, r.1, as_many)))))

    file_is : load_file n seed groups ≡ name_line 1 (length places) ++ group_lines places groups x
    file_is = rw (as_many, c, s)
