-- The lines of a test load's file, as its writers take them.
use Rattle.std.specs.Prelude.{◌≡◌, List, ◌++◌, map, ℕ, ◌≤◌, length}
use Rattle.spec_orders.specs.Lists.{All, numbers_from}
use Rattle.spec_orders.specs.TreeText.{digits}
use Rattle.file_syntax.specs.RingFile.{value_word, line, value_lines}
use Rattle.spec_load.specs.TestLoad.{runs, values}

-- The names of so many bins from b on.
unfoldable pub name_line : ℕ → ℕ → List ℕ
name_line b many = line (map digits (numbers_from b many))

-- The values of a group of n bins.
unfoldable pub group_line : ℕ → List ℕ → List ℕ
group_line n group = line (map value_word (values n group))

-- The values of so many groups, drawn from the state x on.
unfoldable pub group_lines : List ℕ → ℕ → ℕ → List ℕ
group_lines places groups x = value_lines (map (values (length places)) (runs places (length places) groups x))

-- On each of n places, some, stands a bin from 1 to n.
pub record Places (places : List ℕ) : Type 0 where
  pub some_bin : 1 ≤ length places
  pub bins : All (λ b. (1 ≤ b) × (b ≤ length places)) places

-- Where old begins with the line of a group, new begins with that of the group with the bins too, and goes on as old does.
abbrev pub Marked : ℕ → List ℕ → List ℕ → List ℕ → Type 0
Marked n bins old new = (group rest : List ℕ) → old ≡ group_line n group ++ rest → new ≡ group_line n (group ++ bins) ++ rest
