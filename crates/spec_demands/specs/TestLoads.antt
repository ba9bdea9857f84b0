-- A test load from one number: what is to be shown of it. No theorem states it yet.
use Rattle.std.specs.Prelude.{◌≡◌, ◌≢◌, ◌⊎◌, List, map, ℕ, ◌^◌, ◌≤◌, ◌<◌, length, take, drop}
use Rattle.std.proofs.Math.Option.{some}
use Rattle.spec_orders.specs.Lists.{All, numbers_from}
use Rattle.spec_orders.specs.declared.Layout.TheVariants.{Ring}
use Rattle.spec_orders.specs.CircularOrder.{group_of}
use Rattle.spec_orders.specs.Tree.{Forest}
use Rattle.spec_orders.specs.TreeText.{digits}
use Rattle.spec_orders.specs.Layout.{Possible}
use Rattle.spec_orders.specs.Join.{fresh, joins}
use Rattle.file_syntax.specs.RingFile.{hyphen, FileHolds, leaves_on}
use Rattle.spec_load.specs.TestLoad.{state_after, load_file}
use Rattle.spec_calls.specs.Tables.{padded}
use Rattle.spec_calls.specs.Refusals.{Reply, reply}
use Rattle.spec_calls.specs.Calls.{test_load_refusal}
use Rattle.spec_calls.specs.Demands.{LoadGiven}
use Rattle.spec_calls.specs.Promises.{TestLoadPromise}
use Rattle.spec_demands.specs.Demands.{ByTheTable}

-- The numbers and the bytes that are given are 1 to 256 bins, a seed that is not 0, 1 to 96 groups and 65,536 bytes (`LoadGiven`). The four refusals,
-- "in that order right after 1; fewer lent bytes meet 2".
pub record LoadRefused (n seed groups : ℕ) (bytes : List ℕ) (said : Reply) : Type 0 where
  pub by_1 : (n ≡ 0) ⊎ (256 < n) → said ≡ reply 1 0
  pub by_16 : 1 ≤ n → n ≤ 256 → seed ≡ 0 → said ≡ reply 16 0
  pub by_17 : 1 ≤ n → n ≤ 256 → 1 ≤ seed → (groups ≡ 0) ⊎ (96 < groups) → said ≡ reply 17 0
  pub by_2 : 1 ≤ n → n ≤ 256 → 1 ≤ seed → 1 ≤ groups → groups ≤ 96 → length bytes < 65536 → said ≡ reply 2 0

-- "A ring file with bin numbers as names and no hyphens": it is accepted, with n names and so many lines. (Its bytes tell its names and values:
-- file_syntax/proofs/Exact, `parts_once`.) "Every such book can hang together": one ring order hangs together the groups of all its lines; so, joined
-- to a fresh ring one after another, none is refused.
pub record LoadFile (n groups : ℕ) (file : List ℕ) : Type 0 where
  pub head : ℕ
  pub accepted : FileHolds file n head groups
  pub names : accepted.ns ≡ map digits (numbers_from 1 n)
  pub no_hyphens : All (λ vs. All (λ v. v ≢ hyphen) vs) accepted.vss
  pub possible : Possible Ring n (map (λ vs. group_of n (leaves_on vs)) accepted.vss)
  pub all_join : (t : Forest) × (joins (map (λ vs. group_of n (leaves_on vs)) accepted.vss) (fresh n) ≡ some t)

-- "In 65,536 lent bytes, zero after its length, which is returned." What is past them stays.
pub record LoadWritten (n seed groups : ℕ) (bytes bytes' : List ℕ) (said : Reply) : Type 0 where
  pub returned : said ≡ reply 0 (length (load_file n seed groups))
  pub zero_after : take 65536 bytes' ≡ padded 65536 (load_file n seed groups)
  pub past : drop 65536 bytes' ≡ drop 65536 bytes
  -- What a reader of so many bytes finds.
  pub the_file : take said.value bytes' ≡ load_file n seed groups
  pub is_file : LoadFile n groups (take said.value bytes')

pub record TestLoads : Type 0 where
  -- The first demand, of this call.
  pub refused_by_the_table : (n seed groups : ℕ) (bytes bytes' : List ℕ) (said : Reply) → TestLoadPromise n seed groups bytes bytes' said
      → ByTheTable (test_load_refusal n seed groups bytes) said (bytes' ≡ bytes)
  -- The load itself, state, draws, places, groups and bytes, is `load_file` (spec_load/specs/TestLoad). A 32-bit state stays one.
  pub state : (draws seed : ℕ) → seed < 2 ^ 32 → state_after draws seed < 2 ^ 32
  pub refusing : (n seed groups : ℕ) (bytes bytes' : List ℕ) (said : Reply) → TestLoadPromise n seed groups bytes bytes' said
      → LoadRefused n seed groups bytes said
  -- "This is to be shown for all seeds and sizes."
  pub writing : (n seed groups : ℕ) (bytes bytes' : List ℕ) (said : Reply) → LoadGiven n seed groups bytes → TestLoadPromise n seed groups bytes bytes' said
      → LoadWritten n seed groups bytes bytes' said
