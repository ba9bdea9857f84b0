-- Document 01, "What a call refuses": the numbers of the table, what is returned with them, and the checks, each by itself. Document 02: "a new
-- number joins the table", 15 right after 1, 16 and 17 "in that order right after 1", 13 right after 2 and 14 after 9; "number 4 is no longer given".
use Rattle.std.specs.Prelude.{Bool, true, false, cond, not, ◌&&◌, ◌||◌, List, [], ◌∷◌, ℕ, suc, eqb, ltb, length}
use Rattle.std.proofs.Math.Option.{Option, none, some}
use Rattle.spec_orders.specs.declared.Layout.{Layout}
use Rattle.spec_orders.specs.declared.Layout.TheVariants.{Ring, Rack}
use Rattle.spec_orders.specs.Lists.{elem}
use Rattle.spec_calls.specs.declared.Refusal.{Refusal}
use Rattle.spec_calls.specs.declared.Refusal.TheVariants.{RingSize, ShortTable, NotInForm, OutsideRing, Repeated, BookFull, Impossible, NoSuchGroup, NotConsecutive, RingFile, TreeText, BinCounts, NoAim, RackSize, ZeroSeed, GroupCount}
use Rattle.std.specs.declared.result.Result.{Result}
use Rattle.std.specs.declared.result.Result.TheVariants.{Ok, Err}
use Rattle.spec_calls.specs.Tables.{Nodes}

-- What a call returns, in the paper's numbers: 0 and its own number; or the number of a refusal, and the place or byte that the table names, 0
-- where it names none.
pub record Reply : Type 0 where
  pub number : ℕ
  pub value : ℕ

abbrev pub reply : ℕ → ℕ → Reply
reply number value = record { number = number; value = value }

abbrev pub reported : Refusal → Reply
reported RingSize = reply 1 0
reported ShortTable = reply 2 0
reported NotInForm = reply 3 0
reported (OutsideRing place) = reply 5 place
reported (Repeated place) = reply 6 place
reported BookFull = reply 7 0
reported Impossible = reply 8 0
reported NoSuchGroup = reply 9 0
reported NotConsecutive = reply 10 0
reported (RingFile byte) = reply 11 byte
reported (TreeText byte) = reply 12 byte
reported BinCounts = reply 13 0
reported NoAim = reply 14 0
reported RackSize = reply 15 0
reported ZeroSeed = reply 16 0
reported GroupCount = reply 17 0

abbrev pub report : Result ℕ Refusal → Reply
report (Ok value) = reply 0 value
report (Err refusal) = reported refusal

-- A check, and "down the table": the first one that refuses.
abbrev pub refuse : Bool → Refusal → Option Refusal
refuse true r = some r
refuse false r = none

abbrev pub first_refusal : List (Option Refusal) → Option Refusal
first_refusal [] = none
first_refusal (none ∷ checks) = first_refusal checks
first_refusal (some r ∷ checks) = some r

-- 1: "n is 0 or above 256".
abbrev pub bad_size : ℕ → Bool
bad_size n = eqb n 0 || ltb 256 n

-- 15: "when a rack has 256 bins, checked right after 1". Its tree would have 257 leaves.
abbrev pub full_rack : Layout → ℕ → Bool
full_rack Ring n = false
full_rack Rack n = eqb n 256

abbrev pub size_checks : Layout → ℕ → List (Option Refusal)
size_checks layout n = refuse (bad_size n) RingSize ∷ refuse (full_rack layout n) RackSize ∷ []

-- 17: "when the group count is 0 or above 96".
abbrev pub bad_count : ℕ → Bool
bad_count groups = eqb groups 0 || ltb 96 groups

-- 2: "a lent table is too short: 256 records, 384 mark words, n places for the order, 96 for a conflict list, 2,048 bytes for a tree text to
-- be written".
abbrev pub short : ℕ → List ℕ → Bool
short size table = ltb (length table) size

abbrev pub short_nodes : Nodes → Bool
short_nodes nodes = ltb nodes.records 256 || short 65792 nodes.rows

-- 13: "when the two bin counts differ"; "a ring and a rack given to one intersection meet 13".
abbrev pub same_layout : Layout → Layout → Bool
same_layout Ring Ring = true
same_layout Ring Rack = false
same_layout Rack Ring = false
same_layout Rack Rack = true

abbrev pub other_bins : Nodes → Nodes → Bool
other_bins nodes other = not (same_layout nodes.layout other.layout && eqb nodes.bins other.bins)

-- 5 and 6: "a bin is 0 or above n", "a bin stands earlier in the same list": "of 5 and 6 the earlier place counts". From place k on; `seen`
-- stands before it.
unfoldable pub bad_leaf : ℕ → List ℕ → ℕ → List ℕ → Option Refusal
bad_leaf n seen k [] = none
bad_leaf n seen k (b ∷ bs) = cond (eqb b 0 || ltb n b) (some (OutsideRing k)) (cond (elem seen b) (some (Repeated k)) (bad_leaf n (b ∷ seen) (suc k) bs))

-- The two of a whole list.
abbrev pub bad_list : ℕ → List ℕ → Option Refusal
bad_list n list = bad_leaf n [] 0 list
