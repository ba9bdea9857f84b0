-- Document 01, "The ring and its tables": ring orders, groups, and which of them hang together. No tree is needed.
-- Its bins are the leaves 1 to n here, a ring order is a circular order, and a group is a restriction.
use Rattle.std.specs.Prelude.{◌≡◌, Bool, true, false, List, [], ◌∷◌, ◌++◌, ℕ, zero, suc, ◌≤◌}
use Rattle.spec_orders.specs.Lists.{All, Distinct, elem, Rearranged, numbers_from}

-- The leaves of a ring of n but leaf 1: 2 to n.
abbrev pub others : ℕ → List ℕ
others zero = []
others (suc n) = numbers_from 2 n

-- "A ring order is a circle of all n bins, read clockwise from bin 1": leaf 1, then the others in some sequence.
-- So a circle and its mirror image are two orders.
pub record CircularOrder (n : ℕ) (ord : List ℕ) : Type 0 where
  pub after : List ℕ
  pub one_first : ord ≡ 1 ∷ after
  pub all_leaves : Rearranged (others n) after

-- A group, as the test which leaves are in it.
abbrev pub Restriction : Type 0
Restriction = ℕ → Bool

-- "A group is a list of [...] different bins" (different leaves from 1 to n are at most n). Document 02, No. 2: an empty group "is well formed".
pub record WellFormed (n : ℕ) (list : List ℕ) : Type 0 where
  pub in_range : All (λ b. (1 ≤ b) × (b ≤ n)) list
  pub different : Distinct list

-- The group that a list names in a ring or a rack of n bins.
abbrev pub group_of : ℕ → List ℕ → Restriction
group_of n list = elem list

-- A group with no leaf.
abbrev pub EmptyGroup : Restriction → Type 0
EmptyGroup G = (x : ℕ) → G x ≡ false

-- All leaves of the list are in the group; none is.
abbrev pub Inside : Restriction → List ℕ → Type 0
Inside G = All (λ x. G x ≡ true)

abbrev pub Outside : Restriction → List ℕ → Type 0
Outside G = All (λ x. G x ≡ false)

-- "It hangs together in an order when its bins are neighbours without a gap round the circle; the run may pass the seam before bin 1."
-- Some turn of the circle (cut it, and let what is after the cut come first) begins with the group's leaves and has no other of them.
pub record Consecutive (G : Restriction) (ord : List ℕ) : Type 0 where
  pub before : List ℕ
  pub after : List ℕ
  pub run : List ℕ
  pub rest : List ℕ
  pub cut : ord ≡ before ++ after
  pub turned : after ++ before ≡ run ++ rest
  pub in_run : Inside G run
  pub out_rest : Outside G rest
