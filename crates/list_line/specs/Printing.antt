-- The printed lines by their numbers, and what the functions that print them read.
use Rattle.std.specs.Prelude.{List, [], ◌∷◌, ◌++◌, ℕ, ◌+◌, ◌-◌, ◌≤◌, length, get_or}
use Rattle.spec_orders.specs.Tree.{Forest}
use Rattle.spec_orders.specs.Form.{standard}
use Rattle.spec_orders.specs.TreeText.{digits, tree_text}
use Rattle.spec_orders.specs.Circles.{bytes}
use Rattle.file_read.specs.RingFile.{FileHolds}
use Rattle.spec_listing.specs.Listing.{opened, outcome, run, state_at, spaced_names, fields}
use Rattle.list_ring.specs.Stands.{StandsAt}
use Rattle.list_ring.specs.declared.lent.Ring.{Ring}

-- The line of group line l, from 0, without its byte 10.
unfoldable pub group_line : List (List ℕ) → List ℕ → List (List ℕ) → ℕ → List ℕ
group_line names ord lists l =
    digits (l + 1) ++ fields names ord (state_at (length names) lists l) (get_or lists l []) (outcome (length names) (state_at (length names) lists l) (get_or lists l []))

-- The tree after all lines, and the four lines that end the listing.
unfoldable pub final : List (List ℕ) → List (List ℕ) → Forest
final names lists = (run (length names) (opened (length names)) 1 lists).tree

unfoldable pub ending : List (List ℕ) → Forest → List (List ℕ)
ending names t = bytes "order" ∷ spaced_names names (standard t) ∷ bytes "tree" ∷ tree_text t ∷ []

-- Before printed line i: the ring is the one after the group lines before it.
abbrev pub Before : {x : List ℕ} {n h k : ℕ} → FileHolds x n h k → ℕ → Ring → Type 0
Before {k = k} f i r = i ≤ k → StandsAt f (i - 1) r
