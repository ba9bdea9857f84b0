-- What is seen of a sequence of items in one walk over its tokens.
use Rattle.std.specs.Prelude.{◌≡◌, ℕ, zero, suc, ◌+◌, length, Option, Some, None}
use Rattle.spec_orders.specs.Tree.{Kind, Forest, rev}
use Rattle.spec_orders.specs.Form.{first}
use Rattle.spec_orders.specs.TreeText.{text}
use Rattle.text_scanner.specs.Rule.{broken_at}
use Rattle.text_rules.specs.declared.Seen.{Seen}

-- The byte that `broken_at` finds, if it finds one. (It says 0 for none, and the theorems of text_scanner/proofs/Rule and Outcomes go by that.)
abbrev pub found_byte : ℕ → Option ℕ
found_byte zero = None
found_byte (suc p) = Some (suc p)

-- The items f of a node of kind k, whose text starts at byte o.
pub record Saw (k : Kind) (o : ℕ) (f : Forest) (r : Seen) : Type 0 where
  pub first_leaf : r.first ≡ first f
  pub last_leaf : r.last ≡ first (rev f)
  pub text_end : r.end ≡ o + length (text f)
  pub least_broken : r.broken ≡ found_byte (broken_at k 0 o f)
