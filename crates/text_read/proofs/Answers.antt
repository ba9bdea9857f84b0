-- What the reader finds, from the scanner's answer and the byte of a broken rule.
use mathlib.Core.Path.{◌≡◌, refl, ◌∙◌, ap}
use mathlib.Core.List.{List, [], ◌∷◌}
use Prim.Native.Nat.{ℕ, zero, suc, ◌*◌, ◌-◌, ◌≤◌}
use native.Mathlib.Omega.{arith}
use lib.ListN.{length, take}
use Rattle.spec_orders.specs.Tree.{C}
use Rattle.spec_orders.specs.ThreeNeighbours.{relabel}
use Rattle.spec_orders.specs.TreeText.{tree_text, tree, refused, Reads, no_shape}
use Rattle.spec_orders.specs.Join.{fresh}
use Rattle.spec_orders.proofs.Fresh.{fresh_form}
use Rattle.spec_orders.proofs.TextOnce.{form_reads}
use Rattle.tree_tokens.specs.Tokens.{Judged, tree as without, plain, encode, Tokens}
use Rattle.tree_tokens.proofs.Sequences.{tree_plain}
use Rattle.tree_tokens.proofs.Writes.{read_back}
use Rattle.text_scanner.specs.Scan.{lit, text_start, run_at, accepted}
use Rattle.text_scanner.specs.Rule.{broken_at}
use Rattle.text_scanner.proofs.Exact.{refused_shape, accepted_shape, start_word, short-tree}
use Rattle.text_scanner.proofs.Rule.{broken_least}
use Rattle.text_scanner.proofs.Outcomes.{ruled}
use Rattle.text_rules.specs.Seen.{found_byte}
use Rattle.std.specs.Prelude.{Err, Option, Some, None}
use Rattle.text_shape.specs.Texts.{WordRead, Spelled}

-- One leaf or two.
module _ (n : ℕ) (h : 1 ≤ n) (g : n ≤ 2) (x : List ℕ) where
  abbrev word : List ℕ
  word = 49 ∷ 32 ∷ 50 ∷ []

  begins : run_at x 0 (text_start n) ≡ run_at x 0 (lit (take (2 * n - 1) word))
  begins = ap (run_at x 0) (start_word n h g)

  pub short_refused : (p : ℕ) → WordRead x (take (2 * n - 1) word) (Err p) → Reads n x (refused p)
  short_refused p w = no_shape (refused_shape n x p (begins ∙ w))

  pub short_read : run_at x 0 (lit (take (2 * n - 1) word)) ≡ accepted → Reads n x (tree (fresh n))
  short_read w =
      let s = accepted_shape n x (begins ∙ w) in
      rw (s.bytes ∙ ap tree_text (short-tree n h g s.tree s.shaped)) (form_reads (fresh_form n))

-- From three leaves on: the tokens of the tree that the text spells, and the byte of a broken rule that was found in them.
module _ {n : ℕ} {x old new : List ℕ} {k : ℕ} (s : Spelled n x old new k) where
  pub spelled_tokens : Tokens (take k new) × (length (take k new) ≤ 512)
  spelled_tokens = let e = read_back s.wrote in ((_, e), omega (arith, s.few, s.wrote.many, ap length e))

  abbrev pub Outcome : Option ℕ → Type 0
  Outcome None = Reads n x (tree (relabel s.shown))
  Outcome (Some p) = Reads n x (refused p)

  outcome : (b : ℕ) → ((b ≡ 0 → ⊥) → Reads n x (refused b)) × (b ≡ 0 → Reads n x (tree (relabel s.shown))) → Outcome (found_byte b)
  outcome zero w = w.1 refl
  outcome (suc b) w = w.0 (λ e. omega arith)

  pub ruled_by : (r : Option ℕ) → ((j : Judged) → take k new ≡ encode j → r ≡ found_byte (broken_at C 0 2 (without j))) → Outcome r
  ruled_by r judged =
      let e = judged (plain s.shown) (read_back s.wrote) ∙ ap (λ t. found_byte (broken_at C 0 2 t)) (tree_plain s.shown) in
      rw e (outcome (broken_at C 0 2 s.shown) (ruled n x s.shown s.shaped s.bytes _ (broken_least s.shown C 0 2 (omega arith))))
