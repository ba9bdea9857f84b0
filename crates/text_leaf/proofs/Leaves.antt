-- A leaf that is read, or refused.
use mathlib.Core.Path.{◌≡◌, sym, ◌∙◌, ap, subst}
use mathlib.Core.Bool.{true, false}
use mathlib.Core.List.{List, [], ◌∷◌, ◌++◌, append-nil}
use Prim.Native.Nat.{ℕ, ◌+◌, ◌*◌, ◌-◌, ◌≤◌, ◌<◌}
use native.Mathlib.Omega.{arith}
use lib.ListN.{length, drop, get_or, set, length-set}
use lib.Seq.{get_or-set_other}
use Rattle.spec_orders.specs.Tree.{nil, leaf}
use Rattle.spec_orders.specs.TreeText.{digits}
use Rattle.spec_orders.proofs.Digits.{digits-one}
use Rattle.tree_tokens.specs.Tokens.{leaf_token, encode, Wrote, flat}
use Rattle.tree_tokens.proofs.Writes.{wrote_one}
use Rattle.text_scanner.specs.Scan.{due, num, letter?, run_at, refused}
use Rattle.text_scanner.specs.Unused.{unused, any_start}
use Rattle.text_scanner.proofs.Numbers.{first_digit, not_first, unused-set}
use Rattle.text_scanner.proofs.Moves.{due_number, due_none}
use Rattle.text_number.specs.declared.Numeral.{Numeral}
use Rattle.text_number.specs.Numbers.{NumberRead, LeafRead}
use Rattle.std.specs.Prelude.{Ok, Err}
use Rattle.text_leaf.specs.Passages.{Marks, Stops, ItemRead}
use Rattle.text_number.proofs.Numerals.{drop-step}

leaf_wrote : (b : ℕ) (old : List ℕ) → 0 < length old → Wrote (flat (leaf b nil)) old (set old 0 (16 * b)) 1
unfolding encode leaf_token
leaf_wrote b old h = let e : 16 * b + 0 ≡ 16 * b = omega arith in rw e (wrote_one (16 * b) old h)

-- One mark more.
not_zero : (v : ℕ) (used : List ℕ) → get_or used 0 0 ≡ 1 → get_or used v 0 ≡ 0 → (0 ≡ v → ⊥)
not_zero v used z f e = let g = subst (λ i. get_or used i 0 ≡ 0) (sym e) f in omega arith

pub marks_set : {many : ℕ} {used : List ℕ} (v : ℕ) → Marks many used → v < length used → get_or used v 0 ≡ 0 → Marks (many - 1) (set used v 1)
marks_set {many} {used} v m n f = record {
  count = omega (arith, m.count, unused-set used 0 v n f);
  wide = rw (length-set used v 1) m.wide;
  zero_set = get_or-set_other used v 0 1 0 (not_zero v used m.zero_set f) ∙ m.zero_set;
}

-- A byte at which no leaf goes on.
module _ (x : List ℕ) (at : ℕ) (used cs : List ℕ) (c : ℕ) (h : at < length x) (s : letter? (get_or x at 0) ≡ false) (z : get_or used 0 0 ≡ 1) where
  pub leaf_below : get_or x at 0 < 49 → run_at x at (due c cs (unused 0 used)) ≡ refused at
  leaf_below n = due_none x at h c cs (unused 0 used) s (not_first used (get_or x at 0) z (λ l g. omega arith))

  pub leaf_above : 57 < get_or x at 0 → run_at x at (due c cs (unused 0 used)) ≡ refused at
  leaf_above n = due_none x at h c cs (unused 0 used) s (not_first used (get_or x at 0) z (λ l g. omega arith))

  pub leaf_none : 49 ≤ get_or x at 0 → get_or x at 0 ≤ 57 → length used ≤ 257 → any_start (get_or x at 0 - 48) 0 used ≡ false
      → run_at x at (due c cs (unused 0 used)) ≡ refused at
  leaf_none low high w n = due_none x at h c cs (unused 0 used) s (first_digit used (get_or x at 0) low high (omega arith) ∙ n)

pub ruleset no_leaf = (leaf_below, leaf_above, leaf_none)

module _ (x : List ℕ) (at many : ℕ) (used : List ℕ) (h : at < length x) (s : letter? (get_or x at 0) ≡ false) (m : Marks many used) (c want : ℕ) where
  module _ (low : 49 ≤ get_or x at 0) (high : get_or x at 0 ≤ 57) where
    module _ (y : any_start (get_or x at 0 - 48) 0 used ≡ true) where
      digit : digits (get_or x at 0 - 48) ≡ get_or x at 0 ∷ []
      digit = digits-one (get_or x at 0 - 48) (omega arith) ∙ ap (λ d. d ∷ []) (omega arith)

      begins : (cs : List ℕ) → run_at x at (due c cs (unused 0 used)) ≡ run_at x (at + 1) (num (digits (get_or x at 0 - 48)) (c - 1) cs (unused 0 used))
      begins cs =
          due_number x at h c cs (unused 0 used) s (first_digit used (get_or x at 0) low high (omega (arith, m.wide)) ∙ y)
          ∙ ap (λ ds. run_at x (at + 1) (num ds (c - 1) cs (unused 0 used))) (sym digit)

      pub leaf_stops : (p : ℕ) → NumberRead x (at + 1) (get_or x at 0 - 48) used (Err p) → Stops x at (λ cs. due c cs (unused 0 used)) want p
      leaf_stops p n cs w = begins cs ∙ n (c - 1) cs

      pub leaf_read : (r : Numeral) → LeafRead x (at + 1) (get_or x at 0 - 48) used r → (old : List ℕ) → 1 ≤ many → c - 1 + want < many → 0 < length old
          → ItemRead x at c want many used (set used r.leaf 1) old (set old 0 (16 * r.leaf)) (Ok (record { at = r.at; left = many - 1; count = 1 }))
      leaf_read r g old some_left enough room = record {
        forest = leaf r.leaf nil;
        some_item = omega arith;
        wrote = leaf_wrote r.leaf old room;
        bytes = drop-step x at h ∙ ap (λ l. get_or x at 0 ∷ l) g.bytes
            ∙ ap (λ l. l ++ drop r.at x) (sym (append-nil (digits r.leaf) ∙ g.name ∙ ap (λ l. l ++ g.tail) digit));
        moves = λ cs w. begins cs ∙ g.moves (c - 1) cs;
        marks = marks_set r.leaf m g.marked g.free;
        onward = omega (arith, g.onward);
        within = g.within;
        enough = omega arith;
        few = omega arith;
      }
