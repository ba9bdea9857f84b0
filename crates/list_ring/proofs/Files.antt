-- The group lines of an accepted file.
use mathlib.Core.Path.{◌≡◌, sym, ap, subst, ◌∙◌}
use mathlib.Core.List.{List, []}
use Prim.Native.Nat.{ℕ, ◌+◌, ◌≤◌, ◌<◌}
use native.Mathlib.Omega.{arith}
use lib.ListN.{length, get_or, length-append, length-map, get_or-map}
use Rattle.spec_orders.specs.Lists.{All}
use Rattle.file_read.specs.RingFile.{Value, leaves_on, line, value_lines, FileHolds}
use Rattle.file_read.proofs.Values.{line-length, lines_long}
use Rattle.file_read.proofs.Groups.{leaves_different, leaves_within}
use Rattle.spec_listing.specs.Listing.{RingState, opened, outcome, next, state_at}
use Rattle.list_ring.specs.Stands.{RingStands, Line, lists_of}
use Rattle.list_ring.proofs.Runs.{state_none, state_more}

-- The leaves of a line of values.
leaves-line : (n : ℕ) (vs : List Value) → length vs ≡ n → n ≤ 256 → Line n (leaves_on vs)
leaves-line n vs e h = record {
  few_leaves = h;
  group = record {
    in_range = subst (λ k. All (λ b. (1 ≤ b) × (b ≤ k)) (leaves_on vs)) e (leaves_within vs);
    different = leaves_different vs;
  };
}

module _ {x : List ℕ} {n h k : ℕ} (f : FileHolds x n h k) where
  pub few_names : n ≤ 256
  few_names = omega (arith, f.leaves, f.rules.names.few_names)

  -- A file has fewer group lines than bytes.
  pub few_lines : k ≤ 65536
  few_lines =
      omega (arith, f.lines, f.size, ap length f.bytes, length-append (line f.ns) (value_lines f.vss), lines_long f.vss)

  pub lists_length : length (lists_of f) ≡ k
  lists_length = length-map f.vss leaves_on ∙ sym f.lines

  pub list_at : (l : ℕ) → get_or (lists_of f) l [] ≡ leaves_on (get_or f.vss l [])
  unfolding leaves_on
  list_at l = get_or-map leaves_on f.vss l []

  pub file_line : (l : ℕ) → l < k → Line n (leaves_on (get_or f.vss l []))
  file_line l m =
      leaves-line n (get_or f.vss l [])
      (line-length f.ns f.vss l f.rules (omega (arith, f.lines)) ∙ sym f.leaves) few_names

  -- The ring after one line more; before the first.
  pub stands_more : (l : ℕ) {list toks book table : List ℕ} {m count : ℕ} → l < k → list ≡ leaves_on (get_or f.vss l [])
      → RingStands n (next (state_at n (lists_of f) l) (l + 1) list (outcome n (state_at n (lists_of f) l) list)) toks m book table count
      → RingStands n (state_at n (lists_of f) (l + 1)) toks m book table count
  stands_more l {list} {toks} {book} {table} {m} {count} q e s =
      subst (λ (u : RingState). RingStands n u toks m book table count)
      (ap (λ (list : List ℕ). next (state_at n (lists_of f) l) (l + 1) list (outcome n (state_at n (lists_of f) l) list)) (e ∙ sym (list_at l))
      ∙ sym (state_more n (lists_of f) l (omega (arith, lists_length))))
      s

  pub stands_none : {toks book table : List ℕ} {m count : ℕ} → RingStands n (opened n) toks m book table count → RingStands n (state_at n (lists_of f) 0) toks m book table count
  stands_none {toks} {book} {table} {m} {count} s = subst (λ (u : RingState). RingStands n u toks m book table count) (sym (state_none n (lists_of f))) s
