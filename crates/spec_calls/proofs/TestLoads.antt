-- A test load passes its checks iff its numbers and bytes are in order; what the call does then.
use mathlib.Core.Path.{◌≡◌}
use mathlib.Core.Bool.{false, ◌||◌}
use mathlib.Core.Option.{none}
use mathlib.Core.List.{List, [], ◌∷◌}
use Prim.Native.Nat.{ℕ, ◌≤◌}
use native.Mathlib.Omega.{arith}
use native.Mathlib.Nat.{pos_of_ne-zero}
use borrow.Author.Tests.{eqb-false, ltb-false, ne_eqb, le-ltb}
use lib.Dec.{eqb, ltb}
use lib.ListN.{length}
use Rattle.spec_orders.proofs.Tests.{or_neither}
use Rattle.spec_load.specs.TestLoad.{load_file}
use Rattle.spec_calls.specs.declared.Refusal.TheVariants.{RingSize, ZeroSeed, GroupCount, ShortTable}
use Rattle.spec_calls.specs.Tables.{over, padded}
use Rattle.spec_calls.specs.Refusals.{reply, bad_size, bad_count, short}
use Rattle.spec_calls.specs.Calls.{filled_as, test_load_refusal, test_load_call}
use Rattle.spec_calls.specs.Demands.{LoadGiven}
use Rattle.spec_calls.proofs.Checks.{first_refusal_passed}

-- A number from 1 to m, and the test that it is none.
from_one : (m a : ℕ) → 1 ≤ a → a ≤ m → eqb a 0 || ltb m a ≡ false
from_one m a h g = rw (ne_eqb a 0 (λ e. omega arith), le-ltb m a g)

of_one : (m a : ℕ) → eqb a 0 || ltb m a ≡ false → (1 ≤ a) × (a ≤ m)
of_one m a e = let r = or_neither (eqb a 0) (ltb m a) e in (pos_of_ne-zero (eqb-false a 0 r.0), ltb-false m a r.1)

module _ (n seed groups : ℕ) (bytes : List ℕ) where
  pub given_passes : LoadGiven n seed groups bytes → test_load_refusal n seed groups bytes ≡ none
  unfolding test_load_refusal
  given_passes g =
      rw (
        from_one 256 n g.some_bin g.few_bins,
        ne_eqb seed 0 (λ e. omega (arith, g.nonzero)),
        from_one 96 groups g.some_group g.few_groups,
        le-ltb (length bytes) 65536 g.all_bytes,
      )

  pub passes_given : test_load_refusal n seed groups bytes ≡ none → LoadGiven n seed groups bytes
  unfolding test_load_refusal
  passes_given e =
      let p = first_refusal_passed ((bad_size n, RingSize) ∷ (eqb seed 0, ZeroSeed) ∷ (bad_count groups, GroupCount) ∷ (short 65536 bytes, ShortTable) ∷ []) e in
      let size = of_one 256 n p.0 in
      let many = of_one 96 groups p.1.1.0 in
      record {
        some_bin = size.0;
        few_bins = size.1;
        nonzero = pos_of_ne-zero (eqb-false seed 0 p.1.0);
        some_group = many.0;
        few_groups = many.1;
        all_bytes = ltb-false (length bytes) 65536 p.1.1.1.0;
      }

  -- The file and zeros are written.
  pub passed_call : test_load_refusal n seed groups bytes ≡ none
      → test_load_call n seed groups bytes ≡ filled_as (reply 0 (length (load_file n seed groups))) (over (padded 65536 (load_file n seed groups)) bytes)
  unfolding test_load_call
  passed_call e = rw e
