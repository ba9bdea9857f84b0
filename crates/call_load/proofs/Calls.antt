-- The call that writes a test load: what passes its checks, and what it answers and leaves.
use mathlib.Core.Path.{◌≡◌, sym, ap₂, ◌∙◌}
use mathlib.Core.Bool.{true, false}
use mathlib.Core.Option.{none, some}
use mathlib.Core.List.{List, ◌++◌}
use Prim.Native.Nat.{ℕ, ◌-◌}
use lib.Dec.{eqb}
use lib.ListN.{length, drop, replicate}
use Rattle.spec_load.specs.TestLoad.{load_file}
use Rattle.spec_calls.specs.declared.Refusal.{Refusal}
use Rattle.spec_calls.specs.declared.Refusal.TheVariants.{RingSize, ZeroSeed, GroupCount, ShortTable}
use Rattle.spec_calls.specs.Refusals.{reply, reported, bad_size, bad_count, short}
use Rattle.spec_calls.specs.Calls.{filled_as, test_load_refusal, test_load_call}
use Rattle.spec_calls.proofs.TestLoads.{passed_call}

-- The checks, one by one.
module _ (n seed groups : ℕ) (bytes : List ℕ) where
  pub by_size : bad_size n ≡ true → some RingSize ≡ test_load_refusal n seed groups bytes
  unfolding test_load_refusal
  by_size a = rw a

  module _ (a : bad_size n ≡ false) where
    pub by_seed : eqb seed 0 ≡ true → some ZeroSeed ≡ test_load_refusal n seed groups bytes
    unfolding test_load_refusal
    by_seed b = rw (a, b)

    module _ (b : eqb seed 0 ≡ false) where
      pub by_count : bad_count groups ≡ true → some GroupCount ≡ test_load_refusal n seed groups bytes
      unfolding test_load_refusal
      by_count c = rw (a, b, c)

      module _ (c : bad_count groups ≡ false) where
        pub by_bytes : short 65536 bytes ≡ true → some ShortTable ≡ test_load_refusal n seed groups bytes
        unfolding test_load_refusal
        by_bytes d = rw (a, b, c, d)

        pub by_none : short 65536 bytes ≡ false → none ≡ test_load_refusal n seed groups bytes
        unfolding test_load_refusal
        by_none d = rw (a, b, c, d)

pub refused_load : (n seed groups : ℕ) (bytes : List ℕ) {r : Refusal} → some r ≡ test_load_refusal n seed groups bytes
    → filled_as (reported r) bytes ≡ test_load_call n seed groups bytes
unfolding test_load_call
refused_load n seed groups bytes e = rw (← e)

pub written_load : (n seed groups : ℕ) (bytes : List ℕ) {k : ℕ} {new : List ℕ} → none ≡ test_load_refusal n seed groups bytes → k ≡ length (load_file n seed groups)
    → new ≡ (load_file n seed groups ++ replicate (65536 - length (load_file n seed groups)) 0) ++ drop (length (load_file n seed groups ++ replicate (65536 - length (load_file n seed groups)) 0)) bytes
    → filled_as (reply 0 k) new ≡ test_load_call n seed groups bytes
written_load n seed groups bytes p m e =
    ap₂ (λ (k : ℕ) (l : List ℕ). filled_as (reply 0 k) l) m e ∙ sym (passed_call n seed groups bytes (sym p))
