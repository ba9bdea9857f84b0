-- The groups of a load are runs of one circle of all bins. So each is a list of 1 to n different bins, and "every such book can hang together", for
-- all seeds and sizes.
use mathlib.Core.Path.{◌≡◌, refl, sym, subst}
use mathlib.Core.Bool.{true, false}
use mathlib.Core.List.{List, [], ◌∷◌, ◌++◌, map}
use Prim.Native.Nat.{ℕ, zero, suc, ◌-◌, ◌≤◌}
use native.Mathlib.Omega.{arith}
use lib.ListN.{length, take, drop, take-append-drop, length-take}
use Rattle.spec_orders.specs.Lists.{All, Distinct, elem, Rearranged, numbers_from}
use Rattle.spec_orders.specs.declared.Layout.TheVariants.{Ring}
use Rattle.spec_orders.specs.CircularOrder.{CircularOrder, WellFormed, group_of, Inside, Outside, Consecutive}
use Rattle.spec_orders.specs.Layout.{Possible}
use Rattle.spec_orders.specs.Tree.{Rotation}
use Rattle.spec_orders.proofs.ListLaws.{all_left}
use Rattle.spec_orders.proofs.Members.{in_all, in_elem, elem_in, apart, distinct_left, perm_in}
use Rattle.spec_orders.proofs.Numbers.{numbers_distinct, numbers_length, in_range, numbers_in}
use Rattle.spec_orders.proofs.Rearranged.{perm_trans, perm_swap, perm_all, perm_distinct, perm_length, perm_uncons}
use Rattle.spec_orders.proofs.Rotations.{read_from, rotation_perm, rotation_consecutive}
use Rattle.spec_orders.proofs.Tests.{false_if}
use Rattle.spec_load.specs.TestLoad.{next_state, state_after, drawn, circle, run, runs, load}
use Rattle.spec_load.proofs.Circle.{drawn_within, circle_perm}

all_own : (l : List ℕ) → Inside (elem l) l
all_own l = in_all (λ x. elem l x ≡ true) l (λ x i. in_elem l x i)

all_others : (a b : List ℕ) → Distinct (a ++ b) → Outside (elem a) b
all_others a b d = in_all (λ x. elem a x ≡ false) b (λ x i. false_if (elem a x) (λ e. apart x a b d (elem_in a x e) i))

-- The circle read from its place s on.
abbrev turned : List ℕ → ℕ → List ℕ
turned places s = drop (s - 1) places ++ take (s - 1) places

turned_perm : (places : List ℕ) (s : ℕ) → Rearranged places (turned places s)
turned_perm places s =
    subst (λ l. Rearranged l (turned places s)) (take-append-drop (s - 1) places) (perm_swap (take (s - 1) places) (drop (s - 1) places))

-- A run of different bins hangs together in their circle.
run_consecutive : (places : List ℕ) → Distinct places → (s m : ℕ) → Consecutive (elem (run places s m)) places
unfolding run
run_consecutive places d s m =
    let parts = take-append-drop m (turned places s) in
    record {
      before = take (s - 1) places;
      after = drop (s - 1) places;
      run = take m (turned places s);
      rest = drop m (turned places s);
      cut = sym (take-append-drop (s - 1) places);
      turned = sym parts;
      in_run = all_own (take m (turned places s));
      out_rest = all_others (take m (turned places s)) (drop m (turned places s)) (subst Distinct (sym parts) (perm_distinct (turned_perm places s) d));
    }

module _ (P : List ℕ → Type 0) (places : List ℕ) (n : ℕ) (h : (s m : ℕ) → 1 ≤ m → m ≤ n → P (run places s m)) (some_bin : 1 ≤ n) where
  -- What holds of every run of up to n bins holds of each group.
  all_runs : (groups x : ℕ) → All P (runs places n groups x)
  unfolding runs state_after
  all_runs zero x = tt
  all_runs (suc groups) x =
      let m = drawn_within (next_state x) n some_bin in
      (h (drawn x n) (drawn (next_state x) n) m.0 m.1, all_runs groups (next_state (next_state x)))

pub runs-length : (places : List ℕ) (n groups x : ℕ) → length (runs places n groups x) ≡ groups
unfolding runs
runs-length places n zero x = refl
runs-length places n (suc groups) x = let r = runs-length places n groups (state_after 2 x) in omega (arith, r)

pub load-length : (n seed groups : ℕ) → length (load n seed groups) ≡ groups
unfolding load
load-length n seed groups = runs-length (circle n seed) n groups (state_after (n - 1) seed)

-- The circle, read from bin 1, is a circular order of all bins.
record FromOne (n : ℕ) (places : List ℕ) : Type 0 where
  order : List ℕ
  is_order : CircularOrder n order
  rotated : Rotation places order

from_one : (n : ℕ) (places : List ℕ) → 1 ≤ n → Rearranged (numbers_from 1 n) places → FromOne n places
from_one zero places h p = absurd (omega arith)
from_one (suc n) places h p =
    let r = read_from 1 places (perm_in 1 p (numbers_in 1 (suc n) 1 (omega arith) (omega arith))) in
    record {
      order = 1 ∷ r.0;
      is_order = record { after = r.0; one_first = refl; all_leaves = perm_uncons (perm_trans p (rotation_perm r.1)) };
      rotated = r.1;
    }

pub all_of_map : {A B : Type 0} (P : B → Type 0) (f : A → B) (l : List A) → All (λ x. P (f x)) l → All P (map f l)
all_of_map P f [] h = tt
all_of_map P f (x ∷ l) h = (h.0, all_of_map P f l h.1)

pub load_possible : (n seed groups : ℕ) → 1 ≤ n → Possible Ring n (map (group_of n) (load n seed groups))
unfolding load
load_possible n seed groups h =
    let places = circle n seed in
    let one = from_one n places h (circle_perm n seed) in
    let d = perm_distinct (circle_perm n seed) (numbers_distinct 1 n) in
    record {
      order = one.order;
      is_order = one.is_order;
      hang = all_of_map (λ G. Consecutive G one.order) (group_of n) (runs places n groups (state_after (n - 1) seed))
          (all_runs (λ g. Consecutive (elem g) one.order) places n
          (λ s m p q. rotation_consecutive (elem (run places s m)) places one.order one.rotated (run_consecutive places d s m)) h groups (state_after (n - 1) seed));
    }

-- A list of 1 to n different bins.
pub record Group (n : ℕ) (list : List ℕ) : Type 0 where
  pub some_bin : 1 ≤ length list
  pub few_bins : length list ≤ n
  pub well_formed : WellFormed n list

pub load-groups : (n seed groups : ℕ) → 1 ≤ n → All (Group n) (load n seed groups)
unfolding load run
load-groups n seed groups h = all_runs (Group n) (circle n seed) n each h groups (state_after (n - 1) seed)
  where
    bins : (s : ℕ) → Rearranged (numbers_from 1 n) (turned (circle n seed) s)
    bins s = perm_trans (circle_perm n seed) (turned_perm (circle n seed) s)

    each : (s m : ℕ) → 1 ≤ m → m ≤ n → Group n (run (circle n seed) s m)
    each s m p q =
        let w = turned (circle n seed) s in
        let parts = take-append-drop m w in
        let all : All (λ b. (1 ≤ b) × (b ≤ n)) (numbers_from 1 n) =
        in_all (λ b. (1 ≤ b) × (b ≤ n)) (numbers_from 1 n) (λ b i. let r = in_range 1 n b i in (r.0, omega (arith, r.1))) in
        let long = length-take m w in
        let full = perm_length (bins s) in
        record {
          some_bin = omega (arith, long, full, numbers_length 1 n, p, q);
          few_bins = omega (arith, long, full, numbers_length 1 n, p, q);
          well_formed = record {
            in_range = all_left (λ b. (1 ≤ b) × (b ≤ n)) (take m w) (drop m w) (subst (All (λ b. (1 ≤ b) × (b ≤ n))) (sym parts) (perm_all (λ b. (1 ≤ b) × (b ≤ n)) (bins s) all));
            different = distinct_left (take m w) (drop m w) (subst Distinct (sym parts) (perm_distinct (bins s) (numbers_distinct 1 n)));
          };
        }
