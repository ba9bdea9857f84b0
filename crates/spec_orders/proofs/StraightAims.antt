-- The aim on a rack: it is the aim that the same list would have as a circle, and it stands in the middle of its group's run, where no other leaf does.
use mathlib.Core.Path.{◌≡◌, sym, ◌∙◌, ap, subst}
use mathlib.Core.Bool.{true, false}
use mathlib.Core.List.{[], ◌∷◌, ◌++◌, append_assoc}
use Prim.Native.Nat.{ℕ, suc, ◌+◌, ◌-◌, ◌/◌, ◌%◌, ◌≤◌, ◌<◌}
use native.Mathlib.Nat.{mod-eq_of_lt}
use native.Mathlib.Decide.{ℕ_discrete}
use native.Mathlib.Omega.{arith}
use lib.ListN.{length, get_or, take, drop, length-append, length-drop, get_or-append}
use lib.Seq.{get_or-append-add, split_at, length-take-le}
use Rattle.spec_orders.specs.declared.Layout.{Layout}
use Rattle.spec_orders.specs.declared.Layout.TheVariants.{Ring, Rack}
use Rattle.spec_orders.specs.Lists.{count}
use Rattle.spec_orders.specs.CircularOrder.{Restriction, Outside}
use Rattle.spec_orders.specs.Layout.{Contiguous, ConsecutiveOn, Visible}
use Rattle.spec_orders.specs.Aim.{last_of, start_after, run_start, lower_middle, upper_middle, rounded, aim_of, Middle, exact, lower, upper, GroupRun, Aimed, AimedStraight, AimedOn}
use Rattle.spec_orders.proofs.ListLaws.{all_append, none_of_length}
use Rattle.spec_orders.proofs.Contiguous.{L}
use Rattle.spec_orders.proofs.Numbers.{count_append, count_inside, count_outside}
use Rattle.spec_orders.proofs.Runs.{last_all, start_after_out, group_size, group_start}
use Rattle.spec_orders.proofs.Aims.{rounded_even, rounded_odd, rounded-one, aimed, aimed_only, aimed_inside}

-- The run of a group that is contiguous in a list, as one of the list taken as a circle; the leaf with j of it before it; where it starts.
module _ {G : Restriction} {ord : L} (c : Contiguous G ord) (some_leaf : 1 ≤ length c.run) where
  abbrev s : ℕ
  s = length c.left

  abbrev m : ℕ
  m = length c.run

  fits : s + m ≤ length ord
  fits = omega (arith, ap length c.parts, length-append c.left (c.run ++ c.right), length-append c.run c.right)

  abbrev as_circle : GroupRun G ord
  as_circle = record {
    turn = record {
      before = c.left;
      after = c.run ++ c.right;
      run = c.run;
      rest = c.right ++ c.left;
      cut = c.parts;
      turned = append_assoc c.run c.right c.left;
      in_run = c.in_run;
      out_rest = all_append (λ x. G x ≡ false) c.right c.left c.out_right c.out_left;
    };
    starts = omega (arith, fits);
    whole = λ e. none_of_length c.left (omega (arith, ap length e, length-append c.right c.left));
  }

  leaf_at : (j : ℕ) → j < m → get_or ord (s + j) 0 ≡ get_or c.run j 0
  leaf_at j l = ap (λ y. get_or y (s + j) 0) c.parts ∙ get_or-append-add c.left (c.run ++ c.right) j 0 ∙ get_or-append c.run c.right 0 j l

  starts_at : G (suc (length ord)) ≡ false → run_start Rack G ord ≡ s
  unfolding run_start
  starts_at v =
      ap (start_after G (suc (length ord)) 0) c.parts
      ∙ start_after_out G (suc (length ord)) c.left c.run c.right (before_run c.left c.out_left) c.out_left some_leaf c.in_run
    where
      before_run : (xs : L) → Outside G xs → G (last_of (suc (length ord)) xs) ≡ false
      before_run [] o = v
      before_run (x ∷ xs) o = last_all G false (suc (length ord)) (x ∷ xs) (omega arith) o

  aim_at : G (suc (length ord)) ≡ false → aim_of Rack G ord ≡ get_or ord (rounded (lower_middle s m) (upper_middle s m)) 0
  unfolding aim_of
  aim_at v = rw (starts_at v, group_size as_circle)

  -- It is the aim that the list has as a circle.
  same_aim : G (suc (length ord)) ≡ false → aim_of Rack G ord ≡ aim_of Ring G ord
  unfolding aim_of
  same_aim v =
      let low : lower_middle s m % length ord ≡ lower_middle s m = mod-eq_of_lt {n = lower_middle s m} {m = length ord} (omega (arith, fits)) in
      let high : upper_middle s m % length ord ≡ upper_middle s m = mod-eq_of_lt {n = upper_middle s m} {m = length ord} (omega (arith, fits)) in
      rw (starts_at v, group_start as_circle some_leaf, group_size as_circle, low, high)

  -- The leaf with j of the run before it is aimed at.
  stands : (j : ℕ) → j < m → Middle (s + j) (s + j + 1) j (m - suc j) → AimedStraight G ord (get_or ord (s + j) 0)
  stands j l h =
      let before : length (take j c.run) ≡ j = length-take-le j c.run (omega arith) in
      let after : length (drop (suc j) c.run) ≡ m - suc j = length-drop (suc j) c.run in
      record {
        run = c;
        left = take j c.run;
        right = drop (suc j) c.run;
        leaves = split_at c.run j 0 l ∙ ap (λ x. take j c.run ++ (x ∷ drop (suc j) c.run)) (sym (leaf_at j l));
        place = s + j;
        at = ap (λ k. s + k) (sym before);
        middle = rw (before, after) h;
      }

  -- The leaf at the rounded place is.
  abbrev middle_leaf : ℕ
  middle_leaf = get_or ord (rounded (lower_middle s m) (upper_middle s m)) 0

  aimed_run : AimedStraight G ord middle_leaf
  aimed_run = by_size (ℕ_discrete (m % 2) 0)
    where
      at_place : (j : ℕ) → j < m → rounded (lower_middle s m) (upper_middle s m) ≡ s + j → Middle (s + j) (s + j + 1) j (m - suc j) → AimedStraight G ord middle_leaf
      at_place j k e h = subst (AimedStraight G ord) (sym (ap (λ p. get_or ord p 0) e)) (stands j k h)

      by_size : Dec (m % 2 ≡ 0) → AimedStraight G ord middle_leaf
      by_size (yes e) = go (ℕ_discrete (lower_middle s m % 2) 0)
        where
          go : Dec (lower_middle s m % 2 ≡ 0) → AimedStraight G ord middle_leaf
          go (yes even) =
              let j = m / 2 - 1 in
              let low : lower_middle s m ≡ s + j = omega arith in
              at_place j (omega arith) (rounded_even (lower_middle s m) (upper_middle s m) (λ z. omega arith) even ∙ low) (lower (omega arith) (subst (λ p. p % 2 ≡ 0) low even) (λ z. omega arith))
          go (no odd) =
              at_place (m / 2) (omega arith) (rounded_odd (lower_middle s m) (upper_middle s m) (λ z. omega arith) odd) (upper (omega arith) (omega (arith, odd)))
      by_size (no e) =
          let low : lower_middle s m ≡ s + m / 2 = omega arith in
          at_place (m / 2) (omega arith) (ap (λ k. rounded k (s + m / 2)) low ∙ rounded-one (s + m / 2)) (exact (omega arith))

-- What is aimed at in the list is aimed at in it as a circle.
to_circle : {G : Restriction} {ord : L} {b : ℕ} → AimedStraight G ord b → Aimed G ord b
to_circle {G} {ord} {b} a = record {
  run = as_circle a.run some_leaf;
  left = a.left;
  right = a.right;
  leaves = a.leaves;
  place = a.place;
  at = a.at ∙ sym (mod-eq_of_lt {n = length a.run.left + length a.left} {m = length ord} (omega (arith, many, fits a.run some_leaf)));
  middle = round a.middle;
}
  where
    many : length a.run.run ≡ length a.left + suc (length a.right)
    many = ap length a.leaves ∙ length-append a.left (b ∷ a.right)

    some_leaf : 1 ≤ length a.run.run
    some_leaf = omega (arith, many)

    round : Middle a.place (a.place + 1) (length a.left) (length a.right) → Middle a.place ((a.place + 1) % length ord) (length a.left) (length a.right)
    round (exact e) = exact e
    round (lower e even not-0) =
        lower e even (λ z. not-0 (sym (mod-eq_of_lt {n = a.place + 1} {m = length ord} (omega (arith, a.at, many, fits a.run some_leaf))) ∙ z))
    round (upper e even) = upper e even

-- How many leaves of a contiguous group stand in its run.
run_size : {G : Restriction} {ord : L} (c : Contiguous G ord) → 1 ≤ count G ord → 1 ≤ length c.run
run_size {G} {ord} c l = omega (
  arith,
  ap (count G) c.parts,
  count_append G c.left (c.run ++ c.right),
  count_append G c.run c.right,
  count_outside G c.left c.out_left,
  count_inside G c.run c.in_run,
  count_outside G c.right c.out_right,
)

pub straight_aim : (G : Restriction) (ord : L) → Contiguous G ord → 1 ≤ count G ord → G (suc (length ord)) ≡ false → aim_of Rack G ord ≡ aim_of Ring G ord
straight_aim G ord c l v = same_aim c (run_size c l) v

-- The aim is in the middle of the run, and no other leaf is: on a ring and on a rack.
pub aimed_on : (l : Layout) (G : Restriction) (ord : L) → Visible l (length ord) G → ConsecutiveOn l G ord → 1 ≤ count G ord → AimedOn l G ord (aim_of l G ord)
aimed_on Ring G ord v h m = aimed G ord h m
aimed_on Rack G ord v h m = subst (AimedStraight G ord) (sym (aim_at h (run_size h m) v)) (aimed_run h (run_size h m))

pub aimed_on_only : (l : Layout) (G : Restriction) (ord : L) (b : ℕ) → Visible l (length ord) G → AimedOn l G ord b → aim_of l G ord ≡ b
aimed_on_only Ring G ord b v a = aimed_only G ord b a
aimed_on_only Rack G ord b v a =
    same_aim a.run (omega (arith, ap length a.leaves, length-append a.left (b ∷ a.right))) v ∙ aimed_only G ord b (to_circle a)

-- Of any group: one leaf is aimed at, and no two are.
pub aimed_on_some : (l : Layout) (G : Restriction) (ord : L) → ConsecutiveOn l G ord → 1 ≤ count G ord → (b : ℕ) × AimedOn l G ord b
aimed_on_some Ring G ord h m = (aim_of Ring G ord, aimed G ord h m)
aimed_on_some Rack G ord h m = (middle_leaf h (run_size h m), aimed_run h (run_size h m))

pub aimed_on_once : (l : Layout) (G : Restriction) (ord : L) (a b : ℕ) → AimedOn l G ord a → AimedOn l G ord b → a ≡ b
aimed_on_once l G ord a b p q = sym (aimed_only G ord a (in_circle l p)) ∙ aimed_only G ord b (in_circle l q)
  where
    in_circle : (l : Layout) {b : ℕ} → AimedOn l G ord b → Aimed G ord b
    in_circle Ring p = p
    in_circle Rack p = to_circle p

pub aimed_on_inside : (l : Layout) (G : Restriction) (ord : L) (b : ℕ) → AimedOn l G ord b → G b ≡ true
aimed_on_inside Ring G ord b a = aimed_inside a
aimed_on_inside Rack G ord b a = aimed_inside (to_circle a)

-- A group of which a leaf is aimed at hangs together.
pub aimed_on_consecutive : (l : Layout) (G : Restriction) (ord : L) (b : ℕ) → AimedOn l G ord b → ConsecutiveOn l G ord
aimed_on_consecutive Ring G ord b a = a.run.turn
aimed_on_consecutive Rack G ord b a = a.run
