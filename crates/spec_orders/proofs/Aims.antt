-- The aim stands in the middle of its group's run, and no other leaf does.
use mathlib.Core.Path.{◌≡◌, refl, sym, ◌∙◌, ap, subst}
use mathlib.Core.Logic.{◌≢◌, ◌⊎◌, inl, inr}
use mathlib.Core.Bool.{Bool, true, cond}
use mathlib.Core.List.{◌∷◌, ◌++◌}
use Prim.Native.Nat.{ℕ, suc, ◌+◌, ◌-◌, ◌/◌, ◌%◌, ◌≤◌, ◌<◌}
use native.Mathlib.Nat.{mod-lt, mod-eq_of_lt, mod-add-mod, add-mod_left}
use native.Mathlib.Decide.{dec_le, ℕ_discrete}
use native.Mathlib.Omega.{arith}
use borrow.Author.Tests.{eq-eqb, ne_eqb}
use lib.Dec.{eqb}
use lib.ListN.{length, get_or, take, drop, length-append, length-drop}
use lib.Seq.{get_or-append-add, split_at, length-take-le}
use Rattle.spec_orders.specs.declared.Layout.TheVariants.{Ring}
use Rattle.spec_orders.specs.Lists.{count}
use Rattle.spec_orders.specs.CircularOrder.{Restriction, Inside, Consecutive}
use Rattle.spec_orders.specs.Aim.{lower_middle, upper_middle, rounded, aim_place, aim_of, Middle, exact, lower, upper, GroupRun, Aimed}
use Rattle.spec_orders.proofs.ListLaws.{all_right}
use Rattle.spec_orders.proofs.Contiguous.{L}
use Rattle.spec_orders.proofs.Numbers.{count_most}
use Rattle.spec_orders.proofs.Runs.{group_size, group_leaf, group_start, group_run}

-- What the middle is rounded to, of the place a and the next one b.
pub rounded_seam : (a b : ℕ) → b ≡ 0 → rounded a b ≡ 0
unfolding rounded
rounded_seam a b e = ap (λ (seam : Bool). cond seam 0 (cond (eqb (a % 2) 0) a b)) (eq-eqb b 0 e)

pub rounded_even : (a b : ℕ) → b ≢ 0 → a % 2 ≡ 0 → rounded a b ≡ a
unfolding rounded
rounded_even a b h e = rw (ne_eqb b 0 h, eq-eqb (a % 2) 0 e)

pub rounded_odd : (a b : ℕ) → b ≢ 0 → a % 2 ≢ 0 → rounded a b ≡ b
unfolding rounded
rounded_odd a b h e = rw (ne_eqb b 0 h, ne_eqb (a % 2) 0 e)

-- It is one of the two, and so a place of the order; and where the two are one, that.
rounded-either : (Q : ℕ → Type 0) (a b : ℕ) → Q a → Q b → Q (rounded a b)
rounded-either Q a b p q = go (ℕ_discrete b 0) (ℕ_discrete (a % 2) 0)
  where
    go : Dec (b ≡ 0) → Dec (a % 2 ≡ 0) → Q (rounded a b)
    go (yes e) d = subst Q (e ∙ sym (rounded_seam a b e)) q
    go (no h) (yes e) = subst Q (sym (rounded_even a b h e)) p
    go (no h) (no e) = subst Q (sym (rounded_odd a b h e)) q

pub rounded_in : (n a b : ℕ) → a < n → b < n → rounded a b < n
rounded_in n a b = rounded-either (λ p. p < n) a b

pub aim_place_in : (n s m : ℕ) → 0 < n → aim_place Ring n s m < n
aim_place_in n s m l = rounded_in n (lower_middle s m % n) (upper_middle s m % n) (mod-lt (lower_middle s m) l) (mod-lt (upper_middle s m) l)

pub rounded-one : (a : ℕ) → rounded a a ≡ a
rounded-one a = rounded-either (λ p. p ≡ a) a a refl refl

-- Round n places: the next one is one more, or 0.
next_place : (n a : ℕ) → a < n → ((a + 1) % n ≡ a + 1) ⊎ ((a + 1) % n ≡ 0)
next_place n a l = go (dec_le (a + 2) n)
  where
    go : Dec (a + 2 ≤ n) → ((a + 1) % n ≡ a + 1) ⊎ ((a + 1) % n ≡ 0)
    go (yes h) = inl (mod-eq_of_lt {n = a + 1} {m = n} (omega arith))
    go (no h) =
        let e : a + 1 ≡ n + 0 = omega arith in
        inr (ap (λ k. k % n) e ∙ add-mod_left n 0 ∙ mod-eq_of_lt {n = 0} {m = n} (omega arith))

-- An even next place is taken; where it is odd, the place before it is even.
rounded-upper : (n a : ℕ) → a < n → (a + 1) % n % 2 ≡ 0 → rounded a ((a + 1) % n) ≡ (a + 1) % n
rounded-upper n a l even = go (next_place n a l)
  where
    b : ℕ
    b = (a + 1) % n

    go : (b ≡ a + 1) ⊎ (b ≡ 0) → rounded a b ≡ b
    go (inl e) = rounded_odd a b (λ z. omega arith) (λ z. omega (arith, even))
    go (inr e) = rounded_seam a b e ∙ sym e

odd_next : (n a : ℕ) → a < n → (a + 1) % n % 2 ≢ 0 → a % 2 ≡ 0
odd_next n a l odd = go (next_place n a l)
  where
    b : ℕ
    b = (a + 1) % n

    go : (b ≡ a + 1) ⊎ (b ≡ 0) → a % 2 ≡ 0
    go (inl e) = omega (arith, odd)
    go (inr e) = absurd (odd (ap (λ k. k % 2) e))

-- The run r starts at place s and has m of the n leaves.
module _ {G : Restriction} {ord : L} (r : GroupRun G ord) where
  abbrev t : Consecutive G ord
  t = r.turn

  abbrev n : ℕ
  n = length ord

  abbrev m : ℕ
  m = length t.run

  abbrev s : ℕ
  s = length t.before

  some_place : 0 < n
  some_place = omega (arith, r.starts)

  -- The place after that of the leaf with j of the run before it.
  next : (j k : ℕ) → s + j + 1 ≡ k → k % n ≡ ((s + j) % n + 1) % n
  next j k e = ap (λ i. i % n) (sym e) ∙ sym (mod-add-mod (s + j) n 1)

  aim_at : 1 ≤ m → aim_of Ring G ord ≡ get_or ord (aim_place Ring n s m) 0
  unfolding aim_of
  aim_at l = rw (group_start r l, group_size r)

  -- The leaf with j of the run before it is aimed at.
  stands : (j : ℕ) → j < m → Middle ((s + j) % n) (((s + j) % n + 1) % n) j (m - suc j) → Aimed G ord (get_or ord ((s + j) % n) 0)
  stands j l h =
      let before : length (take j t.run) ≡ j = length-take-le j t.run (omega arith) in
      let after : length (drop (suc j) t.run) ≡ m - suc j = length-drop (suc j) t.run in
      record {
        run = r;
        left = take j t.run;
        right = drop (suc j) t.run;
        leaves = split_at t.run j 0 l ∙ ap (λ x. take j t.run ++ (x ∷ drop (suc j) t.run)) (sym (group_leaf r j l));
        place = (s + j) % n;
        at = ap (λ k. (s + k) % n) (sym before);
        middle = rw (before, after) h;
      }

  aimed_run : 1 ≤ m → Aimed G ord (aim_of Ring G ord)
  aimed_run l = by_size (ℕ_discrete (m % 2) 0)
    where
      at_place : (j : ℕ) → j < m → aim_place Ring n s m ≡ (s + j) % n → Middle ((s + j) % n) (((s + j) % n + 1) % n) j (m - suc j) → Aimed G ord (aim_of Ring G ord)
      at_place j k e h = subst (Aimed G ord) (sym (aim_at l ∙ ap (λ p. get_or ord p 0) e)) (stands j k h)

      by_size : Dec (m % 2 ≡ 0) → Aimed G ord (aim_of Ring G ord)
      by_size (yes e) = go (ℕ_discrete (((s + j) % n + 1) % n % 2) 0)
        where
          j : ℕ
          j = m / 2 - 1

          in_n : (s + j) % n < n
          in_n = mod-lt (s + j) some_place

          low : lower_middle s m ≡ s + j
          low = omega arith

          high : upper_middle s m % n ≡ ((s + j) % n + 1) % n
          high = next j (upper_middle s m) (omega arith)

          go : Dec (((s + j) % n + 1) % n % 2 ≡ 0) → Aimed G ord (aim_of Ring G ord)
          go (yes even) = at_place (m / 2) (omega arith) (rw (low, high) (rounded-upper n ((s + j) % n) in_n even) ∙ sym high) (upper (omega arith) (rw high even))
          go (no odd) =
              let even = odd_next n ((s + j) % n) in_n odd in
              let not-0 : ((s + j) % n + 1) % n ≢ 0 = λ z. odd (ap (λ k. k % 2) z) in
              at_place j (omega arith) (rw (low, high) (rounded_even ((s + j) % n) (((s + j) % n + 1) % n) not-0 even)) (lower (omega arith) even not-0)
      by_size (no e) =
          let j = m / 2 in
          let low : lower_middle s m ≡ s + j = omega arith in
          at_place j (omega arith) (ap (λ k. rounded (k % n) ((s + j) % n)) low ∙ rounded-one ((s + j) % n)) (exact (omega arith))

-- The aim is in the middle of the run, and no other leaf is.
pub aimed : (G : Restriction) (ord : L) → Consecutive G ord → 1 ≤ count G ord → Aimed G ord (aim_of Ring G ord)
aimed G ord h l =
    let r = group_run G ord h (omega (arith, count_most G ord)) in
    aimed_run r (omega (arith, group_size r))

pub aimed_only : (G : Restriction) (ord : L) (b : ℕ) → Aimed G ord b → aim_of Ring G ord ≡ b
aimed_only G ord b a =
    let first : ◌≡◌ {A = ℕ} j (j + 0) = omega arith in
    aim_at r (omega (arith, many))
    ∙ ap (λ p. get_or ord p 0) (place a.middle)
    ∙ group_leaf r j (omega (arith, many))
    ∙ ap (λ x. get_or x j 0) a.leaves
    ∙ ap (λ i. get_or (a.left ++ (b ∷ a.right)) i 0) first
    ∙ get_or-append-add a.left (b ∷ a.right) 0 0
  where
    r : GroupRun G ord
    r = a.run

    j : ℕ
    j = length a.left

    many : m r ≡ j + suc (length a.right)
    many = ap length a.leaves ∙ length-append a.left (b ∷ a.right)

    place : Middle a.place ((a.place + 1) % n r) j (length a.right) → aim_place Ring (n r) (s r) (m r) ≡ (s r + j) % n r
    place (exact e) =
        let low : lower_middle (s r) (m r) ≡ s r + j = omega (arith, many) in
        let high : upper_middle (s r) (m r) ≡ s r + j = omega (arith, many) in
        rw (low, high) (rounded-one ((s r + j) % n r))
    place (lower e even not-0) =
        let p = (s r + j) % n r in
        let low : lower_middle (s r) (m r) ≡ s r + j = omega (arith, many) in
        let high = next r j (upper_middle (s r) (m r)) (omega (arith, many)) in
        rw (low, high) (rounded_even p ((p + 1) % n r) (λ z. not-0 (ap (λ k. (k + 1) % n r) a.at ∙ z)) (ap (λ k. k % 2) (sym a.at) ∙ even))
    place (upper e even) =
        let i = length a.right in
        let p = (s r + i) % n r in
        let low : lower_middle (s r) (m r) ≡ s r + i = omega (arith, many) in
        let high : upper_middle (s r) (m r) ≡ s r + j = omega (arith, many) in
        let this : (s r + j) % n r ≡ (p + 1) % n r = next r i (s r + j) (omega arith) in
        rw (low, high, this) (rounded-upper (n r) p (mod-lt (s r + i) (some_place r)) (ap (λ k. k % 2) (sym (a.at ∙ this)) ∙ even))

pub aimed_inside : {G : Restriction} {ord : L} {b : ℕ} → Aimed G ord b → G b ≡ true
aimed_inside {G} {ord} {b} a = (all_right (λ x. G x ≡ true) a.left (b ∷ a.right) (subst (Inside G) a.leaves a.run.turn.in_run)).0
