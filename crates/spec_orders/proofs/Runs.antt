-- The run of a consecutive group: it has as many leaves as the group, and starts where the definition says.
use mathlib.Core.Path.{◌≡◌, refl, sym, ◌∙◌, ap, subst}
use mathlib.Core.Logic.{◌⊎◌, inl, inr}
use mathlib.Core.Bool.{Bool, true, false}
use mathlib.Core.List.{[], ◌∷◌, ◌++◌, append_assoc, append-nil}
use Prim.Native.Nat.{ℕ, suc, ◌+◌, ◌-◌, ◌%◌, ◌≤◌, ◌<◌}
use native.Mathlib.Nat.{mod-eq_of_lt, add-mod_left}
use native.Mathlib.Decide.{dec_le}
use native.Mathlib.Omega.{arith}
use lib.ListN.{length, get_or, length-append, get_or-append}
use lib.Seq.{get_or-append-add}
use Rattle.spec_orders.specs.declared.Layout.TheVariants.{Ring}
use Rattle.spec_orders.specs.Lists.{All, count}
use Rattle.spec_orders.specs.CircularOrder.{Restriction, Inside, Outside, Consecutive}
use Rattle.spec_orders.specs.Aim.{last_of, start_after, run_start, GroupRun}
use Rattle.spec_orders.proofs.ListLaws.{all_append, all_left, all_right}
use Rattle.spec_orders.proofs.Members.{Later, cut}
use Rattle.spec_orders.proofs.Contiguous.{L}
use Rattle.spec_orders.proofs.Numbers.{count_append, count_inside, count_outside}

-- The last leaf.
last_append : (b : ℕ) (xs ys : L) → last_of b (xs ++ ys) ≡ last_of (last_of b xs) ys
last_append b [] ys = refl
last_append b (x ∷ xs) ys = last_append x xs ys

module _ (G : Restriction) where
  pub last_all : (c : Bool) (b : ℕ) (xs : L) → 1 ≤ length xs → All (λ x. G x ≡ c) xs → G (last_of b xs) ≡ c
  last_all c b [] l h = absurd (omega arith)
  last_all c b (x ∷ []) l h = h.0
  last_all c b (x ∷ (y ∷ ys)) l h = last_all c x (y ∷ ys) (omega arith) h.1

  -- No start among leaves outside, nor among leaves of the group after another.
  skip_out : (b p : ℕ) (xs ys : L) → Outside G xs → start_after G b p (xs ++ ys) ≡ start_after G (last_of b xs) (p + length xs) ys
  skip_out b p [] ys o = let e : p ≡ p + 0 = omega arith in ap (λ q. start_after G b q ys) e
  skip_out b p (x ∷ xs) ys o =
      let e : suc p + length xs ≡ p + suc (length xs) = omega arith in
      rw o.0 (skip_out x (suc p) xs ys o.1 ∙ ap (λ q. start_after G (last_of x xs) q ys) e)

  skip_in : (b p : ℕ) (xs ys : L) → G b ≡ true → Inside G xs → start_after G b p (xs ++ ys) ≡ start_after G (last_of b xs) (p + length xs) ys
  skip_in b p [] ys g i = let e : p ≡ p + 0 = omega arith in ap (λ q. start_after G b q ys) e
  skip_in b p (x ∷ xs) ys g i =
      let e : suc p + length xs ≡ p + suc (length xs) = omega arith in
      rw (i.0, g) (skip_in x (suc p) xs ys i.0 i.1 ∙ ap (λ q. start_after G (last_of x xs) q ys) e)

  start_here : (b p : ℕ) (run ys : L) → G b ≡ false → 1 ≤ length run → Inside G run → start_after G b p (run ++ ys) ≡ p
  start_here b p [] ys g l i = absurd (omega arith)
  start_here b p (y ∷ run) ys g l i = rw (i.0, g)

  -- A run after leaves outside the group; after others of it, past the seam, and leaves outside; and the whole circle.
  pub start_after_out : (b : ℕ) (out run ys : L) → G (last_of b out) ≡ false → Outside G out → 1 ≤ length run → Inside G run
      → start_after G b 0 (out ++ (run ++ ys)) ≡ length out
  start_after_out b out run ys g o l i = skip_out b 0 out (run ++ ys) o ∙ start_here (last_of b out) (0 + length out) run ys g l i ∙ omega arith

  start_past_seam : (b : ℕ) (end out run : L) → G b ≡ true → Inside G end → 1 ≤ length out → Outside G out → 1 ≤ length run → Inside G run
      → start_after G b 0 (end ++ (out ++ run)) ≡ length (end ++ out)
  start_past_seam b end out run g i l o m j =
      let e = last_of b end in
      skip_in b 0 end (out ++ run) g i
      ∙ skip_out e (0 + length end) out run o
      ∙ ap (start_after G (last_of e out) (0 + length end + length out)) (sym (append-nil run))
      ∙ start_here (last_of e out) (0 + length end + length out) run [] (last_all false e out l o) m j
      ∙ omega (arith, length-append end out)

  start-whole : (b : ℕ) (xs : L) → G b ≡ true → Inside G xs → start_after G b 0 xs ≡ 0
  start-whole b xs g i = ap (start_after G b 0) (sym (append-nil xs)) ∙ skip_in b 0 xs [] g i

-- A place counted from a cut of a circle.
turned_place : (a c : L) (j : ℕ) → j < length (a ++ c) → get_or (a ++ c) ((length a + j) % length (a ++ c)) 0 ≡ get_or (c ++ a) j 0
turned_place a c j l = go (dec_le (length c) j)
  where
    long : length (a ++ c) ≡ length a + length c
    long = length-append a c

    go : Dec (length c ≤ j) → get_or (a ++ c) ((length a + j) % length (a ++ c)) 0 ≡ get_or (c ++ a) j 0
    go (yes h) =
        let i = j - length c in
        let m : i < length a = omega (arith, long) in
        let e : length a + j ≡ length (a ++ c) + i = omega (arith, long) in
        let f : length c + i ≡ j = omega arith in
        ap (λ k. get_or (a ++ c) (k % length (a ++ c)) 0) e
        ∙ ap (λ k. get_or (a ++ c) k 0) (add-mod_left (length (a ++ c)) i ∙ mod-eq_of_lt {n = i} {m = length (a ++ c)} (omega (arith, long)))
        ∙ get_or-append a c 0 i m
        ∙ sym (get_or-append-add c a i 0)
        ∙ ap (λ k. get_or (c ++ a) k 0) f
    go (no h) =
        let m : j < length c = omega arith in
        ap (λ k. get_or (a ++ c) k 0) (mod-eq_of_lt {n = length a + j} {m = length (a ++ c)} (omega (arith, long)))
        ∙ get_or-append-add a c j 0
        ∙ sym (get_or-append c a 0 j m)

module _ {G : Restriction} {ord : L} (r : GroupRun G ord) where
  abbrev t : Consecutive G ord
  t = r.turn

  long : length ord ≡ length t.before + length t.after
  long = ap length t.cut ∙ length-append t.before t.after

  in_all : length ord ≡ length t.run + length t.rest
  in_all = omega (arith, long, length-append t.after t.before, ap length t.turned, length-append t.run t.rest)

  pub group_size : count G ord ≡ length t.run
  group_size = omega (
    arith,
    ap (count G) t.cut,
    count_append G t.before t.after,
    count_append G t.after t.before,
    ap (count G) t.turned,
    count_append G t.run t.rest,
    count_inside G t.run t.in_run,
    count_outside G t.rest t.out_rest,
  )

  -- The leaf with j of the run before it.
  pub group_leaf : (j : ℕ) → j < length t.run → get_or ord ((length t.before + j) % length ord) 0 ≡ get_or t.run j 0
  group_leaf j l =
      ap (λ y. get_or y ((length t.before + j) % length y) 0) t.cut
      ∙ turned_place t.before t.after j (omega (arith, in_all, ap length t.cut))
      ∙ ap (λ y. get_or y j 0) t.turned
      ∙ get_or-append t.run t.rest 0 j l

  -- The run starts where the definition says.
  pub group_start : 1 ≤ length t.run → run_start Ring G ord ≡ length t.before
  unfolding run_start
  group_start l = by_rest t.rest refl
    where
      b : ℕ
      b = last_of 0 ord

      after_some : 1 ≤ length t.after
      after_some = omega (arith, long, r.starts)

      last_after : b ≡ last_of (last_of 0 t.before) t.after
      last_after = ap (last_of 0) t.cut ∙ last_append 0 t.before t.after

      by_cut : 1 ≤ length t.rest → Later t.after t.before t.run t.rest ⊎ Later t.run t.rest t.after t.before
          → start_after G b 0 ord ≡ length t.before
      by_cut m (inl k) =
          let i = all_left (λ x. G x ≡ true) t.after k.0 (subst (Inside G) k.1 t.in_run) in
          let j = all_right (λ x. G x ≡ true) t.after k.0 (subst (Inside G) k.1 t.in_run) in
          ap (start_after G b 0) (t.cut ∙ ap (λ x. x ++ t.after) k.2 ∙ append_assoc k.0 t.rest t.after)
          ∙ start_past_seam G b k.0 t.rest t.after (ap G last_after ∙ last_all G true (last_of 0 t.before) t.after after_some i) j m t.out_rest after_some i
          ∙ ap length (sym k.2)
      by_cut m (inr k) =
          let o = all_left (λ x. G x ≡ false) k.0 t.before (subst (Outside G) k.2 t.out_rest) in
          let p = all_right (λ x. G x ≡ false) k.0 t.before (subst (Outside G) k.2 t.out_rest) in
          ap (start_after G b 0) (t.cut ∙ ap (λ x. t.before ++ x) k.1)
          ∙ start_after_out G b t.before t.run k.0 (stands_out t.before k.0 refl p o k.1 (omega (arith, ap length k.2, length-append k.0 t.before))) p l t.in_run
        where
          stands_out : (before w : L) → t.before ≡ before → Outside G before → Outside G w → t.after ≡ t.run ++ w → 1 ≤ length w + length before
              → G (last_of b before) ≡ false
          stands_out [] w e p o f q =
              ap G (last_after ∙ ap (last_of (last_of 0 t.before)) f ∙ last_append (last_of 0 t.before) t.run w) ∙ last_all G false (last_of (last_of 0 t.before) t.run) w (omega arith) o
          stands_out (x ∷ before) w e p o f q = last_all G false b (x ∷ before) (omega arith) p

      by_rest : (rest : L) → t.rest ≡ rest → start_after G b 0 ord ≡ length t.before
      by_rest [] e =
          let none = r.whole e in
          let all : ord ≡ t.run =
          t.cut ∙ ap (λ x. x ++ t.after) none ∙ sym (append-nil t.after) ∙ ap (λ x. t.after ++ x) (sym none) ∙ t.turned ∙ ap (λ x. t.run ++ x) e ∙ append-nil t.run in
          let i : Inside G ord = subst (Inside G) (sym all) t.in_run in
          start-whole G b ord (last_all G true 0 ord (omega (arith, r.starts)) i) i ∙ sym (ap length none)
      by_rest (x ∷ rest) e = by_cut (omega (arith, ap length e)) (cut t.after t.run t.turned)

-- A consecutive group has a run.
pub group_run : (G : Restriction) (ord : L) → Consecutive G ord → 1 ≤ length ord → GroupRun G ord
group_run G ord t l = by_rest t.rest refl
  where
    by_rest : (rest : L) → t.rest ≡ rest → GroupRun G ord
    by_rest [] e =
        let i : Inside G (t.after ++ t.before) = subst (Inside G) (sym (t.turned ∙ ap (λ x. t.run ++ x) e ∙ append-nil t.run)) t.in_run in
        record {
          turn = record {
            before = [];
            after = ord;
            run = ord;
            rest = [];
            cut = refl;
            turned = refl;
            in_run = subst (Inside G) (sym t.cut) (all_append (λ x. G x ≡ true) t.before t.after (all_right (λ x. G x ≡ true) t.after t.before i) (all_left (λ x. G x ≡ true) t.after t.before i));
            out_rest = tt;
          };
          starts = omega arith;
          whole = λ e. refl;
        }
    by_rest (x ∷ rest) e = by_after t.after refl
      where
        by_after : (after : L) → t.after ≡ after → GroupRun G ord
        by_after [] f =
            record {
              turn = record {
                before = [];
                after = ord;
                run = t.run;
                rest = t.rest;
                cut = refl;
                turned = append-nil ord ∙ t.cut ∙ ap (λ x. t.before ++ x) f ∙ append-nil t.before ∙ ap (λ x. x ++ t.before) (sym f) ∙ t.turned;
                in_run = t.in_run;
                out_rest = t.out_rest;
              };
              starts = omega arith;
              whole = λ e. refl;
            }
        by_after (y ∷ after) f = record {
          turn = t;
          starts = omega (arith, ap length t.cut, length-append t.before t.after, ap length f);
          whole = λ z. absurd (omega (arith, ap length z, ap length e));
        }
