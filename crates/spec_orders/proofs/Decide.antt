-- The tests decide: consecutive? says whether a restriction is consecutive in an order, and possible? whether restrictions are possible
-- together, so whether they join the fresh ring one after another.
use mathlib.Core.Path.{◌∙◌, ◌≡◌, ap, refl, subst, sym}
use mathlib.Core.Logic.Iff
use mathlib.Core.Logic.{◌↔◌, ◌⊎◌, inl, inr}
use mathlib.Core.Bool.{Bool, cond, false, true, true≢false}
use mathlib.Core.Option.{some}
use mathlib.Core.List.{List, [], ◌++◌, ◌∷◌, append_assoc, append-nil, map}
use Prim.Native.Nat.{ℕ}
use Rattle.spec_orders.specs.declared.Layout.{Layout}
use Rattle.spec_orders.specs.declared.Layout.TheVariants.{Ring, Rack}
use Rattle.spec_orders.specs.Lists.{In, all_of, numbers_from, Pick, here, there, Rearranged, done, next}
use Rattle.spec_orders.specs.CircularOrder.{others, Restriction, Inside, Outside, Consecutive}
use Rattle.spec_orders.specs.Layout.{OrderOn, Contiguous, ConsecutiveOn, AllOn, Possible}
use Rattle.spec_orders.specs.Tree.{Forest}
use Rattle.spec_orders.specs.Join.{fresh, joins}
use Rattle.spec_orders.specs.Conflict.{spread, spread_all, perms, turns, none_in, run_first, consecutive?, contiguous?, consecutive_on?, orders_on, possible?}
use Rattle.spec_orders.proofs.Rearranged.{perm_insert, perm_sym, nil_perm}
use Rattle.spec_orders.proofs.Members.{in_left, in_right, in_append, of_some, to_some, all_decides}
use Rattle.spec_orders.proofs.Contiguous.{L, Early, sided_before, sided_last, early_con, con_out, con_cut, con_early, con_back}
use Rattle.spec_orders.proofs.Fresh.{possible_joins}

-- The restriction's leaves first, then no other.
module _ (G : Restriction) where
  of_none : (xs : L) → none_in G xs ≡ true → Outside G xs
  of_none [] e = tt
  of_none (x ∷ xs) e = go (G x) refl e (of_none xs)
    where
      go : (b : Bool) → G x ≡ b → cond b false (none_in G xs) ≡ true → (none_in G xs ≡ true → Outside G xs) → Outside G (x ∷ xs)
      go true q e h = absurd (true≢false (sym e))
      go false q e h = (q, h e)

  to_none : (xs : L) → Outside G xs → none_in G xs ≡ true
  to_none [] h = refl
  to_none (x ∷ xs) h = ap (λ b. cond b false (none_in G xs)) h.0 ∙ to_none xs h.1

  of_run : (xs : L) → run_first G xs ≡ true → Early G xs
  of_run [] e = ([], [], refl, tt, tt)
  of_run (x ∷ xs) e = go (G x) refl e (of_run xs)
    where
      go : (b : Bool) → G x ≡ b → cond b (run_first G xs) (none_in G xs) ≡ true → (run_first G xs ≡ true → Early G xs) → Early G (x ∷ xs)
      go true q e h = sided_before G true false (x ∷ []) xs refl (q, tt) (h e)
      go false q e h = sided_last G true false (x ∷ xs) (q, of_none xs e)

  to_run : (fs es : L) → Inside G fs → Outside G es → run_first G (fs ++ es) ≡ true
  to_run [] [] i o = refl
  to_run [] (x ∷ es) i o = ap (λ b. cond b (run_first G es) (none_in G es)) o.0 ∙ to_none es o.1
  to_run (x ∷ fs) es i o = ap (λ b. cond b (run_first G (fs ++ es)) (none_in G (fs ++ es))) i.0 ∙ to_run fs es i.1 o

-- The turns of a circle, one for each cut.
of_turns : (b a z : L) → In z (turns b a) → (c : L) × (d : L) × (a ≡ c ++ d) × (z ≡ d ++ (b ++ c))
of_turns b [] z (inl e) = ([], [], refl, e ∙ sym (append-nil b))
of_turns b [] z (inr i) = absurd i
of_turns b (x ∷ a) z (inl e) = ([], x ∷ a, refl, e ∙ ap (λ l. (x ∷ a) ++ l) (sym (append-nil b)))
of_turns b (x ∷ a) z (inr i) =
    let r = of_turns (b ++ (x ∷ [])) a z i in
    (x ∷ r.0, r.1, ap (λ l. x ∷ l) r.2, r.3 ∙ ap (λ l. r.1 ++ l) (append_assoc b (x ∷ []) r.0))

to_turns : (b c d : L) → In (d ++ (b ++ c)) (turns b (c ++ d))
to_turns b [] [] = inl (append-nil b)
to_turns b [] (x ∷ d) = inl (ap (λ l. (x ∷ d) ++ l) (append-nil b))
to_turns b (x ∷ c) d = inr (subst (λ l. In (d ++ l) (turns (b ++ (x ∷ [])) (c ++ d))) (append_assoc b (x ∷ []) c) (to_turns (b ++ (x ∷ [])) c d))

pub consecutive_decides : (G : Restriction) (ord : List ℕ) → (consecutive? G ord ≡ true) ↔ Consecutive G ord
unfolding consecutive?
consecutive_decides G ord = (
  (λ e. let s = of_some (run_first G) (turns [] ord) e in
      let c = of_turns [] ord s.0 s.1 in
      let r = of_run G s.0 s.2 in
      record { before = c.0; after = c.1; run = r.0; rest = r.1; cut = c.2; turned = sym c.3 ∙ r.2; in_run = r.3; out_rest = r.4 }),
  (λ t. to_some (run_first G) (turns [] ord) (t.after ++ t.before) (subst (λ l. In (t.after ++ t.before) (turns [] l)) (sym t.cut) (to_turns [] t.before t.after))
      (ap (run_first G) t.turned ∙ to_run G t.run t.rest t.in_run t.out_rest)),
)

-- All rearrangements of a list.
module _ {A : Type 0} where
  of_map : (y : A) (ls : List (List A)) (q : List A) → In q (map (λ m. y ∷ m) ls) → (m : List A) × In m ls × (q ≡ y ∷ m)
  of_map y [] q i = absurd i
  of_map y (l ∷ ls) q (inl e) = (l, inl refl, e)
  of_map y (l ∷ ls) q (inr i) = let r = of_map y ls q i in (r.0, inr r.1, r.2)

  to_map : (y : A) (ls : List (List A)) (m : List A) → In m ls → In (y ∷ m) (map (λ m. y ∷ m) ls)
  to_map y [] m i = absurd i
  to_map y (l ∷ ls) m (inl e) = inl (ap (λ l. y ∷ l) e)
  to_map y (l ∷ ls) m (inr i) = inr (to_map y ls m i)

  of_spread : (x : A) (l q : List A) → In q (spread x l) → Pick x q l
  of_spread x [] q (inl e) = subst (λ m. Pick x m []) (sym e) here
  of_spread x [] q (inr i) = absurd i
  of_spread x (y ∷ l) q (inl e) = subst (λ m. Pick x m (y ∷ l)) (sym e) here
  of_spread x (y ∷ l) q (inr i) = let r = of_map y (spread x l) q i in subst (λ m. Pick x m (y ∷ l)) (sym r.2) (there (of_spread x l r.0 r.1))

  spread_here : (x : A) (l : List A) → In (x ∷ l) (spread x l)
  spread_here x [] = inl refl
  spread_here x (y ∷ l) = inl refl

  to_spread : {x : A} {q l : List A} → Pick x q l → In q (spread x l)
  to_spread (here {x = x} {l = l}) = spread_here x l
  to_spread (there {x = x} {y = y} {l = l} {m = m} k) = inr (to_map y (spread x m) l (to_spread k))

  of_spread_all : (x : A) (ls : List (List A)) (q : List A) → In q (spread_all x ls) → (l : List A) × In l ls × In q (spread x l)
  of_spread_all x [] q i = absurd i
  of_spread_all x (l ∷ ls) q i = go (in_append q (spread x l) (spread_all x ls) i) (of_spread_all x ls q)
    where
      go : In q (spread x l) ⊎ In q (spread_all x ls) → (In q (spread_all x ls) → (m : List A) × In m ls × In q (spread x m)) → (m : List A) × In m (l ∷ ls) × In q (spread x m)
      go (inl j) h = (l, inl refl, j)
      go (inr j) h = let r = h j in (r.0, inr r.1, r.2)

  to_spread_all : (x : A) (ls : List (List A)) (l q : List A) → In l ls → In q (spread x l) → In q (spread_all x ls)
  to_spread_all x [] l q i j = absurd i
  to_spread_all x (m ∷ ls) l q (inl e) j = in_left q (spread x m) (spread_all x ls) (subst (λ l. In q (spread x l)) e j)
  to_spread_all x (m ∷ ls) l q (inr i) j = in_right q (spread x m) (spread_all x ls) (to_spread_all x ls l q i j)

  of_perms : (l q : List A) → In q (perms l) → Rearranged l q
  of_perms [] q (inl e) = subst (Rearranged []) (sym e) done
  of_perms [] q (inr i) = absurd i
  of_perms (x ∷ l) q i =
      let r = of_spread_all x (perms l) q i in
      perm_insert (of_spread x r.0 q r.2) (of_perms l r.0 r.1)

  to_perms : (l q : List A) → Rearranged l q → In q (perms l)
  to_perms [] q p = inl (nil_perm p)
  to_perms (x ∷ l) q p = go x l (perm_sym p) (to_perms l)
    where
      go : (x : A) (l : List A) {q : List A} → Rearranged q (x ∷ l) → ((m : List A) → Rearranged l m → In m (perms l)) → In q (spread_all x (perms l))
      go x l {q} (next {k = m} k r) h = to_spread_all x (perms l) m q (h m (perm_sym r)) (to_spread k)

-- In a straight order.
contiguous_decides : (G : Restriction) (xs : List ℕ) → (contiguous? G xs ≡ true) ↔ Contiguous G xs
contiguous_decides G [] = (λ e. early_con G [] ([], [], refl, tt, tt), λ c. refl)
contiguous_decides G (x ∷ xs) = go (G x) refl (contiguous_decides G xs)
  where
    go : (b : Bool) → G x ≡ b → (contiguous? G xs ≡ true) ↔ Contiguous G xs → (cond b (run_first G (x ∷ xs)) (contiguous? G xs) ≡ true) ↔ Contiguous G (x ∷ xs)
    go true q h = (
      (λ e. early_con G (x ∷ xs) (of_run G (x ∷ xs) e)),
      (λ c. let r = con_early G (x ∷ []) xs (λ o. true≢false (sym q ∙ o.0)) (con_cut G (x ∷ []) xs refl c) in
          ap (run_first G) (ap (λ l. x ∷ l) r.2) ∙ to_run G (x ∷ r.0) r.1 (q, r.3) r.4),
    )
    go false q h = ((λ e. con_out G (x ∷ []) xs refl (q, tt) (h.0 e)), (λ c. h.1 (con_back G (x ∷ []) xs (con_cut G (x ∷ []) xs refl c))))

pub decides_on : (l : Layout) (G : Restriction) (ord : List ℕ) → (consecutive_on? l G ord ≡ true) ↔ ConsecutiveOn l G ord
decides_on Ring G ord = consecutive_decides G ord
decides_on Rack G ord = contiguous_decides G ord

-- All orders are listed.
of_orders : (l : Layout) (n : ℕ) (ord : List ℕ) → In ord (orders_on l n) → OrderOn l n ord
of_orders Ring n ord i = let r = of_map 1 (perms (others n)) ord i in record { after = r.0; one_first = r.2; all_leaves = of_perms (others n) r.0 r.1 }
of_orders Rack n ord i = of_perms (numbers_from 1 n) ord i

to_orders : (l : Layout) (n : ℕ) (ord : List ℕ) → OrderOn l n ord → In ord (orders_on l n)
to_orders Ring n ord o = subst (λ m. In m (orders_on Ring n)) (sym o.one_first) (to_map 1 (perms (others n)) o.after (to_perms (others n) o.after o.all_leaves))
to_orders Rack n ord o = to_perms (numbers_from 1 n) ord o

pub possible_decides : (l : Layout) (n : ℕ) (Gs : List Restriction) → (possible? l n Gs ≡ true) ↔ Possible l n Gs
unfolding possible?
possible_decides l n Gs = (
  (λ e. let r = of_some (λ ord. all_of (λ G. consecutive_on? l G ord) Gs) (orders_on l n) e in record { order = r.0; is_order = of_orders l n r.0 r.1; hang = (each r.0).0 r.2 }),
  (λ p. to_some (λ ord. all_of (λ G. consecutive_on? l G ord) Gs) (orders_on l n) p.order (to_orders l n p.order p.is_order) ((each p.order).1 p.hang)),
)
  where
    each : (ord : L) → (all_of (λ G. consecutive_on? l G ord) Gs ≡ true) ↔ AllOn l Gs ord
    each ord = all_decides (λ G. consecutive_on? l G ord) (λ G. ConsecutiveOn l G ord) (λ G. decides_on l G ord) Gs

-- So the test over all circular orders says what the tree says.
pub possible_tree : (n : ℕ) (Gs : List Restriction) → (possible? Ring n Gs ≡ true) ↔ ((t : Forest) × (joins Gs (fresh n) ≡ some t))
possible_tree n Gs = Iff.trans (possible_decides Ring n Gs) (possible_joins n Gs)
