-- Document 01, "Conflict list", demand 3: the conflict list meets it, for all groups and numbers, wherever a test decides what "possible" says and
-- fewer groups are possible where more are. And so for every ring and rack, book and new group.
use mathlib.Core.Path.{◌∙◌, ◌≡◌, ap, ap₂, refl, subst, sym}
use mathlib.Core.Logic.{◌↔◌, inl, inr, ⊎_elim}
use mathlib.Core.Bool.{Bool, false, true, true≢false}
use mathlib.Core.List.{List, [], ◌++◌, ◌∷◌, map, append_assoc, head-eq_of_cons-eq, tail-eq_of_cons-eq}
use Prim.Native.Nat.{ℕ, zero, suc, ◌+◌, ◌-◌, ◌≤◌}
use native.Mathlib.Omega.{arith}
use lib.ListN.{length}
use Rattle.spec_orders.specs.declared.Layout.{Layout}
use Rattle.spec_orders.specs.declared.Layout.TheVariants.{Ring, Rack}
use Rattle.spec_orders.specs.Lists.{In, All, numbers_from, Rearranged, done}
use Rattle.spec_orders.specs.CircularOrder.{others, Restriction}
use Rattle.spec_orders.specs.Layout.{ConsecutiveOn, Possible}
use Rattle.spec_orders.specs.Join.{side}
use Rattle.spec_orders.specs.Conflict.{possible?, Sublist, end, kept, left, leave_out, conflict_list, Demand_3, book_conflicts, numbered, Numbers}
use Rattle.spec_orders.proofs.Rearranged.{perm_insert, perm_skip, pick_middle}
use Rattle.spec_orders.proofs.Members.{nil_not, in_left, in_right, in_append, in_all, all_in}
use Rattle.spec_orders.proofs.Tests.{false_if}
use Rattle.spec_orders.proofs.Contiguous.{Early, sided_before, sided_last, early_con}
use Rattle.spec_orders.proofs.CircleAndLine.{consecutive_side}
use Rattle.spec_orders.proofs.Decide.{possible_decides}

-- A list with elements left out.
module _ {A : Type 0} where
  pub sublist_in : {l m : List A} → Sublist l m → (x : A) → In x m → In x l
  sublist_in end x i = i
  sublist_in (kept p) x (inl e) = inl e
  sublist_in (kept p) x (inr i) = inr (sublist_in p x i)
  sublist_in (left p) x i = inr (sublist_in p x i)

  pub sublist_all : (P : A → Type 0) {l m : List A} → Sublist l m → All P l → All P m
  sublist_all P {l} {m} p h = in_all P m (λ x i. all_in P x l h (sublist_in p x i))

  pub sublist_length : {l m : List A} → Sublist l m → length m ≤ length l
  sublist_length end = omega arith
  sublist_length (kept p) = omega (arith, sublist_length p)
  sublist_length (left p) = omega (arith, sublist_length p)

  sublist_map : {B : Type 0} (g : A → B) {l m : List A} → Sublist l m → Sublist (map g l) (map g m)
  sublist_map g end = end
  sublist_map g (kept p) = kept (sublist_map g p)
  sublist_map g (left p) = left (sublist_map g p)

  sublist_none : (l : List A) → Sublist l []
  sublist_none [] = end
  sublist_none (x ∷ l) = left (sublist_none l)

-- Numbers that rise do so where some are left out.
numbers_later : (k i m : ℕ) (ns : List ℕ) → k ≤ i → Numbers i m ns → Numbers k m ns
numbers_later k i m [] l h = tt
numbers_later k i m (j ∷ ns) l h = (omega (arith, h.0), h.1, h.2)

pub sublist_numbers : (k m : ℕ) {l ns : List ℕ} → Sublist l ns → Numbers k m l → Numbers k m ns
sublist_numbers k m end h = h
sublist_numbers k m (kept {x = j} p) h = (h.0, h.1, sublist_numbers (suc j) m p h.2)
sublist_numbers k m (left {x = j} {m = ns} p) h = numbers_later k (suc j) m ns (omega (arith, h.0)) (sublist_numbers (suc j) m p h.2)

numbers_rise : (k c m : ℕ) → k + c ≤ suc m → Numbers k m (numbers_from k c)
numbers_rise k zero m h = tt
numbers_rise k (suc c) m h = (omega arith, omega arith, numbers_rise (suc k) c m (omega arith))

pub book_numbers : (count : ℕ) {ns : List ℕ} → Sublist (numbers_from 1 count) ns → Numbers 1 count ns
book_numbers count p = sublist_numbers 1 count p (numbers_rise 1 count count (omega arith))

-- One list or the other.
unfoldable pub by_test : Bool → List ℕ → List ℕ → List ℕ
by_test b k l = elim b [ true ↦ k | false ↦ l ]

-- A test of groups: it decides whether they are possible together, and fewer groups are where more are.
pub record Tests {A : Type 0} (Ok : List A → Type 0) (ok : List A → Bool) : Type 0 where
  pub decides : (Gs : List A) → (ok Gs ≡ true) ↔ Ok Gs
  pub fewer : (Gs Hs : List A) → ((x : A) → In x Hs → In x Gs) → Ok Gs → Ok Hs

module _ {A : Type 0} {Ok : List A → Type 0} {ok : List A → Bool} (t : Tests Ok ok) where
  pub not_ok : (Gs : List A) → ok Gs ≡ false → Ok Gs → ⊥
  not_ok Gs e p = true≢false (sym ((t.decides Gs).1 p) ∙ e)

  pub ok_not : (Gs : List A) → (Ok Gs → ⊥) → ok Gs ≡ false
  ok_not Gs u = false_if (ok Gs) (λ e. u ((t.decides Gs).0 e))

  module _ (f : ℕ → A) where
    -- The list is empty; it is what the rule keeps.
    pub list_empty : (stay : List A) (js : List ℕ) → Ok (stay ++ map f js) → conflict_list ok f stay js ≡ []
    unfolding conflict_list by_test
    list_empty stay js p = ap (λ (b : Bool). by_test b [] (leave_out ok f stay js)) ((t.decides (stay ++ map f js)).1 p)

    pub list_kept : (stay : List A) (js : List ℕ) → (Ok (stay ++ map f js) → ⊥) → conflict_list ok f stay js ≡ leave_out ok f stay js
    unfolding conflict_list by_test
    list_kept stay js u = ap (λ (b : Bool). by_test b [] (leave_out ok f stay js)) (ok_not (stay ++ map f js) u)

    -- What the leaving-out rule keeps is impossible where all are, and without any one of them it is possible.
    pub record Kept (stay : List A) (js ns : List ℕ) : Type 0 where
      pub part : Sublist js ns
      pub impossible : (Ok (stay ++ map f js) → ⊥) → Ok (stay ++ map f ns) → ⊥
      pub smallest : (a : List ℕ) (j : ℕ) (b : List ℕ) → ns ≡ a ++ (j ∷ b) → Ok (stay ++ map f (a ++ b))

    keep_one : (stay : List A) (j : ℕ) (js ns : List ℕ) → Ok (stay ++ map f js) → Kept (stay ++ (f j ∷ [])) js ns → Kept stay (j ∷ js) (j ∷ ns)
    keep_one stay j js ns q s = record {
      part = kept s.part;
      impossible = λ u p. s.impossible (λ r. u (subst Ok (append_assoc stay (f j ∷ []) (map f js)) r)) (subst Ok (sym (append_assoc stay (f j ∷ []) (map f ns))) p);
      smallest = least;
    }
      where
        least : (a : List ℕ) (i : ℕ) (b : List ℕ) → j ∷ ns ≡ a ++ (i ∷ b) → Ok (stay ++ map f (a ++ b))
        least [] i b e =
            subst (λ l. Ok (stay ++ map f l)) (tail-eq_of_cons-eq e)
            (t.fewer (stay ++ map f js) (stay ++ map f ns)
            (λ x h. ⊎_elim (in_left x stay (map f js)) (λ w. in_right x stay (map f js) (sublist_in (sublist_map f s.part) x w)) (in_append x stay (map f ns) h)) q)
        least (x ∷ a) i b e =
            subst (λ z. Ok (stay ++ (f z ∷ map f (a ++ b)))) (head-eq_of_cons-eq e)
            (subst Ok (append_assoc stay (f j ∷ []) (map f (a ++ b))) (s.smallest a i b (tail-eq_of_cons-eq e)))

    pub leave_out_kept : (stay : List A) (js : List ℕ) → Kept stay js (leave_out ok f stay js)
    unfolding leave_out
    leave_out_kept stay [] = record { part = end; impossible = λ u p. u p; smallest = λ a j b e. absurd (nil_not a j b e) }
    leave_out_kept stay (j ∷ js) = go (ok (stay ++ map f js)) refl (leave_out_kept (stay ++ (f j ∷ [])) js) (leave_out_kept stay js)
      where
        go : (b : Bool) → ok (stay ++ map f js) ≡ b → Kept (stay ++ (f j ∷ [])) js (leave_out ok f (stay ++ (f j ∷ [])) js) → Kept stay js (leave_out ok f stay js)
            → Kept stay (j ∷ js) (elim b [ true ↦ j ∷ leave_out ok f (stay ++ (f j ∷ [])) js | false ↦ leave_out ok f stay js ])
        go true q r s = keep_one stay j js (leave_out ok f (stay ++ (f j ∷ [])) js) ((t.decides (stay ++ map f js)).0 q) r
        go false q r s = record { part = left s.part; impossible = λ v. s.impossible (not_ok (stay ++ map f js) q); smallest = s.smallest }

    pub demand_3 : (new : A) → Ok (new ∷ []) → (js : List ℕ) → Demand_3 Ok f new js (conflict_list ok f (new ∷ []) js)
    unfolding conflict_list
    demand_3 new alone js = go (ok (new ∷ map f js)) refl
      where
        go : (b : Bool) → ok (new ∷ map f js) ≡ b → Demand_3 Ok f new js (elim b [ true ↦ [] | false ↦ leave_out ok f (new ∷ []) js ])
        go true q = record {
          empty_iff = ((λ e. (t.decides (new ∷ map f js)).0 q), (λ p. refl));
          impossible = λ h. absurd (h refl);
          smallest = λ a j b e. absurd (nil_not a j b e);
          numbers = sublist_none js;
        }
        go false q =
            let s = leave_out_kept (new ∷ []) js in
            let u = not_ok (new ∷ map f js) q in
            record {
              empty_iff = ((λ e. absurd (s.impossible u (subst (λ l. Ok (new ∷ map f l)) (sym e) alone))), (λ p. absurd (u p)));
              impossible = λ h. s.impossible u;
              smallest = s.smallest;
              numbers = s.part;
            }

-- The list goes by the groups that the numbers name, however they are named.
module _ {A : Type 0} (ok : List A → Bool) (f g : ℕ → A) where
  rule_same : (stay : List A) (js : List ℕ) → map f js ≡ map g js → leave_out ok f stay js ≡ leave_out ok g stay js
  unfolding leave_out by_test
  rule_same stay [] e = refl
  rule_same stay (j ∷ js) e =
      ap (λ (l : List A). by_test (ok (stay ++ l)) (j ∷ leave_out ok f (stay ++ (f j ∷ [])) js) (leave_out ok f stay js)) (tail-eq_of_cons-eq e)
      ∙ ap₂ (λ (k l : List ℕ). by_test (ok (stay ++ map g js)) (j ∷ k) l)
      (ap (λ (x : A). leave_out ok f (stay ++ (x ∷ [])) js) (head-eq_of_cons-eq e) ∙ rule_same (stay ++ (g j ∷ [])) js (tail-eq_of_cons-eq e))
      (rule_same stay js (tail-eq_of_cons-eq e))

  pub list_same : (stay : List A) (js : List ℕ) → map f js ≡ map g js → conflict_list ok f stay js ≡ conflict_list ok g stay js
  unfolding conflict_list by_test
  list_same stay js e = ap₂ (λ (k : List A) (l : List ℕ). by_test (ok (stay ++ k)) [] l) e (rule_same stay js e)

-- The groups of a list are those with the numbers 1 to its length.
numbered_behind : (G : Restriction) (Gs : List Restriction) (k c : ℕ) → map (numbered (G ∷ Gs)) (numbers_from (suc (suc k)) c) ≡ map (numbered Gs) (numbers_from (suc k) c)
numbered_behind G Gs k zero = refl
numbered_behind G Gs k (suc c) =
    let e : suc (suc k) - 1 ≡ suc (suc k - 1) = omega arith in
    rw (e, numbered_behind G Gs (suc k) c)

pub numbered_all : (Gs : List Restriction) → map (numbered Gs) (numbers_from 1 (length Gs)) ≡ Gs
numbered_all [] = refl
numbered_all (G ∷ Gs) = ap (λ (l : List Restriction). G ∷ l) (numbered_behind G Gs 0 (length Gs) ∙ numbered_all Gs)

-- Rings and racks: fewer restrictions; one by itself, the leaves of its side first and then the others.
fewer_possible : (l : Layout) (n : ℕ) (Gs Hs : List Restriction) → ((G : Restriction) → In G Hs → In G Gs) → Possible l n Gs → Possible l n Hs
fewer_possible l n Gs Hs h p =
    record { order = p.order; is_order = p.is_order; hang = in_all (λ G. ConsecutiveOn l G p.order) Hs (λ G i. all_in (λ G. ConsecutiveOn l G p.order) G Gs p.hang (h G i)) }

pub possible_tests : (l : Layout) (n : ℕ) → Tests (Possible l n) (possible? l n)
possible_tests l n = record { decides = possible_decides l n; fewer = fewer_possible l n }

side-first : (S : Restriction) (l : List ℕ) → (xs : List ℕ) × Rearranged l xs × Early S xs
side-first S [] = ([], done, sided_last S true false [] tt)
side-first S (x ∷ l) = go (S x) refl (side-first S l)
  where
    go : (b : Bool) → S x ≡ b → (xs : List ℕ) × Rearranged l xs × Early S xs → (xs : List ℕ) × Rearranged (x ∷ l) xs × Early S xs
    go true q (xs, p, h) = (x ∷ xs, perm_skip x p, sided_before S true false (x ∷ []) xs refl (q, tt) h)
    go false q (xs, p, h) = (h.0 ++ (x ∷ h.1), perm_insert (pick_middle h.0 x h.1) (subst (Rearranged l) h.2 p), (h.0, x ∷ h.1, refl, h.3, (q, h.4)))

pub one_possible : (l : Layout) (n : ℕ) (G : Restriction) → Possible l n (G ∷ [])
one_possible Ring n G =
    let (xs, p, h) = side-first (side 1 G) (others n) in
    record { order = 1 ∷ xs; is_order = record { after = xs; one_first = refl; all_leaves = p }; hang = ((consecutive_side G 1 xs).1 (early_con (side 1 G) xs h), tt) }
one_possible Rack n G =
    let (xs, p, h) = side-first G (numbers_from 1 n) in
    record { order = xs; is_order = p; hang = (early_con G xs h, tt) }

pub book_demand_3 : (l : Layout) (n : ℕ) (f : ℕ → Restriction) (count : ℕ) (new : Restriction)
    → Demand_3 (Possible l n) f new (numbers_from 1 count) (book_conflicts l n f count new)
book_demand_3 l n f count new = demand_3 (possible_tests l n) f new (one_possible l n new) (numbers_from 1 count)
