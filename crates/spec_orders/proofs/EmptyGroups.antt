-- Groups with no leaf. Such a group is consecutive in every order, so groups are possible with it iff they are without it, and no conflict list
-- names it or changes with it. (`Joining.empty_joins`: it changes no tree.)
use mathlib.Core.Path.{◌∙◌, ◌≡◌, ap, refl, subst, sym}
use mathlib.Core.Logic.Iff
use mathlib.Core.Logic.{◌↔◌}
use mathlib.Core.Bool.{Bool, false, true}
use mathlib.Core.List.{List, [], ◌++◌, ◌∷◌, map, append_assoc, append-nil, map-append}
use Prim.Native.Nat.{ℕ, suc, ◌+◌}
use native.Mathlib.Omega.{arith}
use Rattle.spec_orders.specs.declared.Layout.{Layout}
use Rattle.spec_orders.specs.declared.Layout.TheVariants.{Ring, Rack}
use Rattle.spec_orders.specs.Lists.{numbers_from}
use Rattle.spec_orders.specs.CircularOrder.{Restriction, EmptyGroup, Consecutive}
use Rattle.spec_orders.specs.Layout.{ConsecutiveOn, Possible}
use Rattle.spec_orders.specs.Conflict.{possible?, leave_out, conflict_list, Demand_3, book_conflicts}
use Rattle.spec_orders.proofs.Contiguous.{out_con}
use Rattle.spec_orders.proofs.ListLaws.{all_middle}
use Rattle.spec_orders.proofs.Members.{nil_not, in_all}
use Rattle.spec_orders.proofs.Numbers.{numbers_append}
use Rattle.spec_orders.proofs.Tests.{same_tests}
use Rattle.spec_orders.proofs.Decide.{possible_decides}
use Rattle.spec_orders.proofs.Conflicts.{by_test}

-- It hangs together in every order.
pub empty_consecutive : (G : Restriction) → EmptyGroup G → (ord : List ℕ) → Consecutive G ord
empty_consecutive G e ord =
    record { before = []; after = ord; run = []; rest = ord; cut = refl; turned = append-nil ord; in_run = tt; out_rest = in_all (λ x. G x ≡ false) ord (λ x i. e x) }

pub empty_on : (l : Layout) (G : Restriction) → EmptyGroup G → (ord : List ℕ) → ConsecutiveOn l G ord
empty_on Ring G e ord = empty_consecutive G e ord
empty_on Rack G e ord = out_con G ord (in_all (λ x. G x ≡ false) ord (λ x i. e x))

-- Groups are possible with it iff they are without it.
pub possible_without : (l : Layout) (n : ℕ) (G : Restriction) (before after : List Restriction) → EmptyGroup G → Possible l n (before ++ (G ∷ after)) ↔ Possible l n (before ++ after)
possible_without l n G before after e = (
  (λ p. record { order = p.order; is_order = p.is_order; hang = ((all_middle (λ H. ConsecutiveOn l H p.order) before G after).0 p.hang).0 }),
  (λ p. record { order = p.order; is_order = p.is_order; hang = (all_middle (λ H. ConsecutiveOn l H p.order) before G after).1 (p.hang, empty_on l G e p.order) }),
)

-- No list that meets the third demand names one.
pub never_named : {l : Layout} {n : ℕ} {f : ℕ → Restriction} {new : Restriction} {js ns : List ℕ} → Demand_3 (Possible l n) f new js ns
    → (before : List ℕ) (j : ℕ) (after : List ℕ) → ns ≡ before ++ (j ∷ after) → EmptyGroup (f j) → ⊥
never_named {l} {n} {f} {new} d before j after named e =
    d.impossible (λ none. nil_not before j after (sym none ∙ named))
    (subst (λ Gs. Possible l n (new ∷ Gs)) (sym (ap (map f) named ∙ map-append f before (j ∷ after)))
    ((possible_without l n (f j) (new ∷ map f before) (map f after) e).1
    (subst (λ Gs. Possible l n (new ∷ Gs)) (map-append f before after) (d.smallest before j after named))))

-- As the new group it has the empty list iff the book is possible by itself.
pub empty_new : {l : Layout} {n : ℕ} {f : ℕ → Restriction} {new : Restriction} {js ns : List ℕ} → Demand_3 (Possible l n) f new js ns → EmptyGroup new → (ns ≡ []) ↔ Possible l n (map f js)
empty_new {l} {n} {f} {new} {js} d e = Iff.trans d.empty_iff (possible_without l n new [] (map f js) e)

-- A group that the test does not see changes no conflict list, wherever it stands in the book.
module _ {A : Type 0} (ok : List A → Bool) (f : ℕ → A) (j : ℕ) (unseen : (before after : List A) → ok (before ++ (f j ∷ after)) ≡ ok (before ++ after)) where
  unseen_test : (stay : List A) (before after : List ℕ) → ok (stay ++ map f (before ++ (j ∷ after))) ≡ ok (stay ++ map f (before ++ after))
  unseen_test stay before after =
      ap (λ (l : List A). ok (stay ++ l)) (map-append f before (j ∷ after))
      ∙ ap ok (sym (append_assoc stay (map f before) (f j ∷ map f after)))
      ∙ unseen (stay ++ map f before) (map f after)
      ∙ ap ok (append_assoc stay (map f before) (map f after))
      ∙ ap (λ (l : List A). ok (stay ++ l)) (sym (map-append f before after))

  -- What the leaving-out rule keeps, where all together are impossible.
  rule_without : (stay : List A) (before after : List ℕ) → ok (stay ++ map f (before ++ after)) ≡ false → leave_out ok f stay (before ++ (j ∷ after)) ≡ leave_out ok f stay (before ++ after)
  unfolding leave_out by_test
  rule_without stay [] after e = ap (λ (b : Bool). by_test b (j ∷ leave_out ok f (stay ++ (f j ∷ [])) after) (leave_out ok f stay after)) e
  rule_without stay (i ∷ before) after e =
      ap (λ (b : Bool). by_test b (i ∷ leave_out ok f (stay ++ (f i ∷ [])) (before ++ (j ∷ after))) (leave_out ok f stay (before ++ (j ∷ after)))) (unseen_test stay before after)
      ∙ go (ok (stay ++ map f (before ++ after))) refl
      (rule_without (stay ++ (f i ∷ [])) before after (ap ok (append_assoc stay (f i ∷ []) (map f (before ++ after))) ∙ e)) (rule_without stay before after)
    where
      go : (b : Bool) → ok (stay ++ map f (before ++ after)) ≡ b
          → leave_out ok f (stay ++ (f i ∷ [])) (before ++ (j ∷ after)) ≡ leave_out ok f (stay ++ (f i ∷ [])) (before ++ after)
          → (ok (stay ++ map f (before ++ after)) ≡ false → leave_out ok f stay (before ++ (j ∷ after)) ≡ leave_out ok f stay (before ++ after))
          → by_test b (i ∷ leave_out ok f (stay ++ (f i ∷ [])) (before ++ (j ∷ after))) (leave_out ok f stay (before ++ (j ∷ after)))
          ≡ by_test b (i ∷ leave_out ok f (stay ++ (f i ∷ [])) (before ++ after)) (leave_out ok f stay (before ++ after))
      go true q kept left = ap (λ (l : List ℕ). i ∷ l) kept
      go false q kept left = left q

  list_without : (stay : List A) (before after : List ℕ) → conflict_list ok f stay (before ++ (j ∷ after)) ≡ conflict_list ok f stay (before ++ after)
  unfolding conflict_list by_test
  list_without stay before after =
      ap (λ (b : Bool). by_test b [] (leave_out ok f stay (before ++ (j ∷ after)))) (unseen_test stay before after)
      ∙ go (ok (stay ++ map f (before ++ after))) refl
    where
      go : (b : Bool) → ok (stay ++ map f (before ++ after)) ≡ b
          → by_test b [] (leave_out ok f stay (before ++ (j ∷ after))) ≡ by_test b [] (leave_out ok f stay (before ++ after))
      go true q = refl
      go false q = rule_without stay before after q

possible_unseen : (l : Layout) (n : ℕ) (G : Restriction) → EmptyGroup G → (before after : List Restriction) → possible? l n (before ++ (G ∷ after)) ≡ possible? l n (before ++ after)
possible_unseen l n G e before after =
    let with_it = possible_decides l n (before ++ (G ∷ after)) in
    let without = possible_decides l n (before ++ after) in
    let iff = possible_without l n G before after e in
    same_tests (possible? l n (before ++ (G ∷ after))) (possible? l n (before ++ after)) (λ p. without.1 (iff.0 (with_it.0 p))) (λ p. with_it.1 (iff.1 (without.0 p)))

-- One more in the book's next place changes no conflict list.
pub conflicts_joined : (l : Layout) (n : ℕ) (f : ℕ → Restriction) (count : ℕ) (new : Restriction) → EmptyGroup (f (suc count)) → book_conflicts l n f (suc count) new ≡ book_conflicts l n f count new
conflicts_joined l n f count new e =
    let more : suc count ≡ count + 1 = omega arith in
    let last : 1 + count ≡ suc count = omega arith in
    let numbers : numbers_from 1 (suc count) ≡ numbers_from 1 count ++ (suc count ∷ []) =
    ap (numbers_from 1) more ∙ numbers_append 1 count 1 ∙ ap (λ (k : ℕ). numbers_from 1 count ++ (k ∷ [])) last in
    ap (conflict_list (possible? l n) f (new ∷ [])) numbers
    ∙ list_without (possible? l n) f (suc count) (possible_unseen l n (f (suc count)) e) (new ∷ []) (numbers_from 1 count) []
    ∙ ap (conflict_list (possible? l n) f (new ∷ [])) (append-nil (numbers_from 1 count))
