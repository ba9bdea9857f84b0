-- The leaving-out rule, over any test: it goes by the groups that stay, in whatever sequence; the first half of the numbers with the second half
-- staying, then the second half with what is kept of the first.
use mathlib.Core.Path.{◌≡◌, refl, sym, ap, ap₂, subst, ◌∙◌}
use mathlib.Core.Logic.{◌↔◌, ⊎_elim}
use mathlib.Core.Bool.{Bool, true, false}
use mathlib.Core.List.{List, [], ◌∷◌, ◌++◌, map, map-append, append_assoc, append-nil}
use Prim.Native.Nat.{ℕ, ◌≤◌}
use native.Mathlib.Omega.{arith}
use lib.ListN.{length, take, drop, take-append-drop}
use Rattle.spec_orders.specs.Lists.{In}
use Rattle.spec_orders.specs.Conflict.{leave_out}
use Rattle.spec_orders.proofs.Members.{in_left, in_right, in_append}
use Rattle.spec_orders.proofs.Conflicts.{by_test, Tests, not_ok, ok_not}
use Rattle.conflict_rule.specs.LeavingOut.{goes_on}

-- The same groups, in whatever sequence.
module _ {A : Type 0} where
  abbrev Same : List A → List A → Type 0
  Same Gs Hs = (x : A) → In x Gs ↔ In x Hs

  in_parts : {P : Type 0} (x : A) (a b : List A) → (In x a → P) → (In x b → P) → In x (a ++ b) → P
  in_parts x a b f g i = ⊎_elim f g (in_append x a b i)

  same_more : (Gs Hs l : List A) → Same Gs Hs → Same (Gs ++ l) (Hs ++ l)
  same_more Gs Hs l s x = (
    in_parts x Gs l (λ i. in_left x Hs l ((s x).0 i)) (in_right x Hs l),
    in_parts x Hs l (λ i. in_left x Gs l ((s x).1 i)) (in_right x Gs l),
  )

  same_swap : (Gs k l : List A) → Same (Gs ++ (k ++ l)) ((Gs ++ l) ++ k)
  same_swap Gs k l x = (
    in_parts x Gs (k ++ l) (λ i. in_left x (Gs ++ l) k (in_left x Gs l i))
        (in_parts x k l (in_right x (Gs ++ l) k) (λ i. in_left x (Gs ++ l) k (in_right x Gs l i))),
    in_parts x (Gs ++ l) k (in_parts x Gs l (in_left x Gs (k ++ l)) (λ i. in_right x Gs (k ++ l) (in_right x k l i)))
        (λ i. in_right x Gs (k ++ l) (in_left x k l i)),
  )

module _ {A : Type 0} {Ok : List A → Type 0} {ok : List A → Bool} (t : Tests Ok ok) (f : ℕ → A) where
  same_test : (Gs Hs : List A) → Same Gs Hs → ok Gs ≡ ok Hs
  same_test Gs Hs s = go (ok Gs) refl
    where
      go : (b : Bool) → ok Gs ≡ b → ok Gs ≡ ok Hs
      go true q = q ∙ sym ((t.decides Hs).1 (t.fewer Gs Hs (λ x. (s x).1) ((t.decides Gs).0 q)))
      go false q = q ∙ sym (ok_not t Hs (λ p. not_ok t Gs q (t.fewer Hs Gs (λ x. (s x).0) p)))

  -- Those behind the first numbers.
  pub fewer_behind : (stay : List A) (out js : List ℕ) → Ok (stay ++ map f (out ++ js)) → Ok (stay ++ map f js)
  fewer_behind stay out js =
      t.fewer (stay ++ map f (out ++ js)) (stay ++ map f js) (λ x. in_parts x stay (map f js) (in_left x stay (map f (out ++ js)))
      (λ i. in_right x stay (map f (out ++ js)) (subst (In x) (sym (map-append f out js)) (in_right x (map f out) (map f js) i))))

  -- The first number is kept; it is left out.
  rule_first : (stay : List A) (j : ℕ) (js : List ℕ) → ok (stay ++ map f js) ≡ true → leave_out ok f stay (j ∷ js) ≡ j ∷ leave_out ok f (stay ++ (f j ∷ [])) js
  unfolding leave_out by_test
  rule_first stay j js e = ap (λ (b : Bool). by_test b (j ∷ leave_out ok f (stay ++ (f j ∷ [])) js) (leave_out ok f stay js)) e

  rule_rest : (stay : List A) (j : ℕ) (js : List ℕ) → ok (stay ++ map f js) ≡ false → leave_out ok f stay (j ∷ js) ≡ leave_out ok f stay js
  unfolding leave_out by_test
  rule_rest stay j js e = ap (λ (b : Bool). by_test b (j ∷ leave_out ok f (stay ++ (f j ∷ [])) js) (leave_out ok f stay js)) e

  rule_same : (Gs Hs : List A) (js : List ℕ) → Same Gs Hs → leave_out ok f Gs js ≡ leave_out ok f Hs js
  unfolding leave_out by_test
  rule_same Gs Hs [] s = refl
  rule_same Gs Hs (j ∷ js) s =
      ap (λ (b : Bool). by_test b (j ∷ leave_out ok f (Gs ++ (f j ∷ [])) js) (leave_out ok f Gs js)) (same_test (Gs ++ map f js) (Hs ++ map f js) (same_more Gs Hs (map f js) s))
      ∙ ap₂ (λ (k l : List ℕ). by_test (ok (Hs ++ map f js)) (j ∷ k) l) (rule_same (Gs ++ (f j ∷ [])) (Hs ++ (f j ∷ [])) js (same_more Gs Hs (f j ∷ []) s)) (rule_same Gs Hs js s)

  -- One half, then the other.
  rule_append : (stay : List A) (js ks : List ℕ) → leave_out ok f stay (js ++ ks) ≡ goes_on ok f stay (leave_out ok f (stay ++ map f ks) js) ks
  unfolding leave_out goes_on
  rule_append stay [] ks = ap (λ (l : List A). leave_out ok f l ks) (sym (append-nil stay))
  rule_append stay (j ∷ js) ks = go (ok ((stay ++ map f ks) ++ map f js)) refl (rule_append (stay ++ (f j ∷ [])) js ks) (rule_append stay js ks)
    where
      test : ok (stay ++ map f (js ++ ks)) ≡ ok ((stay ++ map f ks) ++ map f js)
      test = ap (λ (l : List A). ok (stay ++ l)) (map-append f js ks) ∙ same_test _ _ (same_swap stay (map f js) (map f ks))

      first : List ℕ
      first = leave_out ok f ((stay ++ map f ks) ++ (f j ∷ [])) js

      moved : leave_out ok f ((stay ++ (f j ∷ [])) ++ map f ks) js ≡ first
      moved = ap (λ (l : List A). leave_out ok f l js) (append_assoc stay (f j ∷ []) (map f ks))
          ∙ rule_same (stay ++ ((f j ∷ []) ++ map f ks)) ((stay ++ map f ks) ++ (f j ∷ [])) js (same_swap stay (f j ∷ []) (map f ks))

      go : (b : Bool) → ok ((stay ++ map f ks) ++ map f js) ≡ b
          → leave_out ok f (stay ++ (f j ∷ [])) (js ++ ks) ≡ goes_on ok f (stay ++ (f j ∷ [])) (leave_out ok f ((stay ++ (f j ∷ [])) ++ map f ks) js) ks
          → leave_out ok f stay (js ++ ks) ≡ goes_on ok f stay (leave_out ok f (stay ++ map f ks) js) ks
          → leave_out ok f stay (j ∷ (js ++ ks)) ≡ goes_on ok f stay (leave_out ok f (stay ++ map f ks) (j ∷ js)) ks
      go true q p r =
          rule_first stay j (js ++ ks) (test ∙ q)
          ∙ ap (λ (l : List ℕ). j ∷ l) (p ∙ ap (λ (l : List ℕ). goes_on ok f (stay ++ (f j ∷ [])) l ks) moved)
          ∙ ap (λ (l : List A). j ∷ (first ++ leave_out ok f l ks)) (append_assoc stay (f j ∷ []) (map f first))
          ∙ ap (λ (l : List ℕ). goes_on ok f stay l ks) (sym (rule_first (stay ++ map f ks) j js q))
      go false q p r =
          rule_rest stay j (js ++ ks) (test ∙ q) ∙ r ∙ ap (λ (l : List ℕ). goes_on ok f stay l ks) (sym (rule_rest (stay ++ map f ks) j js q))

  pub rule_halves : (stay : List A) (js : List ℕ) (m : ℕ)
      → leave_out ok f stay js ≡ goes_on ok f stay (leave_out ok f (stay ++ map f (drop m js)) (take m js)) (drop m js)
  rule_halves stay js m = ap (leave_out ok f stay) (sym (take-append-drop m js)) ∙ rule_append stay (take m js) (drop m js)

  -- Those that stay are impossible already: no other is kept.
  rule_none : (stay : List A) (js : List ℕ) → (Ok stay → ⊥) → leave_out ok f stay js ≡ []
  unfolding leave_out
  rule_none stay [] u = refl
  rule_none stay (j ∷ js) u =
      rule_rest stay j js (ok_not t (stay ++ map f js) (λ p. u (t.fewer (stay ++ map f js) stay (λ x. in_left x stay (map f js)) p))) ∙ rule_none stay js u

  pub goes_on_none : (stay : List A) (kept js : List ℕ) → (Ok (stay ++ map f kept) → ⊥) → goes_on ok f stay kept js ≡ kept
  unfolding goes_on
  goes_on_none stay kept js u = ap (λ (l : List ℕ). kept ++ l) (rule_none (stay ++ map f kept) js u) ∙ append-nil kept

  -- Those behind the first numbers are impossible by themselves: the first numbers are left out.
  pub rule_behind : (stay : List A) (out js : List ℕ) → (Ok (stay ++ map f js) → ⊥) → leave_out ok f stay (out ++ js) ≡ leave_out ok f stay js
  rule_behind stay [] js u = refl
  rule_behind stay (j ∷ out) js u = rule_rest stay j (out ++ js) (ok_not t (stay ++ map f (out ++ js)) (λ p. u (fewer_behind stay out js p))) ∙ rule_behind stay out js u

  -- The others are possible: the first number is kept.
  pub rule_next : (stay : List A) (j : ℕ) (js : List ℕ) → Ok (stay ++ map f js) → leave_out ok f stay (j ∷ js) ≡ goes_on ok f stay (j ∷ []) js
  unfolding goes_on
  rule_next stay j js p = rule_first stay j js ((t.decides (stay ++ map f js)).1 p)

  -- One number, or none.
  pub rule_short : (stay : List A) (js : List ℕ) → length js ≤ 1 → Ok stay → leave_out ok f stay js ≡ js
  unfolding leave_out
  rule_short stay [] h p = refl
  rule_short stay (j ∷ []) h p = rule_first stay j [] ((t.decides (stay ++ [])).1 (subst Ok (sym (append-nil stay)) p))
  rule_short stay (j ∷ (k ∷ js)) h p = absurd (omega arith)
