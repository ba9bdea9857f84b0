-- An attempt's refusal and tree, from what its checks and its work come to.
use mathlib.Core.Path.{◌≡◌, refl, sym, ◌∙◌, ap, subst}
use mathlib.Core.Option.{Option, none, some}
use mathlib.Core.List.{List, [], ◌∷◌}
use Prim.Native.Nat.{ℕ, ◌≤◌}
use borrow.Author.Tests.{eq-eqb, ne_eqb}
use lib.Dec.{eqb}
use Rattle.spec_orders.specs.CircularOrder.{group_of}
use Rattle.spec_orders.specs.Tree.{Forest}
use Rattle.spec_orders.specs.Join.{join}
use Rattle.mark_words.specs.Marks.{marked, words_of}
use Rattle.std.specs.Prelude.{Option as Maybe, Some, None}
use Rattle.std.specs.Option.{ok_or}
use Rattle.tree_update.specs.Update.{Answers, written}
use Rattle.spec_calls.specs.declared.Refusal.{Refusal}
use Rattle.spec_calls.specs.declared.Refusal.TheVariants.{BookFull, Impossible}
use Rattle.spec_calls.specs.Refusals.{refuse, first_refusal, bad_list}
use Rattle.spec_calls.specs.Calls.{is_none}
use Rattle.table_book.proofs.Lists.{group_held}
use Rattle.spec_calls.proofs.Checks.{first_refusal-left, first_refusal-one}
use Rattle.list_attempt.specs.Attempts.{group_refusal, Attempts}

module _ (t : Forest) (n count : ℕ) (list : List ℕ) where
  pub list_passed : group_refusal t n count list ≡ none → bad_list n list ≡ none
  unfolding group_refusal
  list_passed e =
      sym (first_refusal-one (bad_list n list))
      ∙ first_refusal-left (bad_list n list ∷ []) (refuse (eqb count 96) BookFull ∷ refuse (is_none (join (group_of n list) t)) Impossible ∷ []) e

  pub list_refused : (r : Refusal) → bad_list n list ≡ some r → group_refusal t n count list ≡ some r
  unfolding group_refusal
  list_refused r e = rw e

  module _ (e : bad_list n list ≡ none) where
    pub full_refused : count ≡ 96 → group_refusal t n count list ≡ some BookFull
    unfolding group_refusal
    full_refused q = rw (e, eq-eqb count 96 q)

    judged : (count ≡ 96 → ⊥) → group_refusal t n count list ≡ first_refusal (refuse (is_none (join (group_of n list) t)) Impossible ∷ [])
    unfolding group_refusal
    judged q = rw (e, ne_eqb count 96 q)

    -- The marks of the list are its leaves.
    marks_are : (words : List ℕ) → n ≤ 256 → words ≡ words_of 4 (group_of n list) → marked words ≡ group_of n list
    marks_are words h w = ap marked w ∙ group_held n list h e

    -- What the work comes to, where no check before it refuses.
    pub attempted : (words old new : List ℕ) (m : Maybe ℕ) → n ≤ 256 → words ≡ words_of 4 (group_of n list) → (count ≡ 96 → ⊥) → Answers (join (marked words) t) old new m
        → Attempts t n count list words old new (ok_or m Impossible)
    attempted words old new m h w q a = go m (join (group_of n list) t) refl (subst (λ G. Answers (join G t) old new m) (marks_are words h w) a)
      where
        go : (m : Maybe ℕ) (o : Option Forest) → join (group_of n list) t ≡ o → Answers o old new m
            → Attempts t n count list words old new (ok_or m Impossible)
        go None none p a = judged q ∙ ap (λ o. first_refusal (refuse (is_none o) Impossible ∷ [])) p
        go None (some u) p a = elim a [ ]
        go (Some k) none p a = elim a [ ]
        go (Some k) (some u) p (written x) = record { passes = judged q ∙ ap (λ o. first_refusal (refuse (is_none o) Impossible ∷ [])) p; not_full = q; group = w; tree = u; is = p; wrote = x }
