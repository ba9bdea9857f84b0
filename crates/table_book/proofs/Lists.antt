-- The check of a group's list, leaf by leaf, and the marks that it makes.
use mathlib.Core.Path.{◌≡◌, refl, sym, ◌∙◌, ap}
use mathlib.Core.Logic.{◌≢◌}
use mathlib.Core.Bool.{Bool, true, false, cond}
use mathlib.Core.Option.{none, some}
use mathlib.Core.List.{List, [], ◌∷◌, ◌++◌, append-nil}
use Prim.Native.Nat.{ℕ, ◌+◌, ◌≤◌, ◌<◌}
use native.Mathlib.Omega.{arith}
use native.Mathlib.Numerals.{add-one}
use borrow.Author.Tests.{eq-eqb, ne_eqb, lt-ltb, le-ltb}
use lib.Dec.{eqb}
use lib.ListN.{length, get_or, drop}
use Rattle.spec_orders.proofs.Tests.{or_cond}
use Rattle.spec_orders.specs.Lists.{elem}
use Rattle.spec_orders.specs.CircularOrder.{group_of}
use Rattle.std.proofs.lemmas.List.{at_drop_all, at_drop_more}
use Rattle.mark_words.specs.Marks.{marked, words_of, with_leaf, no_leaf}
use Rattle.mark_words.proofs.Words.{marked_words, words_agree}
use Rattle.mark_words.proofs.Leaves.{marked_group}
use Rattle.spec_calls.specs.declared.Refusal.TheVariants.{OutsideRing, Repeated}
use Rattle.spec_calls.specs.Refusals.{bad_leaf, bad_list}
use Rattle.spec_calls.proofs.Demands.{passes_iff}
use Rattle.std.specs.declared.result.Result.{Result}
use Rattle.std.specs.declared.result.Result.TheVariants.{Ok, Err}
use Rattle.table_book.specs.Lists.{LeavesChecked, ListChecked}
use Rattle.spec_calls.specs.declared.Refusal.{Refusal}

-- The words of the leaves of a list: one of them is marked; one more of them; none.
pub seen_is : (words s : List ℕ) (b : ℕ) → words ≡ words_of 4 (elem s) → 1 ≤ b → b ≤ 256 → marked words b ≡ elem s b
seen_is words s b e l m = ap (λ (w : List ℕ). marked w b) e ∙ marked_words 4 (elem s) b l m

pub seen_more : (words s : List ℕ) (b : ℕ) → words ≡ words_of 4 (elem s) → words_of 4 (with_leaf b (marked words)) ≡ words_of 4 (elem (b ∷ s))
seen_more words s b e = words_agree 4 (with_leaf b (marked words)) (elem (b ∷ s)) (λ x l m. or_cond (eqb x b) (marked words x) ∙ ap (cond (eqb x b) true) (seen_is words s x e l m))

pub seen_none : words_of 4 no_leaf ≡ words_of 4 (elem [])
seen_none = words_agree 4 no_leaf (elem []) (λ x l m. refl)

elem_later : (l s : List ℕ) (b x : ℕ) → elem (l ++ (b ∷ s)) x ≡ elem (b ∷ (l ++ s)) x
elem_later [] s b x = refl
elem_later (y ∷ l) s b x = ap (cond (eqb x y) true) (elem_later l s b x) ∙ swap (eqb x y) (eqb x b) (elem (l ++ s) x)
  where
    swap : (p q r : Bool) → cond p true (cond q true r) ≡ cond q true (cond p true r)
    swap true true r = refl
    swap true false r = refl
    swap false true r = refl
    swap false false r = refl

-- The leaves before place k passed, and are marked: what the checks say from there on, they say of the whole list.
pub record Going (n : ℕ) (list : List ℕ) (k : ℕ) (words : List ℕ) : Type 0 where
  pub earlier : List ℕ
  pub seen : words ≡ words_of 4 (elem earlier)
  pub rest : (new : List ℕ) (r : Result (Unit {0}) Refusal) → LeavesChecked n earlier k (drop k list) new r → ListChecked n list new r

pub going_start : (n : ℕ) (l words : List ℕ) (m : ℕ) → m ≡ 4 → words ≡ words_of m no_leaf → Going n l 0 words
going_start n l words m e w = record { earlier = []; seen = w ∙ rw e seen_none; rest = whole }
  where
    whole : (new : List ℕ) (r : Result (Unit {0}) Refusal) → LeavesChecked n [] 0 l new r → ListChecked n l new r
    whole new (Ok u) f = (f.0, f.1 ∙ rw append-nil)
    whole new (Err r) f = f

module _ {n : ℕ} {l : List ℕ} {k : ℕ} {words : List ℕ} (g : Going n l k words) where
  -- No leaf is left.
  pub going_end : length l ≤ k → ListChecked n l words (Ok tt)
  unfolding bad_leaf
  going_end m = g.rest words (Ok tt) (at_drop_all (bad_leaf n g.earlier k) l k m, g.seen ∙ rw (at_drop_all (λ left. words_of 4 (elem (left ++ g.earlier))) l k m))

  -- The leaf in place k is 0 or above n; it stood before.
  pub going_zero : k < length l → get_or l k 0 ≡ 0 → bad_list n l ≡ some (OutsideRing k)
  unfolding bad_leaf
  going_zero m e = g.rest [] (Err (OutsideRing k)) (at_drop_more (bad_leaf n g.earlier k) l k 0 m ∙ rw (eq-eqb (get_or l k 0) 0 e))

  pub going_past : k < length l → get_or l k 0 ≢ 0 → n < get_or l k 0 → bad_list n l ≡ some (OutsideRing k)
  unfolding bad_leaf
  going_past m z e = g.rest [] (Err (OutsideRing k)) (at_drop_more (bad_leaf n g.earlier k) l k 0 m ∙ rw (ne_eqb (get_or l k 0) 0 z, lt-ltb n (get_or l k 0) e))

  pub going_earlier : n ≤ 256 → k < length l → get_or l k 0 ≢ 0 → get_or l k 0 ≤ n → marked words (get_or l k 0) ≡ true → bad_list n l ≡ some (Repeated k)
  unfolding bad_leaf
  going_earlier few m z h e = g.rest [] (Err (Repeated k)) (at_drop_more (bad_leaf n g.earlier k) l k 0 m
      ∙ rw (ne_eqb (get_or l k 0) 0 z, le-ltb n (get_or l k 0) h, ← seen_is words g.earlier (get_or l k 0) g.seen (omega (arith, z)) (omega (arith, h, few)), e))

  -- It is a new leaf, and is marked now.
  pub going_on : n ≤ 256 → k < length l → get_or l k 0 ≢ 0 → get_or l k 0 ≤ n → marked words (get_or l k 0) ≡ false
      → Going n l (k + 1) (words_of 4 (with_leaf (get_or l k 0) (marked words)))
  unfolding bad_leaf
  going_on few m z h e = record { earlier = b ∷ g.earlier; seen = seen_more words g.earlier b g.seen; rest = further }
    where
      b : ℕ
      b = get_or l k 0

      new? : elem g.earlier b ≡ false
      new? = sym (seen_is words g.earlier b g.seen (omega (arith, z)) (omega (arith, h, few))) ∙ e

      step : bad_leaf n g.earlier k (drop k l) ≡ bad_leaf n (b ∷ g.earlier) (k + 1) (drop (k + 1) l)
      step = at_drop_more (bad_leaf n g.earlier k) l k 0 m ∙ rw (ne_eqb b 0 z, le-ltb n b h, new?, add-one)

      further : (new : List ℕ) (r : Result (Unit {0}) Refusal) → LeavesChecked n (b ∷ g.earlier) (k + 1) (drop (k + 1) l) new r → ListChecked n l new r
      further new (Err r) f = g.rest new (Err r) (step ∙ f)
      further new (Ok u) f = g.rest new (Ok u) (
        step ∙ f.0,
        f.1 ∙ words_agree 4 (elem (drop (k + 1) l ++ (b ∷ g.earlier))) (elem (drop k l ++ g.earlier))
            (λ x i j. elem_later (drop (k + 1) l) g.earlier b x ∙ sym (at_drop_more (λ left. elem (left ++ g.earlier) x) l k 0 m)),
      )

-- Four words hold the group of a list that passes.
pub group_held : (n : ℕ) (l : List ℕ) → n ≤ 256 → bad_list n l ≡ none → marked (words_of 4 (group_of n l)) ≡ group_of n l
group_held n l h e = marked_group 4 n l h ((passes_iff n l).0 e)
