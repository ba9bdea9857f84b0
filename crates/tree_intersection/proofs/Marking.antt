-- The leaves of a sequence marked in words, and a group in four words that joins.
use mathlib.Core.Path.{◌≡◌, refl, sym, ap, ◌∙◌}
use mathlib.Core.Bool.{Bool, true, false, cond, ◌||◌, or-false}
use mathlib.Core.List.{List, ◌∷◌}
use Prim.Native.Nat.{ℕ, ◌≤◌}
use native.Mathlib.Omega.{arith}
use lib.Dec.{eqb}
use lib.ListN.{length, replicate}
use Rattle.spec_orders.specs.Lists.{elem}
use Rattle.spec_orders.specs.Tree.{Forest, frontier}
use Rattle.spec_orders.specs.Join.{join}
use Rattle.spec_orders.proofs.ListLaws.{all_map}
use Rattle.mark_words.specs.Marks.{marked, words_of, no_leaf, with_leaf, either}
use Rattle.mark_words.proofs.Words.{length_words, marked_words, words_agree, no_words}
use Rattle.tree_update.specs.Update.{FormWithin}
use Rattle.tree_update.proofs.Agree.{join-same}

or_first : (a b c : Bool) → (cond a true b || c) ≡ (b || (a || c))
or_first true true c = refl
or_first true false c = refl
or_first false b c = refl

-- The words with one leaf more, and the leaves that are still to be marked.
pub marks_more : (b : ℕ) (l ws vs : List ℕ) → vs ≡ words_of (length ws) (with_leaf b (marked ws))
    → words_of (length ws) (either (elem (b ∷ l)) (marked ws)) ≡ words_of (length vs) (either (elem l) (marked vs))
marks_more b l ws vs e =
    let k = length ws in
    let G = with_leaf b (marked ws) in
    rw (e, length_words k G)
    (words_agree k (either (elem (b ∷ l)) (marked ws)) (either (elem l) (marked (words_of k G))) (λ x h m. rw (marked_words k G x h m) (or_first (eqb x b) (elem l x) (marked ws x))))

-- The leaves of a list, marked in four words that had no mark, join a tree as the list does.
pub list_joins : {n : ℕ} {t : Forest} (l ws : List ℕ) → FormWithin n t → n ≤ 256 → ws ≡ words_of 4 (either (elem l) (marked (replicate 4 0))) → join (marked ws) t ≡ join (elem l) t
list_joins {n} {t} l ws f h e =
    join-same (marked ws) (elem l) t (at 1 (omega arith) (omega arith))
    (all_map (λ b. (2 ≤ b) × (b ≤ n)) (λ b. marked ws b ≡ elem l b) (λ b r. at b (omega (arith, r.0)) (omega (arith, r.1))) (frontier t) f.in_range)
  where
    none : (b : ℕ) → 1 ≤ b → b ≤ 256 → marked (replicate 4 0) b ≡ false
    none b p q = ap (λ (vs : List ℕ). marked vs b) (sym (no_words 4)) ∙ marked_words 4 no_leaf b p q

    at : (b : ℕ) → 1 ≤ b → b ≤ 256 → marked ws b ≡ elem l b
    at b p q =
        ap (λ (vs : List ℕ). marked vs b) e ∙ marked_words 4 (either (elem l) (marked (replicate 4 0))) b p q
        ∙ ap (λ (x : Bool). elem l b || x) (none b p q) ∙ or-false (elem l b)
