-- What the tests on a node that is to be reduced say of it: x are its tokens, w those of its items, and the first i of w those of the empty items
-- at the start.
use mathlib.Core.Path.{◌≡◌, sym, ◌∙◌}
use mathlib.Core.Bool.{Bool, true, false}
use mathlib.Core.List.{List}
use Prim.Native.Nat.{ℕ, ◌-◌, ◌≤◌, ◌<◌}
use native.Mathlib.Omega.{arith}
use lib.ListN.{length, take, drop}
use Rattle.spec_orders.proofs.ListLaws.{part_to_end}
use Rattle.tree_tokens.specs.Tokens.{number, Judged, encode}
use Rattle.tree_tokens.specs.Views.{state_of, items_of}
use Rattle.tree_spans.specs.Spans.{is, passing, beyond, Parted}
use Rattle.tree_judge.specs.Total.{totals}
use Rattle.tree_update.specs.Update.{lone_of, NotLone}

pub not_whole : {x : List ℕ} {s : ℕ} → ((j : Judged) → x ≡ encode j → s ≡ number (state_of j)) → 2 ≤ s
    → (j : Judged) → x ≡ encode j → number (state_of j) < 2 → ⊥
not_whole f p j e h = omega (arith, f j e, p, h)

module _ {x w : List ℕ} {i : ℕ} (items : (j : Judged) → x ≡ encode j → w ≡ encode (items_of j)) (span : (j : Judged) → w ≡ encode j → Parted (is 0) w j i) where
  pub front_are : (j : Judged) → x ≡ encode j → take (i - 0) (drop 0 w) ≡ encode (passing (is 0) (items_of j))
  front_are j e = let n : i - 0 ≡ i = omega arith in rw n (span _ (items j e)).front

  pub others_are : (j : Judged) → x ≡ encode j → take (length w - i) (drop i w) ≡ encode (beyond (is 0) (items_of j))
  others_are j e = part_to_end w i ∙ (span _ (items j e)).back

  module _ {r : Bool} (lone : (j : Judged) → take (length w - i) (drop i w) ≡ encode j → r ≡ lone_of (totals j)) where
    pub only_one : r ≡ true → (j : Judged) → x ≡ encode j → lone_of (totals (beyond (is 0) (items_of j))) ≡ true
    only_one t j e = sym (lone _ (others_are j e)) ∙ t

    pub not_one : r ≡ false → NotLone w
    not_one f j e = sym (lone _ (part_to_end w i ∙ (span j e).back)) ∙ f
