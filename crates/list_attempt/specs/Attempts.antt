-- What an attempt to join a group answers and writes.
use Rattle.std.specs.Prelude.{◌≡◌, ◌≢◌, List, [], ◌∷◌, ℕ, eqb, Result, Ok, Err}
use Rattle.std.proofs.Math.Option.{Option, none, some}
use Rattle.spec_orders.specs.CircularOrder.{group_of}
use Rattle.spec_orders.specs.Tree.{Forest}
use Rattle.spec_orders.specs.Join.{join}
use Rattle.mark_words.specs.Marks.{words_of}
use Rattle.tree_tokens.specs.Tokens.{Wrote, flat}
use Rattle.spec_calls.specs.declared.Refusal.{Refusal}
use Rattle.spec_calls.specs.declared.Refusal.TheVariants.{BookFull, Impossible}
use Rattle.spec_calls.specs.Refusals.{refuse, first_refusal, bad_list}
use Rattle.spec_calls.specs.Calls.{is_none}

-- Checks 5 to 8, for a tree t.
unfoldable pub group_refusal : Forest → ℕ → ℕ → List ℕ → Option Refusal
group_refusal t n count list =
    first_refusal (bad_list n list ∷ refuse (eqb count 96) BookFull ∷ refuse (is_none (join (group_of n list) t)) Impossible ∷ [])

-- The tree with the group, written over `old`, and the group's marks.
pub record JoinedTree (t : Forest) (n count : ℕ) (list marks old new : List ℕ) (k : ℕ) : Type 0 where
  pub passes : group_refusal t n count list ≡ none
  pub not_full : count ≢ 96
  pub group : marks ≡ words_of 4 (group_of n list)
  pub tree : Forest
  pub is : join (group_of n list) t ≡ some tree
  pub wrote : Wrote (flat tree) old new k

abbrev pub Attempts : Forest → ℕ → ℕ → List ℕ → List ℕ → List ℕ → List ℕ → Result ℕ Refusal → Type 0
Attempts t n count list marks old new (Ok k) = JoinedTree t n count list marks old new k
Attempts t n count list marks old new (Err r) = group_refusal t n count list ≡ some r
