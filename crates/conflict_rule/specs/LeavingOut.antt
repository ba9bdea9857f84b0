-- What the conflict call's functions read and answer, over the groups of a book and their numbers.
use Rattle.std.specs.Prelude.{◌≡◌, ◌↔◌, Bool, List, ◌++◌, map, ℕ, ◌-◌, ◌<◌, ◌≤◌, drop}
use Rattle.tree_tokens.specs.Tokens.{flat}
use Rattle.spec_orders.specs.declared.Layout.TheVariants.{Ring}
use Rattle.spec_orders.specs.Lists.{All}
use Rattle.spec_orders.specs.CircularOrder.{Restriction}
use Rattle.spec_orders.specs.Layout.{AllOn, Possible}
use Rattle.spec_orders.specs.Tree.{Forest, Allowed}
use Rattle.spec_orders.specs.Conflict.{leave_out}
use Rattle.tree_update.specs.Update.{FormWithin}
use Rattle.conflict_leaves.specs.StandIn.{OrderOf, StandIn}

-- Each is the number of a place in the book.
abbrev pub InBook : List ℕ → Type 0
InBook js = All (λ j. (1 ≤ j) × (j ≤ 96)) js

-- The tree is one of leaves that stand for all n, f the groups of the book. It allows exactly the orders of these leaves in which each of the
-- groups Gs is consecutive.
pub record Represents (n : ℕ) (f : ℕ → Restriction) (Gs : List Restriction) (t : Forest) : Type 0 where
  pub over : StandIn n f
  pub form : FormWithin n t
  pub orders : (ord : List ℕ) → Allowed t ord ↔ (OrderOf over.leaves ord × AllOn Ring Gs ord)
  pub wide_keeps_all : (ord : List ℕ) → AllOn Ring Gs ord → AllOn Ring Gs (over.wide ord)

-- The tokens are those of such a tree, for at most 256 leaves.
abbrev pub TokensRepresent : ℕ → (ℕ → Restriction) → List ℕ → Type 0
TokensRepresent n f toks = (t : Forest) × (Gs : List Restriction) × (toks ≡ flat t) × Represents n f Gs t × (n ≤ 256)

-- Going down from the last of the numbers, f their groups: the tokens are those of the tree of Gs and of the groups behind the first `left`
-- numbers.
pub record Walked (n : ℕ) (f : ℕ → Restriction) (Gs : List Restriction) (js : List ℕ) (left : ℕ) (toks : List ℕ) : Type 0 where
  pub tree : Forest
  pub text : toks ≡ flat tree
  pub stands : Represents n f (Gs ++ map f (drop left js)) tree

-- With one group more they are impossible, or there is no other.
pub record Stops (n : ℕ) (f : ℕ → Restriction) (Gs : List Restriction) (js : List ℕ) (left : ℕ) : Type 0 where
  pub one_more : 0 < left → Possible Ring n (Gs ++ map f (drop (left - 1) js)) → ⊥

-- These numbers, and what the leaving-out rule keeps of others where these are kept.
unfoldable pub goes_on : {A : Type 0} → (List A → Bool) → (ℕ → A) → List A → List ℕ → List ℕ → List ℕ
goes_on ok f stay kept js = kept ++ leave_out ok f (stay ++ map f kept) js
