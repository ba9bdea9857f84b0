-- Document 01, "Conflict list". The rule and its demand are over any groups, any numbers of them, and any meaning of "can hang together". For rings
-- and racks that is over their orders, without a tree, and it computes: "impossible together" is tried on every order.
use Rattle.std.specs.Prelude.{◌≡◌, ◌↔◌, ◌≢◌, Bool, true, false, cond, List, [], ◌∷◌, ◌++◌, map, ℕ, suc, ◌-◌, ◌≤◌, get_or}
use Rattle.spec_orders.specs.declared.Layout.{Layout}
use Rattle.spec_orders.specs.declared.Layout.TheVariants.{Ring, Rack}
use Rattle.spec_orders.specs.Lists.{some_of, all_of, numbers_from}
use Rattle.spec_orders.specs.CircularOrder.{Restriction, others}

module _ {A : Type 0} where
  -- x put at each place of the list; for each list of a list of lists; all rearrangements.
  abbrev pub spread : A → List A → List (List A)
  spread x [] = (x ∷ []) ∷ []
  spread x (y ∷ l) = (x ∷ (y ∷ l)) ∷ map (λ m. y ∷ m) (spread x l)

  abbrev pub spread_all : A → List (List A) → List (List A)
  spread_all x [] = []
  spread_all x (l ∷ ls) = spread x l ++ spread_all x ls

  abbrev pub perms : List A → List (List A)
  perms [] = [] ∷ []
  perms (x ∷ l) = spread_all x (perms l)

-- The turns of the circle `before ++ after`: cut here, or further on.
abbrev pub turns : List ℕ → List ℕ → List (List ℕ)
turns before [] = before ∷ []
turns before (x ∷ after) = ((x ∷ after) ++ before) ∷ turns (before ++ (x ∷ [])) after

-- The list has no leaf of the group; it begins with leaves of the group and then has no other of them.
abbrev pub none_in : Restriction → List ℕ → Bool
none_in G [] = true
none_in G (x ∷ xs) = cond (G x) false (none_in G xs)

abbrev pub run_first : Restriction → List ℕ → Bool
run_first G [] = true
run_first G (x ∷ xs) = cond (G x) (run_first G xs) (none_in G xs)

-- The test whether the group hangs together in the order (it decides `Consecutive`).
unfoldable pub consecutive? : Restriction → List ℕ → Bool
consecutive? G ord = some_of (run_first G) (turns [] ord)

-- The same in a straight order: leaves outside the group, then leaves of it, and then no other (it decides `Contiguous`).
abbrev pub contiguous? : Restriction → List ℕ → Bool
contiguous? G [] = true
contiguous? G (x ∷ xs) = cond (G x) (run_first G (x ∷ xs)) (contiguous? G xs)

abbrev pub consecutive_on? : Layout → Restriction → List ℕ → Bool
consecutive_on? Ring G ord = consecutive? G ord
consecutive_on? Rack G ord = contiguous? G ord

-- All orders (those of `OrderOn`).
abbrev pub orders_on : Layout → ℕ → List (List ℕ)
orders_on Ring n = map (λ xs. 1 ∷ xs) (perms (others n))
orders_on Rack n = perms (numbers_from 1 n)

-- The test whether the groups can hang together (it decides `Possible`).
unfoldable pub possible? : Layout → ℕ → List Restriction → Bool
possible? l n Gs = some_of (λ ord. all_of (λ G. consecutive_on? l G ord) Gs) (orders_on l n)

-- Some elements of a list, in their sequence: `Sublist l m`, m is l with elements left out.
pub data Sublist {A : Type 0} : List A → List A → Type 0 where
  end : Sublist [] []
  kept : {x : A} {l m : List A} → Sublist l m → Sublist (x ∷ l) (x ∷ m)
  left : {x : A} {l m : List A} → Sublist l m → Sublist (x ∷ l) m

-- The test `ok` says whether groups can hang together, `f j` is the group with the number j, and js are the numbers of the book's groups.
module _ {A : Type 0} where
  -- "From the first group to the last, leave one out if the remaining ones with the new group are still impossible together." The answer is the
  -- numbers kept. Those in `stay` stay in any case: the new group, and the ones before that were not left out.
  unfoldable pub leave_out : (List A → Bool) → (ℕ → A) → List A → List ℕ → List ℕ
  leave_out ok f stay [] = []
  leave_out ok f stay (j ∷ js) =
      elim (ok (stay ++ map f js)) [
        | true ↦ j ∷ leave_out ok f (stay ++ (f j ∷ [])) js
        | false ↦ leave_out ok f stay js
      ]

  -- "If the whole book and the new group can hang together, the list is empty. Otherwise the leaving-out rule gives it: start with the whole book."
  -- The new group is the one that stays.
  unfoldable pub conflict_list : (List A → Bool) → (ℕ → A) → List A → List ℕ → List ℕ
  conflict_list ok f stay js = elim (ok (stay ++ map f js)) [ true ↦ [] | false ↦ leave_out ok f stay js ]

  -- Demand 3 of a conflict list, where `Ok` says which groups can hang together: it is empty iff the new group can with the whole book; else the new
  -- group and those named are impossible together, and possible without any one of them. It names groups of the book, in their sequence.
  pub record Demand_3 (Ok : List A → Type 0) (f : ℕ → A) (new : A) (js ns : List ℕ) : Type 0 where
    pub empty_iff : (ns ≡ []) ↔ Ok (new ∷ map f js)
    pub impossible : ns ≢ [] → Ok (new ∷ map f ns) → ⊥
    pub smallest : (a : List ℕ) (j : ℕ) (b : List ℕ) → ns ≡ a ++ (j ∷ b) → Ok (new ∷ map f (a ++ b))
    pub numbers : Sublist js ns

-- The conflict list of a whole book, of a ring or a rack: its groups have the numbers 1 to count.
abbrev pub book_conflicts : Layout → ℕ → (ℕ → Restriction) → ℕ → Restriction → List ℕ
book_conflicts l n f count new = conflict_list (possible? l n) f (new ∷ []) (numbers_from 1 count)

-- The group with the number j in a list of groups.
abbrev pub numbered : List Restriction → ℕ → Restriction
numbered Gs j = get_or Gs (j - 1) (λ b. false)

-- The numbers rise, from k or more to m at most.
abbrev pub Numbers : ℕ → ℕ → List ℕ → Type 0
Numbers k m [] = Unit {0}
Numbers k m (j ∷ ns) = (k ≤ j) × (j ≤ m) × Numbers (suc j) m ns
