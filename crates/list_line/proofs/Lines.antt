-- The printed lines by their numbers, and the ring after so many group lines.
use mathlib.Core.Path.{◌≡◌, refl, ap, ◌∙◌}
use mathlib.Core.Bool.{cond}
use mathlib.Core.List.{List, [], ◌∷◌, ◌++◌}
use Prim.Native.Nat.{ℕ, zero, suc, ◌+◌, ◌≤◌, ◌<◌}
use native.Mathlib.Omega.{arith}
use native.Mathlib.Numerals.{add-one}
use lib.Dec.{eqb}
use lib.ListN.{length, get_or, take, length-append, get_or-append}
use lib.Seq.{get_or-append-add}
use Rattle.spec_orders.specs.declared.Layout.TheVariants.{Ring}
use Rattle.spec_orders.specs.Lists.{elem}
use Rattle.spec_orders.specs.Tree.{Forest}
use Rattle.spec_orders.specs.Form.{standard}
use Rattle.spec_orders.specs.TreeText.{digits}
use Rattle.spec_orders.specs.Aim.{aim_of, Aimed}
use Rattle.spec_orders.specs.Circles.{bytes}
use Rattle.spec_listing.specs.Listing.{RingState, opened, Outcome, kept, outcome, next, run, state_at, name, fields, group_lines, listing}
use Rattle.spec_listing.proofs.EmptyLines.{state_form, empty_fields}
use Rattle.spec_listing.proofs.KeptLines.{kept_aimed}
use Rattle.list_line.specs.Printing.{group_line, final, ending}

-- The group lines.
module _ (names : List (List ℕ)) (ord : List ℕ) where
  pub group_length : (s : RingState) (k : ℕ) (lists : List (List ℕ)) → length (group_lines names ord s k lists) ≡ length lists
  unfolding group_lines
  group_length s k [] = refl
  group_length s k (list ∷ lists) = ap suc (group_length (next s k list (outcome (length names) s list)) (suc k) lists)

  group_at : (s : RingState) (k : ℕ) (lists : List (List ℕ)) (l : ℕ) → l < length lists
      → get_or (group_lines names ord s k lists) l []
      ≡ digits (k + l)
      ++ fields names ord (run (length names) s k (take l lists)) (get_or lists l []) (outcome (length names) (run (length names) s k (take l lists)) (get_or lists l []))
  unfolding group_lines run
  group_at s k [] l h = absurd (omega arith)
  group_at s k (list ∷ lists) zero h = let e : k + 0 ≡ k = omega arith in rw e
  group_at s k (list ∷ lists) (suc l) h =
      let e : k + suc l ≡ suc k + l = omega arith in
      rw e (group_at (next s k list (outcome (length names) s list)) (suc k) lists l (omega arith))

  pub line_at : (lists : List (List ℕ)) (l : ℕ) → l < length lists
      → get_or (group_lines names ord (opened (length names)) 1 lists) l [] ≡ group_line names ord lists l
  unfolding state_at group_line
  line_at lists l h =
      let e : 1 + l ≡ l + 1 = omega arith in
      group_at (opened (length names)) 1 lists l h ∙ rw e

-- The whole listing.
module _ (names lists : List (List ℕ)) where
  abbrev ord : List ℕ
  ord = standard (final names lists)

  groups-printed : List (List ℕ)
  groups-printed = group_lines names ord (opened (length names)) 1 lists

  groups-length : length groups-printed ≡ length lists
  unfolding groups-printed
  groups-length = group_length names ord (opened (length names)) 1 lists

  parts : listing names lists ≡ bytes "line answer aim conflict" ∷ (groups-printed ++ ending names (final names lists))
  unfolding listing groups-printed final ending
  parts = refl

  pub listing-length : length (listing names lists) ≡ length lists + 5
  unfolding ending
  listing-length = rw parts (omega (arith, length-append groups-printed (ending names (final names lists)), groups-length))

  pub head-line : get_or (listing names lists) 0 [] ≡ bytes "line answer aim conflict"
  head-line = rw parts

  -- Group line l.
  pub middle-line : (l : ℕ) → l < length lists → get_or (listing names lists) (l + 1) [] ≡ group_line names ord lists l
  unfolding groups-printed
  middle-line l h =
      rw parts
      (ap (λ (k : ℕ). get_or (bytes "line answer aim conflict" ∷ (groups-printed ++ ending names (final names lists))) k []) (add-one l)
      ∙ get_or-append groups-printed (ending names (final names lists)) [] l (omega (arith, groups-length))
      ∙ line_at names ord lists l h)

  -- A line with no leaf is kept and has no aim, or finds 96 groups in the book.
  pub empty_line : (l : ℕ) → l < length lists → get_or lists l [] ≡ []
      → get_or (listing names lists) (l + 1) []
      ≡ digits (l + 1) ++ cond (eqb (length (state_at (length names) lists l).groups) 96) (bytes " full - -") (bytes " kept - -")
  unfolding group_line
  empty_line l h e =
      let s = state_at (length names) lists l in
      middle-line l h
      ∙ ap (λ (list : List ℕ). digits (l + 1) ++ fields names ord s list (outcome (length names) s list)) e
      ∙ ap (λ (told : List ℕ). digits (l + 1) ++ told) (empty_fields (length names) names ord s (state_form (length names) lists l))

  -- One that is kept, and has a leaf, names the leaf in the middle of its group's run in the order that is printed.
  pub kept_line : (l : ℕ) → l < length lists → (t : Forest) → outcome (length names) (state_at (length names) lists l) (get_or lists l []) ≡ kept t
      → (b : ℕ) (list : List ℕ) → get_or lists l [] ≡ b ∷ list → 1 ≤ b → b ≤ length names
      → (leaf : ℕ) × Aimed (elem (b ∷ list)) ord leaf × (get_or (listing names lists) (l + 1) [] ≡ digits (l + 1) ++ (bytes " kept " ++ (name names leaf ++ bytes " -")))
  unfolding group_line final fields
  kept_line l h t e b list q some_leaf few =
      let s = state_at (length names) lists l in (
        aim_of Ring (elem (b ∷ list)) ord,
        kept_aimed (length names) lists l h t e b list q some_leaf few,
        middle-line l h
            ∙ ap (λ (o : Outcome). digits (l + 1) ++ fields names ord s (get_or lists l []) o) e
            ∙ ap (λ (x : List ℕ). digits (l + 1) ++ fields names ord s x (kept t)) q,
      )

  pub end_line : (j : ℕ) → get_or (listing names lists) (length lists + 1 + j) [] ≡ get_or (ending names (final names lists)) j []
  end_line j =
      let e : length lists + 1 + j ≡ suc (length groups-printed + j) = omega (arith, groups-length) in
      rw (parts, e) (get_or-append-add groups-printed (ending names (final names lists)) j [])
