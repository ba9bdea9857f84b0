-- The fields of a group line, by the tests that the code makes.
use mathlib.Core.Path.{◌≡◌, refl, sym, ap, ap₂, subst, ◌∙◌}
use mathlib.Core.Option.{Option, none, some}
use mathlib.Core.List.{List, [], ◌∷◌, ◌++◌}
use Prim.Native.Nat.{ℕ, ◌≤◌, ◌<◌}
use native.Mathlib.Omega.{arith}
use lib.ListN.{length, take, length-append}
use Rattle.spec_orders.specs.declared.Layout.TheVariants.{Ring}
use Rattle.spec_orders.specs.Lists.{elem}
use Rattle.spec_orders.specs.Tree.{Forest}
use Rattle.spec_orders.specs.Join.{join}
use Rattle.spec_orders.specs.Circles.{bytes}
use Rattle.spec_calls.specs.Tables.{lent_book}
use Rattle.spec_calls.specs.Book.{groups}
use Rattle.spec_calls.specs.Calls.{conflicts_of}
use Rattle.spec_listing.specs.Listing.{Outcome, RingState, joined, outcome, next, commas, aim_field, fields}
use Rattle.list_ring.specs.Stands.{RingStands}
use Rattle.list_ring.proofs.Outcomes.{outcome_full, outcome-joined}
use Rattle.list_fields.proofs.Conflicting.{conflicts_listed}

module _ (names : List (List ℕ)) (ord : List ℕ) (n : ℕ) (s : RingState) (list : List ℕ) where
  pub tells_full : length s.groups ≡ 96 → bytes " full - -" ≡ fields names ord s list (outcome n s list)
  unfolding fields
  tells_full e = rw (outcome_full n s list e)

  module _ (k : ℕ) (toks : List ℕ) (m : ℕ) (book table : List ℕ) (count : ℕ) where
    abbrev After : Outcome → Type 0
    After o = RingStands n (next s k list o) toks m book table count

    kept_told : (o : Option Forest) → After (joined n s (elem list) o) → length s.groups < count
        → bytes " kept " ++ (aim_field names ord list ++ bytes " -") ≡ fields names ord s list (joined n s (elem list) o)
    unfolding fields
    kept_told (some t) h l = refl
    kept_told none h l = absurd (omega (arith, h.counted))

    refused_told : (o : Option Forest) → After (joined n s (elem list) o) → count ≤ length s.groups
        → {i : ℕ} → i ≡ length s.groups
        → bytes " refused - " ++ commas (take i table) (conflicts_of Ring n (lent_book book i) (elem list))
        ≡ fields names ord s list (joined n s (elem list) o)
    unfolding fields
    refused_told (some t) h l p = absurd (omega (arith, h.counted, length-append s.groups (elem list ∷ [])))
    refused_told none h l p = rw (p ∙ sym h.counted) (
        ap₂ (λ (lines ns : List ℕ). bytes " refused - " ++ commas lines ns) h.in_table
        (ap (λ (i : ℕ). conflicts_of Ring n (lent_book book i) (elem list)) h.counted
        ∙ conflicts_listed n book s.groups (elem list) (subst (λ i. groups (lent_book book i) ≡ s.groups) h.counted h.in_book)))

    module _ (place : length s.groups ≡ 96 → ⊥) (h : After (outcome n s list)) where
      is : outcome n s list ≡ joined n s (elem list) (join (elem list) s.tree)
      is = outcome-joined n s list place

      pub tells_kept : length s.groups < count → bytes " kept " ++ (aim_field names ord list ++ bytes " -") ≡ fields names ord s list (outcome n s list)
      tells_kept l = kept_told (join (elem list) s.tree) (subst After is h) l ∙ ap (fields names ord s list) (sym is)

      pub tells_refused : count ≤ length s.groups → {i : ℕ} → i ≡ length s.groups
          → bytes " refused - " ++ commas (take i table) (conflicts_of Ring n (lent_book book i) (elem list)) ≡ fields names ord s list (outcome n s list)
      tells_refused l p = refused_told (join (elem list) s.tree) (subst After is h) l p ∙ ap (fields names ord s list) (sym is)
