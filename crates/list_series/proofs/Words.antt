-- Words with one byte between, one after another.
use Rattle.std.proofs.Common.{◌≡◌, ℕ, zero, suc, ◌+◌, ◌≤◌, ◌<◌, List, [], ◌∷◌, ◌++◌, map, length, get_or, take, arith, refl, append_assoc, append-nil, add-one}
use Rattle.list_bytes.specs.Appends.{Appends}
use Rattle.list_bytes.proofs.Laws.{appends_then, appends_as}
use Rattle.spec_listing.specs.Listing.{between}

-- The byte in front of a word: none in front of the first.
abbrev pub link : ℕ → ℕ → List ℕ
link c zero = []
link c (suc i) = c ∷ []

pub length-link : (c i : ℕ) → length (link c i) ≤ 1
length-link c zero = omega arith
length-link c (suc i) = omega arith

module _ {old new : List ℕ} {at r : ℕ} where
  pub linked : (c i : ℕ) → (i ≡ 0 → ⊥) → Appends (c ∷ []) at old new r → Appends (link c i) at old new r
  linked c zero n a = absurd (n refl)
  linked c (suc i) n a = a

pub unlinked : (c i : ℕ) (old : List ℕ) (at : ℕ) → i ≡ 0 → Appends (link c i) at old old at
unlinked c zero old at e = record { past = omega arith; after = λ before base v. rw append-nil v }
unlinked c (suc i) old at e = absurd (omega (arith, e))

module _ (c : ℕ) (g : ℕ → List ℕ) where
  between_more : (l : List ℕ) (i : ℕ) → i < length l
      → (between c (map g (take i l)) ++ link c i) ++ g (get_or l i 0) ≡ between c (map g (take (suc i) l))
  between_more [] i h = absurd (omega arith)
  between_more (x ∷ l) zero h = refl
  between_more (x ∷ []) (suc i) h = absurd (omega arith)
  between_more (x ∷ (y ∷ l)) (suc zero) h = simp append_assoc
  between_more (x ∷ (y ∷ l)) (suc (suc i)) h = rw (← between_more (y ∷ l) (suc i) (omega arith)) (simp append_assoc)

  -- One word more is appended.
  pub more_appends : (l : List ℕ) (i : ℕ) {old mid mid' new : List ℕ} {at a b r : ℕ} → i < length l
      → Appends (between c (map g (take i l))) at old mid a → Appends (link c i) a mid mid' b → Appends (g (get_or l i 0)) b mid' new r
      → Appends (between c (map g (take (i + 1) l))) at old new r
  more_appends l i h p q s = rw add-one (appends_as (between_more l i h) (appends_then (appends_then p q) s))
