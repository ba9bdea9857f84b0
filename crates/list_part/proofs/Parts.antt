-- The lines of a part, one after another. Parts one after another print all lines.
use mathlib.Core.Path.{◌≡◌, refl, ap, ◌∙◌}
use mathlib.Core.List.{List, [], ◌∷◌, ◌++◌, append_assoc, append-nil}
use Prim.Native.Nat.{ℕ, suc, ◌+◌, ◌-◌, ◌≤◌, ◌<◌}
use native.Mathlib.Omega.{arith}
use native.Mathlib.Numerals.{add-one}
use lib.Dec.{ltb}
use lib.ListN.{length, get_or, take, drop, length-append, drop_of_length-le}
use lib.Seq.{drop-cons, drop-drop}
use borrow.Author.Tests.{lt-ltb, le-ltb}
use Rattle.spec_orders.proofs.Tests.{cond_cases}
use Rattle.tree_tokens.specs.Tokens.{Wrote}
use Rattle.tree_tokens.proofs.Writes.{wrote_none, read_back}
use Rattle.list_bytes.specs.Appends.{Appends}
use Rattle.list_bytes.proofs.Laws.{appends_then}
use Rattle.list_part.specs.declared.Piece.{Piece}
use Rattle.spec_listing.specs.Listing.{printed, printable, lines_from}
use Rattle.list_part.specs.Parts.{Parts}

printed-append : (a b : List (List ℕ)) → printed (a ++ b) ≡ printed a ++ printed b
printed-append [] b = refl
printed-append (x ∷ a) b = ap (λ (l : List ℕ). x ++ (10 ∷ l)) (printed-append a b) ∙ simp append_assoc

-- Without room nothing is printed; with room, the next line.
printable_none : (room : ℕ) (ls : List (List ℕ)) → room < 4096 → printable room ls ≡ []
printable_none room [] h = refl
printable_none room (l ∷ ls) h = rw (lt-ltb room 4096 h)

printable-next : (room : ℕ) (l : List ℕ) (ls : List (List ℕ)) → 4096 ≤ room → printable room (l ∷ ls) ≡ l ∷ printable (room - (length l + 1)) ls
printable-next room l ls h = rw (le-ltb room 4096 h)

module _ (ls : List (List ℕ)) (from : ℕ) where
  -- The lines of the part before line i are written, up to place `at`.
  pub record Shown (i : ℕ) (old new : List ℕ) (at : ℕ) : Type 0 where
    pub done : List (List ℕ)
    pub wrote : Wrote (printed done) old new at
    pub many : i ≡ from + length done
    pub whole : lines_from ls from (length old) ≡ done ++ lines_from ls i (length old - at)

  pub shown_none : (old : List ℕ) → Shown from old old 0
  shown_none old =
      let e : length old - 0 ≡ length old = omega arith in
      record { done = []; wrote = wrote_none old; many = omega arith; whole = rw e }

  -- A line and its line end.
  pub shown_more : (i : ℕ) {base old mid new : List ℕ} {at a r : ℕ} → i < length ls → 4096 ≤ length base - at → Shown i base old at
      → Appends (get_or ls i []) at old mid a → Appends (10 ∷ []) a mid new r → Shown (i + 1) base new r
  shown_more i {base} {new = new} {at} {r = r} l h s p q =
      let x = get_or ls i [] in
      let e : length base - at - (length x + 1) ≡ length base - r = omega (arith, p.past, q.past) in
      record {
        done = s.done ++ (x ∷ []);
        wrote = rw (printed-append s.done (x ∷ [])) ((appends_then p q).after (printed s.done) base s.wrote);
        many = omega (arith, s.many, length-append s.done (x ∷ []));
        whole = s.whole ∙ rw (drop-cons ls i [] l, printable-next (length base - at) x (drop (suc i) ls) h, e, add-one, append_assoc);
      }

  shown_part : {i at : ℕ} {old new : List ℕ} → Shown i old new at → lines_from ls i (length old - at) ≡ [] → Parts ls from old new (record { bytes = at; next = i })
  shown_part {i} {at} {old} {new} s e =
      let w : lines_from ls from (length old) ≡ s.done = s.whole ∙ rw (e, append-nil) in
      record { wrote = rw w s.wrote; after = rw w s.many }

  -- The part that ends before line i: for want of room, or with the last line.
  pub short_part : {i at : ℕ} {old new : List ℕ} → length old - at < 4096 → Shown i old new at → Parts ls from old new (record { bytes = at; next = i })
  short_part {i} {at} {old} h s = shown_part s (printable_none (length old - at) (drop i ls) h)

  pub whole_part : {i at m : ℕ} {old new : List ℕ} → length ls ≤ i → m ≡ i → Shown i old new at → Parts ls from old new (record { bytes = at; next = m })
  whole_part {i} h e s = rw e (shown_part s (rw (drop_of_length-le ls {i = i} h)))

-- The lines printed are the first ones.
printable-first : (room : ℕ) (ls : List (List ℕ)) → ls ≡ printable room ls ++ drop (length (printable room ls)) ls
printable-first room [] = refl
printable-first room (l ∷ ls) =
    cond_cases (ltb room 4096) [] (l ∷ printable (room - (length l + 1)) ls) (λ (k : List (List ℕ)). l ∷ ls ≡ k ++ drop (length k) (l ∷ ls))
    (λ y. refl)
    (λ n. ap (λ (k : List (List ℕ)). l ∷ k) (printable-first (room - (length l + 1)) ls))

-- For a caller: the lines from `from` on are printed by the part and then by what is printed from its next line on. With 4,096 bytes lent a part
-- has a line where there is one, so where it has none all lines are printed.
module _ {ls : List (List ℕ)} {from : ℕ} {old new : List ℕ} {p : Piece} (q : Parts ls from old new p) where
  pub parts_all : printed (drop from ls) ≡ take p.bytes new ++ printed (drop p.next ls)
  parts_all =
      let s = lines_from ls from (length old) in
      ap printed (printable-first (length old) (drop from ls))
      ∙ printed-append s (drop (length s) (drop from ls))
      ∙ rw (read_back q.wrote, drop-drop (length s) from ls, q.after)

  pub parts_some : from < length ls → 4096 ≤ length old → from < p.next
  parts_some h r =
      omega (arith, q.after, ap length (ap (printable (length old)) (drop-cons ls from [] h) ∙ printable-next (length old) (get_or ls from []) (drop (suc from) ls) r))

  pub parts_done : p.next ≡ from → 4096 ≤ length old → printed (drop from ls) ≡ []
  parts_done e r =
      let h : from < length ls → ⊥ = λ l. omega (arith, parts_some l r) in
      rw (drop_of_length-le ls {i = from} (omega (arith, h)))
