-- The cursor in the names line.
use mathlib.Core.Path.{◌≡◌, refl, sym, ◌∙◌, ap, ap₂, subst}
use mathlib.Core.Bool.{Bool, true, false, cond, ◌&&◌}
use Rattle.std.specs.Prelude.{Option}
use Rattle.std.specs.Bool.{then_some}
use mathlib.Core.List.{List, [], ◌∷◌, ◌++◌, append_assoc}
use Prim.Native.Nat.{ℕ, suc, ◌+◌, ◌-◌, ◌<◌}
use native.Mathlib.Omega.{arith}
use lib.Dec.{eqb, ltb}
use lib.ListN.{length, length-append, length-take, take, drop, get_or, take-append-drop}
use lib.Seq.{take_at, drop_at, drop-cons}
use borrow.Author.Tests.{ne_eqb}
use Rattle.spec_orders.specs.Lists.{elem}
use Rattle.file_syntax.specs.RingFile.{alphabet, line}
use Rattle.file_syntax.specs.Words.{spaced}
use Rattle.file_syntax.specs.Scanner.{is_new, room, FileState, naming, due, Sort, letter, space, end, other, sort, when, on_name, file_step}
use Rattle.file_cursor.specs.Cursors.{CursorStands, Stepped}
use Rattle.file_cursor.specs.declared.Cursor.{Cursor}
use Rattle.file_syntax.proofs.Reached.{spaced_snoc, line-parts}

-- The file around the next byte of the names line.
module _ (x : List ℕ) (at : ℕ) (ns : List (List ℕ)) (w : List ℕ) (start : ℕ) (inside : at < length x) (so_far : take at x ≡ spaced ns ++ w)
    (from : start ≡ length (spaced ns)) where
  pub whole_at : at ≡ length (spaced ns) + length w
  whole_at = omega (arith, ap length so_far, length-take at x, length-append (spaced ns) w)

  split : x ≡ spaced ns ++ (w ++ (get_or x at 0 ∷ drop (suc at) x))
  split = sym (take-append-drop at x) ∙ ap₂ ◌++◌ so_far (drop-cons x at 0 inside) ∙ append_assoc (spaced ns) w (get_or x at 0 ∷ drop (suc at) x)

  after : drop start x ≡ w ++ (get_or x at 0 ∷ drop (suc at) x)
  after = ap (λ l. drop start l) split ∙ drop_at (spaced ns) (w ++ (get_or x at 0 ∷ drop (suc at) x)) start (sym from)

  pub earlier : take start x ≡ spaced ns
  earlier = ap (λ l. take start l) split ∙ take_at (spaced ns) (w ++ (get_or x at 0 ∷ drop (suc at) x)) start (omega arith)

  pub begun_word : take (at - start) (drop start x) ≡ w
  begun_word = ap (λ l. take (at - start) l) after ∙ take_at w (get_or x at 0 ∷ drop (suc at) x) (at - start) (omega (arith, whole_at))

  pub word_more : take (at + 1 - start) (drop start x) ≡ w ++ (get_or x at 0 ∷ [])
  word_more =
      ap (λ l. take (at + 1 - start) l) (after ∙ sym (append_assoc w (get_or x at 0 ∷ []) (drop (suc at) x)))
      ∙ take_at (w ++ (get_or x at 0 ∷ [])) (drop (suc at) x) (at + 1 - start) (omega (arith, whole_at, length-append w (get_or x at 0 ∷ [])))

  pub next-name : at + 1 ≡ length (spaced (ns ++ (w ∷ [])))
  next-name = omega (arith, whole_at, ap length (spaced_snoc ns w), length-append (spaced ns) (w ++ (32 ∷ [])), length-append w (32 ∷ []))

  pub next-line : at + 1 ≡ length (line (ns ++ (w ∷ [])))
  next-line = omega (arith, whole_at, ap length (line-parts ns w []), length-append (spaced ns) (w ++ (10 ∷ [])), length-append w (10 ∷ []))

  pub one_more_name : (n : ℕ) → n ≡ length ns → n + 1 ≡ length (ns ++ (w ∷ []))
  one_more_name n e = omega (arith, length-append ns (w ∷ []))

-- The step, by the sort of the byte.
sort_is_letter : (b : ℕ) → elem alphabet b ≡ true → sort b ≡ letter
sort_is_letter b h = ap (λ c. cond c letter (cond (eqb b 32) space (cond (eqb b 10) end other))) h

sort_is_other : (b : ℕ) → elem alphabet b ≡ false → (b ≡ 32 → ⊥) → (b ≡ 10 → ⊥) → sort b ≡ other
sort_is_other b h k l =
    ap (λ c. cond c letter (cond (eqb b 32) space (cond (eqb b 10) end other))) h
    ∙ ap (λ c. cond c space (cond (eqb b 10) end other)) (ne_eqb b 32 k) ∙ ap (λ c. cond c end other) (ne_eqb b 10 l)

pub sort_is_space : (b : ℕ) → b ≡ 32 → sort b ≡ space
unfolding alphabet
sort_is_space b e = ap sort e

pub sort_is_end : (b : ℕ) → b ≡ 10 → sort b ≡ end
unfolding alphabet
sort_is_end b e = ap sort e

-- The cursor and the state of a step that goes on where t holds.
pub stepped_when : (c : Cursor) (s : FileState) (t u : Bool) → t ≡ u → CursorStands c s → Stepped (then_some t c) (when u s)
stepped_when c s true true e q = q
stepped_when c s true false e q = cc
stepped_when c s false true e q = cc
stepped_when c s false false e q = tt

-- The test of the number of names, behind that of a new one.
pub few_yet : (a b : Bool) → b ≡ true → a ≡ a && b
few_yet true b e = sym e
few_yet false b e = refl

pub too_many : (a b : Bool) → b ≡ false → false ≡ a && b
too_many true b e = sym e
too_many false b e = refl

module _ (r : Option Cursor) (ns : List (List ℕ)) (w : List ℕ) (b : ℕ) where
  by_sort : (k : Sort) → sort b ≡ k → Stepped r (on_name k ns w b) → Stepped r (file_step (naming ns w) b)
  by_sort k e h = subst (λ s. Stepped r (on_name s ns w b)) (sym e) h

  module _ (c : Cursor) (t : Bool) (e : r ≡ then_some t c) where
    pub name_letter : elem alphabet b ≡ true → t ≡ room ns (w ++ (b ∷ [])) → CursorStands c (naming ns (w ++ (b ∷ []))) → Stepped r (file_step (naming ns w) b)
    name_letter h f q = by_sort letter (sort_is_letter b h) (rw e (stepped_when c _ t (room ns (w ++ (b ∷ []))) f q))

    pub name_space : b ≡ 32 → t ≡ is_new ns w && ltb (length ns) 255 → CursorStands c (naming (ns ++ (w ∷ [])) []) → Stepped r (file_step (naming ns w) b)
    name_space h f q = by_sort space (sort_is_space b h) (rw e (stepped_when c _ t (is_new ns w && ltb (length ns) 255) f q))

    pub name_end : b ≡ 10 → t ≡ is_new ns w → CursorStands c (due (ns ++ (w ∷ [])) [] []) → Stepped r (file_step (naming ns w) b)
    name_end h f q = by_sort end (sort_is_end b h) (rw e (stepped_when c _ t (is_new ns w) f q))

    pub name_odd : elem alphabet b ≡ false → (b ≡ 32 → ⊥) → (b ≡ 10 → ⊥) → t ≡ false → Stepped r (file_step (naming ns w) b)
    name_odd h k l f = by_sort other (sort_is_other b h k l) (rw (e, f) tt)
