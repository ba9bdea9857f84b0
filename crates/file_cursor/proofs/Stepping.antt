-- The cursor after a value.
use mathlib.Core.Path.{◌≡◌, sym, subst}
use mathlib.Core.Bool.{Bool}
use mathlib.Core.List.{List, [], ◌∷◌, ◌++◌}
use Prim.Native.Nat.{ℕ, suc}
use lib.Dec.{eqb, ltb}
use lib.ListN.{length}
use Rattle.std.specs.Prelude.{Option}
use Rattle.std.specs.Bool.{then_some}
use Rattle.file_syntax.specs.RingFile.{Value}
use Rattle.file_syntax.specs.Scanner.{due, got, Sort, space, end, sort, on_got, file_step}
use Rattle.file_cursor.specs.Cursors.{CursorStands, Stepped}
use Rattle.file_cursor.specs.declared.Cursor.{Cursor}
use Rattle.file_cursor.proofs.NamesLine.{sort_is_space, sort_is_end, stepped_when}

module _ (r : Option Cursor) (ns : List (List ℕ)) (vss : List (List Value)) (vs : List Value) (v : Value) (b : ℕ) where
  by_sort : (k : Sort) → sort b ≡ k → Stepped r (on_got k ns vss vs v) → Stepped r (file_step (got ns vss vs v) b)
  by_sort k e h = subst (λ s. Stepped r (on_got s ns vss vs v)) (sym e) h

  module _ (c : Cursor) (t : Bool) (e : r ≡ then_some t c) where
    pub value_space : b ≡ 32 → t ≡ ltb (suc (length vs)) (length ns) → CursorStands c (due ns vss (vs ++ (v ∷ []))) → Stepped r (file_step (got ns vss vs v) b)
    value_space h f q = by_sort space (sort_is_space b h) (rw e (stepped_when c _ t (ltb (suc (length vs)) (length ns)) f q))

    pub value_end : b ≡ 10 → t ≡ eqb (suc (length vs)) (length ns) → CursorStands c (due ns (vss ++ ((vs ++ (v ∷ [])) ∷ [])) [])
        → Stepped r (file_step (got ns vss vs v) b)
    value_end h f q = by_sort end (sort_is_end b h) (rw e (stepped_when c _ t (eqb (suc (length vs)) (length ns)) f q))
