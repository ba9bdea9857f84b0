-- The code's cursor and the scanner's state.
use Rattle.std.specs.Prelude.{◌≡◌, List, ℕ, ◌≤◌, length, take, get_or, Option, Some, None}
use Rattle.std.proofs.Math.Option.{Option as Outcome, none, some}
use Rattle.file_syntax.specs.RingFile.{line}
use Rattle.file_syntax.specs.Words.{spaced}
use Rattle.file_syntax.specs.Scanner.{FileState, naming, due, got, file_step, text, Ok}
use Rattle.file_cursor.specs.declared.Cursor.{Cursor}
use Rattle.file_cursor.specs.declared.Phase.TheVariants.{Names, Due, Got}

-- The cursor stands for the state.
abbrev pub CursorStands : Cursor → FileState → Type 0
CursorStands c (naming ns w) = (c.phase ≡ Names) × (c.names ≡ length ns) × (c.start ≡ length (spaced ns))
CursorStands c (due ns vss vs) = (c.phase ≡ Due) × (c.names ≡ length ns) × (c.start ≡ length (line ns)) × (c.got ≡ length vs) × (c.lines ≡ length vss)
CursorStands c (got ns vss vs v) = (c.phase ≡ Got) × (c.names ≡ length ns) × (c.start ≡ length (line ns)) × (c.got ≡ length vs) × (c.lines ≡ length vss)

-- The same of the outcome of a step. No cursor: a refusal.
abbrev pub Stepped : Option Cursor → Outcome FileState → Type 0
Stepped None none = Unit {0}
Stepped None (some s) = ⊥
Stepped (Some c) none = ⊥
Stepped (Some c) (some s) = CursorStands c s

-- From the cursor c, byte number i of x leads to r.
abbrev pub Advances : List ℕ → ℕ → Cursor → Option Cursor → Type 0
Advances x i c r = (s : FileState) → Ok s → take i x ≡ text s → CursorStands c s → Stepped r (file_step s (get_or x i 0))

-- The cursor's numbers after i bytes.
abbrev pub CursorWithin : Cursor → ℕ → Type 0
CursorWithin c i = (c.start ≤ i) × (c.names ≤ 256) × (c.got ≤ 256) × (c.lines ≤ i)
