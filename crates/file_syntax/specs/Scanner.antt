-- The scanner, on which the private functions' contracts are stated: a state for the bytes read so far, and what one byte more leads to.
use Rattle.std.specs.Prelude.{Bool, true, false, cond, not, ◌&&◌, List, [], ◌∷◌, ◌++◌, map, ℕ, suc, ◌≤◌, ◌<◌, eqb, ltb, length}
use Rattle.std.proofs.Math.Option.{Option, none, some}
use Rattle.spec_orders.specs.Lists.{All, Distinct, In, elem, some_of}
use Rattle.file_syntax.specs.RingFile.{alphabet, NameByte, Name, Value, off, on, hyphen, value_word, file_bytes, Rules}
use Rattle.file_syntax.specs.Words.{spaced, is_among}

-- Some candidate is no earlier name.
abbrev pub spare : List (List ℕ) → List (List ℕ) → Bool
spare ns cs = some_of (λ c. not (is_among ns c)) cs

-- The names that begin with t, where t has 7 or 8 bytes.
abbrev pub longer : List ℕ → List (List ℕ)
longer t = cond (eqb (length t) 7) (t ∷ map (λ c. t ++ (c ∷ [])) alphabet) (cond (eqb (length t) 8) (t ∷ []) [])

-- The begun name t can become a new name. (Where it has fewer than 7 bytes, more names begin with it than a file has.)
abbrev pub room : List (List ℕ) → List ℕ → Bool
room ns t = cond (ltb (length t) 7) true (spare ns (longer t))

-- t is a new name.
abbrev pub is_new : List (List ℕ) → List ℕ → Bool
is_new ns [] = false
is_new ns (b ∷ w) = not (is_among ns (b ∷ w))

pub data FileState : Type 0 where
  -- The whole names, and the begun one.
  naming : List (List ℕ) → List ℕ → FileState
  -- The names, the whole lines, the values of the begun line; a value is due.
  due : List (List ℕ) → List (List Value) → List Value → FileState
  -- The same with the value just read; a space or the line's end is due.
  got : List (List ℕ) → List (List Value) → List Value → Value → FileState

abbrev pub file_start : FileState
file_start = naming [] []

-- What a byte is outside the values.
pub data Sort : Type 0 where
  letter space end other : Sort

abbrev pub sort : ℕ → Sort
sort b = cond (elem alphabet b) letter (cond (eqb b 32) space (cond (eqb b 10) end other))

abbrev pub value : ℕ → Option Value
value b = cond (eqb b 48) (some off) (cond (eqb b 49) (some on) (cond (eqb b 45) (some hyphen) none))

abbrev pub when : Bool → FileState → Option FileState
when true s = some s
when false s = none

abbrev pub on_name : Sort → List (List ℕ) → List ℕ → ℕ → Option FileState
on_name letter ns w b = when (room ns (w ++ (b ∷ []))) (naming ns (w ++ (b ∷ [])))
on_name space ns w b = when (is_new ns w && ltb (length ns) 255) (naming (ns ++ (w ∷ [])) [])
on_name end ns w b = when (is_new ns w) (due (ns ++ (w ∷ [])) [] [])
on_name other ns w b = none

abbrev pub on_value : Option Value → List (List ℕ) → List (List Value) → List Value → Option FileState
on_value none ns vss vs = none
on_value (some v) ns vss vs = some (got ns vss vs v)

abbrev pub on_got : Sort → List (List ℕ) → List (List Value) → List Value → Value → Option FileState
on_got letter ns vss vs v = none
on_got space ns vss vs v = when (ltb (suc (length vs)) (length ns)) (due ns vss (vs ++ (v ∷ [])))
on_got end ns vss vs v = when (eqb (suc (length vs)) (length ns)) (due ns (vss ++ ((vs ++ (v ∷ [])) ∷ [])) [])
on_got other ns vss vs v = none

-- One byte more. none: no accepted file goes on so.
abbrev pub file_step : FileState → ℕ → Option FileState
file_step (naming ns w) b = on_name (sort b) ns w b
file_step (due ns vss vs) b = on_value (value b) ns vss vs
file_step (got ns vss vs v) b = on_got (sort b) ns vss vs v

-- The bytes that lead to a state.
abbrev pub text : FileState → List ℕ
text (naming ns w) = spaced ns ++ w
text (due ns vss vs) = file_bytes ns vss ++ spaced (map value_word vs)
text (got ns vss vs v) = file_bytes ns vss ++ (spaced (map value_word vs) ++ value_word v)

-- Some new name begins with t.
pub record New (ns : List (List ℕ)) (t : List ℕ) : Type 0 where
  pub rest : List ℕ
  pub name : Name (t ++ rest)
  pub new : In (t ++ rest) ns → ⊥

-- What holds in a state that is reached.
pub record Naming (ns : List (List ℕ)) (w : List ℕ) : Type 0 where
  pub few : length ns ≤ 255
  pub each : All Name ns
  pub different : Distinct ns
  pub bytes : All NameByte w
  pub open_end : New ns w

pub record Due (ns : List (List ℕ)) (vss : List (List Value)) (vs : List Value) : Type 0 where
  pub rules : Rules ns vss
  pub left : length vs < length ns

abbrev pub Ok : FileState → Type 0
Ok (naming ns w) = Naming ns w
Ok (due ns vss vs) = Due ns vss vs
Ok (got ns vss vs v) = Due ns vss vs
