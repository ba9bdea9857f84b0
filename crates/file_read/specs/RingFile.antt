-- What is said of a file. The ring file itself is defined in `file_syntax/specs/RingFile`, whose names are passed on here.
use Rattle.std.specs.Prelude.{ℕ, ◌≤◌, ◌<◌, List, [], ◌∷◌, length, Result, Ok, Err}
use Rattle.spec_calls.specs.Refusals.{reported}
use Rattle.spec_calls.specs.declared.Refusal.{Refusal}
use Rattle.file_read.specs.declared.Scanned.{Scanned}
unfoldable pub use Rattle.file_syntax.specs.RingFile.{alphabet, leaves_on, name_in, name_start, line_in, value_in, group_in, group_for}
pub use Rattle.file_syntax.specs.RingFile.{NameByte, Name, Names, Value, off, on, hyphen, value_byte, in_group, value_word, further, line, value_lines, file_bytes, Rules, place_of, Accepted, FileRefused, FileHolds, words_in}

-- What is said of the file x, as four numbers: 0, how many leaves, the bytes of the names line, and how many value lines; or 11, its byte, and
-- zeros. "A file above 65,536 bytes is refused first, at byte 65,536."
pub data Says (x : List ℕ) : List ℕ → Type 0 where
  ring : {n h l : ℕ} → FileHolds x n h l → Says x (0 ∷ n ∷ h ∷ l ∷ [])
  too_long : 65536 < length x → Says x (11 ∷ 65536 ∷ 0 ∷ 0 ∷ [])
  malformed : {p : ℕ} → length x ≤ 65536 → FileRefused x p → Says x (11 ∷ p ∷ 0 ∷ 0 ∷ [])

-- The four numbers of each answer.
abbrev pub told_of : Refusal → List ℕ
told_of why = (reported why).number ∷ (reported why).value ∷ 0 ∷ 0 ∷ []

abbrev pub told : Result Scanned Refusal → List ℕ
told (Ok found) = 0 ∷ found.names ∷ found.head ∷ found.lines ∷ []
told (Err why) = told_of why
