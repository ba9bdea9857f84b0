-- Document 01, "Ring file and lister": the bytes of a ring file, the files that are accepted, and the byte at which any other is refused (11).
use Rattle.std.specs.Prelude.{◌≡◌, Bool, true, false, cond, ◌&&◌, List, [], ◌∷◌, ◌++◌, map, ℕ, zero, suc, ◌+◌, ◌-◌, ◌*◌, ◌≤◌, eqb, leb, ltb, length, take, drop, get_or}
use Rattle.spec_orders.specs.FirstByte.{RefusedAt}
use Rattle.spec_orders.specs.Lists.{All, Distinct, In, those_of, numbers_from}

-- "A to Z, a to z and 0 to 9".
unfoldable pub alphabet : List ℕ
alphabet = numbers_from 65 26 ++ (numbers_from 97 26 ++ numbers_from 48 10)

abbrev pub NameByte : ℕ → Type 0
NameByte b = In b alphabet

-- "Names are 1 to 8 bytes out of" these.
pub record Name (w : List ℕ) : Type 0 where
  pub some_byte : 1 ≤ length w
  pub few_bytes : length w ≤ 8
  pub each : All NameByte w

-- "All different, for bins 1 to n"; n is 1 to 256.
pub record Names (ns : List (List ℕ)) : Type 0 where
  pub some_name : 1 ≤ length ns
  pub few_names : length ns ≤ 256
  pub each : All Name ns
  pub different : Distinct ns

-- "Values are `0`, `1`, or `-`, which means 0": the byte of each, and whether the leaf is in the group.
pub data Value : Type 0 where
  off on hyphen : Value

abbrev pub value_byte : Value → ℕ
value_byte off = 48
value_byte on = 49
value_byte hyphen = 45

abbrev pub in_group : Value → Bool
in_group off = false
in_group on = true
in_group hyphen = false

abbrev pub value_word : Value → List ℕ
value_word v = value_byte v ∷ []

-- "One space stands between, and every line ends with byte 10." The line of these words; what follows its first word.
abbrev pub further : List (List ℕ) → List ℕ
further [] = 10 ∷ []
further (w ∷ ws) = 32 ∷ (w ++ further ws)

abbrev pub line : List (List ℕ) → List ℕ
line [] = 10 ∷ []
line (w ∷ ws) = w ++ further ws

abbrev pub value_lines : List (List Value) → List ℕ
value_lines [] = []
value_lines (vs ∷ vss) = line (map value_word vs) ++ value_lines vss

-- "A line of names, then lines of values in that order, one group a line, perhaps none."
abbrev pub file_bytes : List (List ℕ) → List (List Value) → List ℕ
file_bytes ns vss = line ns ++ value_lines vss

pub record Rules (ns : List (List ℕ)) (vss : List (List Value)) : Type 0 where
  pub names : Names ns
  pub values : All (λ vs. length vs ≡ length ns) vss

-- Where word number k, from 0, of a line starts.
abbrev pub place_of : List (List ℕ) → ℕ → ℕ
place_of [] k = 0
place_of (w ∷ ws) zero = 0
place_of (w ∷ ws) (suc k) = length w + 1 + place_of ws k

-- The group of a line: the leaves with the value `1`, rising. A leaf's number is its place in the line, from 1.
unfoldable pub leaves_on : List Value → List ℕ
leaves_on vs = those_of (λ b. in_group (get_or vs (b - 1) off)) (numbers_from 1 (length vs))

-- x is an accepted file, the size limit apart.
pub record Accepted (x : List ℕ) : Type 0 where
  pub ns : List (List ℕ)
  pub vss : List (List Value)
  pub rules : Rules ns vss
  pub bytes : x ≡ file_bytes ns vss

-- 11 names this byte.
abbrev pub FileRefused : List ℕ → ℕ → Type 0
FileRefused = RefusedAt Accepted

-- x is accepted: a ring of n leaves, a names line of h bytes, and l lines of values.
pub record FileHolds (x : List ℕ) (n h l : ℕ) : Type 0 where
  pub ns : List (List ℕ)
  pub vss : List (List Value)
  pub rules : Rules ns vss
  pub bytes : x ≡ file_bytes ns vss
  pub size : length x ≤ 65536
  pub leaves : n ≡ length ns
  pub head : h ≡ length (line ns)
  pub lines : l ≡ length vss

-- The readers of names and values, for any bytes x and any numbers; in an accepted file they find the names, the values and the groups
-- (`file_read/proofs/Values`).

-- The words of the first line: the bytes before the first line end, parted at spaces. `in_front`: one byte more in front of the first word.
abbrev pub in_front : ℕ → List (List ℕ) → List (List ℕ)
in_front b [] = (b ∷ []) ∷ []
in_front b (w ∷ ws) = (b ∷ w) ∷ ws

abbrev pub words_in : List ℕ → List (List ℕ)
words_in [] = [] ∷ []
words_in (b ∷ x) = cond (eqb b 32) ([] ∷ words_in x) (cond (eqb b 10) ([] ∷ []) (in_front b (words_in x)))

-- Name number k, from 0: word number k of the first line, and the byte at which it starts. Where there is no such word: no byte, and 0.
unfoldable pub name_in : List ℕ → ℕ → List ℕ
name_in x k = get_or (words_in x) k []

unfoldable pub name_start : List ℕ → ℕ → ℕ
name_start x k = cond (ltb k (length (words_in x))) (place_of (words_in x) k) 0

-- Value line l, from 0, with 2 bytes for each of so many names, the first value line at byte `head`. It has no byte where it does not stand
-- whole in the file, or where there are more names than a ring has leaves.
unfoldable pub line_in : List ℕ → ℕ → ℕ → ℕ → List ℕ
line_in x names head l = cond (leb names 256 && leb (head + suc l * (2 * names)) (length x)) (take (2 * names) (drop (head + l * (2 * names)) x)) []

-- Whether value number i, from 0, of the line is `1`; the leaves, rising, whose value is `1`.
unfoldable pub value_in : List ℕ → ℕ → ℕ → ℕ → ℕ → Bool
value_in x names head l i = eqb (get_or (line_in x names head l) (2 * i) 0) 49

unfoldable pub group_in : List ℕ → ℕ → ℕ → ℕ → List ℕ
group_in x names head l = those_of (λ b. value_in x names head l (b - 1)) (numbers_from 1 names)

-- What is written of the group to a list of so many places: all of it where there is a place for each name, else nothing.
unfoldable pub group_for : ℕ → List ℕ → ℕ → ℕ → ℕ → List ℕ
group_for places x names head l = cond (ltb places names) [] (group_in x names head l)
