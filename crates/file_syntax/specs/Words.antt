-- Words of bytes, as the private functions find them in a file.
use Rattle.std.specs.Prelude.{◌≡◌, Bool, cond, List, [], ◌∷◌, ◌++◌, ℕ, ◌+◌, eqb, ltb, length}
use Rattle.spec_orders.specs.Lists.{All, some_of, same}
use Rattle.file_syntax.specs.RingFile.{place_of, words_in}

-- The bytes before the first space or line end.
abbrev pub word_end : List ℕ → ℕ
word_end [] = 0
word_end (b ∷ x) = cond (eqb b 32) 0 (cond (eqb b 10) 0 (1 + word_end x))

-- A word has no space.
abbrev pub Word : List ℕ → Type 0
Word w = All (λ b. b ≡ 32 → ⊥) w

-- Words, a space after each.
abbrev pub spaced : List (List ℕ) → List ℕ
spaced [] = []
spaced (w ∷ ws) = w ++ (32 ∷ spaced ws)

-- The test whether w is one of the words.
abbrev pub is_among : List (List ℕ) → List ℕ → Bool
is_among ns w = some_of (same w) ns

-- Where word number k, from 0, of the first line starts; past the last byte where there is no such word.
unfoldable pub place_in : List ℕ → ℕ → ℕ
place_in x k = cond (ltb k (length (words_in x))) (place_of (words_in x) k) (1 + length x)
