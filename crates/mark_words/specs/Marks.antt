-- Document 01: "A book group is four words of 64 marks, bin 1 the lowest mark of the first word. A group's size is the count of marks set in
-- its four words." Here for any number of words: sets of leaves as mark words.
use Rattle.std.specs.Prelude.{Bool, false, cond, not, ◌&&◌, ◌||◌, List, [], ◌∷◌, ◌++◌, ℕ, zero, suc, ◌+◌, ◌*◌, ◌/◌, ◌%◌, ◌^◌, eqb, leb, length, get_or}
use Rattle.spec_orders.specs.Lists.{numbers_from, those_of, same}
use Rattle.spec_orders.specs.CircularOrder.{Restriction}

-- Mark i of a word, from 0, the lowest.
abbrev pub bit : ℕ → ℕ → Bool
bit w i = eqb (w / 2 ^ i % 2) 1

-- The group whose marks are these words: is leaf b marked? (There is no leaf 0, and past the words nothing is marked.)
unfoldable pub marked : List ℕ → Restriction
marked ws zero = false
marked ws (suc i) = bit (get_or ws (i / 64) 0) (i % 64)

-- The word with the marks of the leaves base + 1 to base + k that are in the group.
unfoldable pub word_of : Restriction → ℕ → ℕ → ℕ
word_of G base zero = 0
word_of G base (suc k) = word_of G base k + cond (G (base + suc k)) (2 ^ k) 0

-- The k words with the marks of the leaves from 1 on that are in the group.
unfoldable pub words_of : ℕ → Restriction → List ℕ
words_of zero G = []
words_of (suc k) G = words_of k G ++ (word_of G (64 * k) 64 ∷ [])

-- The list of marks: the leaves marked in the words, rising.
unfoldable pub leaves_of : List ℕ → List ℕ
leaves_of ws = those_of (marked ws) (numbers_from 1 (64 * length ws))

-- No leaf is marked.
abbrev pub no_mark? : List ℕ → Bool
no_mark? ws = same (leaves_of ws) []

-- No leaf; the leaf and those of the group; the leaves of either group; the leaves from 1 to n that are outside the group.
abbrev pub no_leaf : Restriction
no_leaf x = false

abbrev pub with_leaf : ℕ → Restriction → Restriction
with_leaf b G x = eqb x b || G x

abbrev pub either : Restriction → Restriction → Restriction
either G H x = G x || H x

abbrev pub outside : ℕ → Restriction → Restriction
outside n G x = leb x n && not (G x)
