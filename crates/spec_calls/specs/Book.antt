-- Document 01, "The ring and its tables": the book, a table of 384 mark words, four for each of up to 96 groups.
use Rattle.std.specs.Prelude.{Bool, ◌&&◌, List, ◌++◌, map, ℕ, ◌+◌, ◌-◌, ◌*◌, eqb, leb, take, drop, replicate}
use Rattle.spec_orders.specs.Lists.{numbers_from, all_of}
use Rattle.spec_orders.specs.CircularOrder.{Restriction}
use Rattle.mark_words.specs.Marks.{marked, words_of, leaves_of}
use Rattle.spec_calls.specs.Tables.{Book, lent_book, over}

-- The four words of the group at place k, from 0.
abbrev pub group_words : List ℕ → ℕ → List ℕ
group_words words k = take 4 (drop (4 * k) words)

-- The groups of a book.
unfoldable pub groups : Book → List Restriction
groups book = map (λ k. marked (group_words book.words k)) (numbers_from 0 book.count)

-- "Each mark is that of a bin from 1 to n." Document 02, No. 2: "a book group without marks is in form".
abbrev pub group_in_form? : ℕ → List ℕ → Bool
group_in_form? n words = all_of (λ b. leb b n) (leaves_of words)

-- "A book is well formed, or in form, when its count is at most 96, each group up to the count [is as above], and all groups past the count
-- are zero."
unfoldable pub book_in_form? : ℕ → Book → Bool
book_in_form? n book =
    leb book.count 96
    && (all_of (λ k. group_in_form? n (group_words book.words k)) (numbers_from 0 book.count)
    && all_of (eqb 0) (take (384 - 4 * book.count) (drop (4 * book.count) book.words)))

-- "The accepted group takes the next book place": the words with the group at place k.
unfoldable pub booked : List ℕ → ℕ → Restriction → List ℕ
booked words k G = take (4 * k) words ++ (words_of 4 G ++ drop (4 * k + 4) words)

-- The words of the book emptied: 384 zeros.
unfoldable pub emptied : List ℕ → List ℕ
emptied words = over (replicate 384 0) words

-- The book as a call leaves it: with the group in its next place; emptied. The count is the one that was lent.
abbrev pub with_group : Book → Restriction → Book
with_group book G = lent_book (booked book.words book.count G) book.count

abbrev pub without_groups : Book → Book
without_groups book = lent_book (emptied book.words) book.count
