-- A part of `book_in_form?`.
use Rattle.std.specs.Prelude.{Bool, ℕ, ◌-◌}
use Rattle.spec_orders.specs.Lists.{numbers_from, all_of}
use Rattle.spec_calls.specs.Tables.{Book}
use Rattle.spec_calls.specs.Book.{group_words, group_in_form?}

-- The groups from place k up to the count are in form.
unfoldable pub groups_in_form? : ℕ → Book → ℕ → Bool
groups_in_form? n book k = all_of (λ i. group_in_form? n (group_words book.words i)) (numbers_from k (book.count - k))
