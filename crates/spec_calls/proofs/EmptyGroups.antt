-- An empty group joins a ring: the book's words and the node table's rows stay. The place after the count of a book in form is zero, as are the
-- words of an empty group, and a tree's records written over themselves change nothing. (`Leaves.no_mark`: a group is empty iff its words have
-- no mark.)
use mathlib.Core.Path.{◌≡◌, refl, sym, ap, ap₂, subst, ◌∙◌}
use mathlib.Core.Bool.{true, true≢false}
use mathlib.Core.List.{List, [], ◌∷◌, ◌++◌}
use Prim.Native.Nat.{ℕ, zero, suc, ◌+◌, ◌-◌, ◌*◌, ◌≤◌, ◌<◌}
use native.Mathlib.Omega.{arith}
use borrow.Author.Tests.{eq-eqb, eqb-true, le-ltb}
use lib.Dec.{eqb}
use lib.ListN.{length, take, drop, replicate, length-take, length-drop, take-append-drop}
use lib.Seq.{take-take, drop-drop}
use Rattle.spec_orders.specs.declared.Layout.{Layout}
use Rattle.spec_orders.specs.Lists.{all_of}
use Rattle.spec_orders.specs.CircularOrder.{Restriction, group_of, EmptyGroup}
use Rattle.spec_orders.specs.Tree.{Forest}
use Rattle.spec_orders.specs.Conflict.{book_conflicts}
use Rattle.spec_orders.proofs.Joining.{empty_joins}
use Rattle.spec_orders.proofs.EmptyGroups.{conflicts_joined}
use Rattle.spec_orders.proofs.Tests.{and_both}
use Rattle.mark_words.specs.Marks.{marked, no_leaf}
use Rattle.mark_words.proofs.Words.{no_words, empty_words}
use Rattle.mark_words.proofs.Leaves.{marked_list}
use Rattle.spec_calls.specs.Tables.{Nodes, leaves, Book, lent_book}
use Rattle.spec_calls.specs.Book.{group_words, booked}
use Rattle.spec_calls.specs.declared.Refusal.TheVariants.{BookFull}
use Rattle.spec_calls.specs.Refusals.{reply}
use Rattle.spec_calls.specs.Calls.{changed_as, unchanged, join_refusal, joined, join_call, group_numbered, conflict_refusal, conflicts_of, conflict_call}
use Rattle.spec_calls.specs.Demands.{LentTree, LentBook}
use Rattle.spec_calls.proofs.NodeTables.{over-same}
use Rattle.spec_calls.proofs.Books.{form_parts, booked_form}
use Rattle.spec_calls.proofs.Demands.{empty_well_formed, well_formed_passes, whole_size, whole-rack, whole-nodes, lent_held, the_joined, the_refusal}

zeros_first : (k : ℕ) (l : List ℕ) → all_of (eqb 0) l ≡ true → k ≤ length l → take k l ≡ replicate k 0
zeros_first zero l e h = refl
zeros_first (suc k) [] e h = absurd (omega arith)
zeros_first (suc k) (w ∷ l) e h =
    let b = and_both (eqb 0 w) (all_of (eqb 0) l) e in
    ap₂ ◌∷◌ (sym (eqb-true 0 w b.0)) (zeros_first k l b.1 (omega arith))

-- The next place is zero, a group with no leaf.
next_zero : (n : ℕ) (book : Book) → LentBook n book → book.count < 96 → group_words book.words book.count ≡ replicate 4 0
next_zero n book lent place_left =
    let c = book.count in
    let past = drop (4 * c) book.words in
    sym (take-take 4 (384 - 4 * c) past (omega arith))
    ∙ zeros_first 4 (take (384 - 4 * c) past) (form_parts n book lent).1 (omega (arith, length-take (384 - 4 * c) past, length-drop (4 * c) book.words, lent.all_words))

-- So the words stay when an empty group takes it.
booked_empty : (n : ℕ) (book : Book) (G : Restriction) → LentBook n book → book.count < 96 → EmptyGroup G → booked book.words book.count G ≡ book.words
unfolding booked
booked_empty n book G lent place_left e =
    let c = book.count in
    let past = drop (4 * c) book.words in
    ap (λ (l : List ℕ). take (4 * c) book.words ++ l)
    (ap₂ ◌++◌ (empty_words 4 G e ∙ sym (next_zero n book lent place_left)) (sym (drop-drop 4 (4 * c) book.words)) ∙ take-append-drop 4 past)
    ∙ take-append-drop (4 * c) book.words

-- The group with the number after the count is empty.
pub next_empty : (n : ℕ) (book : Book) → LentBook n book → book.count < 96 → EmptyGroup (group_numbered book.words (book.count + 1))
next_empty n book lent place_left x =
    let e : book.count + 1 - 1 ≡ book.count = omega arith in
    ap (λ (k : ℕ). marked (group_words book.words k) x) e
    ∙ ap (λ (ws : List ℕ). marked ws x) (next_zero n book lent place_left ∙ sym (no_words 4))
    ∙ ap (λ (G : Restriction). G x) (marked_list 4 [] tt)

-- The book is in form with it.
pub next_in_form : (n : ℕ) (book : Book) → LentBook n book → book.count < 96 → LentBook n (lent_book book.words (book.count + 1))
next_in_form n book lent place_left =
    subst (λ (words : List ℕ). LentBook n (lent_book words (book.count + 1))) (booked_empty n book no_leaf lent place_left (λ x. refl))
    (booked_form n book no_leaf lent place_left (λ x e. absurd (true≢false (sym e))))

-- What joining an empty group returns, and leaves: the count rises, and the tables are as they were.
pub join_empty : (nodes : Nodes) (book : Book) (t : Forest) → LentTree nodes t → LentBook nodes.bins book → book.count < 96
    → join_call nodes book [] ≡ changed_as (reply 0 (book.count + 1)) nodes.rows book
unfolding join_call joined
join_empty nodes book t h b place_left =
    let none : EmptyGroup (group_of nodes.bins []) = λ x. refl in
    rw (the_refusal nodes book [] t h b place_left (empty_well_formed nodes.bins), the_joined nodes book [] t h b place_left (empty_well_formed nodes.bins), empty_joins (group_of nodes.bins []) t none h.tree.in_form.single)
    (ap₂ (λ (rows words : List ℕ). changed_as (reply 0 (book.count + 1)) rows (lent_book words book.count)) (over-same (leaves nodes) t nodes.rows h.whole.few_leaves h.tree) (booked_empty nodes.bins book (group_of nodes.bins []) b place_left none))

-- Where there is no place, 7 is the answer.
pub join_empty_full : (nodes : Nodes) (book : Book) (t : Forest) → LentTree nodes t → LentBook nodes.bins book → book.count ≡ 96
    → join_call nodes book [] ≡ unchanged BookFull nodes book
unfolding join_call join_refusal joined
join_empty_full nodes book t h b full =
    rw (
      whole_size h.whole,
      whole-rack h.whole,
      whole-nodes h.whole,
      le-ltb (length book.words) 384 b.all_words,
      lent_held nodes t h,
      b.in_form,
      well_formed_passes nodes.bins [] (empty_well_formed nodes.bins),
      eq-eqb book.count 96 full,
    )

-- One in the book's next place changes no conflict list, and no conflict call.
list_joined : (l : Layout) (n : ℕ) (book : Book) (new : Restriction) → EmptyGroup (group_numbered book.words (book.count + 1))
    → conflicts_of l n (lent_book book.words (book.count + 1)) new ≡ conflicts_of l n book new
unfolding conflicts_of
list_joined l n book new h =
    let e : book.count + 1 ≡ suc book.count = omega arith in
    ap (λ (k : ℕ). book_conflicts l n (group_numbered book.words) k new) e
    ∙ conflicts_joined l n (group_numbered book.words) book.count new (subst (λ (k : ℕ). EmptyGroup (group_numbered book.words k)) e h)

pub conflict_joined : (l : Layout) (n : ℕ) (book : Book) → LentBook n book → book.count < 96 → (list conflicts : List ℕ)
    → conflict_call l n (lent_book book.words (book.count + 1)) list conflicts ≡ conflict_call l n book list conflicts
unfolding conflict_call conflict_refusal
conflict_joined l n book lent place_left list conflicts =
    rw (lent.in_form, (next_in_form n book lent place_left).in_form, list_joined l n book (group_of n list) (next_empty n book lent place_left))
