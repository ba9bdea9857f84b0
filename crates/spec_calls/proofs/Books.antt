-- A group more in the book: its words, and the book's groups and form.
use mathlib.Core.Path.{◌≡◌, refl, sym, ap, ap₂, subst, ◌∙◌}
use mathlib.Core.Logic.Iff
use mathlib.Core.Logic.{◌⊎◌, inl, inr}
use mathlib.Core.Bool.{Bool, true, false}
use mathlib.Core.List.{List, [], ◌∷◌, ◌++◌, map, map-append}
use Prim.Native.Nat.{ℕ, ◌+◌, ◌-◌, ◌*◌, ◌≤◌, ◌<◌}
use native.Mathlib.Omega.{arith}
use borrow.Author.Tests.{le-leb, leb-true}
use lib.Dec.{eqb, leb}
use lib.ListN.{length, take, drop, length-append, length-drop, take-append-drop}
use lib.Seq.{take-add, take-append-le, take-append_seam, drop-drop, drop-append-le, drop-append-add, drop_at, length-take-le}
use Rattle.spec_orders.specs.declared.Layout.{Layout}
use Rattle.spec_orders.specs.Lists.{All, In, numbers_from, all_of}
use Rattle.spec_orders.specs.CircularOrder.{Restriction}
use Rattle.spec_orders.specs.Layout.{Visible}
use Rattle.spec_orders.proofs.Tests.{both, and_both, false_if}
use Rattle.spec_orders.proofs.Members.{in_append, in_right, all_passed}
use Rattle.spec_orders.proofs.Numbers.{numbers_append, numbers_in, in_range}
use Rattle.spec_orders.proofs.Straight.{within_visible}
use Rattle.mark_words.specs.Marks.{marked, words_of, leaves_of}
use Rattle.mark_words.proofs.Words.{length_words, marked_words}
use Rattle.mark_words.proofs.Leaves.{leaf_marked, leaf_range, marked_leaf}
use Rattle.spec_calls.specs.Tables.{Book, lent_book}
use Rattle.spec_calls.specs.Book.{group_words, groups, group_in_form?, book_in_form?, booked}
use Rattle.spec_calls.specs.Calls.{group_numbered}
use Rattle.spec_calls.specs.Demands.{LentBook}

map_agree : {B : Type 0} (f g : ℕ → B) (l : List ℕ) → ((x : ℕ) → In x l → f x ≡ g x) → map f l ≡ map g l
map_agree f g [] h = refl
map_agree f g (x ∷ l) h = ap₂ ◌∷◌ (h x (inl refl)) (map_agree f g l (λ y i. h y (inr i)))

-- A group's words do not depend on what stands after them.
front : (a b : List ℕ) (k : ℕ) → 4 * k + 4 ≤ length a → group_words (a ++ b) k ≡ group_words a k
front a b k h =
    ap (take 4) (drop-append-le (4 * k) a b (omega arith)) ∙ take-append-le 4 (drop (4 * k) a) b (omega (arith, length-drop (4 * k) a))

module _ (words : List ℕ) (c : ℕ) (G : Restriction) (h : 4 * c + 4 ≤ length words) where
  before : (k : ℕ) → k < c → group_words (booked words c G) k ≡ group_words words k
  unfolding booked
  before k l =
      let n = length-take-le (4 * c) words (omega arith) in
      front (take (4 * c) words) _ k (omega arith)
      ∙ sym (front (take (4 * c) words) (drop (4 * c) words) k (omega arith))
      ∙ ap (λ (b : List ℕ). group_words b k) (take-append-drop (4 * c) words)

  at_place : group_words (booked words c G) c ≡ words_of 4 G
  unfolding booked
  at_place =
      ap (take 4) (drop_at (take (4 * c) words) (words_of 4 G ++ drop (4 * c + 4) words) (4 * c) (length-take-le (4 * c) words (omega arith)))
      ∙ ap (λ (k : ℕ). take k (words_of 4 G ++ drop (4 * c + 4) words)) (sym (length_words 4 G))
      ∙ take-append_seam (words_of 4 G) (drop (4 * c + 4) words)

  behind : drop (4 * c + 4) (booked words c G) ≡ drop (4 * c + 4) words
  unfolding booked
  behind =
      let n = length-take-le (4 * c) words (omega arith) in
      ap (λ (k : ℕ). drop (k + 4) (booked words c G)) (sym n)
      ∙ drop-append-add (take (4 * c) words) (words_of 4 G ++ drop (4 * c + 4) words) 4
      ∙ drop_at (words_of 4 G) (drop (4 * c + 4) words) 4 (length_words 4 G)

  same_length : length (booked words c G) ≡ length words
  unfolding booked
  same_length = omega (
    arith,
    length-append (take (4 * c) words) (words_of 4 G ++ drop (4 * c + 4) words),
    length-append (words_of 4 G) (drop (4 * c + 4) words),
    length-take-le (4 * c) words (omega arith),
    length_words 4 G,
    length-drop (4 * c + 4) words,
  )

  pub groups-booked : groups (lent_book (booked words c G) (c + 1)) ≡ groups (lent_book words c) ++ (marked (words_of 4 G) ∷ [])
  unfolding groups
  groups-booked =
      let z : 0 + c ≡ c = omega arith in
      let f : ℕ → Restriction = λ k. marked (group_words (booked words c G) k) in
      let g : ℕ → Restriction = λ k. marked (group_words words k) in
      ap (map f) (numbers_append 0 c 1)
      ∙ map-append f (numbers_from 0 c) (numbers_from (0 + c) 1)
      ∙ ap₂ ◌++◌ (map_agree f g (numbers_from 0 c) (λ x i. ap marked (before x (omega (arith, (in_range 0 c x i).1)))))
      (ap (λ (k : ℕ). f k ∷ []) z ∙ ap (λ (w : List ℕ). marked w ∷ []) at_place)

-- The groups of a book in form up to the count, and its words past it.
pub form_parts : (n : ℕ) (book : Book) → LentBook n book
    → (all_of (λ k. group_in_form? n (group_words book.words k)) (numbers_from 0 book.count) ≡ true)
    × (all_of (eqb 0) (take (384 - 4 * book.count) (drop (4 * book.count) book.words)) ≡ true)
unfolding book_in_form?
form_parts n book lent = and_both _ _ (and_both (leb book.count 96) _ lent.in_form).1

-- So each group up to the count is in form.
pub group_form : (n : ℕ) (book : Book) (k : ℕ) → LentBook n book → k < book.count → group_in_form? n (group_words book.words k) ≡ true
group_form n book k lent l =
    (all_passed (λ j. group_in_form? n (group_words book.words j)) (numbers_from 0 book.count)).0 (form_parts n book lent).0 k
    (numbers_in 0 book.count k (omega arith) (omega arith))

-- And has no hidden end bin.
group_visible : (l : Layout) (n : ℕ) (book : Book) (k : ℕ) → LentBook n book → k < book.count → Visible l n (marked (group_words book.words k))
group_visible l n book k lent m =
    let words = group_words book.words k in
    within_visible l n (marked words)
    (λ x e. leb-true x n ((all_passed (λ b. leb b n) (leaves_of words)).0 (group_form n book k lent m) x (marked_leaf words x e)))

pub numbered_visible : (l : Layout) (n : ℕ) (book : Book) (k : ℕ) → LentBook n book → 1 ≤ k → k ≤ book.count → Visible l n (group_numbered book.words k)
numbered_visible l n book k lent i m = group_visible l n book (k - 1) lent (omega arith)

pub book_visible : (l : Layout) (n : ℕ) (book : Book) → LentBook n book → All (Visible l n) (map (group_numbered book.words) (numbers_from 1 book.count))
book_visible l n book lent = go (numbers_from 1 book.count) (λ k i. let r = in_range 1 book.count k i in numbered_visible l n book k lent r.0 (omega (arith, r.1)))
  where
    go : (ks : List ℕ) → ((k : ℕ) → In k ks → Visible l n (group_numbered book.words k)) → All (Visible l n) (map (group_numbered book.words) ks)
    go [] h = tt
    go (k ∷ ks) h = (h k (inl refl), go ks (λ j i. h j (inr i)))

-- A group with a leaf above n: the book is not in form for n.
pub outside_form : (n : ℕ) (book : Book) (k x : ℕ) → 384 ≤ length book.words → 1 ≤ k → k ≤ book.count → group_numbered book.words k x ≡ true → n < x
    → book_in_form? n book ≡ false
outside_form n book k x all i m g h =
    false_if (book_in_form? n book)
    (λ e. let words = group_words book.words (k - 1) in
    let lent : LentBook n book = record { all_words = all; in_form = e } in
    let low = leb-true x n ((all_passed (λ b. leb b n) (leaves_of words)).0 (group_form n book (k - 1) lent (omega arith)) x (marked_leaf words x g)) in
    omega arith)

-- A book in form for n leaves is in form for more.
pub form_more : (n m : ℕ) (book : Book) → n ≤ m → LentBook n book → LentBook m book
unfolding book_in_form?
form_more n m book h lent = record {
  all_words = lent.all_words;
  in_form = (both Iff.rfl (both Iff.rfl Iff.rfl)).1 ((and_both (leb book.count 96) _ lent.in_form).0, (groups_more, (form_parts n book lent).1));
}
  where
    groups_more : all_of (λ k. group_in_form? m (group_words book.words k)) (numbers_from 0 book.count) ≡ true
    groups_more =
        (all_passed (λ k. group_in_form? m (group_words book.words k)) (numbers_from 0 book.count)).1
        (λ k i. let words = group_words book.words k in
        let fine = group_form n book k lent (omega (arith, (in_range 0 book.count k i).1)) in
        (all_passed (λ b. leb b m) (leaves_of words)).1
        (λ x j. le-leb x m (omega (arith, leb-true x n ((all_passed (λ b. leb b n) (leaves_of words)).0 fine x j)))))

-- The words of a group of leaves up to n are in form.
words_form : (n : ℕ) (G : Restriction) → ((x : ℕ) → G x ≡ true → x ≤ n) → group_in_form? n (words_of 4 G) ≡ true
words_form n G h =
    (all_passed (λ b. leb b n) (leaves_of (words_of 4 G))).1
    (λ x i. let r = leaf_range (words_of 4 G) x i in
    le-leb x n (h x (sym (marked_words 4 G x r.0 (omega (arith, r.1, length_words 4 G))) ∙ leaf_marked (words_of 4 G) x i)))

-- A book in form stays so with such a group in its next place.
pub booked_form : (n : ℕ) (book : Book) (G : Restriction) → LentBook n book → book.count < 96 → ((x : ℕ) → G x ≡ true → x ≤ n)
    → LentBook n (lent_book (booked book.words book.count G) (book.count + 1))
unfolding book_in_form?
booked_form n book G lent place_left within = record {
  all_words = omega (arith, same_length book.words c G room, lent.all_words);
  in_form = (both Iff.rfl (both Iff.rfl Iff.rfl)).1 (le-leb (c + 1) 96 (omega arith), (all_groups, past));
}
  where
    c : ℕ
    c = book.count

    room : 4 * c + 4 ≤ length book.words
    room = omega (arith, lent.all_words, place_left)

    new : List ℕ
    new = booked book.words c G

    Fine : ℕ → Bool
    Fine k = group_in_form? n (group_words new k)

    all_groups : all_of Fine (numbers_from 0 (c + 1)) ≡ true
    all_groups =
        (all_passed Fine (numbers_from 0 (c + 1))).1
        (λ k i. go k (in_append k (numbers_from 0 c) ((0 + c) ∷ []) (subst (λ (l : List ℕ). In k l) (numbers_append 0 c 1) i)))
      where
        go : (k : ℕ) → In k (numbers_from 0 c) ⊎ In k ((0 + c) ∷ []) → Fine k ≡ true
        go k (inr (inr x'')) = elim x'' [ ]
        go k (inl i) =
            ap (group_in_form? n) (before book.words c G room k (omega (arith, (in_range 0 c k i).1)))
            ∙ group_form n book k lent (omega (arith, (in_range 0 c k i).1))
        go k (inr (inl e)) =
            let last : k ≡ c = omega (arith, e) in
            ap Fine last ∙ ap (group_in_form? n) (at_place book.words c G room) ∙ words_form n G within

    rest : List ℕ
    rest = take (384 - 4 * (c + 1)) (drop (4 * (c + 1)) new)

    past : all_of (eqb 0) rest ≡ true
    past =
        let l : List ℕ = drop (4 * c) book.words in
        let k : 384 - 4 * c ≡ 4 + (384 - 4 * (c + 1)) = omega (arith, place_left) in
        let d : 4 * c + 4 ≡ 4 * (c + 1) = omega arith in
        let tail : drop 4 l ≡ drop (4 * (c + 1)) new =
        drop-drop 4 (4 * c) book.words ∙ sym (behind book.words c G room) ∙ ap (λ (i : ℕ). drop i new) d in
        let split : take (384 - 4 * c) l ≡ take 4 l ++ rest =
        ap (λ (i : ℕ). take i l) k ∙ take-add 4 (384 - 4 * (c + 1)) l ∙ ap (λ (m : List ℕ). take 4 l ++ take (384 - 4 * (c + 1)) m) tail in
        (all_passed (eqb 0) rest).1
        (λ x i. (all_passed (eqb 0) (take (384 - 4 * c) l)).0 (form_parts n book lent).1 x (subst (λ (m : List ℕ). In x m) (sym split) (in_right x (take 4 l) rest i)))
