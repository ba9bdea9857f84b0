-- The size of a book's group: the count of its marks is the count of its leaves in the standard order.
use mathlib.Core.Path.{◌≡◌, refl, ap, ◌∙◌}
use mathlib.Core.Bool.{true, false}
use mathlib.Core.List.{List, [], ◌∷◌}
use Prim.Native.Nat.{ℕ, suc, ◌+◌, ◌-◌, ◌*◌, ◌≤◌, ◌<◌}
use native.Mathlib.Omega.{arith}
use borrow.Author.Tests.{leb-true}
use lib.Dec.{leb}
use lib.ListN.{length, drop, get_or, length-take, length-drop}
use Rattle.spec_orders.specs.Lists.{count, numbers_from, all_of, Rearranged}
use Rattle.spec_orders.specs.Tree.{Forest}
use Rattle.spec_orders.specs.SeenFrom.{standard_on}
use Rattle.spec_orders.proofs.Members.{all_passed, in_all, in_length}
use Rattle.spec_orders.proofs.Numbers.{in_range, count_append, count_outside, perm_count, numbers_append}
use Rattle.spec_orders.proofs.Straight.{standard-leaves, standard-length}
use Rattle.spec_orders.proofs.Tests.{false_if}
use Rattle.mark_words.specs.Marks.{marked, leaves_of, no_mark?}
use Rattle.mark_words.proofs.Leaves.{marked_leaf, some_mark}
use Rattle.spec_calls.specs.Tables.{Nodes, Book}
use Rattle.spec_calls.specs.Book.{group_words}
use Rattle.spec_calls.proofs.Books.{group_form}
use Rattle.spec_calls.proofs.Demands.{few_bins}
use Rattle.spec_calls.specs.Demands.{LentTree, LentBook}
use Rattle.table_book.proofs.Laws.{few_groups}
use Rattle.call_order.specs.Starts.{GroupWithin}

past_n : (ws : List ℕ) (n : ℕ) → all_of (λ b. leb b n) (leaves_of ws) ≡ true → (x : ℕ) → suc n ≤ x → marked ws x ≡ false
past_n ws n e x l =
    false_if (marked ws x) (λ m. absurd (omega (arith, leb-true x n ((all_passed (λ b. leb b n) (leaves_of ws)).0 e x (marked_leaf ws x m)))))

size_in : (n : ℕ) (ord ws : List ℕ) → Rearranged (numbers_from 1 n) ord → n ≤ 64 * length ws → all_of (λ b. leb b n) (leaves_of ws) ≡ true
    → count (marked ws) ord ≡ length (leaves_of ws)
unfolding leaves_of
size_in n ord ws p l e =
    let G = marked ws in
    let k = 64 * length ws - n in
    let s : 64 * length ws ≡ n + k = omega arith in
    let r : count G (numbers_from 1 (64 * length ws)) ≡ count G (numbers_from 1 n) + count G (numbers_from (1 + n) k) =
    ap (λ j. count G (numbers_from 1 j)) s ∙ ap (count G) (numbers_append 1 n k) ∙ count_append G (numbers_from 1 n) (numbers_from (1 + n) k) in
    omega (arith, perm_count G p, r, count_outside G (numbers_from (1 + n) k) (in_all (λ x. G x ≡ false) (numbers_from (1 + n) k) (λ x i. past_n ws n e x (omega (arith, (in_range (1 + n) k x i).0)))))

-- The book's group at place k, with a mark, and the standard order.
pub group_within : (nodes : Nodes) (t : Forest) (book : Book) (k : ℕ) → LentTree nodes t → LentBook nodes.bins book → k < book.count
    → no_mark? (group_words book.words k) ≡ false → GroupWithin (group_words book.words k) (standard_on nodes.layout nodes.bins t)
group_within nodes t book k h b m e =
    let n = nodes.bins in
    let words = group_words book.words k in
    let c = few_groups n book b.in_form in
    let four : length words ≡ 4 = omega (arith, length-take 4 (drop (4 * k) book.words), length-drop (4 * k) book.words, b.all_words) in
    let few = few_bins nodes.layout n h.whole.few_leaves in
    let long = standard-length nodes.layout n t h.whole.some_bin h.tree.in_form in
    record {
      four = four;
      some_leaf = let x = some_mark words e in in_length x.0 (leaves_of words) x.1;
      all_leaves = size_in n (standard_on nodes.layout n t) words (standard-leaves nodes.layout n t h.whole.some_bin h.tree.in_form) (omega (arith, four, few)) (group_form n book k b m);
      some_place = omega (arith, long, h.whole.some_bin);
      few_places = omega (arith, long, few);
    }

-- Four words, one by one.
pub four_listed : (ws : List ℕ) → length ws ≡ 4 → get_or ws 0 0 ∷ get_or ws 1 0 ∷ get_or ws 2 0 ∷ get_or ws 3 0 ∷ [] ≡ ws
four_listed [] e = absurd (omega arith)
four_listed (a ∷ []) e = absurd (omega arith)
four_listed (a ∷ (b ∷ [])) e = absurd (omega arith)
four_listed (a ∷ (b ∷ (c ∷ []))) e = absurd (omega arith)
four_listed (a ∷ (b ∷ (c ∷ (d ∷ [])))) e = refl
four_listed (a ∷ (b ∷ (c ∷ (d ∷ (f ∷ ws))))) e = absurd (omega arith)
