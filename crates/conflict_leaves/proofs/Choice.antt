-- The leaves to go by, as marks: words united, every leaf of the book's groups, and the first leaf that is in none.
use mathlib.Core.Path.{◌≡◌, refl, sym, ap, ap₂, subst, ◌∙◌}
use mathlib.Core.Bool.{Bool, false, true, ◌||◌, true≢false, or-true}
use mathlib.Core.List.{List}
use Prim.Native.Nat.{ℕ, ◌+◌, ◌-◌, ◌*◌, ◌^◌, ◌≤◌, ◌<◌}
use native.Mathlib.Decide.{ℕ_discrete, dec_lt, dec_le}
use native.Mathlib.Omega.{arith}
use borrow.Author.Tests.{eq-eqb}
use lib.Bits.{bit_or, or_lt}
use lib.Dec.{eqb}
use lib.ListN.{length, get_or, take, drop}
use Rattle.spec_orders.specs.CircularOrder.{Restriction}
use Rattle.mark_words.specs.Marks.{marked, word_of, words_of, with_leaf, either}
use Rattle.mark_words.proofs.Word.{word_is, bit_of_or}
use Rattle.mark_words.proofs.Words.{marked_at, marked_words}
use Rattle.mark_words.proofs.Leaves.{marked_range}
use Rattle.spec_calls.specs.Calls.{group_numbered}
use Rattle.table_book.proofs.Laws.{group_part}
use Rattle.conflict_leaves.specs.StandIn.{Below, FirstUnmarked, Unused, Chosen}
use Rattle.spec_orders.proofs.Tests.{false_if}

-- One word of two united.
pub either_word : (vs ws : List ℕ) (i : ℕ) → get_or vs i 0 < 2 ^ 64 → get_or ws i 0 < 2 ^ 64
    → bit_or (get_or vs i 0) (get_or ws i 0) ≡ word_of (either (marked vs) (marked ws)) (64 * i) 64
either_word vs ws i v w =
    word_is (either (marked vs) (marked ws)) (64 * i) (bit_or (get_or vs i 0) (get_or ws i 0)) 64 (or_lt 64 (get_or vs i 0) (get_or ws i 0) v w)
    (λ j h. bit_of_or (get_or vs i 0) (get_or ws i 0) j ∙ ap₂ (λ (a b : Bool). a || b) (sym (marked_at vs i j h)) (sym (marked_at ws i j h)))

-- The leaves of either words are in what unites them.
module _ (vs ws us : List ℕ) (h : length vs ≡ length ws) (u : us ≡ words_of (length vs) (either (marked vs) (marked ws))) where
  is : (b : ℕ) → (1 ≤ b) × (b ≤ 64 * length vs) → marked us b ≡ (marked vs b || marked ws b)
  is b r = ap (λ l. marked l b) u ∙ marked_words (length vs) (either (marked vs) (marked ws)) b r.0 r.1

  pub first_below : Below (marked vs) (marked us)
  first_below b e = is b (marked_range vs b e) ∙ rw e

  pub second_below : Below (marked ws) (marked us)
  second_below b e = let r = marked_range ws b e in is b (r.0, omega (arith, r.1, h)) ∙ rw (e, or-true (marked vs b))

-- The book's groups up to the number k, and one more.
pub part_numbered : (book : List ℕ) (k : ℕ) → marked (take (4 * k + 4 - 4 * k) (drop (4 * k) book)) ≡ group_numbered book (k + 1)
part_numbered book k = let e : k ≡ k + 1 - 1 = omega arith in ap marked (group_part book k) ∙ ap (λ (i : ℕ). marked (take 4 (drop (4 * i) book))) e

pub one_more_below : {f : ℕ → Restriction} {k : ℕ} {G H : Restriction} → ((j : ℕ) → 1 ≤ j → j ≤ k → Below (f j) G) → Below G H → Below (f (k + 1)) H
    → (j : ℕ) → 1 ≤ j → j ≤ k + 1 → Below (f j) H
one_more_below {f} {k} {G} {H} a g n j h l = go (dec_le j k)
  where
    go : Dec (j ≤ k) → Below (f j) H
    go (yes m) = λ b e. g b (a j h m b e)
    go (no m) = let e : k + 1 ≡ j = omega arith in subst (λ i. Below (f i) H) e n

-- One leaf more is marked.
pub marked_more : (G : Restriction) (b : ℕ) → ((x : ℕ) → 1 ≤ x → x < b → G x ≡ true) → G b ≡ true → (x : ℕ) → 1 ≤ x → x < b + 1 → G x ≡ true
marked_more G b h e x l m = go (dec_lt x b)
  where
    go : Dec (x < b) → G x ≡ true
    go (yes k) = h x l k
    go (no k) = let q : x ≡ b = omega arith in ap G q ∙ e

-- All marked leaves, and the first one that is not.
module _ {n : ℕ} {new : Restriction} {f : ℕ → Restriction} (ws us : List ℕ) {first : ℕ} (some_word : 1 ≤ length ws) (few : n ≤ 64 * length ws)
    (a : Below new (marked ws)) (g : (j : ℕ) → 1 ≤ j → j ≤ 96 → Below (f j) (marked ws)) (m : FirstUnmarked (marked ws) n first)
    (u : us ≡ words_of (length ws) (with_leaf first (marked ws))) where
  none_there : (b : ℕ) → marked ws b ≡ false → Unused new f b
  none_there b e = record {
    not_new = false_if (new b) (λ h. true≢false (sym (a b h) ∙ e));
    not_booked = λ j h l. false_if (f j b) (λ i. true≢false (sym (g j h l b i) ∙ e));
  }

  kept_is : (b : ℕ) → 1 ≤ b → b ≤ 64 * length ws → marked us b ≡ (eqb b first || marked ws b)
  kept_is b h l = ap (λ k. marked k b) u ∙ marked_words (length ws) (with_leaf first (marked ws)) b h l

  -- A leaf that is left out is behind the first unmarked one, and not marked.
  behind_first : (b : ℕ) → 1 ≤ b → b ≤ n → marked us b ≡ false → (first < b) × (marked ws b ≡ false)
  behind_first b h l e = go (eqb b first) refl (marked ws b) refl (sym (kept_is b h (omega arith)) ∙ e)
    where
      go : (c : Bool) → eqb b first ≡ c → (d : Bool) → marked ws b ≡ d → (c || d) ≡ false → (first < b) × (marked ws b ≡ false)
      go true p d q e = absurd (true≢false e)
      go false p true q e = absurd (true≢false e)
      go false p false q e = (past (dec_lt b first) (ℕ_discrete b first), q)
        where
          past : Dec (b < first) → Dec (b ≡ first) → first < b
          past (yes x) y = absurd (true≢false (sym (m.before b h x) ∙ q))
          past (no x) (yes y) = absurd (true≢false (sym (eq-eqb b first y) ∙ p))
          past (no x) (no y) = omega arith

  one_kept : marked us 1 ≡ true
  one_kept = kept_is 1 (omega arith) (omega arith) ∙ go (ℕ_discrete 1 first)
    where
      go : Dec (1 ≡ first) → (eqb 1 first || marked ws 1) ≡ true
      go (yes e) = rw (eq-eqb 1 first e)
      go (no x) = rw (m.before 1 (omega arith) (omega (arith, m.from)), or-true (eqb 1 first))

  pub chosen : Chosen n new f (marked us)
  chosen = record {
    spare = first;
    one = one_kept;
    left_out = λ b h l e. none_there b (behind_first b h l e).1;
    for_them = λ b h l e.
        let r = (behind_first b h l e).0 in
        let q : first ≤ n = omega (arith, r, l) in
        (m.from, q, kept_is first m.from (omega (arith, q, few)) ∙ rw (eq-eqb first first refl), none_there first (m.outside q));
  }
