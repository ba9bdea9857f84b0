-- One byte of a text: each way the scanner goes, as a test on the byte tells it.
use mathlib.Core.Path.{◌≡◌, refl, sym, ◌∙◌}
use mathlib.Core.Bool.{true, false}
use mathlib.Core.Option.{none, some}
use mathlib.Core.List.{List, [], ◌∷◌, ◌++◌}
use Prim.Native.Nat.{ℕ, suc, ◌+◌, ◌-◌, ◌≤◌, ◌<◌}
use native.Mathlib.Omega.{arith}
use native.Mathlib.Numerals.{add-one}
use borrow.Author.Tests.{eq-eqb, ne_eqb, le-leb, lt-leb}
use lib.ListN.{length, get_or, set, drop_of_length-le}
use lib.Seq.{drop-cons}
use Rattle.spec_orders.specs.TreeText.{digits}
use Rattle.text_scanner.specs.Scan.{TextState, lit, pre, open_due, due, num, after, need, closes, begun, letter?, sep?, text_step, final, run, run_at, accepted, refused}
use Rattle.text_scanner.specs.Unused.{unused}
use Rattle.text_scanner.proofs.Numbers.{seek_marks}

-- The text has ended.
pub at_end : (x : List ℕ) (p : ℕ) (s : TextState) → length x ≤ p → final s ≡ false → run_at x p s ≡ refused p
unfolding run_at run
at_end x p s h f = rw (drop_of_length-le x h, f)

-- The root is closed, and nothing may follow.
pub all_read : (x : List ℕ) (p : ℕ) (l : List ℕ) → length x ≤ p → run_at x p (after [] l) ≡ accepted
unfolding run_at run
all_read x p l h = rw (drop_of_length-le x h)

pub word_read : (x : List ℕ) (p : ℕ) → length x ≤ p → run_at x p (lit []) ≡ accepted
unfolding run_at run
word_read x p h = rw (drop_of_length-le x h)

module _ (x : List ℕ) (p : ℕ) (h : p < length x) where
  stepped : (s : TextState) → run_at x p s ≡ elim (text_step s (get_or x p 0)) [ none ↦ refused p | some t ↦ run_at x (suc p) t ]
  unfolding run_at run
  stepped s = rw (drop-cons x p 0 h)

  stuck : (s : TextState) → text_step s (get_or x p 0) ≡ none → run_at x p s ≡ refused p
  stuck s e = stepped s ∙ rw e

  moved : (s t : TextState) → text_step s (get_or x p 0) ≡ some t → run_at x p s ≡ run_at x (p + 1) t
  moved s t e = stepped s ∙ rw (e, add-one)

  -- A word.
  pub word_byte : (w : ℕ) (ws : List ℕ) → get_or x p 0 ≡ w → run_at x p (lit (w ∷ ws)) ≡ run_at x (p + 1) (lit ws)
  unfolding text_step
  word_byte w ws e = moved (lit (w ∷ ws)) (lit ws) (rw (eq-eqb _ _ e))

  pub word_bad : (w : ℕ) (ws : List ℕ) → (get_or x p 0 ≡ w → ⊥) → run_at x p (lit (w ∷ ws)) ≡ refused p
  unfolding text_step
  word_bad w ws e = stuck (lit (w ∷ ws)) (rw (ne_eqb _ _ e))

  pub word_over : run_at x p (lit []) ≡ refused p
  unfolding text_step
  word_over = stuck (lit []) refl

  -- Before the root.
  pub pre_byte : (w : ℕ) (ws l : List ℕ) → get_or x p 0 ≡ w → run_at x p (pre (w ∷ ws) l) ≡ run_at x (p + 1) (pre ws l)
  unfolding text_step
  pre_byte w ws l e = moved (pre (w ∷ ws) l) (pre ws l) (rw (eq-eqb _ _ e))

  pub pre_bad : (w : ℕ) (ws l : List ℕ) → (get_or x p 0 ≡ w → ⊥) → run_at x p (pre (w ∷ ws) l) ≡ refused p
  unfolding text_step
  pre_bad w ws l e = stuck (pre (w ∷ ws) l) (rw (ne_eqb _ _ e))

  pub pre_letter : (l : List ℕ) → letter? (get_or x p 0) ≡ true → run_at x p (pre [] l) ≡ run_at x (p + 1) (open_due [] l)
  unfolding text_step
  pre_letter l e = moved (pre [] l) (open_due [] l) (rw e)

  pub pre_none : (l : List ℕ) → letter? (get_or x p 0) ≡ false → run_at x p (pre [] l) ≡ refused p
  unfolding text_step
  pre_none l e = stuck (pre [] l) (rw e)

  -- The bracket.
  pub open_byte : (cs l : List ℕ) → get_or x p 0 ≡ 40 → run_at x p (open_due cs l) ≡ run_at x (p + 1) (due 2 cs l)
  unfolding text_step
  open_byte cs l e = moved (open_due cs l) (due 2 cs l) (rw (eq-eqb _ _ e))

  pub open_bad : (cs l : List ℕ) → (get_or x p 0 ≡ 40 → ⊥) → run_at x p (open_due cs l) ≡ refused p
  unfolding text_step
  open_bad cs l e = stuck (open_due cs l) (rw (ne_eqb _ _ e))

  -- An item: a node, a number.
  pub due_node : (c : ℕ) (cs l : List ℕ) → letter? (get_or x p 0) ≡ true → 2 + ((c - 1) + need cs) ≤ length l
      → run_at x p (due c cs l) ≡ run_at x (p + 1) (open_due ((c - 1) ∷ cs) l)
  unfolding text_step
  due_node c cs l e n = moved (due c cs l) (open_due ((c - 1) ∷ cs) l) (rw (e, le-leb _ _ n))

  pub due_few : (c : ℕ) (cs l : List ℕ) → letter? (get_or x p 0) ≡ true → length l < 2 + ((c - 1) + need cs) → run_at x p (due c cs l) ≡ refused p
  unfolding text_step
  due_few c cs l e n = stuck (due c cs l) (rw (e, lt-leb _ _ n))

  pub due_number : (c : ℕ) (cs l : List ℕ) → letter? (get_or x p 0) ≡ false → begun (get_or x p 0 ∷ []) l ≡ true
      → run_at x p (due c cs l) ≡ run_at x (p + 1) (num (get_or x p 0 ∷ []) (c - 1) cs l)
  unfolding text_step
  due_number c cs l e b = moved (due c cs l) (num (get_or x p 0 ∷ []) (c - 1) cs l) (rw (e, b))

  pub due_none : (c : ℕ) (cs l : List ℕ) → letter? (get_or x p 0) ≡ false → begun (get_or x p 0 ∷ []) l ≡ false → run_at x p (due c cs l) ≡ refused p
  unfolding text_step
  due_none c cs l e b = stuck (due c cs l) (rw (e, b))

  -- In a number.
  pub num_digit : (ds : List ℕ) (c : ℕ) (cs l : List ℕ) → sep? (get_or x p 0) ≡ false → begun (ds ++ (get_or x p 0 ∷ [])) l ≡ true
      → run_at x p (num ds c cs l) ≡ run_at x (p + 1) (num (ds ++ (get_or x p 0 ∷ [])) c cs l)
  unfolding text_step
  num_digit ds c cs l e b = moved (num ds c cs l) (num (ds ++ (get_or x p 0 ∷ [])) c cs l) (rw (e, b))

  pub num_none : (ds : List ℕ) (c : ℕ) (cs l : List ℕ) → sep? (get_or x p 0) ≡ false → begun (ds ++ (get_or x p 0 ∷ [])) l ≡ false
      → run_at x p (num ds c cs l) ≡ refused p
  unfolding text_step
  num_none ds c cs l e b = stuck (num ds c cs l) (rw (e, b))

  -- Its end: a leaf that is unused, or not.
  pub num_leaf : (v c : ℕ) (cs used : List ℕ) → sep? (get_or x p 0) ≡ true → v < length used → get_or used v 0 ≡ 0
      → run_at x p (num (digits v) c cs (unused 0 used)) ≡ run_at x p (after (c ∷ cs) (unused 0 (set used v 1)))
  unfolding text_step
  num_leaf v c cs used e n u =
      stepped (num (digits v) c cs (unused 0 used)) ∙ rw (e, seek_marks used 0 v v (omega arith) n, eq-eqb _ _ u) (sym (stepped (after (c ∷ cs) (unused 0 (set used v 1)))))

  pub num_used : (v c : ℕ) (cs used : List ℕ) → sep? (get_or x p 0) ≡ true → v < length used → (get_or used v 0 ≡ 0 → ⊥)
      → run_at x p (num (digits v) c cs (unused 0 used)) ≡ refused p
  unfolding text_step
  num_used v c cs used e n u = stuck (num (digits v) c cs (unused 0 used)) (rw (e, seek_marks used 0 v v (omega arith) n, ne_eqb _ _ u))

  -- After an item: a space, or the bracket.
  pub after_space : (c : ℕ) (cs l : List ℕ) → get_or x p 0 ≡ 32 → 1 + ((c - 1) + need cs) ≤ length l → run_at x p (after (c ∷ cs) l) ≡ run_at x (p + 1) (due c cs l)
  unfolding text_step
  after_space c cs l e n = moved (after (c ∷ cs) l) (due c cs l) (rw (eq-eqb _ _ e, le-leb (suc (need ((c - 1) ∷ cs))) (length l) (omega arith)))

  pub after_few : (c : ℕ) (cs l : List ℕ) → get_or x p 0 ≡ 32 → length l < 1 + ((c - 1) + need cs) → run_at x p (after (c ∷ cs) l) ≡ refused p
  unfolding text_step
  after_few c cs l e n = stuck (after (c ∷ cs) l) (rw (eq-eqb _ _ e, lt-leb (suc (need ((c - 1) ∷ cs))) (length l) (omega arith)))

  pub after_other : (c : ℕ) (cs l : List ℕ) → (get_or x p 0 ≡ 32 → ⊥) → (get_or x p 0 ≡ 41 → ⊥) → run_at x p (after (c ∷ cs) l) ≡ refused p
  unfolding text_step
  after_other c cs l e d = stuck (after (c ∷ cs) l) (rw (ne_eqb _ _ e, ne_eqb _ _ d))

  pub after_short : (c : ℕ) (cs l : List ℕ) → get_or x p 0 ≡ 41 → (c ≡ 0 → ⊥) → run_at x p (after (c ∷ cs) l) ≡ refused p
  unfolding text_step
  after_short c cs l e n = stuck (after (c ∷ cs) l) (rw (e, ne_eqb c 0 n))

  pub close_inner : (d : ℕ) (cs l : List ℕ) → get_or x p 0 ≡ 41 → run_at x p (after (0 ∷ (d ∷ cs)) l) ≡ run_at x (p + 1) (after (d ∷ cs) l)
  unfolding text_step
  close_inner d cs l e = moved (after (0 ∷ (d ∷ cs)) l) (after (d ∷ cs) l) (rw e)

  pub close_root : (l : List ℕ) → get_or x p 0 ≡ 41 → length l ≡ 0 → run_at x p (after (0 ∷ []) l) ≡ run_at x (p + 1) (after [] l)
  unfolding text_step
  close_root l e n = moved (after (0 ∷ []) l) (after [] l) (rw (e, closes_none l n))
    where
      closes_none : (l : List ℕ) → length l ≡ 0 → closes [] l ≡ true
      closes_none [] n = refl
      closes_none (m ∷ l) n = absurd (omega arith)

  pub close_left : (l : List ℕ) → get_or x p 0 ≡ 41 → (length l ≡ 0 → ⊥) → run_at x p (after (0 ∷ []) l) ≡ refused p
  unfolding text_step
  close_left l e n = stuck (after (0 ∷ []) l) (rw (e, closes_some l n))
    where
      closes_some : (l : List ℕ) → (length l ≡ 0 → ⊥) → closes [] l ≡ false
      closes_some [] n = absurd (n refl)
      closes_some (m ∷ l) n = refl

  pub after_root : (l : List ℕ) → run_at x p (after [] l) ≡ refused p
  unfolding text_step
  after_root l = stuck (after [] l) refl
