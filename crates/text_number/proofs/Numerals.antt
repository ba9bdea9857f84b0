-- Reading a number, byte by byte.
use mathlib.Core.Path.{◌≡◌, refl, sym, ◌∙◌, ap}
use mathlib.Core.Bool.{true, false}
use mathlib.Core.Logic.{◌⊎◌, inl, inr}
use mathlib.Core.List.{List, [], ◌∷◌, ◌++◌, append_assoc, append-nil}
use Prim.Native.Nat.{ℕ, ◌+◌, ◌*◌, ◌-◌, ◌≤◌, ◌<◌}
use native.Mathlib.Omega.{arith}
use native.Mathlib.Numerals.{add-one}
use borrow.Author.Tests.{eq-eqb, ne_eqb}
use lib.Dec.{eqb}
use lib.ListN.{length, drop, get_or}
use lib.Seq.{drop-cons}
use Rattle.spec_orders.specs.TreeText.{digits}
use Rattle.spec_orders.proofs.Tests.{or_right}
use Rattle.text_scanner.specs.Scan.{num, sep?, run_at, refused}
use Rattle.text_scanner.specs.Unused.{unused, any_start}
use Rattle.text_scanner.proofs.Numbers.{digit_more, next_digit, not_digit}
use Rattle.text_scanner.proofs.Moves.{at_end, num_digit, num_none, num_leaf, num_used}
use Rattle.text_number.specs.declared.Numeral.{Numeral}
use Rattle.text_number.specs.Numbers.{NumberRead}
use Rattle.std.specs.Prelude.{Result, Ok, Err}

pub drop-step : (x : List ℕ) (at : ℕ) → at < length x → drop at x ≡ get_or x at 0 ∷ drop (at + 1) x
drop-step x at h = rw add-one (drop-cons x at 0 h)

separates : (b : ℕ) → (b ≡ 32) ⊎ (b ≡ 41) → sep? b ≡ true
separates b (inl e) = rw (eq-eqb b 32 e)
separates b (inr e) = or_right (eqb b 32) (eqb b 41) (eq-eqb b 41 e)

no_separator : (b : ℕ) → ((b ≡ 32) ⊎ (b ≡ 41) → ⊥) → sep? b ≡ false
no_separator b s = rw (ne_eqb b 32 (λ e. s (inl e)), ne_eqb b 41 (λ e. s (inr e)))

module _ (x : List ℕ) (at v : ℕ) (used : List ℕ) where
  abbrev Here : Result Numeral ℕ → Type 0
  Here r = NumberRead x at v used r

  pub number_ends : (p : ℕ) → p ≡ at → length x ≤ at → Here (Err p)
  number_ends p e h c cs = at_end x at (num (digits v) c cs (unused 0 used)) h refl ∙ ap refused (sym e)

  module _ (h : at < length x) where
    pub number_used : (get_or x at 0 ≡ 32) ⊎ (get_or x at 0 ≡ 41) → v < length used → (get_or used v 0 ≡ 0 → ⊥) → Here (Err at)
    number_used s n u c cs = num_used x at h v c cs used (separates (get_or x at 0) s) n u

    pub number_free : (get_or x at 0 ≡ 32) ⊎ (get_or x at 0 ≡ 41) → v < length used → get_or used v 0 ≡ 0 → Here (Ok (record { leaf = v; at = at }))
    number_free s n u = record {
      tail = [];
      name = sym (append-nil (digits v));
      bytes = refl;
      onward = omega arith;
      within = omega arith;
      marked = n;
      free = u;
      moves = λ c cs. num_leaf x at h v c cs used (separates (get_or x at 0) s) n u;
    }

    pub number_other : ((get_or x at 0 ≡ 32) ⊎ (get_or x at 0 ≡ 41) → ⊥) → (48 ≤ get_or x at 0 → get_or x at 0 ≤ 57 → ⊥) → Here (Err at)
    number_other s n c cs = num_none x at h (digits v) c cs (unused 0 used) (no_separator (get_or x at 0) s) (not_digit used v (get_or x at 0) n)

    module _ (low : 48 ≤ get_or x at 0) (high : get_or x at 0 ≤ 57) (p : 1 ≤ v) (w : length used ≤ 257) where
      apart : sep? (get_or x at 0) ≡ false
      apart = no_separator (get_or x at 0) neither
        where
          neither : (get_or x at 0 ≡ 32) ⊎ (get_or x at 0 ≡ 41) → ⊥
          neither (inl e) = omega arith
          neither (inr e) = omega arith

      pub number_none : any_start (10 * v + (get_or x at 0 - 48)) 0 used ≡ false → Here (Err at)
      number_none n c cs = num_none x at h (digits v) c cs (unused 0 used) apart (next_digit used v (get_or x at 0) p low high (omega arith) ∙ n)

      pub number_on : any_start (10 * v + (get_or x at 0 - 48)) 0 used ≡ true → (r : Result Numeral ℕ)
          → NumberRead x (at + 1) (10 * v + (get_or x at 0 - 48)) used r → Here r
      number_on y r n = go r n
        where
          more : digits (10 * v + (get_or x at 0 - 48)) ≡ digits v ++ (get_or x at 0 ∷ [])
          more = digit_more v (get_or x at 0) p low high

          digit : (c : ℕ) (cs : List ℕ) → run_at x at (num (digits v) c cs (unused 0 used)) ≡ run_at x (at + 1) (num (digits (10 * v + (get_or x at 0 - 48))) c cs (unused 0 used))
          digit c cs =
              num_digit x at h (digits v) c cs (unused 0 used) apart (next_digit used v (get_or x at 0) p low high (omega arith) ∙ y)
              ∙ ap (λ ds. run_at x (at + 1) (num ds c cs (unused 0 used))) (sym more)

          go : (r : Result Numeral ℕ) → NumberRead x (at + 1) (10 * v + (get_or x at 0 - 48)) used r → Here r
          go (Ok r) g = record {
            tail = get_or x at 0 ∷ g.tail;
            name = g.name ∙ ap (λ l. l ++ g.tail) more ∙ append_assoc (digits v) (get_or x at 0 ∷ []) g.tail;
            bytes = drop-step x at h ∙ ap (λ l. get_or x at 0 ∷ l) g.bytes;
            onward = omega (arith, g.onward);
            within = g.within;
            marked = g.marked;
            free = g.free;
            moves = λ c cs. digit c cs ∙ g.moves c cs;
          }
          go (Err q) n = λ c cs. digit c cs ∙ n c cs
