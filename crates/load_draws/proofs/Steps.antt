-- A draw, one exchange of the shuffle, and the places numbered.
use mathlib.Core.Path.{◌≡◌, refl, ap, ◌∙◌}
use mathlib.Core.List.{List, ◌++◌}
use Prim.Native.Nat.{ℕ, zero, suc, ◌+◌, ◌-◌, ◌*◌, ◌/◌, ◌%◌, ◌^◌, ◌≤◌, ◌<◌}
use native.Mathlib.Omega.{arith}
use lib.Bits.{bit_xor}
use lib.ListN.{length, drop, get_or, set}
use Rattle.spec_orders.specs.Lists.{numbers_from}
use Rattle.spec_orders.proofs.Numbers.{numbers_length, numbers_append}
use Rattle.tree_tokens.proofs.Writes.{write_step}
use Rattle.spec_load.specs.TestLoad.{next_state, state_after, drawn, exchanged, shuffled, circle}

-- The next state, as the code writes it.
pub state_is : (x : ℕ) → next_state x ≡ bit_xor (bit_xor (bit_xor x (x * 2 ^ 13 % 2 ^ 32)) (bit_xor x (x * 2 ^ 13 % 2 ^ 32) / 2 ^ 17))
    (bit_xor (bit_xor x (x * 2 ^ 13 % 2 ^ 32)) (bit_xor x (x * 2 ^ 13 % 2 ^ 32) / 2 ^ 17) * 2 ^ 5 % 2 ^ 32)
unfolding next_state
state_is x = refl

pub drawn_is : (x k : ℕ) → drawn x k ≡ next_state x % k + 1
unfolding drawn
drawn_is x k = refl

-- From the state x on: place i exchanged, and then those before it.
module _ (i : ℕ) (h : 1 < i) (x : ℕ) {y : ℕ} (e : y ≡ next_state x) where
  pub shuffled-step : (l : List ℕ) {r : ℕ} → r ≡ drawn x i → shuffled i x l ≡ shuffled (i - 1) y (set (set l (i - 1) (get_or l (r - 1) 0)) (r - 1) (get_or l (i - 1) 0))
  unfolding shuffled exchanged
  shuffled-step l q = rw (e, q) (go i h)
    where
      go : (i : ℕ) → 1 < i → shuffled i x l ≡ shuffled (i - 1) (next_state x) (exchanged i (drawn x i) l)
      go zero h = absurd (omega arith)
      go (suc zero) h = absurd (omega arith)
      go (suc (suc k)) h = let s : suc (suc k) - 1 ≡ suc k = omega arith in rw s

  pub state_step : state_after (i - 1) x ≡ state_after (i - 1 - 1) y
  unfolding state_after
  state_step = rw e (go (i - 1) (omega arith))
    where
      go : (j : ℕ) → 1 ≤ j → state_after j x ≡ state_after (j - 1) (next_state x)
      go zero h = absurd (omega arith)
      go (suc k) h = let s : suc k - 1 ≡ k = omega arith in rw s

-- No place is left to exchange.
pub shuffled_end : (i x : ℕ) (l : List ℕ) → i ≤ 1 → (shuffled i x l ≡ l) × (state_after (i - 1) x ≡ x)
unfolding shuffled state_after
shuffled_end zero x l h = (refl, refl)
shuffled_end (suc zero) x l h = (refl, refl)
shuffled_end (suc (suc i)) x l h = absurd (omega arith)

-- One number more.
pub numbers_step : (d : List ℕ) (i : ℕ) → i < length d → set (numbers_from 1 i ++ drop i d) i (i + 1) ≡ numbers_from 1 (i + 1) ++ drop (i + 1) d
numbers_step d i h =
    let v : 1 + i ≡ i + 1 = omega arith in
    write_step (numbers_from 1 i) d i (i + 1) (numbers_length 1 i) h ∙ rw (numbers_append 1 i 1, v)

-- The numbered places, shuffled.
pub circle_is : (n x : ℕ) {mid new : List ℕ} {y : ℕ} → mid ≡ numbers_from 1 n → y ≡ state_after (length mid - 1) x → new ≡ shuffled (length mid) x mid
    → (y ≡ state_after (n - 1) x) × (new ≡ circle n x)
unfolding circle
circle_is n x {mid} m s p =
    let long : length mid ≡ n = ap length m ∙ numbers_length 1 n in
    (s ∙ rw long, p ∙ rw (long, m))
