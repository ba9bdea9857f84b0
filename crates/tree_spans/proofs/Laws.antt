-- Going along the items of a sequence that pass a test, up to the first that does not.
use mathlib.Core.Path.{◌≡◌, refl, sym, ap, ◌∙◌}
use mathlib.Core.Bool.{Bool, true, false}
use mathlib.Core.List.{List, ◌∷◌}
use Prim.Native.Nat.{ℕ, zero, suc, ◌+◌, ◌-◌, ◌%◌, ◌≤◌, ◌<◌}
use native.Mathlib.Omega.{arith}
use lib.ListN.{length, take, drop, get_or, length-drop}
use lib.Seq.{drop-cons, drop-drop, drop-append_seam, take-add, take-append_seam}
use Rattle.tree_tokens.specs.Tokens.{number, Judged, j_nil, j_leaf, j_node, j_append, encode, Tokens}
use Rattle.tree_tokens.specs.Views.{state_of, first_of, rest_of}
use Rattle.tree_tokens.proofs.Laws.{at_end, encode_split, leaf_even, leaf_state, node_odd}
use Rattle.tree_tokens.proofs.Sequences.{encode-append, encode_injective}
use Rattle.tree_spans.specs.Spans.{passing, beyond, Parted}
use Rattle.spec_orders.proofs.Tests.{cond_cases}
use Rattle.spec_orders.proofs.ListLaws.{part_to_end}

-- One sequence after another.
append_assoc : (a b c : Judged) → j_append (j_append a b) c ≡ j_append a (j_append b c)
append_assoc j_nil b c = refl
append_assoc (j_leaf s x a) b c = ap (j_leaf s x) (append_assoc a b c)
append_assoc (j_node s k i a) b c = ap (j_node s k i) (append_assoc a b c)

append_none : (a : Judged) → j_append a j_nil ≡ a
append_none j_nil = refl
append_none (j_leaf s x a) = ap (j_leaf s x) (append_none a)
append_none (j_node s k i a) = ap (j_node s k i) (append_none a)

module _ (p : ℕ → Bool) where
  -- The first item passes; it does not; there is none.
  pub passing-first : (k : Judged) → 0 < length (encode k) → p (number (state_of k)) ≡ true → passing p k ≡ j_append (first_of k) (passing p (rest_of k))
  unfolding encode passing state_of first_of rest_of
  passing-first j_nil h e = absurd (omega arith)
  passing-first (j_leaf s b k) h e = rw e
  passing-first (j_node s d i k) h e = rw e

  pub beyond-first : (k : Judged) → p (number (state_of k)) ≡ true → beyond p k ≡ beyond p (rest_of k)
  unfolding beyond state_of rest_of
  beyond-first j_nil e = refl
  beyond-first (j_leaf s b k) e = rw e
  beyond-first (j_node s d i k) e = rw e

  pub passing_none : (k : Judged) → p (number (state_of k)) ≡ false → passing p k ≡ j_nil
  unfolding passing state_of
  passing_none j_nil e = refl
  passing_none (j_leaf s b k) e = rw e
  passing_none (j_node s d i k) e = rw e

  pub beyond_all : (k : Judged) → p (number (state_of k)) ≡ false → beyond p k ≡ k
  unfolding beyond state_of
  beyond_all j_nil e = refl
  beyond_all (j_leaf s b k) e = rw e
  beyond_all (j_node s d i k) e = rw e

  nil_passing : passing p j_nil ≡ j_nil
  unfolding passing
  nil_passing = refl

  nil_beyond : beyond p j_nil ≡ j_nil
  unfolding beyond
  nil_beyond = refl

  -- The items before index i pass, and those from there on are left.
  pub record Along (x : List ℕ) (i : ℕ) : Type 0 where
    pub front : Judged
    pub left : Judged
    pub its : take i x ≡ encode front
    pub from : drop i x ≡ encode left
    pub same : (j : Judged) → x ≡ encode j → (passing p j ≡ j_append front (passing p left)) × (beyond p j ≡ beyond p left)

  pub along_none : {x : List ℕ} → Tokens x → Along x 0
  unfolding encode
  along_none t = record {
    front = j_nil;
    left = t.0;
    its = refl;
    from = t.1;
    same = λ j e. let h = encode_injective j t.0 (sym e ∙ t.1) in (ap (passing p) h, ap (beyond p) h);
  }

  module _ {x : List ℕ} {i : ℕ} (a : Along x i) where
    pub along_part : take (length x - i) (drop i x) ≡ encode a.left
    along_part = part_to_end x i ∙ a.from

    pub along_some : i < length x → 0 < length (encode a.left)
    along_some h = omega (arith, ap length a.from, length-drop i x)

    -- One item more passes.
    pub along_next : {m : ℕ} → i < length x → p (number (state_of a.left)) ≡ true → m ≡ length (encode (first_of a.left)) → Along x (i + m)
    along_next {m} h t em =
        let k = a.left in record {
          front = j_append a.front (first_of k);
          left = rest_of k;
          its = take-add i m x ∙ rw (a.its, a.from, em, encode_split k, take-append_seam (encode (first_of k)) (encode (rest_of k))) (sym (encode-append a.front (first_of k)));
          from = sym (drop-drop m i x) ∙ rw (a.from, em, encode_split k) (drop-append_seam (encode (first_of k)) (encode (rest_of k)));
          same = λ j e.
              let s = a.same j e in (
                s.0 ∙ ap (j_append a.front) (passing-first k (along_some h) t) ∙ sym (append_assoc a.front (first_of k) (passing p (rest_of k))),
                s.1 ∙ beyond-first k t,
              );
        }

    stops : passing p a.left ≡ j_nil → beyond p a.left ≡ a.left → (j : Judged) → x ≡ encode j → Parted p x j i
    stops q r j e =
        let s = a.same j e in
        record { front = a.its ∙ ap encode (sym (s.0 ∙ ap (j_append a.front) q ∙ append_none a.front)); back = a.from ∙ ap encode (sym (s.1 ∙ r)) }

    -- The next one does not; there is none.
    pub along_stop : p (number (state_of a.left)) ≡ false → (j : Judged) → x ≡ encode j → Parted p x j i
    along_stop f = stops (passing_none a.left f) (beyond_all a.left f)

    pub along_end : length x ≤ i → (j : Judged) → x ≡ encode j → Parted p x j i
    along_end h =
        let n = at_end a.left a.from (omega (arith, length-drop i x)) in
        stops (ap (passing p) n ∙ nil_passing) (rw n nil_beyond)

-- Where the first item passes, some tokens do.
some_taken : (r : ℕ) (x : List ℕ) {l : List ℕ} → take r x ≡ l → 0 < length l → 0 < r
some_taken zero x q h = absurd (omega (arith, ap length q))
some_taken (suc r) x q h = omega arith

some_passing : (p : ℕ → Bool) (j : Judged) → 0 < length (encode j) → p (number (state_of j)) ≡ true → 0 < length (encode (passing p j))
unfolding encode passing state_of
some_passing p j_nil h t = absurd (omega arith)
some_passing p (j_leaf s b j) h t = rw t (omega arith)
some_passing p (j_node s k i j) h t = rw t (omega arith)

pub parted_some : {p : ℕ → Bool} {x : List ℕ} (j : Judged) {r : ℕ} → Parted p x j r → x ≡ encode j → 0 < length x → p (number (state_of j)) ≡ true → 0 < r
parted_some {p} {x} j {r} w e h t = some_taken r x w.front (some_passing p j (omega (arith, ap length e)) t)

module _ (p : ℕ → Bool) where
  -- What an item that passes does not change, all those that pass do not.
  pub beyond-same : {A : Type 0} (g : Judged → A) → ((k : Judged) → 0 < length (encode k) → p (number (state_of k)) ≡ true → g k ≡ g (rest_of k))
      → (j : Judged) → g j ≡ g (beyond p j)
  unfolding encode beyond rest_of state_of
  beyond-same g h j_nil = refl
  beyond-same g h (j_leaf s b j) =
      cond_cases (p (number s)) (beyond p j) (j_leaf s b j) (λ k. g (j_leaf s b j) ≡ g k) (λ t. h (j_leaf s b j) (omega arith) t ∙ beyond-same g h j) (λ f. refl)
  beyond-same g h (j_node s k i j) =
      cond_cases (p (number s)) (beyond p j) (j_node s k i j) (λ m. g (j_node s k i j) ≡ g m) (λ t. h (j_node s k i j) (omega arith) t ∙ beyond-same g h j) (λ f. refl)

  -- The first of the items beyond does not pass.
  pub beyond_stops : (j : Judged) → 0 < length (encode (beyond p j)) → p (number (state_of (beyond p j))) ≡ false
  unfolding encode beyond state_of
  beyond_stops j_nil = λ h. absurd (omega (arith, h))
  beyond_stops (j_leaf s b j) =
      cond_cases (p (number s)) (beyond p j) (j_leaf s b j) (λ k. 0 < length (encode k) → p (number (state_of k)) ≡ false) (λ t. beyond_stops j) (λ f h. f)
  beyond_stops (j_node s k i j) =
      cond_cases (p (number s)) (beyond p j) (j_node s k i j) (λ m. 0 < length (encode m) → p (number (state_of m)) ≡ false) (λ t. beyond_stops j) (λ f h. f)

-- A first token that is s above a multiple of 16 is that of a leaf of state s.
pub leaf_first : (k : Judged) {s : ℕ} → 0 < length (encode k) → get_or (encode k) 0 0 % 16 ≡ s → s ≤ 4
    → (number (state_of k) ≡ s) × (1 ≡ length (encode (first_of k)))
unfolding encode state_of first_of
leaf_first j_nil ne e h = absurd (omega arith)
leaf_first (j_leaf r b k) ne e h = (omega (arith, leaf_state r b, leaf_even r b), refl)
leaf_first (j_node r d i k) ne e h = absurd (omega (arith, node_odd r d (length (encode i))))

pub leaf_at : {p : ℕ → Bool} {x : List ℕ} {i s : ℕ} (a : Along p x i) → i < length x → get_or x i 0 % 16 ≡ s → s ≤ 4
    → (number (state_of a.left) ≡ s) × (1 ≡ length (encode (first_of a.left)))
leaf_at {p} {x} {i} a h e =
    let c : encode a.left ≡ get_or x i 0 ∷ drop (suc i) x = sym a.from ∙ drop-cons x i 0 h in
    leaf_first a.left (along_some p a h) (rw c e)
