-- The items in the places i..to of a sequence: what stands at the first place, and what was written there.
use mathlib.Core.Path.{◌≡◌, refl, sym, ap, ◌∙◌}
use mathlib.Core.List.{List, [], ◌∷◌, ◌++◌, append_assoc, head-eq_of_cons-eq, tail-eq_of_cons-eq}
use Prim.Native.Nat.{ℕ, ◌+◌, ◌-◌, ◌/◌, ◌%◌, ◌≤◌, ◌<◌}
use native.Mathlib.Omega.{arith}
use native.Mathlib.Numerals.{add-one}
use lib.ListN.{length, take, drop, get_or, set, length-append, length-drop, take-append-drop}
use lib.Seq.{slice, slice-cons, length-slice, length-take-le, take-take, take_at, drop_at, drop-drop, set_at}
use Rattle.spec_orders.specs.Tree.{Kind}
use Rattle.spec_orders.proofs.ListLaws.{part_is, drop_taken}
use Rattle.tree_tokens.specs.Tokens.{State, Judged, j_nil, j_leaf, j_node, leaf_token, node_token, encode, Wrote}
use Rattle.tree_tokens.proofs.Laws.{leaf_even, node_odd, node_size}
use Rattle.tree_tokens.proofs.Writes.{take_more, Written}

-- A leaf stands at place i, and then the items of `rest`.
pub record LeafAt (x : List ℕ) (i to : ℕ) (k : Judged) : Type 0 where
  pub state : State
  pub leaf : ℕ
  pub rest : Judged
  pub is : k ≡ j_leaf state leaf rest
  pub token : get_or x i 0 ≡ leaf_token state leaf
  pub after : slice (i + 1) to x ≡ encode rest

-- A node stands there, and then the items of `rest`.
pub record NodeAt (x : List ℕ) (i to : ℕ) (k : Judged) : Type 0 where
  pub state : State
  pub kind : Kind
  pub items : Judged
  pub rest : Judged
  pub is : k ≡ j_node state kind items rest
  pub token : get_or x i 0 ≡ node_token state kind (length (encode items))
  pub room : i + 1 + get_or x i 0 / 32 ≤ to
  pub inside : slice (i + 1) (i + 1 + get_or x i 0 / 32) x ≡ encode items
  pub after : slice (i + 1 + get_or x i 0 / 32) to x ≡ encode rest

-- A part's front and what stands behind it.
slice_front : (x : List ℕ) (a m to : ℕ) → a + m ≤ to → slice a (a + m) x ≡ take m (slice a to x)
slice_front x a m to h =
    drop_taken a (a + m) x ∙ part_is x a m ∙ sym (ap (take m) (drop_taken a to x) ∙ take-take m (to - a) (drop a x) (omega arith))

-- By the first token.
leaf_by : (k : Judged) (x : List ℕ) (i to : ℕ) → encode k ≡ get_or x i 0 ∷ slice (i + 1) to x → (get_or x i 0 / 8 % 2 ≡ 1 → ⊥) → LeafAt x i to k
unfolding encode
leaf_by j_nil x i to e o = absurd (omega (arith, ap length e))
leaf_by (j_leaf s b k) x i to e o =
    record { state = s; leaf = b; rest = k; is = refl; token = sym (head-eq_of_cons-eq e); after = sym (tail-eq_of_cons-eq e) }
leaf_by (j_node s d u k) x i to e o = absurd (o (ap (λ (t : ℕ). t / 8 % 2) (sym (head-eq_of_cons-eq e)) ∙ node_odd s d (length (encode u))))

node_by : (k : Judged) (x : List ℕ) (i to : ℕ) → encode k ≡ get_or x i 0 ∷ slice (i + 1) to x → i < to → to ≤ length x → get_or x i 0 / 8 % 2 ≡ 1 → NodeAt x i to k
unfolding encode
node_by j_nil x i to e h n o = absurd (omega (arith, ap length e))
node_by (j_leaf s b k) x i to e h n o = absurd (omega (arith, leaf_even s b, ap (λ (t : ℕ). t / 8 % 2) (head-eq_of_cons-eq e)))
node_by (j_node s d u k) x i to e h n o =
    let t = head-eq_of_cons-eq e in
    let l = tail-eq_of_cons-eq e in
    let m : get_or x i 0 / 32 ≡ length (encode u) = omega (arith, node_size s d (length (encode u)), ap (λ (v : ℕ). v / 8 / 4) t) in
    let w : i + 1 + get_or x i 0 / 32 ≤ to = omega (arith, m, ap length l, length-append (encode u) (encode k), length-slice (i + 1) to x n) in
    record {
      state = s;
      kind = d;
      items = u;
      rest = k;
      is = refl;
      token = sym t;
      room = w;
      inside = slice_front x (i + 1) (get_or x i 0 / 32) to w ∙ ap (take (get_or x i 0 / 32)) (sym l) ∙ take_at (encode u) (encode k) (get_or x i 0 / 32) (sym m);
      after = sym (drop-drop (get_or x i 0 / 32) (i + 1) (take to x)) ∙ ap (drop (get_or x i 0 / 32)) (sym l) ∙ drop_at (encode u) (encode k) (get_or x i 0 / 32) (sym m);
    }

first_token : (k : Judged) (x : List ℕ) (i to : ℕ) → slice i to x ≡ encode k → i < to → to ≤ length x → encode k ≡ get_or x i 0 ∷ slice (i + 1) to x
first_token k x i to p h n = rw add-one (sym p ∙ slice-cons i to x 0 h n)

pub leaf_at : (k : Judged) (x : List ℕ) (i to : ℕ) → slice i to x ≡ encode k → i < to → to ≤ length x → (get_or x i 0 / 8 % 2 ≡ 1 → ⊥) → LeafAt x i to k
leaf_at k x i to p h n o = leaf_by k x i to (first_token k x i to p h n) o

pub node_at : (k : Judged) (x : List ℕ) (i to : ℕ) → slice i to x ≡ encode k → i < to → to ≤ length x → get_or x i 0 / 8 % 2 ≡ 1 → NodeAt x i to k
node_at k x i to p h n o = node_by k x i to (first_token k x i to p h n) h n o

-- The first places, as they are.
pub wrote_same : (i : ℕ) (old : List ℕ) → i ≤ length old → Wrote (take i old) old old i
wrote_same i old h =
    let n = length-take-le i old h in
    record { many = sym n; text = rw n (sym (take-append-drop i old)) }

-- The places before i are written; then those after it, up to e, and then place i.
pub written_around : {all rest old mid new : List ℕ} {i e : ℕ} (v : ℕ) (xs rest' : List ℕ) → i < length old → rest ≡ v ∷ (xs ++ rest')
    → Wrote (take (i + 1) mid ++ xs) mid new e → Written all rest old mid i → Written all rest' old (set new i v) e
written_around {all} {rest} {old} {mid} {new} {i} {e} v xs rest' n er w g = record {
  done = g.done ++ (v ∷ xs);
  wrote = record { many = many; text = rw (← many, append_assoc) (ap (λ (l : List ℕ). set l i v) text ∙ set_at g.done (get_or mid i 0) (xs ++ drop e old) v i (sym g.wrote.many)) };
  whole = g.whole ∙ ap (λ (l : List ℕ). g.done ++ l) er ∙ sym (append_assoc g.done (v ∷ xs) rest');
}
  where
    mid_is : mid ≡ g.done ++ drop i old
    mid_is = g.wrote.text ∙ ap (λ (m : ℕ). g.done ++ drop m old) (sym g.wrote.many)

    long : i < length mid
    long = omega (arith, ap length mid_is, length-append g.done (drop i old), length-drop i old, g.wrote.many)

    ends : e ≡ i + (1 + length xs)
    ends = omega (arith, w.many, length-append (take (i + 1) mid) xs, length-take-le (i + 1) mid (omega (arith, long)))

    many : e ≡ length (g.done ++ (v ∷ xs))
    many = omega (arith, ends, g.wrote.many, length-append g.done (v ∷ xs))

    front : take (i + 1) mid ≡ g.done ++ (get_or mid i 0 ∷ [])
    front = take_more mid i long ∙ ap (λ (l : List ℕ). l ++ (get_or mid i 0 ∷ [])) (ap (take i) mid_is ∙ take_at g.done (drop i old) i (sym g.wrote.many))

    back : drop e mid ≡ drop e old
    back = rw ends (sym (drop-drop (1 + length xs) i mid) ∙ ap (drop (1 + length xs)) (ap (drop i) mid_is ∙ drop_at g.done (drop i old) i (sym g.wrote.many)) ∙ drop-drop (1 + length xs) i old)

    text : new ≡ g.done ++ (get_or mid i 0 ∷ (xs ++ drop e old))
    text = w.text ∙ rw (← w.many, back, front) (append_assoc (g.done ++ (get_or mid i 0 ∷ [])) xs (drop e old) ∙ append_assoc g.done (get_or mid i 0 ∷ []) (xs ++ drop e old))
