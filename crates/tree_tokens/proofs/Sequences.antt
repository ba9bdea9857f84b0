-- One sequence after another, sequences turned round, and the states taken away and put back.
use mathlib.Core.Path.{◌≡◌, refl, sym, ap, ◌∙◌}
use mathlib.Core.List.{List, [], ◌∷◌, ◌++◌, append_assoc, map, head-eq_of_cons-eq, tail-eq_of_cons-eq, map-append}
use Prim.Native.Nat.{ℕ, zero, suc, ◌+◌, ◌-◌, ◌*◌, ◌/◌, ◌%◌, ◌<◌}
use native.Mathlib.Omega.{arith}
use lib.ListN.{length, take, drop, get_or, length-append}
use lib.Seq.{take-append_seam, drop-append_seam, take-suc}
use native.Mathlib.Numerals.{add-one}
use Rattle.spec_orders.specs.Tree.{Kind, P, C, Forest, nil, leaf, node, append, rev}
use Rattle.tree_tokens.specs.Tokens.{State, E, number, Judged, j_nil, j_leaf, j_node, tree, plain, j_append, j_rev, leaf_token, node_token, encode, flat}
use Rattle.tree_tokens.specs.Views.{first_of, rest_of}
use Rattle.tree_tokens.proofs.Laws.{number_small, number_injective, leaf_state, leaf_even, leaf_number, node_state, node_odd, node_size, sizes}

pub encode-append : (j k : Judged) → encode (j_append j k) ≡ encode j ++ encode k
unfolding encode
encode-append j_nil k = refl
encode-append (j_leaf s b j) k = ap (λ (l : List ℕ). leaf_token s b ∷ l) (encode-append j k)
encode-append (j_node s d i j) k =
    ap (λ (l : List ℕ). node_token s d (length (encode i)) ∷ l) (rw (encode-append j k) (sym (append_assoc (encode i) (encode j) (encode k))))

pub tree-append : (j k : Judged) → tree (j_append j k) ≡ append (tree j) (tree k)
tree-append j_nil k = refl
tree-append (j_leaf s b j) k = ap (leaf b) (tree-append j k)
tree-append (j_node s d i j) k = ap (node d (tree i)) (tree-append j k)

pub plain-append : (f g : Forest) → plain (append f g) ≡ j_append (plain f) (plain g)
plain-append nil g = refl
plain-append (leaf b f) g = ap (j_leaf E b) (plain-append f g)
plain-append (node k i f) g = ap (j_node E k (plain i)) (plain-append f g)

pub plain-rev : (f : Forest) → plain (rev f) ≡ j_rev (plain f)
plain-rev nil = refl
plain-rev (leaf b f) = rw (plain-append, plain-rev f)
plain-rev (node k i f) = rw (plain-append, plain-rev f)

pub tree_plain : (f : Forest) → tree (plain f) ≡ f
tree_plain nil = refl
tree_plain (leaf b f) = ap (leaf b) (tree_plain f)
tree_plain (node k i f) = rw (tree_plain i, tree_plain f)

-- The tokens of a sequence turned round: those of the others turned round, then those of the first item.
rev_is : (j : Judged) → j_rev j ≡ j_append (j_rev (rest_of j)) (first_of j)
unfolding rest_of first_of
rev_is j_nil = refl
rev_is (j_leaf s b j) = refl
rev_is (j_node s k i j) = refl

pub rev_split : (j : Judged) → encode (j_rev j) ≡ encode (j_rev (rest_of j)) ++ encode (first_of j)
rev_split j = rw (rev_is j) (encode-append (j_rev (rest_of j)) (first_of j))

rev_more : (j : Judged) → length (encode (j_rev (rest_of j))) ≡ length (encode (rest_of j)) → length (encode (j_rev j)) ≡ length (encode j)
rev_more j h =
    omega (arith, ap length (rev_split j), length-append (encode (j_rev (rest_of j))) (encode (first_of j)), sizes j {l = encode j} refl)

pub rev-length : (j : Judged) → length (encode (j_rev j)) ≡ length (encode j)
unfolding rest_of
rev-length j_nil = refl
rev-length (j_leaf s b j) = rev_more (j_leaf s b j) (rev-length j)
rev-length (j_node s k i j) = rev_more (j_node s k i j) (rev-length j)

-- A token without its state.
abbrev pub bare : ℕ → ℕ
bare t = t - t % 8

bare_leaf : (s : State) (b : ℕ) → bare (leaf_token s b) ≡ leaf_token E b
unfolding leaf_token
bare_leaf s b = omega (arith, number_small s)

bare_node : (s : State) (k : Kind) (m : ℕ) → bare (node_token s k m) ≡ node_token E k m
unfolding node_token
bare_node s P m = omega (arith, number_small s)
bare_node s C m = omega (arith, number_small s)

pub plain-length : (j : Judged) → length (flat (tree j)) ≡ length (encode j)
unfolding encode
plain-length j_nil = refl
plain-length (j_leaf s b j) = ap suc (plain-length j)
plain-length (j_node s k i j) =
    omega (
      arith,
      plain-length i,
      plain-length j,
      length-append (flat (tree i)) (flat (tree j)),
      length-append (encode i) (encode j),
    )

pub bare_is : (j : Judged) → map bare (encode j) ≡ flat (tree j)
unfolding encode
bare_is j_nil = refl
bare_is (j_leaf s b j) = rw (bare_leaf s b, bare_is j)
bare_is (j_node s k i j) = rw (bare_node s k (length (encode i)), map-append bare (encode i) (encode j), bare_is i, bare_is j, plain-length i)

-- The tokens say what the sequence is.
abbrev as_kind : ℕ → Kind
as_kind zero = P
as_kind (suc n) = C

kind_back : (s : State) (k : Kind) (m : ℕ) → as_kind (node_token s k m / 16 % 2) ≡ k
unfolding node_token
kind_back s P m = let n : (32 * m + 8 + number s) / 16 % 2 ≡ 0 = omega (arith, number_small s) in rw n
kind_back s C m = let n : (32 * m + 24 + number s) / 16 % 2 ≡ 1 = omega (arith, number_small s) in rw n

leaf_same : (s r : State) (b c : ℕ) → leaf_token s b ≡ leaf_token r c → (s ≡ r) × (b ≡ c)
leaf_same s r b c e = (
  number_injective s r (sym (leaf_state s b) ∙ ap (λ (t : ℕ). t % 8) e ∙ leaf_state r c),
  sym (leaf_number s b) ∙ ap (λ (t : ℕ). t / 16) e ∙ leaf_number r c,
)

node_same : (s r : State) (k d : Kind) (m n : ℕ) → node_token s k m ≡ node_token r d n → (s ≡ r) × (k ≡ d) × (m ≡ n)
node_same s r k d m n e = (
  number_injective s r (sym (node_state s k m) ∙ ap (λ (t : ℕ). t % 8) e ∙ node_state r d n),
  sym (kind_back s k m) ∙ ap (λ (t : ℕ). as_kind (t / 16 % 2)) e ∙ kind_back r d n,
  sym (node_size s k m) ∙ ap (λ (t : ℕ). t / 8 / 4) e ∙ node_size r d n,
)

leaf_not_node : (s r : State) (d : Kind) (b m : ℕ) → leaf_token s b ≡ node_token r d m → ⊥
leaf_not_node s r d b m e = omega (arith, leaf_even s b, node_odd r d m, ap (λ (t : ℕ). t / 8 % 2) e)

same_front : (a b c d : List ℕ) → length a ≡ length c → a ++ b ≡ c ++ d → (a ≡ c) × (b ≡ d)
same_front a b c d h e = (
  sym (take-append_seam a b) ∙ ap (take (length a)) e ∙ rw h (take-append_seam c d),
  sym (drop-append_seam a b) ∙ ap (drop (length a)) e ∙ rw h (drop-append_seam c d),
)

pub encode_injective : (j k : Judged) → encode j ≡ encode k → j ≡ k
unfolding encode
encode_injective j_nil j_nil e = refl
encode_injective j_nil (j_leaf r c k) e = absurd (omega (arith, ap length e))
encode_injective j_nil (j_node r d u k) e = absurd (omega (arith, ap length e))
encode_injective (j_leaf s b j) j_nil e = absurd (omega (arith, ap length e))
encode_injective (j_leaf s b j) (j_leaf r c k) e =
    let h = leaf_same s r b c (head-eq_of_cons-eq e) in
    rw (h.0, h.1, encode_injective j k (tail-eq_of_cons-eq e))
encode_injective (j_leaf s b j) (j_node r d u k) e = absurd (leaf_not_node s r d b (length (encode u)) (head-eq_of_cons-eq e))
encode_injective (j_node s q i j) j_nil e = absurd (omega (arith, ap length e))
encode_injective (j_node s q i j) (j_leaf r c k) e = absurd (leaf_not_node r s q c (length (encode i)) (sym (head-eq_of_cons-eq e)))
encode_injective (j_node s q i j) (j_node r d u k) e =
    let h = node_same s r q d (length (encode i)) (length (encode u)) (head-eq_of_cons-eq e) in
    let p = same_front (encode i) (encode j) (encode u) (encode k) h.2 (tail-eq_of_cons-eq e) in
    rw (h.0, h.1, encode_injective i u p.0, encode_injective j k p.1)

-- One more token without its state, at index i.
pub bare_more : (s : List ℕ) (i : ℕ) → i < length s → map bare (take (i + 1) s) ≡ map bare (take i s) ++ (bare (get_or s i 0) ∷ [])
bare_more s i h = rw (add-one, take-suc s i 0 h) (map-append bare (take i s) (get_or s i 0 ∷ []))

-- The tokens tell the tree.
pub flat_injective : (f g : Forest) → flat f ≡ flat g → f ≡ g
flat_injective f g e = sym (tree_plain f) ∙ ap tree (encode_injective (plain f) (plain g) e) ∙ tree_plain g
