-- The steps of `load` and of `store`, on lists.
use Prim.Native.Nat.{ℕ, zero, suc, ◌+◌, ◌*◌, ◌-◌, ◌<◌, ◌≤◌, ◌%◌}
use native.Mathlib.Numerals.{add-one}
use native.Mathlib.Omega.{arith}
use mathlib.Core.Path.{◌≡◌, refl, sym, ◌∙◌, ap, subst}
use mathlib.Core.Logic.{◌⊎◌, inl, inr}
use mathlib.Core.List.{List, [], ◌∷◌, ◌++◌, append_assoc, append-nil}
use borrow.Rule.Slice.PartMut.{put_mid}
use lib.ListN.{length, get_or, take, drop, set, length-set, length-append, length-drop, drop_of_length-le}
use lib.Seq.{take_at, take-suc, drop-append-add, drop-drop, drop-cons, set_at, take-suc-set, take_all, drop-set-lt, length-take-le}
use Rattle.record_copy.specs.declared.Node.{Node}
use Rattle.record_copy.specs.Rows.{zero_node, row_of, rows_of, put_row, node_at, nodes_of, with_rows, Sound}

-- what `cap` says: h of n records are copied
abbrev pub Capped : ℕ → ℕ → Type 0
Capped n h = (h ≤ 256) × ((h ≤ n) × ((h ≡ n) ⊎ (h ≡ 256)))

-- the first h records are the first 256
pub cap_take : (ns : List Node) (h : ℕ) → Capped (length ns) h → take h ns ≡ take 256 ns
cap_take ns h (a, (b, inl e)) = ap (λ (m : ℕ). take m ns) e ∙ take_all (length ns) ns (omega arith) ∙ sym (take_all 256 ns (omega arith))
cap_take ns h (a, (b, inr e)) = ap (λ (m : ℕ). take m ns) e

pub cap_drop : (ns : List Node) (h : ℕ) → Capped (length ns) h → drop h ns ≡ drop 256 ns
cap_drop ns h (a, (b, inl e)) = drop_of_length-le ns {i = h} (omega arith) ∙ sym (drop_of_length-le ns {i = 256} (omega arith))
cap_drop ns h (a, (b, inr e)) = ap (λ (m : ℕ). drop m ns) e

pub cap_length : (ns : List Node) (h : ℕ) → Capped (length ns) h → h ≡ length (take 256 ns)
cap_length ns h c = sym (length-take-le h ns c.1.0) ∙ ap length (cap_take ns h c)

-- ---- Sound
pub Sound-append : (a b : List Node) → Sound a → Sound b → Sound (a ++ b)
unfolding Sound
Sound-append [] b x y = y
Sound-append (n ∷ a) b x y = (x.0, Sound-append a b x.1 y)

sound_one : (n : Node) → n.kind < 256 → length n.items ≡ 255 → Sound (n ∷ [])
unfolding Sound
sound_one n k l = ((k, l), tt)

sound_none : Sound []
unfolding Sound
sound_none = tt

-- where i records of h are loaded: the list, that its length is kept, and that the records are values of their type
pub record Loaded (ns : List Node) (ys : List ℕ) (h i : ℕ) (zs : List ℕ) : Type 0 where
  pub below : i ≤ h
  pub is : zs ≡ rows_of (take i ns) ++ drop (i * 257) ys
  pub long : length zs ≡ 65792
  pub sound : Sound (take i ns)

pub rows_of-append : (a b : List Node) → rows_of (a ++ b) ≡ rows_of a ++ rows_of b
unfolding rows_of
rows_of-append [] b = refl
rows_of-append (n ∷ a) b = ap (λ (l : List ℕ). row_of n ++ l) (rows_of-append a b) ∙ sym (append_assoc (row_of n) (rows_of a) (rows_of b))

last : (n : Node) → rows_of (n ∷ []) ≡ row_of n
unfolding rows_of
last n = append-nil (row_of n)

pub loaded_none : (ns : List Node) (ys : List ℕ) (h : ℕ) → length ys ≡ 65792 → Loaded ns ys h 0 ys
unfolding rows_of
loaded_none ns ys h e = record { below = omega arith; is = refl; long = e; sound = sound_none }

pub loaded_next : (ns : List Node) (ys zs : List ℕ) (h i : ℕ) (ws : List ℕ) → i < h → Capped (length ns) h → length ys ≡ 65792 → Loaded ns ys h i zs
    → ((get_or ns i zero_node).kind < 256) × (length (get_or ns i zero_node).items ≡ 255)
    → ws ≡ put_row zs i (row_of (get_or ns i zero_node)) → length ws ≡ length zs → Loaded ns ys h (i + 1) ws
unfolding put_row
loaded_next ns ys zs h i ws small (top, (within, _)) le L ok e k =
    let P : List ℕ = rows_of (take i ns) in
    let D : List ℕ = drop (i * 257) ys in
    let R : List ℕ = row_of (get_or ns i zero_node) in
    let lz : length P + (length ys - i * 257) ≡ length zs = sym (ap length L.is ∙ length-append P D ∙ ap (λ (m : ℕ). length P + m) (length-drop (i * 257) ys)) in
    let lP : length P ≡ i * 257 = omega (arith, L.long) in
    let t : take (i * 257) zs ≡ P = ap (take (i * 257)) L.is ∙ take_at P D (i * 257) lP in
    let n257 : i * 257 + 257 ≡ (i + 1) * 257 = omega arith in
    let d : drop (i * 257 + 257) zs ≡ drop ((i + 1) * 257) ys =
    ap (drop (i * 257 + 257)) L.is ∙ ap (λ (m : ℕ). drop (m + 257) (P ++ D)) (sym lP) ∙ drop-append-add P D 257 ∙ drop-drop 257 (i * 257) ys ∙ ap (λ (m : ℕ). drop m ys) n257 in
    let tk : take (i + 1) ns ≡ take i ns ++ (get_or ns i zero_node ∷ []) = ap (λ (m : ℕ). take m ns) (add-one i) ∙ take-suc ns i zero_node (omega arith) in
    let r : rows_of (take (i + 1) ns) ≡ P ++ R = ap rows_of tk ∙ rows_of-append (take i ns) (get_or ns i zero_node ∷ []) ∙ ap (λ (l : List ℕ). P ++ l) (last (get_or ns i zero_node)) in
    record {
      below = omega arith;
      is = e ∙ ap (λ (l : List ℕ). l ++ (R ++ drop (i * 257 + 257) zs)) t ∙ ap (λ (l : List ℕ). P ++ (R ++ l)) d ∙ sym (append_assoc P R (drop ((i + 1) * 257) ys)) ∙ ap (λ (l : List ℕ). l ++ drop ((i + 1) * 257) ys) (sym r);
      long = k ∙ L.long;
      sound = subst Sound (sym tk) (Sound-append (take i ns) (get_or ns i zero_node ∷ []) L.sound (sound_one (get_or ns i zero_node) ok.0 ok.1));
    }

pub loaded_all : (ns : List Node) (ys zs : List ℕ) (h i : ℕ) → h ≤ i → Capped (length ns) h → Loaded ns ys h i zs
    → (zs ≡ rows_of (take 256 ns) ++ drop (length (take 256 ns) * 257) ys) × Sound (take 256 ns)
loaded_all ns ys zs h i over c L =
    let e : i ≡ h = omega (arith, L.below) in
    let t : take i ns ≡ take 256 ns = ap (λ (m : ℕ). take m ns) e ∙ cap_take ns h c in
    (L.is ∙ ap (λ (l : List Node). rows_of l ++ drop (i * 257) ys) t ∙ ap (λ (m : ℕ). rows_of (take 256 ns) ++ drop (m * 257) ys) (e ∙ cap_length ns h c), subst Sound t L.sound)

-- where i records of h are stored
pub record Stored (ys : List ℕ) (ns : List Node) (h i : ℕ) (zs : List Node) : Type 0 where
  pub below : i ≤ h
  pub is : zs ≡ nodes_of ys i ++ drop i ns
  pub long : length zs ≡ length ns

pub length-nodes : (ys : List ℕ) (i : ℕ) → length (nodes_of ys i) ≡ i
unfolding nodes_of
length-nodes ys zero = refl
length-nodes ys (suc i) = length-append (nodes_of ys i) (node_at ys i ∷ []) ∙ ap (λ (m : ℕ). m + 1) (length-nodes ys i) ∙ add-one i

pub stored_none : (ys : List ℕ) (ns : List Node) (h : ℕ) → Stored ys ns h 0 ns
unfolding nodes_of
stored_none ys ns h = record { below = omega arith; is = refl; long = refl }

pub stored_next : (ys : List ℕ) (ns zs : List Node) (h i : ℕ) (ws : List Node) → i < h → Capped (length ns) h → Stored ys ns h i zs → ws ≡ set zs i (node_at ys i) → length ws ≡ length zs → Stored ys ns h (i + 1) ws
unfolding nodes_of
stored_next ys ns zs h i ws small (top, (within, _)) S e k = record {
  below = omega arith;
  is = e ∙ ap (λ (l : List Node). set l i (node_at ys i)) (S.is ∙ ap (λ (l : List Node). nodes_of ys i ++ l) (drop-cons ns i zero_node (omega arith)))
      ∙ set_at (nodes_of ys i) (get_or ns i zero_node) (drop (suc i) ns) (node_at ys i) i (length-nodes ys i)
      ∙ sym (append_assoc (nodes_of ys i) (node_at ys i ∷ []) (drop (suc i) ns)) ∙ ap (λ (m : ℕ). nodes_of ys m ++ drop m ns) (sym (add-one i));
  long = k ∙ S.long;
}

pub stored_all : (ys : List ℕ) (ns zs : List Node) (h i : ℕ) → h ≤ i → Capped (length ns) h → Stored ys ns h i zs → zs ≡ with_rows ys ns
unfolding with_rows
stored_all ys ns zs h i over c S =
    let e : i ≡ h = omega (arith, S.below) in
    S.is ∙ ap (λ (m : ℕ). nodes_of ys i ++ drop m ns) e ∙ ap (λ (l : List Node). nodes_of ys i ++ l) (cap_drop ns h c) ∙ ap (λ (m : ℕ). nodes_of ys m ++ drop 256 ns) (e ∙ cap_length ns h c)

-- ---- one row: what `put_row` writes
abbrev pub started : List ℕ → ℕ → ℕ → ℕ → List ℕ
started f at k c = set (set f (at * 257) k) (at * 257 + 1) c

pub put_row_is : (f items part : List ℕ) (at k c j : ℕ) → at * 257 + 257 ≤ length f → j ≡ 255 → part ≡ items
    → put_mid (at * 257 + 2) j (started f at k c) part ≡ put_row f at (k ∷ c ∷ items)
unfolding put_row
put_row_is f items part at k c j fits j-is e =
    let B : ℕ = at * 257 in
    let f₁ : List ℕ = set f B k in
    let n₁ : length f₁ ≡ length f = length-set f B k in
    let two : B + 2 ≡ suc (B + 1) = omega arith in
    let one : B + 1 ≡ suc B = omega arith in
    let t : take (B + 2) (set f₁ (B + 1) c) ≡ (take B f ++ (k ∷ [])) ++ (c ∷ []) =
    ap (λ (m : ℕ). take m (set f₁ (B + 1) c)) two ∙ take-suc-set f₁ (B + 1) c (omega (arith, n₁)) ∙ ap (λ (m : List ℕ). m ++ (c ∷ [])) (ap (λ (m : ℕ). take m f₁) one ∙ take-suc-set f B k (omega arith)) in
    let far : B + 2 + j ≡ B + 257 = omega arith in
    let d : drop j (drop (B + 2) (set f₁ (B + 1) c)) ≡ drop (B + 257) f =
    drop-drop j (B + 2) (set f₁ (B + 1) c) ∙ ap (λ (m : ℕ). drop m (set f₁ (B + 1) c)) far ∙ drop-set-lt (B + 257) f₁ (B + 1) c (omega arith) ∙ drop-set-lt (B + 257) f B k (omega arith) in
    rw (t, e, d) (simp append_assoc)

-- ---- one record: what `row_at` reads
pub row_at_is : (f items : List ℕ) (at j : ℕ) → j ≡ 255 → items ≡ take j (drop (at * 257 + 2) f)
    → ◌≡◌ {A = Node} (record { kind = get_or f (at * 257) 0 % 256; count = get_or f (at * 257 + 1) 0; items = items }) (node_at f at)
unfolding node_at
row_at_is f items at j j-is is = rw (is, j-is) refl
