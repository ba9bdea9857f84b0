-- One bin more in a group: one byte of its line becomes `1`.
use mathlib.Core.Path.{◌≡◌, refl, sym, ap, ap₂, subst, ◌∙◌}
use mathlib.Core.Logic.{◌≢◌, inl, ⊎_elim}
use mathlib.Core.Bool.{Bool, true}
use mathlib.Core.List.{List, [], ◌∷◌, ◌++◌, map, append_assoc}
use Prim.Native.Nat.{ℕ, zero, suc, ◌+◌, ◌-◌, ◌*◌, ◌≤◌, ◌<◌}
use native.Mathlib.Omega.{arith}
use lib.ListN.{length, take, drop, get_or, set, take-append-drop, length-drop}
use lib.Seq.{set-append_left, take-append-le, take-append-add, take-take}
use Rattle.spec_orders.specs.Lists.{All, elem, numbers_from}
use Rattle.spec_orders.proofs.ListLaws.{all_left, all_right, all_map, part_to_end}
use Rattle.spec_orders.proofs.Members.{in_elem, elem_in, in_left, in_right, in_append, in_one}
use Rattle.spec_orders.proofs.Tests.{same_tests}
use Rattle.tree_tokens.specs.Tokens.{Wrote}
use Rattle.tree_tokens.proofs.Writes.{take_more}
use Rattle.file_syntax.specs.RingFile.{Value, on, value_byte, value_word, further, line}
use Rattle.spec_load.specs.TestLoad.{value_of, values, run}
use Rattle.spec_load.proofs.File.{values_length}
use Rattle.load_file.specs.Lines.{group_line, Places, Marked}
use Rattle.load_file.proofs.Lines.{group_line-length}

-- ==== The values

map_agree : (f h : ℕ → Value) (a n : ℕ) → ((x : ℕ) → a ≤ x → h x ≡ f x) → map h (numbers_from a n) ≡ map f (numbers_from a n)
map_agree f h a zero e = refl
map_agree f h a (suc n) e = ap₂ (λ v vs. v ∷ vs) (e a (omega arith)) (map_agree f h (suc a) n (λ x g. e x (omega arith)))

-- Values that differ at b alone.
map-set : (f h : ℕ → Value) (b : ℕ) → ((x : ℕ) → x ≢ b → h x ≡ f x) → (a n : ℕ) → a ≤ b → b < a + n
    → map h (numbers_from a n) ≡ set (map f (numbers_from a n)) (b - a) (h b)
map-set f h b e a zero p q = absurd (omega arith)
map-set f h b e a (suc n) p q = go (b - a) refl (map-set f h b e (suc a) n)
  where
    go : (k : ℕ) → b - a ≡ k → (suc a ≤ b → b < suc a + n → map h (numbers_from (suc a) n) ≡ set (map f (numbers_from (suc a) n)) (b - suc a) (h b))
        → map h (numbers_from a (suc n)) ≡ set (map f (numbers_from a (suc n))) k (h b)
    go zero d rec =
        let here : a ≡ b = omega arith in
        ap₂ (λ v vs. v ∷ vs) (ap h here) (map_agree f h (suc a) n (λ x g. e x (λ c. omega arith)))
    go (suc k) d rec =
        let next : b - suc a ≡ k = omega arith in
        ap₂ (λ v vs. v ∷ vs) (e a (λ c. omega arith)) (subst (λ (j : ℕ). map h (numbers_from (suc a) n) ≡ set (map f (numbers_from (suc a) n)) j (h b)) next (rec (omega arith) (omega arith)))

other_bin : (group : List ℕ) (b x : ℕ) → x ≢ b → elem (group ++ (b ∷ [])) x ≡ elem group x
other_bin group b x n =
    same_tests (elem (group ++ (b ∷ [])) x) (elem group x)
    (λ e. ⊎_elim (λ i. in_elem group x i) (λ i. absurd (n (in_one b x i))) (in_append x group (b ∷ []) (elem_in (group ++ (b ∷ [])) x e)))
    (λ e. in_elem (group ++ (b ∷ [])) x (in_left x group (b ∷ []) (elem_in group x e)))

new_bin : (group : List ℕ) (b : ℕ) → elem (group ++ (b ∷ [])) b ≡ true
new_bin group b = in_elem (group ++ (b ∷ [])) b (in_right b group (b ∷ []) (inl refl))

values_more : (n : ℕ) (group : List ℕ) (b : ℕ) → 1 ≤ b → b ≤ n → values n (group ++ (b ∷ [])) ≡ set (values n group) (b - 1) on
unfolding values
values_more n group b h g =
    map-set (λ x. value_of (elem group x)) (λ x. value_of (elem (group ++ (b ∷ [])) x)) b (λ x q. ap value_of (other_bin group b x q)) 1 n h (omega arith)
    ∙ ap (λ (c : Bool). set (values n group) (b - 1) (value_of c)) (new_bin group b)

-- ==== The bytes

further-set : (vs : List Value) (k : ℕ) (v : Value) → k < length vs
    → further (map value_word (set vs k v)) ≡ set (further (map value_word vs)) (suc (2 * k)) (value_byte v)
further-set [] k v h = absurd (omega arith)
further-set (w ∷ vs) zero v h = refl
further-set (w ∷ vs) (suc k) v h =
    let place : 2 * suc k ≡ suc (suc (2 * k)) = omega arith in
    rw place (ap (λ (l : List ℕ). 32 ∷ value_byte w ∷ l) (further-set vs k v (omega arith)))

line_set : (vs : List Value) (k : ℕ) (v : Value) → k < length vs → line (map value_word (set vs k v)) ≡ set (line (map value_word vs)) (2 * k) (value_byte v)
line_set [] k v h = absurd (omega arith)
line_set (w ∷ vs) zero v h = refl
line_set (w ∷ vs) (suc k) v h =
    let place : 2 * suc k ≡ suc (suc (2 * k)) = omega arith in
    rw place (ap (λ (l : List ℕ). value_byte w ∷ l) (further-set vs k v (omega arith)))

-- The line of a group with one bin more.
pub mark_step : (n : ℕ) (group rest : List ℕ) (b : ℕ) → 1 ≤ b → b ≤ n
    → set (group_line n group ++ rest) (2 * (b - 1)) 49 ≡ group_line n (group ++ (b ∷ [])) ++ rest
unfolding group_line
mark_step n group rest b h g =
    set-append_left (group_line n group) rest (2 * (b - 1)) 49 (omega (arith, group_line-length n group (omega arith)))
    ∙ ap (λ (l : List ℕ). l ++ rest)
    (sym (ap (λ (vs : List Value). line (map value_word vs)) (values_more n group b h g) ∙ line_set (values n group) (b - 1) on (omega (arith, values_length n group))))

-- The first i bins are marked, and one more.
pub marked_more : (n : ℕ) (bins : List ℕ) (i : ℕ) {old new : List ℕ} → i < length bins → (1 ≤ get_or bins i 0) × (get_or bins i 0 ≤ n) → Marked n (take i bins) old new
    → Marked n (take (i + 1) bins) old (set new (2 * (get_or bins i 0 - 1)) 49)
marked_more n bins i {old} {new} h within m = λ group rest e.
    let b = get_or bins i 0 in
    ap (λ (l : List ℕ). set l (2 * (b - 1)) 49) (m group rest e)
    ∙ mark_step n (group ++ take i bins) rest b within.0 within.1
    ∙ ap (λ (l : List ℕ). group_line n l ++ rest) (append_assoc group (take i bins) (b ∷ []) ∙ ap (λ (l : List ℕ). group ++ l) (sym (take_more bins i h)))

-- ==== A run of the circle

pub wrote_marked : (n : ℕ) → 1 ≤ n → (group bins : List ℕ) {old mid new : List ℕ} {k : ℕ} → Wrote (group_line n group) old mid k → Marked n bins mid new
    → Wrote (group_line n (group ++ bins)) old new k
wrote_marked n h group bins {old} w m =
    let same : length (group_line n group) ≡ length (group_line n (group ++ bins)) = group_line-length n group h ∙ sym (group_line-length n (group ++ bins) h) in
    record { many = w.many ∙ same; text = m group (drop (length (group_line n group)) old) w.text ∙ ap (λ (j : ℕ). group_line n (group ++ bins) ++ drop j old) same }

module _ (places : List ℕ) (start many : ℕ) where
  -- A run that does not pass the last place, and one that does.
  pub run_straight : start - 1 + many ≤ length places → run places start many ≡ take (start - 1 + many - (start - 1)) (drop (start - 1) places)
  unfolding run
  run_straight h =
      let e : start - 1 + many - (start - 1) ≡ many = omega arith in
      rw e (take-append-le many (drop (start - 1) places) (take (start - 1) places) (omega (arith, length-drop (start - 1) places)))

  pub run_round : many ≤ length places → start - 1 ≤ length places → length places ≤ start - 1 + many
      → run places start many ≡ take (length places - (start - 1)) (drop (start - 1) places) ++ take (start - 1 + many - length places - 0) (drop 0 places)
  unfolding run
  run_round most few h =
      let first = start - 1 in
      let left = first + many - length places in
      let cut : many ≡ length (drop first places) + left = omega (arith, length-drop first places) in
      let same : left - 0 ≡ left = omega arith in
      ap (λ (j : ℕ). take j (drop first places ++ take first places)) cut
      ∙ take-append-add (drop first places) (take first places) left
      ∙ rw (same, take-take left first places (omega arith), part_to_end places first)

-- The bins of a part of the places, and their places in a line of so many bytes.
pub part_bins : {places : List ℕ} (p : Places places) (a k : ℕ) → All (λ b. (1 ≤ b) × (b ≤ length places)) (take k (drop a places))
part_bins {places} p a k =
    all_left (λ b. (1 ≤ b) × (b ≤ length places)) (take k (drop a places)) (drop k (drop a places)) (subst (All (λ b. (1 ≤ b) × (b ≤ length places))) (sym (take-append-drop k (drop a places)))
    (all_right (λ b. (1 ≤ b) × (b ≤ length places)) (take a places) (drop a places) (subst (All (λ b. (1 ≤ b) × (b ≤ length places))) (sym (take-append-drop a places)) p.bins)))

pub part_fits : {places : List ℕ} (p : Places places) (a k m : ℕ) → 2 * length places ≤ m → All (λ b. (1 ≤ b) × (2 * b ≤ m)) (take k (drop a places))
part_fits {places} p a k m h =
    all_map (λ b. (1 ≤ b) × (b ≤ length places)) (λ b. (1 ≤ b) × (2 * b ≤ m)) (λ b q. (q.0, omega (arith, q.1))) (take k (drop a places)) (part_bins p a k)
