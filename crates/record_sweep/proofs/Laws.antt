-- The loop over the records, on lists: what is known when the records from i on are read.
use Prim.Native.Nat.{ℕ, zero, suc, ◌+◌, ◌*◌, ◌-◌, ◌<◌, ◌≤◌}
use native.Mathlib.Omega.{arith}
use mathlib.Core.Path.{◌≡◌, refl, sym, ◌∙◌, ap, subst}
use mathlib.Core.Logic.{◌⊎◌, inl, inr}
use native.Mathlib.Nat.{eq-or-lt_of_le}
use mathlib.Core.List.{List, [], ◌∷◌, ◌++◌, append_assoc}
use lib.ListN.{length, get_or, take, drop, replicate, length-append, length-replicate}
use lib.Seq.{take_at, take_all, drop_at, drop-drop, get_or-take}
use Rattle.spec_orders.specs.CircularOrder.{Restriction}
use Rattle.spec_orders.proofs.ListLaws.{drop_zeros}
use Rattle.record_copy.specs.declared.Node.{Node}
use Rattle.record_copy.specs.Rows.{zero_node, row_of, rows_of, zero_rows, node_rows, Sound}
use Rattle.record_copy.proofs.Laws.{Capped, cap_length}
use Rattle.table_reading.specs.Reading.{row_at}
use Rattle.table_sweep.specs.Kept.{Blank, Started, Swept}

-- What its type says of a record.
abbrev pub Whole : Node → Type 0
Whole n = (n.kind < 256) × (length n.items ≡ 255)

sound_all : (xs : List Node) → ((j : ℕ) → j < length xs → Whole (get_or xs j zero_node)) → Sound xs
unfolding Sound
sound_all [] h = tt
sound_all (n ∷ xs) h = (h 0 (omega arith), sound_all xs (λ j l. h (suc j) (omega arith)))

module _ (n : Node) (more : List ℕ) (w : Whole n) where
  row_long : length (row_of n) ≡ 257
  row_long = omega (arith, w.1)

  row_taken : take 257 (row_of n ++ more) ≡ row_of n
  row_taken = take_at (row_of n) more 257 row_long

  row_dropped : (j : ℕ) → drop (257 * suc j) (row_of n ++ more) ≡ drop (257 * j) more
  row_dropped j =
      let e : 257 * suc j ≡ 257 + 257 * j = omega arith in
      ap (λ (k : ℕ). drop k (row_of n ++ more)) e ∙ sym (drop-drop (257 * j) 257 (row_of n ++ more)) ∙ ap (drop (257 * j)) (drop_at (row_of n) more 257 row_long)

row_is : (xs : List Node) (rest : List ℕ) (j : ℕ) → Sound xs → j < length xs → take 257 (drop (257 * j) (rows_of xs ++ rest)) ≡ row_of (get_or xs j zero_node)
unfolding Sound rows_of
row_is [] rest j s l = absurd (omega arith)
row_is (n ∷ xs) rest zero s l = ap (take 257) (append_assoc (row_of n) (rows_of xs) rest) ∙ row_taken n (rows_of xs ++ rest) s.0
row_is (n ∷ xs) rest (suc j) s l =
    ap (λ (k : List ℕ). take 257 (drop (257 * suc j) k)) (append_assoc (row_of n) (rows_of xs) rest)
    ∙ ap (take 257) (row_dropped n (rows_of xs ++ rest) s.0 j)
    ∙ row_is xs rest j s.1 (omega arith)

rows_long : (xs : List Node) → Sound xs → length (rows_of xs) ≡ 257 * length xs
unfolding Sound rows_of
rows_long [] s = refl
rows_long (n ∷ xs) s = omega (arith, length-append (row_of n) (rows_of xs), s.0.1, rows_long xs s.1)

zeros_dropped : (k n : ℕ) → drop k (zero_rows n) ≡ replicate (n - k) 0
unfolding zero_rows
zeros_dropped k n = drop_zeros k n

module _ (ns : List Node) (h : ℕ) (c : Capped (length ns) h) (s : Sound (take 256 ns)) where
  long_is : length (rows_of (take 256 ns)) ≡ 257 * h
  long_is = rows_long (take 256 ns) s ∙ ap (λ (m : ℕ). 257 * m) (sym (cap_length ns h c))

  table_is : node_rows ns ≡ rows_of (take 256 ns) ++ replicate (65792 - 257 * h) 0
  unfolding node_rows
  table_is =
      let e : length (take 256 ns) * 257 ≡ 257 * h = omega (arith, cap_length ns h c) in
      ap (λ (l : List ℕ). rows_of (take 256 ns) ++ l) (ap (λ (m : ℕ). drop m (zero_rows 65792)) e ∙ zeros_dropped (257 * h) 65792)

  all_long : length (node_rows ns) ≡ 65792
  all_long = omega (arith, ap length table_is, length-append (rows_of (take 256 ns)) (replicate (65792 - 257 * h) 0), length-replicate {A = ℕ} (65792 - 257 * h) 0, long_is, c.0)

  whole_table : take 65792 (node_rows ns) ≡ node_rows ns
  whole_table = take_all 65792 (node_rows ns) (omega (arith, all_long))

  blank_behind : Blank (node_rows ns) h
  unfolding Blank
  blank_behind = (c.0, ap (drop (257 * h)) (whole_table ∙ table_is) ∙ drop_at (rows_of (take 256 ns)) (replicate (65792 - 257 * h) 0) (257 * h) long_is)

  row_here : (j : ℕ) → j < h → row_at (node_rows ns) j ≡ row_of (get_or ns j zero_node)
  unfolding row_at
  row_here j l =
      ap (λ (t : List ℕ). take 257 (drop (257 * j) t)) table_is
      ∙ row_is (take 256 ns) (replicate (65792 - 257 * h) 0) j s (omega (arith, cap_length ns h c))
      ∙ ap row_of (get_or-take 256 ns j zero_node (omega (arith, c.0)))

-- The records from i up to h are read.
pub record Going (ns : List Node) (h n : ℕ) (ys : List ℕ) (i : ℕ) (zs : List ℕ) : Type 0 where
  pub low : i ≤ h
  pub long : length zs ≡ 265
  pub whole : (j : ℕ) → i ≤ j → j < h → Whole (get_or ns j zero_node)
  pub swept : Sound (take 256 ns) → (S : Restriction) → Started n S ys → Swept n S (node_rows ns) i zs

module _ (ns : List Node) (h n : ℕ) (c : Capped (length ns) h) (ys : List ℕ) (long : length ys ≡ 265) where
  pub going_none : Going ns h n ys h ys
  unfolding Started
  going_none = record { low = omega arith; long = long; whole = λ j a b. absurd (omega arith); swept = λ s S st. st (node_rows ns) h (blank_behind ns h c s) }

  module _ (zs : List ℕ) where
    -- One record more.
    pub going_next : (i j : ℕ) → i ≡ suc j → Going ns h n ys i zs → Whole (get_or ns j zero_node) → (ws : List ℕ) → length ws ≡ length zs
        → ((S : Restriction) (table : List ℕ) → row_at table j ≡ row_of (get_or ns j zero_node) → Swept n S table (suc j) zs → Swept n S table j ws)
        → Going ns h n ys j ws
    going_next i j e g w ws l k = record {
      low = omega (arith, g.low);
      long = l ∙ g.long;
      whole = λ m a b. here m (eq-or-lt_of_le a) b;
      swept = λ s S st. k S (node_rows ns) (row_here ns h c s j (omega (arith, g.low))) (subst (λ (m : ℕ). Swept n S (node_rows ns) m zs) e (g.swept s S st));
    }
      where
        here : (m : ℕ) → (j ≡ m) ⊎ (j < m) → m < h → Whole (get_or ns m zero_node)
        here m (inl a) b = subst (λ (m : ℕ). Whole (get_or ns m zero_node)) a w
        here m (inr a) b = g.whole m (omega arith) b

    -- All are read.
    pub going_all : Going ns h n ys 0 zs → (length (node_rows ns) ≡ 65792) × ((S : Restriction) → Started n S ys → Swept n S (node_rows ns) 0 zs)
    going_all g = (all_long ns h c sound, g.swept sound)
      where
        under : (j : ℕ) → j < length (take 256 ns) → j < 256
        under j l = omega (arith, cap_length ns h c, c.0)

        sound : Sound (take 256 ns)
        sound =
            sound_all (take 256 ns) (λ j l. subst Whole (sym (get_or-take 256 ns j zero_node (under j l))) (g.whole j (omega arith) (omega (arith, cap_length ns h c))))
