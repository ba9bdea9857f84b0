-- What is loaded and stored with no change comes back as it was.
use Prim.Native.Nat.{ℕ, zero, suc, ◌+◌, ◌*◌, ◌<◌, ◌≤◌, ◌%◌}
use native.Mathlib.Nat.{mod-eq_of_lt}
use native.Mathlib.Omega.{arith}
use mathlib.Core.Path.{◌≡◌, refl, sym, ◌∙◌, ap}
use mathlib.Core.List.{List, [], ◌∷◌, ◌++◌, append_assoc}
use lib.ListN.{length, get_or, take, drop, take-append-drop}
use lib.Seq.{take_at, take-suc, take_all, get_or-drop, drop-append-add}
use Rattle.record_copy.specs.declared.Node.{Node}
use Rattle.record_copy.specs.Rows.{zero_node, row_of, rows_of, node_at, nodes_of, node_rows, with_rows, Sound}

-- the first row of a list that begins with a record's row is that record
at_first : (n : Node) (l : List ℕ) → n.kind < 256 → length n.items ≡ 255 → node_at (row_of n ++ l) 0 ≡ n
unfolding node_at
at_first n l k e = λ i. record { kind = mod-eq_of_lt k i; count = n.count; items = take_at n.items l 255 e i }

-- one row further on is one row less of what follows
at_next : (n : Node) (l : List ℕ) (i : ℕ) → length n.items ≡ 255 → node_at (row_of n ++ l) (suc i) ≡ node_at l i
unfolding node_at
at_next n l i e =
    let R : List ℕ = row_of n in
    let far : (k : ℕ) → drop (257 + k) (R ++ l) ≡ drop k l = λ k. ap (λ (m : ℕ). drop (suc (suc m) + k) (R ++ l)) (sym e) ∙ drop-append-add R l k in
    let z : (k : ℕ) → k + 0 ≡ k = λ k. omega arith in
    let one : (k : ℕ) → get_or (R ++ l) (257 + k) 0 ≡ get_or l k 0 = λ k. sym (get_or-drop (257 + k) (R ++ l) 0 0 ∙ ap (λ (m : ℕ). get_or (R ++ l) m 0) (z (257 + k))) ∙ ap (λ (m : List ℕ). get_or m 0 0) (far k) ∙ get_or-drop k l 0 0 ∙ ap (λ (m : ℕ). get_or l m 0) (z k) in
    let s₀ : suc i * 257 ≡ 257 + i * 257 = omega arith in
    let s₁ : suc i * 257 + 1 ≡ 257 + (i * 257 + 1) = omega arith in
    let s₂ : suc i * 257 + 2 ≡ 257 + (i * 257 + 2) = omega arith in
    let k₀ : get_or (R ++ l) (suc i * 257) 0 ≡ get_or l (i * 257) 0 = ap (λ (m : ℕ). get_or (R ++ l) m 0) s₀ ∙ one (i * 257) in
    let k₁ : get_or (R ++ l) (suc i * 257 + 1) 0 ≡ get_or l (i * 257 + 1) 0 = ap (λ (m : ℕ). get_or (R ++ l) m 0) s₁ ∙ one (i * 257 + 1) in
    let k₂ : drop (suc i * 257 + 2) (R ++ l) ≡ drop (i * 257 + 2) l = ap (λ (m : ℕ). drop m (R ++ l)) s₂ ∙ far (i * 257 + 2) in
    λ j. record { kind = k₀ j % 256; count = k₁ j; items = take 255 (k₂ j) }

at_row : (ns : List Node) (l : List ℕ) (i : ℕ) → Sound ns → i < length ns → node_at (rows_of ns ++ l) i ≡ get_or ns i zero_node
unfolding rows_of Sound
at_row [] l i s h = elim h [ ]
at_row (n ∷ ns) l zero s h = ap (λ (m : List ℕ). node_at m 0) (append_assoc (row_of n) (rows_of ns) l) ∙ at_first n (rows_of ns ++ l) s.0.0 s.0.1
at_row (n ∷ ns) l (suc i) s h = ap (λ (m : List ℕ). node_at m (suc i)) (append_assoc (row_of n) (rows_of ns) l) ∙ at_next n (rows_of ns ++ l) i s.0.1 ∙ at_row ns l i s.1 (omega arith)

pub of_rows : (ns : List Node) (l : List ℕ) (i : ℕ) → Sound ns → i ≤ length ns → nodes_of (rows_of ns ++ l) i ≡ take i ns
unfolding nodes_of
of_rows ns l zero s h = refl
of_rows ns l (suc i) s h = ap (λ (m : List Node). m ++ (node_at (rows_of ns ++ l) i ∷ [])) (of_rows ns l i s (omega arith)) ∙ ap (λ (m : Node). take i ns ++ (m ∷ [])) (at_row ns l i s (omega arith)) ∙ sym (take-suc ns i zero_node (omega arith))

-- what was loaded comes back as it was
pub kept : (ns : List Node) → Sound (take 256 ns) → with_rows (node_rows ns) ns ≡ ns
unfolding node_rows with_rows
kept ns s = ap (λ (m : List Node). m ++ drop 256 ns) (of_rows (take 256 ns) _ (length (take 256 ns)) s (omega arith) ∙ take_all (length (take 256 ns)) (take 256 ns) (omega arith)) ∙ take-append-drop 256 ns
