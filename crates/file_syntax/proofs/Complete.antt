-- The scanner runs through every file that keeps the rules.
use mathlib.Core.Path.{◌≡◌, refl, sym, subst}
use mathlib.Core.Logic.{inl}
use mathlib.Core.List.{List, [], ◌∷◌, ◌++◌, map, append_assoc, append-nil}
use Prim.Native.Nat.{ℕ, suc, ◌+◌, ◌≤◌, ◌<◌}
use native.Mathlib.Omega.{arith}
use lib.ListN.{length, length-append}
use Rattle.spec_orders.specs.Lists.{All, Distinct, In}
use Rattle.spec_orders.proofs.ListLaws.{all_right}
use Rattle.spec_orders.proofs.Members.{apart}
use Rattle.file_syntax.specs.RingFile.{NameByte, Name, Value, value_word, line, value_lines, file_bytes, Rules}
use Rattle.file_syntax.specs.Scanner.{naming, due, file_start}
use Rattle.file_syntax.proofs.NewNames.{new_room}
use Rattle.file_syntax.proofs.Steps.{name_byte, name_space, name_end, a_value, value_space, value_end, Run, done, then, run-append}

-- The bytes r of a name of which w is read.
name-run : (ns : List (List ℕ)) (w r : List ℕ) → Name (w ++ r) → (In (w ++ r) ns → ⊥) → Run (naming ns w) r (naming ns (w ++ r))
name-run ns w [] k n = subst (λ v. Run (naming ns w) [] (naming ns v)) (sym (append-nil w)) done
name-run ns w (b ∷ r) k n =
    let e : (w ++ (b ∷ [])) ++ r ≡ w ++ (b ∷ r) = append_assoc w (b ∷ []) r in
    let k' = subst Name (sym e) k in
    let n' = subst (λ v. In v ns → ⊥) (sym e) n in
    then (name_byte (all_right NameByte w (b ∷ r) k.each).0 (new_room ns (w ++ (b ∷ [])) (record { rest = r; name = k'; new = n' })))
    (subst (λ v. Run (naming ns (w ++ (b ∷ []))) r (naming ns v)) e (name-run ns (w ++ (b ∷ [])) r k' n'))

-- The names w, ws, where a is read.
names_run : (a : List (List ℕ)) (w : List ℕ) (ws : List (List ℕ)) → All Name (w ∷ ws) → Distinct (a ++ (w ∷ ws)) → length a + length (w ∷ ws) ≤ 256
    → Run (naming a []) (line (w ∷ ws)) (due (a ++ (w ∷ ws)) [] [])
names_run a w [] k d m =
    let n : In w a → ⊥ = λ i. apart w a (w ∷ []) d i (inl refl) in
    run-append (name-run a [] w k.0 n) (then (name_end refl k.0.some_byte n) done)
names_run a w (v ∷ ws) k d m =
    let n : In w a → ⊥ = λ i. apart w a (w ∷ (v ∷ ws)) d i (inl refl) in
    let e : (a ++ (w ∷ [])) ++ (v ∷ ws) ≡ a ++ (w ∷ (v ∷ ws)) = append_assoc a (w ∷ []) (v ∷ ws) in
    run-append (name-run a [] w k.0 n)
    (then (name_space refl k.0.some_byte n (omega arith))
    (subst (λ l. Run (naming (a ++ (w ∷ [])) []) (line (v ∷ ws)) (due l [] [])) e
    (names_run (a ++ (w ∷ [])) v ws k.1 (subst Distinct (sym e) d) (omega (arith, length-append a (w ∷ []))))))

-- The values v, us of a line, where vs is read.
values-run : (ns : List (List ℕ)) (vss : List (List Value)) (vs : List Value) (v : Value) (us : List Value) → length vs + length (v ∷ us) ≡ length ns
    → Run (due ns vss vs) (line (map value_word (v ∷ us))) (due ns (vss ++ ((vs ++ (v ∷ us)) ∷ [])) [])
values-run ns vss vs v [] h =
    let q : suc (length vs) ≡ length ns = omega arith in
    then (a_value {v = v} refl) (then (value_end refl q) done)
values-run ns vss vs v (u ∷ us) h =
    let e : (vs ++ (v ∷ [])) ++ (u ∷ us) ≡ vs ++ (v ∷ (u ∷ us)) = append_assoc vs (v ∷ []) (u ∷ us) in
    let q : suc (length vs) < length ns = omega arith in
    then (a_value {v = v} refl) (then (value_space refl q)
    (subst (λ l. Run (due ns vss (vs ++ (v ∷ []))) (line (map value_word (u ∷ us))) (due ns (vss ++ (l ∷ [])) [])) e
    (values-run ns vss (vs ++ (v ∷ [])) u us (omega (arith, length-append vs (v ∷ []))))))

lines-run : (ns : List (List ℕ)) (a vss : List (List Value)) → 1 ≤ length ns → All (λ vs. length vs ≡ length ns) vss
    → Run (due ns a []) (value_lines vss) (due ns (a ++ vss) [])
lines-run ns a [] h k = subst (λ l. Run (due ns a []) [] (due ns l [])) (sym (append-nil a)) done
lines-run ns a ([] ∷ vss) h k = absurd (omega (arith, k.0))
lines-run ns a ((v ∷ vs) ∷ vss) h k =
    run-append (values-run ns a [] v vs (omega (arith, k.0)))
    (subst (λ l. Run (due ns (a ++ ((v ∷ vs) ∷ [])) []) (value_lines vss) (due ns l [])) (append_assoc a ((v ∷ vs) ∷ []) vss) (lines-run ns (a ++ ((v ∷ vs) ∷ [])) vss h k.1))

pub file_run : (ns : List (List ℕ)) (vss : List (List Value)) → Rules ns vss → Run file_start (file_bytes ns vss) (due ns vss [])
file_run [] vss r = absurd (omega (arith, r.names.some_name))
file_run (w ∷ ws) vss r =
    run-append (names_run [] w ws r.names.each r.names.different (omega (arith, r.names.few_names))) (lines-run (w ∷ ws) [] vss (omega arith) r.values)
