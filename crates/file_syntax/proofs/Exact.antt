-- The scanner's answer is the right one: an accepted file with its parts, or the byte of the refusal; and the bytes decide both.
use mathlib.Core.Path.{◌≡◌, refl, sym, ◌∙◌, ap, subst}
use mathlib.Core.List.{List, [], ◌∷◌, ◌++◌, append_assoc, append-nil}
use mathlib.Core.Option.{none, some}
use Prim.Native.Nat.{ℕ, suc}
use native.Mathlib.Omega.{arith}
use lib.ListN.{length, length-append, take}
use lib.Seq.{take_at, take-append_seam}
use Rattle.file_syntax.specs.RingFile.{Value, file_bytes, Rules, Accepted, FileRefused}
use Rattle.spec_orders.specs.FirstByte.{Begun, at_byte, at_end}
use Rattle.file_syntax.specs.Scanner.{FileState, due, file_start, file_step}
use Rattle.file_syntax.proofs.Steps.{relation_steps, Run, then, run_after, run_ends}
use Rattle.file_syntax.proofs.Reached.{ok_start, run-text, run_ok, ok_begun}
use Rattle.file_syntax.proofs.Complete.{file_run}

-- After the bytes y, an accepted file y ++ z runs on through z.
runs_on : (s : FileState) (y z : List ℕ) → Run file_start y s → (a : Accepted (y ++ z)) → Run s z (due a.ns a.vss [])
runs_on s y z r a = run_after r (subst (λ l. Run file_start l (due a.ns a.vss [])) (sym a.bytes) (file_run a.ns a.vss a.rules))

begun_so : (y : List ℕ) (s : FileState) → Run file_start y s → Begun Accepted y
begun_so y s r = subst (Begun Accepted) (run-text r) (ok_begun s (run_ok r ok_start))

-- The next byte leads nowhere.
pub bad_byte : (s : FileState) (y : List ℕ) (b : ℕ) (x : List ℕ) → Run file_start y s → file_step s b ≡ none → FileRefused (y ++ (b ∷ x)) (length y)
bad_byte s y b x r e =
    at_byte (omega (arith, length-append y (b ∷ x))) (subst (Begun Accepted) (sym (take-append_seam y (b ∷ x))) (begun_so y s r))
    (λ g. stuck g.0 (subst Accepted (append_assoc y (b ∷ []) g.0) (subst (λ l. Accepted (l ++ g.0)) up_to g.1)))
  where
    up_to : take (suc (length y)) (y ++ (b ∷ x)) ≡ y ++ (b ∷ [])
    up_to =
        ap (λ l. take (suc (length y)) l) (sym (append_assoc y (b ∷ []) x))
        ∙ take_at (y ++ (b ∷ [])) x (suc (length y)) (omega (arith, length-append y (b ∷ [])))

    no_step : {u : FileState} {z : List ℕ} → Run s (b ∷ z) u → ⊥
    no_step (then k q) = let c : none ≡ some _ = sym e ∙ relation_steps k in let d : ◌≡◌ {A = ℕ} 0 1 = cc in omega arith

    stuck : (z : List ℕ) → Accepted (y ++ (b ∷ z)) → ⊥
    stuck z a = no_step (runs_on s y (b ∷ z) r a)

-- The file ends: it is accepted in the state of a whole file, and in no other.
pub whole_file : (ns : List (List ℕ)) (vss : List (List Value)) (x : List ℕ) → Run file_start x (due ns vss []) → Rules ns vss × (x ≡ file_bytes ns vss)
whole_file ns vss x r = ((run_ok r ok_start).rules, sym (run-text r) ∙ append-nil (file_bytes ns vss))

pub too_short : (s : FileState) (x : List ℕ) → Run file_start x s → ((ns : List (List ℕ)) (vss : List (List Value)) → s ≡ due ns vss [] → ⊥)
    → FileRefused x (length x)
too_short s x r h =
    at_end refl (begun_so x s r) (λ a. let b = subst Accepted (sym (append-nil x)) a in h b.ns b.vss (run_ends (runs_on s x [] r b)))

-- The bytes tell the parts.
pub parts_once : (ns ms : List (List ℕ)) (vss uss : List (List Value)) → Rules ns vss → Rules ms uss → file_bytes ns vss ≡ file_bytes ms uss
    → (ns ≡ ms) × (vss ≡ uss)
parts_once ns ms vss uss r s e =
    let q = run_ends (runs_on (due ns vss []) (file_bytes ns vss) [] (file_run ns vss r) (record { ns = ms; vss = uss; rules = s; bytes = append-nil (file_bytes ns vss) ∙ e })) in
    (cc q, cc q)
