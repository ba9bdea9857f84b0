-- The cursor over the whole file.
use mathlib.Core.Path.{◌≡◌, refl, sym, ◌∙◌, ap, subst}
use mathlib.Core.List.{List, [], ◌∷◌, ◌++◌}
use mathlib.Core.Option.{Option, none, some}
use Prim.Native.Nat.{ℕ, suc, ◌+◌, ◌≤◌, ◌<◌}
use native.Mathlib.Omega.{arith}
use native.Mathlib.Numerals.{add-one}
use lib.ListN.{length, length-take, take, drop, get_or, take-append-drop}
use lib.Seq.{take-suc, drop-cons, take_all}
use Rattle.spec_calls.specs.declared.Refusal.TheVariants.{RingFile}
use Rattle.std.specs.Prelude.{Bool, true, IsTrue, Option as Maybe, Some, None}
use Rattle.file_read.specs.RingFile.{Value, FileRefused, FileHolds, Says, told_of, malformed}
use Rattle.file_read.specs.Reach.{CursorReaches}
use Rattle.file_cursor.specs.declared.Phase.TheVariants.{Names, Due, Got}
use Rattle.file_syntax.specs.Scanner.{FileState, naming, due, got, file_start, file_step}
use Rattle.file_cursor.specs.Cursors.{CursorStands, Stepped, Advances}
use Rattle.file_cursor.specs.declared.Cursor.{Cursor}
use Rattle.file_syntax.proofs.Steps.{Run, done, then, run-append, step_relates}
use Rattle.file_syntax.proofs.Reached.{ok_start, run-text, run_ok}
use Rattle.file_syntax.proofs.Exact.{bad_byte, whole_file, too_short}

pub reach_start : (x : List ℕ) (c : Cursor) → CursorStands c file_start → CursorReaches x 0 c
reach_start x c h = record { state = file_start; run = done; stands = h }

module _ (x : List ℕ) (i : ℕ) (c : Cursor) (inside : i < length x) (k : CursorReaches x i c) where
  came : (r : Maybe Cursor) → Advances x i c r → Stepped r (file_step k.state (get_or x i 0))
  came r h = h k.state (run_ok k.run ok_start) (sym (run-text k.run)) k.stands

  pub reach_next : (r : Cursor) → Advances x i c (Some r) → CursorReaches x (i + 1) r
  reach_next r h = go (file_step k.state (get_or x i 0)) refl (came (Some r) h)
    where
      go : (o : Option FileState) → file_step k.state (get_or x i 0) ≡ o → Stepped (Some r) o → CursorReaches x (i + 1) r
      go none e q = absurd q
      go (some t) e q = record {
        state = t;
        run =
            subst (λ l. Run file_start l t) (sym (ap (λ j. take j x) (add-one i) ∙ take-suc x i 0 inside)) (run-append k.run (then (step_relates k.state (get_or x i 0) t e) done));
        stands = q;
      }

  pub says_bad : length x ≤ 65536 → Advances x i c None → Says x (told_of (RingFile i))
  says_bad l h =
      malformed l (at_end_of (bad_byte k.state (take i x) (get_or x i 0) (drop (suc i) x) k.run (none_of (file_step k.state (get_or x i 0)) (came None h))))
    where
      none_of : (o : Option FileState) → Stepped None o → o ≡ none
      none_of none q = refl
      none_of (some t) q = absurd q

      at_end_of : FileRefused (take i x ++ (get_or x i 0 ∷ drop (suc i) x)) (length (take i x)) → FileRefused x i
      at_end_of w =
          let e : take i x ++ (get_or x i 0 ∷ drop (suc i) x) ≡ x = ap (λ l. take i x ++ l) (sym (drop-cons x i 0 inside)) ∙ take-append-drop i x in
          let n : length (take i x) ≡ i = omega (arith, length-take i x) in
          subst (λ j. FileRefused x j) n (subst (λ l. FileRefused l (length (take i x))) e w)

module _ (x : List ℕ) (c : Cursor) (l : length x ≤ 65536) (k : CursorReaches x (length x) c) where
  ran : Run file_start x k.state
  ran = subst (λ z. Run file_start z k.state) (take_all (length x) x (omega arith)) k.run

  whole_holds : c.phase ≡ Due → c.got ≡ 0 → FileHolds x c.names c.start c.lines
  whole_holds p g = go k.state k.stands ran
    where
      go : (s : FileState) → CursorStands c s → Run file_start x s → FileHolds x c.names c.start c.lines
      go (naming ns w) q r = absurd (apart (sym p ∙ q.0))
        where
          apart : Due ≡ Names → ⊥
          apart e = cc
      go (due ns vss []) q r =
          let f = whole_file ns vss x r in
          record { ns = ns; vss = vss; rules = f.0; bytes = f.1; size = l; leaves = q.1; head = q.2; lines = q.4 }
      go (due ns vss (v ∷ vs)) q r = absurd (omega (arith, q.3))
      go (got ns vss vs v) q r = absurd (apart (sym p ∙ q.0))
        where
          apart : Due ≡ Got → ⊥
          apart e = cc

  pub ended_holds : {t : Bool} → t ≡ true → (IsTrue t → (c.phase ≡ Due) × (c.got ≡ 0)) → FileHolds x c.names c.start c.lines
  ended_holds e h = let end = h e in whole_holds end.0 end.1

  pub says_short : ((c.phase ≡ Due) × (c.got ≡ 0) → ⊥) → Says x (told_of (RingFile (length x)))
  says_short n =
      malformed l (too_short k.state x ran (λ ns vss e. go ns vss (subst (CursorStands c) e k.stands)))
    where
      go : (ns : List (List ℕ)) (vss : List (List Value)) → CursorStands c (due ns vss []) → ⊥
      go ns vss q = n (q.0, q.3)
