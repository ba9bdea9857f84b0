-- A state tells the bytes that led to it, and each state that is reached can go on to an accepted file.
use mathlib.Core.Path.{◌≡◌, refl, sym, ◌∙◌, ap, subst}
use mathlib.Core.List.{List, [], ◌∷◌, ◌++◌, map, append_assoc, append-nil, map-append}
use Prim.Native.Nat.{ℕ, ◌+◌, ◌-◌, ◌≤◌}
use native.Mathlib.Omega.{arith}
use lib.ListN.{length, length-append, replicate, length-replicate}
use Rattle.spec_orders.specs.Lists.{All, Distinct, In}
use Rattle.spec_orders.proofs.ListLaws.{all_append}
use Rattle.file_syntax.specs.RingFile.{NameByte, Name, Value, off, value_word, further, line, value_lines, file_bytes, Accepted}
use Rattle.spec_orders.specs.FirstByte.{Begun}
use Rattle.spec_orders.proofs.FirstByte.{begun_part}
use Rattle.file_syntax.specs.Words.{spaced}
use Rattle.file_syntax.specs.Scanner.{FileState, naming, due, got, file_start, text, Naming, Due, Ok}
use Rattle.file_syntax.proofs.Lists.{distinct_snoc}
use Rattle.file_syntax.proofs.NewNames.{room_new, short}
use Rattle.file_syntax.proofs.Steps.{Step, name_byte, name_space, name_end, a_value, value_space, value_end, Run, done, then}

more_parts : (a : List (List ℕ)) (w : List ℕ) (c : List (List ℕ)) → further (a ++ (w ∷ c)) ≡ 32 ∷ (spaced a ++ line (w ∷ c))
more_parts [] w c = refl
more_parts (x ∷ a) w c = ap (λ l. 32 ∷ (x ++ l)) (more_parts a w c) ∙ ap (λ l. 32 ∷ l) (sym (append_assoc x (32 ∷ spaced a) (line (w ∷ c))))

pub line-parts : (a : List (List ℕ)) (w : List ℕ) (c : List (List ℕ)) → line (a ++ (w ∷ c)) ≡ spaced a ++ line (w ∷ c)
line-parts [] w c = refl
line-parts (x ∷ a) w c = ap (λ l. x ++ l) (more_parts a w c) ∙ sym (append_assoc x (32 ∷ spaced a) (line (w ∷ c)))

pub spaced_snoc : (a : List (List ℕ)) (w : List ℕ) → spaced (a ++ (w ∷ [])) ≡ spaced a ++ (w ++ (32 ∷ []))
spaced_snoc [] w = refl
spaced_snoc (x ∷ a) w = ap (λ l. x ++ (32 ∷ l)) (spaced_snoc a w) ∙ sym (append_assoc x (32 ∷ spaced a) (w ++ (32 ∷ [])))

lines_snoc : (vss : List (List Value)) (vs : List Value) → value_lines (vss ++ (vs ∷ [])) ≡ value_lines vss ++ line (map value_word vs)
lines_snoc [] vs = append-nil (line (map value_word vs))
lines_snoc (us ∷ vss) vs =
    ap (λ l. line (map value_word us) ++ l) (lines_snoc vss vs)
    ∙ sym (append_assoc (line (map value_word us)) (value_lines vss) (line (map value_word vs)))

file_snoc : (ns : List (List ℕ)) (vss : List (List Value)) (vs : List Value)
    → file_bytes ns (vss ++ (vs ∷ [])) ≡ file_bytes ns vss ++ line (map value_word vs)
file_snoc ns vss vs = ap (λ l. line ns ++ l) (lines_snoc vss vs) ∙ sym (append_assoc (line ns) (value_lines vss) (line (map value_word vs)))

values-parts : (vs : List Value) (v : Value) (us : List Value)
    → line (map value_word (vs ++ (v ∷ us))) ≡ spaced (map value_word vs) ++ (value_word v ++ further (map value_word us))
values-parts vs v us = ap line (map-append value_word vs (v ∷ us)) ∙ line-parts (map value_word vs) (value_word v) (map value_word us)

-- A step adds its byte.
pub text_step : {s : FileState} {b : ℕ} {t : FileState} → Step s b t → text t ≡ text s ++ (b ∷ [])
text_step (name_byte {ns = ns} {w = w} {b = b} h r) = sym (append_assoc (spaced ns) w (b ∷ []))
text_step (name_space {ns = ns} {w = w} {b = b} e h n f) =
    append-nil (spaced (ns ++ (w ∷ []))) ∙ spaced_snoc ns w ∙ sym (append_assoc (spaced ns) w (32 ∷ []))
    ∙ ap (λ c. (spaced ns ++ w) ++ (c ∷ [])) (sym e)
text_step (name_end {ns = ns} {w = w} {b = b} e h n) =
    append-nil (line (ns ++ (w ∷ [])) ++ []) ∙ append-nil (line (ns ++ (w ∷ []))) ∙ line-parts ns w [] ∙ sym (append_assoc (spaced ns) w (10 ∷ []))
    ∙ ap (λ c. (spaced ns ++ w) ++ (c ∷ [])) (sym e)
text_step (a_value {ns = ns} {vss = vss} {vs = vs} {v = v} {b = b} e) =
    sym (append_assoc (file_bytes ns vss) (spaced (map value_word vs)) (value_word v))
    ∙ ap (λ c. (file_bytes ns vss ++ spaced (map value_word vs)) ++ (c ∷ [])) (sym e)
text_step (value_space {ns = ns} {vss = vss} {vs = vs} {v = v} {b = b} e h) =
    ap (λ l. file_bytes ns vss ++ l) (ap spaced (map-append value_word vs (v ∷ [])) ∙ spaced_snoc (map value_word vs) (value_word v) ∙ sym (append_assoc (spaced (map value_word vs)) (value_word v) (32 ∷ [])))
    ∙ sym (append_assoc (file_bytes ns vss) (spaced (map value_word vs) ++ value_word v) (32 ∷ []))
    ∙ ap (λ c. (file_bytes ns vss ++ (spaced (map value_word vs) ++ value_word v)) ++ (c ∷ [])) (sym e)
text_step (value_end {ns = ns} {vss = vss} {vs = vs} {v = v} {b = b} e h) =
    append-nil (file_bytes ns (vss ++ ((vs ++ (v ∷ [])) ∷ []))) ∙ file_snoc ns vss (vs ++ (v ∷ []))
    ∙ ap (λ l. file_bytes ns vss ++ l) (values-parts vs v [] ∙ sym (append_assoc (spaced (map value_word vs)) (value_word v) (10 ∷ [])))
    ∙ sym (append_assoc (file_bytes ns vss) (spaced (map value_word vs) ++ value_word v) (10 ∷ []))
    ∙ ap (λ c. (file_bytes ns vss ++ (spaced (map value_word vs) ++ value_word v)) ++ (c ∷ [])) (sym e)

pub ok_start : Ok file_start
ok_start = record { few = omega arith; each = tt; different = tt; bytes = tt; open_end = short [] [] tt (omega arith) (omega arith) }

-- The begun name is whole.
module _ (ns : List (List ℕ)) (w : List ℕ) (k : Naming ns w) (h : 1 ≤ length w) (n : In w ns → ⊥) where
  all_names : All Name (ns ++ (w ∷ []))
  all_names =
      all_append Name ns (w ∷ []) k.each (record { some_byte = h; few_bytes = omega (arith, k.open_end.name.few_bytes, length-append w k.open_end.rest); each = k.bytes }, tt)

  all_differ : Distinct (ns ++ (w ∷ []))
  all_differ = distinct_snoc ns w k.different n

pub ok_step : {s : FileState} {b : ℕ} {t : FileState} → Step s b t → Ok s → Ok t
ok_step (name_byte {ns = ns} {w = w} {b = b} h r) k =
    let bs = all_append NameByte w (b ∷ []) k.bytes (h, tt) in
    record { few = k.few; each = k.each; different = k.different; bytes = bs; open_end = room_new ns (w ++ (b ∷ [])) bs k.few r }
ok_step (name_space {ns = ns} {w = w} e h n f) k =
    let few : length (ns ++ (w ∷ [])) ≤ 255 = omega (arith, length-append ns (w ∷ [])) in
    record { few = few; each = all_names ns w k h n; different = all_differ ns w k h n; bytes = tt; open_end = short (ns ++ (w ∷ [])) [] tt few (omega arith) }
ok_step (name_end {ns = ns} {w = w} e h n) k =
    record {
      rules = record {
        names = record {
          some_name = omega (arith, length-append ns (w ∷ []));
          few_names = omega (arith, length-append ns (w ∷ []), k.few);
          each = all_names ns w k h n;
          different = all_differ ns w k h n;
        };
        values = tt;
      };
      left = omega (arith, length-append ns (w ∷ []));
    }
ok_step (a_value e) k = k
ok_step (value_space {vs = vs} {v = v} e h) k = record { rules = k.rules; left = omega (arith, length-append vs (v ∷ [])) }
ok_step (value_end {ns = ns} {vss = vss} {vs = vs} {v = v} e h) k =
    record {
      rules = record {
        names = k.rules.names;
        values =
            all_append (λ us. length us ≡ length ns) vss ((vs ++ (v ∷ [])) ∷ []) k.rules.values (omega (arith, length-append vs (v ∷ [])), tt);
      };
      left = omega (arith, k.rules.names.some_name);
    }

pub run-text : {s : FileState} {x : List ℕ} {t : FileState} → Run s x t → text t ≡ text s ++ x
run-text (done {s = s}) = sym (append-nil (text s))
run-text (then {s = s} {b = b} {x = x} k r) = run-text r ∙ ap (λ l. l ++ x) (text_step k) ∙ append_assoc (text s) (b ∷ []) x

pub run_ok : {s : FileState} {x : List ℕ} {t : FileState} → Run s x t → Ok s → Ok t
run_ok done k = k
run_ok (then j r) k = run_ok r (ok_step j k)

-- A state with a value due or got: the line is filled up with zeros.
filled : (ns : List (List ℕ)) (vss : List (List Value)) (vs : List Value) (v : Value) → Due ns vss vs
    → Begun Accepted (file_bytes ns vss ++ (spaced (map value_word vs) ++ value_word v))
filled ns vss vs v k = (
  further (map value_word us),
  record {
    ns = ns;
    vss = vss ++ ((vs ++ (v ∷ us)) ∷ []);
    rules = record {
      names = k.rules.names;
      values = all_append (λ l. length l ≡ length ns) vss ((vs ++ (v ∷ us)) ∷ []) k.rules.values (full, tt);
    };
    bytes = append_assoc (file_bytes ns vss) (spaced (map value_word vs) ++ value_word v) (further (map value_word us))
        ∙ ap (λ l. file_bytes ns vss ++ l) (append_assoc (spaced (map value_word vs)) (value_word v) (further (map value_word us)) ∙ sym (values-parts vs v us))
        ∙ sym (file_snoc ns vss (vs ++ (v ∷ us)));
  },
)
  where
    us : List Value
    us = replicate (length ns - (length vs + 1)) off

    full : length (vs ++ (v ∷ us)) ≡ length ns
    full = omega (arith, length-append vs (v ∷ us), length-replicate (length ns - (length vs + 1)) off, k.left)

-- A state with a begun name: the name is made whole, and the line ends.
named : (ns : List (List ℕ)) (w : List ℕ) → Naming ns w → Begun Accepted (spaced ns ++ w)
named ns w k = (
  k.open_end.rest ++ (10 ∷ []),
  record {
    ns = ns ++ (v ∷ []);
    vss = [];
    rules = record {
      names = record {
        some_name = omega (arith, length-append ns (v ∷ []));
        few_names = omega (arith, length-append ns (v ∷ []), k.few);
        each = all_append Name ns (v ∷ []) k.each (k.open_end.name, tt);
        different = distinct_snoc ns v k.different k.open_end.new;
      };
      values = tt;
    };
    bytes = append_assoc (spaced ns) w (k.open_end.rest ++ (10 ∷ []))
        ∙ ap (λ l. spaced ns ++ l) (sym (append_assoc w k.open_end.rest (10 ∷ [])))
        ∙ sym (line-parts ns v [])
        ∙ sym (append-nil (line (ns ++ (v ∷ []))));
  },
)
  where
    v : List ℕ
    v = w ++ k.open_end.rest

-- Each such state goes on to an accepted file.
pub ok_begun : (s : FileState) → Ok s → Begun Accepted (text s)
ok_begun (naming ns w) k = named ns w k
ok_begun (due ns vss vs) k =
    begun_part Accepted (file_bytes ns vss ++ spaced (map value_word vs)) (value_word off)
    (subst (Begun Accepted) (sym (append_assoc (file_bytes ns vss) (spaced (map value_word vs)) (value_word off))) (filled ns vss vs off k))
ok_begun (got ns vss vs v) k = filled ns vss vs v k
