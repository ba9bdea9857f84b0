-- Writing to the start of a slice: nothing, one value, zeros, and one text after another.
use mathlib.Core.Path.{◌≡◌, refl, sym, ap, subst, ◌∙◌}
use mathlib.Core.List.{List, [], ◌∷◌, ◌++◌, append_assoc, append-nil}
use Prim.Native.Nat.{ℕ, suc, ◌+◌, ◌-◌, ◌≤◌, ◌<◌}
use native.Mathlib.Omega.{arith}
use native.Mathlib.Numerals.{add-one}
use lib.ListN.{length, take, drop, get_or, set, replicate, length-append, length-drop, length-replicate, drop_of_length-le}
use lib.Seq.{take-append_seam, drop-append_seam, drop-drop, drop-cons, set_at, length-take-le, append_snoc, take-suc, take-length}
use borrow.Rule.Slice.PartMut.{put_mid}
use Rattle.tree_tokens.specs.Tokens.{Wrote}
use Rattle.spec_orders.proofs.ListLaws.{part_to_end}

pub wrote_none : (old : List ℕ) → Wrote [] old old 0
wrote_none old = record { many = refl; text = refl }

pub wrote_one : (x : ℕ) (old : List ℕ) → 0 < length old → Wrote (x ∷ []) old (set old 0 x) 1
wrote_one x [] h = absurd (omega arith)
wrote_one x (y ∷ ys) h = record { many = refl; text = refl }

-- A text, then another in the part after it.
pub wrote_then : {xs ys old mid part : List ℕ} {k j : ℕ} → Wrote xs old mid k → Wrote ys (take (length mid - k) (drop k mid)) part j
    → Wrote (xs ++ ys) old (put_mid k (length mid - k) mid part) (k + j)
wrote_then {xs} {ys} {old} {mid} {part} {k} {j} a b = record {
  many = omega (arith, a.many, b.many, length-append xs ys);
  text = text;
}
  where
    front : take k mid ≡ xs
    front = rw (a.text, a.many) (take-append_seam xs _)

    back : drop k mid ≡ drop (length xs) old
    back = rw (a.text, a.many) (drop-append_seam xs _)

    mid_part : part ≡ ys ++ drop (length (xs ++ ys)) old
    mid_part = b.text ∙ ap (λ (l : List ℕ). ys ++ drop (length ys) l) (part_to_end mid k ∙ back) ∙ ap (λ (l : List ℕ). ys ++ l) (drop-drop (length ys) (length xs) old ∙ rw length-append)

    none : drop (length mid - k) (drop k mid) ≡ []
    none = drop_of_length-le (drop k mid) {i = length mid - k} (omega (arith, length-drop k mid))

    text : take k mid ++ (part ++ drop (length mid - k) (drop k mid)) ≡ (xs ++ ys) ++ drop (length (xs ++ ys)) old
    text = rw (none, front, append-nil, append_assoc) (ap (λ (l : List ℕ). xs ++ l) mid_part)

-- A text, then another put into the j places after it; zeros that fill them.
pub wrote_part : {xs ys old mid part : List ℕ} {k j : ℕ} → Wrote xs old mid k → part ≡ ys → length ys ≡ j → Wrote (xs ++ ys) old (put_mid k j mid part) (k + j)
wrote_part {xs} {ys} {old} {mid} {part} {k} {j} a e long = record {
  many = omega (arith, a.many, long, length-append xs ys);
  text = rw (front, back, e, drop-drop, length-append, long, append_assoc) refl;
}
  where
    front : take k mid ≡ xs
    front = rw (a.text, a.many) (take-append_seam xs _)

    back : drop k mid ≡ drop (length xs) old
    back = rw (a.text, a.many) (drop-append_seam xs _)

pub wrote_filled : {xs old mid part : List ℕ} {k : ℕ} (j : ℕ) → Wrote xs old mid k → k + j ≤ length mid → part ≡ replicate (length (take j (drop k mid))) 0
    → Wrote (xs ++ replicate j 0) old (put_mid k j mid part) (k + j)
wrote_filled {mid = mid} {k = k} j a fits e =
    let room : length (take j (drop k mid)) ≡ j = length-take-le j (drop k mid) (omega (arith, length-drop k mid)) in
    wrote_part a (e ∙ ap (λ (n : ℕ). replicate n 0) room) (length-replicate {A = ℕ} j 0)

-- One more value, at index i.
pub write_step : (xs d : List ℕ) (i v : ℕ) → length xs ≡ i → i < length d → set (xs ++ drop i d) i v ≡ (xs ++ (v ∷ [])) ++ drop (i + 1) d
write_step xs d i v e h =
    ap (λ (l : List ℕ). set (xs ++ l) i v) (drop-cons d i 0 h)
    ∙ set_at xs (get_or d i 0) (drop (suc i) d) v i e
    ∙ sym (append_snoc xs v (drop (suc i) d))
    ∙ rw add-one

pub take_more : (s : List ℕ) (i : ℕ) → i < length s → take (i + 1) s ≡ take i s ++ (get_or s i 0 ∷ [])
take_more s i h = rw (add-one, take-suc s i 0 h)

pub copy_step : (s d : List ℕ) (i : ℕ) → i < length s → i < length d → set (take i s ++ drop i d) i (get_or s i 0) ≡ take (i + 1) s ++ drop (i + 1) d
copy_step s d i hs hd = write_step (take i s) d i (get_or s i 0) (length-take-le i s (omega arith)) hd ∙ rw (take_more s i hs)

pub wrote_all : (s old new : List ℕ) (i : ℕ) → i ≡ length s → new ≡ take i s ++ drop i old → Wrote s old new i
wrote_all s old new i e h = record { many = e; text = h ∙ rw (e, take-length) }

-- What was written, and a byte after it.
pub wrote_byte : {xs old new : List ℕ} {k : ℕ} (v : ℕ) → Wrote xs old new k → length xs < length old → Wrote (xs ++ (v ∷ [])) old (set new k v) (k + 1)
wrote_byte {xs} {old} {new} {k} v w h =
    let n : length (xs ++ (v ∷ [])) ≡ length xs + 1 = omega (arith, length-append xs (v ∷ [])) in
    let e : set new k v ≡ (xs ++ (v ∷ [])) ++ drop (length xs + 1) old = rw (w.text, w.many) (write_step xs old (length xs) v refl h) in
    record { many = omega (arith, w.many); text = e ∙ rw n }

-- A text after the first place, and then the first place.
pub wrote_head : (h : ℕ) {xs part : List ℕ} {k : ℕ} (old : List ℕ) → 0 < length old → Wrote xs (take (length old - 1) (drop 1 old)) part k
    → Wrote (h ∷ xs) old (set (put_mid 1 (length old - 1) old part) 0 h) (1 + k)
wrote_head h [] ne w = absurd (omega arith)
wrote_head h (y ∷ ys) ne w = wrote_then {old = y ∷ ys} {mid = h ∷ ys} {k = 1} (wrote_one h (y ∷ ys) ne) w

-- What was written, read back.
pub read_back : {xs old new : List ℕ} {k : ℕ} → Wrote xs old new k → take k new ≡ xs
read_back {xs} {old} w = rw (w.text, w.many) (take-append_seam xs _)

pub read_part : {xs old new : List ℕ} {k : ℕ} → Wrote xs old new k → take (k - 0) (drop 0 new) ≡ xs
read_part {xs} {old} {new} {k} w =
    let n : k - 0 ≡ k = omega arith in
    rw n (read_back w)

pub wrote_most : {xs old new : List ℕ} {k : ℕ} → Wrote xs old new k → k ≤ length new
wrote_most {xs} {old} w = omega (arith, w.many, ap length w.text, length-append xs (drop (length xs) old))

-- Of the list `all`, k numbers were written to the start of old, which made it new; `rest` is left.
pub record Written (all rest old new : List ℕ) (k : ℕ) : Type 0 where
  pub done : List ℕ
  pub wrote : Wrote done old new k
  pub whole : all ≡ done ++ rest

pub written_start : (all old : List ℕ) → Written all all old old 0
written_start all old = record { done = []; wrote = wrote_none old; whole = refl }

pub written_end : {all old new : List ℕ} {k : ℕ} → Written all [] old new k → Wrote all old new k
written_end {old = old} {new} {k} g = subst (λ (l : List ℕ). Wrote l old new k) (sym (g.whole ∙ append-nil g.done)) g.wrote

pub written_same : {all rest old new : List ℕ} {k : ℕ} (rest' : List ℕ) → rest ≡ rest' → Written all rest old new k → Written all rest' old new k
written_same rest' e g = record { done = g.done; wrote = g.wrote; whole = g.whole ∙ ap (λ (l : List ℕ). g.done ++ l) e }

-- One number more; a part more.
pub written_one : {all rest old new : List ℕ} {k : ℕ} (v : ℕ) (rest' : List ℕ) → k < length old → rest ≡ v ∷ rest' → Written all rest old new k
    → Written all rest' old (set new k v) (k + 1)
written_one {old = old} {new} {k} v rest' n e g =
    let m : length (g.done ++ (v ∷ [])) ≡ k + 1 = omega (arith, g.wrote.many, length-append g.done (v ∷ [])) in
    let t : new ≡ g.done ++ drop k old = g.wrote.text ∙ ap (λ (x : ℕ). g.done ++ drop x old) (sym g.wrote.many) in
    record {
      done = g.done ++ (v ∷ []);
      wrote = record {
        many = sym m;
        text = rw m (ap (λ (l : List ℕ). set l k v) t ∙ write_step g.done old k v (sym g.wrote.many) n);
      };
      whole = g.whole ∙ ap (λ (l : List ℕ). g.done ++ l) e ∙ sym (append_snoc g.done v rest');
    }

pub written_then : {all rest old new part xs : List ℕ} {k m : ℕ} (rest' : List ℕ) → rest ≡ xs ++ rest' → Wrote xs (take (length new - k) (drop k new)) part m
    → Written all rest old new k → Written all rest' old (put_mid k (length new - k) new part) (k + m)
written_then {xs = xs} rest' e w g = record {
  done = g.done ++ xs;
  wrote = wrote_then g.wrote w;
  whole = g.whole ∙ ap (λ (l : List ℕ). g.done ++ l) e ∙ sym (append_assoc g.done xs rest');
}

-- How much is left.
pub written_length : {all rest old new : List ℕ} {k : ℕ} → Written all rest old new k → k + length rest ≡ length all
written_length {rest = rest} g = omega (arith, g.wrote.many, ap length g.whole, length-append g.done rest)
