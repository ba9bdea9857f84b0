-- Rows written, and the zeros in them.
use mathlib.Core.Path.{◌≡◌, refl, sym, ap, ◌∙◌, subst}
use mathlib.Core.List.{List, [], ◌∷◌, ◌++◌, append_assoc}
use Prim.Native.Nat.{ℕ, zero, suc, ◌+◌, ◌-◌, ◌≤◌}
use native.Mathlib.Omega.{arith}
use lib.ListN.{length, take, drop, get_or, set, replicate, length-append, length-replicate, replicate-append-replicate}
use lib.Seq.{drop-append-add, drop-append_seam}
use borrow.Rule.Slice.PartMut.{put_mid}
use Rattle.spec_calls.specs.Tables.{padded}
use Rattle.spec_calls.proofs.NodeTables.{padded-length}
use Rattle.tree_tokens.specs.Tokens.{Wrote}
use Rattle.tree_tokens.proofs.Writes.{wrote_then, wrote_filled}
use Rattle.table_row.specs.Rows.{row, Blank, RowThere}
use Rattle.table_row.proofs.Rows.{row_size}

-- Zeros and more of them; those from index k on.
pub zeros_joined : (a b c : ℕ) (more : List ℕ) → a + b ≡ c → replicate a 0 ++ (replicate b 0 ++ more) ≡ replicate c 0 ++ more
zeros_joined a b c more e =
    sym (append_assoc (replicate a 0) (replicate b 0) more) ∙ ap (λ (l : List ℕ). l ++ more) (replicate-append-replicate {A = ℕ} a b 0 ∙ ap (λ (x : ℕ). replicate x 0) e)

zeros_from : (k room : ℕ) (more : List ℕ) → k ≤ room → drop k (replicate room 0 ++ more) ≡ replicate (room - k) 0 ++ more
zeros_from zero room more h =
    let e : room - 0 ≡ room = omega arith in
    rw e
zeros_from (suc k) zero more h = absurd (omega arith)
zeros_from (suc k) (suc room) more h =
    let e : suc room - suc k ≡ room - k = omega arith in
    rw e (zeros_from k room more (omega arith))

pub blank_from : {room k : ℕ} {l : List ℕ} → k ≤ room → Blank room l → Blank (room - k) (drop k l)
blank_from {room} {k} h b = record { more = b.more; is = ap (drop k) b.is ∙ zeros_from k room b.more h }

pub blank_after : {room : ℕ} {l : List ℕ} (b : Blank room l) → drop room l ≡ b.more
blank_after {room} b =
    let none : room - room ≡ 0 = omega arith in
    ap (drop room) b.is ∙ zeros_from room room b.more (omega arith) ∙ rw none

pub blank_left : {room k : ℕ} {l : List ℕ} → k ≤ room → Blank room l → drop k l ≡ replicate (room - k) 0 ++ drop room l
blank_left {room} {k} h b = ap (drop k) b.is ∙ zeros_from k room b.more h ∙ rw (blank_after b)

-- What follows a text is as it was. Where zeros follow, it is a longer text with them.
pub wrote_after : {xs old new : List ℕ} {k : ℕ} → Wrote xs old new k → drop k new ≡ drop k old
wrote_after {xs} w = rw (w.text, w.many) (drop-append_seam xs _)

pub wrote_over : {room k : ℕ} {xs old new : List ℕ} → length xs ≤ room → drop (length xs) old ≡ replicate (room - length xs) 0 ++ drop room old
    → Wrote xs old new k → Wrote (padded room xs) old new room
wrote_over {room} {xs = xs} {old} h left w =
    let long : length (padded room xs) ≡ room = padded-length room xs h in
    record {
      many = sym long;
      text = w.text ∙ rw (long, left) (sym (append_assoc xs (replicate (room - length xs) 0) (drop room old)));
    }

-- A row has 257 numbers; the second says how many items it has, and zeros stand after their places.
pub there_long : {l : List ℕ} → RowThere l → 257 ≤ length l
there_long p = omega (arith, ap length p.is, length-append (row p.kind p.places) p.more, row_size p.kind p.places p.narrow)

pub there_count : {l : List ℕ} (p : RowThere l) → get_or l 1 0 ≡ length p.places
there_count p = ap (λ (x : List ℕ). get_or x 1 0) p.is

pub there_few : {l : List ℕ} → RowThere l → get_or l 1 0 ≤ 255
there_few p = omega (arith, there_count p, p.narrow)

pub there_zeros : {l : List ℕ} (n : ℕ) (p : RowThere l) → length p.places ≤ n → n ≤ 255 → drop (suc (suc n)) l ≡ replicate (255 - n) 0 ++ p.more
there_zeros n p h most =
    let es = p.places in
    let d = n - length es in
    let e : n ≡ length es + d = omega arith in
    let left : 255 - length es - d ≡ 255 - n = omega arith in
    ap (drop (suc (suc n))) p.is
    ∙ ap (drop n) (append_assoc es (replicate (255 - length es) 0) p.more)
    ∙ ap (λ (x : ℕ). drop x (es ++ (replicate (255 - length es) 0 ++ p.more))) e
    ∙ drop-append-add es (replicate (255 - length es) 0 ++ p.more) d
    ∙ zeros_from d (255 - length es) p.more (omega arith)
    ∙ ap (λ (x : ℕ). replicate x 0 ++ p.more) left

pub there_after : {l : List ℕ} (p : RowThere l) → drop 257 l ≡ p.more
there_after p = there_zeros 255 p p.narrow (omega arith)

-- The places of a row and zeros after them, then its kind and count.
wrote_two : {x y r : ℕ} {xs old new : List ℕ} (k c : ℕ) → Wrote (x ∷ y ∷ xs) old new r → Wrote (k ∷ c ∷ xs) old (set (set new 0 k) 1 c) r
wrote_two k c w = record { many = w.many; text = ap (λ (l : List ℕ). set (set l 0 k) 1 c) w.text }

abbrev with_places : List ℕ → List ℕ → List ℕ
with_places old part = put_mid 2 (length old - 2) old part

abbrev with_zeros : List ℕ → ℕ → ℕ → List ℕ → List ℕ
with_zeros mid m left part = put_mid (2 + m) left mid part

wrote_front : (k m left : ℕ) {es part part' : List ℕ} (old : List ℕ) → 2 ≤ length old → Wrote es (take (length old - 2) (drop 2 old)) part m
    → 2 + m + left ≤ length (with_places old part) → part' ≡ replicate (length (take left (drop (2 + m) (with_places old part)))) 0
    → Wrote (k ∷ m ∷ (es ++ replicate left 0)) old (set (set (with_zeros (with_places old part) m left part') 0 k) 1 m) (2 + m + left)
wrote_front k m left [] h w fits v = absurd (omega arith)
wrote_front k m left (x ∷ []) h w fits v = absurd (omega arith)
wrote_front k m left {es} (x ∷ y ∷ l) h w fits v =
    let begun : Wrote (x ∷ y ∷ []) (x ∷ y ∷ l) (x ∷ y ∷ l) 2 = record { many = refl; text = refl } in
    wrote_two {xs = es ++ replicate left 0} k m (wrote_filled left (wrote_then begun w) fits v)

-- A row over the one that stands there.
pub wrote_row : (k m left : ℕ) (es old : List ℕ) {part part' : List ℕ} (p : RowThere old) → length es ≤ 255 → left ≡ get_or old 1 0 - m
    → Wrote es (take (length old - 2) (drop 2 old)) part m → 2 + m + left ≤ length (with_places old part)
    → part' ≡ replicate (length (take left (drop (2 + m) (with_places old part)))) 0
    → Wrote (row k es) old (set (set (with_zeros (with_places old part) m left part') 0 k) 1 m) 257
wrote_row k m left es old {part} {part'} p h e w fits v =
    let zs : List ℕ = replicate left 0 in
    let many : length (es ++ zs) ≡ m + left = omega (arith, length-append es zs, length-replicate {A = ℕ} left 0, w.many) in
    let count = there_count p in
    let rest : 257 - suc (suc (length (es ++ zs))) ≡ 255 - length (es ++ zs) = omega arith in
    let fill : left + (255 - length (es ++ zs)) ≡ 255 - length es = omega (arith, p.narrow, w.many) in
    let whole : padded 257 (k ∷ m ∷ (es ++ zs)) ≡ row k es =
    rw (rest, w.many) (ap (λ (l : List ℕ). k ∷ length es ∷ l)
    (append_assoc es zs (replicate (255 - length (es ++ zs)) 0) ∙ ap (λ (l : List ℕ). es ++ l) (replicate-append-replicate {A = ℕ} left (255 - length (es ++ zs)) 0 ∙ rw fill))) in
    subst (λ (x : List ℕ). Wrote x old (set (set (with_zeros (with_places old part) m left part') 0 k) 1 m) 257) whole
    (wrote_over (omega (arith, p.narrow, w.many)) (there_zeros (length (es ++ zs)) p (omega (arith, w.many)) (omega (arith, p.narrow, w.many)) ∙ rw (rest, there_after p)) (wrote_front k m left old (omega (arith, there_long p)) w fits v))
