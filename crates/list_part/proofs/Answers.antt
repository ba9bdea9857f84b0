-- The tree and the order after all lines; the error line; what a part answers.
use mathlib.Core.Path.{◌≡◌, refl, sym, ap, subst, ◌∙◌}
use mathlib.Core.Logic.{◌⊎◌, inl, inr}
use mathlib.Core.List.{List, [], ◌∷◌, map}
use Prim.Native.Nat.{ℕ, ◌≤◌, ◌<◌}
use native.Mathlib.Omega.{arith}
use lib.ListN.{length, take}
use Rattle.spec_orders.specs.Tree.{Forest}
use Rattle.spec_orders.specs.Form.{standard}
use Rattle.spec_orders.specs.TreeText.{digits}
use Rattle.spec_orders.specs.Circles.{bytes}
use Rattle.spec_orders.proofs.TextTree.{form_length}
use Rattle.spec_calls.specs.declared.Refusal.{Refusal}
use Rattle.spec_calls.specs.Refusals.{reported}
use Rattle.tree_tokens.specs.Tokens.{tree, plain, Wrote, flat}
use Rattle.tree_tokens.proofs.Sequences.{tree_plain}
use Rattle.tree_tokens.proofs.Writes.{read_back}
use Rattle.list_bytes.specs.Appends.{Appends}
use Rattle.list_bytes.proofs.Laws.{appends_then}
use Rattle.file_read.specs.RingFile.{Value, leaves_on, Accepted, FileRefused, FileHolds, Says, told_of}
use Rattle.file_read.proofs.Answers.{refused_at}
use Rattle.spec_orders.proofs.FirstByte.{not_refused, refused_once}
use Rattle.file_syntax.proofs.Exact.{parts_once}
use Rattle.spec_listing.specs.Listing.{state_at, listing, error_line, Lists, accepted, too_long, malformed}
use Rattle.list_ring.specs.Stands.{lists_of, RingStands}
use Rattle.list_ring.proofs.Files.{few_names}
use Rattle.list_part.specs.declared.Piece.{Piece}
use Rattle.list_line.specs.Printing.{final}
use Rattle.list_line.proofs.Last.{last_tree, last_form, some_leaf}
use Rattle.list_part.specs.Parts.{Parts, Listed}
use Rattle.list_part.proofs.Parts.{shown_none, shown_more, whole_part}

-- The ring after all lines.
module _ {x : List ℕ} {n h k : ℕ} (f : FileHolds x n h k) where
  abbrev t : Forest
  t = final f.ns (lists_of f)

  pub final_tokens : {toks book table : List ℕ} {m count : ℕ} → RingStands n (state_at n (lists_of f) k) toks m book table count → take m toks ≡ flat t
  final_tokens s = s.tokens ∙ ap flat (last_tree f)

  pub order_room : length (standard (tree (plain t))) ≤ 256
  order_room = rw (tree_plain t) (omega (arith, form_length n t (last_form f), some_leaf f, few_names f))

  pub order_read : {old order : List ℕ} {j : ℕ} → Wrote (standard (tree (plain t))) old order j → take j order ≡ standard t
  order_read w = read_back w ∙ ap standard (tree_plain t)

-- The error line.
pub error_part : (byte : ℕ) {from : ℕ} {old a b new : List ℕ} {i j r : ℕ} → from ≡ 0 → 4096 ≤ length old → Appends (bytes "error 11 at byte ") 0 old a i
    → Appends (digits byte) i a b j → Appends (10 ∷ []) j b new r → Parts (error_line byte ∷ []) from old new (record { bytes = r; next = 1 })
unfolding error_line
error_part byte {old = old} z h p q e =
    let ls : List (List ℕ) = error_line byte ∷ [] in
    rw z (whole_part ls 0 (omega arith) (omega arith) (shown_more ls 0 0 (omega arith) (omega arith) (shown_none ls 0 old) (appends_then p q) e))

-- What the scan says, and what is printed.
pub found_listed : {x y : List ℕ} {n h l from : ℕ} {old new : List ℕ} {p : Piece} (f : FileHolds y n h l) → y ≡ x
    → Parts (listing f.ns (lists_of f)) from old new p → Listed x from old new p
found_listed {old = old} {new = new} {p = p} f e w =
    record { lines = listing f.ns (lists_of f); all_lines = accepted f.rules (sym e ∙ f.bytes) (rw (← e) f.size); part = w }

pub refused_listed : {x : List ℕ} (why : Refusal) {from byte : ℕ} {old new : List ℕ} {p : Piece} → Says x (told_of why) → byte ≡ (reported why).value
    → Parts (error_line byte ∷ []) from old new p → Listed x from old new p
refused_listed {x} why {from} {byte} {old} {new} {p} s b w =
    record { lines = error_line byte ∷ []; all_lines = go (refused_at s) b; part = w }
  where
    go : {j : ℕ} → ((65536 < length x) × (j ≡ 65536)) ⊎ ((length x ≤ 65536) × FileRefused x j) → byte ≡ j → Lists x (error_line byte ∷ [])
    go (inl h) c = rw (c ∙ h.1) (too_long h.0)
    go (inr h) c = rw c (malformed h.0 h.1)

-- A file has one listing.
pub lists_once : {x : List ℕ} {ls ks : List (List ℕ)} → Lists x ls → Lists x ks → ls ≡ ks
lists_once {x} (accepted {ns = ns} {vss = vss} r b l) (accepted {ns = ms} {vss = uss} q c m) =
    let e = parts_once ns ms vss uss r q (sym b ∙ c) in
    ap (λ (ws : List (List ℕ)). listing ws (map leaves_on vss)) e.0 ∙ ap (λ (wss : List (List Value)). listing ms (map leaves_on wss)) e.1
lists_once (accepted r b l) (too_long h) = absurd (omega arith)
lists_once (accepted {ns = ns} {vss = vss} r b l) (malformed h w) = absurd (not_refused Accepted (record { ns = ns; vss = vss; rules = r; bytes = b }) w)
lists_once (too_long h) (accepted r b l) = absurd (omega arith)
lists_once (too_long h) (too_long l) = refl
lists_once (too_long h) (malformed l w) = absurd (omega arith)
lists_once (malformed h w) (accepted {ns = ns} {vss = vss} r b l) = absurd (not_refused Accepted (record { ns = ns; vss = vss; rules = r; bytes = b }) w)
lists_once (malformed h w) (too_long l) = absurd (omega arith)
lists_once (malformed h w) (malformed l v) = ap (λ (b : ℕ). error_line b ∷ []) (refused_once Accepted w v)

-- What a part answers and writes is determined.
pub listed_once : {x : List ℕ} {from : ℕ} {old new new' : List ℕ} {p p' : Piece} → Listed x from old new p → Listed x from old new' p' → (p ≡ p') × (new ≡ new')
listed_once {x} {from} {old} {new} {new'} {p} {p'} a b = go a.part (subst (λ (ls : List (List ℕ)). Parts ls from old new' p') (lists_once b.all_lines a.all_lines) b.part)
  where
    go : Parts a.lines from old new p → Parts a.lines from old new' p' → (p ≡ p') × (new ≡ new')
    go v w = (piece (v.wrote.many ∙ sym w.wrote.many) (v.after ∙ sym w.after), v.wrote.text ∙ sym w.wrote.text)
      where
        piece : p.bytes ≡ p'.bytes → p.next ≡ p'.next → p ≡ p'
        piece c d = ap (λ (m : ℕ). record { bytes = m; next = p.next }) c ∙ ap (λ (m : ℕ). record { bytes = p'.bytes; next = m }) d
