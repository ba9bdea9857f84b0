-- An item, the items of a node, and a node from its bracket on: from the passages of their parts.
use mathlib.Core.Path.{◌≡◌, refl, sym, ◌∙◌, ap, ap₂, subst}
use mathlib.Core.Bool.{true}
use mathlib.Core.List.{List, [], ◌∷◌, ◌++◌, append_assoc}
use Prim.Native.Nat.{ℕ, ◌+◌, ◌-◌, ◌≤◌, ◌<◌}
use native.Mathlib.Omega.{arith}
use mir.Syntax.{w64}
use mir.Val.{Fits}
use borrow.Rule.Slice.PartMut.{put_mid}
use lib.ListN.{length, take, drop, get_or, set}
use Rattle.spec_orders.specs.Tree.{Kind, P, C, Forest, nil, leaf, node, items, append}
use Rattle.spec_orders.specs.TreeText.{digits, letter, text, more}
use Rattle.tree_tokens.specs.Tokens.{E, plain, node_token, Wrote, flat}
use Rattle.tree_tokens.proofs.Laws.{encode_node}
use Rattle.tree_tokens.proofs.Sequences.{encode-append, plain-append}
use Rattle.tree_tokens.proofs.Writes.{wrote_then, wrote_head}
use Rattle.text_scanner.specs.Scan.{open_due, due, after, need, letter?, run_at}
use Rattle.text_scanner.specs.Unused.{unused}
use Rattle.text_scanner.proofs.Language.{more_text}
use Rattle.text_scanner.proofs.Moves.{at_end, due_node, due_few, open_byte, open_bad, after_space, after_few, after_other, after_short, close_inner}
use Rattle.std.specs.Prelude.{Result, Ok, Err}
use Rattle.text_leaf.specs.declared.Reached.{Reached}
use Rattle.text_leaf.specs.Passages.{Marks, Stops, ItemRead, ItemsRead, OpenedRead}
use Rattle.text_number.proofs.Numerals.{drop-step}

-- A small number fits.
pub fits_small : (n : ℕ) → n ≤ 510 → Fits w64 n
fits_small n h = record { fits = omega arith }

-- The text of items, and of further items.
mutual
  text-append : (f g : Forest) → 1 ≤ length (items f) → text (append f g) ≡ text f ++ more g
  text-append nil g h = absurd (omega arith)
  text-append (leaf b f) g h = ap (λ l. digits b ++ l) (more_append f g) ∙ sym (append_assoc (digits b) (more f) (more g))
  text-append (node k i f) g h =
      ap (λ l. letter k ∷ 40 ∷ (text i ++ (41 ∷ l))) (more_append f g)
      ∙ ap (λ l. letter k ∷ 40 ∷ l) (sym (append_assoc (text i) (41 ∷ more f) (more g)))

  more_append : (f g : Forest) → more (append f g) ≡ more f ++ more g
  more_append nil g = refl
  more_append (leaf b f) g = ap (λ l. 32 ∷ (digits b ++ l)) (more_append f g) ∙ ap (λ l. 32 ∷ l) (sym (append_assoc (digits b) (more f) (more g)))
  more_append (node k i f) g =
      ap (λ l. 32 ∷ letter k ∷ 40 ∷ (text i ++ (41 ∷ l))) (more_append f g) ∙ ap (λ l. 32 ∷ letter k ∷ 40 ∷ l) (sym (append_assoc (text i) (41 ∷ more f) (more g)))

append_some : (f g : Forest) → 1 ≤ length (items f) → 1 ≤ length (items (append f g))
append_some nil g h = absurd (omega arith)
append_some (leaf b f) g h = omega arith
append_some (node k i f) g h = omega arith

pub is_letter : (k : Kind) → letter? (letter k) ≡ true
is_letter P = refl
is_letter C = refl

-- A node's tokens, from those of its items.
pub node_wrote : {old part : List ℕ} {k t : ℕ} (j : Kind) (f : Forest) → 0 < length old → t ≡ node_token E j k
    → Wrote (flat f) (take (length old - 1) (drop 1 old)) part k
    → Wrote (flat (node j f nil)) old (set (put_mid 1 (length old - 1) old part) 0 t) (1 + k)
node_wrote {old} {part} {k} {t} j f h e w =
    let m = length (flat f) in
    let token = node_token E j m in
    rw (encode_node E j (plain f), e, w.many)
    (subst (λ n. Wrote (token ∷ flat f) old (set (put_mid 1 (length old - 1) old part) 0 token) (1 + n)) w.many (wrote_head token old h w))

-- An item.
module _ (x : List ℕ) (at c want many : ℕ) (used : List ℕ) (m : Marks many used) where
  abbrev NoItem : ℕ → Type 0
  NoItem p = Stops x at (λ cs. due c cs (unused 0 used)) want p

  pub item_ends : length x ≤ at → NoItem at
  item_ends h cs w = at_end x at (due c cs (unused 0 used)) h refl

  module _ (h : at < length x) (j : Kind) (y : get_or x at 0 ≡ letter j) (inner : ℕ) (n : inner ≡ c - 1 + want) where
    pub item_few : many < 2 + inner → NoItem at
    item_few l cs w = due_few x at h c cs (unused 0 used) (ap letter? y ∙ is_letter j) (omega (arith, m.count))

    module _ (l : 2 + inner ≤ many) where
      entered : (cs : List ℕ) → need cs ≡ want → run_at x at (due c cs (unused 0 used)) ≡ run_at x (at + 1) (open_due ((c - 1) ∷ cs) (unused 0 used))
      entered cs w = due_node x at h c cs (unused 0 used) (ap letter? y ∙ is_letter j) (omega (arith, m.count))

      pub item_stops : (p : ℕ) → Stops x (at + 1) (λ cs. open_due cs (unused 0 used)) inner p → NoItem p
      item_stops p o cs w = entered cs w ∙ o ((c - 1) ∷ cs) (omega arith)

      pub item_node : {used' old part : List ℕ} {t : ℕ} (r : Reached) → 0 < length old → t ≡ node_token E j r.count
          → OpenedRead x (at + 1) inner many used used' (take (length old - 1) (drop 1 old)) part (Ok r)
          → ItemRead x at c want many used used' old (set (put_mid 1 (length old - 1) old part) 0 t)
          (Ok (record { at = r.at + 1; left = r.left; count = 1 + r.count }))
      item_node {used'} r s t (p, q) = record {
        forest = node j p.forest nil;
        some_item = omega arith;
        wrote = node_wrote j p.forest s t p.wrote;
        bytes = drop-step x at h ∙ ap₂ ◌∷◌ y
            (p.bytes ∙ ap (λ l. 40 ∷ (text p.forest ++ l)) (drop-step x r.at q.there ∙ ap (λ b. b ∷ drop (r.at + 1) x) q.bracket)
            ∙ ap (λ l. 40 ∷ l) (sym (append_assoc (text p.forest) (41 ∷ []) (drop (r.at + 1) x))));
        moves = λ cs w. entered cs w ∙ p.moves ((c - 1) ∷ cs) (omega arith) ∙ close_inner x r.at q.there (c - 1) cs (unused 0 used') q.bracket;
        marks = p.marks;
        onward = omega (arith, p.onward);
        within = omega (arith, q.there);
        enough = omega (arith, p.enough);
        few = omega (arith, p.few);
      }

-- The node from its bracket on.
module _ (x : List ℕ) (at want many : ℕ) (used : List ℕ) where
  abbrev NotOpened : ℕ → Type 0
  NotOpened p = Stops x at (λ cs. open_due cs (unused 0 used)) want p

  pub opened_ends : length x ≤ at → NotOpened at
  opened_ends h cs w = at_end x at (open_due cs (unused 0 used)) h refl

  pub opened_bad : at < length x → (get_or x at 0 ≡ 40 → ⊥) → NotOpened at
  opened_bad h n cs w = open_bad x at h cs (unused 0 used) n

  pub opened_read : (used' old new : List ℕ) (r : Result Reached ℕ) → at < length x → get_or x at 0 ≡ 40 → ItemsRead x (at + 1) 2 want many used used' old new r
      → OpenedRead x at want many used used' old new r
  opened_read used' old new (Ok r) h y (p, q) = (
    record {
      forest = p.forest;
      some_item = p.some_item;
      wrote = p.wrote;
      bytes = drop-step x at h ∙ ap₂ ◌∷◌ y p.bytes;
      moves = λ cs w. open_byte x at h cs (unused 0 used) y ∙ p.moves cs w;
      marks = p.marks;
      onward = omega (arith, p.onward);
      within = p.within;
      enough = p.enough;
      few = p.few;
    },
    q,
  )
  opened_read used' old new (Err p) h y (s, q) = (λ cs w. open_byte x at h cs (unused 0 used) y ∙ s cs w, q)

-- The items of a node: the first is read, and the byte after it tells how it goes on.
module _ (x : List ℕ) (at c want many : ℕ) (used : List ℕ) {used' old mid : List ℕ} (r : Reached) (first : ItemRead x at c want many used used' old mid (Ok r)) where
  abbrev NoItems : ℕ → Type 0
  NoItems p = Stops x at (λ cs. due c cs (unused 0 used)) want p

  pub items_end : length x ≤ r.at → NoItems r.at
  items_end h cs w = first.moves cs w ∙ at_end x r.at (after ((c - 1) ∷ cs) (unused 0 used')) h refl

  module _ (h : r.at < length x) (rest : ℕ) (n : rest ≡ c - 1) where
    pub items_other : (get_or x r.at 0 ≡ 32 → ⊥) → (get_or x r.at 0 ≡ 41 → ⊥) → NoItems r.at
    items_other s b cs w = first.moves cs w ∙ after_other x r.at h (c - 1) cs (unused 0 used') s b

    pub items_short : get_or x r.at 0 ≡ 41 → (rest ≡ 0 → ⊥) → NoItems r.at
    items_short b s cs w = first.moves cs w ∙ after_short x r.at h (c - 1) cs (unused 0 used') b (λ e. s (n ∙ e))

    module _ (s : get_or x r.at 0 ≡ 32) where
      pub items_few : r.left < 1 + (rest - 1 + want) → NoItems r.at
      items_few l cs w = first.moves cs w ∙ after_few x r.at h (c - 1) cs (unused 0 used') s (omega (arith, first.marks.count))

      module _ (l : 1 + (rest - 1 + want) ≤ r.left) where
        goes_on : (cs : List ℕ) → need cs ≡ want → run_at x at (due c cs (unused 0 used)) ≡ run_at x (r.at + 1) (due rest cs (unused 0 used'))
        goes_on cs w =
            first.moves cs w
            ∙ after_space x r.at h (c - 1) cs (unused 0 used') s (omega (arith, first.marks.count))
            ∙ ap (λ d. run_at x (r.at + 1) (due d cs (unused 0 used'))) (sym n)

        pub items_stops : (p : ℕ) → Stops x (r.at + 1) (λ cs. due rest cs (unused 0 used')) want p → NoItems p
        items_stops p j cs w = goes_on cs w ∙ j cs w

        pub items_read : {used'' part : List ℕ} (q : Reached)
            → ItemsRead x (r.at + 1) rest want r.left used' used'' (take (length mid - r.count) (drop r.count mid)) part (Ok q)
            → ItemsRead x at c want many used used'' old (put_mid r.count (length mid - r.count) mid part)
            (Ok (record { at = q.at; left = q.left; count = r.count + q.count }))
        items_read q (p, z) = (
          record {
            forest = append first.forest p.forest;
            some_item = append_some first.forest p.forest first.some_item;
            wrote = rw (plain-append first.forest p.forest, encode-append) (wrote_then first.wrote p.wrote);
            bytes = first.bytes ∙ ap (λ l. text first.forest ++ l) (drop-step x r.at h ∙ ap₂ ◌∷◌ s p.bytes)
                ∙ sym (append_assoc (text first.forest) (32 ∷ text p.forest) (drop q.at x))
                ∙ ap (λ l. l ++ drop q.at x) (sym (text-append first.forest p.forest first.some_item
                ∙ ap (λ l. text first.forest ++ l) (more_text p.forest p.some_item)));
            moves = λ cs w. goes_on cs w ∙ p.moves cs w;
            marks = p.marks;
            onward = omega (arith, first.onward, p.onward);
            within = p.within;
            enough = p.enough;
            few = omega (arith, first.few, p.few);
          },
          record { there = z.there; bracket = z.bracket },
        )
