-- The printed lines from the fields and the file; the four lines that end the listing.
use mathlib.Core.Path.{◌≡◌, sym, ap, ap₂, subst, ◌∙◌}
use mathlib.Core.List.{List, [], ◌++◌}
use Prim.Native.Nat.{ℕ, ◌+◌, ◌-◌, ◌≤◌, ◌<◌}
use native.Mathlib.Omega.{arith}
use lib.ListN.{length, get_or}
use Rattle.spec_orders.specs.Tree.{Forest}
use Rattle.spec_orders.specs.Form.{standard}
use Rattle.spec_orders.specs.TreeText.{digits, tree_text}
use Rattle.spec_orders.specs.Circles.{bytes}
use Rattle.spec_orders.proofs.TextTree.{text-length}
use Rattle.tree_tokens.specs.Tokens.{tree, plain, TreeTokens}
use Rattle.tree_tokens.proofs.Sequences.{tree_plain}
use Rattle.list_bytes.specs.Appends.{Appends}
use Rattle.list_bytes.proofs.Laws.{appends_then, appends_as}
use Rattle.file_read.specs.RingFile.{leaves_on, FileHolds}
use Rattle.spec_listing.specs.Listing.{outcome, state_at, spaced_names, fields, listing}
use Rattle.list_ring.specs.Stands.{lists_of, RingStands}
use Rattle.list_ring.proofs.Files.{list_at, lists_length}
use Rattle.list_line.specs.Printing.{group_line, final, ending}
use Rattle.list_line.proofs.Lines.{listing-length, head-line, middle-line, end_line}

-- A group line of the file: its number and its fields.
pub line_appends : {x : List ℕ} {n h k : ℕ} (f : FileHolds x n h k) (ord : List ℕ) (l : ℕ) {list old mid new : List ℕ} {at a r : ℕ} → list ≡ leaves_on (get_or f.vss l [])
    → Appends (digits (l + 1)) at old mid a
    → Appends (fields f.ns ord (state_at n (lists_of f) l) list (outcome n (state_at n (lists_of f) l) list)) a mid new r
    → Appends (group_line f.ns ord (lists_of f) l) at old new r
unfolding group_line
line_appends f ord l e p q =
    appends_as
    (ap₂ (λ (n : ℕ) (list : List ℕ). digits (l + 1) ++ fields f.ns ord (state_at n (lists_of f) l) list (outcome n (state_at n (lists_of f) l) list))
    f.leaves (e ∙ sym (list_at f l)))
    (appends_then p q)

-- The four lines.
module _ (names : List (List ℕ)) (t : Forest) {j : ℕ} where
  pub end_order : j ≡ 0 → bytes "order" ≡ get_or (ending names t) j []
  unfolding ending
  end_order e = rw e

  pub end_names : j ≡ 1 → {order : List ℕ} → order ≡ standard t → spaced_names names order ≡ get_or (ending names t) j []
  unfolding ending
  end_names e g = rw e (ap (spaced_names names) g)

  pub end_tree : j ≡ 2 → bytes "tree" ≡ get_or (ending names t) j []
  unfolding ending
  end_tree e = rw e

  pub end_text : j ≡ 3 → tree_text (tree (plain t)) ≡ get_or (ending names t) j []
  unfolding ending
  end_text e = rw e (ap tree_text (tree_plain t))

-- The length of a tree's text.
pub short-text : {n : ℕ} {toks : List ℕ} (p : TreeTokens n toks) → length (tree_text (tree (plain p.shown))) ≤ 2048
short-text {n} p = rw (tree_plain p.shown) (text-length n p.shown p.in_form p.few_leaves)

-- The lines of the listing of a file.
module _ {x : List ℕ} {n h k : ℕ} (f : FileHolds x n h k) where
  pub stands_at : {a b : ℕ} {toks book table : List ℕ} {m count : ℕ} → a ≡ b → RingStands n (state_at n (lists_of f) a) toks m book table count
      → RingStands n (state_at n (lists_of f) b) toks m book table count
  stands_at {toks = toks} {book} {table} {m} {count} e s = subst (λ (l : ℕ). RingStands n (state_at n (lists_of f) l) toks m book table count) e s

  pub listed_length : length (listing f.ns (lists_of f)) ≡ k + 5
  listed_length = omega (arith, listing-length f.ns (lists_of f), lists_length f)

  pub listed_head : {i : ℕ} → i ≡ 0 → bytes "line answer aim conflict" ≡ get_or (listing f.ns (lists_of f)) i []
  listed_head e = rw e (sym (head-line f.ns (lists_of f)))

  pub listed_group : {order : List ℕ} → order ≡ standard (final f.ns (lists_of f)) → (i : ℕ) → 1 ≤ i → i ≤ k
      → group_line f.ns order (lists_of f) (i - 1) ≡ get_or (listing f.ns (lists_of f)) i []
  listed_group e i l m =
      let q : i - 1 + 1 ≡ i = omega arith in
      ap (λ (ord : List ℕ). group_line f.ns ord (lists_of f) (i - 1)) e
      ∙ sym (middle-line f.ns (lists_of f) (i - 1) (omega (arith, lists_length f)))
      ∙ ap (λ (j : ℕ). get_or (listing f.ns (lists_of f)) j []) q

  pub listed_end : (i : ℕ) → k < i
      → get_or (ending f.ns (final f.ns (lists_of f))) (i - k - 1) [] ≡ get_or (listing f.ns (lists_of f)) i []
  listed_end i l =
      let q : length (lists_of f) + 1 + (i - k - 1) ≡ i = omega (arith, lists_length f) in
      sym (end_line f.ns (lists_of f) (i - k - 1)) ∙ ap (λ (j : ℕ). get_or (listing f.ns (lists_of f)) j []) q
