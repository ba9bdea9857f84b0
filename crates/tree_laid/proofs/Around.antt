-- The items a and b that are laid round a tree: written one after the other, and parted by a leaf; the ends of all.
use mathlib.Core.Path.{◌≡◌}
use mathlib.Core.List.{List}
use Prim.Native.Nat.{ℕ, ◌+◌, ◌-◌}
use borrow.Rule.Slice.PartMut.{put_mid}
use lib.ListN.{length, take, drop}
use Rattle.spec_orders.specs.Tree.{Forest, append, rev}
use Rattle.spec_orders.specs.Form.{first}
use Rattle.tree_tokens.specs.Tokens.{Judged, tree, encode, Wrote, flat}
use Rattle.tree_tokens.proofs.Writes.{read_part, wrote_then}
use Rattle.tree_pieces.proofs.Laws.{flat_append}
use Rattle.tree_laid.specs.declared.Laid.{Laid}
use Rattle.tree_laid.specs.Lying.{Lies, lower, upper}
use Rattle.tree_laid.proofs.Laws.{split_parts, leaf_inner, last_inner, last_outer}

module _ {a b old mid part : List ℕ} {i k : ℕ} (front : (j : Judged) → a ≡ encode j → Wrote (flat (tree j)) old mid i)
    (back : (j : Judged) → b ≡ encode j → Wrote (flat (tree j)) (take (length mid - i) (drop i mid)) part k) where
  pub both_written : (p q : Judged) → a ≡ encode p → b ≡ encode q → Wrote (flat (append (tree p) (tree q))) old (put_mid i (length mid - i) mid part) (i + k)
  both_written p q ea eb = rw (flat_append (tree p) (tree q)) (wrote_then (front p ea) (back q eb))

  module _ (x : ℕ) {r : ℕ} (rank : (j : Judged) → take (i + k - 0) (drop 0 (put_mid i (length mid - i) mid part)) ≡ encode j → r ≡ length (flat (lower x (tree j)))) where
    pub both_parted : (p q : Judged) → a ≡ encode p → b ≡ encode q
        → (take (r - 0) (drop 0 (put_mid i (length mid - i) mid part)) ≡ flat (lower x (append (tree p) (tree q))))
        × (take (i + k - r) (drop r (put_mid i (length mid - i) mid part)) ≡ flat (upper x (append (tree p) (tree q))))
    both_parted p q ea eb = let w = both_written p q ea eb in split_parts x (append (tree p) (tree q)) w (rank _ (read_part w))

module _ {a b buf : List ℕ} {t : Laid} {r s : ℕ} (start : (j : Judged) (g : Forest) → a ≡ encode j → t.first ≡ first g → r ≡ first (append (tree j) g))
    (last : (j : Judged) (g : Forest) → b ≡ encode j → t.first ≡ first (rev g) → s ≡ first (rev (append g (tree j)))) where
  pub ends : (p q : Judged) (g : Forest) → a ≡ encode p → b ≡ encode q → Lies g buf t
      → (r ≡ first (append (tree p) (append g (tree q)))) × (s ≡ first (rev (append (tree p) (append g (tree q)))))
  ends p q g ea eb l = (
    start p (append g (tree q)) ea (leaf_inner (tree p) g (tree q) l.single l.leaf_is),
    last_outer (tree p) g (tree q) l.single (last q g eb (last_inner (tree p) g (tree q) l.single l.leaf_is)),
  )
