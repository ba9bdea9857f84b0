-- The call that writes the tree text: refused, or filled.
use mathlib.Core.Path.{◌≡◌, sym, ◌∙◌, subst}
use mathlib.Core.Option.{some}
use mathlib.Core.List.{List, ◌++◌}
use Prim.Native.Nat.{ℕ, ◌-◌, ◌≤◌}
use borrow.Author.Tests.{ltb-false}
use lib.ListN.{length, take, drop, replicate}
use Rattle.spec_orders.specs.Tree.{Forest}
use Rattle.spec_orders.specs.TreeText.{tree_text}
use Rattle.spec_orders.proofs.TextTree.{text-length}
use Rattle.spec_calls.specs.declared.Refusal.{Refusal}
use Rattle.spec_calls.specs.Tables.{Nodes, leaves}
use Rattle.spec_calls.specs.Refusals.{reply, reported, first_refusal, short}
use Rattle.spec_calls.specs.Calls.{filled_as, tree_checks, write_refusal, write_call}
use Rattle.spec_calls.proofs.Demands.{lent_held}
use Rattle.tree_tokens.specs.Tokens.{tree, plain, Wrote, flat, TreeTokens}
use Rattle.tree_tokens.proofs.Sequences.{tree_plain}
use Rattle.tree_tokens.proofs.Writes.{read_part}
use Rattle.byte_write.proofs.Padding.{wrote_padded}
use Rattle.table_store.proofs.Forms.{formed_is}
use Rattle.call_checks.specs.Lent.{TreeLent}
use Rattle.call_text.specs.Fills.{Fills}

-- The text of a tree in form fits.
pub formed_text : {n : ℕ} {l : List ℕ} (f : TreeTokens n l) (t : Forest) → l ≡ flat t → length (tree_text (tree (plain t))) ≤ 2048
formed_text {n} f t e = subst (λ (u : Forest). length (tree_text u) ≤ 2048) (sym (tree_plain t)) (text-length n t (formed_is f t e) f.few_leaves)

-- The text, and zeros up to 2,048 bytes.
pub wrote_fills : (t : Forest) {old mid new : List ℕ} {k m : ℕ} → Wrote (tree_text (tree (plain t))) old mid k
    → Wrote (tree_text (tree (plain t)) ++ replicate (2048 - k) 0) old new m → Fills t old new k
wrote_fills t a b =
    let same_tree = tree_plain t in
    record { long = a.many ∙ rw same_tree; bytes = wrote_padded 2048 a b ∙ rw same_tree }

module _ (nodes : Nodes) (bytes : List ℕ) where
  pub write_refused : (r : Refusal) → first_refusal (tree_checks nodes (short 2048 bytes)) ≡ some r → filled_as (reported r) bytes ≡ write_call nodes bytes
  unfolding write_call write_refusal
  write_refused r e = rw e

  module _ {old toks : List ℕ} {k : ℕ} (h : TreeLent nodes (short 2048 bytes) old toks k) where
    pub lent_formed : (n : ℕ) × TreeTokens n (take (k - 0) (drop 0 toks))
    lent_formed =
        (leaves nodes, record { shown = h.tree; is = read_part h.wrote; in_form = h.lent.tree.in_form; few_leaves = h.lent.whole.few_leaves })

    pub lent_long : 2048 ≤ length bytes
    lent_long = ltb-false (length bytes) 2048 h.long

    pub write_done : {new : List ℕ} {m : ℕ} → Fills h.tree bytes new m → filled_as (reply 0 m) new ≡ write_call nodes bytes
    unfolding write_call write_refusal
    write_done f = rw (h.passes, lent_held nodes h.tree h.lent, f.long, f.bytes)
