-- The tree and the order of a file's ring after all lines.
use Rattle.std.proofs.Common.{◌≡◌, ℕ, ◌≤◌, List, sym, ap, subst, ◌∙◌, arith}
use Rattle.spec_orders.specs.Form.{InForm, standard}
use Rattle.tree_tokens.specs.Tokens.{flat, TreeTokens}
use Rattle.file_read.specs.RingFile.{FileHolds}
use Rattle.spec_listing.specs.Listing.{RingState, opened, run, state_at}
use Rattle.spec_listing.proofs.EmptyLines.{state_form}
use Rattle.list_ring.specs.Stands.{lists_of}
use Rattle.list_ring.proofs.Runs.{state_all}
use Rattle.list_ring.proofs.Files.{few_names, lists_length}
use Rattle.list_fields.specs.Ordered.{Ordered}
use Rattle.list_line.specs.Printing.{final}

module _ {x : List ℕ} {n h k : ℕ} (f : FileHolds x n h k) where
  pub last_tree : (state_at n (lists_of f) k).tree ≡ final f.ns (lists_of f)
  unfolding final
  last_tree =
      ap (λ (u : RingState). u.tree) (state_all n (lists_of f) k (sym (lists_length f)))
      ∙ ap (λ (i : ℕ). (run i (opened i) 1 (lists_of f)).tree) f.leaves

  pub last_form : InForm n (final f.ns (lists_of f))
  last_form = subst (InForm n) last_tree (state_form n (lists_of f) k)

  pub some_leaf : 1 ≤ n
  some_leaf = omega (arith, f.leaves, f.rules.names.some_name)

  pub last_order : {order : List ℕ} → order ≡ standard (final f.ns (lists_of f)) → Ordered n order
  last_order e = record { tree = final f.ns (lists_of f); form = last_form; is = e; some_leaf = some_leaf; few_leaves = few_names f }

  pub last_tokens : {toks : List ℕ} → toks ≡ flat (final f.ns (lists_of f)) → TreeTokens n toks
  last_tokens e = record { shown = final f.ns (lists_of f); is = e; in_form = last_form; few_leaves = few_names f }
