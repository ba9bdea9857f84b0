-- Numbers that stand in a list already, and what is written behind them.
use mathlib.Core.Path.{◌≡◌, sym, ap, subst, ◌∙◌}
use mathlib.Core.Bool.{Bool}
use mathlib.Core.List.{List, ◌++◌, map}
use Prim.Native.Nat.{ℕ, ◌+◌, ◌≤◌}
use lib.ListN.{length, take, drop, length-append, take-append-drop}
use lib.Seq.{length-take-le, drop-append-add, drop-drop}
use Rattle.spec_orders.specs.Conflict.{leave_out}
use Rattle.tree_tokens.specs.Tokens.{Wrote}
use Rattle.tree_tokens.proofs.Writes.{read_back}
use Rattle.conflict_rule.specs.LeavingOut.{goes_on}

pub wrote_here : (k : ℕ) (l : List ℕ) → k ≤ length l → Wrote (take k l) l l k
wrote_here k l h = record { many = sym (length-take-le k l h); text = rw (length-take-le k l h) (sym (take-append-drop k l)) }

-- A text, and then the same with more behind it.
wrote_again : (ys : List ℕ) {ks old mid new : List ℕ} {k r : ℕ} → Wrote ks old mid k → Wrote (ks ++ ys) mid new r → Wrote (ks ++ ys) old new r
wrote_again ys {ks} {old} {mid} a b = record { many = b.many; text = b.text ∙ ap (λ (l : List ℕ). (ks ++ ys) ++ l) behind }
  where
    behind : drop (length (ks ++ ys)) mid ≡ drop (length (ks ++ ys)) old
    behind = rw (length-append ks ys)
        (ap (drop (length ks + length ys)) a.text ∙ drop-append-add ks (drop (length ks) old) (length ys) ∙ drop-drop (length ys) (length ks) old)

pub went_on : {A : Type 0} (ok : List A → Bool) (f : ℕ → A) (stay : List A) (js : List ℕ) {ks old mid new : List ℕ} {k r : ℕ}
    → Wrote ks old mid k → Wrote (goes_on ok f stay (take k mid) js) mid new r → Wrote (goes_on ok f stay ks js) old new r
unfolding goes_on
went_on ok f stay js {ks} {old} {mid} {new} {k} {r} a b = wrote_again (leave_out ok f (stay ++ map f ks) js) a (subst (λ l. Wrote (goes_on ok f stay l js) mid new r) (read_back a) b)
