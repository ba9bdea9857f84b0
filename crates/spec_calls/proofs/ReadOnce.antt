-- What the text's reader answers, and what it leaves in the node table and the book, is determined by what it is lent: of the two answers that
-- `ReadCall` allows, the checks 1, 15 and 2 tell which it is, and a text has one outcome (`reads_once`).
use mathlib.Core.Path.{◌≡◌, sym, ◌∙◌, ap}
use mathlib.Core.List.{List}
use Prim.Native.Nat.{ℕ}
use native.Mathlib.Omega.{arith}
use Rattle.spec_orders.specs.TreeText.{Found}
use Rattle.spec_orders.proofs.TextOnce.{reads_once}
use Rattle.spec_calls.specs.Tables.{Nodes, Book}
use Rattle.spec_calls.specs.Calls.{Changed, read_outcome, ReadCall, unread, read}

pub read_call_once : {nodes : Nodes} {book : Book} {text : List ℕ} {r s : Changed} → ReadCall nodes book text r → ReadCall nodes book text s → r ≡ s
read_call_once (unread p) (unread q) = let e = sym p ∙ q in cc
read_call_once (unread p) (read q w) = absurd (let e = sym p ∙ q in let z : ◌≡◌ {A = ℕ} 0 1 = cc in omega arith)
read_call_once (read p v) (unread q) = absurd (let e = sym p ∙ q in let z : ◌≡◌ {A = ℕ} 0 1 = cc in omega arith)
read_call_once {nodes = nodes} {book = book} (read p v) (read q w) = ap (λ (f : Found). read_outcome f nodes book) (reads_once v w)
