-- No two answers have the same numbers: what a call returns in the paper's numbers tells its answer. No refusal's number is 0 or 4.
use mathlib.Core.Path.{◌≡◌, refl, sym, ◌∙◌, ap, ap₂}
use mathlib.Core.Logic.{◌≢◌}
use mathlib.Core.Bool.{cond}
use Prim.Native.Nat.{ℕ}
use native.Mathlib.Omega.{arith}
use lib.Dec.{eqb}
use Rattle.spec_calls.specs.declared.Refusal.{Refusal}
use Rattle.spec_calls.specs.declared.Refusal.TheVariants.{RingSize, ShortTable, NotInForm, OutsideRing, Repeated, BookFull, Impossible, NoSuchGroup, NotConsecutive, RingFile, TreeText, BinCounts, NoAim, RackSize, ZeroSeed, GroupCount}
use Rattle.std.specs.declared.result.Result.{Result}
use Rattle.std.specs.declared.result.Result.TheVariants.{Ok, Err}
use Rattle.spec_calls.specs.Refusals.{Reply, reply, reported, report}

-- The refusal with these numbers, and the answer.
abbrev refusal_of : ℕ → ℕ → Refusal
refusal_of r v =
    cond (eqb r 2) ShortTable (cond (eqb r 3) NotInForm (cond (eqb r 5) (OutsideRing v) (cond (eqb r 6) (Repeated v)
    (cond (eqb r 7) BookFull (cond (eqb r 8) Impossible (cond (eqb r 9) NoSuchGroup (cond (eqb r 10) NotConsecutive
    (cond (eqb r 11) (RingFile v) (cond (eqb r 12) (TreeText v) (cond (eqb r 13) BinCounts (cond (eqb r 14) NoAim
    (cond (eqb r 15) RackSize (cond (eqb r 16) ZeroSeed (cond (eqb r 17) GroupCount RingSize))))))))))))))

abbrev answer_of : Reply → Result ℕ Refusal
answer_of s = cond (eqb s.number 0) (Ok s.value) (Err (refusal_of s.number s.value))

refused_back : (why : Refusal) → answer_of (reported why) ≡ Err why
refused_back RingSize = refl
refused_back ShortTable = refl
refused_back NotInForm = refl
refused_back (OutsideRing p) = refl
refused_back (Repeated p) = refl
refused_back BookFull = refl
refused_back Impossible = refl
refused_back NoSuchGroup = refl
refused_back NotConsecutive = refl
refused_back (RingFile p) = refl
refused_back (TreeText p) = refl
refused_back BinCounts = refl
refused_back NoAim = refl
refused_back RackSize = refl
refused_back ZeroSeed = refl
refused_back GroupCount = refl

answer_back : (a : Result ℕ Refusal) → answer_of (report a) ≡ a
answer_back (Ok v) = refl
answer_back (Err why) = refused_back why

pub report_once : (a b : Result ℕ Refusal) → report a ≡ report b → a ≡ b
report_once a b e = sym (answer_back a) ∙ ap answer_of e ∙ answer_back b

-- No refusal's number is 0, or 4.
neither : (why : Refusal) → ((reported why).number ≢ 0) × ((reported why).number ≢ 4)
neither RingSize = (λ e. omega arith, λ e. omega arith)
neither ShortTable = (λ e. omega arith, λ e. omega arith)
neither NotInForm = (λ e. omega arith, λ e. omega arith)
neither (OutsideRing p) = (λ e. omega arith, λ e. omega arith)
neither (Repeated p) = (λ e. omega arith, λ e. omega arith)
neither BookFull = (λ e. omega arith, λ e. omega arith)
neither Impossible = (λ e. omega arith, λ e. omega arith)
neither NoSuchGroup = (λ e. omega arith, λ e. omega arith)
neither NotConsecutive = (λ e. omega arith, λ e. omega arith)
neither (RingFile p) = (λ e. omega arith, λ e. omega arith)
neither (TreeText p) = (λ e. omega arith, λ e. omega arith)
neither BinCounts = (λ e. omega arith, λ e. omega arith)
neither NoAim = (λ e. omega arith, λ e. omega arith)
neither RackSize = (λ e. omega arith, λ e. omega arith)
neither ZeroSeed = (λ e. omega arith, λ e. omega arith)
neither GroupCount = (λ e. omega arith, λ e. omega arith)

pub refused_number : (why : Refusal) → (reported why).number ≢ 0
refused_number why = (neither why).0

pub never_4 : (why : Refusal) → (reported why).number ≢ 4
never_4 why = (neither why).1

-- What `code` returns and writes.
pub done_reply : (v : ℕ) (a : Result ℕ Refusal) → a ≡ Ok v → reply 0 v ≡ report a
done_reply v a e = sym (ap report e)

pub refused_reply : (r v : ℕ) (why : Refusal) (a : Result ℕ Refusal) → a ≡ Err why → r ≡ (reported why).number → v ≡ (reported why).value → reply r v ≡ report a
refused_reply r v why a e p q = ap₂ reply p q ∙ sym (ap report e)
