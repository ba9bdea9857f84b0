-- What a writer to the part from a place on appends; one text appended after another.
use mathlib.Core.Path.{◌≡◌, subst}
use mathlib.Core.List.{List, ◌++◌, append_assoc}
use Prim.Native.Nat.{ℕ, ◌+◌, ◌-◌}
use native.Mathlib.Omega.{arith}
use borrow.Rule.Slice.PartMut.{put_mid}
use lib.ListN.{length, take, drop, length-append}
use Rattle.tree_tokens.specs.Tokens.{Wrote}
use Rattle.tree_tokens.proofs.Writes.{wrote_then, wrote_part}
use Rattle.list_bytes.specs.Appends.{Appends}

pub part_appends : {xs old part : List ℕ} {at j : ℕ} → Wrote xs (take (length old - at) (drop at old)) part j
    → Appends xs at old (put_mid at (length old - at) old part) (at + j)
part_appends w = record { past = omega (arith, w.many); after = λ before base v. wrote_then v w }

pub copy_appends : {xs old part : List ℕ} {at n : ℕ} → part ≡ xs → n ≡ length xs → Appends xs at old (put_mid at (at + n - at) old part) (at + n)
copy_appends {xs} {at = at} {n} e h =
    let j : length xs ≡ at + n - at = omega arith in
    let past : at + (at + n - at) ≡ at + n = omega arith in
    record { past = omega arith; after = λ before base v. subst (Wrote (before ++ xs) base _) past (wrote_part v e j) }

pub appends_then : {xs ys old mid new : List ℕ} {at k r : ℕ} → Appends xs at old mid k → Appends ys k mid new r → Appends (xs ++ ys) at old new r
appends_then {xs} {ys} {old} {mid} {new} {at} {k} {r} a b = record {
  past = omega (arith, a.past, b.past, length-append xs ys);
  after = λ before base v. subst (λ (l : List ℕ). Wrote l base new r) (append_assoc before xs ys) (b.after (before ++ xs) base (a.after before base v));
}

pub appends_as : {xs ys old new : List ℕ} {at r : ℕ} → xs ≡ ys → Appends xs at old new r → Appends ys at old new r
appends_as {old = old} {new} {at} {r} e a = subst (λ (l : List ℕ). Appends l at old new r) e a
