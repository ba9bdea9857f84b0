-- Going down a sequence of tokens to the item that says whether the first one stays: what is left of them.
use mathlib.Core.Path.{◌≡◌, refl, sym, ap, ◌∙◌}
use mathlib.Core.Bool.{Bool, true}
use mathlib.Core.List.{List}
use Prim.Native.Nat.{ℕ, ◌+◌, ◌-◌, ◌≤◌}
use native.Mathlib.Omega.{arith}
use lib.ListN.{length, take, drop}
use lib.Seq.{drop-drop}
use Rattle.spec_orders.proofs.ListLaws.{drop_taken, part_to_end}
use Rattle.tree_tokens.specs.Tokens.{Judged, j_nil, encode, Tokens}
use Rattle.tree_tokens.specs.Views.{items_of}
use Rattle.tree_tokens.proofs.Laws.{at_end}
use Rattle.tree_spans.specs.Spans.{is, Parted}
use Rattle.tree_stays.specs.Stays.{stays}
use Rattle.tree_stays.proofs.Laws.{others}

-- From index i to e of the tokens x of any sequence stand those of one whose first item stays where that of x does.
pub record Left (x : List ℕ) (i e : ℕ) : Type 0 where
  pub at : (j : Judged) → x ≡ encode j → (h : Judged) × (take (e - i) (drop i x) ≡ encode h) × (stays h ≡ stays j)

pub left-start : (x : List ℕ) → Left x 0 (length x)
left-start x = record { at = λ j d. (j, part_to_end x 0 ∙ d, refl) }

-- They are tokens; what they say holds of x; fewer are left; none is.
pub left_tokens : {x : List ℕ} {i e : ℕ} → Tokens x → Left x i e → Tokens (take (e - i) (drop i x))
left_tokens p g = let q = g.at p.0 p.1 in (q.0, q.1)

pub left_says : {x : List ℕ} {i e : ℕ} {r : Bool} → Left x i e → ((h : Judged) → take (e - i) (drop i x) ≡ encode h → r ≡ stays h)
    → (j : Judged) → x ≡ encode j → r ≡ stays j
left_says g f j d = let q = g.at j d in f q.0 q.1 ∙ q.2

pub left-next : {x : List ℕ} {i e a b : ℕ} → Left x i e
    → ((h : Judged) → take (e - i) (drop i x) ≡ encode h → (take (b - a) (drop a x) ≡ encode (others h)) × (stays (others h) ≡ stays h)) → Left x a b
left-next g f = record { at = λ j d. let q = g.at j d in let n = f q.0 q.1 in (others q.0, n.0, n.1 ∙ q.2) }

nil_stays : true ≡ stays j_nil
unfolding stays
nil_stays = refl

pub left_end : {x : List ℕ} {i e : ℕ} → e ≤ i → Left x i e → (j : Judged) → x ≡ encode j → true ≡ stays j
left_end {x} {i} {e} n g =
    let none : e - i ≡ 0 = omega arith in
    left_says g (λ h p. nil_stays ∙ ap stays (sym (at_end h p (rw none))))

-- Of the first item's items, those from the first that is not empty on.
pub others-left : (x : List ℕ) (i e k : ℕ) (h : Judged) → Parted (is 0) (take (e - i) (drop i x)) (items_of h) k
    → take (e - (i + k)) (drop (i + k) x) ≡ encode (others h)
others-left x i e k h w =
    let size : e - (i + k) ≡ e - i - k = omega arith in
    rw (size, ← drop-drop k i x) (sym (drop_taken k (e - i) (drop i x)) ∙ w.back)
