-- What `work` holds after each step.
use mathlib.Core.Path.{◌≡◌, refl, sym, ap, ◌∙◌, subst}
use mathlib.Core.Bool.{Bool, true, false}
use mir.Val.{bool_byte as from_bool}
use mathlib.Core.List.{List, ◌∷◌, ◌++◌}
use Prim.Native.Nat.{ℕ, suc, ◌+◌, ◌-◌, ◌≤◌, ◌<◌, ◌/◌, ◌%◌}
use native.Mathlib.Omega.{arith}
use borrow.Rule.Slice.PartMut.{put_mid}
use lib.Dec.{eqb}
use lib.ListN.{length, get_or, take, drop, length-append, length-drop}
use lib.Seq.{take_at, drop_at, drop-drop, get_or-drop, length-take-le}
use Rattle.spec_orders.proofs.Tests.{or_cond}
use Rattle.tree_tokens.proofs.Laws.{number_small}
use Rattle.spec_orders.specs.Lists.{elem}
use Rattle.spec_orders.specs.CircularOrder.{Restriction}
use Rattle.spec_orders.specs.Tree.{Kind, Forest, nil, leaf, node}
use Rattle.spec_orders.specs.Form.{nodes}
use Rattle.mark_words.specs.Marks.{marked, words_of, with_leaf}
use Rattle.mark_words.proofs.Words.{length_words, marked_words, words_agree}
use Rattle.table_reading.proofs.Leaves.{leaf_marks}
use Rattle.tree_tokens.specs.Tokens.{number}
use Rattle.tree_judge.specs.Judge.{leaf_state, node_state, states, judge}
use Rattle.table_sweep.specs.Kept.{packed, state_in, Labels, Roots, Inside, SameRecords, RootIs}

-- Four words put in places 4 to 7.
module _ (w p : List ℕ) (long : length w ≡ 265) (four : length p ≡ 4) where
  front : length (take 4 w) ≡ 4
  front = length-take-le 4 w (omega arith)

  mid_side : take 4 (drop 0 (put_mid 4 4 w p)) ≡ take 4 (drop 0 w)
  mid_side = take_at (take 4 w) (p ++ drop 4 (drop 4 w)) 4 front

  mid_tail : drop 4 (put_mid 4 4 w p) ≡ p ++ drop 4 (drop 4 w)
  mid_tail = drop_at (take 4 w) (p ++ drop 4 (drop 4 w)) 4 front

  mid_seen : take 4 (drop 4 (put_mid 4 4 w p)) ≡ p
  mid_seen = ap (take 4) mid_tail ∙ take_at p (drop 4 (drop 4 w)) 4 four

  mid_past : drop 8 (put_mid 4 4 w p) ≡ drop 8 w
  mid_past = sym (drop-drop 4 4 (put_mid 4 4 w p)) ∙ ap (drop 4) mid_tail ∙ drop_at p (drop 4 (drop 4 w)) 4 four ∙ drop-drop 4 4 w

  mid_rest : (j : ℕ) → 8 ≤ j → get_or (put_mid 4 4 w p) j 0 ≡ get_or w j 0
  mid_rest j l =
      let e : j ≡ 8 + (j - 8) = omega arith in
      ap (λ (k : ℕ). get_or (put_mid 4 4 w p) k 0) e ∙ sym (get_or-drop 8 (put_mid 4 4 w p) (j - 8) 0) ∙ ap (λ (k : List ℕ). get_or k (j - 8) 0) mid_past ∙ get_or-drop 8 w (j - 8) 0 ∙ ap (λ (k : ℕ). get_or w k 0) (sym e)

  mid_long : length (put_mid 4 4 w p) ≡ 265
  mid_long = omega (arith, length-append (take 4 w) (p ++ drop 4 (drop 4 w)), length-append p (drop 4 (drop 4 w)), length-drop 4 (drop 4 w), length-drop 4 w, front)

pub same_records : (w p : List ℕ) → length w ≡ 265 → length p ≡ length (take 4 (drop 4 w)) → SameRecords w (put_mid 4 4 w p)
same_records w p long e = mid_rest w p long (e ∙ length-take-le 4 (drop 4 w) (omega (arith, length-drop 4 w)))

pub labels_same : (S : Restriction) (w v : List ℕ) (x : ℕ) (g : Forest) → ((j : ℕ) → 8 + x ≤ j → get_or v j 0 ≡ get_or w j 0) → Labels S w x g → Labels S v x g
unfolding Labels
labels_same S w v x nil h r = tt
labels_same S w v x (leaf b f) h r = labels_same S w v x f h r
labels_same S w v x (node k i f) h r = (
  ap state_in (h (8 + x) (omega arith)) ∙ r.0,
  labels_same S w v (suc x) i (λ j a. h j (omega arith)) r.1,
  labels_same S w v (suc x + nodes i) f (λ j a. h j (omega arith)) r.2,
)

pub roots_same : (S : Restriction) (w v : List ℕ) (x : ℕ) (g : Forest) → ((j : ℕ) → 8 + x ≤ j → get_or v j 0 ≡ get_or w j 0) → Roots S w x g → Roots S v x g
unfolding Roots
roots_same S w v x (leaf _ _) h r = elim r [ ]
roots_same S w v x nil h r = tt
roots_same S w v x (node k i f) h r = (
  h (8 + x) (omega arith) ∙ r.0,
  r.1,
  labels_same S w v (suc x) i (λ j a. h j (omega arith)) r.2,
  roots_same S w v (suc x + nodes i) f (λ j a. h j (omega arith)) r.3,
)

-- Roots have their labels; an item more has them too.
pub roots_labels : (S : Restriction) (w : List ℕ) (x : ℕ) (g : Forest) → Roots S w x g → x + nodes g ≤ 256 → Labels S w x g
unfolding Roots Labels packed
roots_labels S w x (leaf _ _) r h = elim r [ ]
roots_labels S w x nil r h = tt
roots_labels S w x (node k i f) r h =
    (omega (arith, r.0, r.1, number_small (node_state k (states (judge S i)))), r.2, roots_labels S w (suc x + nodes i) f r.3 (omega arith))

pub labels_leaf : (S : Restriction) (w : List ℕ) (x b : ℕ) (i : Forest) → Labels S w x i → Labels S w x (leaf b i)
unfolding Labels
labels_leaf S w x b i l = l

pub labels_root : (S : Restriction) (w : List ℕ) (x : ℕ) (k : Kind) (i f g : Forest) {y : ℕ} → Labels S w x (node k i f) → y ≡ x + suc (nodes i) → Labels S w y g → Labels S w x (node k i g)
unfolding Labels
labels_root S w x k i f g l e m = let q : x + suc (nodes i) ≡ suc x + nodes i = omega arith in (l.0, l.1, subst (λ (z : ℕ). Labels S w z g) (e ∙ q) m)

pub labels_none : (S : Restriction) (w : List ℕ) (x : ℕ) → Labels S w x nil
unfolding Labels
labels_none S w x = tt

pub labels_on : (S : Restriction) (w v : List ℕ) (x r : ℕ) (i u : Forest) → SameRecords w v → (Labels S w x i → Labels S w r u) → Labels S v x i → Labels S v r u
labels_on S w v x r i u same f l =
    labels_same S w v r u (λ j a. same j (omega arith)) (f (labels_same S v w x i (λ j a. sym (same j (omega arith))) l))

-- A leaf that is new, and marked.
pub leaf_kept : {S : Restriction} {w : List ℕ} {x : ℕ} {g : Forest} {ls : List ℕ} (b : ℕ) (p : List ℕ) → Inside S w x g ls
    → p ≡ words_of (length (take 4 (drop 4 w))) (with_leaf b (marked (take 4 (drop 4 w)))) → Inside S (put_mid 4 4 w p) x g (b ∷ ls)
leaf_kept {S} {w} {x} {g} {ls} b p k e =
    let q : p ≡ words_of 4 (with_leaf b (elem ls)) = e ∙ leaf_marks 4 (elem ls) b k.kept.seen in
    let four : length p ≡ 4 = ap length q ∙ length_words 4 (with_leaf b (elem ls)) in
    let long = k.kept.long in
    record {
      kept = record {
        long = mid_long w p long four;
        side = λ c l m. ap (λ (v : List ℕ). marked v c) (mid_side w p long four) ∙ k.kept.side c l m;
        seen = mid_seen w p long four ∙ q ∙ words_agree 4 (with_leaf b (elem ls)) (elem (b ∷ ls)) (λ c l m. or_cond (eqb c b) (elem ls c));
        roots = roots_same S w (put_mid 4 4 w p) x g (λ j l. mid_rest w p long four j (omega arith)) k.kept.roots;
        low = k.kept.low;
      };
      used = mid_rest w p long four 264 (omega arith) ∙ k.used;
    }

-- Whether it is new.
pub leaf_read : {S : Restriction} {w : List ℕ} {x : ℕ} {g : Forest} {ls : List ℕ} (n b : ℕ) → Inside S w x g ls → 2 ≤ b → b ≤ 256 → marked (take 4 (drop 4 w)) b ≡ elem ls b
leaf_read {ls = ls} n b k l m = ap (λ (v : List ℕ). marked v b) k.kept.seen ∙ marked_words 4 (elem ls) b (omega arith) m

-- The root in record x.
pub no_root : {S : Restriction} {w : List ℕ} {x : ℕ} (g : Forest) {ls : List ℕ} → Inside S w x g ls → get_or w 264 0 ≤ x → g ≡ nil
unfolding Roots
no_root nil k l = refl
no_root (leaf b f) k l = absurd k.kept.roots
no_root (node h i f) k l = absurd (omega (arith, k.used))

pub root_read : {S : Restriction} {w : List ℕ} {x : ℕ} (g : Forest) {ls : List ℕ} → Inside S w x g ls → x < get_or w 264 0
    → RootIs S g (get_or w (8 + x) 0 % 512) (get_or w (8 + x) 0 / 512 % 512) (get_or w (8 + x) 0 / 262144 % 5)
unfolding Roots packed
root_read nil k l = absurd (omega (arith, k.used))
root_read (leaf b f) k l = absurd k.kept.roots
root_read {S} {w} {x} (node h i f) k l =
    let r = k.kept.roots in
    let s = number_small (node_state h (states (judge S i))) in
    let few : suc (nodes i) ≤ 256 = omega (arith, k.kept.low) in
    record {
      kind = h;
      items = i;
      rest = f;
      is = refl;
      its_first = omega (arith, r.0, r.1);
      its_records = omega (arith, r.0, r.1);
      its_state = omega (arith, r.0, r.1);
    }

-- The state of a leaf, from whether the restriction has it.
pub leaf_number : (in_it : Bool) → from_bool in_it ≡ number (leaf_state in_it)
leaf_number true = refl
leaf_number false = refl

pub bit_small : (b : Bool) → from_bool b ≤ 4
bit_small true = omega arith
bit_small false = omega arith
