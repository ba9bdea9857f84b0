-- The words of states: read from the last item to the first, what each promises, a P-node's word by its partial items.
use mathlib.Core.Path.{◌≡◌, refl, sym, ap, ◌∙◌}
use mathlib.Core.Bool.{Bool, true, false, cond, ◌&&◌, ◌||◌, and-true, and-false}
use mathlib.Core.List.{List, [], ◌∷◌, ◌++◌, reverse, reverse-cons}
use Prim.Native.Nat.{ℕ, zero, suc}
use lib.Dec.{leb}
use Rattle.spec_orders.specs.Lists.{those_of}
use Rattle.spec_orders.specs.Tree.{Kind, P, C}
use Rattle.tree_tokens.specs.Tokens.{State, E, F, L, R, X, number}
use Rattle.tree_judge.specs.Judge.{can_line, can_reduce, all_empty, all_full, rises, falls, peaks, few, gathers, linear?, reduced?}

-- What holds of each state holds of all.
pub each : (Q : State → Type 0) → Q E → Q F → Q L → Q R → Q X → (s : State) → Q s
each Q e f l r x E = e
each Q e f l r x F = f
each Q e f l r x L = l
each Q e f l r x R = r
each Q e f l r x X = x

-- One more state at the end of a word, which is all E (a) and rises (r) or is all F (r).
abbrev ends : State → Bool → Bool → Bool
ends E a r = a
ends F a r = r
ends L a r = a
ends R a r = false
ends X a r = false

ends_not : (s : State) → false ≡ ends s false false
ends_not = each (λ s. false ≡ ends s false false) refl refl refl refl refl

full_snoc : (ss : List State) (s : State) → all_full (ss ++ (s ∷ [])) ≡ ends s false (all_full ss)
full_snoc [] = each (λ s. all_full (s ∷ []) ≡ ends s false true) refl refl refl refl refl
full_snoc (E ∷ ss) = ends_not
full_snoc (F ∷ ss) = full_snoc ss
full_snoc (L ∷ ss) = ends_not
full_snoc (R ∷ ss) = ends_not
full_snoc (X ∷ ss) = ends_not

rises_snoc : (ss : List State) (s : State) → rises (ss ++ (s ∷ [])) ≡ ends s (all_empty ss) (rises ss)
rises_snoc [] = each (λ s. rises (s ∷ []) ≡ ends s true true) refl refl refl refl refl
rises_snoc (E ∷ ss) = rises_snoc ss
rises_snoc (F ∷ ss) = full_snoc ss
rises_snoc (L ∷ ss) = full_snoc ss
rises_snoc (R ∷ ss) = ends_not
rises_snoc (X ∷ ss) = ends_not

empty_snoc : (ss : List State) (s : State) → all_empty (ss ++ (s ∷ [])) ≡ all_empty ss && all_empty (s ∷ [])
empty_snoc [] s = refl
empty_snoc (E ∷ ss) s = empty_snoc ss s
empty_snoc (F ∷ ss) s = refl
empty_snoc (L ∷ ss) s = refl
empty_snoc (R ∷ ss) s = refl
empty_snoc (X ∷ ss) s = refl

empty_rev : (ss : List State) → all_empty (reverse ss) ≡ all_empty ss
empty_rev [] = refl
empty_rev (s ∷ ss) = ap all_empty (reverse-cons s ss) ∙ empty_snoc (reverse ss) s ∙ ap (λ b. b && all_empty (s ∷ [])) (empty_rev ss) ∙ one s
  where
    one : (s : State) → all_empty ss && all_empty (s ∷ []) ≡ all_empty (s ∷ ss)
    one = each (λ s. all_empty ss && all_empty (s ∷ []) ≡ all_empty (s ∷ ss))
        (and-true (all_empty ss)) (and-false (all_empty ss)) (and-false (all_empty ss)) (and-false (all_empty ss)) (and-false (all_empty ss))

pub rises-rev : (ss : List State) → rises (reverse ss) ≡ falls ss
rises-rev [] = refl
rises-rev (s ∷ ss) =
    ap rises (reverse-cons s ss)
    ∙ rises_snoc (reverse ss) s
    ∙ ap (λ a. ends s a (rises (reverse ss))) (empty_rev ss)
    ∙ ap (ends s (all_empty ss)) (rises-rev ss)
    ∙ each (λ s. ends s (all_empty ss) (falls ss) ≡ falls (s ∷ ss)) refl refl refl refl refl s

-- What has a line can be reduced.
empty_falls : (ss : List State) → all_empty ss ≡ true → falls ss ≡ true
empty_falls [] h = refl
empty_falls (E ∷ ss) h = h
empty_falls (F ∷ ss) h = cc
empty_falls (L ∷ ss) h = cc
empty_falls (R ∷ ss) h = cc
empty_falls (X ∷ ss) h = cc

full_falls : (ss : List State) → all_full ss ≡ true → falls ss ≡ true
full_falls [] h = refl
full_falls (E ∷ ss) h = cc
full_falls (F ∷ ss) h = full_falls ss h
full_falls (L ∷ ss) h = cc
full_falls (R ∷ ss) h = cc
full_falls (X ∷ ss) h = cc

empty_peaks : (ss : List State) → all_empty ss ≡ true → peaks ss ≡ true
empty_peaks [] h = refl
empty_peaks (E ∷ ss) h = empty_peaks ss h
empty_peaks (F ∷ ss) h = cc
empty_peaks (L ∷ ss) h = cc
empty_peaks (R ∷ ss) h = cc
empty_peaks (X ∷ ss) h = cc

rises-peaks : (ss : List State) → rises ss ≡ true → peaks ss ≡ true
rises-peaks [] h = refl
rises-peaks (E ∷ ss) h = rises-peaks ss h
rises-peaks (F ∷ ss) h = full_falls ss h
rises-peaks (L ∷ ss) h = full_falls ss h
rises-peaks (R ∷ ss) h = cc
rises-peaks (X ∷ ss) h = cc

falls-peaks : (ss : List State) → falls ss ≡ true → peaks ss ≡ true
falls-peaks [] h = refl
falls-peaks (E ∷ ss) h = empty_peaks ss h
falls-peaks (F ∷ ss) h = h
falls-peaks (L ∷ ss) h = empty_falls ss h
falls-peaks (R ∷ ss) h = cc
falls-peaks (X ∷ ss) h = cc

few_more : (n : ℕ) (ss : List State) → few n ss ≡ true → few (suc n) ss ≡ true
few_more n [] h = refl
few_more n (E ∷ ss) h = few_more n ss h
few_more n (F ∷ ss) h = few_more n ss h
few_more zero (L ∷ ss) h = cc
few_more (suc n) (L ∷ ss) h = few_more n ss h
few_more n (R ∷ ss) h = cc
few_more n (X ∷ ss) h = cc

few-gathers : (ss : List State) → few 1 ss ≡ true → gathers ss ≡ true
few-gathers [] h = refl
few-gathers (E ∷ ss) h = few-gathers ss h
few-gathers (F ∷ ss) h = few_more 1 ss h
few-gathers (L ∷ ss) h = few_more 0 ss h
few-gathers (R ∷ ss) h = cc
few-gathers (X ∷ ss) h = cc

pub linear_reduced : (k : Kind) (ss : List State) → linear? k ss ≡ true → reduced? k ss ≡ true
linear_reduced P ss h = few-gathers ss h
linear_reduced C ss h = go (rises ss) refl h
  where
    go : (b : Bool) → rises ss ≡ b → b || falls ss ≡ true → peaks ss ≡ true
    go true e h = rises-peaks ss e
    go false e h = falls-peaks ss h

-- After a first item of state s that is not E, all are E, or the word falls.
pub peaks_by : (s : State) (ss : List State) → all_empty (s ∷ []) ≡ false → cond (all_empty ss) (can_reduce s) (can_line s && falls ss) ≡ peaks (s ∷ ss)
peaks_by s ss h = go s (all_empty ss) refl h
  where
    go : (s : State) (b : Bool) → all_empty ss ≡ b → all_empty (s ∷ []) ≡ false → cond b (can_reduce s) (can_line s && falls ss) ≡ peaks (s ∷ ss)
    go E b e h = cc
    go F true e h = sym (empty_falls ss e)
    go F false e h = refl
    go L true e h = sym (empty_falls ss e)
    go L false e h = refl
    go R true e h = sym e
    go R false e h = sym e
    go X true e h = refl
    go X false e h = refl

-- Each item of a word that rises has a line.
abbrev pub all_line : List State → Bool
all_line [] = true
all_line (s ∷ ss) = can_line s && all_line ss

full_lines : (ss : List State) → all_full ss ≡ true → all_line ss ≡ true
full_lines [] h = refl
full_lines (E ∷ ss) h = cc
full_lines (F ∷ ss) h = full_lines ss h
full_lines (L ∷ ss) h = cc
full_lines (R ∷ ss) h = cc
full_lines (X ∷ ss) h = cc

pub rises-lines : (ss : List State) → rises ss ≡ true → all_line ss ≡ true
rises-lines [] h = refl
rises-lines (E ∷ ss) h = rises-lines ss h
rises-lines (F ∷ ss) h = full_lines ss h
rises-lines (L ∷ ss) h = full_lines ss h
rises-lines (R ∷ ss) h = cc
rises-lines (X ∷ ss) h = cc

-- The partial items' states, and whether there is a full item: what a P-node's word says, by them.
abbrev pub partials : List State → List State
partials ss = those_of (λ s. leb 2 (number s)) ss

abbrev pub no_full : List State → Bool
no_full [] = true
no_full (E ∷ ss) = no_full ss
no_full (F ∷ ss) = false
no_full (L ∷ ss) = no_full ss
no_full (R ∷ ss) = no_full ss
no_full (X ∷ ss) = no_full ss

abbrev pub lone : List State → Bool
lone [] = true
lone (m ∷ []) = can_line m
lone (m ∷ (n ∷ ms)) = false

abbrev pub pair : Bool → List State → Bool
pair b [] = true
pair b (m ∷ []) = cond b (can_reduce m) (can_line m)
pair b (m ∷ (n ∷ [])) = can_line m && can_line n
pair b (m ∷ (n ∷ (o ∷ ms))) = false

lone_after : (s : State) (ss : List State) → lone (s ∷ partials ss) ≡ few 0 ss && can_line s
lone_after s [] = refl
lone_after s (E ∷ ss) = lone_after s ss
lone_after s (F ∷ ss) = lone_after s ss
lone_after s (L ∷ ss) = refl
lone_after s (R ∷ ss) = refl
lone_after s (X ∷ ss) = refl

pub lone_is : (ss : List State) → lone (partials ss) ≡ few 1 ss
lone_is [] = refl
lone_is (E ∷ ss) = lone_is ss
lone_is (F ∷ ss) = lone_is ss
lone_is (L ∷ ss) = lone_after L ss ∙ and-true (few 0 ss)
lone_is (R ∷ ss) = lone_after R ss ∙ and-false (few 0 ss)
lone_is (X ∷ ss) = lone_after X ss ∙ and-false (few 0 ss)

second : (b : Bool) (s : State) (ss : List State) → pair b (L ∷ (s ∷ partials ss)) ≡ few 0 ss && can_line s
second b s [] = refl
second b s (E ∷ ss) = second b s ss
second b s (F ∷ ss) = second b s ss
second b s (L ∷ ss) = refl
second b s (R ∷ ss) = refl
second b s (X ∷ ss) = refl

after_line : (b : Bool) (ss : List State) → pair b (L ∷ partials ss) ≡ few 1 ss
after_line true [] = refl
after_line false [] = refl
after_line b (E ∷ ss) = after_line b ss
after_line b (F ∷ ss) = after_line b ss
after_line b (L ∷ ss) = second b L ss ∙ and-true (few 0 ss)
after_line b (R ∷ ss) = second b R ss ∙ and-false (few 0 ss)
after_line b (X ∷ ss) = second b X ss ∙ and-false (few 0 ss)

-- An item with no line stands beside no partial one, and beside a full one neither.
after_other : (b : Bool) (m n : State) (ms : List State) → can_line m ≡ false → pair b (m ∷ (n ∷ ms)) ≡ false
after_other b m n [] h = rw h
after_other b m n (o ∷ ms) h = refl

beside_full : (m : State) (ms : List State) → can_line m ≡ false → pair false (m ∷ ms) ≡ false
beside_full m [] h = h
beside_full m (n ∷ ms) h = after_other false m n ms h

after_reduced : (ss : List State) → pair (no_full ss) (R ∷ partials ss) ≡ all_empty ss
after_reduced [] = refl
after_reduced (E ∷ ss) = after_reduced ss
after_reduced (F ∷ ss) = beside_full R (partials ss) refl
after_reduced (L ∷ ss) = after_other (no_full ss) R L (partials ss) refl
after_reduced (R ∷ ss) = after_other (no_full ss) R R (partials ss) refl
after_reduced (X ∷ ss) = after_other (no_full ss) R X (partials ss) refl

after_none : (b : Bool) (ms : List State) → pair b (X ∷ ms) ≡ false
after_none true [] = refl
after_none false [] = refl
after_none b (n ∷ ms) = after_other b X n ms refl

after_full : (ss : List State) → pair false (partials ss) ≡ few 2 ss
after_full [] = refl
after_full (E ∷ ss) = after_full ss
after_full (F ∷ ss) = after_full ss
after_full (L ∷ ss) = after_line false ss
after_full (R ∷ ss) = beside_full R (partials ss) refl
after_full (X ∷ ss) = beside_full X (partials ss) refl

pub pair_is : (ss : List State) → pair (no_full ss) (partials ss) ≡ gathers ss
pair_is [] = refl
pair_is (E ∷ ss) = pair_is ss
pair_is (F ∷ ss) = after_full ss
pair_is (L ∷ ss) = after_line (no_full ss) ss
pair_is (R ∷ ss) = after_reduced ss
pair_is (X ∷ ss) = after_none (no_full ss) (partials ss)
