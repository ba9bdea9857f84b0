-- What may still come after a state: the bytes that finish a text, by the forests that are yet to be printed.
use mathlib.Core.Path.{◌≡◌, refl}
use mathlib.Core.Bool.{true}
use mathlib.Core.List.{List, [], ◌∷◌, ◌++◌}
use Prim.Native.Nat.{ℕ, suc, ◌+◌, ◌-◌, ◌≤◌}
use native.Mathlib.Omega.{arith}
use lib.ListN.{length, length-append}
use Rattle.spec_orders.specs.Lists.{Rearranged, Pick}
use Rattle.spec_orders.specs.Tree.{Kind, Forest, nil, leaf, node, items, frontier}
use Rattle.spec_orders.specs.TreeText.{digits, letter, text, more, Forked}
use Rattle.spec_orders.proofs.Rearranged.{perm_length}
use Rattle.spec_orders.proofs.Forms.{nodes_bound}
use Rattle.text_scanner.specs.Scan.{TextState, lit, pre, open_due, due, num, after, need, closes, begun}

-- One forest for each open node, innermost first: its further items.
abbrev pub bytes : List Forest → List ℕ
bytes [] = []
bytes (f ∷ fs) = more f ++ (41 ∷ bytes fs)

abbrev pub frontiers : List Forest → List ℕ
frontiers [] = []
frontiers (f ∷ fs) = frontier f ++ frontiers fs

-- Every open node comes to two items or more.
abbrev pub Fits : List ℕ → List Forest → Type 0
Fits [] [] = Unit {0}
Fits [] (f ∷ fs) = ⊥
Fits (c ∷ cs) [] = ⊥
Fits (c ∷ cs) (f ∷ fs) = (c ≤ length (items f)) × Forked f × Fits cs fs

pub record Tail (cs l x : List ℕ) : Type 0 where
  pub fs : List Forest
  pub fits : Fits cs fs
  pub each : Rearranged l (frontiers fs)
  pub is : x ≡ bytes fs

pub record Due (c : ℕ) (cs l x : List ℕ) : Type 0 where
  pub f : Forest
  pub fs : List Forest
  pub has : 1 ≤ length (items f)
  pub two : c ≤ length (items f)
  pub good : Forked f
  pub fits : Fits cs fs
  pub each : Rearranged l (frontier f ++ frontiers fs)
  pub is : x ≡ text f ++ (41 ∷ bytes fs)

pub record Num (ds cs l x : List ℕ) : Type 0 where
  pub m : ℕ
  pub tail : List ℕ
  pub k : List ℕ
  pub y : List ℕ
  pub name : digits m ≡ ds ++ tail
  pub pick : Pick m l k
  pub is : x ≡ tail ++ y
  pub then : Tail cs k y

pub record Open (cs l x : List ℕ) : Type 0 where
  pub y : List ℕ
  pub is : x ≡ 40 ∷ y
  pub then : Due 2 cs l y

pub record Pre (ws l x : List ℕ) : Type 0 where
  pub k : Kind
  pub y : List ℕ
  pub is : x ≡ ws ++ (letter k ∷ y)
  pub then : Open [] l y

abbrev pub Lang : TextState → List ℕ → Type 0
Lang (lit ws) x = x ≡ ws
Lang (pre ws l) x = Pre ws l x
Lang (open_due cs l) x = Open cs l x
Lang (due c cs l) x = Due c cs l x
Lang (num ds c cs l) x = Num ds (c ∷ cs) l x
Lang (after cs l) x = Tail cs l x

-- A state that can be finished.
abbrev pub Viable : TextState → Type 0
Viable (lit ws) = Unit {0}
Viable (pre ws l) = 2 ≤ length l
Viable (open_due cs l) = 2 + need cs ≤ length l
Viable (due c cs l) = suc (need ((c - 1) ∷ cs)) ≤ length l
Viable (num ds c cs l) = (suc (need (c ∷ cs)) ≤ length l) × (begun ds l ≡ true)
Viable (after cs l) = (need cs ≤ length l) × (closes cs l ≡ true)

pub fits_need : (cs : List ℕ) (fs : List Forest) → Fits cs fs → need cs ≤ length (frontiers fs)
fits_need [] (f ∷ fs) h = elim h [ ]
fits_need (c ∷ cs) [] h = elim h [ ]
fits_need [] [] h = omega arith
fits_need (c ∷ cs) (f ∷ fs) h = simp length-append (omega (arith, nodes_bound f h.1, fits_need cs fs h.2))

-- What the scanner asks for is there.
pub due_need : {c : ℕ} {cs l x : List ℕ} → Due c cs l x → suc (need ((c - 1) ∷ cs)) ≤ length l
due_need {cs = cs} d = rw (perm_length d.each, length-append) (omega (arith, nodes_bound d.f d.good, fits_need cs d.fs d.fits))

pub open_need : {cs l x : List ℕ} → Open cs l x → 2 + need cs ≤ length l
open_need o = omega (arith, due_need o.then)

-- The first byte of an item that is due, and after an item.
pub more_text : (f : Forest) → 1 ≤ length (items f) → more f ≡ 32 ∷ text f
more_text nil h = absurd (omega arith)
more_text (leaf b f) h = refl
more_text (node k i f) h = refl
