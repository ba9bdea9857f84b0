-- Document 01, "Aim": "Places run from 0 along the standard order."
use Rattle.std.specs.Prelude.{◌≡◌, ◌≢◌, cond, not, ◌&&◌, List, [], ◌∷◌, ◌++◌, ℕ, suc, ◌+◌, ◌-◌, ◌/◌, ◌%◌, ◌<◌, eqb, length, get_or}
use Rattle.spec_orders.specs.declared.Layout.{Layout}
use Rattle.spec_orders.specs.declared.Layout.TheVariants.{Ring, Rack}
use Rattle.spec_orders.specs.Lists.{count}
use Rattle.spec_orders.specs.CircularOrder.{Restriction, Consecutive}
use Rattle.spec_orders.specs.Layout.{Contiguous}

abbrev pub last_of : ℕ → List ℕ → ℕ
last_of b [] = b
last_of b (x ∷ xs) = last_of x xs

-- The first place, from p on, of a leaf in the group after one outside it; b stands before the list. 0 where there is none.
abbrev pub start_after : Restriction → ℕ → ℕ → List ℕ → ℕ
start_after G b p [] = 0
start_after G b p (x ∷ xs) = cond (G x && not (G b)) p (start_after G x (suc p) xs)

-- What stands before the first place: on a ring the last leaf; on a rack, which has no seam, the hidden end bin.
abbrev pub before_first : Layout → List ℕ → ℕ
before_first Ring ord = last_of 0 ord
before_first Rack ord = suc (length ord)

-- Where the run of a group that hangs together starts. "The whole ring starts at 0."
unfoldable pub run_start : Layout → Restriction → List ℕ → ℕ
run_start l G ord = start_after G (before_first l ord) 0 ord

-- The two places in the middle of "a run that starts at place s and has m bins", counted on past the last place. (`/` here rounds down.) They are side
-- by side where m is even, and "s + (m − 1) / 2" lies half way between them; where m is odd they are one, the exact middle.
abbrev pub lower_middle : ℕ → ℕ → ℕ
lower_middle s m = s + (m - 1) / 2

abbrev pub upper_middle : ℕ → ℕ → ℕ
upper_middle s m = s + m / 2

-- Document 02, No. 3: "Where s + (m − 1) / 2 lies, taken modulo n, half way between two places, the one with the even number is taken. Between the
-- last place and place 0, it is 0. An exact middle is taken as before, modulo n." Here b is the place after a, or both are the exact middle.
unfoldable pub rounded : ℕ → ℕ → ℕ
rounded a b = cond (eqb b 0) 0 (cond (eqb (a % 2) 0) a b)

-- The place of the aim, of a run that starts at place s and has m leaves: round the n places of a ring; document 02, No. 6: on a rack "the aim takes the
-- rule of No. 3 without a seam".
abbrev pub aim_place : Layout → ℕ → ℕ → ℕ → ℕ
aim_place Ring n s m = rounded (lower_middle s m % n) (upper_middle s m % n)
aim_place Rack n s m = rounded (lower_middle s m) (upper_middle s m)

-- The aim of a group that hangs together in the order: the leaf at that place.
unfoldable pub aim_of : Layout → Restriction → List ℕ → ℕ
aim_of l G ord = get_or ord (aim_place l (length ord) (run_start l G ord) (count G ord)) 0

-- The middle without a formula, for a leaf at this place; `next` is the place after it. `before` and `after` count the run's leaves on either side of
-- it. They are equal; or one is one more, and then the place is even, and not the last one where the other middle is place 0.
pub data Middle (place next before after : ℕ) : Type 0 where
  exact : before ≡ after → Middle place next before after
  lower : suc before ≡ after → place % 2 ≡ 0 → next ≢ 0 → Middle place next before after
  upper : before ≡ suc after → place % 2 ≡ 0 → Middle place next before after

-- The run of a group that is consecutive in the order. It starts at a place of the order; "the whole ring starts at 0".
pub record GroupRun (G : Restriction) (ord : List ℕ) : Type 0 where
  pub turn : Consecutive G ord
  pub starts : length turn.before < length ord
  pub whole : turn.rest ≡ [] → turn.before ≡ []

-- The leaf b, at this place, stands in the middle of the group's run; `left` and `right` are the run's leaves before it and after it.
pub record Aimed (G : Restriction) (ord : List ℕ) (b : ℕ) : Type 0 where
  pub run : GroupRun G ord
  pub left : List ℕ
  pub right : List ℕ
  pub leaves : run.turn.run ≡ left ++ (b ∷ right)
  pub place : ℕ
  pub at : place ≡ (length run.turn.before + length left) % length ord
  pub middle : Middle place ((place + 1) % length ord) (length left) (length right)

-- The same on a rack, where no place follows the last one.
pub record AimedStraight (G : Restriction) (ord : List ℕ) (b : ℕ) : Type 0 where
  pub run : Contiguous G ord
  pub left : List ℕ
  pub right : List ℕ
  pub leaves : run.run ≡ left ++ (b ∷ right)
  pub place : ℕ
  pub at : place ≡ length run.left + length left
  pub middle : Middle place (place + 1) (length left) (length right)

abbrev pub AimedOn : Layout → Restriction → List ℕ → ℕ → Type 0
AimedOn Ring G ord b = Aimed G ord b
AimedOn Rack G ord b = AimedStraight G ord b
