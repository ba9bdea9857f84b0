-- Document 02, No. 7: a test load from one number. Its state, draws, places, groups and bytes, in the paper's sequence.
use Rattle.std.specs.Prelude.{Bool, true, false, List, [], ◌∷◌, ◌++◌, map, ℕ, zero, suc, ◌+◌, ◌-◌, ◌*◌, ◌/◌, ◌%◌, ◌^◌, take, drop, get_or, set}
use Rattle.std.specs.Int.Bits.{bit_xor}
use Rattle.spec_orders.specs.Lists.{elem, numbers_from}
use Rattle.spec_orders.specs.TreeText.{digits}
use Rattle.file_syntax.specs.RingFile.{Value, off, on, file_bytes}

-- "A nonzero 32-bit state is combined by exclusive or with itself shifted left 13, then right 17, then left 5, bits beyond 32 dropped."
abbrev pub left : ℕ → ℕ → ℕ
left k x = x * 2 ^ k % 2 ^ 32

abbrev pub right : ℕ → ℕ → ℕ
right k x = x / 2 ^ k

abbrev pub combined : (ℕ → ℕ) → ℕ → ℕ
combined shifted x = bit_xor x (shifted x)

unfoldable pub next_state : ℕ → ℕ
next_state x = combined (left 5) (combined (right 17) (combined (left 13) x))

-- The state after so many draws.
unfoldable pub state_after : ℕ → ℕ → ℕ
state_after zero x = x
state_after (suc draws) x = state_after draws (next_state x)

-- "Each draw hands back the generator's next state with the number, which is that state modulo k, plus 1": the number drawn in the state x.
unfoldable pub drawn : ℕ → ℕ → ℕ
drawn x k = next_state x % k + 1

-- What stands at two places, numbered from 1, exchanged.
unfoldable pub exchanged : ℕ → ℕ → List ℕ → List ℕ
exchanged p q l = set (set l (p - 1) (get_or l (q - 1) 0)) (q - 1) (get_or l (p - 1) 0)

-- "For i from n down to 2, place i is exchanged with the place drawn from k = i": n - 1 draws, from the state x on.
unfoldable pub shuffled : ℕ → ℕ → List ℕ → List ℕ
shuffled zero x l = l
shuffled (suc zero) x l = l
shuffled (suc (suc i)) x l = shuffled (suc i) (next_state x) (exchanged (suc (suc i)) (drawn x (suc (suc i))) l)

-- "Places 1 to n start with bins 1 to n."
unfoldable pub circle : ℕ → ℕ → List ℕ
circle n seed = shuffled n seed (numbers_from 1 n)

-- So many bins from a start place on, "round the circle".
unfoldable pub run : List ℕ → ℕ → ℕ → List ℕ
run places start many = take many (drop (start - 1) places ++ take (start - 1) places)

-- "Each group then takes a start place and a length, drawn in that order with k = n": so many groups, from the state x on.
unfoldable pub runs : List ℕ → ℕ → ℕ → ℕ → List (List ℕ)
runs places n zero x = []
runs places n (suc groups) x = run places (drawn x n) (drawn (next_state x) n) ∷ runs places n groups (state_after 2 x)

-- The groups of the load of n bins.
unfoldable pub load : ℕ → ℕ → ℕ → List (List ℕ)
load n seed groups = runs (circle n seed) n groups (state_after (n - 1) seed)

-- "The output is a ring file with bin numbers as names and no hyphens."
unfoldable pub bin_names : ℕ → List (List ℕ)
bin_names n = map digits (numbers_from 1 n)

abbrev pub value_of : Bool → Value
value_of true = on
value_of false = off

unfoldable pub values : ℕ → List ℕ → List Value
values n group = map (λ b. value_of (elem group b)) (numbers_from 1 n)

unfoldable pub load_file : ℕ → ℕ → ℕ → List ℕ
load_file n seed groups = file_bytes (bin_names n) (map (values n) (load n seed groups))
