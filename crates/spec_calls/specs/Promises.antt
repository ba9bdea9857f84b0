-- What each call promises: what it returns, in the paper's numbers, and every lent table follow from the call's definition; and the
-- demand on it. First comes what is lent, then the tables as they are left, last what is returned.
use Rattle.std.specs.Prelude.{◌≡◌, List, ℕ}
use Rattle.spec_orders.specs.declared.Layout.{Layout}
use Rattle.spec_calls.specs.Tables.{Nodes, Book}
use Rattle.spec_calls.specs.Refusals.{Reply}
use Rattle.spec_calls.specs.Calls.{changed_as, filled_as, open_call, join_call, trial_call, order_call, aim_call, write_call, ReadCall, conflict_call, intersect_call, test_load_call}
use Rattle.spec_calls.specs.Demands.{JoinDemand, TrialDemand, OrderDemand, ConflictDemand, IntersectDemand}

abbrev pub OpenPromise : Nodes → Book → List ℕ → Book → Reply → Type 0
OpenPromise nodes book rows' book' said = changed_as said rows' book' ≡ open_call nodes book

abbrev pub JoinPromise : Nodes → Book → List ℕ → List ℕ → Book → Reply → Type 0
JoinPromise nodes book list rows' book' said = (changed_as said rows' book' ≡ join_call nodes book list) × JoinDemand nodes book list said rows'

abbrev pub TrialPromise : Nodes → Book → List ℕ → Reply → Type 0
TrialPromise nodes book list said = (said ≡ trial_call nodes book list) × TrialDemand nodes book list said

abbrev pub OrderPromise : Nodes → List ℕ → List ℕ → Reply → Type 0
OrderPromise nodes order order' said = (filled_as said order' ≡ order_call nodes order) × OrderDemand nodes order order'

abbrev pub AimPromise : Nodes → Book → ℕ → Reply → Type 0
AimPromise nodes book group said = said ≡ aim_call nodes book group

abbrev pub WritePromise : Nodes → List ℕ → List ℕ → Reply → Type 0
WritePromise nodes bytes bytes' said = filled_as said bytes' ≡ write_call nodes bytes

abbrev pub ReadPromise : Nodes → Book → List ℕ → List ℕ → Book → Reply → Type 0
ReadPromise nodes book text rows' book' said = ReadCall nodes book text (changed_as said rows' book')

abbrev pub ConflictPromise : Layout → ℕ → Book → List ℕ → List ℕ → List ℕ → Reply → Type 0
ConflictPromise layout n book list conflicts conflicts' said =
    (filled_as said conflicts' ≡ conflict_call layout n book list conflicts) × ConflictDemand layout n book list conflicts said conflicts'

abbrev pub IntersectPromise : Nodes → Nodes → Nodes → List ℕ → Reply → Type 0
IntersectPromise nodes other third third' said = (filled_as said third' ≡ intersect_call nodes other third) × IntersectDemand nodes other third said third'

abbrev pub TestLoadPromise : ℕ → ℕ → ℕ → List ℕ → List ℕ → Reply → Type 0
TestLoadPromise n seed groups bytes bytes' said = filled_as said bytes' ≡ test_load_call n seed groups bytes
