-- Definitions beside those of Numbers, of which clauses inside the program speak: what the whole program promises does
-- not rest on them.
use Rattle.std.specs.Prelude.{ℕ, List, map}
use Rattle.ar_base.specs.declared.numbers.Id.{Id}
use Rattle.ar_base.specs.declared.numbers.UnitKind.{UnitKind}
use Rattle.ar_base.specs.declared.numbers.EventKind.{EventKind}
use Rattle.ar_base.specs.declared.numbers.AssignKind.{AssignKind}
use Rattle.ar_base.specs.declared.numbers.GateKind.{GateKind}

-- the number of a unit
abbrev pub UnitId : Type 0
UnitId = Id UnitKind

-- the number of an event
abbrev pub EventId : Type 0
EventId = Id EventKind

-- the number of an assignment of an assertion
abbrev pub AssignId : Type 0
AssignId = Id AssignKind

-- the number of a gate
abbrev pub GateId : Type 0
GateId = Id GateKind

-- the numbers of these things, in their order
abbrev pub numbers_of : {K : Type 0} → List (Id K) → List ℕ
numbers_of {K} ids = map (λ (id : Id K). id.n) ids
