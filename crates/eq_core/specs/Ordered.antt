-- Gates in order: each is over events and earlier gates.
use Rattle.std.specs.Prelude.{◌<◌, ◌≤◌, ℕ, Bool, List, [], length}
use Rattle.ar_base.specs.Lists.{Stands, IsOneOf}
use Rattle.eq_core.specs.Gates.{Operand, Always, Never, EventIs, GateIs, Gate, Table, joined}
use Rattle.eq_core.specs.ValuesInside.{IsBelow}

-- the operand is an event, or one of the first so many gates
abbrev pub NamesEarlier : ℕ → Operand → Type 0
NamesEarlier n Always = ⊥
NamesEarlier n Never = ⊥
NamesEarlier n (EventIs e sign) = Unit {0}
NamesEarlier n (GateIs g sign) = g < n

-- each operand names one of the first so many gates, if any
pub record AreBelow (n : ℕ) (os : List Operand) : Type 0 where
  pub each : (o : Operand) → IsOneOf os o → IsBelow n o

-- the gate may be the one with this number: it has at least two operands, each an event or an earlier gate
pub record IsInPlace (n : ℕ) (gate : Gate) : Type 0 where
  pub two : 2 ≤ length gate.operands
  pub earlier : (o : Operand) → IsOneOf gate.operands o → NamesEarlier n o

-- each gate has at least two operands, each an event or an earlier gate
pub record AreOrdered (gates : List Gate) : Type 0 where
  pub each : (n : ℕ) (gate : Gate) → Stands gates n gate → IsInPlace n gate

-- the table's gates are in order, and a gate that its conflict or top operand names is one of them
pub record IsOrderedTable (table : Table) : Type 0 where
  pub gates : AreOrdered table.gates
  pub conflict : IsBelow (length table.gates) table.conflict
  pub top : IsBelow (length table.gates) table.top

-- of ordered gates, and operands that name no later ones, a joint makes ordered gates and an operand that names no
-- later one
abbrev pub JointsKeepOrder : Type 0
JointsKeepOrder = (both : Bool) (gates : List Gate) (os : List Operand) → AreOrdered gates → AreBelow (length gates) os
    → AreOrdered (joined both gates [] os).gates
    × IsBelow (length (joined both gates [] os).gates) (joined both gates [] os).operand
