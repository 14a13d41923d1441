-- What the operands and gates of the code stand for.
use Rattle.std.specs.Prelude.{Bool, true, false, List, map}
use Rattle.eq_core.specs.Gates as g
use Rattle.eq_core.specs.declared.joints.Joint.{Joint}
use Rattle.eq_core.specs.declared.joints.Joint.TheVariants.{And, Or}
use Rattle.eq_core.specs.declared.joints.Operand.{Operand}
use Rattle.eq_core.specs.declared.joints.Operand.TheVariants.{Always, Never, Event, Gate}
use Rattle.eq_core.specs.declared.joints.Gate as flat
use Rattle.eq_core.specs.declared.joints.Equations.{Equations}

-- whether all operands are needed
abbrev pub all_needed : Joint → Bool
all_needed And = true
all_needed Or = false

-- an operand as the definitions see it
abbrev pub operand_of : Operand → g.Operand
operand_of Always = g.Always
operand_of Never = g.Never
operand_of (Event e sign) = g.EventIs e.n sign
operand_of (Gate n sign) = g.GateIs n.n sign

-- a gate as the definitions see it
abbrev pub gate_of : flat.Gate → g.Gate
gate_of gate = record { both = all_needed gate.joint; operands = map operand_of gate.operands.items }

-- the gates of a table, and the table
abbrev pub gates_of : Equations → List g.Gate
gates_of equations = map gate_of equations.gates.items

abbrev pub table_of : Equations → g.Table
table_of equations = record {
  gates = gates_of equations;
  conflict = operand_of equations.conflict;
  top = operand_of equations.top;
}

-- an operand and all gates so far
abbrev pub made_of : Operand → List flat.Gate → g.Made
made_of o gates = record { operand = operand_of o; gates = map gate_of gates }
