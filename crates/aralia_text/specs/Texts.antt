-- The text of a table of gates, over the texts of the events by number.
use Rattle.std.specs.Prelude.{ℕ, ◌+◌, Bool, true, false, List, [], ◌∷◌, ◌++◌, codes, decimal}
use Rattle.ar_base.specs.Texts.{text_at}
use Rattle.eq_core.specs.Gates.{Operand, Always, Never, EventIs, GateIs, Gate, Table}

-- `-` before what is negated
abbrev pub sign_text : Bool → List ℕ
sign_text true = []
sign_text false = codes "-"

-- a gate is named by its number, from 1
abbrev pub gate_name : ℕ → List ℕ
gate_name n = codes "g" ++ decimal (n + 1)

-- an event is named by its text behind `e.`
abbrev pub operand_text : List (List ℕ) → Operand → List ℕ
operand_text events Always = codes "true"
operand_text events Never = codes "false"
operand_text events (EventIs e sign) = sign_text sign ++ (codes "e." ++ text_at events e)
operand_text events (GateIs g sign) = sign_text sign ++ gate_name g

-- what stands between two operands: ` & ` where all are needed, and ` | ` where one is
abbrev pub joint_text : Bool → List ℕ
joint_text true = codes " & "
joint_text false = codes " | "

-- each operand behind what joins it to those before
abbrev pub more_text : List (List ℕ) → Bool → List Operand → List ℕ
more_text events both [] = []
more_text events both (o ∷ os) = (joint_text both ++ operand_text events o) ++ more_text events both os

-- the operands of a gate
abbrev pub operands_text : List (List ℕ) → Bool → List Operand → List ℕ
operands_text events both [] = []
operands_text events both (o ∷ os) = operand_text events o ++ more_text events both os

-- the line of a gate: `NAME := OPERAND & OPERAND;`
abbrev pub gate_line : List (List ℕ) → ℕ → Gate → List ℕ
gate_line events n gate = gate_name n ++ (codes " := " ++ (operands_text events gate.both gate.operands ++ codes ";\n"))

-- the lines of gates, the first of which has this number
abbrev pub gate_lines : List (List ℕ) → ℕ → List Gate → List ℕ
gate_lines events n [] = []
gate_lines events n (gate ∷ gates) = gate_line events n gate ++ gate_lines events (n + 1) gates

-- the two last lines
abbrev pub last_lines : List (List ℕ) → Operand → Operand → List ℕ
last_lines events conflict top =
    codes "conflict := " ++ (operand_text events
    conflict ++ (codes ";\ntop := " ++ (operand_text events top ++ codes ";\n")))

-- the whole text: the lines of the gates, and then `conflict := OPERAND;` and `top := OPERAND;`
abbrev pub equations_text : List (List ℕ) → Table → List ℕ
equations_text events table = gate_lines events 0 table.gates ++ last_lines events table.conflict table.top
