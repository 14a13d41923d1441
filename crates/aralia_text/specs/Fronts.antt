-- What the functions that look at the front of a text say.
use Rattle.std.specs.Prelude.{◌≡◌, ◌<◌, ◌≤◌, ℕ, ◌+◌, ◌*◌, ◌^◌, Bool, false, ◌==◌, List, [], ◌∷◌, ◌++◌, codes, decimal, length, take, drop}
use Rattle.ar_base.specs.Texts.{text_at}
use Rattle.ar_base.specs.Lists.{Stands, IsOneOf, AreDifferent}
use Rattle.eq_core.specs.Gates.{Operand, Gate, Table}
use Rattle.eq_core.specs.Ordered.{NamesEarlier, AreOrdered}
use Rattle.eq_core.specs.ValuesInside.{IsBelow}
use Rattle.aralia_text.specs.Texts.{operand_text, joint_text, gate_name, operands_text, gate_lines, last_lines, equations_text}
use Rattle.aralia_text.specs.Readings as r

-- What may stand behind what is sought

-- no path goes on here
abbrev pub PathStops : List ℕ → Type 0
PathStops [] = Unit {0}
PathStops (b ∷ bs) = r.is_path_byte b ≡ false

-- anything
abbrev pub IsAny : List ℕ → Type 0
IsAny back = Unit {0}

-- the end of the text
abbrev pub IsEnd : List ℕ → Type 0
IsEnd back = back ≡ []

-- this byte stands first
abbrev pub begins_with : ℕ → List ℕ → Bool
begins_with c [] = false
begins_with c (b ∷ bs) = b == c

-- the same byte stands first in both, or both end here
abbrev pub BeginAlike : List ℕ → List ℕ → Type 0
BeginAlike [] [] = Unit {0}
BeginAlike [] (c ∷ cs) = ⊥
BeginAlike (b ∷ bs) [] = ⊥
BeginAlike (b ∷ bs) (c ∷ cs) = b ≡ c

-- Reading

-- Of what is sought, this stands at the front, with what is left behind it; nothing else does, whatever stands behind
-- the next byte.
pub record IsRead {A : Type 0} (Sought : A → Type 0) (text : A → List ℕ) (Ends : List ℕ → Type 0) (rest : List ℕ)
    (a : A) (left : List ℕ) : Type 0 where
  pub sought : Sought a
  pub joined : rest ≡ text a ++ left
  pub only : (b : A) (back other : List ℕ) → Sought b → Ends back → BeginAlike left other
      → text a ++ other ≡ text b ++ back → (b ≡ a) × (back ≡ other)

-- the bytes are none, or the first part of the text of something that is sought
pub data AreBegun {A : Type 0} (Sought : A → Type 0) (text : A → List ℕ) (front : List ℕ) : Type 0 where
  none : front ≡ [] → AreBegun Sought text front
  part : (a : A) (more : List ℕ) → Sought a → text a ≡ front ++ more → AreBegun Sought text front

-- Nothing that is sought stands at the front: the bytes before the last so many are a first part of something that is
-- sought, and with the byte behind them, or with the end, they are no more.
pub record IsStuck {A : Type 0} (Sought : A → Type 0) (text : A → List ℕ) (Ends : List ℕ → Type 0) (rest : List ℕ)
    (last : ℕ) : Type 0 where
  pub front : List ℕ
  pub left : List ℕ
  pub joined : rest ≡ front ++ left
  pub count : length left ≡ last
  pub begun : AreBegun Sought text front
  pub wrong : (a : A) (back other : List ℕ) → Sought a → Ends back → BeginAlike left other
      → front ++ other ≡ text a ++ back → ⊥

-- so it is of a fixed text
abbrev pub IsStuckIn : List ℕ → List ℕ → ℕ → Type 0
IsStuckIn text = IsStuck {A = Unit {0}} (λ one. Unit {0}) (λ one. text) IsAny

-- Of two texts so many bytes at the front are the same, and no more.
pub record AreCommon (a b : List ℕ) (n : ℕ) : Type 0 where
  pub in_a : n ≤ length a
  pub in_b : n ≤ length b
  pub same : take n a ≡ take n b
  pub most : (front : List ℕ) (c : ℕ) (x y : List ℕ) → a ≡ front ++ c ∷ x → b ≡ front ++ c ∷ y → length front < n

-- Events, gates and operands

-- a table of the texts of events
pub record AreEventTexts (events : List (List ℕ)) : Type 0 where
  pub different : AreDifferent events
  pub few : length events < 2 ^ 32

abbrev pub IsPathOf : List (List ℕ) → ℕ → Type 0
IsPathOf events e = r.HasPathText events e

-- the name of an event
abbrev pub event_text : List (List ℕ) → ℕ → List ℕ
event_text events e = codes "e." ++ text_at events e

-- no event stands at the front
pub record HasNoEvent (events : List (List ℕ)) (rest : List ℕ) : Type 0 where
  pub none : (e : ℕ) (back : List ℕ) → IsPathOf events e → PathStops back → rest ≡ event_text events e ++ back → ⊥

-- So many bytes at the front are a first part of the name of an event, and no more are.
pub record IsEventPart (events : List (List ℕ)) (rest : List ℕ) (n : ℕ) : Type 0 where
  pub within : n ≤ length rest
  pub begun : AreBegun (IsPathOf events) (event_text events) (take n rest)
  pub most : (e : ℕ) → IsPathOf events e → (front : List ℕ) (c : ℕ) (x y : List ℕ) → rest ≡ front ++ c ∷ x
      → event_text events e ≡ front ++ c ∷ y → length front < n

-- a gate of so many
abbrev pub IsBelowGate : ℕ → ℕ → Type 0
IsBelowGate gates g = g < gates

-- the number, which is above 0 and at most `gates`, with one digit more
pub record IsNumberWith (gates value byte more : ℕ) : Type 0 where
  pub digit : ℕ
  pub small : digit < 10
  pub is : byte ≡ 48 + digit
  pub more_is : more ≡ value * 10 + digit
  pub some : 0 < more
  pub within : more ≤ gates

-- So many digits at the front write the number, which is at most `gates`; none write 0. The next byte goes on with no
-- such number.
pub record AreDigits (gates : ℕ) (rest : List ℕ) (value n : ℕ) : Type 0 where
  pub within : n ≤ length rest
  pub below : value ≤ gates
  pub none : n ≡ 0 → value ≡ 0
  pub some : 0 < n → (0 < value) × (take n rest ≡ decimal value)
  pub most : (c : ℕ) (x : List ℕ) (more : ℕ) → drop n rest ≡ c ∷ x → IsNumberWith gates value c more → ⊥

-- an event or one of so many gates
pub record IsOperandAt (gates : ℕ) (events : List (List ℕ)) (o : Operand) : Type 0 where
  pub earlier : NamesEarlier gates o
  pub named : r.HasEventText events o

-- there is an operand for a gate
abbrev pub HasOperand : ℕ → List (List ℕ) → Type 0
HasOperand gates events = (o : Operand) × IsOperandAt gates events o

-- no `-` stands at the front
abbrev pub HasNoMinus : List ℕ → Type 0
HasNoMinus rest = begins_with 45 rest ≡ false

-- what joins an operand to those before, and the operand
abbrev pub next_text : List (List ℕ) → Bool → Operand → List ℕ
next_text events both o = joint_text both ++ operand_text events o

-- all joints are sought
abbrev pub IsSoughtJoint : Bool → Type 0
IsSoughtJoint both = Unit {0}

-- a gate over at least two operands, each an event or one of so many gates
pub record IsGateAt (gates : ℕ) (events : List (List ℕ)) (gate : Gate) : Type 0 where
  pub two : 2 ≤ length gate.operands
  pub each : (o : Operand) → IsOneOf gate.operands o → IsOperandAt gates events o

-- the name of a gate, and `:=`
abbrev pub header_text : ℕ → List ℕ
header_text n = gate_name n ++ codes " := "

-- the operands of a gate up to the end of its line
abbrev pub operands_line : List (List ℕ) → Gate → List ℕ
operands_line events gate = operands_text events gate.both gate.operands ++ codes ";\n"

-- always or never true, an event or one of so many gates
pub record IsLastAt (gates : ℕ) (events : List (List ℕ)) (o : Operand) : Type 0 where
  pub below : IsBelow gates o
  pub named : r.HasEventText events o

-- the conflict operand and the top operand
pub record Last : Type 0 where
  pub conflict : Operand
  pub top : Operand

abbrev pub last_of : Operand → Operand → Last
last_of conflict top = record { conflict = conflict; top = top }

-- both are such operands
pub record AreLast (gates : ℕ) (events : List (List ℕ)) (last : Last) : Type 0 where
  pub conflict : IsLastAt gates events last.conflict
  pub top : IsLastAt gates events last.top

-- the two last lines
abbrev pub last_text : List (List ℕ) → Last → List ℕ
last_text events last = last_lines events last.conflict last.top

-- Tables

-- a table that has a text
abbrev pub HasTableText : List (List ℕ) → Table → Type 0
HasTableText events table = r.IsTextOf events (equations_text events table) table

-- a table goes on so behind these gates
pub record TableGoesOn (events : List (List ℕ)) (gates : List Gate) (left : List ℕ) (table : Table) : Type 0 where
  pub more : List Gate
  pub gates_is : table.gates ≡ gates ++ more
  pub left_is : left ≡ gate_lines events (length gates) more ++ last_lines events table.conflict table.top

-- these gates were read, and each table that begins with their lines goes on behind them
pub record AreRead (events : List (List ℕ)) (text : List ℕ) (gates : List Gate) (left : List ℕ) : Type 0 where
  pub ordered : AreOrdered gates
  pub named : (n : ℕ) (gate : Gate) → Stands gates n gate → r.HaveEventTexts events gate
  pub joined : text ≡ gate_lines events 0 gates ++ left
  pub few : length gates + length left ≤ length text
  pub only : (table : Table) (other : List ℕ) → HasTableText events table → BeginAlike left other
      → gate_lines events 0 gates ++ other ≡ equations_text events table → TableGoesOn events gates other table

-- no further gate stands there
abbrev pub HasNoGate : List ℕ → Type 0
HasNoGate left = begins_with 103 left ≡ false

-- the text is that of this table alone
abbrev pub IsOnlyTable : List (List ℕ) → List ℕ → Table → Type 0
IsOnlyTable events text table = IsRead (HasTableText events) (equations_text events) IsEnd text table []

-- the text is stuck before the last so many bytes
abbrev pub IsNoTable : List (List ℕ) → List ℕ → ℕ → Type 0
IsNoTable events = IsStuck (HasTableText events) (equations_text events) IsEnd
