-- Gates over events, and how lists of operands become gates.
use Rattle.std.specs.Prelude.{ℕ, Bool, true, false, not, List, [], ◌∷◌, ◌++◌, length}

-- always or never true, an event or a gate, by number; the sign is true for a plain one and false for a negated one
pub data Operand : Type 0 where
  Always : Operand
  Never : Operand
  EventIs : (event : ℕ) → (sign : Bool) → Operand
  GateIs : (gate : ℕ) → (sign : Bool) → Operand

-- a gate over its operands: where `both` is true all of them are needed, else one
pub record Gate : Type 0 where
  pub both : Bool
  pub operands : List Operand

-- gates, and the operands that are true at a conflict and where the wanted value is observed
pub record Table : Type 0 where
  pub gates : List Gate
  pub conflict : Operand
  pub top : Operand

-- the opposite of an operand
abbrev pub opposite : Operand → Operand
opposite Always = Never
opposite Never = Always
opposite (EventIs e sign) = EventIs e (not sign)
opposite (GateIs g sign) = GateIs g (not sign)

-- what leaves a joint of this kind as it is: Always where all operands are needed, Never where one is
abbrev pub neutral : Bool → Operand
neutral true = Always
neutral false = Never

-- an operand and all gates so far
pub record Made : Type 0 where
  pub operand : Operand
  pub gates : List Gate

-- what is left of the operands becomes itself, or a gate of its own behind the others
abbrev pub closed_as : Bool → List Gate → List Operand → Made
closed_as both gates [] = record { operand = neutral both; gates = gates }
closed_as both gates (o ∷ []) = record { operand = o; gates = gates }
closed_as both gates (o ∷ p ∷ os) = record {
  operand = GateIs (length gates) true;
  gates = gates ++ record { both = both; operands = o ∷ p ∷ os } ∷ [];
}

-- the operands before are kept; a neutral one is dropped, and its opposite decides the whole
abbrev pub joined : Bool → List Gate → List Operand → List Operand → Made
joined both gates kept [] = closed_as both gates kept
joined true gates kept (Always ∷ os) = joined true gates kept os
joined false gates kept (Always ∷ os) = record { operand = Always; gates = gates }
joined true gates kept (Never ∷ os) = record { operand = Never; gates = gates }
joined false gates kept (Never ∷ os) = joined false gates kept os
joined both gates kept (EventIs e sign ∷ os) = joined both gates (kept ++ EventIs e sign ∷ []) os
joined both gates kept (GateIs g sign ∷ os) = joined both gates (kept ++ GateIs g sign ∷ []) os

-- all of the operands
abbrev pub all_of : List Gate → List Operand → Made
all_of gates os = joined true gates [] os

-- one of the operands
abbrev pub any_of : List Gate → List Operand → Made
any_of gates os = joined false gates [] os
