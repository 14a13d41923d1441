-- Definitions beside those of Values, of which clauses inside the program speak: what the whole program promises does
-- not rest on them.
use Rattle.std.specs.Prelude.{◌≡◌, ◌<◌, ℕ, true, List, ◌++◌, length}
use Rattle.ar_base.specs.Lists.{IsOneOf}
use Rattle.eq_core.specs.Gates.{Operand, Always, Never, EventIs, GateIs, Gate}
use Rattle.eq_core.specs.Values.{value_at}

-- a gate that the operand names is one of the first so many
abbrev pub IsBelow : ℕ → Operand → Type 0
IsBelow n Always = Unit {0}
IsBelow n Never = Unit {0}
IsBelow n (EventIs e sign) = Unit {0}
IsBelow n (GateIs g sign) = g < n

-- the operand names no later gate, and is true at the set exactly where P holds
pub record IsTrueWhere (set : List ℕ) (gates : List Gate) (o : Operand) (P : Type 0) : Type 0 where
  pub below : IsBelow (length gates) o
  pub true_so : value_at gates o set ≡ true → P
  pub so_true : P → value_at gates o set ≡ true

-- the second list is the first with more gates
pub record GainsGates (old new : List Gate) : Type 0 where
  pub more : List Gate
  pub is : new ≡ old ++ more

-- each of the operands is true
pub record EachTrue (set : List ℕ) (gates : List Gate) (os : List Operand) : Type 0 where
  pub each : (o : Operand) → IsOneOf os o → value_at gates o set ≡ true

-- one of the operands is true
pub record OneTrue (set : List ℕ) (gates : List Gate) (os : List Operand) : Type 0 where
  pub operand : Operand
  pub is_one : IsOneOf os operand
  pub holds : value_at gates operand set ≡ true
