-- Where the pairs of each variable stand among pairs that ascend by variable.
use Rattle.std.specs.Prelude.{◌↔◌, ◌+◌, ◌<◌, ◌≤◌, ℕ, List, length}
use Rattle.ar_base.specs.Lists.{Stands, IsOneOf}
use Rattle.ar_base.specs.declared.numbers.Id.{Id}
use Rattle.ar_base.specs.declared.numbers.VarKind.{VarKind}
use Rattle.ar_base.specs.declared.numbers.AssignKind.{AssignKind}

-- a pair by its typed numbers
abbrev pub Reader : Type 0
Reader = Id VarKind × Id AssignKind

-- before this place stand the pairs of the variables of lesser numbers, and no others
pub record IsStart (pairs : List Reader) (x start : ℕ) : Type 0 where
  pub within : start ≤ length pairs
  pub before : (k : ℕ) (r : Reader) → Stands pairs k r → (k < start ↔ r.0.n < x)

-- the starts of all variables that stand in pairs, by number, and of the number after: the pairs of variable x stand
-- from
-- starts x up to starts (x + 1), and no others stand there
pub record AreRuns (pairs : List Reader) (starts : List ℕ) : Type 0 where
  pub each : (x start : ℕ) → Stands starts x start → IsStart pairs x start
  pub all : (r : Reader) → IsOneOf pairs r → r.0.n + 1 < length starts
