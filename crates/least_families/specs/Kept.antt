-- What an operation keeps of the store and of what is held, and what it gives.
use Rattle.std.specs.Prelude.{◌≡◌, ℕ, Bool, List, Option}
use Rattle.zdd_nodes.specs.Nodes.{NodeId, Stored, family, IsFamilyNumber}
use Rattle.diagram_steps.specs.Putting.{Extends}
use Rattle.least_families.specs.declared.memo.Operation.{Operation}
use Rattle.least_families.specs.Least.{AreIncomparable, AreLeastUpTo}
use Rattle.least_families.specs.Held.{AreLeastHeld}

-- families were added, and each result that is held is its operation's again
pub record KeepsHeld (old : Stored) (entries : List (Operation × NodeId)) (new : Stored) : Type 0 where
  pub grows : Extends old new
  pub held : AreLeastHeld entries new.families

-- n is the number of a family of which no set lies within another
pub record IsOperand (s : Stored) (n : ℕ) : Type 0 where
  pub in_store : IsFamilyNumber s n
  pub apart : AreIncomparable (family s n)

-- n is the number of the family of the least sets of at most as many members as are asked for at which the test is true
pub record IsLeastOf (order : Option ℕ) (test : List ℕ → Bool) (s : Stored) (n : ℕ) : Type 0 where
  pub in_store : IsFamilyNumber s n
  pub least : AreLeastUpTo order test (family s n)
