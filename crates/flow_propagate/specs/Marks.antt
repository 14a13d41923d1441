-- Numbers that are marked.
use Rattle.std.specs.Prelude.{◌↔◌, ℕ, true, Bool, List}
use Rattle.ar_base.specs.Lists.{Stands, IsOneOf}

-- the numbers of the list are those that are marked
pub record AreMarked (marks : List Bool) (found : List ℕ) : Type 0 where
  pub each : (n : ℕ) → (IsOneOf found n ↔ Stands marks n true)
