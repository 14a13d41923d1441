-- What stands before names in units.
use Rattle.std.specs.Prelude.{◌≡◌, ℕ, List, ◌∷◌}
use Rattle.ar_base.specs.Lists.{Stands}
use Rattle.ar_base.specs.Texts.{text_at}
use Rattle.hierarchy.specs.Models.{RootedModel}
use Rattle.hierarchy.specs.Paths.{prefix}
use Rattle.hierarchy.specs.Units.{UnitLevel, UnitPath}

-- the texts have, at the number of the unit above u, what stands before a name in that unit
pub record HasFrontAbove (m : RootedModel) (units : List UnitPath) (u : UnitPath) (texts : List (List ℕ)) : Type 0 where
  pub is : (l : UnitLevel) (above : UnitPath) (n : ℕ) → u ≡ l ∷ above → Stands units n above
      → text_at texts n ≡ prefix m above
