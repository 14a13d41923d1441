-- A module with its parts.
use Rattle.ar_firing.specs.Listed.{AreListed}
use Rattle.zdd_nodes.specs.Families.{Family}
use Rattle.gate_modules.specs.Modules.{IsPartOfUnit, IsModule}
use Rattle.gate_modules.specs.declared.ranges.Range.{Range}

-- the unit is a module, and these are its parts
pub record IsModuleWith (f : Family) (r : Range) (parts : Family) : Type 0 where
  pub is_module : IsModule f r
  pub are_parts : AreListed (IsPartOfUnit f r) parts
